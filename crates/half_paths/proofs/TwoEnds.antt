-- Paths put in and cut at their two ends, and closed.
use Rattle.std.proofs.Common.{◌≡◌, ◌≢◌, if◌then◌else◌, sym, ap, ◌∙◌}
use Rattle.half_table.specs.declared.half.Half.{Half}
use Rattle.half_table.specs.Half.{twin, is_half}
use Rattle.half_table.specs.Cycle.{exchanged}
use Rattle.half_table.specs.Rows.{HalfRows, next, prev, IsLinked}
use Rattle.half_table.specs.Surgery.{IsSpliced}
use Rattle.half_table.proofs.Halves.{is_half-other, other-is_half, twin-twin, is_half-turned, exchanged-first, exchanged-second, exchanged-other, exchanged-twice}
use Rattle.half_paths.specs.Redirect.{redirect}
use Rattle.half_paths.proofs.Along.{splice-next}
use Rattle.half_paths.proofs.Redirected.{changed-back}
use Rattle.half_paths.specs.Ends.{put, CanPut, cut, CanCut, IsPut, closed, opened}

-- two exchanges put a path in
pub put-is : (before beyond first last : Half) (f : Half → Half) → CanPut before beyond first last f
    → exchanged last beyond (exchanged before (twin first) f) ≡ redirect (put before beyond first last f) f
put-is before beyond first last f c = λ i g.
    if is_half g last then at_beyond i else (if is_half g beyond then at_last i else (if is_half g before then c.first_free i else (if is_half g (twin first) then f before else f g)))
  where
    at_beyond : exchanged before (twin first) f beyond ≡ f beyond
    at_beyond = exchanged-other f before (twin first) beyond c.two c.beyond_first

    at_last : exchanged before (twin first) f last ≡ twin last
    at_last = exchanged-other f before (twin first) last c.last_before c.last_first ∙ c.last_free

-- two exchanges cut a path out
pub cut-is : (before beyond first last : Half) (f : Half → Half) → IsPut before beyond first last f → CanCut first last f
    → exchanged before (twin first) (exchanged last beyond f) ≡ redirect (cut before beyond first last f) f
cut-is before beyond first last f p c = λ i g.
    if is_half g before then at_first i else (if is_half g (twin first) then at_before i else (if is_half g last then p.returns i else (if is_half g beyond then f last else f g)))
  where
    apart : first ≢ twin last
    apart = other-is_half first (twin last) c.two

    at_first : exchanged last beyond f (twin first) ≡ f (twin first)
    at_first = exchanged-other f last beyond (twin first)
        (is_half-other (twin first) last (λ e. apart (sym (twin-twin first) ∙ ap twin e)))
        (is_half-other (twin first) beyond (λ e. other-is_half (f (twin first)) (twin last) c.no_ring_back (ap f e ∙ p.returns)))

    at_before : exchanged last beyond f before ≡ first
    at_before = exchanged-other f last beyond before
        (is_half-other before last (λ e. other-is_half (f last) first c.no_ring (ap f (sym e) ∙ p.enters)))
        (is_half-other before beyond (λ e. apart (sym p.enters ∙ ap f e ∙ p.returns)))
        ∙ p.enters

-- two exchanges in the other order undo
undone : (a b c d : Half) (f : Half → Half) (g : Half) → exchanged a b (exchanged c d (exchanged c d (exchanged a b f))) g ≡ f g
undone a b c d f g = (λ i. exchanged a b (λ h. exchanged-twice (exchanged a b f) c d h i) g) ∙ exchanged-twice f a b g

-- what was cut out is put in again
pub put-back : (before beyond first last : Half) (now f : Half → Half) → IsPut before beyond first last f → CanCut first last f
    → ((g : Half) → now g ≡ redirect (cut before beyond first last f) f g)
    → (g : Half) → exchanged last beyond (exchanged before (twin first) now) g ≡ f g
put-back before beyond first last now f p c same g =
    ap (λ n. exchanged last beyond (exchanged before (twin first) n) g) ((λ i q. same q i) ∙ sym (cut-is before beyond first last f p c))
    ∙ undone last beyond before (twin first) f g

-- one exchange closes
pub closed-is : (first last : Half) (f : Half → Half) → f (twin first) ≡ first → f last ≡ twin last → exchanged last (twin first) f ≡ redirect (closed first last) f
closed-is first last f one two = λ i g. if is_half g last then one i else (if is_half g (twin first) then two i else f g)

-- and the same one opens
pub opened-is : (first last : Half) (f : Half → Half) → f last ≡ first → f (twin first) ≡ twin last → exchanged last (twin first) f ≡ redirect (opened first last) f
opened-is first last f one two = λ i g. if is_half g last then two i else (if is_half g (twin first) then one i else f g)

-- one exchange after the other changes nothing, by whatever name the first goes
pub exchanged-back : (first last : Half) (old : Half → Half) {now new changed : Half → Half} → ((g : Half) → new g ≡ exchanged last (twin first) now g)
    → exchanged last (twin first) old ≡ changed → ((g : Half) → now g ≡ changed g) → (g : Half) → new g ≡ old g
exchanged-back first last old made is same =
    changed-back (exchanged last (twin first)) made (λ g. same g ∙ ap (λ f. f g) (sym is)) (exchanged-twice old last (twin first))

-- where a path was put in, it is entered there
put-enters : (before beyond first last : Half) (f : Half → Half) → CanPut before beyond first last f
    → exchanged last beyond (exchanged before (twin first) f) before ≡ first
put-enters before beyond first last f c =
    exchanged-other (exchanged before (twin first) f) last beyond before (is_half-turned last before c.last_before) (is_half-turned beyond before c.two)
    ∙ exchanged-first f before (twin first) ∙ c.first_free

put-returns : (before beyond first last : Half) (f : Half → Half) → CanPut before beyond first last f
    → exchanged last beyond (exchanged before (twin first) f) beyond ≡ twin last
put-returns before beyond first last f c =
    exchanged-second (exchanged before (twin first) f) last beyond
    ∙ exchanged-other f before (twin first) last c.last_before c.last_first ∙ c.last_free

-- the two splices of a cut
pub cut-next : (r s t : HalfRows) (first last x y : Half) → IsSpliced last y r s → IsSpliced x (twin first) s t → x ≡ prev r first → y ≡ prev r (twin last)
    → next t ≡ exchanged (prev r first) (twin first) (exchanged last (prev r (twin last)) (next r))
cut-next r s t first last x y one two is_x is_y =
    splice-next s t x (twin first) two ∙ (λ j. exchanged (is_x j) (twin first) ((splice-next r s last y one ∙ ap (λ b. exchanged last b (next r)) is_y) j))

-- the two splices of a put
pub put-next : (r s t : HalfRows) (before beyond first last : Half) → IsSpliced before (twin first) r s → IsSpliced last beyond s t
    → next t ≡ exchanged last beyond (exchanged before (twin first) (next r))
put-next r s t before beyond first last one two =
    splice-next s t last beyond two ∙ ap (exchanged last beyond) (splice-next r s before (twin first) one)

-- what was put in is cut out again
pub cut-back : (r : HalfRows) (before beyond first last : Half) (f : Half → Half) → IsLinked r → CanPut before beyond first last f
    → ((g : Half) → next r g ≡ redirect (put before beyond first last f) f g)
    → (g : Half) → exchanged (prev r first) (twin first) (exchanged last (prev r (twin last)) (next r)) g ≡ f g
cut-back r before beyond first last f linked can same g =
    let whole : next r ≡ exchanged last beyond (exchanged before (twin first) f) = (λ i q. same q i) ∙ sym (put-is before beyond first last f can) in
    let enters : next r before ≡ first = ap (λ n. n before) whole ∙ put-enters before beyond first last f can in
    let returns : next r beyond ≡ twin last = ap (λ n. n beyond) whole ∙ put-returns before beyond first last f can in
    let is_before : prev r first ≡ before = ap (prev r) (sym enters) ∙ linked.prev_next before in
    let is_beyond : prev r (twin last) ≡ beyond = ap (prev r) (sym returns) ∙ linked.prev_next beyond in
    (λ i. exchanged (is_before i) (twin first) (exchanged last (is_beyond i) (whole i)) g) ∙ undone before (twin first) last beyond f g

-- The cycles of a table to which a loose string comes, or from which it goes.
use Rattle.std.proofs.Common.{◌≡◌, ℕ, Bool, true, false, not, ◌||◌, List, [], ◌∷◌, refl, sym, ap, ◌∙◌, ◌⊎◌, inl, inr, true≢false, nat_eq, if◌then◌else◌}
use Rattle.std.proofs.lemmas.Bool.Decides.{Decides-eqb}
use Rattle.half_table.specs.declared.half.Half.{Half}
use Rattle.half_table.specs.Half.{is_half, twin, forward_of, backward_of}
use Rattle.half_table.specs.Cycle.{holds, IsCycle}
use Rattle.half_table.specs.Rows.{HalfRows, has_halves, has, next, prev, IsLinked, HasCycle}
use Rattle.half_table.specs.Surgery.{AddsLoose, AddsCycle, IsLoose, RemovesLoose, RemovesCycle}
use Rattle.half_table.proofs.Halves.{is_half-self, is_half-same, is_half-twin, twin-twin}
use Rattle.half_table.proofs.Cycles.{walked-so, walk-passes, or_true, or_right}
use Rattle.half_table.proofs.Closed.{has-cycle, cycle-only}
use Rattle.half_table.proofs.Strings.{has-string}
use Rattle.half_table.proofs.Loose.{loose-follows}

-- the big table has the halves of the string s, each the next of the other, and the small one has not; otherwise they are the same
module _ (small big : HalfRows) (s : ℕ) (linked : IsLinked big)
    (next_is : (g : Half) → nat_eq g.string s ≡ false → next big g ≡ next small g)
    (has_is : (g : Half) → nat_eq g.string s ≡ false → has big g ≡ has small g)
    (twins : (g : Half) → nat_eq g.string s ≡ true → next big g ≡ twin g)
    (here : (g : Half) → nat_eq g.string s ≡ true → has big g ≡ true)
    (gone : (g : Half) → nat_eq g.string s ≡ true → has small g ≡ false) where
  two : (h : Half) → nat_eq h.string s ≡ true → IsCycle (next big) (h ∷ twin h ∷ [])
  two h e = ((twins h e, twins (twin h) e ∙ twin-twin h), (ap (λ v. v || false) (is_half-twin h), (refl, tt)))

  two-there : (h : Half) → nat_eq h.string s ≡ true → HasCycle big (h ∷ twin h ∷ [])
  two-there h e = has-cycle big linked h (twin h ∷ []) (here h e) (two h e)

  -- what follows a half of another string is of another string
  away : (g : Half) → nat_eq g.string s ≡ false → nat_eq (next big g).string s ≡ false
  away g e = by (nat_eq (next big g).string s) refl
    where
      by : (b : Bool) → nat_eq (next big g).string s ≡ b → nat_eq (next big g).string s ≡ false
      by false p = p
      by true p =
          let follows : next big (twin (next big g)) ≡ next big g = twins (twin (next big g)) p ∙ twin-twin (next big g) in
          let same : twin (next big g) ≡ g = sym (linked.prev_next (twin (next big g))) ∙ ap (prev big) follows ∙ linked.prev_next g in
          absurd (true≢false (sym p ∙ ap (λ (h : Half). nat_eq h.string s) same ∙ e))

  other : (g : Half) → not (nat_eq g.string s) ≡ true → nat_eq g.string s ≡ false
  other g e = by (nat_eq g.string s) e
    where
      by : (b : Bool) → not b ≡ true → b ≡ false
      by true p = absurd (true≢false (sym p))
      by false p = refl

  -- the halves of a cycle that begins with another string are of other strings
  all-off : (h : Half) (xs : List Half) → nat_eq h.string s ≡ false → HasCycle big (h ∷ xs) → (q : Half) → holds xs q ≡ true → nat_eq q.string s ≡ false
  all-off h xs e c q q_in =
      other q ((walk-passes (next big) (λ g. not (nat_eq g.string s)) (λ x p. ap not (away x (other x p))) h h xs (ap not e) c.closes.0).0 q q_in)

  -- and so are those of a cycle of the small table
  small-off : (ring : List Half) → HasCycle small ring → (q : Half) → holds ring q ≡ true → nat_eq q.string s ≡ false
  small-off ring c q q_in = by (nat_eq q.string s) refl
    where
      by : (b : Bool) → nat_eq q.string s ≡ b → nat_eq q.string s ≡ false
      by false p = p
      by true p = absurd (true≢false (sym (c.inside q q_in) ∙ gone q p))

  kept : (ring : List Half) → HasCycle small ring → HasCycle big ring
  kept [] c = absurd c.closes
  kept (h ∷ xs) c =
      let first : holds (h ∷ xs) h ≡ true = ap (λ v. v || holds xs h) (is_half-self h) in
      record {
        closes = (
          walked-so (next small) (next big) h h h xs (next_is h (small-off (h ∷ xs) c h first))
              (λ x e. next_is x (small-off (h ∷ xs) c x (or_right (is_half x h) (holds xs x) e))) c.closes.0,
          c.closes.1,
        );
        inside = λ q e. has_is q (small-off (h ∷ xs) c q e) ∙ c.inside q e;
      }

  only : (ring : List Half) → HasCycle big ring → HasCycle small ring ⊎ ((ring ≡ forward_of s ∷ backward_of s ∷ []) ⊎ (ring ≡ backward_of s ∷ forward_of s ∷ []))
  only [] c = absurd c.closes
  only (h ∷ xs) c = by (nat_eq h.string s) refl
    where
      round : (e : nat_eq h.string s ≡ true) (f : Bool) → h.forward ≡ f → (h ∷ xs ≡ forward_of s ∷ backward_of s ∷ []) ⊎ (h ∷ xs ≡ backward_of s ∷ forward_of s ∷ [])
      round e f d =
          let same : h ∷ xs ≡ h ∷ twin h ∷ [] = sym (cycle-only big linked h xs c) ∙ cycle-only big linked h (twin h ∷ []) (two-there h e) in
          let is : h ≡ record { string = s; forward = f } = λ i. record { string = (Decides-eqb h.string s).0 e i; forward = d i } in
          sided f (same ∙ ap (λ g. g ∷ twin g ∷ []) is)
        where
          sided : (f : Bool) → h ∷ xs ≡ record { string = s; forward = f } ∷ twin (record { string = s; forward = f }) ∷ []
              → (h ∷ xs ≡ forward_of s ∷ backward_of s ∷ []) ⊎ (h ∷ xs ≡ backward_of s ∷ forward_of s ∷ [])
          sided true e = inl e
          sided false e = inr e

      by : (b : Bool) → nat_eq h.string s ≡ b → HasCycle small (h ∷ xs) ⊎ ((h ∷ xs ≡ forward_of s ∷ backward_of s ∷ []) ⊎ (h ∷ xs ≡ backward_of s ∷ forward_of s ∷ []))
      by true e = inr (round e h.forward refl)
      by false e = inl (record {
        closes = (walked-so (next big) (next small) h h h xs (sym (next_is h e)) (λ x x_in. sym (next_is x (all-off h xs e c x x_in))) c.closes.0, c.closes.1);
        inside = λ q q_in. sym (has_is q (each q q_in)) ∙ c.inside q q_in;
      })
        where
          each : (q : Half) → holds (h ∷ xs) q ≡ true → nat_eq q.string s ≡ false
          each q q_in = elim (or_true (is_half q h) (holds xs q) q_in) [
            | inl t ↦ ap (λ (g : Half). nat_eq g.string s) (is_half-same q h t) ∙ e
            | inr t ↦ all-off h xs e c q t
          ]

  adds : AddsCycle s small big
  adds =
      let same : nat_eq s s ≡ true = (Decides-eqb s s).1 refl in
      record {
        fresh = sym (has-string small (forward_of s)) ∙ gone (forward_of s) same;
        added = two-there (forward_of s) same;
        kept = kept;
        only = only;
      }

pub added-cycle : (old new : HalfRows) (s from to : ℕ) → IsLinked new → has_halves old s ≡ false → AddsLoose s from to old new → AddsCycle s old new
added-cycle old new s from to linked fresh a =
    adds old new s linked
    (λ g e. a.next g ∙ ap (λ b. if b then twin g else next old g) e)
    (λ g e. a.has g ∙ ap (λ b. if b then true else has old g) e)
    (λ g e. a.next g ∙ ap (λ b. if b then twin g else next old g) e)
    (λ g e. a.has g ∙ ap (λ b. if b then true else has old g) e)
    (λ g e. has-string old g ∙ ap (has_halves old) ((Decides-eqb g.string s).0 e) ∙ fresh)

pub removed-cycle : (old new : HalfRows) (s : ℕ) → IsLinked old → IsLoose s old → RemovesLoose s old new → RemovesCycle s old new
removed-cycle old new s linked loose r =
    adds new old s linked
    (λ g e. sym (r.next g ∙ ap (λ b. if b then g else next old g) e))
    (λ g e. sym (r.has g ∙ ap (λ b. if b then false else has old g) e))
    (λ g e. loose-follows old s loose g e g.forward refl ∙ (λ i. record { string = sym ((Decides-eqb g.string s).0 e) i; forward = not g.forward }))
    (λ g e. has-string old g ∙ ap (has_halves old) ((Decides-eqb g.string s).0 e) ∙ loose.there)
    (λ g e. r.has g ∙ ap (λ b. if b then false else has old g) e)

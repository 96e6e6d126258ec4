-- One path put in the place of another, step by step.
use Rattle.std.proofs.Common.{◌≡◌, Bool, true, false, not, List, [], ◌∷◌, ◌++◌, ◌||◌, refl, sym, ap, ◌∙◌, subst, ◌⊎◌, inl, inr, nat_eq, true≢false, if◌then◌else◌}
use Rattle.std.proofs.lemmas.Bool.Decides.{Decides-eqb}
use Rattle.std.proofs.lemmas.List.{map-append}
use Rattle.std.proofs.lemmas.List.Sorted.{IsPermutation-append_comm}
use Rattle.std.proofs.lemmas.Map.Keys.{IsDistinct-IsPermutation}
use Rattle.std.specs.List.{AllByRecursion, IsDistinct}
use Rattle.half_table.specs.declared.half.Half.{Half}
use Rattle.half_table.specs.Half.{twin, is_half}
use Rattle.half_table.specs.Cycle.{holds}
use Rattle.half_table.proofs.Halves.{is_half-self, is_half-other, other-is_half, is_half-turned, twin-twin}
use Rattle.half_table.proofs.Loose.{nat_eq-symm}
use Rattle.half_paths.specs.Redirect.{redirect}
use Rattle.half_paths.specs.Path.{strings_of, AreElsewhere, AreDifferent, last_of}
use Rattle.half_paths.specs.Strung.{strung, unstrung, IsStrung, IsUnstrung}
use Rattle.half_paths.specs.Ends.{put, CanPut, cut, CanCut}
use Rattle.half_paths.specs.Loose.{AreLoose}
use Rattle.half_paths.specs.Rerouted.{rerouted, exchanged_ends, CanReroute}
use Rattle.half_paths.proofs.Redirected.{sources, AreOf, neither, redirect-kept, redirect-append, redirect-overwritten, redirect-restores, own-append, holds-pairs}
use Rattle.half_paths.proofs.Along.{seams_of, Agree, strung-kept, strung-of, unstrung-of, sources-strung, sources-unstrung}
use Rattle.half_paths.proofs.Apart.{neither-in, other, elsewhere, far, last-turned, twin-first, last-apart, first-strung, last-strung, first-unstrung, last-unstrung}

-- ---- Paths of different strings

-- a half of no string of two paths together is of none of either
elsewhere-parts : (g : Half) (xs ys : List Half) → AreElsewhere g (xs ++ ys) → AreElsewhere g xs × AreElsewhere g ys
elsewhere-parts g [] ys e = (tt, e)
elsewhere-parts g (x ∷ xs) ys e = let p = elsewhere-parts g xs ys e.1 in ((e.0, p.0), p.1)

-- strings that differ in two paths together
pub first-part : (xs ys : List Half) → AreDifferent (xs ++ ys) → AreDifferent xs
unfolding IsDistinct
first-part [] ys d = tt
first-part (x ∷ xs) ys d = ((elsewhere-parts x xs ys d.0).0, first-part xs ys d.1)

pub second-part : (xs ys : List Half) → AreDifferent (xs ++ ys) → AreDifferent ys
unfolding IsDistinct
second-part [] ys d = d
second-part (x ∷ xs) ys d = second-part xs ys d.1

pub parts-apart : (xs ys : List Half) → AreDifferent (xs ++ ys) → AllByRecursion (λ x. AreElsewhere x ys) xs
unfolding IsDistinct
parts-apart [] ys d = tt
parts-apart (x ∷ xs) ys d = ((elsewhere-parts x xs ys d.0).1, parts-apart xs ys d.1)

-- what holds of each half of a path holds of its last
pub last-all : (P : Half → Type 0) (a : Half) (rest : List Half) → AllByRecursion P (a ∷ rest) → P (last_of a rest)
last-all P a [] all = all.0
last-all P a (b ∷ rest) all = last-all P b rest all.1

-- a half that no half of the path is on the string of
turned-all : (y : Half) (ys xs : List Half) → ((x : Half) → AreElsewhere x ys → nat_eq x.string y.string ≡ false) → AllByRecursion (λ x. AreElsewhere x ys) xs → AreElsewhere y xs
turned-all y ys [] pick all = tt
turned-all y ys (x ∷ xs) pick all = (nat_eq-symm y.string x.string ∙ pick x all.0, turned-all y ys xs pick all.1)

-- a half of the same string is the half or its twin
pub same-string : (x k : Half) → nat_eq x.string k.string ≡ true → (x ≡ k) ⊎ (x ≡ twin k)
same-string x k e = by x.forward k.forward refl refl
  where
    s : x.string ≡ k.string
    s = (Decides-eqb x.string k.string).0 e

    by : (p q : Bool) → x.forward ≡ p → k.forward ≡ q → (x ≡ k) ⊎ (x ≡ twin k)
    by true true m n = inl (λ i. record { string = s i; forward = (m ∙ sym n) i })
    by false false m n = inl (λ i. record { string = s i; forward = (m ∙ sym n) i })
    by true false m n = inr (λ i. record { string = s i; forward = (m ∙ ap not (sym n)) i })
    by false true m n = inr (λ i. record { string = s i; forward = (m ∙ ap not (sym n)) i })

-- what leads to another string is none of the loose ones
pub loose-apart : (f : Half → Half) (x y : Half) (ks : List Half) → f x ≡ y → AreLoose f ks → AreElsewhere y ks → AreElsewhere x ks
loose-apart f x y [] leads loose e = tt
loose-apart f x y (k ∷ ks) leads (l, ls) (e0, es) = (by (nat_eq x.string k.string) refl, loose-apart f x y ks leads ls es)
  where
    clash : y.string ≡ k.string → ⊥
    clash s = true≢false (sym ((Decides-eqb y.string k.string).1 s) ∙ e0)

    by : (b : Bool) → nat_eq x.string k.string ≡ b → nat_eq x.string k.string ≡ false
    by false p = p
    by true p = elim (same-string x k p) [
      | inl s ↦ absurd (clash (ap (λ (h : Half). h.string) (sym leads ∙ ap f s ∙ l.0)))
      | inr s ↦ absurd (clash (ap (λ (h : Half). h.string) (sym leads ∙ ap f s ∙ l.1)))
    ]

pub unstrung-loose : (f : Half → Half) (q : Half) (rest : List Half) → AreLoose f (q ∷ rest) → IsUnstrung f q rest
unstrung-loose f q [] loose = tt
unstrung-loose f q (b ∷ rest) loose = (loose.0.0, loose.1.0.1, unstrung-loose f b rest loose.1)

pub each-loose : (f : Half → Half) (ks : List Half) → AreLoose f ks → AllByRecursion (λ k. f k ≡ twin k) ks
each-loose f [] l = tt
each-loose f (k ∷ ks) l = (l.0.0, each-loose f ks l.1)

-- it doesn't matter which of two paths is named first
pub commuted : (xs ys : List Half) → AreDifferent (xs ++ ys) → AreDifferent (ys ++ xs)
commuted xs ys d =
    subst (IsDistinct nat_eq) (sym (map-append (λ (h : Half). h.string) ys xs))
    (IsDistinct-IsPermutation nat_eq nat_eq-symm (strings_of xs ++ strings_of ys) (strings_of ys ++ strings_of xs) (IsPermutation-append_comm (strings_of xs) (strings_of ys))
    (subst (IsDistinct nat_eq) (map-append (λ (h : Half). h.string) xs ys) d))

-- ---- What doesn't lead into a path from within

-- the halves that a path leads to at the points within it
abbrev targets : List (Half × Half) → List Half
targets [] = []
targets (e ∷ es) = e.1 ∷ targets es

flipped : (g h : Half) → is_half (twin g) h ≡ false → is_half g (twin h) ≡ false
flipped g h e = is_half-other g (twin h) (λ s. other-is_half (twin g) h e (ap twin s ∙ twin-twin h))

straight : (g h : Half) → is_half (twin g) (twin h) ≡ false → is_half g h ≡ false
straight g h e = is_half-other g h (λ s. other-is_half (twin g) (twin h) e (ap twin s))

no-target : (a : Half) (rest : List Half) (g : Half) → holds (seams_of a rest) (twin g) ≡ false → holds (targets (strung a rest)) g ≡ false
no-target a [] g e = refl
no-target a (b ∷ rest) g e =
    let n = neither (is_half (twin g) (twin b)) (is_half (twin g) a || holds (seams_of b rest) (twin g)) e in
    let m = neither (is_half (twin g) a) (holds (seams_of b rest) (twin g)) n.1 in
    neither-in (is_half g (twin a)) (is_half g b) (holds (targets (strung b rest)) g) (flipped g a m.0) (straight g b n.0) (no-target b rest g m.1)

no-source : (f : Half → Half) (es : List (Half × Half)) (x : Half) → AreOf f es → holds (targets es) (f x) ≡ false → holds (sources es) x ≡ false
no-source f [] x own e = refl
no-source f (k ∷ es) x own e =
    let n = neither (is_half (f x) k.1) (holds (targets es) (f x)) e in
    let here : is_half x k.0 ≡ false = is_half-other x k.0 (λ s. other-is_half (f x) k.1 n.0 (ap f s ∙ own.0)) in
    ap (λ b. b || holds (sources es) x) here ∙ no-source f es x own.1 n.1

-- a half that leads to what no half within the path leads to
pub enters-outside : (f : Half → Half) (a : Half) (rest : List Half) (x y : Half) → IsStrung f a rest → f x ≡ y → holds (seams_of a rest) (twin y) ≡ false → holds (seams_of a rest) x ≡ false
enters-outside f a rest x y tied leads e =
    ap (λ l. holds l x) (sym (sources-strung a rest))
    ∙ no-source f (strung a rest) x (strung-of f a rest tied) (ap (holds (targets (strung a rest))) leads ∙ no-target a rest y e)

-- ---- The steps

-- one is tied together, the other taken apart
abbrev pub tied : (Half → Half) → Half → List Half → Half → List Half → Half → Half
tied f a ar q qr = redirect (unstrung a ar) (redirect (strung q qr) f)

-- the one is put in beside the other
abbrev pub beside : (Half → Half) → Half → List Half → Half → List Half → Half → Half → Half
beside f a ar q qr pa = redirect (put pa (last_of a ar) q (last_of q qr) (tied f a ar q qr)) (tied f a ar q qr)

module _ (f : Half → Half) (a : Half) (ar : List Half) (q : Half) (qr : List Half) (pa pb : Half) (d : AreDifferent ((a ∷ ar) ++ q ∷ qr)) (can : CanReroute a ar q qr f)
    (enters : f pa ≡ a) (returns : f pb ≡ twin (last_of a ar)) where
  abbrev p : Half
  p = last_of a ar

  abbrev z : Half
  z = last_of q qr

  old_differ : AreDifferent (a ∷ ar)
  old_differ = first-part (a ∷ ar) (q ∷ qr) d

  new_differ : AreDifferent (q ∷ qr)
  new_differ = second-part (a ∷ ar) (q ∷ qr) d

  both : AllByRecursion (λ x. AreElsewhere x (q ∷ qr)) (a ∷ ar)
  both = parts-apart (a ∷ ar) (q ∷ qr) d

  p_off : AreElsewhere p (q ∷ qr)
  p_off = last-all (λ x. AreElsewhere x (q ∷ qr)) a ar both

  pa_off : AreElsewhere pa (q ∷ qr)
  pa_off = loose-apart f pa a (q ∷ qr) enters can.loose both.0

  pb_off : AreElsewhere pb (q ∷ qr)
  pb_off = loose-apart f pb (twin p) (q ∷ qr) returns can.loose p_off

  q_off : AreElsewhere q (a ∷ ar)
  q_off = turned-all q (q ∷ qr) (a ∷ ar) (λ x e. e.0) both

  z_off : AreElsewhere z (a ∷ ar)
  z_off = turned-all z (q ∷ qr) (a ∷ ar) (λ x e. far x q qr e) both

  -- halves of other strings keep what follows them
  one-kept : (x : Half) → AreElsewhere x (q ∷ qr) → redirect (strung q qr) f x ≡ f x
  one-kept x e = redirect-kept (strung q qr) f x (ap (λ l. holds l x) (sources-strung q qr) ∙ elsewhere x q qr e)

  two-kept : (x : Half) → holds (seams_of a ar) x ≡ false → tied f a ar q qr x ≡ redirect (strung q qr) f x
  two-kept x e = redirect-kept (unstrung a ar) (redirect (strung q qr) f) x (ap (λ l. holds l x) (sources-unstrung a ar) ∙ e)

  seams-kept : (b : Half) (rest : List Half) → AllByRecursion (λ x. AreElsewhere x (q ∷ qr)) (b ∷ rest) → Agree (redirect (strung q qr) f) f (seams_of b rest)
  seams-kept b [] all = tt
  seams-kept b (k ∷ rest) all = (one-kept (twin k) all.1.0, (one-kept b all.0, seams-kept k rest all.1))

  -- the old path is still tied together
  pub still-strung : IsStrung (redirect (strung q qr) f) a ar
  still-strung = strung-kept (redirect (strung q qr) f) f a ar (seams-kept a ar both) can.strung

  at_pa : tied f a ar q qr pa ≡ a
  at_pa = two-kept pa (enters-outside f a ar pa a can.strung enters (twin-first a ar old_differ)) ∙ one-kept pa pa_off ∙ enters

  at_pb : tied f a ar q qr pb ≡ twin p
  at_pb = two-kept pb (enters-outside f a ar pb (twin p) can.strung returns (ap (holds (seams_of a ar)) (twin-twin p) ∙ last-apart a ar old_differ)) ∙ one-kept pb pb_off ∙ returns

  at_p : tied f a ar q qr p ≡ f p
  at_p = last-unstrung (redirect (strung q qr) f) a ar old_differ ∙ one-kept p p_off

  at_ta : tied f a ar q qr (twin a) ≡ f (twin a)
  at_ta = first-unstrung (redirect (strung q qr) f) a ar old_differ ∙ one-kept (twin a) both.0

  at_tq : tied f a ar q qr (twin q) ≡ q
  at_tq = two-kept (twin q) (elsewhere (twin q) a ar q_off) ∙ first-strung f q qr new_differ ∙ can.loose.0.1

  at_z : tied f a ar q qr z ≡ twin z
  at_z = two-kept z (elsewhere z a ar z_off) ∙ last-strung f q qr new_differ ∙ last-all (λ k. f k ≡ twin k) q qr (each-loose f (q ∷ qr) can.loose)

  -- ---- Which halves differ

  p-pa : is_half p pa ≡ false
  p-pa = is_half-other p pa (λ e. other-is_half (f p) a can.leads_on.no_ring (ap f e ∙ enters))

  ta-pa : is_half (twin a) pa ≡ false
  ta-pa = is_half-other (twin a) pa (λ e. other-is_half (f (twin a)) a can.leads_on.goes_back (ap f e ∙ enters))

  pb-p : is_half pb p ≡ false
  pb-p = is_half-other pb p (λ e. other-is_half (f p) (twin p) can.leads_on.goes_on (ap f (sym e) ∙ returns))

  a-tp : is_half a (twin p) ≡ false
  a-tp = flipped a p (is_half-turned p (twin a) (last-turned a ar old_differ))

  pb-pa : is_half pb pa ≡ false
  pb-pa = is_half-other pb pa (λ e. other-is_half a (twin p) a-tp (sym enters ∙ ap f (sym e) ∙ returns))

  ta-p : is_half (twin a) p ≡ false
  ta-p = is_half-turned p (twin a) (last-turned a ar old_differ)

  z-pa : is_half z pa ≡ false
  z-pa = is_half-turned pa z (other pa z (far pa q qr pa_off))

  pub can-put : CanPut pa p q z (tied f a ar q qr)
  can-put = record {
    first_free = at_tq;
    last_free = at_z;
    two = p-pa;
    beyond_first = other p (twin q) p_off.0;
    last_before = z-pa;
    last_first = last-turned q qr new_differ;
  }

  -- ---- Beside the other

  beside-kept : (x : Half) → is_half x z ≡ false → is_half x p ≡ false → is_half x pa ≡ false → is_half x (twin q) ≡ false → beside f a ar q qr pa x ≡ tied f a ar q qr x
  beside-kept x e1 e2 e3 e4 = λ i. if e1 i then tied f a ar q qr p else (if e2 i then twin z else (if e3 i then q else (if e4 i then tied f a ar q qr pa else tied f a ar q qr x)))

  pub beside-first : beside f a ar q qr pa (twin q) ≡ a
  beside-first =
      (λ i. if tq-z i then tied f a ar q qr p else (if tq-p i then twin z else (if tq-pa i then q else (if is_half-self (twin q) i then tied f a ar q qr pa else tied f a ar q qr (twin q)))))
      ∙ at_pa
    where
      tq-z : is_half (twin q) z ≡ false
      tq-z = is_half-turned z (twin q) (last-turned q qr new_differ)

      tq-p : is_half (twin q) p ≡ false
      tq-p = is_half-turned p (twin q) (other p (twin q) p_off.0)

      tq-pa : is_half (twin q) pa ≡ false
      tq-pa = is_half-turned pa (twin q) (other pa (twin q) pa_off.0)

  pub beside-last : beside f a ar q qr pa pb ≡ twin p
  beside-last = beside-kept pb (other pb z (far pb q qr pb_off)) pb-p pb-pa (other pb (twin q) pb_off.0) ∙ at_pb

  beside-p : beside f a ar q qr pa p ≡ twin z
  beside-p = λ i. if other p z (far p q qr p_off) i then tied f a ar q qr p else (if is_half-self p i then twin z else (if is_half p pa then q else (if is_half p (twin q) then tied f a ar q qr pa else tied f a ar q qr p)))

  beside-ta : beside f a ar q qr pa (twin a) ≡ f (twin a)
  beside-ta = beside-kept (twin a) (other (twin a) z (far a q qr both.0)) ta-p ta-pa (other (twin a) (twin q) both.0.0) ∙ at_ta

  pub can-cut : CanCut a p (beside f a ar q qr pa)
  can-cut = record {
    two = a-tp;
    no_ring = ap (λ x. is_half x a) beside-p ∙ is_half-turned a (twin z) (other a (twin z) (far a q qr both.0));
    no_ring_back = ap (λ x. is_half x (twin p)) beside-ta ∙ can.leads_on.no_ring_back;
  }

  -- ---- All steps together

  right : (b c : Bool) → c ≡ true → (b || c) ≡ true
  right true c e = refl
  right false c e = e

  left : (b c : Bool) → b ≡ true → (b || c) ≡ true
  left true c e = refl
  left false c e = absurd (true≢false (sym e))

  pub all-steps : (g : Half) → redirect (cut (twin q) pb a p (beside f a ar q qr pa)) (beside f a ar q qr pa) g ≡ redirect (rerouted pa pb a ar q qr f) f g
  all-steps g =
      let F = tied f a ar q qr in
      let cuts : List (Half × Half) = (pb, twin z) ∷ (p, twin p) ∷ (twin a, a) ∷ (twin q, f (twin a)) ∷ [] in
      (λ i. redirect ((pb, beside-p i) ∷ (p, twin p) ∷ (twin a, a) ∷ (twin q, beside-ta i) ∷ []) (redirect ((twin q, at_pa i) ∷ (pa, q) ∷ (p, twin z) ∷ (z, at_p i) ∷ []) F) g)
      ∙ redirect-overwritten (twin q) a ((pa, q) ∷ (p, twin z) ∷ (z, f p) ∷ cuts) F
      (right (is_half (twin q) pa) _ (right (is_half (twin q) p) _ (right (is_half (twin q) z) _ (right (is_half (twin q) pb) _ (right (is_half (twin q) p) _ (right (is_half (twin q) (twin a)) _ (left (is_half (twin q) (twin q)) false (is_half-self (twin q))))))))) g
      ∙ redirect-overwritten p (twin z) ((z, f p) ∷ cuts) (redirect ((pa, q) ∷ []) F)
      (right (is_half p z) _ (right (is_half p pb) _ (left (is_half p p) _ (is_half-self p)))) g
      ∙ sym (redirect-append (strung q qr) (unstrung a ar ++ exchanged_ends pa pb a p q z f) f g
      ∙ redirect-append (unstrung a ar) (exchanged_ends pa pb a p q z f) (redirect (strung q qr) f) g)

  -- ---- And back

  abbrev now : Half → Half
  now = redirect (rerouted pa pb a ar q qr f) f

  now-is : (g : Half) → now g ≡ redirect (exchanged_ends pa pb a p q z f) (tied f a ar q qr) g
  now-is g =
      redirect-append (strung q qr) (unstrung a ar ++ exchanged_ends pa pb a p q z f) f g
      ∙ redirect-append (unstrung a ar) (exchanged_ends pa pb a p q z f) (redirect (strung q qr) f) g

  pub now-pa : now pa ≡ q
  now-pa = now-is pa
      ∙ (λ i. if pa-tq i then f (twin a) else (if pa-ta i then a else (if pa-p i then twin p else (if pa-pb i then twin z else (if pa-z i then f p else (if is_half-self pa i then q else tied f a ar q qr pa))))))
    where
      pa-tq : is_half pa (twin q) ≡ false
      pa-tq = other pa (twin q) pa_off.0

      pa-ta : is_half pa (twin a) ≡ false
      pa-ta = is_half-turned (twin a) pa ta-pa

      pa-p : is_half pa p ≡ false
      pa-p = is_half-turned p pa p-pa

      pa-pb : is_half pa pb ≡ false
      pa-pb = is_half-turned pb pa pb-pa

      pa-z : is_half pa z ≡ false
      pa-z = is_half-turned z pa z-pa

  pub now-pb : now pb ≡ twin z
  now-pb = now-is pb
      ∙ (λ i. if other pb (twin q) pb_off.0 i then f (twin a) else (if pb-ta i then a else (if pb-p i then twin p else (if is_half-self pb i then twin z else (if is_half pb z then f p else (if is_half pb pa then q else tied f a ar q qr pb))))))
    where
      pb-ta : is_half pb (twin a) ≡ false
      pb-ta = is_half-other pb (twin a) (λ e. other-is_half (f (twin a)) (twin p) can.leads_on.no_ring_back (ap f (sym e) ∙ returns))

  now-z : now z ≡ f p
  now-z = now-is z
      ∙ (λ i. if last-turned q qr new_differ i then f (twin a) else (if z-ta i then a else (if z-p i then twin p else (if z-pb i then twin z else (if is_half-self z i then f p else (if is_half z pa then q else tied f a ar q qr z))))))
    where
      z-ta : is_half z (twin a) ≡ false
      z-ta = is_half-turned (twin a) z (other (twin a) z (far a q qr both.0))

      z-p : is_half z p ≡ false
      z-p = is_half-turned p z (other p z (far p q qr p_off))

      z-pb : is_half z pb ≡ false
      z-pb = is_half-turned pb z (other pb z (far pb q qr pb_off))

  now-tq : now (twin q) ≡ f (twin a)
  now-tq = now-is (twin q)
      ∙ (λ i. if is_half-self (twin q) i then f (twin a) else (if is_half (twin q) (twin a) then a else (if is_half (twin q) p then twin p else (if is_half (twin q) pb then twin z else (if is_half (twin q) z then f p else (if is_half (twin q) pa then q else tied f a ar q qr (twin q)))))))

  -- the pairs that are written when the paths are exchanged again
  abbrev again_ends : List (Half × Half)
  again_ends = (pa, a) ∷ (p, f p) ∷ (pb, twin p) ∷ (z, twin z) ∷ (twin q, q) ∷ (twin a, f (twin a)) ∷ []

  abbrev again : List (Half × Half)
  again = strung a ar ++ (unstrung q qr ++ again_ends)

  again-own : AreOf f again
  again-own =
      own-append f (strung a ar) (unstrung q qr ++ again_ends) (strung-of f a ar can.strung)
      (own-append f (unstrung q qr) again_ends (unstrung-of f q qr (unstrung-loose f q qr can.loose))
      (enters, (refl, (returns, (last-all (λ k. f k ≡ twin k) q qr (each-loose f (q ∷ qr) can.loose), (can.loose.0.1, (refl, tt)))))))

  any-order : (sq sp x z' y p' t u : Bool) → (sq || (sp || (x || (z' || (y || (p' || (t || (u || false)))))))) ≡ true → (sp || (sq || (x || (p' || (y || (z' || (u || (t || false)))))))) ≡ true
  any-order true sp x z' y p' t u e = right sp _ refl
  any-order false true x z' y p' t u e = refl
  any-order false false true z' y p' t u e = refl
  any-order false false false true y p' t u e = right p' _ (right y _ refl)
  any-order false false false false true p' t u e = right p' _ refl
  any-order false false false false false true t u e = refl
  any-order false false false false false false true u e = right u _ refl
  any-order false false false false false false false true e = refl
  any-order false false false false false false false false e = absurd (true≢false (sym e))

  again-all : (g : Half) → holds (sources (rerouted pa pb a ar q qr f)) g ≡ true → holds (sources again) g ≡ true
  again-all g e =
      holds-pairs (strung a ar) (unstrung q qr) again_ends g
      ∙ (λ i. holds (sources-strung a ar i) g || (holds (sources-unstrung q qr i) g || holds (sources again_ends) g))
      ∙ any-order (holds (seams_of q qr) g) (holds (seams_of a ar) g) (is_half g pa) (is_half g z) (is_half g pb) (is_half g p) (is_half g (twin a)) (is_half g (twin q))
      (sym (holds-pairs (strung q qr) (unstrung a ar) (exchanged_ends pa pb a p q z f) g
      ∙ (λ i. holds (sources-strung q qr i) g || (holds (sources-unstrung a ar i) g || holds (sources (exchanged_ends pa pb a p q z f)) g))) ∙ e)

  -- exchanged again, each half has its successor again
  pub exchanged-back : (after : Half → Half) → ((g : Half) → after g ≡ now g) → (g : Half) → redirect (rerouted pa pb q qr a ar after) after g ≡ f g
  exchanged-back after same g =
      (λ i. redirect (rerouted pa pb q qr a ar (λ h. same h i)) (λ h. same h i) g)
      ∙ (λ i. redirect (strung a ar ++ (unstrung q qr ++ (pa, a) ∷ (p, now-z i) ∷ (pb, twin p) ∷ (z, twin z) ∷ (twin q, q) ∷ (twin a, now-tq i) ∷ [])) now g)
      ∙ redirect-restores (rerouted pa pb a ar q qr f) again f again-all again-own g

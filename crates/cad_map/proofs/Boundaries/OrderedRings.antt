-- Tests of a face's rings answer the same, wherever each is written from and in whatever order they are kept.
use Rattle.std.proofs.Common.{◌≡◌, ℕ, ◌+◌, refl, sym, ap, ◌∙◌, List, [], ◌∷◌, Bool, true, false, cond, not, filter, arith}
use Rattle.std.proofs.lemmas.List.Sums.{sum_by-cons}
use Rattle.std.specs.Prelude.{◌&&◌, ◌||◌, count_by}
use Rattle.std.specs.List.{list_all}
use Rattle.cad_rows.specs.declared.names.Face.{Face}
use Rattle.cad_rings.specs.Cycle.{Ring, IsSameRing}
use Rattle.cad_rings.proofs.CallerLemmas.{IsSameRing-refl, IsSameRing-least_rotation}
use Rattle.cad_map.specs.declared.boundary.Boundary.{Boundary}
use Rattle.cad_map.specs.Boundaries.{is_face, canonical_form, canonical_order}
use Rattle.cad_map.specs.Map.{rings_at}
use Rattle.cad_map.specs.Valid.{each_pair}
use Rattle.cad_map.proofs.Lists.Elements.{list_all-same}
use Rattle.cad_map.proofs.Boundaries.OrderedSides.{StandsListing, canonical_order-related}

-- the test answers the same, wherever the ring is written from
abbrev pub IsOfRing : (Ring → Bool) → Type 0
IsOfRing test = (r s : Ring) → IsSameRing r s → test r ≡ test s

-- the same of a test of two rings, which also answers the same of both in the other order
pub record IsOfTwoRings (test : Ring → Ring → Bool) : Type 0 where
  pub first : (t : Ring) → IsOfRing (λ r. test r t)
  pub second : (t : Ring) → IsOfRing (test t)
  pub either_way : (r s : Ring) → test r s ≡ test s r

-- tests of rings answer the same of both lists
pub record TestAlike (rs ss : List Ring) : Type 0 where
  pub all : (test : Ring → Bool) → IsOfRing test → list_all test rs ≡ list_all test ss
  pub pairs : (test : Ring → Ring → Bool) → IsOfTwoRings test → each_pair test rs ≡ each_pair test ss
  pub count : (test : Ring → Bool) → IsOfRing test → count_by test rs ≡ count_by test ss

TestAlike-refl : (rs : List Ring) → TestAlike rs rs
TestAlike-refl rs = record { all = λ test h. refl; pairs = λ test h. refl; count = λ test h. refl }

TestAlike-trans : (rs ss ts : List Ring) → TestAlike rs ss → TestAlike ss ts → TestAlike rs ts
TestAlike-trans rs ss ts h k = record {
  all = λ test of. h.all test of ∙ k.all test of;
  pairs = λ test of. h.pairs test of ∙ k.pairs test of;
  count = λ test of. h.count test of ∙ k.count test of;
}

TestAlike-more : (r s : Ring) (rs ss : List Ring) → IsSameRing r s → TestAlike rs ss → TestAlike (r ∷ rs) (s ∷ ss)
TestAlike-more r s rs ss same h = record {
  all = λ test of. λ i. of r s same i && h.all test of i;
  pairs = λ test of.
      let first : list_all (test r) rs ≡ list_all (test s) ss = list_all-same (test r) (test s) rs (λ t h. of.first t r s same) ∙ h.all (test s) (of.second s) in
      λ i. first i && h.pairs test of i;
  count = λ test of.
      sum_by-cons (λ (x : Ring). cond (test x) 1 0) r rs
      ∙ (λ i. cond (of r s same i) 1 0 + h.count test of i)
      ∙ sym (sum_by-cons (λ (x : Ring). cond (test x) 1 0) s ss);
}

and_exchanged : (a b c d : Bool) → ((a && b) && (c && d)) ≡ ((a && c) && (b && d))
and_exchanged true true c d = refl
and_exchanged true false true d = refl
and_exchanged true false false d = refl
and_exchanged false b c d = refl

and_front : (a b c : Bool) → (a && (b && c)) ≡ (b && (a && c))
and_front true b c = refl
and_front false true c = refl
and_front false false c = refl

TestAlike-exchanged : (r s : Ring) (rs : List Ring) → TestAlike (r ∷ s ∷ rs) (s ∷ r ∷ rs)
TestAlike-exchanged r s rs = record {
  all = λ test of. and_front (test r) (test s) (list_all test rs);
  pairs = λ test of.
      and_exchanged (test r s) (list_all (test r) rs) (list_all (test s) rs) (each_pair test rs)
      ∙ (λ i. (of.either_way r s i && list_all (test s) rs) && (list_all (test r) rs && each_pair test rs));
  count = λ test of.
      let c : Ring → ℕ = λ x. cond (test x) 1 0 in
      let one = sum_by-cons c r (s ∷ rs) in let two = sum_by-cons c s rs in
      let three = sum_by-cons c s (r ∷ rs) in let four = sum_by-cons c r rs in
      omega arith;
}

-- the rings of a face, as they are kept and in canonical order
pub rings_at-canonical_order : (f : Face) (bs : List Boundary) → TestAlike (rings_at f bs) (rings_at f (canonical_order bs))
rings_at-canonical_order f bs = canonical_order-related (λ bs cs. TestAlike (rings_at f bs) (rings_at f cs)) stands bs
  where
    more : (b c : Boundary) (bs cs : List Boundary) → IsSameRing b.ring c.ring → b.face ≡ c.face → TestAlike (rings_at f bs) (rings_at f cs) → TestAlike (rings_at f (b ∷ bs)) (rings_at f (c ∷ cs))
    more b c bs cs same faces h = by (is_face f b.face) refl
      where
        by : (t : Bool) → is_face f b.face ≡ t → TestAlike (rings_at f (b ∷ bs)) (rings_at f (c ∷ cs))
        by true is = let there = sym (ap (is_face f) faces) ∙ is in rw (is, there) (TestAlike-more b.ring c.ring (rings_at f bs) (rings_at f cs) same h)
        by false is = let there = sym (ap (is_face f) faces) ∙ is in rw (is, there) h

    exchanged : (a b : Boundary) (bs : List Boundary) → (s t : Bool) → is_face f a.face ≡ s → is_face f b.face ≡ t → TestAlike (rings_at f (a ∷ b ∷ bs)) (rings_at f (b ∷ a ∷ bs))
    exchanged a b bs true true h k = simp (h, k) (TestAlike-exchanged a.ring b.ring (rings_at f bs))
    exchanged a b bs true false h k = simp (h, k) (TestAlike-refl (a.ring ∷ rings_at f bs))
    exchanged a b bs false true h k = simp (h, k) (TestAlike-refl (b.ring ∷ rings_at f bs))
    exchanged a b bs false false h k = simp (h, k) (TestAlike-refl (rings_at f bs))

    stands : StandsListing (λ bs cs. TestAlike (rings_at f bs) (rings_at f cs))
    stands = record {
      same = λ bs. TestAlike-refl (rings_at f bs);
      through = λ bs cs ds. TestAlike-trans (rings_at f bs) (rings_at f cs) (rings_at f ds);
      more = λ b bs cs. more b b bs cs (IsSameRing-refl b.ring) refl;
      exchanged = λ a b bs. exchanged a b bs (is_face f a.face) (is_face f b.face) refl refl;
      as_canonical = λ b bs. more b (canonical_form b) bs bs (IsSameRing-least_rotation b.ring) refl (TestAlike-refl (rings_at f bs));
    }

-- ---- Tests of those elements that another test picks

module _ {X : Type 0} (picked : X → Bool) where
  pub list_all-filter : (test : X → Bool) (xs : List X) → list_all test (filter picked xs) ≡ list_all (λ x. not (picked x) || test x) xs
  list_all-filter test [] = refl
  list_all-filter test (x ∷ xs) = by (picked x) refl (list_all-filter test xs)
    where
      by : (t : Bool) → picked x ≡ t → list_all test (filter picked xs) ≡ list_all (λ x. not (picked x) || test x) xs
          → list_all test (filter picked (x ∷ xs)) ≡ list_all (λ x. not (picked x) || test x) (x ∷ xs)
      by true is rest = rw is (ap (λ (b : Bool). test x && b) rest)
      by false is rest = rw is rest

  pub list_all-none : (xs : List X) → list_all (λ x. true) xs ≡ true
  list_all-none [] = refl
  list_all-none (x ∷ xs) = list_all-none xs

  pub each_pair-filter : (test : X → X → Bool) (xs : List X) → each_pair test (filter picked xs) ≡ each_pair (λ x y. not (picked x && picked y) || test x y) xs
  each_pair-filter test [] = refl
  each_pair-filter test (x ∷ xs) = by (picked x) refl (each_pair-filter test xs)
    where
      by : (t : Bool) → picked x ≡ t → each_pair test (filter picked xs) ≡ each_pair (λ x y. not (picked x && picked y) || test x y) xs
          → each_pair test (filter picked (x ∷ xs)) ≡ each_pair (λ x y. not (picked x && picked y) || test x y) (x ∷ xs)
      by true is rest = simp is (λ i. list_all-filter (test x) xs i && rest i)
      by false is rest = simp is (rest ∙ ap (λ (b : Bool). b && each_pair (λ x y. not (picked x && picked y) || test x y) xs) (sym (list_all-none xs)))

-- Rings of an outline, cut.
use Rattle.std.proofs.Common.{◌≡◌, ◌∙◌, refl, sym, ap, subst, ℕ, zero, suc, ◌<◌, Bool, true, false, List, [], ◌∷◌, ◌++◌, length, append_assoc, get_or, filter, None, inl, inr, arith, is_some, Option, Some}
use Rattle.std.specs.Prelude.{IsPermutation, flat_map, not}
use Rattle.std.specs.List.{AllByRecursion}
use Rattle.std.proofs.lemmas.Bool.{cases_Bool}
use Rattle.std.proofs.lemmas.Grind.{flat_map-append}
use Rattle.std.proofs.lemmas.List.Sorted.{IsPermutation-refl, IsPermutation-trans, IsPermutation-append_left, IsPermutation-append_right, IsPermutation-append_comm, IsPermutation-filter_both}
use Rattle.cad_rows.specs.declared.names.Face.{Face}
use Rattle.cad_rows.specs.declared.names.Face.TheVariants.{Parcel}
use Rattle.cad_rings.specs.Cycle.{Ring, Side, sides_of}
use Rattle.cad_rings.proofs.CallerLemmas.{permuted_as}
use Rattle.cad_map.specs.Map.{Map, rings_of, is_positive, has_parcel, parcel_of}
use Rattle.cad_map.specs.Outline.{outline_of}
use Rattle.cad_map.specs.Valid.{IsValid}
use Rattle.cad_map.proofs.CallerLemmas.{All-permuted}
use Rattle.cad_views.specs.Cut.{AreCutFrom, HasTwoEndsEach}
use Rattle.cad_views.proofs.CutFacts.{rings-apart}

pub apart-ring : (rs : List Ring) (i : ℕ) (r : Ring) → i < length rs → AllByRecursion HasTwoEndsEach rs → HasTwoEndsEach (get_or rs i r)
apart-ring [] i r within all = absurd (omega arith)
apart-ring (s ∷ rs) zero r within all = all.0
apart-ring (s ∷ rs) (suc i) r within all = apart-ring rs i r (omega arith) all.1

filter-yes : (p : Ring → Bool) (r : Ring) (rs : List Ring) → p r ≡ true → filter p (r ∷ rs) ≡ r ∷ filter p rs
filter-yes p r rs e = rw e refl

filter-no : (p : Ring → Bool) (r : Ring) (rs : List Ring) → p r ≡ false → filter p (r ∷ rs) ≡ filter p rs
filter-no p r rs e = rw e refl

-- the sides of rings, and of those for which a test holds before the others
sides-parted : (p q : Ring → Bool) → ((r : Ring) → q r ≡ not (p r)) → (rs : List Ring) → IsPermutation (flat_map sides_of rs) (flat_map sides_of (filter p rs ++ filter q rs))
sides-parted p q other [] = IsPermutation-refl []
sides-parted p q other (r ∷ rs) = elim (cases_Bool (p r)) [
  | inl held ↦
      let misses : q r ≡ false = other r ∙ ap not held in
      let e : filter p (r ∷ rs) ++ filter q (r ∷ rs) ≡ r ∷ (filter p rs ++ filter q rs) = λ i. filter-yes p r rs held i ++ filter-no q r rs misses i in
      subst (λ (l : List Ring). IsPermutation (flat_map sides_of (r ∷ rs)) (flat_map sides_of l)) (sym e)
      (IsPermutation-append_right (sides_of r) (flat_map sides_of rs) (flat_map sides_of (filter p rs ++ filter q rs)) (sides-parted p q other rs))
  | inr failed ↦
      let holds : q r ≡ true = other r ∙ ap not failed in
      let e : filter p (r ∷ rs) ++ filter q (r ∷ rs) ≡ filter p rs ++ (r ∷ filter q rs) = λ i. filter-no p r rs failed i ++ filter-yes q r rs holds i in
      let S = sides_of r in
      let A = flat_map sides_of (filter p rs) in
      let B = flat_map sides_of (filter q rs) in
      let first = IsPermutation-append_right S (flat_map sides_of rs) (flat_map sides_of (filter p rs ++ filter q rs)) (sides-parted p q other rs) in
      let second = permuted_as (S ++ flat_map sides_of (filter p rs ++ filter q rs)) ((S ++ A) ++ B) (flat_map sides_of (filter p rs ++ (r ∷ filter q rs))) ((A ++ S) ++ B)
      (ap (λ (l : List Side). S ++ l) (flat_map-append sides_of (filter p rs) (filter q rs)) ∙ sym (append_assoc S A B))
      (flat_map-append sides_of (filter p rs) (r ∷ filter q rs) ∙ sym (append_assoc A S B))
      (IsPermutation-append_left B (S ++ A) (A ++ S) (IsPermutation-append_comm S A)) in
      subst (λ (l : List Ring). IsPermutation (flat_map sides_of (r ∷ rs)) (flat_map sides_of l)) (sym e)
      (IsPermutation-trans (S ++ flat_map sides_of rs) (S ++ flat_map sides_of (filter p rs ++ filter q rs)) (flat_map sides_of (filter p rs ++ (r ∷ filter q rs))) first second)
]

-- no side of an outline leads from a point to itself
pub outline-apart : (m : Map) → IsValid m → (f : Face) → AllByRecursion HasTwoEndsEach (outline_of m f)
outline-apart m valid f =
    All-permuted HasTwoEndsEach (rings_of m f) (outline_of m f) (IsPermutation-filter_both (is_positive m) (λ r. not (is_positive m r)) (λ r. refl) (rings_of m f)) (rings-apart m valid f)

-- what an outline is cut into, the face's rings are
pub cut-outline : (m : Map) (f : Face) (pieces : List Ring) → AreCutFrom (outline_of m f) pieces → AreCutFrom (rings_of m f) pieces
cut-outline m f pieces cut = record {
  sides = IsPermutation-trans (flat_map sides_of (rings_of m f)) (flat_map sides_of (outline_of m f)) (flat_map sides_of pieces) (sides-parted (is_positive m) (λ r. not (is_positive m r)) (λ r. refl) (rings_of m f)) cut.sides;
  simple = cut.simple;
}

none-of : {X : Type 0} (o : Option X) → is_some o ≡ false → o ≡ None
none-of None e = refl
none-of (Some x) e = cc e

pub no-parcel : (m : Map) (n : ℕ) → has_parcel m n ≡ false → parcel_of m n ≡ None
no-parcel m n none = none-of (parcel_of m n) none

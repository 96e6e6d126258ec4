-- Areas that are kept, and what they gain.
use Rattle.std.proofs.Common.{◌≡◌, refl, ◌⊎◌, inl, inr, ℤ, pos, ◌+ℤ◌, sym, ap, subst, ◌∙◌, Option, None, Some, arith}
use Rattle.std.proofs.lemmas.Int.{ints}
use Rattle.std.specs.Prelude.{IfSome}
use Rattle.geo_exact.specs.Measure.{doubled_area}
use Rattle.cad_rows.specs.declared.names.Face.{Face}
use Rattle.cad_map.specs.Map.{Map, sum_of_face}
use Rattle.cad_near.specs.KeptAreas.{KeptAreas, HoldsAreas, Gains, area_at}

-- what is kept then of the face, if anything, is more by z than what was kept
abbrev pub IsMore : KeptAreas → Face → ℤ → Option ℤ → Type 0
IsMore old f z o =
    IfSome o (λ area. (was : ℤ) × (area_at old f ≡ Some was) × (area ≡ was +ℤ z))

-- what is kept as it was gains nothing
pub gains-none : (old new : KeptAreas) (f : Face) → area_at new f ≡ area_at old f
    → Gains old new f (pos 0)
gains-none old new f same = by (area_at new f) refl
  where
    more : (z : ℤ) → z ≡ z +ℤ pos 0
    more z = omega (arith, ints)

    by : (o : Option ℤ) → area_at new f ≡ o → IsMore old f (pos 0) o
    by None is = tt
    by (Some area) is = (area, sym same ∙ is, more area)

-- what gains twice gains both
pub gains-both : (a b c : KeptAreas) (f : Face) (x y : ℤ) → Gains a b f x → Gains b c f y
    → Gains a c f (x +ℤ y)
gains-both a b c f x y first second = by (area_at c f) second
  where
    by : (o : Option ℤ) → IsMore b f y o → IsMore a f (x +ℤ y) o
    by None more = tt
    by (Some area) more =
        let early = subst (IsMore a f x) more.1 first in
        (early.0, early.1, omega (arith, ints, more.2, early.2))

-- areas that gain what their faces do are those of the map then
pub holds-gained : (old new : KeptAreas) (x y : Map) (z : Face → ℤ)
    → ((f : Face) → Gains old new f (z f))
    → ((f : Face) → sum_of_face doubled_area y f ≡ sum_of_face doubled_area x f +ℤ z f)
    → HoldsAreas old x → HoldsAreas new y
holds-gained old new x y z gains sums holds f = by (area_at new f) (gains f)
  where
    by : (o : Option ℤ) → IsMore old f (z f) o
        → IfSome o (λ area. area ≡ sum_of_face doubled_area y f)
    by None more = tt
    by (Some area) more =
        let was = subst (λ o. IfSome o (λ t. t ≡ sum_of_face doubled_area x f)) more.1 (holds f) in
        more.2 ∙ ap (λ t. t +ℤ z f) was ∙ sym (sums f)

-- areas that are left, of faces that keep them, are those of the map then
pub holds-left : (old new : KeptAreas) (x y : Map)
    → ((f : Face) → IfSome (area_at new f) (λ area. area_at old f ≡ Some area))
    → ((f : Face) → (area_at new f ≡ None)
    ⊎ (sum_of_face doubled_area y f ≡ sum_of_face doubled_area x f))
    → HoldsAreas old x → HoldsAreas new y
holds-left old new x y left sums holds f = by (area_at new f) refl (left f) (sums f)
  where
    by : (o : Option ℤ) → area_at new f ≡ o → IfSome o (λ area. area_at old f ≡ Some area)
        → (o ≡ None) ⊎ (sum_of_face doubled_area y f ≡ sum_of_face doubled_area x f)
        → IfSome o (λ area. area ≡ sum_of_face doubled_area y f)
    by None is at sum = tt
    by (Some area) is at (inl none) = cc
    by (Some area) is at (inr same) =
        subst (λ o. IfSome o (λ t. t ≡ sum_of_face doubled_area x f)) at (holds f) ∙ sym same

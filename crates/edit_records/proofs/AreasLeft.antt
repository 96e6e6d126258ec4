-- Areas that are left where some are forgotten, and which map's areas they are.
use Rattle.std.proofs.Common.{◌≡◌, ◌≢◌, refl, ◌⊎◌, inl, inr, List, Bool, true, false, true≢false, ℤ, sym, ap, subst, ◌∙◌, Option, None, Some}
use Rattle.std.specs.Prelude.{IfSome}
use Rattle.std.specs.List.{AllByRecursion}
use Rattle.geo_exact.specs.Measure.{doubled_area}
use Rattle.cad_rows.specs.declared.edits.Edit.{Edit}
use Rattle.cad_rows.specs.declared.names.Face.{Face}
use Rattle.cad_map.specs.Boundaries.{is_face}
use Rattle.cad_map.specs.Effects.{after}
use Rattle.cad_map.specs.Map.{Map, sum_of_face}
use Rattle.cad_map.specs.Touched.{IsTouched, Touched}
use Rattle.cad_map.proofs.CallerLemmas.{All-at_each, All-from_each, is_face-refl, is_face-same}
use Rattle.cad_laws.specs.Areas.{ended_by}
use Rattle.cad_laws.specs.Tried.{IsTried}
use Rattle.cad_laws.proofs.CallerLemmas.{sums-stand}
use Rattle.cad_near.specs.KeptAreas.{HoldsAreas, KeptAreas, area_at}
use Rattle.edit_records.proofs.AreaGains.{holds-left}

-- what is kept of the face then was kept before
abbrev pub IsLeft : KeptAreas → KeptAreas → Face → Type 0
IsLeft old new f = IfSome (area_at new f) (λ area. area_at old f ≡ Some area)

-- none is kept of any of these faces
abbrev pub KeepsNone : KeptAreas → List Face → Type 0
KeepsNone kept faces = AllByRecursion (λ f. area_at kept f ≡ None) faces

-- what is kept as it was is left
pub left-same : (old new : KeptAreas) (f : Face) → area_at new f ≡ area_at old f → IsLeft old new f
left-same old new f same = by (area_at new f) refl
  where
    by : (o : Option ℤ) → area_at new f ≡ o → IfSome o (λ area. area_at old f ≡ Some area)
    by None is = tt
    by (Some area) is = sym same ∙ is

-- what is left of what was left
pub left-both : (old mid new : KeptAreas) (f : Face) → IsLeft old mid f → IsLeft mid new f
    → IsLeft old new f
left-both old mid new f first second = by (area_at new f) second
  where
    by : (o : Option ℤ) → IfSome o (λ area. area_at mid f ≡ Some area)
        → IfSome o (λ area. area_at old f ≡ Some area)
    by None at = tt
    by (Some area) at =
        subst (λ (o : Option ℤ). IfSome o (λ area. area_at old f ≡ Some area)) at first

-- of a face of which none was kept none is left
pub none-left : (old new : KeptAreas) (f : Face) → IsLeft old new f → area_at old f ≡ None
    → area_at new f ≡ None
none-left old new f left none = by (area_at new f) refl left
  where
    by : (o : Option ℤ) → area_at new f ≡ o → IfSome o (λ area. area_at old f ≡ Some area)
        → area_at new f ≡ None
    by None is at = is
    by (Some area) is at = let never : None ≡ Some area = sym none ∙ at in absurd (cc)

-- and so of several
pub nones-left : (old new : KeptAreas) (faces : List Face) → ((f : Face) → IsLeft old new f)
    → KeepsNone old faces → KeepsNone new faces
nones-left old new faces left none =
    All-from_each (λ f. area_at new f ≡ None) faces
    (λ f h. none-left old new f (left f) (All-at_each (λ g. area_at old g ≡ None) faces f none h))

-- where one face is forgotten, all else is left
pub left-forgotten : (old new : KeptAreas) (face : Face) → area_at new face ≡ None
    → ((f : Face) → f ≢ face → area_at new f ≡ area_at old f) → (f : Face) → IsLeft old new f
left-forgotten old new face gone elsewhere f = by (is_face f face) refl
  where
    by : (v : Bool) → is_face f face ≡ v → IsLeft old new f
    by true is =
        let none = ap (area_at new) (is_face-same f face is) ∙ gone in
        subst (λ (o : Option ℤ). IfSome o (λ area. area_at old f ≡ Some area)) (sym none) tt
    by false is =
        left-same old new f (elsewhere f (λ same. true≢false (sym (is_face-refl face)
        ∙ ap (λ (g : Face). is_face g face) (sym same) ∙ is)))

-- areas that are left are still the map's
pub holds-still : (old new : KeptAreas) (m : Map) → ((f : Face) → IsLeft old new f)
    → HoldsAreas old m → HoldsAreas new m
holds-still old new m left = holds-left old new m m left (λ f. inr refl)

module _ (old new : KeptAreas) (m : Map) (e : Edit) (t : Touched) (tried : IsTried m e)
    (touched : IsTouched m (after m e) t) (faces : KeepsNone new t.faces)
    (ended : KeepsNone new (ended_by e)) (left : (f : Face) → IsLeft old new f) where
  -- of each face that the edit touches or ends none is kept, and each other keeps its area
  stands : (f : Face) → (area_at new f ≡ None)
      ⊎ (sum_of_face doubled_area (after m e) f ≡ sum_of_face doubled_area m f)
  stands f = by (area_at new f) refl
    where
      by : (o : Option ℤ) → area_at new f ≡ o → (area_at new f ≡ None)
          ⊎ (sum_of_face doubled_area (after m e) f ≡ sum_of_face doubled_area m f)
      by None is = inl is
      by (Some area) is =
          inr (sums-stand doubled_area m e t f tried touched
          (λ h. kept (All-at_each (λ g. area_at new g ≡ None) t.faces f faces h))
          (λ h. kept (All-at_each (λ g. area_at new g ≡ None) (ended_by e) f ended h)))
        where
          kept : area_at new f ≡ None → ⊥
          kept none = let never : None ≡ Some area = sym none ∙ is in absurd (cc)

  -- so areas of the map before are those of the map after
  pub holds-after : HoldsAreas old m → HoldsAreas new (after m e)
  holds-after = holds-left old new m (after m e) left stands

  -- and the other way
  pub holds-before : HoldsAreas old (after m e) → HoldsAreas new m
  holds-before =
      holds-left old new (after m e) m left
      (λ f. elim (stands f) [ inl none ↦ inl none | inr same ↦ inr (sym same) ])

module _ (old mid new : KeptAreas) (m : Map) (e : Edit) (t : Touched) (tried : IsTried m e)
    (touched : IsTouched m (after m e) t) (ended : KeepsNone mid (ended_by e))
    (first : (f : Face) → IsLeft old mid f) (faces : KeepsNone new t.faces)
    (second : (f : Face) → IsLeft mid new f) where
  still_ended : KeepsNone new (ended_by e)
  still_ended = nones-left mid new (ended_by e) second ended

  both_left : (f : Face) → IsLeft old new f
  both_left f = left-both old mid new f (first f) (second f)

  -- where first the face that the edit ends is forgotten, and then those that it touches
  pub turned-forgotten : HoldsAreas old m → HoldsAreas new (after m e)
  turned-forgotten = holds-after old new m e t tried touched faces still_ended both_left

  -- and the other way
  pub returned-forgotten : HoldsAreas old (after m e) → HoldsAreas new m
  returned-forgotten = holds-before old new m e t tried touched faces still_ended both_left

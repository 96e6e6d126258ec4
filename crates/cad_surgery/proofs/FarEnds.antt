-- Whether a side leads from one far end of the two strings at a point to the other.
use Rattle.std.proofs.Common.{◌≡◌, ℕ, sym, subst, ◌∙◌, [], ◌∷◌, true, false, true≢false, Option, Some, None}
use Rattle.std.specs.Prelude.{is_some, IfSome, IfNone}
use Rattle.cad_rows.specs.declared.edits.Edit.TheVariants.{Join}
use Rattle.cad_rows.specs.declared.refusals.Rule.TheVariants.{V4}
use Rattle.cad_rows.specs.declared.names.Face.{Face}
use Rattle.cad_rows.specs.declared.rows.StringRow.{StringRow}
use Rattle.cad_rings.specs.Cycle.{sides_of}
use Rattle.cad_map.specs.declared.boundary.Boundary.{Boundary}
use Rattle.cad_map.specs.Changes.{by_number}
use Rattle.cad_map.specs.Effects.{after}
use Rattle.cad_map.specs.Map.{Map, rings_at, strings_at, far_end, all_sides}
use Rattle.cad_map.specs.Rings.{HasWholeRings}
use Rattle.cad_map.specs.Valid.{IsValid}
use Rattle.cad_map.specs.Views.{HasSide, IsNoSide}
use Rattle.cad_map.proofs.CallerLemmas.{beside, has_side-Contains, Contains-has_side, Contains-flat_map, opposite-in_all, none_broken}
use Rattle.std.specs.Prelude.{flat_map}
use Rattle.cad_laws.specs.Joining.{AreNotJoined, FarEndsAreApart}
use Rattle.cad_laws.specs.Tried.{IsTried}
use Rattle.cad_laws.proofs.CallerLemmas.{join-breaks}

-- two points that no side leads between
no-side : (m : Map) → HasWholeRings m → (a b : ℕ) → IsNoSide m (a, b) → AreNotJoined m a b
no-side m whole a b isnt = record {
  forth = λ h. true≢false (sym (Contains-has_side (a, b) (all_sides m) h) ∙ isnt);
  back = λ h. true≢false (sym (Contains-has_side (a, b) (all_sides m) (opposite-in_all m whole (b, a) h)) ∙ isnt);
}

some-side : (m : Map) (f : Face) (a b : ℕ) → HasSide m f (a, b) → ¬ AreNotJoined m a b
some-side m f a b has look =
    let k = beside f (a, b) m.boundaries (has_side-Contains (a, b) (flat_map sides_of (rings_at f m.boundaries)) has) in
    look.forth (Contains-flat_map (λ (r : Boundary). sides_of r.ring) m.boundaries k.boundary (a, b) k.there k.has)

module _ (m : Map) (whole : HasWholeRings m) (p : ℕ) (s t : StringRow) (are : by_number (strings_at m p) ≡ s ∷ t ∷ [])
    (found : Option Face) where
  pub told-apart : IfNone found (IsNoSide m (far_end s p, far_end t p)) → is_some found ≡ false
      → (new : ℕ) → FarEndsAreApart m (Join p new)
  told-apart told isnt new = by found told isnt
    where
      by : (o : Option Face) → IfNone o (IsNoSide m (far_end s p, far_end t p)) → is_some o ≡ false → FarEndsAreApart m (Join p new)
      by (Some f) told isnt = cc
      by None told isnt = λ u v is.
          let same : s ∷ t ∷ [] ≡ u ∷ v ∷ [] = sym are ∙ is in
          let one : s ≡ u = cc in
          let other : t ≡ v = cc in
          subst (λ (q : StringRow × StringRow). AreNotJoined m (far_end q.0 p) (far_end q.1 p)) (λ i. (one i, other i))
          (no-side m whole (far_end s p) (far_end t p) told)

  pub told-joined : IfSome found (λ f. HasSide m f (far_end s p, far_end t p)) → is_some found ≡ true
      → (new : ℕ) → ¬ FarEndsAreApart m (Join p new)
  told-joined told there new look = by found told there
    where
      by : (o : Option Face) → IfSome o (λ f. HasSide m f (far_end s p, far_end t p)) → is_some o ≡ true → ⊥
      by None told there = cc
      by (Some f) told there = some-side m f (far_end s p) (far_end t p) told (look s t are)

-- ---- Where the join leads to a valid map

-- a join that breaks no rule has been looked at
pub leads-apart : (m : Map) (p new : ℕ) → IsTried m (Join p new) → IsValid (after m (Join p new))
    → FarEndsAreApart m (Join p new)
leads-apart m p new tried valid = λ s t are. record {
  forth = λ h. never (λ look. (look s t are).forth h);
  back = λ h. never (λ look. (look s t are).back h);
}
  where
    never : ¬ ¬ FarEndsAreApart m (Join p new)
    never none =
        none_broken (after m (Join p new)) V4 valid (join-breaks m p new tried.valid tried.given tried.allowed none)

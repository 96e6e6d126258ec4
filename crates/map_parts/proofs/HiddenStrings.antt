-- Loose strings that a table has beside those of its map.
use Rattle.std.proofs.Common.{◌≡◌, ap, ◌∙◌, List, Bool, true, if◌then◌else◌, nat_eq}
use Rattle.std.specs.List.{AllByRecursion, Contains, list_any}
use Rattle.std.proofs.lemmas.Cmp.{nat_eq_equiv}
use Rattle.cad_rows.specs.declared.rows.StringRow.{StringRow}
use Rattle.cad_map.specs.Map.{Map}
use Rattle.cad_map.proofs.CallerLemmas.{All-at_each, All-from_each, Contains-map, list_any-Contains}
use Rattle.half_table.specs.declared.half.Half.{Half}
use Rattle.half_table.specs.Half.{twin, forward_of, backward_of}
use Rattle.half_table.specs.Rows.{HalfRows, IsLinked, has, next}
use Rattle.half_table.proofs.Halves.{twin-twin}
use Rattle.half_paths.specs.Loose.{numbers_of, is_of, HasEnds, AddsStrings}
use Rattle.key_lists.specs.Held.{Held}
use Rattle.map_parts.specs.Parts.{HasHalves}
use Rattle.map_parts.specs.Passing.{FitTable, kept_in}
use Rattle.map_parts.specs.Shown.{KeepsShown}
use Rattle.map_parts.proofs.KeptShown.{local-kept, faces-kept, ends-kept, rings-kept}

-- a table is that of the map still, whatever became of the other strings
pub fit-shown : (m : Map) (old new : HalfRows) (held : Held Half) → KeepsShown m old new → IsLinked new
    → FitTable m old held → FitTable m new held
fit-shown m old new held keeps linked fits = record {
  local = local-kept m old new keeps.has keeps.next keeps.origin linked fits.local;
  ends = ends-kept m old new keeps.has keeps.next keeps.origin fits.ends;
  faces = faces-kept m old new keeps.has keeps.next keeps.origin keeps.face fits.faces;
  kept = rings-kept m old new keeps.has keeps.next keeps.origin (kept_in m held) fits.kept;
  no_face = fits.no_face;
}

module _ (added : List StringRow) (old new : HalfRows) (adds : AddsStrings added old new) where
  own : (s : StringRow) → Contains added s → list_any (nat_eq s.number) (numbers_of added) ≡ true
  own s there =
      list_any-Contains (nat_eq s.number) (numbers_of added) s.number
      (Contains-map (λ (s : StringRow). s.number) added s there) (nat_eq_equiv.refl s.number)

  -- the strings that were added are there, from end to end
  pub added-halves : AllByRecursion (HasHalves new) added
  added-halves = All-from_each (HasHalves new) added (λ s there.
      let ends = All-at_each (HasEnds new) added s adds.ends there in
      let is = own s there in
      record {
        there = adds.has (forward_of s.number) ∙ ap (λ (b : Bool). if b then true else has old (forward_of s.number)) is;
        back = adds.has (backward_of s.number) ∙ ap (λ (b : Bool). if b then true else has old (backward_of s.number)) is;
        from = ends.0;
        to = ends.1;
      })

  -- and loose
  pub added-loose : (h : Half) → is_of (numbers_of added) h ≡ true
      → (next new h ≡ twin h) × (next new (twin h) ≡ h)
  added-loose h is = (
    adds.next h ∙ ap (λ (b : Bool). if b then twin h else next old h) is,
    adds.next (twin h) ∙ ap (λ (b : Bool). if b then twin (twin h) else next old (twin h)) is ∙ twin-twin h,
  )

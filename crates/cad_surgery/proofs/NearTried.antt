-- The look near an edit that is tried on a map on half-edges.
use Rattle.std.proofs.Common.{◌≡◌, sym, subst, ◌∙◌}
use Rattle.cad_rows.specs.declared.edits.Edit.{Edit}
use Rattle.cad_rows.specs.declared.refusals.Refusal.TheVariants.{Breaks}
use Rattle.cad_rows.specs.declared.refusals.Rule.{Rule}
use Rattle.cell_grid.specs.Grid.{Grid}
use Rattle.cad_map.specs.Effects.{after}
use Rattle.cad_map.specs.Map.{Map}
use Rattle.cad_map.specs.Outcome.{MayRefuse, refused, breaking}
use Rattle.cad_map.specs.Touched.{IsTouched}
use Rattle.cad_map.specs.Valid.{IsValid, CanBeTested, FirstBroken, KeepsAll}
use Rattle.cad_map.proofs.CallerLemmas.{valid-from_kept}
use Rattle.cad_near.specs.KeptAreas.{KeptAreas, HoldsAreas}
use Rattle.cad_near.specs.Near.{HoldsMap, ComesFromValid, touched_of}
use Rattle.cad_near.specs.declared.Touched.{Touched as Listed}
use Rattle.map_parts.specs.Parts.{Parts, map_of}
use Rattle.cad_surgery.specs.Trials.{IsReadyFor}
use Rattle.cad_surgery.proofs.Played.{tested}

module _ {v : Parts} {e : Edit} {areas : KeptAreas} {listed : Listed} (ready : IsReadyFor e v areas listed) {made : Map} (is : made ≡ after (map_of v) e) where
  -- what it asks for
  pub near-tested : CanBeTested made
  near-tested = subst CanBeTested (sym is) (tested (map_of v) e ready.tried)

  pub near-held : (seen grid : Grid) → seen ≡ grid → grid ≡ v.grid → HoldsMap seen made
  near-held seen grid same own =
      subst (λ (s : Grid). HoldsMap s made) (sym (same ∙ own)) (subst (HoldsMap v.grid) (sym is) ready.held)

  pub near-areas : HoldsAreas areas made
  near-areas = subst (HoldsAreas areas) (sym is) ready.areas

  pub near-touched : ComesFromValid (touched_of listed) made
  near-touched = record {
    before = map_of v;
    valid = ready.tried.valid;
    touched = subst (λ (m : Map). IsTouched (map_of v) m (touched_of listed)) (sym is) ready.touched;
  }

  -- and what it tells
  pub near-refused : {rule : Rule} → FirstBroken made rule → MayRefuse (map_of v) e (Breaks rule)
  near-refused {rule} broken =
      refused (breaking ready.tried.allowed (subst (λ (m : Map). FirstBroken m rule) is broken))

  pub near-valid : KeepsAll made → {now : Map} → now ≡ made → IsValid now
  near-valid keeps same =
      subst IsValid (sym (same ∙ is))
      (valid-from_kept (after (map_of v) e) (tested (map_of v) e ready.tried) (subst KeepsAll is keeps))

-- An edit that is played on a map on half-edges.
use Rattle.std.proofs.Common.{◌≡◌, [], refl, sym, ap, ◌∙◌, subst, None}
use Rattle.std.specs.Prelude.{IsTrue, Result, Ok, Err, IsOk, OnOk}
use Rattle.cad_rows.specs.declared.edits.Edit.{Edit}
use Rattle.cad_map.specs.Effects.{after}
use Rattle.cad_map.specs.Map.{Map}
use Rattle.cad_map.specs.Refusals.{first_refusal}
use Rattle.cad_map.specs.Touched.{IsTouched}
use Rattle.cad_map.specs.Valid.{IsValid, CanBeTested}
use Rattle.cad_map.proofs.CallerLemmas.{kept, valid-from_kept}
use Rattle.cell_grid.specs.Together.{Listed}
use Rattle.cad_laws.specs.Touching.{touching, touched_by}
use Rattle.cad_laws.specs.Tried.{IsTried}
use Rattle.cad_laws.proofs.CallerLemmas.{touched-after}
use Rattle.cad_near.proofs.CallerLemmas.{kept-untouched}
use Rattle.edit_records.specs.Exchanged.{IsExchange}
use Rattle.edit_records.specs.GridEdits.{gone_by, come_by}
use Rattle.edit_records.specs.GridLists.{AreEntries}
use Rattle.edit_records.specs.Record.{edit_of, Holds, IsPlaced, IsMadeOf}
use Rattle.edit_records.specs.declared.record.SmallRecord.{SmallRecord}
use Rattle.edit_records.specs.declared.record.SmallRecord.TheVariants.{AddSource, AddPoint, DropPoint, Split, Join, Divide, MergeAlong, MergeIsland, Move, Attach, Detach, Rename, Enclose}
use Rattle.cad_surgery.specs.RowEdits.{is_of_rows}
use Rattle.edit_records.proofs.EditExchanges.{exchanged}
use Rattle.edit_records.proofs.GridLists.{exchange-listed}

-- where no point comes or moves, an edit of rows touches nothing
untouched : (m : Map) (r : SmallRecord) → IsTrue (is_of_rows (edit_of r)) → ¬ IsPlaced r → touched_by m (edit_of r) ≡ touching [] [] []
untouched m (AddSource row) alone off = refl
untouched m (AddPoint p at) alone off = absurd (off tt)
untouched m (DropPoint row place) alone off = refl
untouched m (Split row place p at first second) alone off = cc
untouched m (Join row place first i second j string) alone off = cc
untouched m (Divide face chain strings parcel label source start end moved) alone off = cc
untouched m (MergeAlong kept row place chain strings start end moved) alone off = cc
untouched m (MergeIsland kept row place points strings moved) alone off = cc
untouched m (Enclose face points strings parcel label source moved) alone off = cc
untouched m (Move p from to) alone off = absurd (off tt)
untouched m (Attach i s) alone off = refl
untouched m (Detach i s place) alone off = refl
untouched m (Rename p from to) alone off = refl

module _ (m : Map) (e : Edit) (tried : IsTried m e) where
  pub tested : CanBeTested (after m e)
  tested = kept m e tried.valid tried.given tried.allowed

  -- and breaks no rule
  pub valid-untouched : (r : SmallRecord) → edit_of r ≡ e → IsTrue (is_of_rows e) → ¬ IsPlaced r → IsValid (after m e)
  valid-untouched r is alone off =
      let none : touched_by m e ≡ touching [] [] [] =
      ap (touched_by m) (sym is) ∙ untouched m r (subst (λ (f : Edit). IsTrue (is_of_rows f)) (sym is) alone) off in
      let touched : IsTouched m (after m e) (touching [] [] []) =
      subst (IsTouched m (after m e)) none (touched-after m e tried.valid tried.given tried.allowed) in
      valid-from_kept (after m e) tested (kept-untouched m (after m e) tried.valid tested touched)

  -- what its record says is of the edit as it is made
  pub made-of : (r : SmallRecord) → edit_of r ≡ e → Holds r m → IsMadeOf r m
  made-of r is holds = record { valid = tried.valid; allowed = subst (λ (f : Edit). first_refusal m f ≡ None) (sym is) tried.allowed; holds = holds }

  -- what it takes out of the grid and puts in
  pub listed : (gone come : Listed) → AreEntries (gone_by m e) gone → AreEntries (come_by m e) come → IsExchange m gone come (after m e)
  listed gone come goes comes = exchange-listed m (after m e) (gone_by m e) (come_by m e) gone come (exchanged m e tried) goes comes

-- what holds of a call that succeeds, where it does
pub sure-ok : {T E X : Type 0} (o : Result T E) → IsOk o → OnOk o X → X
sure-ok (Ok t) sure held = held
sure-ok (Err e) sure held = cc

use Rattle.std.proofs.Common.{◌∙◌, sym, ap, subst, ℕ, List}
use Rattle.cad_rows.specs.declared.edits.Edit.TheVariants.{Merge}
use Rattle.cad_rows.specs.declared.names.Face.TheVariants.{Parcel}
use Rattle.cad_rows.specs.declared.rows.ParcelRow.{ParcelRow}
use Rattle.cad_map.specs.Outcome.{out_of_memory}
use Rattle.cad_map.proofs.CallerLemmas.{found-number}
use Rattle.half_table.specs.declared.half.Half.{Half}
use Rattle.edit_records.specs.Record.{edit_of, Holds}
use Rattle.edit_records.specs.declared.record.ChainString.{ChainString}
use Rattle.edit_records.specs.declared.record.SmallRecord.{SmallRecord}
use Rattle.map_parts.specs.Parts.{FitTogether, map_of}
use Rattle.cad_surgery.specs.ChainStrings.{with_halves}
use Rattle.cad_surgery.specs.Merging.{HasFound, HasShared}
use Rattle.cad_surgery.specs.ToldMergers.{HeldMerger}
use Rattle.cad_surgery.proofs.RecordedMergers.{found-shared, held-by, merger-edit, merger-holds}
use Rattle.cad_surgery.proofs.Trials.{stays, passes-on, played-with}
use Rattle.cad_surgery.proofs.edits.try_merge.merge_recording.Goals as goal

pub returns-in_default : goal.returns-in_default
returns-in_default g c = stays _ _ _ _ c.requires.ready (out_of_memory c.requires.ready.tried.allowed)

pub returns-in_default-with_capacity : goal.returns-in_default-with_capacity
returns-in_default-with_capacity g c = stays _ _ _ _ c.requires.ready (out_of_memory c.requires.ready.tried.allowed)

pub merge_within_rules-requires-clause-shared : goal.merge_within_rules-requires-clause-shared
merge_within_rules-requires-clause-shared g c =
    let d = c.args.draft.now in
    let it = c.in-Ok.shared in
    subst (λ (t : List Half × List Half). HasShared it.way (map_of d) d.table.rows c.args.kept c.args.ended t.0 t.1)
    (λ i. (sym c.as_slice.ensures.value i, sym c.as_slice-3.ensures.value i))
    (found-shared it.way (map_of d) d.table.rows c.args.kept c.args.ended it.path.items it.points it.moved.items c.in-Ok.ensures.found)

pub returns-in_err-gone : goal.returns-in_err-gone
returns-in_err-gone g c = passes-on _ c.from_residual.ensures c.in_err-gone.ensures.played

pub returns : goal.returns
returns g c =
    let d = c.args.draft.now in
    let m = map_of d in
    let it = c.in-Ok.shared in
    let gone = c.in_ok-gone.gone in
    let number = found-number (λ (r : ParcelRow). r.number) c.args.ended m.parcels gone.row c.in_ok-gone.ensures.gone.found in
    record {
      played = played-with c.in_ok-gone.ensures.played;
      edit = ap edit_of c.record_of_merger.ensures ∙ merger-edit it.way c.args.kept gone.row gone.place it.points c.chain_strings.new.strings it.moved ∙ ap (λ (n : ℕ). Merge c.args.kept (Parcel n)) number;
      holds = let fit = subst FitTogether c.draft.view_is c.draft.invariant in
          let found = subst (λ (n : ℕ). HasFound it.way m d.table.rows c.args.kept n it.path.items it.points it.moved.items) (sym number) c.in-Ok.ensures.found in
          let told =
          held-by m d.table.rows fit.ends c.args.kept gone.row gone.place it.path.items it.points it.moved.items gone.strings.items
          (c.in_ok-gone.ensures.gone.numbers ∙ c.as_slice-2.ensures.value ∙ c.in-Ok.ensures.strings) c.in_ok-gone.ensures.gone.stood c.in_ok-gone.ensures.gone.row it.way found in
          subst (λ (r : SmallRecord). Holds r m) (sym c.record_of_merger.ensures) (merger-holds it.way c.args.kept gone.row gone.place it.points c.chain_strings.new.strings it.moved m
          (subst (λ (l : List ChainString). HeldMerger it.way m c.args.kept gone.row gone.place it.points l it.moved.items)
          (sym (c.chain_strings.ensures ∙ (λ i. with_halves (c.as_slice-4.ensures.value i) gone.strings.items))) told));
    }

use Rattle.std.proofs.Common.{map, subst, sym}
use Rattle.std.specs.Prelude.{IsPermutation}
use Rattle.cad_rows.specs.declared.edits.Edit.TheVariants.{Merge}
use Rattle.cad_map.specs.Spans.{span_of}
use Rattle.cad_laws.specs.Counts.{shared_strings}
use Rattle.edit_records.proofs.GridEdits.{beside, if-ok}
use Rattle.edit_records.proofs.SharedStrings.{all-shared}
use Rattle.edit_records.proofs.shared_strings.strings_shared.Goals as goal

pub returns : goal.returns
returns g c =
    let m = g.M.MapView.map c.args.map.now in
    let kept = c.args.kept.now in
    let ended = c.args.ended.now in
    let spans = c.in_ok-spans.ensures in
    let all = all-shared m kept ended c.requires c.in_ok-spans.spans.items spans.strings spans.few in
    if-ok c.several_strings.result (λ l gone. gone m kept ended (beside m (Merge kept ended) c.requires)
    (subst (IsPermutation (map span_of (shared_strings m kept ended))) (sym c.as_slice.ensures.value) all)) c.several_strings.ensures

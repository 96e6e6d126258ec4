use Rattle.std.proofs.Common.{sym, ap, ◌∙◌, Bool}
use Rattle.std.specs.Prelude.{if◌then◌else◌}
use Rattle.cad_rows.specs.declared.rows.StringRow.{StringRow}
use Rattle.numbered_rows.specs.Rows.{rows_in}
use Rattle.cad_map.specs.Map.{is_end}
use Rattle.cad_map.proofs.Lists.EachElement.{count-next}
use Rattle.cad_map.proofs.look.strings_with.Goals as goal

pub loop-place-preserved : goal.loop-place-preserved
loop-place-preserved c =
    count-next (λ (s : StringRow). is_end s c.args.point) (rows_in c.args.strings.now) c.loop-place.place c.unwrap-row.result.now c.loop-place.count c.one_if-count.result _
    (sym (rw c.unwrap-row.ensures at c.at.ensures)) (c.one_if-count.ensures ∙ ap (λ (b : Bool). if b then 1 else 0) c.is_end.ensures) c.loop-place.invariant

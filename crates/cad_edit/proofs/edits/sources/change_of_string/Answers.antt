use Rattle.std.proofs.Common.{sym}
use Rattle.cad_rows.specs.declared.rows.StringRow.{StringRow}
use Rattle.cad_map.proofs.CallerLemmas.{found-again}
use Rattle.cad_edit.proofs.edits.sources.change_of_string.Goals as goal

pub set_string-requires : goal.set_string-requires
set_string-requires c =
    rw c.in_ok-row.ensures (found-again (λ (r : StringRow). r.number) c.args.no c.args.map.now.strings c.in-Some.row.now (sym c.in-Some.ensures))

use Rattle.std.proofs.Common.{ap, map}
use Rattle.cad_rows.specs.declared.rows.StringRow.{StringRow}
use Rattle.cad_map.proofs.CallerLemmas.{two-joined}
use Rattle.cad_edit.proofs.edits.join.strings_of.Goals as goal

pub two_at-requires-clause-two : goal.two_at-requires-clause-two
two_at-requires-clause-two g c = two-joined (g.M.MapView.map c.args.map.now) c.in-Join.point c.in-Join.string (rw c.in-Join.is at c.requires.two)

pub returns : goal.returns
returns g c = rw c.in-Join.is (ap (map (λ (r : StringRow). r.number)) c.two_at.ensures)

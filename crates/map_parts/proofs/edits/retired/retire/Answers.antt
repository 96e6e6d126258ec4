use Rattle.numbered_rows.specs.Rows.{rows_in}
use Rattle.map_parts.proofs.Retired.{none-retired}
use Rattle.map_parts.proofs.edits.retired.retire.Goals as goal

pub put_last-requires-clause-absent : goal.put_last-requires-clause-absent
put_last-requires-clause-absent c = none-retired c.args.parcel (rows_in c.args.rows.now.retired) c.requires.fresh

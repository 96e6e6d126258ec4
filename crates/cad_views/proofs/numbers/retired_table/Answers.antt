use Rattle.std.proofs.Common.{[]}
use Rattle.cad_views.proofs.numbers.retired_table.Goals as goal

pub returns : goal.returns
returns c =
    let first = c.in_ok-write_record.ensures [] c.writer-out.ensures in
    let last = c.in_ok-write_all_retired.ensures _ first in
    c.in_ok-text.ensures _ last

use Rattle.std.proofs.Common.{rules}
use Rattle.half_table.proofs.Changed.{links-put}
use Rattle.half_table.proofs.rows.set_links.Goals as goal

pub returns : goal.returns
returns c =
    links-put c.args.rows.now c.change_links.new.rows c.args.h.now c.change_links.result c.args.prev.now c.args.next.now c.args.face.now
    (c.change_links.ensures.was, search rules)

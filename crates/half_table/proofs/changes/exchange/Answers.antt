use Rattle.std.proofs.Common.{◌∙◌, ap}
use Rattle.half_table.specs.Rows.{has}
use Rattle.half_table.proofs.Spliced.{spliced, spliced-linked}
use Rattle.half_table.proofs.Laws.{spliced-cycles, spliced-twice, spliced-same}
use Rattle.half_table.proofs.changes.exchange.Goals as goal

pub set_prev-requires : goal.set_prev-requires
set_prev-requires c =
    c.set_next.ensures.changes.has _ ∙ c.set_next-after_b.ensures.changes.has _ ∙ ap (has c.args.rows.now) c.set_next-after_b.ensures.was
    ∙ c.requires.linked.inside c.args.b.now ∙ c.requires.b_in

pub set_prev-requires-2 : goal.set_prev-requires-2
set_prev-requires-2 c =
    c.set_prev.ensures.changes.has _ ∙ c.set_next.ensures.changes.has _ ∙ c.set_next-after_b.ensures.changes.has _ ∙ ap (has c.args.rows.now) c.next_half-after_a.ensures
    ∙ c.requires.linked.inside c.args.a.now ∙ c.requires.a_in

pub returns : goal.returns
returns c =
    let s = spliced c.args.rows.now c.set_next-after_b.new.rows c.set_next.new.rows c.set_prev.new.rows c.set_prev-2.new.rows
    c.args.a.now c.args.b.now c.next_half-after_a.result c.set_next-after_b.result c.next_half-after_a.ensures c.set_next-after_b.ensures.was c.requires.linked
    c.set_next-after_b.ensures.changes c.set_next.ensures.changes c.set_prev.ensures.changes c.set_prev-2.ensures.changes in
    let linked = spliced-linked _ _ _ _ c.requires.linked c.requires.a_in c.requires.b_in s in
    record {
      spliced = s;
      cycles = spliced-cycles _ _ _ _ s linked c.requires.a_in c.requires.b_in;
      linked = linked;
      back = record { restored = spliced-twice _ _ _ _ s };
      unchanged = spliced-same _ _ _ _ s;
    }

pub set_next-requires : goal.set_next-requires
set_next-requires c = c.set_next-after_b.ensures.changes.has _ ∙ c.requires.a_in

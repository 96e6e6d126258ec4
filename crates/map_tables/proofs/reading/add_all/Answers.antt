use Rattle.map_tables.proofs.TableFacts.{with_one_more}
use Rattle.map_tables.proofs.reading.add_all.Goals as goal

pub loop-item-preserved : goal.loop-item-preserved
loop-item-preserved g c =
    with_one_more g.T.PlanItem.row_of c.args.rows.now c.loop-item.rows c.add.new.self c.loop-item.yielded c.in-Some.item c.into_row.result c.loop-item.invariant (c.in_ok-add.ensures.added c.if-not-branch.false) c.into_row.ensures

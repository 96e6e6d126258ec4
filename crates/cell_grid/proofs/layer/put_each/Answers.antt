use Rattle.std.proofs.Common.{◌<◌, subst}
use Rattle.cell_grid.specs.Cells.{cell_count}
use Rattle.cell_grid.proofs.Spreading.{put-more}
use Rattle.cell_grid.proofs.Spreads.{went-in, came-out}
use Rattle.cell_grid.proofs.layer.put_each.Goals as goal

pub take_each-requires-clause-there : goal.take_each-requires-clause-there
take_each-requires-clause-there c =
    went-in c.args.block.now c.loop-place.place c.args.entry.now c.args.lists.now
    c.loop-place.lists c.push.new.self c.loop-place.invariant c.in-Err.ensures.err

pub returns-in-Err-clause-err : goal.returns-in-Err-clause-err
returns-in-Err-clause-err c =
    came-out c.args.block.now c.loop-place.place c.args.entry.now c.args.lists.now
    c.loop-place.lists c.push.new.self c.loop-place.invariant c.in-Err.ensures.err
    c.take_each.new.lists c.take_each.ensures

pub loop-place-preserved : goal.loop-place-preserved
loop-place-preserved c =
    let within : c.loop-place.place < cell_count c.args.block.now =
    subst (λ n. c.loop-place.place < n) c.cell_count-place-end.ensures c.loop-place-test.true
    in
    let told = rw c.cell_at.ensures at c.in_default.ensures in
    put-more c.args.block.now c.requires c.loop-place.place within _ c.loop-place.lists
    c.push.new.self c.args.entry.now c.loop-place.invariant told.items told.others

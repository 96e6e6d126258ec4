use Rattle.std.proofs.Common.{◌<◌, arith}
use Rattle.cell_grid.specs.Cells.{cell_count}
use Rattle.cell_grid.proofs.Spreading.{take-more, taken-there}
use Rattle.cell_grid.proofs.layer.take_each.Goals as goal

pub take-requires : goal.take-requires
take-requires c =
    let within : c.loop-turn.turn < cell_count c.args.block.now = omega arith in
    rw c.cell_at.ensures (taken-there c.args.block.now c.requires.block c.loop-turn.turn within _
    c.loop-turn.lists c.args.entry.now c.loop-turn.invariant
    (c.requires.there c.loop-turn.turn c.loop-turn-test.true))

pub loop-turn-preserved : goal.loop-turn-preserved
loop-turn-preserved c =
    let within : c.loop-turn.turn < cell_count c.args.block.now = omega arith in
    let told = rw c.cell_at.ensures at c.take.ensures in
    take-more c.args.block.now c.requires.block c.loop-turn.turn within _ c.loop-turn.lists
    c.take.new.self c.args.entry.now c.loop-turn.invariant told.items told.others

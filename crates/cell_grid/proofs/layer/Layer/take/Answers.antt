use Rattle.std.proofs.Common.{rules, subst}
use Rattle.cell_grid.specs.Cells.{IsBlock}
use Rattle.cell_grid.specs.Spread.{block_at}
use Rattle.cell_grid.proofs.Spreads.{stands-each, stands-take, spread-take}
use Rattle.cell_grid.proofs.layer.Layer.take.Goals as goal

pub take_each-requires-clause-there : goal.take_each-requires-clause-there
take_each-requires-clause-there c =
    let old = c.args.self.now in
    let is_block : IsBlock (block_at old.size c.args.entry.now) =
    subst IsBlock c.block_of-block.ensures.value c.block_of-block.ensures.block in
    rw (c.cell_count.ensures, c.block_of-block.ensures.value) (stands-each old.size c.args.entry.now
    is_block old.lists c.requires.spread c.requires.there)

pub returns : goal.returns
returns c =
    let old = c.args.self.now in
    let e = c.args.entry.now in
    let is_block : IsBlock (block_at old.size e) =
    subst IsBlock c.block_of-block.ensures.value c.block_of-block.ensures.block in
    let out =
    rw (c.cell_count.ensures, c.block_of-block.ensures.value) at c.take_each.ensures in
    record {
      size = search rules;
      spread = spread-take old.size e is_block old.lists c.take_each.new.lists c.requires.spread out;
      taken = stands-take old.size e is_block old.lists c.take_each.new.lists c.requires.spread out;
    }

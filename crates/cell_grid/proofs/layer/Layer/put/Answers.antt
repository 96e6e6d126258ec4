use Rattle.std.proofs.Common.{rules, subst}
use Rattle.cell_grid.specs.Cells.{IsBlock}
use Rattle.cell_grid.specs.Spread.{block_at}
use Rattle.cell_grid.proofs.Levels.{on_ok, on_err, in_either}
use Rattle.cell_grid.proofs.Spreads.{stands-same, spread-same, stands-put, spread-put}
use Rattle.cell_grid.proofs.layer.Layer.put.Goals as goal

pub returns : goal.returns
returns c =
    let old = c.args.self.now in
    let e = c.args.entry in
    let r = c.put_each.result in
    let new = c.put_each.new.lists in
    let is_block : IsBlock (block_at old.size e) =
    subst IsBlock c.block_of-block.ensures.value c.block_of-block.ensures.block in
    let told = rw c.block_of-block.ensures.value at c.put_each.ensures in
    record {
      size = search rules;
      spread = in_either r (spread-put old.size e is_block old.lists new c.requires.spread
          c.requires.sound c.requires.other)
          (λ same. spread-same old.lists new same old.size c.requires.spread) told.put told.err;
      put = on_ok r (stands-put old.size e is_block old.lists new c.requires.spread c.requires.sound
          c.requires.other) told.put;
      err = on_err r (stands-same old.lists new) told.err;
    }

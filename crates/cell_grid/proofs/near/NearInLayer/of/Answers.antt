use Rattle.std.proofs.Common.{arith}
use Rattle.cell_grid.proofs.Found.{given-stands, given-all}
use Rattle.cell_grid.proofs.near.NearInLayer.of.Goals as goal

pub invariant_of-result : goal.invariant_of-result
invariant_of-result c = record {
  block = c.scope_of-scope.ensures.is_block;
  within = omega arith;
  end = c.searched_count.ensures;
}

pub returns-clause-held : goal.returns-clause-held
returns-clause-held c =
    rw c.requires.bounds (given-stands c.args.layer.now.lists c.args.from c.args.to c.scope_of-scope.result)

pub returns-clause-all : goal.returns-clause-all
returns-clause-all c =
    rw c.requires.bounds (given-all c.args.layer.now.lists c.args.from c.args.to c.scope_of-scope.result
    c.args.layer.now.size c.requires.spread c.scope_of-scope.ensures
    c.requires.on_from c.requires.on_to)

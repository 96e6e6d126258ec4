use Rattle.std.proofs.Common.{◌≡◌, ◌∙◌, ap, false, replicate, length, arith}
use Rattle.cad_files.specs.Pool.{untaken_sides}
use Rattle.cad_files.proofs.PoolFacts.{all-left}
use Rattle.cad_files.proofs.side_pool.SidePool.of.Goals as goal

pub returns-clause-left : goal.returns-clause-left
returns-clause-left c =
    let all : c.loop.counter ≡ length c.args.sides.items = omega arith in
    ap (untaken_sides c.args.sides.items) (c.loop.invariant ∙ ap (λ n. replicate n false) all) ∙ all-left c.args.sides.items

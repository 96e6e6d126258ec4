use Rattle.std.proofs.Common.{length, ◌≤◌, arith}
use Rattle.std.proofs.lemmas.List.{drop_all}
use Rattle.cad_rings.specs.Cycle.{sides_of}
use Rattle.cad_rings.proofs.CallerLemmas.{length-sides_of}
use Rattle.cad_rings.proofs.sides.SidesIterator.next.Goals as goal

pub returns-else-self-clause-steps : goal.returns-else-self-clause-steps
returns-else-self-clause-steps c =
    let sides = sides_of c.args.self.now.points.now in
    let past : length sides ≤ c.args.self.now.given = let e = length-sides_of c.args.self.now.points.now in omega arith in
    (drop_all c.args.self.now.given sides past, drop_all c.args.self.now.given sides past)

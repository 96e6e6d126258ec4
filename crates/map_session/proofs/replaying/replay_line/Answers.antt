use Rattle.std.proofs.Common.{refl, subst}
use Rattle.csv.specs.Records.{fields_of}
use Rattle.map_session.specs.Session.{IsDoneIf}
use Rattle.map_session.proofs.replaying.replay_line.Goals as goal

pub returns-in_ok-taken-in-Some : goal.returns-in_ok-taken-in-Some
returns-in_ok-taken-in-Some g c done h stands =
    let (end, answered, is, after) = c.in_ok-taken-in-Some.ensures h stands in
    (end, (fields_of c.in-Some.row, end, rw c.in-Some.is at c.in_ok-row.ensures, subst (λ d. IsDoneIf d h (fields_of c.in-Some.row) end) done is, refl), after)

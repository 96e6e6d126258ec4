use Rattle.sweep.proofs.PartFacts.{halves-from}
use Rattle.sweep.proofs.part.halves_along.Goals as goal

pub returns-then-left-pairs : goal.returns-then-left-pairs
returns-then-left-pairs c = halves-from c.args.parts.now c.args.upwards c.in_ok-middle.middle c.in_ok-below.field-0 c.in_ok-reaching.field-0 c.in_ok-below.ensures c.in_ok-reaching.ensures

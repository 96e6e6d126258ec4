use Rattle.sweep.proofs.SortedKeys.{then_follows, then_precedes, else_precedes}
use Rattle.sweep.proofs.repeats.least_behind_equal.Goals as goal
use Rattle.sweep.proofs.repeats.least_behind_equal.Goals.{then-keyed-at, else-keyed-at}

pub loop-at-preserved : goal.loop-at-preserved
loop-at-preserved c =
    let ys = c.args.keyed.now in
    let n = c.loop-at.at in
    elim c.if-keyed-at.branch [
      | then-keyed-at w ↦ rw (w.least-is, w.min.ensures, w.unwrap_or.ensures) record {
        some = then_follows ys n _ c.loop-at.auto.at c.loop-at-test.true c.loop-at.least w.if-keyed-at.true c.loop-at.invariant.some;
        least = then_precedes ys n _ c.loop-at.auto.at c.loop-at-test.true c.loop-at.least c.loop-at.invariant.least;
      }
      | else-keyed-at w ↦ rw w.least-is record {
        some = c.loop-at.invariant.some;
        least = else_precedes ys n _ c.loop-at.auto.at c.loop-at-test.true c.loop-at.least w.if-keyed-at.false c.loop-at.invariant.least;
      }
    ]

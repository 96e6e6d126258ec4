use Rattle.std.proofs.Common.{arith, length, ◌+◌, ◌<◌}
use Rattle.entry_list.specs.Totals.{total_before}
use Rattle.entry_list.proofs.Totals.{total-more, mark_within}
use Rattle.entry_list.proofs.marks.place_past.Goals.{At-loop-place}
use Rattle.entry_list.proofs.marks.place_past.Goals as goal

-- the place that is looked at is one
place_there : (c : goal.At-loop-place) → c.loop-place.place < length c.args.items.now
place_there c =
    mark_within c.loop-place.place (total_before c.args.from c.args.items.now + c.args.sum) _
    (omega (arith, c.loop-place.invariant)) c.requires

pub bounds-items-place : goal.bounds-items-place
bounds-items-place c = place_there (goal.at.bounds-items-place c).At-loop-place

pub bounds-items-place-in-loop-place : goal.bounds-items-place-in-loop-place
bounds-items-place-in-loop-place c =
    place_there (goal.at.bounds-items-place-in-loop-place c).At-loop-place

pub overflow_add-place : goal.overflow_add-place
overflow_add-place c =
    omega (arith, place_there (goal.at.overflow_add-place c).At-loop-place)

pub loop-place-smaller : goal.loop-place-smaller
loop-place-smaller c =
    omega (arith, place_there (goal.at.loop-place-smaller c).At-loop-place)

pub loop-place-preserved : goal.loop-place-preserved
loop-place-preserved c =
    omega (
      arith,
      c.loop-place.invariant,
      c.loop-place-test.true,
      total-more c.loop-place.place c.args.items.now,
    )

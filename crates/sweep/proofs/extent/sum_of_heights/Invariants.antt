use Rattle.std.proofs.Common.{◌≡◌, ◌≤◌, ◌*◌, take, sum_by}
use Rattle.sweep.specs.Extents.{height_of, row_width}
use Rattle.sweep.proofs.extent.sum_of_heights.Given as goal

-- the boxes before this one are added up
abbrev pub invariant-loop-extent : goal.invariant-loop-extent
invariant-loop-extent l =
    (l.sum ≡ sum_by height_of (take l.extent-index l.extents))
    × (l.sum ≤ l.extent-index * row_width)

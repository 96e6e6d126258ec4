use Rattle.std.proofs.Common.{arith}
use Rattle.std.proofs.lemmas.List.Sums.{sum_by_more}
use Rattle.std.proofs.lemmas.List.Elements.{Contains-get_or}
use Rattle.sweep.specs.Extents.{height_of}
use Rattle.sweep.proofs.extent.sum_of_heights.Goals as goal

pub overflow_sub-extent : goal.overflow_sub-extent
overflow_sub-extent c = (c.requires.each _ (Contains-get_or c.args.extents.now c.loop-extent.extent-index _ c.loop-extent-test.true)).up

pub loop-extent-preserved : goal.loop-extent-preserved
loop-extent-preserved c =
    let is_box = c.requires.each _ (Contains-get_or c.args.extents.now c.loop-extent.extent-index (record { left = 0; right = 0; bottom = 0; top = 0 }) c.loop-extent-test.true) in
    let top = is_box.top in
    let more = sum_by_more height_of c.args.extents.now c.loop-extent.extent-index (record { left = 0; right = 0; bottom = 0; top = 0 }) c.loop-extent-test.true in
    (omega (arith, more), omega (arith, top))

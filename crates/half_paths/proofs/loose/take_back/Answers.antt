use Rattle.std.proofs.Common.{arith, ◌≡◌, ◌+◌, ◌-◌, ◌++◌, length, take, get_or, sym, ap, ◌∙◌}
use Rattle.half_table.specs.Count.{one_more}
use Rattle.half_table.specs.Surgery.{loose_ends}
use Rattle.half_paths.specs.Loose.{loose_rows}
use Rattle.half_paths.proofs.Added.{last-loose, rows-last, ticked-more}
use Rattle.half_paths.proofs.loose.take_back.Goals as goal

pub remove_loose-requires : goal.remove_loose-requires
remove_loose-requires g c =
    let strings = c.args.strings.now in
    let row = c.index-strings-count.result in
    let k = length strings - 1 - c.loop-gone.gone in
    let before = c.requires.last.0 in
    last-loose c.loop-gone.table.rows (before ++ loose_rows (take k strings)) (get_or strings k row) c.loop-gone.invariant.linked
    (rows-last c.loop-gone.table.rows before strings c.loop-gone.gone row (omega (arith, c.loop-gone-test.true)) (c.loop-gone.invariant.rows before c.requires.last.1))

pub loop-gone-preserved : goal.loop-gone-preserved
loop-gone-preserved g c =
    let strings = c.args.strings.now in
    let row = c.index-strings-count.result in
    let k = length strings - 1 - c.loop-gone.gone in
    let fewer : k ≡ length strings - (c.loop-gone.gone + 1) = omega (arith, c.loop-gone-test.true) in
    record {
      rows = λ before is.
          c.remove_loose.ensures.last (before ++ loose_rows (take k strings)) (loose_ends (get_or strings k row).number (get_or strings k row).from (get_or strings k row).to)
          (rows-last c.loop-gone.table.rows before strings c.loop-gone.gone row (omega (arith, c.loop-gone-test.true)) (c.loop-gone.invariant.rows before is))
          ∙ ap (λ m. before ++ loose_rows (take m strings)) fewer;
      linked = c.remove_loose.ensures.linked;
      work = c.remove_loose.ensures.work ∙ ap one_more c.loop-gone.invariant.work ∙ sym (ticked-more c.loop-gone.gone c.args.table.now.work);
    }

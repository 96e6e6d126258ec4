use Rattle.number_table.specs.Rows.{HasNumberAt}
use Rattle.half_table.proofs.Changed.{written-at}
use Rattle.half_table.proofs.rows.change_links.Goals as goal

pub returns-clause-changes : goal.returns-clause-changes
returns-clause-changes g c =
    let there = rw c.unwrap-place.ensures at c.place_of.ensures.there in
    let has : HasNumberAt c.args.rows.now c.unwrap-place.result c.args.h.now.string = rw c.number_of.ensures at there in (
      c.change-to.result,
      c.change-to.ensures,
      written-at c.args.rows.now c.args.h.now c.value_at-ends.result.now c.set.new.self c.change-to.result c.unwrap-place.result
          c.value_at-ends.ensures.distinct has c.value_at-ends.ensures.value c.set.ensures,
    )

use Rattle.std.proofs.Common.{ap, arith}
use Rattle.std.proofs.lemmas.List.Sums.{sum_by_more}
use Rattle.edit_records.specs.Record.{chain_string_weight}
use Rattle.edit_records.proofs.record.held_by.Goals as goal

pub loop-string-preserved : goal.loop-string-preserved
loop-string-preserved c =
    let it = c.loop-string in
    let more = sum_by_more chain_string_weight c.args.strings.now it.string-index c.string-item.result c.loop-string-test.true in
    let is = ap chain_string_weight c.string-item.is in
    let counted = c.count.ensures.count in
    let low = c.count.ensures.few in
    let total = it.invariant.total in
    let few = it.invariant.few in
    record {
      total = omega (arith, more, is, counted, total);
      few = omega (arith, low, few);
    }

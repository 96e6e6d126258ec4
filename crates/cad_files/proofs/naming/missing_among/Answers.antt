use Rattle.std.proofs.Common.{◌∙◌, sym, ap, is_some}
use Rattle.cad_map.proofs.CallerLemmas.{none-from_some}
use Rattle.cad_files.proofs.NameFacts.{row-found, row-more}
use Rattle.cad_files.proofs.naming.missing_among.Goals as goal

pub returns-then-is_some : goal.returns-then-is_some
returns-then-is_some g c =
    let here = c.first_missing-name.ensures in
    let some = ap is_some (sym here) ∙ sym c.is_some.ensures ∙ c.if-is_some.true in
    here ∙ sym (row-found g.R.NamesRows.names c.args.plain.now c.args.rows.now c.loop-i.i c.index-rows-i.result _ c.loop-i-test.true c.index-rows-i.is c.loop-i.invariant some)

pub loop-i-preserved : goal.loop-i-preserved
loop-i-preserved g c =
    let none = none-from_some _ (ap is_some (sym c.first_missing-name.ensures) ∙ sym c.is_some.ensures ∙ c.if-is_some.false) in
    row-more g.R.NamesRows.names c.args.plain.now c.args.rows.now c.loop-i.i c.index-rows-i.result _ c.loop-i-test.true c.index-rows-i.is c.loop-i.invariant none

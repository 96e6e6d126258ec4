use Rattle.std.proofs.Common.{◌∙◌, sym, ap, is_some}
use Rattle.cad_files.proofs.RowFacts.{is_some-copied}
use Rattle.cad_files.proofs.NameFacts.{missing-source, missing-more}
use Rattle.cad_files.proofs.naming.missing_source.Goals as goal

pub returns-then-is_none : goal.returns-then-is_none
returns-then-is_none c =
    let gone = ap is_some (sym c.source.ensures) ∙ is_some-copied _ ∙ c.if-is_none.ensures in
    sym (missing-source c.args.plain.now c.args.sources.now c.loop-i.i c.index-sources-i.result _ c.loop-i-test.true c.index-sources-i.is c.loop-i.invariant gone)

pub loop-i-preserved : goal.loop-i-preserved
loop-i-preserved c =
    let there = ap is_some (sym c.source.ensures) ∙ is_some-copied _ ∙ c.if-is_none.ensures in
    missing-more c.args.plain.now c.args.sources.now c.loop-i.i c.index-sources-i.result _ c.loop-i-test.true c.index-sources-i.is c.loop-i.invariant there

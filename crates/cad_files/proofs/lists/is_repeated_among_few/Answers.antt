use Rattle.std.proofs.Common.{[], ◌∙◌, sym}
use Rattle.cad_files.proofs.ListFacts.{repeated-more}
use Rattle.cad_files.proofs.lists.is_repeated_among_few.Goals as goal

pub loop-i-preserved : goal.loop-i-preserved
loop-i-preserved g c =
    repeated-more [] c.args.list.now c.loop-i.i c.index-list-i.result _ c.loop-i-test.true c.index-list-i.is
    (rw (← c.split_at.ensures.front, ← c.get.ensures.value) (sym c.is_among.ensures ∙ c.if-is_among.false)) ∙ c.loop-i.invariant

use Rattle.std.proofs.Common.{arith}
use Rattle.std.proofs.lemmas.Bool.{ne_eqb}
use Rattle.cad_files.proofs.ListFacts.{no_space-more, first_part-at, first_part-whole}
use Rattle.cad_files.proofs.lists.first_part.Goals as goal

pub returns-then-text-i-eq32-clause-parts : goal.returns-then-text-i-eq32-clause-parts
returns-then-text-i-eq32-clause-parts c =
    rw (c.split_at.ensures.front, c.split_at-then-text-i-eq32.ensures.back) (first_part-at c.args.text.now c.loop-i.i c.loop-i-test.true c.if-text-i-eq32.true c.loop-i.invariant)

pub loop-i-preserved : goal.loop-i-preserved
loop-i-preserved c = no_space-more c.args.text.now c.loop-i.i c.loop-i-test.true (ne_eqb _ 32 c.if-text-i-eq32.false) c.loop-i.invariant

pub returns-clause-parts : goal.returns-clause-parts
returns-clause-parts c = first_part-whole c.args.text.now c.loop-i.i (omega arith) c.loop-i.invariant

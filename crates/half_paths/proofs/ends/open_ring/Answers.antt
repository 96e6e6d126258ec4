use Rattle.std.proofs.Common.{◌∙◌, ap}
use Rattle.half_table.specs.Rows.{next}
use Rattle.half_paths.proofs.TwoEnds.{closed-is, opened-is, exchanged-back}
use Rattle.half_paths.proofs.ends.open_ring.Goals as goal

pub returns-clause-next : goal.returns-clause-next
returns-clause-next g c = λ h.
    c.splice_between.ensures.spliced.next h ∙ ap (λ f. f h) (opened-is c.args.first c.args.last (next c.args.table.now.rows) c.requires.enters c.requires.returns)

pub returns-clause-back : goal.returns-clause-back
returns-clause-back g c = λ old one two.
    exchanged-back c.args.first c.args.last old c.splice_between.ensures.spliced.next (closed-is c.args.first c.args.last old one two)

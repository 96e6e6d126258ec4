use Rattle.std.proofs.Common.{◌∙◌, ap}
use Rattle.half_table.specs.Rows.{next}
use Rattle.half_paths.proofs.Along.{keeps-on}
use Rattle.half_paths.proofs.TwoEnds.{put-is, put-back, put-next}
use Rattle.half_paths.proofs.ends.put_path.Goals as goal

pub returns-clause-next : goal.returns-clause-next
returns-clause-next g c = λ h.
    ap (λ f. f h) (put-next c.args.table.now.rows c.splice_between.new.table.rows c.splice.new.self.rows c.args.before c.args.beyond c.args.first c.args.last
    c.splice_between.ensures.spliced c.splice.ensures.spliced
    ∙ put-is c.args.before c.args.beyond c.args.first c.args.last (next c.args.table.now.rows) c.requires.free)

pub returns-clause-back : goal.returns-clause-back
returns-clause-back g c = λ old is_put can same h.
    ap (λ f. f h) (put-next c.args.table.now.rows c.splice_between.new.table.rows c.splice.new.self.rows c.args.before c.args.beyond c.args.first c.args.last
    c.splice_between.ensures.spliced c.splice.ensures.spliced)
    ∙ put-back c.args.before c.args.beyond c.args.first c.args.last (next c.args.table.now.rows) old is_put can same h

pub returns-clause-halves : goal.returns-clause-halves
returns-clause-halves g c = keeps-on _ _ _ c.splice_between.ensures.spliced.halves c.splice.ensures.spliced.halves

use Rattle.std.proofs.Common.{◌∙◌, ap}
use Rattle.half_table.specs.declared.half.Half.{Half}
use Rattle.half_table.specs.Half.{twin}
use Rattle.half_table.specs.Rows.{next, prev}
use Rattle.half_paths.proofs.Along.{keeps-on}
use Rattle.half_paths.proofs.TwoEnds.{cut-next, cut-is, cut-back}
use Rattle.half_paths.proofs.ends.cut_path.Goals as goal

pub returns-clause-next : goal.returns-clause-next
returns-clause-next g c =
    let r = c.args.table.now.rows in
    let first : Half = c.args.first in
    let last : Half = c.args.last in
    λ can h. ap (λ f. f h)
    (cut-next r c.splice.new.self.rows c.splice_between.new.table.rows first last c.prev-before.result c.prev-beyond.result
    c.splice.ensures.spliced c.splice_between.ensures.spliced c.prev-before.ensures.is (c.prev-beyond.ensures.is ∙ ap (prev r) c.twin-turn.ensures.is)
    ∙ cut-is (prev r first) (prev r (twin last)) first last (next r) (record { enters = c.prev-before.ensures.linked.next_prev first; returns = c.prev-before.ensures.linked.next_prev (twin last) }) can)

pub returns-clause-back : goal.returns-clause-back
returns-clause-back g c =
    let r = c.args.table.now.rows in
    let first : Half = c.args.first in
    let last : Half = c.args.last in
    λ before beyond old can same h.
    ap (λ f. f h) (cut-next r c.splice.new.self.rows c.splice_between.new.table.rows first last c.prev-before.result c.prev-beyond.result
    c.splice.ensures.spliced c.splice_between.ensures.spliced c.prev-before.ensures.is (c.prev-beyond.ensures.is ∙ ap (prev r) c.twin-turn.ensures.is))
    ∙ cut-back r before beyond first last old c.prev-before.ensures.linked can same h

pub returns-clause-halves : goal.returns-clause-halves
returns-clause-halves g c = keeps-on _ _ _ c.splice.ensures.spliced.halves c.splice_between.ensures.spliced.halves

pub splice_between-requires-clause-coming_in : goal.splice_between-requires-clause-coming_in
splice_between-requires-clause-coming_in g c = c.splice.ensures.spliced.halves.has _ ∙ c.prev-before.ensures.inside

pub splice_between-requires-clause-leaving_in : goal.splice_between-requires-clause-leaving_in
splice_between-requires-clause-leaving_in g c = c.splice.ensures.spliced.halves.has _ ∙ c.requires.first_in

use Rattle.std.proofs.Common.{arith, sym, ◌∙◌}
use Rattle.cad_files.proofs.DigitFacts.{short_if, digits_some}
use Rattle.cad_files.proofs.fields.magnitude.Goals as goal

pub returns-then-text-most-clause-some : goal.returns-then-text-most-clause-some
returns-then-text-most-clause-some c = rw c.digits.ensures.value (digits_some c.args.text.now (sym c.starts_well.ensures ∙ c.if-starts_well.true))

pub returns-then-text-most-clause-bound : goal.returns-then-text-most-clause-bound
returns-then-text-most-clause-bound c = short_if _ _ _ c.digits.ensures.bound (omega arith)

use Rattle.std.proofs.Common.{arith, refl, sym, ◌∙◌, inl, inr, length, ◌≡◌}
use Rattle.cad_files.proofs.DigitFacts.{digits_at, digits_stop, digits_end, digit_grows, digit_fits}
use Rattle.cad_files.proofs.fields.digits.Goals as goal

pub loop-digit-init : goal.loop-digit-init
loop-digit-init c = (refl, omega arith)

pub returns-then-digit-lt48-clause-value : goal.returns-then-digit-lt48-clause-value
returns-then-digit-lt48-clause-value c =
    sym (digits_stop c.args.text.now c.loop-digit.value c.loop-digit.digit-index c.loop-digit-test.true
    (elim c.then-digit-lt48.either [ inl low ↦ inl low | inr high ↦ inr (omega arith) ])) ∙ c.loop-digit.invariant.0

pub overflow_mul-value : goal.overflow_mul-value
overflow_mul-value c = omega (arith, digit_fits c.loop-digit.value c.loop-digit.digit-index c.loop-digit.invariant.1 (omega arith))

pub overflow_add-value : goal.overflow_add-value
overflow_add-value c = omega (arith, c.from.ensures, digit_fits c.loop-digit.value c.loop-digit.digit-index c.loop-digit.invariant.1 (omega arith))

pub loop-digit-preserved : goal.loop-digit-preserved
loop-digit-preserved c =
    rw c.from.ensures (
      digits_at c.args.text.now c.loop-digit.value c.loop-digit.digit-index c.loop-digit-test.true c.if-digit-lt48.false c.if-digit-gt57.false ∙ c.loop-digit.invariant.0,
      digit_grows c.loop-digit.value _ c.loop-digit.digit-index c.loop-digit.invariant.1 c.if-digit-gt57.false,
    )

pub returns-clause-value : goal.returns-clause-value
returns-clause-value c = sym (digits_end c.args.text.now c.loop-digit.value c.loop-digit.digit-index (omega arith)) ∙ c.loop-digit.invariant.0

pub returns-clause-bound : goal.returns-clause-bound
returns-clause-bound c = let e : c.loop-digit.digit-index ≡ length c.args.text.now = omega arith in rw (← e) c.loop-digit.invariant.1

use Rattle.std.proofs.Common.{◌∙◌, ◌≤◌, ◌==◌, ap, count_by, arith}
use Rattle.std.proofs.lemmas.Bool.{OnTrue_from, leb-true}
use Rattle.cad_files.specs.Corners.{leads}
use Rattle.cad_files.proofs.AloneFacts.{count-star}
use Rattle.cad_files.proofs.repeats.is_led_to_once.Goals as goal

pub returns-then-ends-lt-MANY_STRINGS : goal.returns-then-ends-lt-MANY_STRINGS
returns-then-ends-lt-MANY_STRINGS c = λ m are.
    let at = c.args.at in
    let far = c.args.far in
    OnTrue_from _ (count_by (leads at far) m.strings ≤ 1) (λ is.
    let few = leb-true c.count_to.result 1 is in
    let count = c.count_to.ensures ∙ ap (count_by (λ e. e.far == far)) (c.ends-ends.ensures ∙ are at) ∙ count-star m at far in
    omega (arith, few, count))

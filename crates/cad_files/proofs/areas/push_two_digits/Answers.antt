use Rattle.std.proofs.Common.{◌∙◌, ◌<◌, ◌/◌, ◌%◌, append_assoc, arith}
use Rattle.std.proofs.lemmas.Fmt.{decimal_digit}
use Rattle.cad_files.proofs.areas.push_two_digits.Goals as goal

pub returns : goal.returns
returns c =
    let high : c.args.number / 10 < 10 = omega arith in
    let low : c.args.number % 10 < 10 = omega arith in
    c.in_ok-push-2.ensures.items ∙ rw (c.in_ok-push.ensures.items, decimal_digit (c.args.number / 10) high, decimal_digit (c.args.number % 10) low) (append_assoc c.args.text.now.items _ _)

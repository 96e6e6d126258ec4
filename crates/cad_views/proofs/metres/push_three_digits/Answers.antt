use Rattle.std.proofs.Common.{◌≡◌, ◌∙◌, ◌<◌, ◌/◌, ◌%◌, List, ℕ, ◌∷◌, [], ◌++◌, append_assoc, arith}
use Rattle.std.proofs.lemmas.Fmt.{decimal_digit}
use Rattle.cad_views.proofs.metres.push_three_digits.Goals as goal

one-by-one : (text : List ℕ) (x y z : ℕ) → ((text ++ x ∷ []) ++ y ∷ []) ++ z ∷ [] ≡ text ++ (x ∷ [] ++ (y ∷ [] ++ z ∷ []))
one-by-one text x y z = append_assoc (text ++ x ∷ []) (y ∷ []) (z ∷ []) ∙ append_assoc text (x ∷ []) (y ∷ z ∷ [])

pub returns : goal.returns
returns c =
    let n = c.args.number in
    let high : n / 100 < 10 = omega arith in
    let mid : n / 10 % 10 < 10 = omega arith in
    let low : n % 10 < 10 = omega arith in
    c.in_ok-push-3.ensures.items ∙ rw (c.in_ok-push-2.ensures.items, c.in_ok-push.ensures.items, decimal_digit (n / 100) high, decimal_digit (n / 10 % 10) mid, decimal_digit (n % 10) low) (one-by-one c.args.text.now.items _ _ _)

use Rattle.std.proofs.Common.{◌≡◌, ◌-◌, ◌++◌, ◌∙◌, ℕ, List, ap, sym, arith, length, take, drop}
use Rattle.std.proofs.lemmas.List.{length-drop, take-append-drop, take_all}
use Rattle.cadview.proofs.answers.last_plan.Goals as goal

pub returns : goal.returns
returns c =
    let text = c.args.text.now in
    let last = c.loop-place.last in
    let rest = drop last text in
    let same : length rest ≡ length text - last = length-drop last text in
    let all : take (length text - last) rest ≡ rest = take_all (length text - last) rest (omega (arith, same)) in
    (take last text, sym (ap (λ (l : List ℕ). take last text ++ l) all ∙ take-append-drop last text))

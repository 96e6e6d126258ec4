use Rattle.std.proofs.Common.{◌++◌, sym, ◌∙◌, ap}
use Rattle.std.specs.Prelude.{option_map}
use Rattle.cad_files.specs.Fields.{all_numbers}
use Rattle.cad_files.proofs.ListFacts.{numbers_of-some, some_parts, all_numbers-none, all_numbers-last, all_numbers-more}
use Rattle.cad_files.proofs.lists.untold_list.Goals as goal

pub returns-in_default : goal.returns-in_default
returns-in_default g c =
    let before = c.loop-number.numbers in
    let (others, split) = some_parts _ _ _ c.first_part.ensures.parts in
    let none = all_numbers-none _ others (sym c.row_number.ensures ∙ c.in_default.is) in
    sym (numbers_of-some c.args.text.now (sym c.is_empty.ensures ∙ c.if-is_empty.false) ∙ c.loop-number.invariant
    ∙ ap (λ ps. option_map (λ ns. before ++ ns) (all_numbers ps)) split ∙ ap (option_map (λ ns. before ++ ns)) none)

pub loop-number-preserved : goal.loop-number-preserved
loop-number-preserved g c =
    let before = c.loop-number.numbers in
    let split = rw c.in-Some-more.is at c.first_part.ensures.parts in
    rw c.in_ok-push.ensures.ok (
    c.loop-number.invariant ∙ ap (λ ps. option_map (λ ns. before ++ ns) (all_numbers ps)) split
    ∙ all_numbers-more _ _ before c.in-Some.number (sym c.row_number.ensures ∙ c.in-Some.is)
    )

pub returns-in-None : goal.returns-in-None
returns-in-None g c =
    let before = c.loop-number.numbers in
    let split = rw c.in-None.is at c.first_part.ensures.parts in
    rw c.in_ok-push.ensures.ok (
    sym (numbers_of-some c.args.text.now (sym c.is_empty.ensures ∙ c.if-is_empty.false) ∙ c.loop-number.invariant
    ∙ ap (λ ps. option_map (λ ns. before ++ ns) (all_numbers ps)) split
    ∙ ap (option_map (λ ns. before ++ ns)) (all_numbers-last _ c.in-Some.number (sym c.row_number.ensures ∙ c.in-Some.is)))
    )

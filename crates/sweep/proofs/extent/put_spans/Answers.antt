use Rattle.std.proofs.Common.{◌≡◌, ◌<◌, ◌++◌, ℕ, List, [], ◌∷◌, sym, subst, arith, inl, inr}
use Rattle.std.specs.List.{Contains}
use Rattle.std.proofs.lemmas.List.Elements.{Contains-append_left, Contains-push, Contains-append_cases}
use Rattle.std.proofs.lemmas.Bool.{cases_lt}
use Rattle.sweep.specs.declared.span.Span.{Span}
use Rattle.sweep.specs.Extents.{span_in}
use Rattle.sweep.proofs.Boxes.{is_of_one}
use Rattle.sweep.proofs.extent.put_spans.Goals as goal

pub loop-row-preserved : goal.loop-row-preserved
loop-row-preserved c =
    let old : List Span = c.loop-row.spans.items in
    let new : List Span = c.push.new.self.items in
    let put : Span = span_in c.args.extent c.args.place c.loop-row.row in
    let is : new ≡ old ++ put ∷ [] = c.in_ok-push.ensures.items in
    let stays : (s : Span) → Contains old s → Contains new s = λ s has. subst (λ (l : List Span). Contains l s) (sym is) (Contains-append_left old (put ∷ []) s has) in
    let here : Contains new put = subst (λ (l : List Span). Contains l put) (sym is) (Contains-push old put) in (
      (λ s has. stays s (c.loop-row.invariant.0 s has)),
      (λ r low high. elim (cases_lt r c.loop-row.row) [
        | inl lt ↦ stays _ (c.loop-row.invariant.1 r low lt)
        | inr ge ↦ let same : r ≡ c.loop-row.row = omega arith in subst (λ (n : ℕ). Contains new (span_in c.args.extent c.args.place n)) (sym same) here
      ]),
      (λ n within below s has. elim (Contains-append_cases old (put ∷ []) s (subst (λ (l : List Span). Contains l s) is has)) [
        | inl before ↦ c.loop-row.invariant.2 n within below s before
        | inr now ↦ subst (λ (x : Span). x.place < n) (is_of_one put s now) within
      ]),
    )

use Rattle.std.proofs.Common.{◌∷◌, ◌++◌, [], sym, subst, ◌∙◌, List}
use Rattle.std.specs.List.{Contains}
use Rattle.std.proofs.lemmas.List.Elements.{Contains-append_right}
use Rattle.std.proofs.lemmas.Option.{same_Some}
use Rattle.cad_map.specs.declared.span.Span.{Span}
use Rattle.cad_map.specs.Spans.{span_of}
use Rattle.cad_map.proofs.CallerLemmas.{Contains-first}
use Rattle.edit_records.proofs.shared_strings.add_if.Goals as goal

pub returns-in_ok-push-clause-string : goal.returns-in_ok-push-clause-string
returns-in_ok-push-clause-string g c wanted s there leads =
    let same = same_Some c.in-Some.span (span_of s) (sym c.in-Some.is ∙ c.span_joining.ensures s there leads) in
    subst (λ (l : List Span). Contains l (span_of s)) (sym c.in_ok-push.ensures.items)
    (subst (λ (x : Span). Contains (c.args.spans.now.items ++ x ∷ []) (span_of s)) (sym same)
    (Contains-append_right c.args.spans.now.items (span_of s ∷ []) (span_of s) (Contains-first (span_of s) [])))

pub returns-in_default-clause-string : goal.returns-in_default-clause-string
returns-in_default-clause-string g c wanted s there leads =
    absurd (c.in_default.not-Some (span_of s) (c.span_joining.ensures s there leads))

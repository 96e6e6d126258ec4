use Rattle.std.proofs.Common.{sym, subst, ◌∙◌, map}
use Rattle.std.proofs.lemmas.List.Sorted.{IsPermutation-sym, IsPermutation-map}
use Rattle.std.proofs.lemmas.Result.{IfOk-weaker}
use Rattle.std.specs.Prelude.{IsPermutation}
use Rattle.cad_map.specs.Spans.{span_of}
use Rattle.cad_laws.specs.Counts.{shared_strings}
use Rattle.edit_records.specs.HeldChains.{closed, rows_along}
use Rattle.edit_records.proofs.grid_lists.strings_between.Goals as goal

pub returns : goal.returns
returns g c =
    let rows = rows_along c.args.strings.now (closed c.args.chain.now) in
    let is = c.as_slice.ensures.value ∙ c.in_ok-spans.ensures in
    IfOk-weaker c.several_strings.result _ _
    (λ l f b kept ended beside shared.
    f b kept ended beside
    (subst (IsPermutation (map span_of (shared_strings b kept ended))) (sym is)
    (IsPermutation-sym (map span_of rows) (map span_of (shared_strings b kept ended)) (IsPermutation-map span_of rows (shared_strings b kept ended) shared))))
    c.several_strings.ensures

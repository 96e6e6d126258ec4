use Rattle.std.proofs.Common.{◌≡◌, ℕ, ap, subst, ◌∙◌, arith, inl, inr, get_or}
use Rattle.std.proofs.lemmas.Bool.{cases_lt}
use Rattle.std.proofs.lemmas.List.{get_or_default}
use Rattle.std.proofs.lemmas.List.Elements.{Contains-get_or}
use Rattle.sweep.specs.declared.extent.Extent.{Extent}
use Rattle.sweep.specs.Extents.{IsRowOf}
use Rattle.sweep.proofs.extent.spans_of.Goals as goal

pub put_spans-requires-clause-extent : goal.put_spans-requires-clause-extent
put_spans-requires-clause-extent c = c.requires.extents.each _ (Contains-get_or c.args.extents.now c.loop-place.place _ c.loop-place-test.true)

pub loop-place-preserved : goal.loop-place-preserved
loop-place-preserved c = (
  (λ i d row before in_row.
      elim (cases_lt i c.loop-place.place) [
        | inl lt ↦ c.in_ok-put_spans.ensures.kept _ (c.loop-place.invariant.0 i d row lt in_row)
        | inr ge ↦
            let same : i ≡ c.loop-place.place = omega arith in
            let none : Extent = record { left = 0; right = 0; bottom = 0; top = 0 } in
            let it : get_or c.args.extents.now i d ≡ get_or c.args.extents.now c.loop-place.place none =
            ap (λ (k : ℕ). get_or c.args.extents.now k d) same ∙ get_or_default c.args.extents.now c.loop-place.place d none c.loop-place-test.true in
            let put = c.in_ok-put_spans.ensures.put row (subst (λ (e : Extent). IsRowOf e c.args.height row) it in_row) in
            rw (it, same) put
      ]),
  c.in_ok-put_spans.ensures.places _ c.loop-place-test.true c.loop-place.invariant.1,
)

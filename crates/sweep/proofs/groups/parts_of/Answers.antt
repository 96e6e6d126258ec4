use Rattle.std.proofs.Common.{◌≡◌, ◌<◌, ◌++◌, List, [], ◌∷◌, subst, arith, inl, inr, get_or, length}
use Rattle.std.proofs.lemmas.Bool.{cases_lt}
use Rattle.std.proofs.lemmas.List.{get_or_default}
use Rattle.std.proofs.lemmas.List.Elements.{Contains-append_left, Contains-push, Contains-push_cases}
use Rattle.sweep.specs.declared.extent.Extent.{Extent}
use Rattle.sweep.specs.declared.part.Part.{Part}
use Rattle.sweep.proofs.groups.parts_of.Goals as goal

pub loop-place-preserved : goal.loop-place-preserved
loop-place-preserved c =
    let place = c.loop-place.place in
    let none : Extent = record { left = 0; right = 0; bottom = 0; top = 0 } in
    let old : List Part = c.loop-place.parts.items in
    let put : Part = record { extent = get_or c.args.extents.now place none; group = get_or c.args.groups.now place 0; place = place } in
    let is : c.push.new.self.items ≡ old ++ put ∷ [] = c.in_ok-push.ensures.items in
    record {
      each = λ i d before. elim (cases_lt i place) [
        | inl lt ↦ rw is (Contains-append_left old (put ∷ []) _ (c.loop-place.invariant.each i d lt))
        | inr ge ↦
            let same : i ≡ place = omega arith in
            rw (same, get_or_default c.args.extents.now place d none c.loop-place-test.true, is) (Contains-push old put)
      ];
      below = λ p has. elim (Contains-push_cases old put p (rw is at has)) [
        | inl before ↦ c.loop-place.invariant.below p before
        | inr now ↦ subst (λ (x : Part). x.place < length c.args.extents.now) now c.loop-place-test.true
      ];
    }

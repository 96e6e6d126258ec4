use Rattle.std.proofs.Common.{◌≡◌, ◌+◌, ◌<◌, ◌≤◌, ◌∙◌, ◌++◌, [], ℕ, suc, length, map, take, drop, get_or, ap, subst, arith, List, Option}
use Rattle.std.specs.Prelude.{slice_set, option_map, unwrap_or}
use Rattle.half_table.specs.declared.half.Half.{Half}
use Rattle.key_lists.specs.Kept.{Kept}
use Rattle.key_lists.specs.Held.{items_at}
use Rattle.map_parts.specs.Passing.{in_place_of, in_place_at}
use Rattle.map_parts.proofs.Passing.InPlace.{placed-item, placed-set, placed-all}
use Rattle.map_parts.proofs.edits.kept_places.replace_kept.Goals as goal

pub loop-place-preserved : goal.loop-place-preserved
loop-place-preserved c =
    let key = c.face_place-key.result in
    let xs = items_at c.args.kept.now key in
    let now = items_at c.loop-place.kept key in
    let i = c.loop-place.place in
    let f : Half → Half = in_place_of c.args.from.now c.args.to.now in
    let d : Half = c.index-at-place.result in
    let low : i < length xs =
    subst (λ (l : List Half). i < length l) c.at-count.ensures c.loop-place-test.true in
    let item : d ≡ get_or xs i d =
    c.index-at-place.is
    ∙ ap (λ (l : List Half). get_or l i d) (c.at.ensures ∙ c.loop-place.invariant.0)
    ∙ placed-item f xs i d low in
    let put : items_at c.set.new.self key ≡ map f (take (suc i) xs) ++ drop (suc i) xs =
    c.set.ensures.items
    ∙ ap (λ (h : Half). slice_set now i h) (c.replaced-half.ensures ∙ ap f item)
    ∙ ap (λ (l : List Half). slice_set l i (f (get_or xs i d))) c.loop-place.invariant.0
    ∙ placed-set f xs i d low in
    let more : suc i ≡ i + 1 = omega arith in (
      put ∙ (λ j. map f (take (more j) xs) ++ drop (more j) xs),
      λ n apart.
          ap (λ (o : Option (Kept Half)). unwrap_or (option_map (λ list. list.items) o) [])
          (c.set.ensures.others n apart) ∙ c.loop-place.invariant.1 n apart,
    )

pub returns : goal.returns
returns c = λ n.
    subst (λ (k : ℕ). items_at c.loop-place.kept n
    ≡ map (in_place_at k c.args.from.now c.args.to.now n) (items_at c.args.kept.now n))
    c.face_place-key.ensures.place
    (placed-all c.face_place-key.result c.args.from.now c.args.to.now c.args.kept.now c.loop-place.kept
    c.loop-place.place
    (subst (λ (l : List Half). length l ≤ c.loop-place.place) c.at-count.ensures c.loop-place-test.false)
    c.loop-place.invariant.0 c.loop-place.invariant.1 n)

use Rattle.std.proofs.Common.{◌≤◌, ℕ, sym, subst, arith, inl, inr, List, [], ◌∷◌, ◌++◌, take, length}
use Rattle.std.specs.List.{Contains}
use Rattle.std.proofs.lemmas.List.Elements.{Contains-append_cases, Contains-append_left, Contains-append_right}
use Rattle.std.proofs.lemmas.List.Sorted.{IsPermutation-sym, length_permutation, Contains-permutation}
use Rattle.cad_rings.specs.Cycle.{Side, sides_of}
use Rattle.cad_rows.specs.declared.rows.StringRow.{StringRow}
use Rattle.cad_map.specs.Map.{strings_at, far_end}
use Rattle.cad_map.proofs.CallerLemmas.{take-more, all-told, told-is, told-some, Contains-at, Contains-cases, Contains-first}
use Rattle.edit_records.proofs.TouchedLists.{comes-along}
use Rattle.edit_records.proofs.touched.faces_at.Goals as goal

pub unwrap-far-requires : goal.unwrap-far-requires
unwrap-far-requires g c =
    let strings = g.M.MapView.view_strings c.args.map.now c.args.point in
    let same = length_permutation (strings_at (g.M.MapView.map c.args.map.now) c.args.point) strings c.far_with.ensures.each in
    told-some (λ (s : StringRow). far_end s c.args.point) c.far_with.result strings c.loop-place.place c.far_with.ensures.far (omega (arith, same, c.degree-place-end.ensures, c.loop-place-test.true))

pub face_into-requires-clause-there : goal.face_into-requires-clause-there
face_into-requires-clause-there g c =
    let m = g.M.MapView.map c.args.map.now in
    let p = c.args.point in
    let strings = g.M.MapView.view_strings c.args.map.now p in
    let told = told-is (λ (s : StringRow). far_end s p) c.far_with.result c.unwrap-far.result strings c.loop-place.place c.far_with.ensures.far c.unwrap-far.ensures in (
      told.0,
      Contains-permutation strings (strings_at m p) told.0 (IsPermutation-sym (strings_at m p) strings c.far_with.ensures.each) (Contains-at strings c.loop-place.place told.0 told.1),
      told.2,
    )

pub loop-place-preserved : goal.loop-place-preserved
loop-place-preserved g c =
    let p = c.args.point in
    let strings = g.M.MapView.view_strings c.args.map.now p in
    let told = told-is (λ (s : StringRow). far_end s p) c.far_with.result c.unwrap-far.result strings c.loop-place.place c.far_with.ensures.far c.unwrap-far.ensures in
    let row = told.0 in
    record {
      faces = λ s among b there out.
          subst (λ l. Contains l b.face) (sym c.in_ok-push.ensures.items) (elim (Contains-append_cases (take c.loop-place.place strings) (row ∷ []) s (subst (λ (l : List StringRow). Contains l s) (sym (take-more strings c.loop-place.place row told.1)) among)) [
            | inl before ↦ Contains-append_left c.loop-place.faces.items (c.face_into.result ∷ []) b.face (c.loop-place.invariant.faces s before b there out)
            | inr last ↦ elim (Contains-cases row [] s last) [
              | inl same ↦
                  let along = subst (λ (r : StringRow). Contains {X = Side} (sides_of b.ring) (far_end r p, p)) (sym same) out in
                  subst (λ f. Contains (c.loop-place.faces.items ++ c.face_into.result ∷ []) f) (c.face_into.ensures b there (subst (λ (q : ℕ). Contains {X = Side} (sides_of b.ring) (q, p)) told.2 along))
                  (Contains-append_right c.loop-place.faces.items (c.face_into.result ∷ []) c.face_into.result (Contains-first c.face_into.result []))
              | inr none ↦ let low = none.1 in absurd (omega arith)
            ]
          ]);
      each = λ _. c.far_with.ensures.each;
    }

pub returns : goal.returns
returns g c b among has =
    let m = g.M.MapView.map c.args.map.now in
    let strings = g.M.MapView.view_strings c.args.map.now c.args.point in
    let comes = comes-along m c.requires c.args.point b among has in
    let past : length (strings_at m c.args.point) ≤ c.loop-place.place = subst (λ (n : ℕ). n ≤ c.loop-place.place) c.degree-place-end.ensures c.loop-place-test.false in
    c.each_once.ensures b.face (c.loop-place.invariant.faces comes.string
    (Contains-permutation (strings_at m c.args.point) (take c.loop-place.place strings) comes.string (all-told m c.args.point strings c.loop-place.place past c.loop-place.invariant.each) comes.there)
    b among comes.in_ring)

use Rattle.std.proofs.Common.{◌≡◌, ◌<◌, ℕ, suc, ◌+◌, add-one, ap, sym, refl, subst, ◌∙◌, ◌++◌, ◌∷◌, [], List, map, take, length, slice_get, Some, arith}
use Rattle.std.proofs.lemmas.List.{take_all}
use Rattle.std.proofs.lemmas.Option.{slice_get_read}
use Rattle.cad_rows.specs.declared.rows.StringRow.{StringRow}
use Rattle.cad_map.specs.Chain.{start_of, strings_along}
use Rattle.cell_grid.specs.Grid.{entry_of}
use Rattle.edit_records.specs.Gridded.{string_entry}
use Rattle.edit_records.proofs.GridLists.{enclose-come, divide-come, along-push, closed-at}
use Rattle.edit_records.proofs.GridRows.{map-last}
use Rattle.edit_records.proofs.grid_lists.strings_of_chain.Goals as goal

pub loop-place-preserved : goal.loop-place-preserved
loop-place-preserved g c =
    let m = g.M.MapView.map c.args.map.now in
    let chain = c.args.chain.now in
    let strings = c.args.strings.now in
    let closed = chain ++ start_of chain ∷ [] in
    let i = c.loop-place.place in
    let number = c.index-strings-place.result in
    let first = c.index-chain-place.result in
    let second = c.point_after.result in
    let low : i < length chain = omega (arith, c.loop-place-test.true, c.requires) in
    let at = slice_get_read strings _ i number refl c.loop-place-test.true c.index-strings-place.is in
    let at_first = closed-at chain (start_of chain ∷ []) i first (slice_get_read chain _ i first refl low c.index-chain-place.is) in
    let at_second : slice_get closed (suc i) ≡ Some second = subst (λ (n : ℕ). slice_get closed n ≡ Some second) (add-one i) c.point_after.ensures in
    let row : StringRow = record { number = number; from = first; to = second; sources = [] } in
    let here : entry_of number c.position-from.result c.position-to.result ≡ string_entry m row =
    λ k. entry_of number (c.position-from.ensures k) (c.position-to.ensures k) in
    let more : strings_along [] (take (i + 1) strings) closed ≡ strings_along [] (take i strings) closed ++ row ∷ [] =
    ap (λ (n : ℕ). strings_along [] (take n strings) closed) (add-one i) ∙ along-push [] strings closed i number first second at at_first at_second in
    record {
      strings = c.in_ok-add_string.ensures.added ∙ (λ k. c.loop-place.invariant.strings k ++ here k ∷ [])
          ∙ sym (map-last (string_entry m) (strings_along [] (take i strings) closed) row) ∙ ap (map (string_entry m)) (sym more);
      points = c.add_string.ensures.points ∙ c.loop-place.invariant.points;
    }

all : (g : _) (c : goal.After-loop-place g) → c.loop-place.entries.strings
    ≡ map (string_entry (g.M.MapView.map c.args.map.now)) (strings_along [] c.args.strings.now (c.args.chain.now ++ start_of c.args.chain.now ∷ []))
all g c =
    c.loop-place.invariant.strings
    ∙ ap (λ (l : List ℕ). map (string_entry (g.M.MapView.map c.args.map.now)) (strings_along [] l (c.args.chain.now ++ start_of c.args.chain.now ∷ [])))
    (take_all c.loop-place.place c.args.strings.now c.loop-place-test.false)

pub returns-clause-divides : goal.returns-clause-divides
returns-clause-divides g c = λ b face parcel label source beside.
    divide-come (g.M.MapView.map c.args.map.now) b face c.args.chain.now c.args.strings.now parcel label source c.loop-place.entries
    (all g c) c.loop-place.invariant.points beside

pub returns-clause-encloses : goal.returns-clause-encloses
returns-clause-encloses g c = λ b face parcel label source beside.
    enclose-come (g.M.MapView.map c.args.map.now) b face c.args.chain.now c.args.strings.now parcel label source c.loop-place.entries
    (all g c) c.loop-place.invariant.points beside

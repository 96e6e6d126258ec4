use Rattle.std.proofs.Common.{◌≡◌, ◌∙◌, ◌≤◌, ℕ, sym, subst, true, true≢false, length, arith}
use Rattle.std.proofs.lemmas.Bool.{false_from_ne_true}
use Rattle.std.proofs.lemmas.List.Sorted.{length_permutation}
use Rattle.std.specs.Prelude.{IsTrue}
use Rattle.geo_exact.specs.Position.{Position}
use Rattle.cad_rows.specs.declared.rows.StringRow.{StringRow}
use Rattle.cad_rings.specs.Cycle.{Corner}
use Rattle.cad_rings.specs.Surgery.{corner}
use Rattle.cad_map.specs.Map.{Map, strings_at, has_point, position_of}
use Rattle.cad_map.specs.Valid.{is_empty_corner}
use Rattle.cad_map.proofs.CallerLemmas.{All-at_each, lent-some, lent-is}
use Rattle.cad_valid.specs.Corners.{is_clear_of, is_clear_of_sector}
use Rattle.cad_valid.proofs.EmptyCorners.{clear-far, empty-is}
use Rattle.cad_valid.proofs.StarTests.{passed-all, passed-more, lent-there}
use Rattle.cad_valid.proofs.corners.is_empty_corner.Goals as goal

-- positions that were looked up once serve each string
clear-is : (m : Map) (c : Corner) (at after before : Position) (s : StringRow) → at ≡ position_of m c.at → after ≡ position_of m c.after → before ≡ position_of m c.before
    → is_clear_of_sector m c.at at after before s ≡ is_clear_of m c s
clear-is m c at after before s here on back = λ i. is_clear_of_sector m c.at (here i) (on i) (back i) s

pub unwrap-string-requires : goal.unwrap-string-requires
unwrap-string-requires g c =
    let strings = g.M.MapView.view_strings c.args.map.now c.args.at in
    let same = length_permutation (strings_at (g.M.MapView.map c.args.map.now) c.args.at) strings c.string_with.ensures.each in
    lent-some c.string_with.result strings c.loop-place.place c.string_with.ensures.string (omega (arith, same, c.degree-place-end.ensures, c.loop-place-test.true))

pub is_clear_of-requires : goal.is_clear_of-requires
is_clear_of-requires g c =
    let m = g.M.MapView.map c.args.map.now in
    let strings = g.M.MapView.view_strings c.args.map.now c.args.at in
    let there = lent-there m c.args.at (λ s. true) strings c.loop-place.place c.string_with.result c.unwrap-string.result c.string_with.ensures.string c.unwrap-string.ensures c.string_with.ensures.each in
    All-at_each (λ s. IsTrue (has_point m s.from) × IsTrue (has_point m s.to)) m.strings c.unwrap-string.result.now c.requires.sound.ends there.0

pub returns-then-not-is_clear_of : goal.returns-then-not-is_clear_of
returns-then-not-is_clear_of g c =
    let m = g.M.MapView.map c.args.map.now in
    let met = corner c.args.before c.args.at c.args.after in
    let strings = g.M.MapView.view_strings c.args.map.now c.args.at in
    let row = c.unwrap-string.result.now in
    let there = lent-there m c.args.at (is_clear_of m met) strings c.loop-place.place c.string_with.result c.unwrap-string.result c.string_with.ensures.string c.unwrap-string.ensures c.string_with.ensures.each in
    let is : c.is_clear_of.result ≡ is_clear_of m met row = c.is_clear_of.ensures ∙ clear-is m met _ _ _ row c.position.ensures c.position-2.ensures c.position-3.ensures in
    let fails = sym is ∙ c.if-not-is_clear_of.true in
    sym (false_from_ne_true (is_empty_corner m met) (λ empty. true≢false (sym ((empty-is m met).0 empty row there.0) ∙ fails)))

pub loop-place-preserved : goal.loop-place-preserved
loop-place-preserved g c =
    let m = g.M.MapView.map c.args.map.now in
    let met = corner c.args.before c.args.at c.args.after in
    let strings = g.M.MapView.view_strings c.args.map.now c.args.at in
    let told = lent-is c.string_with.result c.unwrap-string.result strings c.loop-place.place c.string_with.ensures.string c.unwrap-string.ensures in
    let row = c.unwrap-string.result.now in
    let is : c.is_clear_of.result ≡ is_clear_of m met row = c.is_clear_of.ensures ∙ clear-is m met _ _ _ row c.position.ensures c.position-2.ensures c.position-3.ensures in
    passed-more m c.args.at (is_clear_of m met) strings c.loop-place.place c.loop-place.invariant row told c.string_with.ensures.each (sym is ∙ c.if-not-is_clear_of.false)

pub returns : goal.returns
returns g c =
    let m = g.M.MapView.map c.args.map.now in
    let at = c.args.at in
    let met = corner c.args.before at c.args.after in
    let strings = g.M.MapView.view_strings c.args.map.now at in
    let past : length (strings_at m at) ≤ c.loop-place.place = subst (λ (n : ℕ). n ≤ c.loop-place.place) c.degree-place-end.ensures c.loop-place-test.false in
    sym ((empty-is m met).1 (λ s there. clear-far m met s (λ end.
    passed-all m at (is_clear_of m met) strings c.loop-place.place c.loop-place.invariant past s there end)))

-- A split of a map on half-edges that is made in place.
use Rattle.std.proofs.Common.{◌≡◌, ◌≢◌, ℕ, inl, inr, sym, ap, subst, ◌∙◌, List, [], ◌∷◌, ◌++◌, append_assoc, true, Option, Some, None}
use Rattle.std.specs.Prelude.{IsPermutation, option_map, unwrap_or}
use Rattle.std.specs.List.{Contains}
use Rattle.std.proofs.lemmas.Option.{same_Some}
use Rattle.std.proofs.lemmas.List.Sorted.{IsPermutation-trans, IsPermutation-middle}
use Rattle.cad_rows.specs.declared.edits.Edit.TheVariants.{Split}
use Rattle.cad_rows.specs.declared.rows.PointRow.{PointRow}
use Rattle.cad_rows.specs.declared.rows.StringRow.{StringRow}
use Rattle.cad_map.specs.Changes.{split}
use Rattle.cad_map.specs.Effects.{after}
use Rattle.cad_map.specs.Map.{Map, point_of, string_of}
use Rattle.numbered_rows.specs.Rows.{without_row}
use Rattle.cad_map.proofs.CallerLemmas.{All-at_each, allowed, free-split}
use Rattle.half_table.specs.declared.half.Half.{Half}
use Rattle.half_table.specs.Half.{forward_of, backward_of}
use Rattle.half_table.specs.Rows.{HalfRows, has, origin_of}
use Rattle.key_lists.specs.Held.{Held, HasRoomAt}
use Rattle.map_parts.specs.declared.edits.passing.Passing.{Passing}
use Rattle.cad_map.specs.declared.map_rows.MapRows.{MapRows}
use Rattle.map_parts.specs.declared.stars.Spoke.{Spoke}
use Rattle.cad_map.specs.MapRows.{map_in}
use Rattle.map_parts.specs.Parts.{HasHalves}
use Rattle.map_parts.specs.Passing.{HasBetween, FitTable, CanGoThrough, path_of}
use Rattle.map_parts.specs.Splitting.{CanBeginSplit, CanPart, AreStarsOf}
use Rattle.map_parts.proofs.Passing.Begun.{IsPathReady}
use Rattle.map_parts.proofs.Passing.Between as between
use Rattle.map_parts.proofs.Passing.SplitBetween as made
use Rattle.map_parts.proofs.Passing.StarsChanged.{stars-permuted}

-- the rows after a split, from those before it
pub split-rows : (m : Map) (string : ℕ) (point : PointRow) (first second row : StringRow)
    → string_of m string ≡ Some row → row.number ≡ string → point.sources ≡ []
    → first ≡ record { number = first.number; from = row.from; to = point.number; sources = row.sources }
    → second ≡ record { number = second.number; from = point.number; to = row.to; sources = row.sources }
    → (rows : Map) → rows ≡ record m { boundaries = [] }
    → record rows {
      points = rows.points ++ point ∷ [];
      strings = (without_row (λ (r : StringRow). r.number) string rows.strings ++ first ∷ []) ++ second ∷ [];
    } ≡ record (after m (Split string point.number point.position.x point.position.y first.number second.number)) { boundaries = [] }
unfolding after
split-rows m string point first second row found number none first_is second_is rows are =
    let left = without_row (λ (r : StringRow). r.number) string m.strings in
    ap (λ (q : Map). record q {
      points = q.points ++ point ∷ [];
      strings = (without_row (λ (r : StringRow). r.number) string q.strings ++ first ∷ []) ++ second ∷ [];
    }) are
    ∙ ap (λ (l : List StringRow). record m { points = m.points ++ point ∷ []; strings = l; boundaries = [] })
    (append_assoc left (first ∷ []) (second ∷ []))
    ∙ (λ i. record m {
      points = m.points ++ record { number = point.number; position = point.position; sources = none i } ∷ [];
      strings = without_row (λ (r : StringRow). r.number) (sym number i) m.strings ++ first_is i ∷ second_is i ∷ [];
      boundaries = [];
    })
    ∙ ap (λ (o : Option StringRow). record (unwrap_or (option_map (λ row.
    split m row point.number point.position.x point.position.y first.number second.number) o) m) { boundaries = [] })
    (sym found)

-- the map with the string split
abbrev after_split : {string : ℕ} {point : PointRow} {first second : StringRow} {rows : MapRows} {table : HalfRows} {held : Held Half} {stars : Held Spoke}
    → CanBeginSplit string point first second rows table held stars → Map
after_split {string} {point} {first} {second} can =
    after can.map (Split string point.number point.position.x point.position.y first.number second.number)

module _ {string : ℕ} {point : PointRow} {first second : StringRow} {before : MapRows} {old : HalfRows} {held : Held Half} {narrow : Held Spoke}
    (can : CanBeginSplit string point first second before old held narrow) where
  pub split-differ : first.number ≢ second.number
  split-differ = made.split-two can.map string point.number point.position.x point.position.y first.number second.number can.row can.tried can.found

module _ {string : ℕ} {point : PointRow} {first second : StringRow} {before : MapRows} {old : HalfRows} {held : Held Half} {narrow : Held Spoke}
    (can : CanBeginSplit string point first second before old held narrow) {rows : MapRows} {table : HalfRows} {stars : Held Spoke}
    (ready : IsPathReady can.map first second true true rows table held stars) where
  abbrev m : Map
  m = can.map

  abbrev p : ℕ
  p = point.number

  abbrev row : StringRow
  row = can.row

  abbrev it : HasBetween (after_split can) m p row.from row.to (path_of string first.number second.number)
  it = made.split-has_between m string p point.position.x point.position.y first.number second.number row can.tried can.found

  abbrev pub split-can : CanGoThrough (path_of string first.number second.number) table held
  split-can = record {
    through = after_split can;
    past = m;
    p = p;
    a = row.from;
    b = row.to;
    between = it;
    fits = ready.fits.fits;
    first_there = subst (HasHalves table) can.first_is ready.first_there;
    second_there = subst (HasHalves table) can.second_is ready.second_there;
    loose = ready.loose;
  }

  -- what holds of that path holds of the halves that are it
  pub split-fits : (q : Passing) → q ≡ path_of string first.number second.number → (new : HalfRows)
      → (put : Held Half) → ((can : CanGoThrough q table held) → FitTable can.through new put)
      → FitTable (after_split can) new put
  split-fits q is new put fits =
      subst (λ (q : Passing). ((k : CanGoThrough q table held) → FitTable k.through new put) → FitTable (after_split can) new put)
      (sym is) (λ k. k split-can) fits

  there : Contains m.strings row
  there = made.split-there m string p point.position.x point.position.y first.number second.number row can.tried can.found

  two : row.from ≢ row.to
  two = All-at_each (λ (s : StringRow). s.from ≢ s.to) m.strings row can.tried.valid.sound.v2 there

  pub split-part : HasRoomAt stars p 2 → CanPart row first second stars
  split-part room =
      let a-p = between.a-p it in
      let b-p = between.b-p it in
      record {
        strings = m.strings;
        are = ready.fits.are_stars;
        there = there;
        two = two;
        point = p;
        from_apart = a-p;
        to_apart = b-p;
        before = inl (ap (λ (s : StringRow). s.from) can.first_is, ap (λ (s : StringRow). s.to) can.first_is);
        behind = inr (ap (λ (s : StringRow). s.from) can.second_is, ap (λ (s : StringRow). s.to) can.second_is);
        room = room;
      }

  -- the row that is found
  pub split-found : string_of (map_in rows) string ≡ Some row
  split-found = ap (λ (q : Map). string_of q string) ready.fits.rows_are ∙ can.found

  pub split-no_point : point_of (map_in rows) p ≡ None
  split-no_point =
      ap (λ (q : Map). point_of q p) ready.fits.rows_are
      ∙ (free-split m string p point.position.x point.position.y first.number second.number
      (allowed m (Split string p point.position.x point.position.y first.number second.number) can.tried.allowed).taken).0

  free : (string_of m first.number ≡ None) × (string_of m second.number ≡ None)
  free = made.split-free m string p point.position.x point.position.y first.number second.number row can.tried can.found

  pub split-no_first : string_of (map_in rows) first.number ≡ None
  split-no_first = ap (λ (q : Map). string_of q first.number) ready.fits.rows_are ∙ free.0

  pub split-no_second : string_of (map_in rows) second.number ≡ None
  split-no_second = ap (λ (q : Map). string_of q second.number) ready.fits.rows_are ∙ free.1

  number : row.number ≡ string
  number = made.split-number m string p point.position.x point.position.y first.number second.number row can.tried can.found

  -- the stars after it
  pub split-stars : (whole : StringRow) → whole ≡ row → (new : Held Spoke)
      → ((strings left : List StringRow) → AreStarsOf strings stars → IsPermutation strings (whole ∷ left)
      → AreStarsOf (second ∷ first ∷ left) new) → AreStarsOf (after_split can).strings new
  split-stars whole is new each =
      let rest = without_row (λ (r : StringRow). r.number) string m.strings in
      let parts = made.split-before m string p point.position.x point.position.y first.number second.number row can.tried can.found in
      let now = each m.strings rest ready.fits.are_stars (subst (λ (w : StringRow). IsPermutation m.strings (w ∷ rest)) (sym is) parts) in
      let after_it : IsPermutation (after_split can).strings (first ∷ second ∷ rest) =
      subst (λ (t : StringRow × StringRow). IsPermutation (after_split can).strings (t.0 ∷ t.1 ∷ rest))
      (λ i. (sym can.first_is i, sym can.second_is i))
      (made.split-after m string p point.position.x point.position.y first.number second.number row can.tried can.found) in
      stars-permuted (after_split can).strings (second ∷ first ∷ rest) new
      (IsPermutation-trans (after_split can).strings (first ∷ second ∷ rest) (second ∷ first ∷ rest) after_it
      (IsPermutation-middle (first ∷ []) second rest)) now

  pub split-rows_are : (new : Map) → new ≡ record (map_in rows) {
    points = (map_in rows).points ++ point ∷ [];
    strings = (without_row (λ (r : StringRow). r.number) string (map_in rows).strings ++ first ∷ []) ++ second ∷ [];
  } → new ≡ record (after_split can) { boundaries = [] }
  split-rows_are new is =
      is ∙ split-rows m string point first second row can.found number can.no_sources can.first_is can.second_is (map_in rows) ready.fits.rows_are

  -- the string that was split is whole in the table still
  pub split-whole : (whole : StringRow) → string_of (map_in rows) string ≡ Some whole → (new : HalfRows)
      → ((h : Half) → has new h ≡ has table h) → ((h : Half) → origin_of new h ≡ origin_of table h)
      → HasHalves new whole
  split-whole whole is new stays begins =
      let same = same_Some row whole (sym split-found ∙ is) in
      let e = All-at_each (HasHalves table) m.strings row ready.fits.fits.ends there in
      subst (HasHalves new) same (record {
        there = stays (forward_of row.number) ∙ e.there;
        back = stays (backward_of row.number) ∙ e.back;
        from = begins (forward_of row.number) ∙ e.from;
        to = begins (backward_of row.number) ∙ e.to;
      })

-- A split of a map on half-edges that is taken back in place.
use Rattle.std.proofs.Common.{◌≡◌, ◌≢◌, inl, inr, ◌≤◌, ◌==◌, ℕ, zero, suc, refl, sym, ap, subst, ◌∙◌, List, [], ◌∷◌, ◌++◌, map, length, append_assoc, not, Bool, true, false, insert, slice_get, Option, Some, None, arith}
use Rattle.std.specs.Prelude.{IsPermutation, IsSome, is_some, option_map, unwrap_or}
use Rattle.std.specs.List.{AllByRecursion, Contains}
use Rattle.std.proofs.lemmas.Bool.{eqb-true, eq-eqb, false_from_ne_true}
use Rattle.std.proofs.lemmas.List.Sorted.{length_permutation}
use Rattle.std.proofs.lemmas.Option.{slice_get_within}
use Rattle.cad_rows.specs.declared.edits.Edit.TheVariants.{Split}
use Rattle.cad_rows.specs.declared.rows.PointRow.{PointRow}
use Rattle.cad_rows.specs.declared.rows.StringRow.{StringRow}
use Rattle.cad_map.specs.Changes.{split}
use Rattle.cad_map.specs.Effects.{after}
use Rattle.cad_map.specs.Map.{Map, point_of, string_of}
use Rattle.numbered_rows.specs.Rows.{row_with, without_row}
use Rattle.cad_map.specs.Valid.{EachPair}
use Rattle.cad_map.proofs.CallerLemmas.{Contains-at, All-at_each, Contains-map, row-found, row_with-there, none-push, none-filter, allowed, free-split}
use Rattle.numbered_rows.proofs.Removed.{none-taken}
use Rattle.half_table.specs.declared.half.Half.{Half}
use Rattle.half_table.specs.Rows.{HalfRows}
use Rattle.key_lists.specs.Held.{Held}
use Rattle.map_parts.specs.declared.edits.passing.Passing.{Passing}
use Rattle.cad_map.specs.declared.map_rows.MapRows.{MapRows}
use Rattle.map_parts.specs.declared.stars.Spoke.{Spoke}
use Rattle.cad_map.specs.MapRows.{map_in}
use Rattle.map_parts.specs.Passing.{HasBetween, FitTable, CanGoPast, path_of}
use Rattle.map_parts.specs.Splitting.{CanUnsplit, CanMeet, AreStarsOf}
use Rattle.map_parts.proofs.Passing.Between as between
use Rattle.map_parts.proofs.Passing.SplitBetween as made
use Rattle.map_parts.proofs.Passing.StarsChanged.{stars-permuted}

-- ---- Rows that come back

module _ {R : Type 0} (number : R → ℕ) where
  -- none is left out where none has the number
  pub without-absent : (n : ℕ) (rows : List R) → row_with number n rows ≡ None → without_row number n rows ≡ rows
  without-absent n [] none = refl
  without-absent n (r ∷ rows) none = by (number r == n) refl (λ h. without-absent n rows h)
    where
      by : (t : Bool) → (number r == n) ≡ t → (row_with number n rows ≡ None → without_row number n rows ≡ rows)
          → without_row number n (r ∷ rows) ≡ r ∷ rows
      by true is again = let some : Some r ≡ None = rw is at none in cc
      by false is again = rw is (ap (λ (l : List R). r ∷ l) (again (rw is at none)))

  -- the last row is left out
  pub without-last : (rows : List R) (row : R) → row_with number (number row) rows ≡ None
      → without_row number (number row) (rows ++ row ∷ []) ≡ rows
  without-last [] row none = let self = eq-eqb (number row) (number row) refl in rw self refl
  without-last (r ∷ rows) row none = by (number r == number row) refl (λ h. without-last rows row h)
    where
      by : (t : Bool) → (number r == number row) ≡ t
          → (row_with number (number row) rows ≡ None → without_row number (number row) (rows ++ row ∷ []) ≡ rows)
          → without_row number (number row) (r ∷ rows ++ row ∷ []) ≡ r ∷ rows
      by true is again = let some : Some r ≡ None = rw is at none in cc
      by false is again = rw is (ap (λ (l : List R). r ∷ l) (again (rw is at none)))

  -- a row that is left out, and comes back at its place
  pub insert-back : (n : ℕ) (rows : List R) (place : ℕ) (row : R) → EachPair (λ a b. a ≢ b) (map number rows)
      → number row ≡ n → slice_get rows place ≡ Some row → insert (without_row number n rows) place row ≡ rows
  insert-back n [] place row each same at = cc
  insert-back n (r ∷ rows) zero row each same at =
      let first : r ≡ row = cc in
      let is : (number r == n) ≡ true = eq-eqb (number r) n (ap number first ∙ same) in
      let none =
      made.without-none number n rows
      (subst (λ (k : ℕ). AllByRecursion (λ a. k ≢ a) (map number rows)) (ap number first ∙ same) each.0) in
      rw is (λ i. insert (none i) zero row) ∙ (λ i. sym first i ∷ rows)
  insert-back n (r ∷ rows) (suc place) row each same at =
      let later : slice_get rows place ≡ Some row = at in
      let among = Contains-map number rows row (Contains-at rows place row later) in
      let other : (number r == n) ≡ false =
      false_from_ne_true (number r == n) (λ h.
      All-at_each (λ k. number r ≢ k) (map number rows) (number row) each.0 among (eqb-true (number r) n h ∙ sym same)) in
      rw other (ap (λ (l : List R). r ∷ l) (insert-back n rows place row each.1 same later))

module _ {row : StringRow} {place p first second : ℕ} {rows : MapRows} {table : HalfRows}
    {held : Held Half} {stars : Held Spoke} (can : CanUnsplit row place p first second rows table held stars) where
  abbrev m : Map
  m = can.map

  abbrev now : Map
  now = after m (Split row.number p can.x can.y first second)

  there : Contains m.strings row
  there = Contains-at m.strings place row can.at

  pub found : string_of m row.number ≡ Some row
  found = row-found m.strings row can.tried.valid.sound.v1.strings.distinct there

  abbrev one : StringRow
  one = record { number = first; from = row.from; to = p; sources = row.sources }

  abbrev other : StringRow
  other = record { number = second; from = p; to = row.to; sources = row.sources }

  abbrev left : List StringRow
  left = without_row (λ (r : StringRow). r.number) row.number m.strings

  abbrev it : HasBetween now m p row.from row.to (path_of row.number first second)
  it = made.split-has_between m row.number p can.x can.y first second row can.tried found

  abbrev pub undo-can : CanGoPast (path_of row.number first second) table held
  undo-can = record {
    through = now;
    past = m;
    p = p;
    a = row.from;
    b = row.to;
    between = it;
    fits = can.fits.fits;
    whole_there = can.there;
    loose = can.loose;
  }

  pub undo-fits : (q : Passing) → q ≡ path_of row.number first second → (new : HalfRows) → (put : Held Half)
      → ((k : CanGoPast q table held) → FitTable k.past new put) → FitTable m new put
  undo-fits q is new put fits =
      subst (λ (q : Passing). ((k : CanGoPast q table held) → FitTable k.past new put) → FitTable m new put)
      (sym is) (λ k. k undo-can) fits

  strings-are : now.strings ≡ left ++ one ∷ other ∷ []
  strings-are = made.split-strings m row.number p can.x can.y first second row can.tried found

  parts : IsPermutation now.strings (one ∷ other ∷ left)
  parts = made.split-after m row.number p can.x can.y first second row can.tried found

  pub undo-first : string_of (map_in rows) first ≡ Some one
  undo-first =
      ap (λ (q : Map). string_of q first) can.fits.rows_are
      ∙ row-found now.strings one it.rings.v1.strings.distinct
      (between.first-in it)

  pub undo-second : string_of (map_in rows) second ≡ Some other
  undo-second =
      ap (λ (q : Map). string_of q second) can.fits.rows_are
      ∙ row-found now.strings other it.rings.v1.strings.distinct
      (between.second-in it)

  pub undo-meet : CanMeet row one other stars
  undo-meet = record {
    strings = now.strings;
    left = left;
    are = can.fits.are_stars;
    parts = parts;
    two = All-at_each (λ (s : StringRow). s.from ≢ s.to) m.strings row can.tried.valid.sound.v2 there;
    point = p;
    from_apart = between.a-p it;
    to_apart = between.b-p it;
    before = inl (refl, refl);
    behind = inr (refl, refl);
  }

  pub undo-stars : (f g : StringRow) → f ≡ one → g ≡ other → (new : Held Spoke)
      → ((strings left : List StringRow) → AreStarsOf strings stars → IsPermutation strings (f ∷ g ∷ left)
      → AreStarsOf (row ∷ left) new) → AreStarsOf m.strings new
  undo-stars f g f_is g_is new each =
      let are =
      each now.strings left can.fits.are_stars
      (subst (λ (v : StringRow × StringRow). IsPermutation now.strings (v.0 ∷ v.1 ∷ left)) (λ i. (sym f_is i, sym g_is i)) parts) in
      stars-permuted m.strings (row ∷ left) new (made.split-before m row.number p can.x can.y first second row can.tried found) are

  pub undo-differ : first ≢ second
  undo-differ = made.split-two m row.number p can.x can.y first second row can.tried found

  free : (string_of m first ≡ None) × (string_of m second ≡ None)
  free = made.split-free m row.number p can.x can.y first second row can.tried found

  no-point : point_of m p ≡ None
  no-point =
      (free-split m row.number p can.x can.y first second
      (allowed m (Split row.number p can.x can.y first second) can.tried.allowed).taken).0

  abbrev point : PointRow
  point = record { number = p; position = record { x = can.x; y = can.y }; sources = [] }

  points-are : now.points ≡ m.points ++ point ∷ []
  unfolding after
  points-are =
      ap (λ (o : Option StringRow). (unwrap_or (option_map (λ row. split m row p can.x can.y first second) o) m).points) found

  last-at : (l : List PointRow) (q : PointRow) → slice_get (l ++ q ∷ []) (length l) ≡ Some q
  last-at [] q = refl
  last-at (r ∷ l) q = last-at l q

  pub undo-point : IsSome (point_of (map_in rows) p)
  undo-point =
      ap (λ (q : Map). is_some (point_of q p)) can.fits.rows_are
      ∙ row_with-there (λ (r : PointRow). r.number) now.points (length m.points) point
      (ap (λ (l : List PointRow). slice_get l (length m.points)) points-are ∙ last-at m.points point)

  -- the strings without the two new ones
  left-none_first : row_with (λ (r : StringRow). r.number) first left ≡ None
  left-none_first = none-filter (λ (r : StringRow). r.number) (λ (r : StringRow). not (r.number == row.number)) first m.strings free.0

  left-none_second : row_with (λ (r : StringRow). r.number) second left ≡ None
  left-none_second = none-filter (λ (r : StringRow). r.number) (λ (r : StringRow). not (r.number == row.number)) second m.strings free.1

  strings-left : without_row (λ (r : StringRow). r.number) first (without_row (λ (r : StringRow). r.number) second now.strings) ≡ left
  strings-left =
      let number = λ (r : StringRow). r.number in
      let split_list : now.strings ≡ (left ++ one ∷ []) ++ other ∷ [] = strings-are ∙ sym (append_assoc left (one ∷ []) (other ∷ [])) in
      ap (λ (l : List StringRow). without_row number first (without_row number second l)) split_list
      ∙ ap (without_row number first)
      (without-last number (left ++ one ∷ []) other (none-push number second left one undo-differ left-none_second))
      ∙ without-last number left one left-none_first

  pub undo-absent : string_of (map_in rows) row.number ≡ None
  undo-absent =
      let number = λ (r : StringRow). r.number in
      let split_list : now.strings ≡ (left ++ one ∷ []) ++ other ∷ [] = strings-are ∙ sym (append_assoc left (one ∷ []) (other ∷ [])) in
      let not_first : first ≢ row.number = λ e. none-some row (sym free.0 ∙ ap (string_of m) e ∙ found) in
      let not_second : second ≢ row.number = λ e. none-some row (sym free.1 ∙ ap (string_of m) e ∙ found) in
      ap (λ (q : Map). string_of q row.number) can.fits.rows_are
      ∙ ap (row_with number row.number) split_list
      ∙ none-push number row.number (left ++ one ∷ []) other not_second
      (none-push number row.number left one not_first (none-taken number row.number m.strings))
    where
      none-some : (r : StringRow) → None ≡ Some r → ⊥
      none-some r e = cc

  pub undo-place : place ≤ length (without_row (λ (r : StringRow). r.number) first
      (without_row (λ (r : StringRow). r.number) second (map_in rows).strings))
  undo-place =
      let low = slice_get_within m.strings place row can.at in
      let long = length_permutation m.strings (row ∷ left) (made.split-before m row.number p can.x can.y first second row can.tried found) in
      let same : length (without_row (λ (r : StringRow). r.number) first (without_row (λ (r : StringRow). r.number) second (map_in rows).strings)) ≡ length left =
      ap (λ (q : Map). length (without_row (λ (r : StringRow). r.number) first (without_row (λ (r : StringRow). r.number) second q.strings))) can.fits.rows_are
      ∙ ap length strings-left in
      omega (arith, low, long, same)

  parcels-are : now.parcels ≡ m.parcels
  parcels-are = sym it.parcels

  others-are : (now.sources ≡ m.sources) × (now.retired ≡ m.retired)
  unfolding after
  others-are = (
    ap (λ (o : Option StringRow). (unwrap_or (option_map (λ row. split m row p can.x can.y first second) o) m).sources) found,
    ap (λ (o : Option StringRow). (unwrap_or (option_map (λ row. split m row p can.x can.y first second) o) m).retired) found,
  )

  pub undo-rows_are : (new : Map) → new ≡ record (map_in rows) {
    points = without_row (λ (r : PointRow). r.number) p (map_in rows).points;
    strings = insert (without_row (λ (r : StringRow). r.number) first
        (without_row (λ (r : StringRow). r.number) second (map_in rows).strings)) place row;
  } → new ≡ record m { boundaries = [] }
  undo-rows_are new is =
      let points : without_row (λ (r : PointRow). r.number) p now.points ≡ m.points =
      ap (without_row (λ (r : PointRow). r.number) p) points-are ∙ without-last (λ (r : PointRow). r.number) m.points point no-point in
      let strings : insert (without_row (λ (r : StringRow). r.number) first (without_row (λ (r : StringRow). r.number) second now.strings)) place row ≡ m.strings =
      ap (λ (l : List StringRow). insert l place row) strings-left
      ∙ insert-back (λ (r : StringRow). r.number) row.number m.strings place row can.tried.valid.sound.v1.strings.distinct refl can.at in
      is
      ∙ ap (λ (q : Map). record q {
        points = without_row (λ (r : PointRow). r.number) p q.points;
        strings = insert (without_row (λ (r : StringRow). r.number) first (without_row (λ (r : StringRow). r.number) second q.strings)) place row;
      }) can.fits.rows_are
      ∙ (λ i. record {
        sources = others-are.0 i;
        points = points i;
        parcels = parcels-are i;
        strings = strings i;
        retired = others-are.1 i;
        boundaries = [];
      })

-- A join of a map on half-edges that is taken back in place.
use Rattle.std.proofs.Common.{◌≡◌, ◌≢◌, ◌≤◌, ◌==◌, ℕ, zero, suc, refl, sym, ap, subst, ◌∙◌, List, [], ◌∷◌, map, length, Bool, true, false, insert, slice_get, Some, None, arith}
use Rattle.std.specs.Prelude.{IsPermutation}
use Rattle.std.specs.List.{AllByRecursion}
use Rattle.std.proofs.lemmas.Bool.{eqb-true, eq-eqb, false_from_ne_true}
use Rattle.std.proofs.lemmas.List.Sorted.{IsPermutation-trans, IsPermutation-middle, length_permutation}
use Rattle.std.proofs.lemmas.Option.{slice_get_within}
use Rattle.cad_rows.specs.declared.edits.Edit.TheVariants.{Join}
use Rattle.cad_rows.specs.declared.rows.PointRow.{PointRow}
use Rattle.cad_rows.specs.declared.rows.StringRow.{StringRow}
use Rattle.cad_map.specs.Effects.{after}
use Rattle.cad_map.specs.Map.{Map, point_of, string_of, far_end}
use Rattle.numbered_rows.specs.Rows.{row_with, without_row}
use Rattle.cad_map.specs.Valid.{EachPair}
use Rattle.cad_map.proofs.CallerLemmas.{row-found, none-filter, none-push, Contains-map, Contains-at, All-at_each}
use Rattle.half_table.specs.declared.half.Half.{Half}
use Rattle.half_table.specs.Rows.{HalfRows}
use Rattle.key_lists.specs.Held.{Held}
use Rattle.map_parts.specs.declared.edits.join.JoinedRows.{JoinedRows}
use Rattle.map_parts.specs.declared.edits.passing.Passing.{Passing}
use Rattle.cad_map.specs.declared.map_rows.MapRows.{MapRows}
use Rattle.map_parts.specs.declared.stars.Spoke.{Spoke}
use Rattle.cad_map.specs.MapRows.{map_in}
use Rattle.map_parts.specs.Passing.{HasBetween, FitTable, CanGoThrough, path_at}
use Rattle.map_parts.specs.Splitting.{CanPart, AreStarsOf}
use Rattle.map_parts.specs.Joined.{CanUnjoin}
use Rattle.map_parts.proofs.Passing.Between as between
use Rattle.map_parts.proofs.Passing.JoinBetween as made
use Rattle.map_parts.proofs.Passing.JoinMade.{two-out, end-connects}
use Rattle.map_parts.proofs.Passing.SplitBetween.{row-first}
use Rattle.numbered_rows.proofs.Removed.{none-taken, kept-without}
use Rattle.map_parts.proofs.Passing.SplitUndone.{without-last, insert-back}
use Rattle.map_parts.proofs.Passing.StarsChanged.{stars-permuted}

-- numbers that differ still do where a row is left out
module _ {R : Type 0} (number : R → ℕ) where
  each-without : (P : ℕ → Type 0) (n : ℕ) (rows : List R) → AllByRecursion P (map number rows)
      → AllByRecursion P (map number (without_row number n rows))
  each-without P n [] all = tt
  each-without P n (r ∷ rows) all = by (number r == n) refl (each-without P n rows all.1)
    where
      by : (t : Bool) → (number r == n) ≡ t → AllByRecursion P (map number (without_row number n rows))
          → AllByRecursion P (map number (without_row number n (r ∷ rows)))
      by true is rest = rw is rest
      by false is rest = rw is (all.0, rest)

  pub pairs-without : (n : ℕ) (rows : List R) → EachPair (λ a b. a ≢ b) (map number rows)
      → EachPair (λ a b. a ≢ b) (map number (without_row number n rows))
  pairs-without n [] pairs = tt
  pairs-without n (r ∷ rows) pairs = by (number r == n) refl (pairs-without n rows pairs.1)
    where
      by : (t : Bool) → (number r == n) ≡ t → EachPair (λ a b. a ≢ b) (map number (without_row number n rows))
          → EachPair (λ a b. a ≢ b) (map number (without_row number n (r ∷ rows)))
      by true is rest = rw is rest
      by false is rest = rw is (each-without (λ k. number r ≢ k) n rows pairs.0, rest)

  -- no row has a number that none had, after a row of another number
  pub none-inserted : (n : ℕ) (rows : List R) (place : ℕ) (row : R) → n ≢ number row
      → row_with number n rows ≡ None → row_with number n (insert rows place row) ≡ None
  none-inserted n rows zero row apart none =
      let other : (number row == n) ≡ false =
      false_from_ne_true (number row == n) (λ h. apart (sym (eqb-true (number row) n h))) in
      rw other none
  none-inserted n [] (suc place) row apart none =
      let other : (number row == n) ≡ false =
      false_from_ne_true (number row == n) (λ h. apart (sym (eqb-true (number row) n h))) in
      rw other refl
  none-inserted n (r ∷ rows) (suc place) row apart none =
      by (number r == n) refl (λ h. none-inserted n rows place row apart h)
    where
      by : (t : Bool) → (number r == n) ≡ t
          → (row_with number n rows ≡ None → row_with number n (insert rows place row) ≡ None)
          → row_with number n (insert (r ∷ rows) (suc place) row) ≡ None
      by true is again = let some : Some r ≡ None = rw is at none in cc
      by false is again = rw is (again (rw is at none))

  -- a row is found by its number
  pub row-at : (rows : List R) (place : ℕ) (row : R) → EachPair (λ a b. a ≢ b) (map number rows)
      → slice_get rows place ≡ Some row → row_with number (number row) rows ≡ Some row
  row-at [] place row pairs at = cc
  row-at (r ∷ rows) zero row pairs at =
      let same : r ≡ row = cc in
      let is : (number r == number row) ≡ true = eq-eqb (number r) (number row) (ap number same) in
      rw is (ap Some same)
  row-at (r ∷ rows) (suc place) row pairs at =
      let among = Contains-map number rows row (Contains-at rows place row at) in
      let other : (number r == number row) ≡ false =
      false_from_ne_true (number r == number row) (λ h.
      All-at_each (λ k. number r ≢ k) (map number rows) (number row) pairs.0 among (eqb-true (number r) (number row) h)) in
      rw other (row-at rows place row pairs.1 at)

  -- the place of a row is no more than the number of the others
  pub place-within : (n : ℕ) (row : R) (rows : List R) (place : ℕ) → EachPair (λ a b. a ≢ b) (map number rows)
      → row_with number n rows ≡ Some row → slice_get rows place ≡ Some row
      → place ≤ length (without_row number n rows)
  place-within n row rows place pairs found at =
      let low = slice_get_within rows place row at in
      let long = length_permutation rows (row ∷ without_row number n rows) (row-first number n row rows pairs found) in
      omega (arith, low, long)

module _ {joined : JoinedRows} {new : ℕ} {rows : MapRows} {table : HalfRows} {held : Held Half}
    {stars : Held Spoke} (can : CanUnjoin joined new rows table held stars) where
  abbrev m : Map
  m = can.map

  abbrev p : ℕ
  p = joined.point.number

  abbrev s : StringRow
  s = joined.first

  abbrev t : StringRow
  t = joined.second

  abbrev now : Map
  now = after m (Join p new)

  abbrev it : HasBetween m now p (far_end s p) (far_end t p) (path_at p s t new)
  it = made.join-has_between m p new s t can.tried can.are can.apart

  abbrev pub undo-can : CanGoThrough (path_at p s t new) table held
  undo-can = record {
    through = m;
    past = now;
    p = p;
    a = far_end s p;
    b = far_end t p;
    between = it;
    fits = can.fits.fits;
    first_there = can.first_there;
    second_there = can.second_there;
    loose = can.loose;
  }

  pub undo-fits : (q : Passing) → q ≡ path_at p s t new → (after_it : HalfRows) → (put : Held Half)
      → ((k : CanGoThrough q table held) → FitTable k.through after_it put) → FitTable m after_it put
  undo-fits q is after_it put fits =
      subst (λ (q : Passing). ((k : CanGoThrough q table held) → FitTable k.through after_it put) → FitTable m after_it put)
      (sym is) (λ k. k undo-can) fits

  abbrev pub whole : StringRow
  whole = made.made m p new s t can.tried can.are can.apart

  pub undo-whole : string_of (map_in rows) new ≡ Some whole
  undo-whole =
      ap (λ (q : Map). string_of q new) can.fits.rows_are
      ∙ row-found now.strings whole it.rings_past.v1.strings.distinct
      (between.whole-in it)

  abbrev left : List StringRow
  left = made.others m p new s t can.tried can.are can.apart

  pub undo-part : CanPart whole s t stars
  undo-part =
      let one = made.join-first m p new s t can.tried can.are can.apart in
      let other = made.join-second m p new s t can.tried can.are can.apart in
      record {
        strings = now.strings;
        are = can.fits.are_stars;
        there = between.whole-in it;
        point = p;
        two = it.joined.apart;
        from_apart = between.a-p it;
        to_apart = between.b-p it;
        before = end-connects s p one.1;
        behind = end-connects t p other.1;
        room = can.room;
      }

  pub undo-stars : (w : StringRow) → w ≡ whole → (put : Held Spoke)
      → ((strings left : List StringRow) → AreStarsOf strings stars → IsPermutation strings (w ∷ left)
      → AreStarsOf (t ∷ s ∷ left) put) → AreStarsOf m.strings put
  undo-stars w is put each =
      let now_are =
      each now.strings left can.fits.are_stars
      (subst (λ (v : StringRow). IsPermutation now.strings (v ∷ left)) (sym is)
      (made.join-after m p new s t can.tried can.are can.apart)) in
      stars-permuted m.strings (t ∷ s ∷ left) put
      (IsPermutation-trans m.strings (s ∷ t ∷ left) (t ∷ s ∷ left)
      (made.join-before m p new s t can.tried can.are can.apart) (IsPermutation-middle (s ∷ []) t left)) now_are

  pub undo-differ : s.number ≢ t.number
  undo-differ = made.join-differ m p new s t can.tried can.are can.apart

  -- the strings without the new one
  strings-left : without_row (λ (r : StringRow). r.number) new now.strings ≡ left
  strings-left =
      ap (without_row (λ (r : StringRow). r.number) new) (made.join-strings m p new s t can.tried can.are can.apart)
      ∙ without-last (λ (r : StringRow). r.number) left whole
      (none-filter (λ (r : StringRow). r.number) _ new m.strings (made.join-free m p new s t can.tried can.are can.apart))

  abbrev one_out : List StringRow
  one_out = without_row (λ (r : StringRow). r.number) s.number m.strings

  both-out : without_row (λ (r : StringRow). r.number) t.number one_out ≡ left
  both-out = two-out m p new s t can.tried can.are can.apart

  one_out-pairs : EachPair (λ a b. a ≢ b) (map (λ (r : StringRow). r.number) one_out)
  one_out-pairs =
      pairs-without (λ (r : StringRow). r.number) s.number m.strings can.tried.valid.sound.v1.strings.distinct

  second-found : row_with (λ (r : StringRow). r.number) t.number one_out ≡ Some t
  second-found =
      kept-without (λ (r : StringRow). r.number) t.number s.number m.strings undo-differ
      ∙ made.join-found_second m p new s t can.tried can.are can.apart

  with-second : insert left joined.second_place t ≡ one_out
  with-second =
      ap (λ (l : List StringRow). insert l joined.second_place t) (sym both-out)
      ∙ insert-back (λ (r : StringRow). r.number) t.number one_out joined.second_place t one_out-pairs refl can.second_at

  with-both : insert one_out joined.first_place s ≡ m.strings
  with-both =
      insert-back (λ (r : StringRow). r.number) s.number m.strings joined.first_place s
      can.tried.valid.sound.v1.strings.distinct refl can.first_at

  points-are : now.points ≡ without_row (λ (r : PointRow). r.number) p m.points
  unfolding after
  points-are = refl

  others-are : (now.sources ≡ m.sources) × (now.retired ≡ m.retired)
  unfolding after
  others-are = (refl, refl)

  now-strings : (map_in rows).strings ≡ now.strings
  now-strings = ap (λ (q : Map). q.strings) can.fits.rows_are

  now-points : (map_in rows).points ≡ now.points
  now-points = ap (λ (q : Map). q.points) can.fits.rows_are

  pub undo-no_point : point_of (map_in rows) p ≡ None
  undo-no_point =
      ap (row_with (λ (r : PointRow). r.number) p) (now-points ∙ points-are)
      ∙ none-taken (λ (r : PointRow). r.number) p m.points

  not-left_first : row_with (λ (r : StringRow). r.number) s.number left ≡ None
  not-left_first =
      ap (row_with (λ (r : StringRow). r.number) s.number) (sym both-out)
      ∙ none-filter (λ (r : StringRow). r.number) _ s.number one_out (none-taken (λ (r : StringRow). r.number) s.number m.strings)

  not-left_second : row_with (λ (r : StringRow). r.number) t.number left ≡ None
  not-left_second =
      ap (row_with (λ (r : StringRow). r.number) t.number) (sym both-out)
      ∙ none-taken (λ (r : StringRow). r.number) t.number one_out

  -- one that isn't left and isn't the new one isn't there
  absent : (n : ℕ) (q : StringRow) → string_of m n ≡ Some q → row_with (λ (r : StringRow). r.number) n left ≡ None
      → string_of (map_in rows) n ≡ None
  absent n q found none =
      ap (row_with (λ (r : StringRow). r.number) n) (now-strings ∙ made.join-strings m p new s t can.tried can.are can.apart)
      ∙ none-push (λ (r : StringRow). r.number) n left whole
      (λ e. none-some q (sym (made.join-free m p new s t can.tried can.are can.apart) ∙ ap (string_of m) e ∙ found)) none
    where
      none-some : (r : StringRow) → None ≡ Some r → ⊥
      none-some r e = cc

  pub undo-no_first : string_of (map_in rows) s.number ≡ None
  undo-no_first = absent s.number s (made.join-found_first m p new s t can.tried can.are can.apart) not-left_first

  pub undo-no_second : string_of (map_in rows) t.number ≡ None
  undo-no_second = absent t.number t (made.join-found_second m p new s t can.tried can.are can.apart) not-left_second

  now-left : without_row (λ (r : StringRow). r.number) new (map_in rows).strings ≡ left
  now-left = ap (without_row (λ (r : StringRow). r.number) new) now-strings ∙ strings-left

  pub undo-second_place : joined.second_place ≤ length (without_row (λ (r : StringRow). r.number) new (map_in rows).strings)
  undo-second_place =
      let within = place-within (λ (r : StringRow). r.number) t.number t one_out joined.second_place one_out-pairs second-found can.second_at in
      let same = ap (λ (l : List StringRow). length l) (now-left ∙ sym both-out) in
      omega (arith, within, same)

  pub undo-first_place : joined.first_place
      ≤ length (insert (without_row (λ (r : StringRow). r.number) new (map_in rows).strings) joined.second_place joined.second)
  undo-first_place =
      let within =
      place-within (λ (r : StringRow). r.number) s.number s m.strings joined.first_place
      can.tried.valid.sound.v1.strings.distinct (made.join-found_first m p new s t can.tried can.are can.apart) can.first_at in
      let same = ap (λ (l : List StringRow). length l) (ap (λ (l : List StringRow). insert l joined.second_place t) now-left ∙ with-second) in
      omega (arith, within, same)

  point-found : point_of m p ≡ Some joined.point
  point-found = row-at (λ (r : PointRow). r.number) m.points joined.point_place joined.point can.tried.valid.sound.v1.points.distinct can.point_at

  pub undo-point_place : joined.point_place ≤ length (map_in rows).points
  undo-point_place =
      let within =
      place-within (λ (r : PointRow). r.number) p joined.point m.points joined.point_place
      can.tried.valid.sound.v1.points.distinct point-found can.point_at in
      let same = ap (λ (l : List PointRow). length l) (now-points ∙ points-are) in
      omega (arith, within, same)

  pub undo-rows_are : (put : Map) → put ≡ record (map_in rows) {
    points = insert (map_in rows).points joined.point_place joined.point;
    strings = insert (insert (without_row (λ (r : StringRow). r.number) new (map_in rows).strings)
        joined.second_place joined.second) joined.first_place joined.first;
  } → put ≡ record m { boundaries = [] }
  undo-rows_are put is =
      let points : insert now.points joined.point_place joined.point ≡ m.points =
      ap (λ (l : List PointRow). insert l joined.point_place joined.point) points-are
      ∙ insert-back (λ (r : PointRow). r.number) p m.points joined.point_place joined.point
      can.tried.valid.sound.v1.points.distinct refl can.point_at in
      let strings : insert (insert (without_row (λ (r : StringRow). r.number) new now.strings) joined.second_place t) joined.first_place s ≡ m.strings =
      ap (λ (l : List StringRow). insert (insert l joined.second_place t) joined.first_place s) strings-left
      ∙ ap (λ (l : List StringRow). insert l joined.first_place s) with-second ∙ with-both in
      is
      ∙ ap (λ (q : Map). record q {
        points = insert q.points joined.point_place joined.point;
        strings = insert (insert (without_row (λ (r : StringRow). r.number) new q.strings) joined.second_place t) joined.first_place s;
      }) can.fits.rows_are
      ∙ (λ i. record {
        sources = others-are.0 i;
        points = points i;
        parcels = it.parcels i;
        strings = strings i;
        retired = others-are.1 i;
        boundaries = [];
      })

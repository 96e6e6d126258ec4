-- Strings that come last among the rows, one after another, and go.
use Rattle.std.proofs.Common.{◌≡◌, ◌≢◌, ◌<◌, ◌+◌, ℕ, drop, get_or, refl, sym, ap, subst, ◌∙◌, List, [], ◌∷◌, ◌++◌, map, filter, length, length-append, Some, None, inl, inr, arith, not, ◌==◌, nat_eq, Bool, true, false}
use Rattle.std.specs.Prelude.{IsPermutation, IsSome}
use Rattle.std.specs.List.{AllByRecursion, Contains}
use Rattle.std.proofs.lemmas.List.{drop_more}
use Rattle.std.proofs.lemmas.List.Sorted.{IsPermutation-append_comm}
use Rattle.cad_rows.specs.declared.rows.StringRow.{StringRow}
use Rattle.cad_map.specs.Map.{string_of}
use Rattle.numbered_rows.specs.Rows.{row_with, without_row}
use Rattle.cad_map.specs.Valid.{EachPair}
use Rattle.cad_map.proofs.CallerLemmas.{All-follows, All-at_each, All-filter, none-push, Contains-first, Contains-later}
use Rattle.entry_list.specs.Slots.{HasSlot, KeepsSlots}
use Rattle.key_lists.specs.Held.{Held, items_at, capacity_at, HasRoomAt}
use Rattle.cad_map.specs.declared.map_rows.MapRows.{MapRows}
use Rattle.map_parts.specs.declared.stars.Spoke.{Spoke}
use Rattle.cad_map.specs.MapRows.{map_in}
use Rattle.numbered_rows.specs.Rows.{rows_in}
use Rattle.half_table.specs.Half.{forward_of, backward_of}
use Rattle.map_parts.specs.Stars.{spoke, spokes_of, spokes_at, AddsSpokes}
use Rattle.map_parts.specs.Splitting.{AreStarsOf}
use Rattle.map_parts.specs.StringRows.{CanPutStrings, CanTakeStrings, KeepsRoom}
use Rattle.map_parts.proofs.Passing.SplitBetween.{row-first}
use Rattle.numbered_rows.proofs.Removed.{kept-without}
use Rattle.map_parts.proofs.Passing.StarsChanged.{stars-with, stars-without, room-after_put, length-spokes_at, star-from, star-to}

-- ---- Put

module _ (s : StringRow) (rest : List StringRow) (rows : MapRows) (stars : Held Spoke)
    (can : CanPutStrings (s ∷ rest) rows stars) where
  -- at both ends of the first there is room for its halves
  room-at : (p : ℕ) → length (spokes_of p s) ≡ 1 → HasRoomAt stars p 1
  room-at p one =
      let both = length-append (spokes_of p s) (spokes_at p rest) in
      let room = can.room p (omega (arith, both, one)) in
      omega (arith, both, one, room)

  pub put-from : HasRoomAt stars s.from 1
  put-from = room-at s.from (length-spokes_at s s.to s.from (λ e. can.two.0 (sym e)) (inr (refl, refl)))

  pub put-to : HasRoomAt stars s.to 1
  put-to = room-at s.to (length-spokes_at s s.from s.to can.two.0 (inl (refl, refl)))

  -- and the others can be put after it
  pub can-rest : (new : MapRows) (wide : Held Spoke)
      → rows_in new.strings ≡ rows_in rows.strings ++ s ∷ [] → KeepsSlots rows.strings new.strings
      → AddsSpokes s stars wide → ((p : ℕ) → capacity_at wide p ≡ capacity_at stars p)
      → CanPutStrings rest new wide
  can-rest new wide are slots adds capacity = record {
    slots = All-follows (λ (t : StringRow). HasSlot rows.strings t.number) (λ (t : StringRow). HasSlot new.strings t.number)
        (λ t h. slots t.number h) rest can.slots.1;
    absent = absent_rest rest can.differ.0 can.absent.1;
    differ = can.differ.1;
    two = can.two.1;
    room = λ p some.
        let both = length-append (spokes_of p s) (spokes_at p rest) in
        let room = can.room p (omega (arith, both, some)) in
        room-after_put s stars wide p (length (spokes_at p rest)) adds (capacity p) (omega (arith, both, room));
  }
    where
      absent_rest : (ts : List StringRow) → AllByRecursion (λ k. s.number ≢ k) (map (λ (t : StringRow). t.number) ts)
          → AllByRecursion (λ (t : StringRow). string_of (map_in rows) t.number ≡ None) ts
          → AllByRecursion (λ (t : StringRow). string_of (map_in new) t.number ≡ None) ts
      absent_rest [] others none = tt
      absent_rest (t ∷ ts) others none = (
        ap (row_with (λ (r : StringRow). r.number) t.number) are
            ∙ none-push (λ (r : StringRow). r.number) t.number (rows_in rows.strings) s others.0 none.0,
        absent_rest ts others.1 none.1,
      )

  pub put-stars : (new : MapRows) (wide : Held Spoke) → rows_in new.strings ≡ rows_in rows.strings ++ s ∷ []
      → AddsSpokes s stars wide → AreStarsOf (rows_in rows.strings) stars → AreStarsOf (rows_in new.strings) wide
  put-stars new wide are adds before =
      stars-with (rows_in new.strings) (rows_in rows.strings) s stars wide before
      (subst (λ (l : List StringRow). IsPermutation l (s ∷ rows_in rows.strings)) (sym are)
      (IsPermutation-append_comm (rows_in rows.strings) (s ∷ []))) adds

-- ---- Taken

-- numbers of rows, without some
module _ {R : Type 0} (number : R → ℕ) where
  -- a row of another number is there all the same
  there-still : (n k : ℕ) (rows : List R) → k ≢ n → IsSome (row_with number n rows)
      → IsSome (row_with number n (without_row number k rows))
  there-still n k rows other some = subst IsSome (sym (kept-without number n k rows other)) some

  pub found-there : (n : ℕ) (rows : List R) (row : R) → row_with number n rows ≡ Some row → Contains rows row
  found-there n [] row found = cc
  found-there n (r ∷ rows) row found = by (nat_eq (number r) n) refl (λ h. found-there n rows row h)
    where
      by : (b : Bool) → nat_eq (number r) n ≡ b → (row_with number n rows ≡ Some row → Contains rows row)
          → Contains (r ∷ rows) row
      by true is again =
          let here : Some r ≡ Some row = rw is at found in
          let same : r ≡ row = cc in
          subst (Contains (r ∷ rows)) same (Contains-first r rows)
      by false is again = Contains-later r rows row (again (rw is at found))

  pub others-left : (n : ℕ) (test : R → Bool) (rows : List R) → AllByRecursion (λ k. n ≢ k) (map number rows)
      → AllByRecursion (λ k. n ≢ k) (map number (filter test rows))
  others-left n test [] all = tt
  others-left n test (r ∷ rows) all = by (test r) refl (others-left n test rows all.1)
    where
      by : (b : Bool) → test r ≡ b → AllByRecursion (λ k. n ≢ k) (map number (filter test rows))
          → AllByRecursion (λ k. n ≢ k) (map number (filter test (r ∷ rows)))
      by true is rest = rw is (all.0, rest)
      by false is rest = rw is rest

  pub each-left : (test : R → Bool) (rows : List R) → EachPair (λ a b. a ≢ b) (map number rows)
      → EachPair (λ a b. a ≢ b) (map number (filter test rows))
  each-left test [] each = tt
  each-left test (r ∷ rows) each = by (test r) refl (each-left test rows each.1)
    where
      by : (b : Bool) → test r ≡ b → EachPair (λ a b. a ≢ b) (map number (filter test rows))
          → EachPair (λ a b. a ≢ b) (map number (filter test (r ∷ rows)))
      by true is rest = rw is (others-left (number r) test rows each.0, rest)
      by false is rest = rw is rest

-- the item at a place of a list, and those after it
pub next-of : (ns : List ℕ) (place n : ℕ) → place < length ns → n ≡ get_or ns place n → drop place ns ≡ n ∷ drop (place + 1) ns
next-of ns place n within is = drop_more ns place n within ∙ ap (λ (k : ℕ). k ∷ drop (place + 1) ns) (sym is)

-- the first of some can go alone
pub take-one : (n : ℕ) (rest : List ℕ) (rows : MapRows) (stars : Held Spoke) → CanTakeStrings (n ∷ rest) rows stars → CanTakeStrings (n ∷ []) rows stars
take-one n rest rows stars can = record {
  there = (can.there.0, tt);
  differ = (tt, tt);
  numbers_differ = can.numbers_differ;
  two = can.two;
  are = can.are;
}

module _ (n : ℕ) (rest : List ℕ) (rows : MapRows) (stars : Held Spoke)
    (can : CanTakeStrings (n ∷ rest) rows stars) where
  abbrev old : List StringRow
  old = rows_in rows.strings

  abbrev left : List StringRow
  left = without_row (λ (r : StringRow). r.number) n old

  module _ (row : StringRow) (found : string_of (map_in rows) n ≡ Some row) where
    among : Contains old row
    among = found-there (λ (r : StringRow). r.number) n old row found

    pub take-two : row.from ≢ row.to
    take-two = All-at_each (λ (s : StringRow). s.from ≢ s.to) old row can.two among

    pub take-from : Contains (items_at stars row.from) (spoke (forward_of row.number) row.to)
    take-from = star-from old stars can.are row among

    pub take-to : Contains (items_at stars row.to) (spoke (backward_of row.number) row.from)
    take-to = star-to old stars can.are row take-two among

    pub take-rest : (new : MapRows) (wide : Held Spoke) → rows_in new.strings ≡ left
        → ((p : ℕ) → IsPermutation (items_at stars p) (spokes_of p row ++ items_at wide p))
        → CanTakeStrings rest new wide
    take-rest new wide are takes = record {
      there = still rest can.differ.0 can.there.1;
      differ = can.differ.1;
      numbers_differ =
          subst (λ (l : List StringRow). EachPair (λ a b. a ≢ b) (map (λ (s : StringRow). s.number) l)) (sym are)
          (each-left (λ (s : StringRow). s.number) (λ r. not (r.number == n)) old can.numbers_differ);
      two =
          subst (AllByRecursion (λ (s : StringRow). s.from ≢ s.to)) (sym are)
          (All-filter (λ (s : StringRow). s.from ≢ s.to) (λ r. not (r.number == n)) old can.two);
      are =
          subst (λ (l : List StringRow). AreStarsOf l wide) (sym are)
          (stars-without old left row stars wide can.are
          (row-first (λ (r : StringRow). r.number) n row old can.numbers_differ found) takes);
    }
      where
        still : (ns : List ℕ) → AllByRecursion (λ k. n ≢ k) ns → AllByRecursion (λ k. IsSome (string_of (map_in rows) k)) ns
            → AllByRecursion (λ k. IsSome (string_of (map_in new) k)) ns
        still [] others all = tt
        still (k ∷ ns) others all = (
          subst (λ (l : List StringRow). IsSome (row_with (λ (r : StringRow). r.number) k l)) (sym are)
              (there-still (λ (r : StringRow). r.number) k n old others.0 all.0),
          still ns others.1 all.1,
        )

-- ---- Slots and room stay

pub keeps-none : {rows : MapRows} {stars : Held Spoke} → KeepsRoom rows rows stars stars
keeps-none = record { strings = λ n h. h; parcels = λ n h. h; capacity = λ p. refl }

pub keeps-then : {rows more last : MapRows} {stars filled put : Held Spoke} → KeepsRoom rows more stars filled → KeepsRoom more last filled put → KeepsRoom rows last stars put
keeps-then it then = record {
  strings = λ n h. then.strings n (it.strings n h);
  parcels = λ n h. then.parcels n (it.parcels n h);
  capacity = λ p. then.capacity p ∙ it.capacity p;
}

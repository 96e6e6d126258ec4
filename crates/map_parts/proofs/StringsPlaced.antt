-- Strings that go from the rows one after another, and the places that they leave.
use Rattle.std.proofs.Common.{◌≡◌, ◌≢◌, ◌≤◌, ◌+◌, ℕ, zero, suc, Bool, true, false, refl, sym, ap, subst, ◌∙◌, List, [], ◌∷◌, ◌++◌, map, length, length-append, append-nil, not, ◌==◌, insert, slice_get, Some, None, inl, inr, arith}
use Rattle.std.specs.Prelude.{IsPermutation}
use Rattle.std.specs.List.{AllByRecursion}
use Rattle.std.proofs.lemmas.Bool.{eqb-true}
use Rattle.std.proofs.lemmas.Grind.{flat_map-append}
use Rattle.std.proofs.lemmas.List.{map-append}
use Rattle.std.proofs.lemmas.List.Sorted.{length_permutation}
use Rattle.std.proofs.lemmas.Option.{slice_get_within}
use Rattle.cad_rows.specs.declared.rows.StringRow.{StringRow}
use Rattle.numbered_rows.specs.Rows.{row_with, without_row}
use Rattle.cad_map.specs.Valid.{EachPair}
use Rattle.cad_map.proofs.CallerLemmas.{All-follows, Contains-at, row-found}
use Rattle.entry_list.specs.Slots.{HasSlot, KeepsSlots}
use Rattle.key_lists.specs.Held.{Held, items_at, HasRoomAt, capacity_at}
use Rattle.map_parts.specs.declared.edits.placed_strings.PlacedString.{PlacedString}
use Rattle.cad_map.specs.declared.map_rows.MapRows.{MapRows}
use Rattle.map_parts.specs.declared.stars.Spoke.{Spoke}
use Rattle.map_parts.specs.PlacedStrings.{CanPutPlaced, numbers_placed, StoodIn}
use Rattle.numbered_rows.specs.Rows.{rows_in}
use Rattle.map_parts.specs.Splitting.{AreStarsOf}
use Rattle.map_parts.specs.Stars.{spokes_of, spokes_at, AddsSpokes}
use Rattle.map_parts.specs.StringRows.{HasRoomFor, without_rows}
use Rattle.map_parts.proofs.Passing.SplitBetween.{row-first}
use Rattle.numbered_rows.proofs.Removed.{none-taken}
use Rattle.map_parts.proofs.Passing.SplitUndone.{insert-back}
use Rattle.map_parts.proofs.Passing.StarsChanged.{stars-with, room-after_put, length-spokes_at}
use Rattle.map_parts.proofs.StringRowsPut.{each-left}

-- the last one goes after the others
pub without-last_of : (gone : List PlacedString) (n : ℕ) (g : PlacedString) (rows : List StringRow) → g.row.number ≡ n
    → without_rows (numbers_placed (gone ++ g ∷ [])) rows
    ≡ without_row (λ (r : StringRow). r.number) n (without_rows (numbers_placed gone) rows)
without-last_of [] n g rows is = λ i. without_row (λ (r : StringRow). r.number) (is i) rows
without-last_of (k ∷ gone) n g rows is =
    without-last_of gone n g (without_row (λ (r : StringRow). r.number) k.row.number rows) is

pub stood-more : (rows : List StringRow) (gone : List PlacedString) (g : PlacedString) → StoodIn rows gone
    → slice_get (without_rows (numbers_placed gone) rows) g.place ≡ Some g.row → StoodIn rows (gone ++ g ∷ [])
stood-more rows [] g stood at = (at, tt)
stood-more rows (k ∷ gone) g stood at =
    (stood.0, stood-more (without_row (λ (r : StringRow). r.number) k.row.number rows) gone g stood.1 at)

-- and the last one stood where the others were out
pub stood-before : (rows : List StringRow) (gone : List PlacedString) (g : PlacedString) → StoodIn rows (gone ++ g ∷ [])
    → StoodIn rows gone × (slice_get (without_rows (numbers_placed gone) rows) g.place ≡ Some g.row)
stood-before rows [] g stood = (tt, stood.0)
stood-before rows (k ∷ gone) g stood =
    let rest = stood-before (without_row (λ (r : StringRow). r.number) k.row.number rows) gone g stood.1 in
    ((stood.0, rest.0), rest.1)

pub numbers-more : (gone : List PlacedString) (g : PlacedString) (rest : List ℕ)
    → numbers_placed (gone ++ g ∷ []) ++ rest ≡ numbers_placed gone ++ g.row.number ∷ rest
numbers-more [] g rest = refl
numbers-more (k ∷ gone) g rest = λ i. k.row.number ∷ numbers-more gone g rest i

-- each star has the last one's halves more
long-at : (gone : List PlacedString) (g : PlacedString) (p : ℕ) → length (spokes_at p (map (λ (q : PlacedString). q.row) (gone ++ g ∷ [])))
    ≡ length (spokes_at p (map (λ (q : PlacedString). q.row) gone)) + length (spokes_of p g.row)
long-at gone g p =
    ap (λ (l : List StringRow). length (spokes_at p l)) (map-append (λ (q : PlacedString). q.row) gone (g ∷ []))
    ∙ ap length (flat_map-append (spokes_of p) (map (λ (q : PlacedString). q.row) gone) (g.row ∷ []))
    ∙ length-append (spokes_at p (map (λ (q : PlacedString). q.row) gone)) (spokes_at p (g.row ∷ []))
    ∙ ap (λ (l : List Spoke). length (spokes_at p (map (λ (q : PlacedString). q.row) gone)) + length l) (append-nil (spokes_of p g.row))

-- what goes leaves its room
module _ (gone : List PlacedString) (g : PlacedString) (old new : Held Spoke)
    (takes : (p : ℕ) → IsPermutation (items_at old p) (spokes_of p g.row ++ items_at new p))
    (capacity : (p : ℕ) → capacity_at new p ≡ capacity_at old p) (from : HasRoomAt new g.row.from 1) (to : HasRoomAt new g.row.to 1)
    (room : HasRoomFor (map (λ (q : PlacedString). q.row) gone) old) where
  abbrev before : ℕ → ℕ
  before p = length (spokes_at p (map (λ (q : PlacedString). q.row) gone))

  fewer : (p : ℕ) → length (items_at old p) ≡ length (spokes_of p g.row) + length (items_at new p)
  fewer p = sym (length_permutation (items_at old p) (spokes_of p g.row ++ items_at new p) (takes p)) ∙ length-append (spokes_of p g.row) (items_at new p)

  -- the star had others that went, or none
  with-others : (p : ℕ) → length (spokes_of p g.row) ≤ 1 → HasRoomAt new p 1 → HasRoomAt new p (before p + length (spokes_of p g.row))
  with-others p one here = which (before p) refl
    where
      which : (n : ℕ) → before p ≡ n → HasRoomAt new p (before p + length (spokes_of p g.row))
      which zero is = omega (arith, is, one, here)
      which (suc n) is =
          let had = room p (omega (arith, is)) in
          let cap = capacity p in
          let few = fewer p in
          omega (arith, had, cap, few)

  pub room-placed : HasRoomFor (map (λ (q : PlacedString). q.row) (gone ++ g ∷ [])) new
  room-placed p some = by (g.row.from == p) (g.row.to == p) refl refl
    where
      all : HasRoomAt new p (before p + length (spokes_of p g.row)) → HasRoomAt new p (length (spokes_at p (map (λ (q : PlacedString). q.row) (gone ++ g ∷ []))))
      all had = let l = long-at gone g p in omega (arith, had, l)

      by : (s t : Bool) → (g.row.from == p) ≡ s → (g.row.to == p) ≡ t → HasRoomAt new p (length (spokes_at p (map (λ (q : PlacedString). q.row) (gone ++ g ∷ []))))
      by true t is_from is_to =
          let one : length (spokes_of p g.row) ≤ 1 = rw is_from (omega arith) in
          all (with-others p one (subst (λ (n : ℕ). HasRoomAt new n 1) (eqb-true g.row.from p is_from) from))
      by false true is_from is_to =
          let one : length (spokes_of p g.row) ≤ 1 = rw (is_from, is_to) (omega arith) in
          all (with-others p one (subst (λ (n : ℕ). HasRoomAt new n 1) (eqb-true g.row.to p is_to) to))
      by false false is_from is_to =
          let none : length (spokes_of p g.row) ≡ 0 = rw (is_from, is_to) refl in
          let l = long-at gone g p in
          let had = room p (omega (arith, some, l, none)) in
          let cap = capacity p in
          let few = fewer p in
          all (omega (arith, had, cap, few, none))

-- ---- Back in their places

each-without : (ns : List ℕ) (rows : List StringRow) → EachPair (λ a b. a ≢ b) (map (λ (s : StringRow). s.number) rows)
    → EachPair (λ a b. a ≢ b) (map (λ (s : StringRow). s.number) (without_rows ns rows))
each-without [] rows each = each
each-without (n ∷ ns) rows each =
    each-without ns (without_row (λ (s : StringRow). s.number) n rows)
    (each-left (λ (s : StringRow). s.number) (λ r. not (r.number == n)) rows each)

all-both : {X : Type 0} (P : X → Type 0) (xs : List X) (x : X) → AllByRecursion P (xs ++ x ∷ []) → AllByRecursion P xs × P x
all-both P [] x all = (tt, all.0)
all-both P (y ∷ xs) x all = let rest = all-both P xs x all.1 in ((all.0, rest.0), rest.1)

-- the last one, where it stood
module _ (gone : List PlacedString) (g : PlacedString) (b left : List StringRow)
    (differ : EachPair (λ a b. a ≢ b) (map (λ (s : StringRow). s.number) b)) (stood : StoodIn b (gone ++ g ∷ []))
    (left_is : left ≡ without_rows (numbers_placed (gone ++ g ∷ [])) b) where
  abbrev x : List StringRow
  x = without_rows (numbers_placed gone) b

  at : slice_get x g.place ≡ Some g.row
  at = (stood-before b gone g stood).1

  x-differ : EachPair (λ a b. a ≢ b) (map (λ (s : StringRow). s.number) x)
  x-differ = each-without (numbers_placed gone) b differ

  pub left-are : left ≡ without_row (λ (r : StringRow). r.number) g.row.number x
  left-are = left_is ∙ without-last_of gone g.row.number g b refl

  pub last-permuted : IsPermutation x (g.row ∷ left)
  last-permuted =
      subst (λ (l : List StringRow). IsPermutation x (g.row ∷ l)) (sym left-are)
      (row-first (λ (r : StringRow). r.number) g.row.number g.row x x-differ
      (row-found x g.row x-differ (Contains-at x g.place g.row at)))

  pub last-absent : row_with (λ (r : StringRow). r.number) g.row.number left ≡ None
  last-absent =
      ap (row_with (λ (r : StringRow). r.number) g.row.number) left-are
      ∙ none-taken (λ (r : StringRow). r.number) g.row.number x

  pub last-place : g.place ≤ length left
  last-place =
      let low = slice_get_within x g.place g.row at in
      let long = length_permutation x (g.row ∷ left) last-permuted in
      omega (arith, low, long)

  pub last-back : insert left g.place g.row ≡ x
  last-back =
      ap (λ (l : List StringRow). insert l g.place g.row) left-are
      ∙ insert-back (λ (r : StringRow). r.number) g.row.number x g.place g.row x-differ refl at

  pub others-stood : StoodIn b gone
  others-stood = (stood-before b gone g stood).0

module _ (gone : List PlacedString) (g : PlacedString) (rows : MapRows) (stars : Held Spoke)
    (can : CanPutPlaced (gone ++ g ∷ []) rows stars) where
  pub put-two : g.row.from ≢ g.row.to
  put-two = (all-both (λ (q : PlacedString). q.row.from ≢ q.row.to) gone g can.two).1

  pub put-slot : HasSlot rows.strings g.row.number
  put-slot = (all-both (λ (q : PlacedString). HasSlot rows.strings q.row.number) gone g can.slots).1

  room-for : (p : ℕ) → length (spokes_of p g.row) ≡ 1 → HasRoomAt stars p 1
  room-for p one =
      let long = long-at gone g p in
      let room = can.room p (omega (arith, long, one)) in
      omega (arith, long, one, room)

  pub put-from : HasRoomAt stars g.row.from 1
  put-from = room-for g.row.from (length-spokes_at g.row g.row.to g.row.from (λ e. put-two (sym e)) (inr (refl, refl)))

  pub put-to : HasRoomAt stars g.row.to 1
  put-to = room-for g.row.to (length-spokes_at g.row g.row.from g.row.to put-two (inl (refl, refl)))

  pub put-rest : (new : MapRows) (wide : Held Spoke)
      → rows_in new.strings ≡ insert (rows_in rows.strings) g.place g.row → KeepsSlots rows.strings new.strings
      → AddsSpokes g.row stars wide → ((p : ℕ) → capacity_at wide p ≡ capacity_at stars p)
      → CanPutPlaced gone new wide
  put-rest new wide is slots adds capacity = record {
    before = can.before;
    differ = can.differ;
    stood = others-stood gone g can.before (rows_in rows.strings) can.differ can.stood can.left;
    left = is ∙ last-back gone g can.before (rows_in rows.strings) can.differ can.stood can.left;
    slots =
        All-follows (λ (q : PlacedString). HasSlot rows.strings q.row.number) (λ (q : PlacedString). HasSlot new.strings q.row.number)
        (λ q h. slots q.row.number h) gone
        (all-both (λ (q : PlacedString). HasSlot rows.strings q.row.number) gone g can.slots).0;
    two = (all-both (λ (q : PlacedString). q.row.from ≢ q.row.to) gone g can.two).0;
    room = λ p some.
        let long = long-at gone g p in
        let room = can.room p (omega (arith, long, some)) in
        room-after_put g.row stars wide p (length (spokes_at p (map (λ (q : PlacedString). q.row) gone))) adds (capacity p)
        (omega (arith, long, room));
  }

  pub put-stars : (new : MapRows) (wide : Held Spoke)
      → rows_in new.strings ≡ insert (rows_in rows.strings) g.place g.row → AddsSpokes g.row stars wide
      → AreStarsOf (rows_in rows.strings) stars → AreStarsOf (rows_in new.strings) wide
  put-stars new wide is adds before =
      let back = is ∙ last-back gone g can.before (rows_in rows.strings) can.differ can.stood can.left in
      stars-with (rows_in new.strings) (rows_in rows.strings) g.row stars wide before
      (subst (λ (l : List StringRow). IsPermutation l (g.row ∷ rows_in rows.strings)) (sym back)
      (last-permuted gone g can.before (rows_in rows.strings) can.differ can.stood can.left)) adds

-- A merger along a chain that is taken back with the room that it takes and its strings in the table.
use Rattle.std.proofs.Common.{◌≡◌, ◌≢◌, ℕ, ◌≤◌, ◌==◌, Bool, true, false, refl, sym, ap, subst, ◌∙◌, List, [], ◌∷◌, ◌++◌, map, length, nat_eq, if◌then◌else◌, arith}
use Rattle.std.specs.Prelude.{IsPermutation}
use Rattle.std.specs.List.{AllByRecursion, IsDistinct}
use Rattle.std.proofs.lemmas.List.{length-append, length-map}
use Rattle.cad_rows.specs.declared.edits.Edit.TheVariants.{Merge}
use Rattle.cad_rows.specs.declared.names.Face.{Face}
use Rattle.cad_rows.specs.declared.names.Face.TheVariants.{Outside, Parcel}
use Rattle.cad_rows.specs.declared.rows.ParcelRow.{ParcelRow}
use Rattle.cad_rows.specs.declared.rows.StringRow.{StringRow}
use Rattle.cad_rings.specs.Cycle.{Ring, opposite, sides_of}
use Rattle.cad_rings.specs.Surgery.{sides_of_chain}
use Rattle.cad_map.specs.Chain.{leaving}
use Rattle.cad_map.specs.Map.{Map, side_of}
use Rattle.cad_laws.specs.Counts.{shared_strings}
use Rattle.cad_map.specs.Valid.{EachPair}
use Rattle.half_table.specs.declared.half.Half.{Half}
use Rattle.half_table.specs.Half.{twin, half_of}
use Rattle.half_table.specs.Rows.{HalfRows, face, has, has_halves, next, origin_of, prev, strings}
use Rattle.half_paths.specs.Path.{strings_of}
use Rattle.half_paths.specs.Loose.{AddsStrings, AreNew, HasEnds, numbers_of, is_of}
use Rattle.entry_list.specs.Slots.{HasSlot}
use Rattle.key_lists.specs.Held.{Held}
use Rattle.cad_laws.specs.Local.{side_by}
use Rattle.cad_laws.specs.Tried.{IsTried}
use Rattle.map_parts.specs.declared.edits.placed_strings.PlacedString.{PlacedString}
use Rattle.cad_map.specs.declared.map_rows.MapRows.{MapRows}
use Rattle.map_parts.specs.declared.stars.Spoke.{Spoke}
use Rattle.map_parts.specs.Adding.{AreAdded, HasRoomAtEnds, HasRoomToCome}
use Rattle.map_parts.specs.Merging.{merged, shared_chain, first_corner, last_corner, rings_past, rows_gone, bare_row, sides_led, HaveRoomBack, CanBeginUnmerge, CanUnmerge}
use Rattle.map_parts.specs.Parts.{HasHalves}
use Rattle.map_parts.specs.PlacedStrings.{numbers_placed}
use Rattle.map_parts.specs.Stars.{spokes_of, spokes_at}
use Rattle.map_parts.specs.StringRows.{HasRoomFor}
use Rattle.map_parts.proofs.AddedStrings.{numbers-distinct}
use Rattle.map_parts.proofs.ChainRoom.{chain_ends-room, ring_ends-room}
use Rattle.map_parts.proofs.MergedRows as rows_of
use Rattle.map_parts.proofs.Merging as merging
use Rattle.map_parts.proofs.RoomMade.{AreReady, ready, along-still, of-still}

-- ---- Rows without their sources

pub placed-numbers : (gone : List PlacedString) → numbers_of (rows_gone gone) ≡ numbers_placed gone
placed-numbers [] = refl
placed-numbers (g ∷ gone) = λ i. g.row.number ∷ placed-numbers gone i

bare-numbers : (rows : List StringRow) → numbers_of (map bare_row rows) ≡ numbers_of rows
bare-numbers [] = refl
bare-numbers (r ∷ rows) = λ i. r.number ∷ bare-numbers rows i

-- what holds of each without its sources
pub of-bare : (P Q : StringRow → Type 0) → ((r : StringRow) → P (bare_row r) → Q r) → (rows : List StringRow) → AllByRecursion P (map bare_row rows) → AllByRecursion Q rows
of-bare P Q each [] all = tt
of-bare P Q each (r ∷ rows) all = (each r all.0, of-bare P Q each rows all.1)

pub to-bare : (P : StringRow → Type 0) → ((r : StringRow) → P r → P (bare_row r)) → (rows : List StringRow) → AllByRecursion P rows → AllByRecursion P (map bare_row rows)
to-bare P each [] all = tt
to-bare P each (r ∷ rows) all = (each r all.0, to-bare P each rows all.1)

pub bare-new : (table : HalfRows) (rows : List StringRow) → AreNew table rows → AreNew table (map bare_row rows)
bare-new table rows new = to-bare (λ (s : StringRow). has_halves table s.number ≡ false) (λ r h. h) rows new

pub bare-distinct : (gone : List PlacedString) → IsDistinct nat_eq (numbers_placed gone) → IsDistinct nat_eq (numbers_of (map bare_row (rows_gone gone)))
bare-distinct gone each = subst (IsDistinct nat_eq) (sym (bare-numbers (rows_gone gone) ∙ placed-numbers gone)) each

pub bare-many : (gone : List PlacedString) → length (map bare_row (rows_gone gone)) ≡ length gone
bare-many gone = length-map (rows_gone gone) bare_row ∙ length-map gone (λ (g : PlacedString). g.row)

bare-adds : (rows : List StringRow) (old new : HalfRows) → AddsStrings (map bare_row rows) old new → AddsStrings rows old new
bare-adds rows old new it =
    let same = bare-numbers rows in
    record {
      strings = it.strings ∙ ap (λ (l : List ℕ). strings old ++ l) same;
      has = subst (λ (l : List ℕ). (g : Half) → has new g ≡ (if is_of l g then true else has old g)) same it.has;
      next = subst (λ (l : List ℕ). (g : Half) → next new g ≡ (if is_of l g then twin g else next old g)) same it.next;
      prev = subst (λ (l : List ℕ). (g : Half) → prev new g ≡ (if is_of l g then twin g else prev old g)) same it.prev;
      face = subst (λ (l : List ℕ). (g : Half) → face new g ≡ (if is_of l g then Outside else face old g)) same it.face;
      ends = of-bare (HasEnds new) (HasEnds new) (λ r h. h) rows it.ends;
      origin = subst (λ (l : List ℕ). (g : Half) → is_of l g ≡ false → origin_of new g ≡ origin_of old g) same it.origin;
    }

bare-room : {rows : List StringRow} {face : Face} {parcel : ℕ} {more : MapRows} {held : Held Half} {stars : Held Spoke}
    → HasRoomToCome (map bare_row rows) face parcel more held stars → HasRoomToCome rows face parcel more held stars
bare-room {rows} {more = more} {stars = stars} it = record {
  slots = of-bare (λ (s : StringRow). HasSlot more.strings s.number) (λ (s : StringRow). HasSlot more.strings s.number) (λ r h. h) rows it.slots;
  parcel_slot = it.parcel_slot;
  ends = of-bare (HasRoomAtEnds stars) (HasRoomAtEnds stars) (λ r h. h) rows it.ends;
  inner_room = it.inner_room;
  outer_room = it.outer_room;
}

pub bare-added : {rows : List StringRow} {face : Face} {parcel : ℕ} {had more : MapRows} {table new : HalfRows} {held wide : Held Half} {stars filled : Held Spoke}
    → AreAdded (map bare_row rows) face parcel had more table new held wide stars filled → AreAdded rows face parcel had more table new held wide stars filled
bare-added {rows} {table = table} {new = new} it = record { seen = it.seen; room = bare-room it.room; adds = bare-adds rows table new it.adds; linked = it.linked }

-- ---- Rows as a path leads along them

-- the row from the end where the half begins
abbrev turned : Half → StringRow → StringRow
turned h r = record r { from = if h.forward then r.from else r.to; to = if h.forward then r.to else r.from }

abbrev all-turned : List Half → List StringRow → List StringRow
all-turned (h ∷ path) (r ∷ rows) = turned h r ∷ all-turned path rows
all-turned path rows = []

turned-side : (h : Half) (r : StringRow) → side_of (turned h r) ≡ (if h.forward then side_of r else opposite (side_of r))
turned-side h r = by h.forward
  where
    by : (f : Bool) → side_of (turned (record h { forward = f }) r) ≡ (if f then side_of r else opposite (side_of r))
    by true = refl
    by false = refl

turned-sides : (path : List Half) (rows : List StringRow) → map side_of (all-turned path rows) ≡ sides_led path rows
turned-sides [] [] = refl
turned-sides [] (r ∷ rows) = refl
turned-sides (h ∷ path) [] = refl
turned-sides (h ∷ path) (r ∷ rows) = λ i. turned-side h r i ∷ turned-sides path rows i

turned-spokes : (p : ℕ) (h : Half) (r : StringRow) → length (spokes_of p (turned h r)) ≡ length (spokes_of p r)
turned-spokes p h r = by h.forward (r.from == p) (r.to == p) refl refl
  where
    by : (f a b : Bool) → (r.from == p) ≡ a → (r.to == p) ≡ b → length (spokes_of p (turned (record h { forward = f }) r)) ≡ length (spokes_of p r)
    by true a b is_from is_to = refl
    by false true true is_from is_to = rw (is_from, is_to) refl
    by false true false is_from is_to = rw (is_from, is_to) refl
    by false false true is_from is_to = rw (is_from, is_to) refl
    by false false false is_from is_to = rw (is_from, is_to) refl

turned-many : (p : ℕ) (path : List Half) (rows : List StringRow) → length rows ≡ length path → length (spokes_at p (all-turned path rows)) ≡ length (spokes_at p rows)
turned-many p [] [] many = refl
turned-many p [] (r ∷ rows) many = absurd (omega (arith, many))
turned-many p (h ∷ path) [] many = absurd (omega (arith, many))
turned-many p (h ∷ path) (r ∷ rows) many =
    let one = turned-spokes p h r in
    let rest = turned-many p path rows (omega (arith, many)) in
    let a = length-append (spokes_of p (turned h r)) (spokes_at p (all-turned path rows)) in
    let b = length-append (spokes_of p r) (spokes_at p rows) in
    omega (arith, one, rest, a, b)

turned-room : (stars : Held Spoke) (path : List Half) (rows : List StringRow) → AllByRecursion (HasRoomAtEnds stars) rows → AllByRecursion (HasRoomAtEnds stars) (all-turned path rows)
turned-room stars [] rows all = tt
turned-room stars (h ∷ path) [] all = tt
turned-room stars (h ∷ path) (r ∷ rows) all = (by h.forward, turned-room stars path rows all.1)
  where
    by : (f : Bool) → HasRoomAtEnds stars (turned (record h { forward = f }) r)
    by true = all.0
    by false = (all.0.1, all.0.0)

-- room for two at both ends of each string that a path leads along is room for all their halves, as it is for the rows that lead as the path does
turned-for : (path : List Half) (rows : List StringRow) → length rows ≡ length path → (stars : Held Spoke) → HasRoomFor (all-turned path rows) stars → HasRoomFor rows stars
turned-for path rows many stars room p some =
    let same = turned-many p path rows many in
    let had = room p (omega (arith, same, some)) in
    omega (arith, same, had)

pub ends-room : (path : List Half) (rows : List StringRow) (chain : List ℕ) → 2 ≤ length chain → EachPair (λ a b. a ≢ b) chain → length rows ≡ length path → sides_led path rows ≡ sides_of_chain chain
    → (stars : Held Spoke) → AllByRecursion (HasRoomAtEnds stars) rows → HasRoomFor rows stars
ends-room path rows chain long each many sides stars all =
    turned-for path rows many stars (chain_ends-room (all-turned path rows) chain long each (turned-sides path rows ∙ sides) stars (turned-room stars path rows all))

-- and so it is where they close a ring
pub ring-ends_room : (path : List Half) (rows : List StringRow) (ring : Ring) → EachPair (λ a b. a ≢ b) ring → length rows ≡ length path → sides_led path rows ≡ sides_of ring
    → (stars : Held Spoke) → AllByRecursion (HasRoomAtEnds stars) rows → HasRoomFor rows stars
ring-ends_room path rows ring each many sides stars all =
    turned-for path rows many stars (ring_ends-room (all-turned path rows) ring each (turned-sides path rows ∙ sides) stars (turned-room stars path rows all))

-- a half of a string in the table leads as the string does, or back
pub row-led : (table : HalfRows) (r : StringRow) (h : Half) → r.number ≡ h.string → HasHalves table r → side_by table h ≡ (if h.forward then side_of r else opposite (side_of r))
row-led table r h number halves =
    subst (λ (g : Half). side_by table g ≡ (if g.forward then side_of r else opposite (side_of r))) (λ i. half_of (number i) h.forward) (by h.forward)
  where
    by : (f : Bool) → side_by table (half_of r.number f) ≡ (if f then side_of r else opposite (side_of r))
    by true = λ i. (halves.from i, halves.to i)
    by false = λ i. (halves.to i, halves.from i)

pub rows-led : (table : HalfRows) (path : List Half) (rows : List StringRow) → numbers_of rows ≡ strings_of path → AllByRecursion (HasHalves table) rows → map (side_by table) path ≡ sides_led path rows
rows-led table [] [] same all = refl
rows-led table [] (r ∷ rows) same all = cc
rows-led table (h ∷ path) [] same all = cc
rows-led table (h ∷ path) (r ∷ rows) same all =
    let number : r.number ≡ h.string = cc in
    let rest : numbers_of rows ≡ strings_of path = cc in
    λ i. row-led table r h number all.0 i ∷ rows-led table path rows rest all.1 i

-- ---- It is taken back

-- as many rows as halves, where they have the same numbers
pub as-many : (path : List Half) (gone : List PlacedString) → strings_of path ≡ numbers_of (rows_gone gone) → length (rows_gone gone) ≡ length path
as-many path gone named =
    sym (length-map (rows_gone gone) (λ (s : StringRow). s.number)) ∙ ap length (sym named) ∙ length-map path (λ (h : Half). h.string)

-- the strings that went are those of the path, so they differ
pub gone-different : (m : Map) (keeper : Face) (ended : ℕ) (path : List Half) → IsTried m (Merge keeper (Parcel ended)) → IsPermutation (numbers_of (shared_strings m keeper (Parcel ended))) (strings_of path)
    → (gone : List PlacedString) → numbers_placed gone ≡ strings_of path → IsDistinct nat_eq (numbers_placed gone)
gone-different m keeper ended path tried shared gone are =
    subst (IsDistinct nat_eq) (sym are) (numbers-distinct (strings_of path) (rows_of.distinct m keeper ended path tried shared))

pub gone-named : (path : List Half) (gone : List PlacedString) → numbers_placed gone ≡ strings_of path → strings_of path ≡ numbers_of (rows_gone gone)
gone-named path gone are = sym (placed-numbers gone ∙ are)

-- what holds of each row that went
each-gone : (P : StringRow → Type 0) (gone : List PlacedString) → AllByRecursion P (rows_gone gone) → AllByRecursion (λ (g : PlacedString). P g.row) gone
each-gone P [] all = tt
each-gone P (g ∷ gone) all = (all.0, each-gone P gone all.1)

module _ {m : Map} {keeper : Face} (row : ParcelRow) {path : List Half} (gone : List PlacedString) {rows : MapRows} {table : HalfRows} {held : Held Half} {stars : Held Spoke}
    (it : AreReady m (rows_gone gone) keeper row.number path rows table held stars) where
  pub ready-there : AllByRecursion (λ (g : PlacedString). HasHalves table g.row) gone
  ready-there = each-gone (HasHalves table) gone it.there

  pub ready-room : HaveRoomBack row gone rows stars
  ready-room = record { slot = it.parcel_slot; slots = each-gone (λ (s : StringRow). HasSlot rows.strings s.number) gone it.slots; star_room = it.room }

module _ {keeper : Face} {row : ParcelRow} {place : ℕ} {path : List Half} {start end : Half} {moved : List Half} {gone : List PlacedString} {rows : MapRows} {table : HalfRows} {held : Held Half} {stars : Held Spoke}
    (c : CanBeginUnmerge keeper row place path start end moved gone rows table held stars) where
  abbrev pub last : Map
  last = merged c.is

  abbrev pub undo-can : {more : MapRows} {new : HalfRows} {wide : Held Half} {filled : Held Spoke}
      → AreAdded (rows_gone gone) keeper row.number rows more table new held wide stars filled → CanUnmerge keeper row place path start end moved gone more new wide filled
  undo-can {new = new} {filled = filled} grown =
      let named = gone-named path gone c.numbers_are in
      let chain = merging.chain-open c.map keeper row.number path c.is in
      let it =
      ready last (rows_gone gone) keeper row.number path c.fits c.new named
      (ends-room path (rows_gone gone) (shared_chain c.is) chain.long chain.differ (as-many path gone named) c.sides filled grown.room.ends) grown in
      record {
        map = c.map;
        is = c.is;
        fits = it.fits;
        there = ready-there row gone it;
        loose = it.loose;
        leads = rows-led new path (rows_gone gone) (sym named) it.there ∙ c.sides;
        start_on = along-still c.new grown.adds last (leaving (first_corner c.is)) start c.start_on;
        end_on = along-still c.new grown.adds last (leaving (last_corner c.is)) end c.end_on;
        moved_are = of-still c.new grown.adds c.map moved (Parcel row.number) (rings_past c.is) c.moved_in c.moved_are;
        went = record { row = c.at; numbers = c.numbers_are; stood = c.stood };
        room = ready-room row gone it;
        inner_room = let more = grown.room.inner_room in omega (arith, more);
        outer_room = let more = grown.room.outer_room in omega (arith, more);
      }

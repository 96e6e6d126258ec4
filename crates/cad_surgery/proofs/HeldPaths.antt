-- What goes with a merger stays where it was beside it: halves, rings and corners, by the rows of the
-- map before the merger; and so of a merger along a chain.
use Rattle.std.proofs.Common.{◌≡◌, ◌≢◌, ℕ, not, if◌then◌else◌, filter, inl, inr, Bool, true, false, refl, sym, ap, subst, ◌∙◌, List, ◌∷◌, map, is_some, Option}
use Rattle.std.specs.Prelude.{IsPermutation}
use Rattle.std.specs.List.{AllByRecursion, Contains}
use Rattle.std.proofs.lemmas.List.Sorted.{Contains-permutation}
use Rattle.cad_rows.specs.declared.edits.Edit.TheVariants.{Merge}
use Rattle.cad_rows.specs.declared.names.Face.{Face}
use Rattle.cad_rows.specs.declared.names.Face.TheVariants.{Parcel}
use Rattle.cad_rows.specs.declared.rows.StringRow.{StringRow}
use Rattle.cad_rings.specs.Cycle.{Side, opposite, sides_of}
use Rattle.cad_rings.specs.Surgery.{both_ways, corner, sides_of_chain}
use Rattle.cad_map.specs.declared.boundary.Boundary.{Boundary}
use Rattle.cad_map.specs.Boundaries.{bounding, is_face}
use Rattle.cad_map.specs.Chain.{start_of, next_of, end_of, last_but_one, leaving}
use Rattle.cad_map.specs.Effects.{after}
use Rattle.cad_map.specs.Map.{Map, all_sides}
use Rattle.cad_map.specs.Valid.{EachPair}
use Rattle.cad_map.specs.Merger.{handed_over, is_shared}
use Rattle.cad_map.specs.Rings.{HasWholeRings}
use Rattle.cad_map.proofs.CallerLemmas.{All-at_each, All-from_each, map-Contains, Contains-later, Contains-flat_map, Contains-map, filter-Contains, found-number, in_both_ways}
use Rattle.half_table.specs.declared.half.Half.{Half}
use Rattle.half_table.specs.Half.{twin}
use Rattle.half_table.specs.Rows.{HalfRows, has}
use Rattle.half_paths.specs.Path.{AreIn, strings_of}
use Rattle.half_paths.specs.Loose.{is_of}
use Rattle.cad_laws.specs.Local.{IsShown, side_by}
use Rattle.cad_laws.proofs.CallerLemmas.{before-one, some-corner}
use Rattle.edit_records.specs.HeldChains.{HeldChain, IsOfRing, LeadsAlong, rings_beside as rings_but, side_along}
use Rattle.cad_surgery.specs.Mergers.{HasSharedPath}
use Rattle.map_parts.specs.Chains.{IsChainOf}
use Rattle.map_parts.specs.Handing.{home_of}
use Rattle.map_parts.specs.Islands.{AreOfRings}
use Rattle.map_parts.specs.Labels.{IsAlong, IsOnRing}
use Rattle.map_parts.specs.Merging.{IsMerging, merged, shared_chain, first_corner, last_corner, rings_past}
use Rattle.map_parts.specs.Parts.{HasHalves}
use Rattle.map_parts.specs.Paths.{AreAlong, HasStringsMore}
use Rattle.map_parts.proofs.AlongPaths.{on-path}
use Rattle.map_parts.proofs.IslandTable.{more-rest}
use Rattle.map_parts.proofs.KeptShown.{bare}
use Rattle.map_parts.proofs.MergedRows as rows_of
use Rattle.map_parts.proofs.Merging as merging
use Rattle.map_parts.proofs.PartsRings.{found-row, half-there}
use Rattle.map_parts.proofs.SharedRows.{one-row}
use Rattle.map_parts.proofs.StringRowsPut.{found-there}
use Rattle.cad_surgery.proofs.DividedBack.{first_side}
use Rattle.cad_surgery.proofs.NamedRings.{named-among, named-once, named-rings, row-side}

-- ---- Beside a merger

-- what it leaves was there
pub left-there : (m : Map) (kept : Face) (ended : ℕ) (r : StringRow) → Contains (after m (Merge kept (Parcel ended))).strings r → Contains m.strings r
unfolding after
left-there m kept ended r among = (filter-Contains (λ s. not (is_shared m kept (Parcel ended) s)) m.strings r among).0

-- a ring that goes to the kept face is as it was
ring-handed : (kept inner : Face) (b : Boundary) → (handed_over kept inner b).ring ≡ b.ring
ring-handed kept inner b = by (is_face inner b.face)
  where
    by : (t : Bool) → (if t then bounding kept b.ring else b).ring ≡ b.ring
    by true = refl
    by false = refl

-- what no side of the map after it is, no side of a ring that stays is
pub off-past : (now : Map) (kept inner : Face) (others : List Boundary) → ((b : Boundary) → Contains others b → Contains now.boundaries (handed_over kept inner b))
    → (sides : List Side) → ((s : Side) → Contains (all_sides now) s → Contains sides s → ⊥)
    → (b : Boundary) → Contains others b → (s : Side) → Contains (sides_of b.ring) s → Contains sides s → ⊥
off-past now kept inner others there sides off b among s on =
    let handed = handed_over kept inner b in
    off s (Contains-flat_map (λ (d : Boundary). sides_of d.ring) now.boundaries handed s (there b among) (subst (λ (r : List ℕ). Contains (sides_of r) s) (sym (ring-handed kept inner b)) on))

-- Rows of a map stand once, and the strings of a path have rows that lead along these sides, either
-- way.
abbrev pub HasRowsBoth : Map → List Half → List Side → Type 0
HasRowsBoth m path sides = (n : ℕ) → Contains (strings_of path) n
    → (r : StringRow) × Contains m.strings r × (r.number ≡ n) × ((h : Half) → Contains (both_ways sides) (side_along r h))

module _ (m : Map) (each : EachPair (λ a b. a ≢ b) (map (λ (s : StringRow). s.number) m.strings)) (path : List Half) where
  -- a half along a side that is none of these is of none of the path's strings
  pub off-rows : (sides : List Side) → HasRowsBoth m path sides → (h : Half) (s : Side) → LeadsAlong m h s → (Contains (both_ways sides) s → ⊥) → is_of (strings_of path) h ≡ false
  off-rows sides rows h s along off = by (is_of (strings_of path) h) refl
    where
      named : Contains (strings_of path) h.string → ⊥
      named on =
          let at = rows h.string on in
          let number = found-number (λ (r : StringRow). r.number) h.string m.strings along.row along.there in
          let same = one-row m.strings each at.0 along.row at.1 (found-there (λ (r : StringRow). r.number) h.string m.strings along.row along.there) (at.2 ∙ sym number) in
          off (subst (Contains (both_ways sides)) (ap (λ (r : StringRow). side_along r h) same ∙ along.is) (at.3 h))

      by : (b : Bool) → is_of (strings_of path) h ≡ b → is_of (strings_of path) h ≡ false
      by false is = is
      by true is = absurd (elim (on-path path h is) [
        | inl own ↦ named (Contains-map (λ (g : Half). g.string) path h own)
        | inr back ↦ named (Contains-map (λ (g : Half). g.string) path (twin h) back)
      ])

  -- and leads along it in a table of the map after the merger
  pub stays-along : (now : Map) → HasStringsMore now m path → ((r : StringRow) → Contains now.strings r → Contains m.strings r)
      → (rows : HalfRows) → AllByRecursion (HasHalves rows) now.strings → (h : Half) (s : Side) → LeadsAlong m h s → is_of (strings_of path) h ≡ false → IsAlong now rows s h
  stays-along now more left rows ends h s along off =
      let among = found-there (λ (r : StringRow). r.number) h.string m.strings along.row along.there in
      let number = found-number (λ (r : StringRow). r.number) h.string m.strings along.row along.there in
      let shown = more-rest now m path more h (ap (λ (o : Option StringRow). is_some o) along.there) off in
      let left_row = found-row now.strings h.string shown in
      let same = one-row m.strings each left_row.0 along.row (left left_row.0 left_row.1) among (left_row.2 ∙ sym number) in
      record {
        there = half-there (bare now rows) ends h shown;
        shown = shown;
        side =
            row-side now rows ends left_row.0 h left_row.2 (All-at_each (HasHalves rows) now.strings left_row.0 ends left_row.1)
            ∙ ap (λ (r : StringRow). side_along r h) same ∙ along.is;
      }

-- the strings of a path that leads along sides have such rows
pub rows-led : (m : Map) (rows : HalfRows) → AllByRecursion (HasHalves rows) m.strings → (path : List Half) → ((g : Half) → Contains path g → IsShown m g)
    → (sides : List Side) → AreAlong rows path sides → HasRowsBoth m path sides
rows-led m rows ends path shown sides leads n among =
    let g = map-Contains (λ (h : Half). h.string) path n among in
    let row = found-row m.strings g.0.string (shown g.0 g.1) in
    let own : side_by rows g.0 ≡ side_along row.0 g.0 = row-side m rows ends row.0 g.0 row.2 (All-at_each (HasHalves rows) m.strings row.0 ends row.1) in
    let on = subst (Contains sides) own (subst (λ (l : List Side). Contains l (side_by rows g.0)) leads (Contains-map (side_by rows) path g.0 g.1)) in
    (row.0, row.1, row.2 ∙ g.2, λ h. by row.0 g.0 h (in_both_ways sides (side_along row.0 g.0) on) g.0.forward h.forward refl refl)
  where
    by : (r : StringRow) (g h : Half) → Contains (both_ways sides) (side_along r g) × Contains (both_ways sides) (opposite (side_along r g))
        → (f k : Bool) → g.forward ≡ f → h.forward ≡ k → Contains (both_ways sides) (side_along r h)
    by r g h on true true is same = rw same (rw is at on).0
    by r g h on true false is same = rw same (rw is at on).1
    by r g h on false true is same = rw same (rw is at on).1
    by r g h on false false is same = rw same (rw is at on).0

-- ---- Along a chain

module _ (m : Map) (kept : Face) (ended : ℕ) (path : List Half) (is_it : IsMerging m kept ended path) (start end : Half) (moved : List Half)
    (held : HeldChain m (Parcel ended) (shared_chain is_it) start end moved) (both : HasRowsBoth m path (sides_of_chain (shared_chain is_it))) where
  abbrev inner : Face
  inner = Parcel ended

  whole_old : HasWholeRings m
  whole_old = merging.whole m kept ended path is_it

  whole_now : HasWholeRings (merged is_it)
  whole_now = merging.parts m kept ended path is_it

  abbrev left : Boundary
  left = bounding inner is_it.ended_ring

  abbrev right : Boundary
  right = bounding kept is_it.kept_ring

  abbrev one : Boundary
  one = merging.one_ring m kept ended path is_it

  abbrev c : List ℕ
  c = shared_chain is_it

  law : IsChainOf (merged is_it) m kept inner c (first_corner is_it) (last_corner is_it) one left right (rings_past is_it)
  law = merging.chain-of m kept ended path is_it

  -- no side of the map after it is of the chain
  off-now : (s : Side) → Contains (all_sides (merged is_it)) s → Contains (both_ways (sides_of_chain c)) s → ⊥
  off-now s now on =
      let at = some-corner (merged is_it) whole_now s now in
      law.corners.free at.0 at.1 (inl (subst (Contains (both_ways (sides_of_chain c))) (sym at.2) on))

  there-now : (b : Boundary) → Contains (rings_past is_it) b → Contains (merged is_it).boundaries (handed_over kept inner b)
  there-now b among =
      Contains-permutation (one ∷ map (handed_over kept inner) (rings_past is_it)) (merged is_it).boundaries (handed_over kept inner b) law.are
      (Contains-later one (map (handed_over kept inner) (rings_past is_it)) (handed_over kept inner b) (Contains-map (handed_over kept inner) (rings_past is_it) b among))

  abbrev s : Side
  s = (start_of c, next_of c)

  on_left : Contains (sides_of left.ring) s
  on_left = law.along s (first_side c (merging.chain-open m kept ended path is_it).long)

  -- ---- In a table of the map after it

  module _ (rows : HalfRows) (ends : AllByRecursion (HasHalves rows) (merged is_it).strings) where
    stays : (h : Half) (s : Side) → LeadsAlong m h s → (Contains (both_ways (sides_of_chain c)) s → ⊥) → IsAlong (merged is_it) rows s h
    stays h s along off =
        let each = is_it.tried.valid.sound.v1.strings.distinct in
        stays-along m each path (merged is_it) (merging.more m kept ended path is_it) (left-there m kept ended) rows ends h s along
        (off-rows m each path (sides_of_chain c) both h s along off)

    pub start_on : IsAlong (merged is_it) rows (leaving (first_corner is_it)) start
    start_on =
        let first = first_corner is_it in
        let told = held.start_is in
        let same = before-one m whole_old (corner (next_of c) (start_of c) told.to) (corner (next_of c) (start_of c) first.after) told.there law.corners.from_start refl in
        stays start (leaving first) (subst (LeadsAlong m start) (λ i. (sym law.corners.first_at i, (same i).after)) told.along)
        (λ on. law.corners.free first law.corners.first_there (inr on))

    pub end_on : IsAlong (merged is_it) rows (leaving (last_corner is_it)) end
    end_on =
        let last = last_corner is_it in
        let told = held.end_is in
        let same = before-one m whole_old (corner (last_but_one c) (end_of c) told.to) (corner (last_but_one c) (end_of c) last.after) told.there law.corners.from_end refl in
        stays end (leaving last) (subst (LeadsAlong m end) (λ i. (sym law.corners.last_at i, (same i).after)) told.along)
        (λ on. law.corners.free last law.corners.last_there (inr on))

    past-along : (b : Boundary) → Contains (rings_past is_it) b → (h : Half) → (of : IsOfRing m b h) → IsAlong (merged is_it) rows of.side h
    past-along b among h of =
        stays h of.side of.along (off-past (merged is_it) kept inner (rings_past is_it) there-now (both_ways (sides_of_chain c)) off-now b among of.side of.on)

    led : (b : Boundary) → Contains (rings_past is_it) b → (h : Half) → IsOfRing m b h → IsOnRing m rows b h
    led b among h of = record {
      shown = ap (λ (o : Option StringRow). is_some o) of.along.there;
      side = subst (Contains (sides_of b.ring)) (sym (past-along b among h of).side) of.on;
    }

    pub moved_in : AreIn rows moved
    moved_in = All-from_each (λ h. has rows h ≡ true) moved (λ h among.
        let at = All-at_each (λ h. (b : Boundary) × Contains (rings_but m inner s) b × IsOfRing m b h) moved h held.moved_are.each among in
        (past-along at.0 (named-among m whole_old inner left right (rings_past is_it) law.were law.left_face (λ e. law.differ (sym law.right_face ∙ e)) s on_left at.0 at.1) h at.2).there)

    pub moved_are : AreOfRings m rows moved inner (rings_past is_it)
    moved_are = named-rings m whole_old inner left right (rings_past is_it) law.were law.left_face (λ e. law.differ (sym law.right_face ∙ e)) s on_left rows led moved held.moved_are

    moved_once : IsPermutation (map (home_of m rows) moved) (filter (λ b. is_face inner b.face) (rings_past is_it))
    moved_once = named-once m whole_old inner left right (rings_past is_it) law.were law.left_face (λ e. law.differ (sym law.right_face ∙ e)) s on_left rows led moved held.moved_are

  -- ---- In a table of the map before it

  -- what the merger goes by is at hand
  pub path-at-hand : (rows : HalfRows) → AllByRecursion (HasHalves rows) m.strings → AreAlong rows path (sides_of_chain c) → HasSharedPath m rows kept ended path start end moved
  path-at-hand rows ends leads =
      let now_ends = rows_of.ends-left m kept ended path (is_it.tried) (is_it.shared) rows ends in
      record {
        is = is_it;
        leads = leads;
        start_on = start_on rows now_ends;
        end_on = end_on rows now_ends;
        moved_are = moved_are rows now_ends;
        once = moved_once rows now_ends;
      }

-- What a division finds where its chain crosses the face, and what its record says of it.
use Rattle.std.proofs.Common.{◌≡◌, ◌≢◌, true, false, true≢false, not, refl, sym, ap, subst, ◌∙◌, List, ◌∷◌, ◌++◌, map, filter, Option, Some, None, is_some}
use Rattle.std.specs.Prelude.{IsPermutation}
use Rattle.std.specs.List.{Contains}
use Rattle.std.proofs.lemmas.List.Sorted.{Contains-permutation, IsPermutation-sym}
use Rattle.cad_rows.specs.declared.names.Face.TheVariants.{Parcel}
use Rattle.cad_rows.specs.declared.rows.StringRow.{StringRow}
use Rattle.cad_rings.specs.Cycle.{Ring, Corner, has_side, sides_of, IsSameRing}
use Rattle.cad_map.specs.declared.boundary.Boundary.{Boundary}
use Rattle.cad_map.specs.Boundaries.{is_face}
use Rattle.cad_map.specs.Chain.{leaving}
use Rattle.cad_map.specs.Effects.{after}
use Rattle.cad_map.specs.Map.{Map, all_sides, has_face, string_of}
use Rattle.cad_map.specs.Rings.{HasWholeRings}
use Rattle.numbered_rows.specs.Rows.{row_with}
use Rattle.cad_map.proofs.CallerLemmas.{All-at_each, All-follows, All-from_each, Contains-flat_map, Contains-later, filter-Contains, found-number, whole_valid}
use Rattle.half_table.specs.declared.half.Half.{Half}
use Rattle.half_table.specs.Half.{forward_of}
use Rattle.half_table.specs.Rows.{HalfRows, has, origin_of, cycle}
use Rattle.half_paths.specs.Path.{AreIn}
use Rattle.cad_laws.specs.Faces.{IsDividedIn, left_of_chain, uncut}
use Rattle.cad_laws.specs.Local.{IsShown, side_by}
use Rattle.cad_laws.specs.Tried.{IsTried, AreChosen}
use Rattle.cad_laws.proofs.CallerLemmas.{divided-faces, whole-after}
use Rattle.cad_surgery.specs.declared.edits.given.NewParcel.{NewParcel}
use Rattle.cad_surgery.specs.Divisions.{divided_by, strings_across, HasCrossing}
use Rattle.edit_records.specs.HeldChains.{LeadsAlong}
use Rattle.map_parts.specs.Chains.{IsChainOf}
use Rattle.map_parts.specs.Dividing.{IsDividing, rings_beside}
use Rattle.map_parts.specs.Handing.{home_of}
use Rattle.map_parts.specs.Islands.{AreOfRings}
use Rattle.map_parts.specs.Labels.{IsAlong, IsOnRing}
use Rattle.map_parts.specs.Parts.{Parts, FitTogether, HasHalves, map_of}
use Rattle.map_parts.specs.Placed.{AreOfHoles, moves_in}
use Rattle.map_parts.proofs.Dividing as divides
use Rattle.map_parts.proofs.PartsRings.{in_table}
use Rattle.map_parts.proofs.StringRowsPut.{found-there}
use Rattle.cad_surgery.proofs.CrossedHoles.{moved-on, moved-all, moved-placed, placed-once}
use Rattle.cad_surgery.proofs.CrossedRing.{left-same, round-same, side-on}
use Rattle.cad_surgery.proofs.HeldEnclosures.{found-more}
use Rattle.cad_surgery.proofs.NamedRings.{row-side}

-- ---- In a map with strings more

module _ (d : Parts) (fit : FitTogether d) (now : Map) (added : List StringRow) (more : now.strings ≡ (map_of d).strings ++ added) where
  -- a half leads along the side that it led along
  pub leads-now : (h : Half) → IsShown (map_of d) h → LeadsAlong now h (side_by d.table.rows h)
  leads-now h shown = by (string_of (map_of d) h.string) refl shown
    where
      by : (o : Option StringRow) → string_of (map_of d) h.string ≡ o → is_some o ≡ true → LeadsAlong now h (side_by d.table.rows h)
      by None is none = absurd (true≢false (sym none))
      by (Some row) is some =
          let among = found-there (λ (r : StringRow). r.number) h.string d.strings row is in
          let number = found-number (λ (r : StringRow). r.number) h.string d.strings row is in
          record {
            row = row;
            there = ap (λ (l : List StringRow). row_with (λ (r : StringRow). r.number) h.string l) more ∙ found-more h.string d.strings added row is;
            is = sym (row-side (map_of d) d.table.rows fit.ends row h number (All-at_each (HasHalves d.table.rows) d.strings row fit.ends among));
          }

  pub shown-now : (h : Half) → IsShown (map_of d) h → IsShown now h
  shown-now h shown = ap (λ (o : Option StringRow). is_some o) (leads-now h shown).there

-- ---- Where the chain crosses

-- halves of holes are in the table
pub holes-in : (d : Parts) → FitTogether d → (e : NewParcel) (left : Ring) (holes : List Half) → AreOfHoles (map_of d) d.table.rows e.face left holes → AreIn d.table.rows holes
holes-in d fit e left holes of =
    All-follows (λ h. IsOnRing (map_of d) d.table.rows (home_of (map_of d) d.table.rows h) h) (λ h. has d.table.rows h ≡ true) (λ h on. in_table d fit h on.shown) holes of.on

module _ (d : Parts) (fit : FitTogether d) (e : NewParcel) (tried : IsTried (map_of d) (divided_by e)) (first last : Corner)
    (chosen : AreChosen (map_of d) e.face e.points.now first last) where
  abbrev m : Map
  m = map_of d

  abbrev rows : HalfRows
  rows = d.table.rows

  abbrev now : Map
  now = after m (divided_by e)

  abbrev path : List Half
  path = map forward_of e.strings.now

  whole : HasWholeRings m
  whole = whole_valid m tried.valid

  whole_now : HasWholeRings now
  whole_now = whole-after m (divided_by e) tried.valid tried.given tried.allowed tt

  abbrev divided : IsDividedIn m now e.face (Parcel e.parcel) e.points.now first last
  divided =
      divided-faces m e.face e.points.now e.strings.now e.parcel e.label.now e.source first last tried.valid tried.given tried.allowed chosen.first_is chosen.last_is

  abbrev is_it : IsDividing m e.face e.strings.now (strings_across e) e.parcel path
  is_it = record {
    chain = e.points.now;
    label = e.label.now;
    source = e.source;
    first = first;
    last = last;
    tried = tried;
    chosen = chosen;
    divided = divided;
    added_are = refl;
    path_is = refl;
  }

  abbrev left_now : Boundary
  left_now = divides.left_ring m e.face e.strings.now (strings_across e) e.parcel path is_it

  abbrev right_now : Boundary
  right_now = divides.right_ring m e.face e.strings.now (strings_across e) e.parcel path is_it

  law : IsChainOf m now e.face (Parcel e.parcel) e.points.now first last divided.cut left_now right_now (rings_beside is_it)
  law = divides.chain-of m e.face e.strings.now (strings_across e) e.parcel path is_it

  -- the sides that leave the corners are of the ring that is cut
  pub first-in : Contains (all_sides m) (leaving first)
  first-in = Contains-flat_map (λ (b : Boundary). sides_of b.ring) m.boundaries divided.cut (leaving first) divided.there divided.has_first

  pub last-in : Contains (all_sides m) (leaving last)
  last-in = Contains-flat_map (λ (b : Boundary). sides_of b.ring) m.boundaries divided.cut (leaving last) divided.there divided.has_last

  pub ends-apart : first.at ≢ last.at
  ends-apart same =
      divides.chain-apart m e.face e.strings.now (strings_across e) e.parcel path is_it (sym law.corners.first_at ∙ same ∙ law.corners.last_at)

  module _ (start : Half) (start_on : IsAlong m rows (leaving first) start) (ring : Ring) (ring_is : ring ≡ map (origin_of rows) (cycle rows start)) where
    ring-same : IsSameRing divided.cut.ring ring
    ring-same =
        subst (IsSameRing divided.cut.ring) (sym ring_is)
        (round-same d fit start start_on.shown whole divided.cut divided.there (subst (Contains (sides_of divided.cut.ring)) (sym start_on.side) divided.has_first))

    pub has-first : has_side (leaving first) (sides_of ring) ≡ true
    has-first = side-on m whole divided.cut divided.there ring ring-same (leaving first) divided.has_first

    pub has-last : has_side (leaving last) (sides_of ring) ≡ true
    has-last = side-on m whole divided.cut divided.there ring ring-same (leaving last) divided.has_last

    module _ (end : Half) (end_on : IsAlong m rows (leaving last) end) (left : Ring) (left_is : left ≡ left_of_chain e.points.now first last ring)
        (holes : List Half) (of : AreOfHoles m rows e.face left holes)
        (moved : List Half) (moved_is : moved ≡ filter (λ h. not (has_side (side_by rows h) (sides_of ring))) holes) where
      abbrev crossed : Ring
      crossed = left_of_chain e.points.now first last divided.cut.ring

      of_left : AreOfHoles m rows e.face crossed holes
      of_left =
          subst (λ (r : Ring). AreOfHoles m rows e.face r holes)
          (left_is ∙ left-same m whole divided.cut divided.there ring ring-same e.points.now first last divided.has_first divided.has_last ends-apart) of

      on : (h : Half) → Contains moved h → IsOnRing m rows (home_of m rows h) h
      on = moved-on m whole rows divided.cut divided.there first divided.has_first ring ring-same e.face crossed holes of_left moved moved_is

      were : (b : Boundary) → Contains (uncut m first) b → Contains m.boundaries b
      were b among = (filter-Contains (λ (b : Boundary). not (has_side (leaving first) (sides_of b.ring))) m.boundaries b among).0

      are : (b : Boundary) → Contains (rings_beside is_it) b → Contains now.boundaries b
      are b among =
          Contains-permutation (left_now ∷ right_now ∷ rings_beside is_it) now.boundaries b (IsPermutation-sym now.boundaries (left_now ∷ right_now ∷ rings_beside is_it) law.were)
          (Contains-later left_now (right_now ∷ rings_beside is_it) b (Contains-later right_now (rings_beside is_it) b among))

      shown : (h : Half) → IsShown m h → IsShown now h
      shown h old = shown-now d fit now (strings_across e) (divides.strings-are m e.face e.strings.now (strings_across e) e.parcel path is_it) h old

      all : IsPermutation (map (home_of m rows) moved) (filter (moves_in m e.face crossed) (uncut m first))
      all = moved-all m whole rows divided.cut divided.there first divided.has_first ring ring-same e.face crossed holes of_left moved moved_is

      none : has_face m (Parcel e.parcel) ≡ false
      none = divides.none m e.face e.strings.now (strings_across e) e.parcel path is_it

      moved_are : AreOfRings now rows moved (Parcel e.parcel) (rings_beside is_it)
      moved_are =
          moved-placed m now whole whole_now e.face (Parcel e.parcel) crossed none shown rows (uncut m first) were are moved on all

      once : IsPermutation (map (home_of now rows) moved) (filter (λ b. is_face (Parcel e.parcel) b.face) (rings_beside is_it))
      once = placed-once m now whole whole_now e.face (Parcel e.parcel) crossed none shown rows (uncut m first) were are moved on all

      -- what is found is where the chain crosses
      pub crossing : HasCrossing m rows e start end moved
      crossing = record {
        first = first;
        last = last;
        chosen = chosen;
        divided = divided;
        start_on = start_on;
        end_on = end_on;
        moved_in = All-from_each (λ h. has rows h ≡ true) moved (λ h among. in_table d fit h (on h among).shown);
        moved_are = moved_are;
        once = once;
      }

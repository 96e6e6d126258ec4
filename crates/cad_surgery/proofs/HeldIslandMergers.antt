-- A merger round an island that a record tells, in a table that goes with the map.
use Rattle.std.proofs.Common.{◌≡◌, ◌≤◌, ℕ, inl, true, sym, ap, subst, ◌∙◌, List, [], ◌∷◌, map, length, is_some, Option, arith}
use Rattle.std.specs.List.{AllByRecursion, Contains}
use Rattle.std.proofs.lemmas.List.Sorted.{Contains-permutation}
use Rattle.cad_rows.specs.declared.edits.Edit.TheVariants.{Merge}
use Rattle.cad_rows.specs.declared.names.Face.{Face}
use Rattle.cad_rows.specs.declared.names.Face.TheVariants.{Parcel}
use Rattle.cad_rows.specs.declared.rows.ParcelRow.{ParcelRow}
use Rattle.cad_rows.specs.declared.rows.StringRow.{StringRow}
use Rattle.cad_rings.specs.Cycle.{Side, sides_of}
use Rattle.cad_rings.specs.Surgery.{both_ways, sides_of_chain}
use Rattle.cad_rings.proofs.CallerLemmas.{sides_of_chain-is}
use Rattle.cad_map.specs.declared.boundary.Boundary.{Boundary}
use Rattle.cad_map.specs.Boundaries.{bounding}
use Rattle.cad_map.specs.Chain.{start_of, next_of}
use Rattle.cad_map.specs.Map.{Map, all_sides}
use Rattle.cad_map.specs.Merger.{handed_over}
use Rattle.cad_map.specs.Rings.{HasWholeRings}
use Rattle.cad_map.proofs.CallerLemmas.{All-at_each, All-from_each, Contains-map, whole_valid}
use Rattle.half_table.specs.declared.half.Half.{Half}
use Rattle.half_table.specs.Rows.{HalfRows, has}
use Rattle.half_paths.specs.Path.{AreIn}
use Rattle.cad_laws.specs.Tried.{IsTried}
use Rattle.cad_laws.proofs.CallerLemmas.{some-corner}
use Rattle.edit_records.specs.declared.record.ChainString.{ChainString}
use Rattle.edit_records.specs.HeldChains.{IsOfRing, closed, rings_beside as rings_but}
use Rattle.edit_records.specs.Record.{HeldMergedIsland}
use Rattle.cad_surgery.specs.ToldMergers.{halves_of}
use Rattle.cad_surgery.specs.IslandMergers.{HasSharedRing}
use Rattle.map_parts.specs.Islands.{AreOfRings, IsIslandOf}
use Rattle.map_parts.specs.Labels.{IsAlong, IsOnRing}
use Rattle.map_parts.specs.MergingIsland.{IsMergingIsland, without_island, rings_apart}
use Rattle.map_parts.specs.Parts.{HasHalves}
use Rattle.map_parts.specs.Paths.{AreAlong}
use Rattle.map_parts.proofs.MergedIsland.{merged-island}
use Rattle.map_parts.proofs.MergedRows as rows_of
use Rattle.map_parts.proofs.MergingIsland as merging
use Rattle.cad_surgery.proofs.HeldEnclosures.{first-of_ring}
use Rattle.cad_surgery.proofs.HeldMergers.{along-rows, rows-led, rows-there, shared-names}
use Rattle.cad_surgery.proofs.HeldPaths.{HasRowsBoth, left-there, off-past, off-rows, stays-along}
use Rattle.cad_surgery.proofs.NamedRings.{named-among, named-on, named-once, named-rings}

-- points of which there are two or more have the sides of the chain back to the first
pub closed-sides : (points : List ℕ) → 2 ≤ length points → sides_of_chain (closed points) ≡ sides_of points
closed-sides [] long = absurd (omega (arith, long))
closed-sides (a ∷ points) long = sides_of_chain-is a points a

module _ (m : Map) (kept : Face) (row : ParcelRow) (place : ℕ) (points : List ℕ) (strings : List ChainString) (moved : List Half)
    (tried : IsTried m (Merge kept (Parcel row.number))) (it : HeldMergedIsland m kept row place points strings moved) where
  abbrev pub path : List Half
  path = halves_of strings

  abbrev inner : Face
  inner = Parcel row.number

  abbrev pub is_it : IsMergingIsland m kept row.number points path
  is_it = record {
    tried = tried;
    kept_ring = it.shared.kept_ring;
    ended_ring = it.shared.ended_ring;
    there = it.shared.there;
    leads = it.shared.is;
    taken = merged-island m kept inner points it.shared.kept_ring it.shared.ended_ring tried it.shared.there it.shared.is;
    shared = shared-names it.gone;
  }

  whole_old : HasWholeRings m
  whole_old = whole_valid m tried.valid

  abbrev now : Map
  now = without_island is_it

  whole_now : HasWholeRings now
  whole_now = rows_of.parts m kept row.number path tried (shared-names it.gone)

  abbrev left : Boundary
  left = bounding inner is_it.ended_ring

  abbrev right : Boundary
  right = bounding kept is_it.kept_ring

  law : IsIslandOf now m kept inner points left right (rings_apart is_it)
  law = merging.island m kept row.number points path is_it

  pub long : 2 ≤ length points
  long = merging.long m kept row.number points path is_it

  abbrev s : Side
  s = (start_of points, next_of points)

  on_left : Contains (sides_of left.ring) s
  on_left = Contains-permutation (sides_of points) (sides_of left.ring) s law.left_sides (first-of_ring points long)

  -- ---- In a table of the map before it

  module _ (rows : HalfRows) (ends : AllByRecursion (HasHalves rows) m.strings) where
    along : AreAlong rows path (sides_of points)
    along = along-rows m rows ends strings (closed points) it.gone.as_many (rows-there it.gone) ∙ closed-sides points long

    -- what the record tells is at hand
    pub shared-ring : HasSharedRing m rows kept row.number path moved
    shared-ring = record {
      points = points;
      is = is_it;
      along = along;
      moved_are =
          named-rings m whole_old inner left right (rings_apart is_it) law.were law.left_face (λ e. law.differ (sym law.right_face ∙ e)) s on_left rows (λ b among h. named-on m rows ends b h) moved it.held;
      once =
          named-once m whole_old inner left right (rings_apart is_it) law.were law.left_face (λ e. law.differ (sym law.right_face ∙ e)) s on_left rows (λ b among h. named-on m rows ends b h) moved it.held;
      named = it.held;
    }

  -- ---- In a table of the map after it

  both : HasRowsBoth m path (sides_of points)
  both = subst (HasRowsBoth m path) (closed-sides points long) (rows-led it.gone)

  -- no side of the map after it is round the ring
  off-now : (t : Side) → Contains (all_sides now) t → Contains (both_ways (sides_of points)) t → ⊥
  off-now t there on =
      let at = some-corner now whole_now t there in
      law.corners.free at.0 at.1 (inl (subst (Contains (both_ways (sides_of points))) (sym at.2) on))

  there-now : (b : Boundary) → Contains (rings_apart is_it) b → Contains now.boundaries (handed_over kept inner b)
  there-now b among =
      Contains-permutation (map (handed_over kept inner) (rings_apart is_it)) now.boundaries (handed_over kept inner b) law.are
      (Contains-map (handed_over kept inner) (rings_apart is_it) b among)

  module _ (rows : HalfRows) (ends : AllByRecursion (HasHalves rows) now.strings) where
    past-along : (b : Boundary) → Contains (rings_apart is_it) b → (h : Half) → (of : IsOfRing m b h) → IsAlong now rows of.side h
    past-along b among h of =
        let each = tried.valid.sound.v1.strings.distinct in
        stays-along m each path now (rows_of.more m kept row.number path tried (shared-names it.gone)) (left-there m kept row.number) rows ends h of.side of.along
        (off-rows m each path (sides_of points) both h of.side of.along
        (off-past now kept inner (rings_apart is_it) there-now (both_ways (sides_of points)) off-now b among of.side of.on))

    led : (b : Boundary) → Contains (rings_apart is_it) b → (h : Half) → IsOfRing m b h → IsOnRing m rows b h
    led b among h of = record {
      shown = ap (λ (o : Option StringRow). is_some o) of.along.there;
      side = subst (Contains (sides_of b.ring)) (sym (past-along b among h of).side) of.on;
    }

    pub moved_in : AreIn rows moved
    moved_in = All-from_each (λ h. has rows h ≡ true) moved (λ h among.
        let at = All-at_each (λ h. (b : Boundary) × Contains (rings_but m inner s) b × IsOfRing m b h) moved h it.held.each among in
        (past-along at.0 (named-among m whole_old inner left right (rings_apart is_it) law.were law.left_face (λ e. law.differ (sym law.right_face ∙ e)) s on_left at.0 at.1) h at.2).there)

    pub moved_are : AreOfRings m rows moved inner (rings_apart is_it)
    moved_are = named-rings m whole_old inner left right (rings_apart is_it) law.were law.left_face (λ e. law.differ (sym law.right_face ∙ e)) s on_left rows led moved it.held

-- A merger round an island on the parts of a map on half-edges, begun and taken back.
use Rattle.std.proofs.Common.{◌≡◌, ◌≤◌, ◌+◌, ℕ, refl, sym, ap, subst, ◌∙◌, List, ◌∷◌, map, filter, length, arith}
use Rattle.std.specs.Prelude.{IsPermutation, Result, Ok, Err, IfOk, OnOk, OnErr}
use Rattle.std.proofs.lemmas.List.{length-map}
use Rattle.std.proofs.lemmas.List.Sorted.{length_permutation, Contains-permutation, IsPermutation-sym}
use Rattle.cad_rows.specs.declared.names.Face.{Face}
use Rattle.cad_rows.specs.declared.names.Face.TheVariants.{Parcel}
use Rattle.cad_rings.specs.Cycle.{opposite, sides_of}
use Rattle.cad_rings.proofs.CallerLemmas.{length-sides_of}
use Rattle.cad_map.specs.declared.boundary.Boundary.{Boundary}
use Rattle.cad_map.specs.Boundaries.{bounding, is_face}
use Rattle.cad_map.specs.Map.{Map}
use Rattle.cad_map.proofs.CallerLemmas.{Contains-first, Contains-later}
use Rattle.half_table.specs.declared.half.Half.{Half}
use Rattle.half_table.specs.Count.{greatest, ticked}
use Rattle.half_table.specs.Half.{twin}
use Rattle.half_table.specs.Rows.{HalfRows, Table, origin_of, cycle, next}
use Rattle.half_paths.specs.Path.{strings_of}
use Rattle.half_paths.specs.Loose.{AreLoose}
use Rattle.key_lists.specs.Held.{Held}
use Rattle.cad_laws.specs.Counts.{sides_of_face}
use Rattle.cad_laws.specs.Local.{IsLocal}
use Rattle.cad_surgery.specs.declared.edits.merging.Merger.{Merger}
use Rattle.cad_surgery.specs.declared.edits.merging.Way.{Way}
use Rattle.cad_surgery.specs.declared.edits.merging.Way.TheVariants.{Round}
use Rattle.cad_surgery.specs.IslandMergers.{HasSharedRing}
use Rattle.cad_surgery.specs.Merging.{HasShared, IsMergerOn, IsUndoable, CanTakeBack, Begins, IsBack, ticks_by}
use Rattle.map_parts.specs.declared.edits.merging_tried.EndedParcel.{EndedParcel}
use Rattle.cad_map.specs.declared.map_rows.MapRows.{MapRows}
use Rattle.map_parts.specs.declared.stars.Spoke.{Spoke}
use Rattle.map_parts.specs.Handing.{KeepsEnds, home_of}
use Rattle.map_parts.specs.Islands.{AreOfRings}
use Rattle.map_parts.specs.MergingIsland.{IsMergingIsland, without_island, rings_apart, CanBeginMergeIsland, CanUnmergeIsland}
use Rattle.map_parts.specs.Paths.{AreAlong}
use Rattle.map_parts.specs.Relabelled.{cycles_length}
use Rattle.map_parts.specs.Splitting.{FitMap}
use Rattle.map_parts.proofs.IslandFits.{first-on, along-same, of-same, side-same}
use Rattle.map_parts.proofs.KeptEach.{map-cong}
use Rattle.map_parts.proofs.MergedRows as rows_of
use Rattle.map_parts.proofs.MergingIsland as merging
use Rattle.cad_surgery.proofs.MergersTried as tried
use Rattle.cad_surgery.proofs.MergersTried.{round-long}
use Rattle.cad_surgery.proofs.RingLengths.{face-lengths, ring-length, home-stays}
use Rattle.cad_surgery.proofs.WorkTaken.{ticks-fewer, ticks-just}

-- the halves along the rings of the ended parcel are as many as their sides, and those along the kept
-- one's ring are as many as the path's
pub island-rings : (m : Map) (rows : HalfRows) (kept : Face) (ended : ℕ) (points : List ℕ) (first : Half) (others moved : List Half) (is : IsMergingIsland m kept ended points (first ∷ others))
    → IsLocal m rows → AreAlong rows (first ∷ others) (sides_of points) → AreOfRings m rows moved (Parcel ended) (rings_apart is)
    → IsPermutation (map (home_of m rows) moved) (filter (λ b. is_face (Parcel ended) b.face) (rings_apart is))
    → (length (cycle rows first) + cycles_length rows moved ≡ sides_of_face (Parcel ended) m) × (length (cycle rows (twin first)) ≡ length (first ∷ others))
island-rings m rows kept ended points first others moved is local along moved_are once =
    let path = first ∷ others in
    let law = merging.island m kept ended points path is in
    let whole = rows_of.whole m kept ended path is.tried is.shared in
    let left = bounding (Parcel ended) is.ended_ring in
    let right = bounding kept is.kept_ring in
    let on = first-on (without_island is) m kept (Parcel ended) points left right (rings_apart is) law whole first others
    (rows_of.more m kept ended path is.tried is.shared) moved rows along in (
      face-lengths m whole rows local (Parcel ended) left right (rings_apart is) law.were law.left_face (λ e. law.differ (sym law.right_face ∙ e)) first
          on.0 moved moved_are once,
      ring-length m whole rows local right
          (Contains-permutation (left ∷ right ∷ rings_apart is) m.boundaries right (IsPermutation-sym m.boundaries (left ∷ right ∷ rings_apart is) law.were)
          (Contains-later left (right ∷ rings_apart is) right (Contains-first right (rings_apart is))))
          (twin first) on.1
          ∙ sym (length-sides_of is.kept_ring) ∙ length_permutation (map opposite (sides_of points)) (sides_of is.kept_ring) law.right_sides
          ∙ length-map (sides_of points) opposite ∙ length-sides_of points ∙ sym (round-long rows path points along),
    )

module _ (m : Map) (g : Merger) (is_round : g.way ≡ Round) {first : Half} {others : List Half} (parted : g.path.now ≡ first ∷ others) where
  abbrev path : List Half
  path = first ∷ others

  pub seen-as : {rows : HalfRows} → HasShared g.way m rows g.kept g.ended g.path.now g.moved.now → HasSharedRing m rows g.kept g.ended path g.moved.now
  seen-as {rows} = subst (λ (q : Way × List Half). HasShared q.0 m rows g.kept g.ended q.1 g.moved.now) (λ i. (is_round i, parted i))

  -- it takes so many ticks at the most, and so does its way back, in a table of the map with the same sides
  module _ (rows : HalfRows) (shared : HasShared g.way m rows g.kept g.ended g.path.now g.moved.now) (t : HalfRows) (origins : (h : Half) → origin_of t h ≡ origin_of rows h)
      {at : MapRows} {put : Held Half} {wide : Held Spoke} (goes : FitMap m at t put wide) where
    abbrev it : HasSharedRing m rows g.kept g.ended path g.moved.now
    it = seen-as shared

    once : IsPermutation (map (home_of m t) g.moved.now) (filter (λ b. is_face (Parcel g.ended) b.face) (rings_apart it.is))
    once =
        subst (λ (l : List Boundary). IsPermutation l (filter (λ b. is_face (Parcel g.ended) b.face) (rings_apart it.is)))
        (map-cong (home_of m rows) (home_of m t) g.moved.now (λ h among. sym (home-stays m rows t h (side-same rows t origins h)))) it.once

    few : length others + 1 + (length (cycle t first) + (length (cycle t (twin first)) + cycles_length t g.moved.now)) ≤ ticks_by m g
    few =
        let rings = island-rings m t g.kept g.ended it.points first others g.moved.now it.is goes.fits.local
        (along-same rows t origins path (sides_of it.points) it.along)
        (of-same rows t origins m g.moved.now (Parcel g.ended) (rings_apart it.is) it.moved_are) once in
        let ended = rings.0 in
        let kept = rings.1 in
        let long = ap length parted in
        omega (arith, ended, kept, long)

  module _ {rows : MapRows} {table : Table} {held : Held Half} {stars : Held Spoke} (on : IsMergerOn m g rows table held stars) where
    abbrev pub seen : HasSharedRing m table.rows g.kept g.ended path g.moved.now
    seen = seen-as on.shared

    abbrev Can : Type 0
    Can = CanBeginMergeIsland g.kept g.ended g.strings.now path g.moved.now rows table.rows held stars

    abbrev pub begins : Can
    begins = record {
      map = m;
      points = seen.points;
      is = seen.is;
      strings_are = on.strings_are ∙ ap strings_of parted;
      fits = on.fits;
      along = seen.along;
      moved_are = seen.moved_are;
    }

    pub begun : {E : Type 0} {new : MapRows} {t : Table} {put : Held Half} {wide : Held Spoke} {r : Result EndedParcel E} → table.work ≤ greatest
        → ((c : Can) → OnOk r (FitMap (without_island c.is) new t.rows put wide)) → ((c : Can) → OnErr r (FitMap c.map new t.rows put wide)) → OnErr r (t ≡ table)
        → ((c : Can) → IfOk r (λ e. (undo : CanUnmergeIsland g.kept e.row e.place path g.moved.now e.strings.items new t.rows put wide) × (undo.map ≡ c.map)))
        → OnOk r (AreLoose (next t.rows) path) → KeepsEnds table.rows t.rows
        → OnOk r (t.work ≡ ticked (cycles_length table.rows g.moved.now + (length (cycle table.rows (twin first)) + (length others + 1))) table.work)
        → Begins m g table new t put wide r
    begun {new = new} {t = t} {put = put} {wide = wide} {r = Ok e} within fits err same undo loose ends work =
        let low = few table.rows on.shared table.rows (λ h. refl) on.fits in
        tried.begun m g table on.shared on.all within (fits begins) (subst (AreLoose (next t.rows)) (sym parted) loose) ends
        (ticks-fewer table t (cycles_length table.rows g.moved.now + (length (cycle table.rows (twin first)) + (length others + 1))) (ticks_by m g) (omega (arith, low))
        (ticks-just table t (cycles_length table.rows g.moved.now + (length (cycle table.rows (twin first)) + (length others + 1))) work))
        (subst (λ (q : Way × List Half). IsUndoable q.0 q.1 m g e new t.rows put wide) (λ i. (sym is_round i, sym parted i)) (undo begins))
    begun {r = Err f} within fits err same undo loose ends work = record { begun = tt; back = tt; err = err begins; err_table = same }

  module _ {before : Table} {e : EndedParcel} {rows : MapRows} {t : Table} {held : Held Half} {stars : Held Spoke} (can : CanTakeBack m g before e rows t held stars) where
    abbrev Undo : Type 0
    Undo = CanUnmergeIsland g.kept e.row e.place path g.moved.now e.strings.items rows t.rows held stars

    abbrev pub undoing : (undo : Undo) × (undo.map ≡ m)
    undoing = subst (λ (q : Way × List Half). IsUndoable q.0 q.1 m g e rows t.rows held stars) (λ i. (is_round i, parted i)) can.undo

    pub gone-back : {back : MapRows} {u : Table} {put : Held Half} {wide : Held Spoke} → ((c : Undo) → FitMap c.map back u.rows put wide) → KeepsEnds t.rows u.rows
        → u.work ≡ ticked (length others + 1 + (length (cycle u.rows first) + (length (cycle u.rows (twin first)) + cycles_length u.rows g.moved.now))) t.work
        → IsBack m g before back u put wide
    gone-back {back = back} {u = u} {put = put} {wide = wide} fits ends work =
        let goes = subst (λ (q : Map). FitMap q back u.rows put wide) undoing.1 (fits undoing.0) in
        let low = few before.rows can.shared u.rows (λ h. ends.origin h ∙ can.ends.origin h) goes in
        let ticks = length others + 1 + (length (cycle u.rows first) + (length (cycle u.rows (twin first)) + cycles_length u.rows g.moved.now)) in
        tried.gone-back can goes ends (ticks-fewer t u ticks (ticks_by m g) (omega (arith, low)) (ticks-just t u ticks work))

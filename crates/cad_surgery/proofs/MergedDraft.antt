-- A merger along a chain on the parts of a map on half-edges, begun and taken back.
use Rattle.std.proofs.Common.{◌≡◌, ◌≤◌, ◌+◌, ◌*◌, ℕ, refl, sym, ap, subst, ◌∙◌, List, ◌∷◌, map, filter, length, arith}
use Rattle.std.specs.Prelude.{IsPermutation, Result, Ok, Err, IfOk, OnOk, OnErr}
use Rattle.cad_rows.specs.declared.names.Face.{Face}
use Rattle.cad_rows.specs.declared.names.Face.TheVariants.{Parcel}
use Rattle.cad_rings.specs.Surgery.{sides_of_chain}
use Rattle.cad_map.specs.declared.boundary.Boundary.{Boundary}
use Rattle.cad_map.specs.Boundaries.{bounding, is_face}
use Rattle.cad_map.specs.Chain.{leaving}
use Rattle.cad_map.specs.Map.{Map}
use Rattle.half_table.specs.declared.half.Half.{Half}
use Rattle.half_table.specs.Count.{greatest, ticked}
use Rattle.half_table.specs.Rows.{HalfRows, Table, origin_of, cycle, next}
use Rattle.half_paths.specs.Path.{strings_of}
use Rattle.half_paths.specs.Loose.{AreLoose}
use Rattle.key_lists.specs.Held.{Held}
use Rattle.cad_laws.specs.Counts.{sides_of_face}
use Rattle.cad_laws.specs.Local.{IsLocal}
use Rattle.cad_surgery.specs.declared.edits.merging.Merger.{Merger}
use Rattle.cad_surgery.specs.declared.edits.merging.Way.{Way}
use Rattle.cad_surgery.specs.declared.edits.merging.Way.TheVariants.{Along}
use Rattle.cad_surgery.specs.Mergers.{HasSharedPath}
use Rattle.cad_surgery.specs.Merging.{HasShared, IsMergerOn, IsUndoable, CanTakeBack, Begins, IsBack, ticks_by}
use Rattle.map_parts.specs.declared.edits.merging_tried.EndedParcel.{EndedParcel}
use Rattle.cad_map.specs.declared.map_rows.MapRows.{MapRows}
use Rattle.map_parts.specs.declared.stars.Spoke.{Spoke}
use Rattle.map_parts.specs.Handing.{KeepsEnds, home_of}
use Rattle.map_parts.specs.Islands.{AreOfRings}
use Rattle.map_parts.specs.Labels.{IsAlong}
use Rattle.map_parts.specs.Merging.{IsMerging, merged, shared_chain, first_corner, last_corner, rings_past, CanBeginMerge, CanUnmerge}
use Rattle.map_parts.specs.Paths.{AreAlong}
use Rattle.map_parts.specs.Relabelled.{cycles_length}
use Rattle.map_parts.specs.Splitting.{FitMap}
use Rattle.map_parts.proofs.ChainRings.{first-on}
use Rattle.map_parts.proofs.IslandFits.{along-same, of-same, side-same}
use Rattle.map_parts.proofs.KeptEach.{map-cong}
use Rattle.map_parts.proofs.Merging as merging
use Rattle.cad_surgery.proofs.MergersTried as tried
use Rattle.cad_surgery.proofs.RingLengths.{face-lengths, home-stays}
use Rattle.cad_surgery.proofs.WorkTaken.{ticks-fewer, ticks-just}

-- the halves along the rings of the ended parcel are as many as their sides
pub path-rings : (m : Map) (rows : HalfRows) (kept : Face) (ended : ℕ) (first : Half) (others moved : List Half) (is : IsMerging m kept ended (first ∷ others)) → IsLocal m rows
    → AreAlong rows (first ∷ others) (sides_of_chain (shared_chain is)) → AreOfRings m rows moved (Parcel ended) (rings_past is)
    → IsPermutation (map (home_of m rows) moved) (filter (λ b. is_face (Parcel ended) b.face) (rings_past is))
    → length (cycle rows first) + cycles_length rows moved ≡ sides_of_face (Parcel ended) m
path-rings m rows kept ended first others moved is local leads moved_are once =
    let path = first ∷ others in
    let law = merging.chain-of m kept ended path is in
    let whole = merging.whole m kept ended path is in
    let left = bounding (Parcel ended) is.ended_ring in
    let right = bounding kept is.kept_ring in
    face-lengths m whole rows local (Parcel ended) left right (rings_past is) law.were law.left_face (λ e. law.differ (sym law.right_face ∙ e)) first
    (first-on (merged is) m kept (Parcel ended) (shared_chain is) (first_corner is) (last_corner is) (merging.one_ring m kept ended path is) left right (rings_past is) law whole
    (merging.chain-open m kept ended path is).long first others (merging.more m kept ended path is) rows leads)
    moved moved_are once

module _ (m : Map) (g : Merger) {start end : Half} (is_along : g.way ≡ Along start end) {first : Half} {others : List Half} (parted : g.path.now ≡ first ∷ others) where
  abbrev path : List Half
  path = first ∷ others

  pub seen-as : {rows : HalfRows} → HasShared g.way m rows g.kept g.ended g.path.now g.moved.now → HasSharedPath m rows g.kept g.ended path start end g.moved.now
  seen-as {rows} = subst (λ (q : Way × List Half). HasShared q.0 m rows g.kept g.ended q.1 g.moved.now) (λ i. (is_along i, parted i))

  -- it takes so many ticks at the most, and so does its way back, in a table of the map with the same sides
  module _ (rows : HalfRows) (shared : HasShared g.way m rows g.kept g.ended g.path.now g.moved.now) (t : HalfRows) (origins : (h : Half) → origin_of t h ≡ origin_of rows h)
      {at : MapRows} {put : Held Half} {wide : Held Spoke} (goes : FitMap m at t put wide) where
    abbrev it : HasSharedPath m rows g.kept g.ended path start end g.moved.now
    it = seen-as shared

    once : IsPermutation (map (home_of m t) g.moved.now) (filter (λ b. is_face (Parcel g.ended) b.face) (rings_past it.is))
    once =
        subst (λ (l : List Boundary). IsPermutation l (filter (λ b. is_face (Parcel g.ended) b.face) (rings_past it.is)))
        (map-cong (home_of m rows) (home_of m t) g.moved.now (λ h among. sym (home-stays m rows t h (side-same rows t origins h)))) it.once

    few : 3 * length others + 4 + (length (cycle t first) + cycles_length t g.moved.now) ≤ ticks_by m g
    few =
        let rings = path-rings m t g.kept g.ended first others g.moved.now it.is goes.fits.local
        (along-same rows t origins path (sides_of_chain (shared_chain it.is)) it.leads)
        (of-same rows t origins m g.moved.now (Parcel g.ended) (rings_past it.is) it.moved_are) once in
        let long = ap length parted in
        omega (arith, rings, long)

  module _ {rows : MapRows} {table : Table} {held : Held Half} {stars : Held Spoke} (on : IsMergerOn m g rows table held stars) where
    abbrev pub seen : HasSharedPath m table.rows g.kept g.ended path start end g.moved.now
    seen = seen-as on.shared

    abbrev Can : Type 0
    Can = CanBeginMerge g.kept g.ended g.strings.now path g.moved.now rows table.rows held stars

    abbrev pub begins : Can
    begins = record {
      map = m;
      is = seen.is;
      strings_are = on.strings_are ∙ ap strings_of parted;
      fits = on.fits;
      leads = seen.leads;
      moved_are = seen.moved_are;
    }

    pub begun : {E : Type 0} {new : MapRows} {t : Table} {put : Held Half} {wide : Held Spoke} {r : Result EndedParcel E} → table.work ≤ greatest
        → ((c : Can) → OnOk r (FitMap (merged c.is) new t.rows put wide)) → ((c : Can) → OnErr r (FitMap c.map new t.rows put wide)) → OnErr r (t ≡ table)
        → ((c : Can) → (start end : Half) → IsAlong (merged c.is) table.rows (leaving (first_corner c.is)) start → IsAlong (merged c.is) table.rows (leaving (last_corner c.is)) end
        → IfOk r (λ e. (undo : CanUnmerge g.kept e.row e.place path start end g.moved.now e.strings.items new t.rows put wide) × (undo.map ≡ c.map)))
        → OnOk r (AreLoose (next t.rows) path) → KeepsEnds table.rows t.rows
        → OnOk r (t.work ≡ ticked (cycles_length table.rows g.moved.now + (length (cycle table.rows first) + (length others + 2) + (2 + 2 * length others))) table.work)
        → Begins m g table new t put wide r
    begun {new = new} {t = t} {put = put} {wide = wide} {r = Ok e} within fits err same undo loose ends work =
        let low = few table.rows on.shared table.rows (λ h. refl) on.fits in
        tried.begun m g table on.shared on.all within (fits begins) (subst (AreLoose (next t.rows)) (sym parted) loose) ends
        (ticks-fewer table t (cycles_length table.rows g.moved.now + (length (cycle table.rows first) + (length others + 2) + (2 + 2 * length others))) (ticks_by m g) (omega (arith, low))
        (ticks-just table t (cycles_length table.rows g.moved.now + (length (cycle table.rows first) + (length others + 2) + (2 + 2 * length others))) work))
        (subst (λ (q : Way × List Half). IsUndoable q.0 q.1 m g e new t.rows put wide) (λ i. (sym is_along i, sym parted i)) (undo begins start end seen.start_on seen.end_on))
    begun {r = Err f} within fits err same undo loose ends work = record { begun = tt; back = tt; err = err begins; err_table = same }

  module _ {before : Table} {e : EndedParcel} {rows : MapRows} {t : Table} {held : Held Half} {stars : Held Spoke} (can : CanTakeBack m g before e rows t held stars) where
    abbrev Undo : Type 0
    Undo = CanUnmerge g.kept e.row e.place path start end g.moved.now e.strings.items rows t.rows held stars

    abbrev pub undoing : (undo : Undo) × (undo.map ≡ m)
    undoing = subst (λ (q : Way × List Half). IsUndoable q.0 q.1 m g e rows t.rows held stars) (λ i. (is_along i, parted i)) can.undo

    pub gone-back : {back : MapRows} {u : Table} {put : Held Half} {wide : Held Spoke} → ((c : Undo) → FitMap c.map back u.rows put wide) → KeepsEnds t.rows u.rows
        → u.work ≡ ticked (2 + 2 * length others + (length others + 2) + (length (cycle u.rows first) + cycles_length u.rows g.moved.now)) t.work
        → IsBack m g before back u put wide
    gone-back {back = back} {u = u} {put = put} {wide = wide} fits ends work =
        let goes = subst (λ (q : Map). FitMap q back u.rows put wide) undoing.1 (fits undoing.0) in
        let low = few before.rows can.shared u.rows (λ h. ends.origin h ∙ can.ends.origin h) goes in
        let ticks = 2 + 2 * length others + (length others + 2) + (length (cycle u.rows first) + cycles_length u.rows g.moved.now) in
        tried.gone-back can goes ends (ticks-fewer t u ticks (ticks_by m g) (omega (arith, low)) (ticks-just t u ticks work))

-- A merger, along a chain or round an island, on the parts of a map on half-edges, from growth to rest.
use Rattle.std.proofs.Common.{◌≡◌, ◌≤◌, ◌<◌, ◌+◌, ◌*◌, ℕ, sym, ap, subst, ◌∙◌, List, map, length, false, arith}
use Rattle.std.specs.Prelude.{IsPermutation, Result, Ok, Err, IsErr}
use Rattle.std.specs.List.{Contains}
use Rattle.std.proofs.lemmas.List.{length-map}
use Rattle.std.proofs.lemmas.List.Sorted.{length_permutation}
use Rattle.cad_rows.specs.declared.edits.Edit.TheVariants.{Merge}
use Rattle.cad_rows.specs.declared.names.Face.{Face}
use Rattle.cad_rows.specs.declared.names.Face.TheVariants.{Parcel}
use Rattle.cad_rows.specs.declared.rows.StringRow.{StringRow}
use Rattle.cad_rings.specs.Cycle.{Side, sides_of}
use Rattle.cad_rings.proofs.CallerLemmas.{length-sides_of}
use Rattle.cell_grid.specs.Grid.{Grid}
use Rattle.cad_map.specs.Chain.{start_of, next_of}
use Rattle.cad_map.specs.Costs.{work_bound}
use Rattle.cad_map.specs.Effects.{after}
use Rattle.cad_map.specs.Map.{Map, has_string}
use Rattle.cad_map.specs.Rings.{HasWholeRings}
use Rattle.half_table.specs.declared.half.Half.{Half}
use Rattle.half_table.specs.Count.{greatest, ticked}
use Rattle.half_table.specs.Rows.{HalfRows, Table, has, next}
use Rattle.half_paths.specs.Path.{AreDifferent, strings_of}
use Rattle.half_paths.specs.Loose.{is_of, numbers_of, AreLoose, DropsStrings}
use Rattle.key_lists.specs.Held.{Held}
use Rattle.cad_laws.specs.Counts.{sides_of_face, shared_strings}
use Rattle.cad_laws.specs.Local.{IsShown, side_by}
use Rattle.cad_laws.specs.Tried.{IsTried}
use Rattle.cad_surgery.specs.declared.draft.Draft.TheInside.{Inside}
use Rattle.cad_surgery.specs.declared.edits.merging.Merger.{Merger}
use Rattle.cad_surgery.specs.declared.edits.merging.Way.{Way}
use Rattle.cad_surgery.specs.declared.edits.merging.Way.TheVariants as way
use Rattle.cad_surgery.specs.IslandMergers.{HasSharedRing}
use Rattle.cad_surgery.specs.Merging.{HasShared, IsMergerOn, IsBegun, IsUndoable, CanTakeBack, Begins, IsBack, merged_by, ticks_by}
use Rattle.cad_surgery.specs.Proper.{IsProper}
use Rattle.cad_surgery.specs.Trials.{IsMade}
use Rattle.cad_surgery.specs.Work.{TakesWork, TicksUpTo}
use Rattle.map_parts.specs.declared.edits.merging_tried.EndedParcel.{EndedParcel}
use Rattle.cad_map.specs.declared.map_rows.MapRows.{MapRows}
use Rattle.map_parts.specs.declared.stars.Spoke.{Spoke}
use Rattle.map_parts.specs.Handing.{KeepsEnds}
use Rattle.map_parts.specs.Merging.{shared_chain}
use Rattle.map_parts.specs.Parts.{Parts, FitTogether, map_of, kept_at}
use Rattle.map_parts.specs.Paths.{AreAlong, HasStringsMore}
use Rattle.map_parts.specs.Splitting.{FitMap}
use Rattle.map_parts.proofs.MergedRows as rows_of
use Rattle.map_parts.proofs.Merging as chains
use Rattle.map_parts.proofs.MergingIsland as islands
use Rattle.cad_surgery.proofs.DividedBack.{first_side}
use Rattle.cad_surgery.proofs.DraftFits.{draft-fits, draft-all}
use Rattle.cad_surgery.proofs.FitParts.{parts, parts-in, GoWith, at-rest, stand-for}
use Rattle.cad_surgery.proofs.GridSteps.{stood}
use Rattle.cad_surgery.proofs.LooseBeside as unseen
use Rattle.cad_surgery.proofs.LooseBeside.{AreHidden, either}
use Rattle.cad_surgery.proofs.Trials.{is-left, is-left-too, is-made}
use Rattle.cad_surgery.proofs.WorkTaken.{ticks-just, ticks-then, ticks-work, work-allowed}

-- the path is as long as the ring
pub round-long : (rows : HalfRows) (path : List Half) (points : List ℕ) → AreAlong rows path (sides_of points) → length path ≡ length points
round-long rows path points along = sym (length-map path (side_by rows)) ∙ ap length along ∙ length-sides_of points

pub path-points : (m : Map) (rows : HalfRows) (kept : Face) (ended : ℕ) (path moved : List Half) → (it : HasSharedRing m rows kept ended path moved) → length path ≡ length it.points
path-points m rows kept ended path moved it = round-long rows path it.points it.along

module _ (m : Map) (rows : HalfRows) (kept : Face) (ended : ℕ) (path moved : List Half) where
  -- it was tried, and the path has the strings that the two share
  pub tried-by : (w : Way) → HasShared w m rows kept ended path moved → IsTried m (Merge kept (Parcel ended))
  tried-by (way.Along start end) it = it.is.tried
  tried-by way.Round it = it.is.tried

  pub names-by : (w : Way) → HasShared w m rows kept ended path moved → IsPermutation (numbers_of (shared_strings m kept (Parcel ended))) (strings_of path)
  names-by (way.Along start end) it = it.is.shared
  names-by way.Round it = it.is.shared

  -- the path has a first half
  pub path-some : (w : Way) → HasShared w m rows kept ended path moved → 0 < length path
  path-some (way.Along start end) it =
      let there = first_side (shared_chain it.is) (chains.chain-open m kept ended path it.is).long in
      let low = (subst (λ (l : List Side). Contains l (start_of (shared_chain it.is), next_of (shared_chain it.is))) (sym it.leads) there).1 in
      let long = length-map path (side_by rows) in
      omega (arith, low, long)
  path-some way.Round it =
      let long = islands.long m kept ended it.points path it.is in
      let same = path-points m rows kept ended path moved it in
      omega (arith, long, same)

module _ (m : Map) (g : Merger) (before : Table) (seen : HasShared g.way m before.rows g.kept g.ended g.path.now g.moved.now) where
  abbrev after_it : Map
  after_it = after m (merged_by g)

  tried : IsTried m (merged_by g)
  tried = tried-by m before.rows g.kept g.ended g.path.now g.moved.now g.way seen

  names : IsPermutation (numbers_of (shared_strings m g.kept (Parcel g.ended))) (strings_of g.path.now)
  names = names-by m before.rows g.kept g.ended g.path.now g.moved.now g.way seen

  whole-before : HasWholeRings m
  whole-before = rows_of.whole m g.kept g.ended g.path.now tried names

  whole-after : HasWholeRings after_it
  whole-after = rows_of.parts m g.kept g.ended g.path.now tried names

  more : HasStringsMore after_it m g.path.now
  more = rows_of.more m g.kept g.ended g.path.now tried names

  path-long : length g.path.now ≡ length (shared_strings m g.kept (Parcel g.ended))
  path-long =
      sym (length-map g.path.now (λ (h : Half). h.string))
      ∙ length_permutation (map (λ (s : StringRow). s.number) (shared_strings m g.kept (Parcel g.ended))) (strings_of g.path.now) names
      ∙ length-map (shared_strings m g.kept (Parcel g.ended)) (λ (s : StringRow). s.number)

  merge-work : 16 * (length g.path.now + 2) + 4 * sides_of_face (Parcel g.ended) m ≤ work_bound m after_it
  merge-work =
      let w = work-allowed m (merged_by g) tried in
      let long = path-long in
      omega (arith, w, long)

  -- its strings are loose, and no look sees them
  pub strings-new : (h : Half) → IsShown after_it h → is_of (strings_of g.path.now) h ≡ false
  strings-new = more.new

  pub strings-differ : AreDifferent g.path.now
  strings-differ = rows_of.different m g.kept g.ended g.path.now tried names

  pub begun : {E : Type 0} → ((h : Half) → has before.rows h ≡ has_string m h.string) → before.work ≤ greatest
      → {rows : MapRows} {t : Table} {put : Held Half} {wide : Held Spoke} {e : EndedParcel}
      → FitMap after_it rows t.rows put wide → AreLoose (next t.rows) g.path.now → KeepsEnds before.rows t.rows → TicksUpTo (ticks_by m g) before t
      → IsUndoable g.way g.path.now m g e rows t.rows put wide → Begins {E = E} m g before rows t put wide (Ok e)
  begun all within fits loose ends ticks undo = record {
    begun = record {
      fits = fits;
      halves = λ h. ends.has h ∙ all h ∙ more.all h ∙ sym (either (is_of (strings_of g.path.now) h) (has_string after_it h.string));
      loose = loose;
      ticks = ticks;
    };
    back = record { shared = seen; all = all; ends = ends; within = within; ticks = ticks; undo = undo };
    err = tt;
    err_table = tt;
  }

module _ {m : Map} {g : Merger} {before : Table} {e : EndedParcel} {rows : MapRows} {t : Table} {held : Held Half} {stars : Held Spoke} (can : CanTakeBack m g before e rows t held stars)
    {back : MapRows} {u : Table} {put : Held Half} {wide : Held Spoke} where
  pub gone-back : FitMap m back u.rows put wide → KeepsEnds t.rows u.rows → TicksUpTo (ticks_by m g) t u → IsBack m g before back u put wide
  gone-back fits ends ticks = record {
    fits = fits;
    all = λ h. ends.has h ∙ can.ends.has h ∙ can.all h;
    work = let most = merge-work m g before can.shared in
        ticks-work before u (ticks_by m g + ticks_by m g) (work_bound m (after m (merged_by g))) can.within (omega (arith, most)) (ticks-then before t u (ticks_by m g) (ticks_by m g) can.ticks ticks);
  }

-- ---- On a draft

module _ {T : Type 0} (inside : Inside T) {v : Parts} (view : parts-in inside ≡ v) (fit : FitTogether (parts-in inside)) (g : Merger)
    (rest : IsProper (map_of v) v.table.rows (kept_at v)) (seen : HasShared g.way (map_of v) v.table.rows g.kept g.ended g.path.now g.moved.now)
    (strings_are : g.strings.now ≡ strings_of g.path.now) where
  abbrev grid : Grid
  grid = inside.grid

  abbrev old : Map
  old = map_of v

  abbrev made : Map
  made = after old (merged_by g)

  here : HasShared g.way old inside.table.rows g.kept g.ended g.path.now g.moved.now
  here = subst (λ (q : Parts). HasShared g.way old q.table.rows g.kept g.ended g.path.now g.moved.now) (sym view) seen

  pub on : IsMergerOn old g inside.rows inside.table inside.kept inside.stars
  on = record {
    shared = here;
    strings_are = strings_are;
    fits = draft-fits inside.rows inside.table inside.kept inside.stars grid v view fit (whole-before old g inside.table here);
    all = draft-all inside.rows inside.table inside.kept inside.stars grid v view rest;
  }

  in-view : {t : Table} {most : ℕ} → TakesWork inside.table t most → TakesWork v.table t most
  in-view {t} {most} = subst (λ (q : Parts). TakesWork q.table t most) view

  module _ {E : Type 0} {new : MapRows} {t : Table} {put : Held Half} {wide : Held Spoke} where
    -- where memory ran out
    module _ {f : E} (begins : (m : Map) → IsMergerOn m g inside.rows inside.table inside.kept inside.stars → Begins m g inside.table new t put wide (Err f)) where
      pub left : GoWith old new t put wide
      left = record { whole = whole-before old g inside.table here; fits = (begins old on).err }

      pub left-made : {A F : Type 0} {r : Result A F} → IsErr r → IsMade (merged_by g) v (parts new t put wide grid) r
      left-made is =
          let same = (begins old on).err_table in
          is-left-too is (ap (λ (d : Parts). d.grid) view) (at-rest grid left (λ h. ap (λ (w : Table). has w.rows h) same ∙ on.all h))
          (stood (same ∙ ap (λ (d : Parts). d.table) view)) (stand-for grid left)

    -- where it is made
    module _ {e : EndedParcel} (begins : (m : Map) → IsMergerOn m g inside.rows inside.table inside.kept inside.stars → Begins {E = E} m g inside.table new t put wide (Ok e)) where
      now_it : IsBegun old g inside.table new t put wide
      now_it = (begins old on).begun

      pub gone-through : GoWith made new t put wide
      gone-through = record { whole = whole-after old g inside.table here; fits = now_it.fits }

      pub stands : map_of (parts new t put wide grid) ≡ made
      stands = stand-for grid gone-through

      pub hidden-now : AreHidden g.path.now (parts new t put wide grid)
      hidden-now = unseen.hidden-now g.path.now gone-through now_it.halves (strings-new old g inside.table here) grid (strings-differ old g inside.table here) now_it.loose

      pub done : {A F : Type 0} {a : A} (p : Parts) → p ≡ record (parts new t put wide grid) { table = p.table } → FitTogether p → map_of p ≡ map_of (parts new t put wide grid)
          → DropsStrings g.path.now t.rows p.table.rows → p.table.work ≡ ticked (length g.path.now) t.work → IsMade {A = A} {E = F} (merged_by g) v p (Ok a)
      done p are whole is drops work =
          let most = merge-work old g inside.table here in
          is-made (ap (λ (d : Parts). d.grid) are ∙ ap (λ (d : Parts). d.grid) view)
          (unseen.hidden-gone g.path.now gone-through now_it.halves (strings-new old g inside.table here) grid p whole is drops)
          (in-view (ticks-work inside.table p.table (ticks_by old g + length g.path.now) (work_bound old made) (begins old on).back.within (omega (arith, most))
          (ticks-then inside.table t p.table (ticks_by old g) (length g.path.now) now_it.ticks (ticks-just t p.table (length g.path.now) work))))
          (is ∙ stands)

      -- ---- And taken back

      pub undoing : (m : Map) × (before : Table) × CanTakeBack m g before e new t put wide
      undoing = (old, inside.table, (begins old on).back)

      module _ {back : MapRows} {u : Table} {kept : Held Half} {star : Held Spoke} (taken : (m : Map) → (before : Table) → CanTakeBack m g before e new t put wide → IsBack m g before back u kept star) where
        back_it : IsBack old g inside.table back u kept star
        back_it = taken old inside.table (begins old on).back

        pub back-with : GoWith old back u kept star
        back-with = record { whole = whole-before old g inside.table here; fits = back_it.fits }

        pub back-made : {A F : Type 0} {f : F} → IsMade {A = A} (merged_by g) v (parts back u kept star grid) (Err f)
        back-made = is-left (ap (λ (d : Parts). d.grid) view) (at-rest grid back-with back_it.all) (in-view back_it.work) (stand-for grid back-with)

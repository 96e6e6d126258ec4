-- A merger that is taken back by its record, along a chain or round an island.
use Rattle.std.proofs.Common.{◌≡◌, ◌≤◌, ◌+◌, ◌*◌, ℕ, refl, sym, ap, subst, ◌∙◌, List, [], ◌∷◌, length, true, if◌then◌else◌, arith}
use Rattle.std.specs.Prelude.{Result, Ok, Err, IsErr, OnOk, OnErr}
use Rattle.cad_rows.specs.declared.edits.Edit.TheVariants.{Merge}
use Rattle.cad_rows.specs.declared.names.Face.{Face}
use Rattle.cad_rows.specs.declared.names.Face.TheVariants.{Parcel}
use Rattle.cad_rows.specs.declared.rows.ParcelRow.{ParcelRow}
use Rattle.cad_rows.specs.declared.rows.StringRow.{StringRow}
use Rattle.cad_rings.specs.Surgery.{sides_of_chain}
use Rattle.cell_grid.specs.Grid.{Grid}
use Rattle.cad_map.specs.Effects.{after}
use Rattle.cad_map.specs.Map.{Map}
use Rattle.half_table.specs.declared.half.Half.{Half}
use Rattle.half_table.specs.Count.{greatest, ticked}
use Rattle.half_table.specs.Half.{twin}
use Rattle.half_table.specs.Rows.{HalfRows, Table, has, cycle}
use Rattle.half_paths.specs.Loose.{is_of, numbers_of}
use Rattle.key_lists.specs.Held.{Held}
use Rattle.cad_laws.specs.Counts.{sides_of_face}
use Rattle.cad_laws.specs.Local.{IsLocal}
use Rattle.cad_laws.specs.Taken.{AreAtPlaces}
use Rattle.edit_records.specs.HeldChains.{HeldMerged, closed}
use Rattle.cad_surgery.specs.declared.draft.Draft.TheInside.{Inside}
use Rattle.cad_surgery.specs.declared.edits.merged.Merged.{Merged}
use Rattle.cad_surgery.specs.declared.edits.merging.Way.{Way}
use Rattle.cad_surgery.specs.declared.edits.merging.Way.TheVariants as way
use Rattle.cad_surgery.specs.Merging.{HasShared}
use Rattle.cad_surgery.specs.Proper.{IsProper}
use Rattle.cad_surgery.specs.ToldMergers.{CanGoBack, GoesBack, HeldMerger, IsAtHand, IsMergedBy, WentAlong, chain_told, halves_of, ticks_back}
use Rattle.cad_surgery.specs.Trials.{IsTakenBack}
use Rattle.map_parts.specs.declared.edits.merging_tried.EndedParcel.{EndedParcel}
use Rattle.cad_map.specs.declared.map_rows.MapRows.{MapRows}
use Rattle.map_parts.specs.declared.stars.Spoke.{Spoke}
use Rattle.map_parts.specs.Merging.{merged, sides_led, CanBeginUnmerge}
use Rattle.map_parts.specs.MergingIsland.{without_island, CanBeginUnmergeIsland}
use Rattle.map_parts.specs.Parts.{Parts, FitTogether, map_of, kept_at}
use Rattle.map_parts.specs.PlacedStrings.{numbers_placed, StoodIn}
use Rattle.map_parts.specs.Relabelled.{cycles_length}
use Rattle.map_parts.specs.Splitting.{FitMap}
use Rattle.cad_surgery.proofs.FitParts.{parts, parts-in, GoWith, stand-for}
use Rattle.cad_surgery.proofs.HeldIslandMergers as round
use Rattle.cad_surgery.proofs.HeldMergers as along
use Rattle.cad_surgery.proofs.HeldMergers.{numbers-along, shared-names}
use Rattle.cad_surgery.proofs.MergedDraft.{path-rings}
use Rattle.cad_surgery.proofs.MergedIslandDraft.{island-rings}
use Rattle.cad_surgery.proofs.TakenBack as taken
use Rattle.cad_surgery.proofs.TakenBack.{IsMerged, led-rows}
use Rattle.cad_surgery.proofs.ToldMergers as told
use Rattle.cad_surgery.proofs.Trials.{stays-made}

-- ---- On the parts of the map after it

module _ {m : Map} {t : Merged} {path : List Half} {e : EndedParcel} {rows : MapRows} {table : Table} {held : Held Half} {stars : Held Spoke}
    {first : Half} {others : List Half} (parted : path ≡ first ∷ others) (can : CanGoBack m t path e rows table held stars) where
  -- all that went is at hand, along a chain
  pub back-along : {start end : Half} → t.way ≡ way.Along start end
      → (c : CanBeginUnmerge t.kept e.row e.place (first ∷ others) start end t.moved.now e.strings.items rows table.rows held stars) × (c.map ≡ m)
  back-along is = subst (λ (q : Way × List Half). IsAtHand q.0 q.1 m t e rows table held stars) (λ i. (is i, parted i)) can.back

  -- or round an island
  pub back-round : t.way ≡ way.Round → (c : CanBeginUnmergeIsland t.kept e.row e.place (first ∷ others) t.moved.now e.strings.items rows table.rows held stars) × (c.map ≡ m)
  back-round is = subst (λ (q : Way × List Half). IsAtHand q.0 q.1 m t e rows table held stars) (λ i. (is i, parted i)) can.back

  module _ {A E : Type 0} {r : Result A E} {at : MapRows} {u : Table} {put : Held Half} {wide : Held Spoke}
      (err_rows : OnErr r (u.rows ≡ table.rows)) (halves : OnOk r ((h : Half) → has u.rows h ≡ (if is_of (numbers_placed e.strings.items) h then true else has table.rows h)))
      (err_work : OnErr r ((count : ℕ) × (count ≤ length e.strings.items) × (u.work ≡ ticked count (ticked count table.work)))) where
    goes : {w : Way} → t.way ≡ w → {b : Map} → b ≡ m → OnOk r (FitMap b at u.rows put wide) → OnErr r (FitMap (after b (Merge t.kept (Parcel e.row.number))) at u.rows put wide)
        → OnOk r (u.work ≡ ticked (ticks_back w (first ∷ others) t.moved.now u.rows) (ticked (length e.strings.items) table.work)) → GoesBack m t path e table at u put wide r
    goes is same fits err work = record {
      fits = subst (λ (q : Map). OnOk r (FitMap q at u.rows put wide)) same fits;
      halves = halves;
      work = subst (λ (q : Way × List Half). OnOk r (u.work ≡ ticked (ticks_back q.0 q.1 t.moved.now u.rows) (ticked (length e.strings.items) table.work))) (λ i. (sym is i, sym parted i)) work;
      err = subst (λ (q : Map). OnErr r (FitMap (after q (Merge t.kept (Parcel e.row.number))) at u.rows put wide)) same err;
      err_rows = err_rows;
      err_work = err_work;
    }

    pub goes-along : {start end : Half} → t.way ≡ way.Along start end
        → ((c : CanBeginUnmerge t.kept e.row e.place (first ∷ others) start end t.moved.now e.strings.items rows table.rows held stars) → OnOk r (FitMap c.map at u.rows put wide))
        → ((c : CanBeginUnmerge t.kept e.row e.place (first ∷ others) start end t.moved.now e.strings.items rows table.rows held stars) → OnErr r (FitMap (merged c.is) at u.rows put wide))
        → OnOk r (u.work ≡ ticked (2 + 2 * length others + (length others + 2) + (length (cycle u.rows first) + cycles_length u.rows t.moved.now)) (ticked (length e.strings.items) table.work))
        → GoesBack m t path e table at u put wide r
    goes-along is fits err work = let c = back-along is in goes is c.1 (fits c.0) (err c.0) work

    pub goes-round : t.way ≡ way.Round
        → ((c : CanBeginUnmergeIsland t.kept e.row e.place (first ∷ others) t.moved.now e.strings.items rows table.rows held stars) → OnOk r (FitMap c.map at u.rows put wide))
        → ((c : CanBeginUnmergeIsland t.kept e.row e.place (first ∷ others) t.moved.now e.strings.items rows table.rows held stars) → OnErr r (FitMap (without_island c.is) at u.rows put wide))
        → OnOk r (u.work ≡ ticked (length others + 1 + (length (cycle u.rows first) + (length (cycle u.rows (twin first)) + cycles_length u.rows t.moved.now))) (ticked (length e.strings.items) table.work))
        → GoesBack m t path e table at u put wide r
    goes-round is fits err work = let c = back-round is in goes is c.1 (fits c.0) (err c.0) work

-- it takes so many ticks at the most
few-by : (m : Map) (rows : HalfRows) (kept : Face) (ended : ℕ) (moved : List Half) (w : Way) (path : List Half) → IsLocal m rows → HasShared w m rows kept ended path moved
    → ticks_back w path moved rows ≤ 4 * (length path + 2) + sides_of_face (Parcel ended) m
few-by m rows kept ended moved (way.Along start end) [] local it = omega arith
few-by m rows kept ended moved way.Round [] local it = omega arith
few-by m rows kept ended moved (way.Along start end) (first ∷ others) local it =
    let rings = path-rings m rows kept ended first others moved it.is local it.leads it.moved_are it.once in
    omega (arith, rings)
few-by m rows kept ended moved way.Round (first ∷ others) local it =
    let rings = island-rings m rows kept ended it.points first others moved it.is local it.along it.moved_are it.once in
    let of_ended = rings.0 in
    let of_kept = rings.1 in
    omega (arith, of_ended, of_kept)

-- what the record tells is at hand
module _ {rows : MapRows} {table : Table} {held : Held Half} {stars : Held Spoke} {grid : Grid} {v : Parts} {m : Map} (t : Merged) (gone : EndedParcel)
    (after_it : IsMerged rows table held stars grid v m t.kept t.row.now.number (halves_of t.strings.now) gone.strings.items) where
  abbrev path : List Half
  path = halves_of t.strings.now

  fits : FitMap (after m (Merge t.kept (Parcel t.row.now.number))) rows table.rows held stars
  fits = taken.fits after_it

  stood : {chain : List ℕ} → WentAlong t.row.now t.place t.strings.now chain gone → HeldMerged m t.kept t.row.now t.place t.strings.now chain → StoodIn m.strings gone.strings.items
  stood went it = subst (λ (q : List StringRow × List ℕ). AreAtPlaces m.strings q.0 q.1) (λ i. (sym went.rows_are i, sym went.places_are i)) it.there

  begins-by : (w : Way) → HeldMerger w m t.kept t.row.now t.place t.points.now t.strings.now t.moved.now → WentAlong t.row.now t.place t.strings.now (chain_told w t.points.now) gone
      → IsAtHand w path m t gone rows table held stars
  begins-by (way.Along start end) it went =
      subst (λ (q : ParcelRow × ℕ). (can : CanBeginUnmerge t.kept q.0 q.1 path start end t.moved.now gone.strings.items rows table.rows held stars) × (can.map ≡ m))
      (λ i. (sym went.row_is i, sym went.place_is i)) (
        record {
          map = m;
          is = along.is_it m t.kept t.row.now t.place t.points.now t.strings.now start end t.moved.now after_it.tried it;
          fits = fits;
          new = taken.new after_it;
          sides = ap (sides_led path) went.rows_are ∙ led-rows t.strings.now t.points.now it.gone.as_many ∙ ap sides_of_chain it.shared.is;
          start_on = along.start_on m t.kept t.row.now t.place t.points.now t.strings.now start end t.moved.now after_it.tried it table.rows fits.fits.ends;
          end_on = along.end_on m t.kept t.row.now t.place t.points.now t.strings.now start end t.moved.now after_it.tried it table.rows fits.fits.ends;
          moved_in = along.moved_in m t.kept t.row.now t.place t.points.now t.strings.now start end t.moved.now after_it.tried it table.rows fits.fits.ends;
          moved_are = along.moved_are m t.kept t.row.now t.place t.points.now t.strings.now start end t.moved.now after_it.tried it table.rows fits.fits.ends;
          numbers_are = taken.numbers_are after_it;
          stood = stood went it.gone;
          at = it.gone.parcel;
        },
        refl,
      )
  begins-by way.Round it went =
      subst (λ (q : ParcelRow × ℕ). (can : CanBeginUnmergeIsland t.kept q.0 q.1 path t.moved.now gone.strings.items rows table.rows held stars) × (can.map ≡ m))
      (λ i. (sym went.row_is i, sym went.place_is i)) (
        record {
          map = m;
          points = t.points.now;
          is = round.is_it m t.kept t.row.now t.place t.points.now t.strings.now t.moved.now after_it.tried it;
          fits = fits;
          new = taken.new after_it;
          sides =
              ap (sides_led path) went.rows_are ∙ led-rows t.strings.now (closed t.points.now) it.gone.as_many
              ∙ round.closed-sides t.points.now (round.long m t.kept t.row.now t.place t.points.now t.strings.now t.moved.now after_it.tried it);
          moved_in = round.moved_in m t.kept t.row.now t.place t.points.now t.strings.now t.moved.now after_it.tried it table.rows fits.fits.ends;
          moved_are = round.moved_are m t.kept t.row.now t.place t.points.now t.strings.now t.moved.now after_it.tried it table.rows fits.fits.ends;
          numbers_are = taken.numbers_are after_it;
          stood = stood went it.gone;
          at = it.gone.parcel;
        },
        refl,
      )

-- ---- On a draft

module _ {T : Type 0} (inside : Inside T) {v : Parts} (view : parts-in inside ≡ v) (fit : FitTogether (parts-in inside)) (rest : IsProper (map_of v) v.table.rows (kept_at v))
    (t : Merged) {path : List Half} (path_is : path ≡ halves_of t.strings.now)
    {gone : EndedParcel} (went : WentAlong t.row.now t.place t.strings.now (chain_told t.way t.points.now) gone) where
  abbrev Was : Map → Type 0
  Was m = IsMergedBy m (map_of v) t

  module _ {m : Map} (it : Was m) where
    told_it : HeldMerged m t.kept t.row.now t.place t.strings.now (chain_told t.way t.points.now)
    told_it = told.gone-by m t.kept t.row.now t.place t.points.now t.strings.now t.moved.now t.way it.held

    after_it : IsMerged inside.rows inside.table inside.kept inside.stars inside.grid v m t.kept t.row.now.number (halves_of t.strings.now) gone.strings.items
    after_it = record {
      view = view;
      fit = fit;
      rest = rest;
      tried = it.tried;
      shared = shared-names told_it;
      is = it.is;
      numbers = ap numbers_of went.rows_are ∙ numbers-along t.strings.now (chain_told t.way t.points.now) told_it.as_many;
    }

    pub begins : CanGoBack m t path gone inside.rows inside.table inside.kept inside.stars
    begins = record {
      some = let halves = told.halves-some m t.kept t.row.now t.place t.points.now t.strings.now t.moved.now it.tried t.way it.held in
          let same = ap length path_is in
          omega (arith, halves, same);
      back = subst (λ (l : List Half). IsAtHand t.way l m t gone inside.rows inside.table inside.kept inside.stars) (sym path_is) (begins-by t gone after_it t.way it.held went);
    }

  module _ {A E : Type 0} {at : MapRows} {u : Table} {put : Held Half} {wide : Held Spoke} where
    -- where memory ran out
    module _ {f : E}
        (back : (m : Map) → CanGoBack m t path gone inside.rows inside.table inside.kept inside.stars → GoesBack {A = A} m t path gone inside.table at u put wide (Err f)) where
      stay : {m : Map} → Was m → FitMap (after m (Merge t.kept (Parcel t.row.now.number))) at u.rows put wide
      stay {m} it = subst (λ (r : ParcelRow). FitMap (after m (Merge t.kept (Parcel r.number))) at u.rows put wide) went.row_is (back m (begins it)).err

      pub stays : {m : Map} → Was m → GoWith (after m (Merge t.kept (Parcel t.row.now.number))) at u put wide
      stays it = taken.stays (after_it it) at u put wide (stay it)

      pub left : inside.table.work ≤ greatest → {B F : Type 0} {r : Result B F} → IsErr r → (m : Map) × Was m → IsTakenBack Was v (parts at u put wide inside.grid) r
      left within {r = r} is made =
          stays-made Was v (parts at u put wide inside.grid) r is (stand-for inside.grid (stays made.1) ∙ sym made.1.is) (ap (λ (d : Parts). d.grid) view)
          (taken.stays-rest (after_it made.1) at u put wide (stay made.1) (back made.0 (begins made.1)).err_rows)
          (λ m was. taken.stay-work (after_it was) at u put wide within (back m (begins was)).err_work)

    -- where it is taken back
    module _ {a : A}
        (back : (m : Map) → CanGoBack m t path gone inside.rows inside.table inside.kept inside.stars → GoesBack {E = E} m t path gone inside.table at u put wide (Ok a)) where
      in-fits : {m : Map} → Was m → FitMap m at u.rows put wide
      in-fits {m} it = (back m (begins it)).fits

      pub gone-back : {m : Map} → Was m → GoWith m at u put wide
      gone-back it = taken.gone-back (after_it it) at u put wide (in-fits it)

      few : {m : Map} → Was m → ticks_back t.way path t.moved.now u.rows ≤ 4 * (length (halves_of t.strings.now) + 2) + sides_of_face (Parcel t.row.now.number) m
      few {m} it =
          let shared =
          subst (λ (l : List Half). HasShared t.way m u.rows t.kept t.row.now.number l t.moved.now) (sym path_is)
          (told.shared-by m t.kept t.row.now t.place t.points.now t.strings.now t.moved.now it.tried t.way it.held u.rows (in-fits it).fits.ends) in
          let most = few-by m u.rows t.kept t.row.now.number t.moved.now t.way path (in-fits it).fits.local shared in
          let same = ap length path_is in
          omega (arith, most, same)

      pub done : inside.table.work ≤ greatest → {B F : Type 0} {b : B} → (m : Map) × Was m → IsTakenBack {A = B} {E = F} Was v (parts at u put wide inside.grid) (Ok b)
      done within made = record {
        before = λ m was. stand-for inside.grid (gone-back was);
        err = tt;
        grid = ap (λ (d : Parts). d.grid) view;
        proper = taken.back-rest (after_it made.1) at u put wide (in-fits made.1) (back made.0 (begins made.1)).halves;
        work = λ m was. taken.in-work (after_it was) at u put wide within (ticks_back t.way path t.moved.now u.rows) (few was) (back m (begins was)).work;
      }

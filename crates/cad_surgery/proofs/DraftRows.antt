-- An edit of rows alone, on the parts of a map on half-edges.
use Rattle.std.proofs.Common.{◌≡◌, ◌≢◌, ℕ, List, [], ◌∷◌, ◌++◌, not, ◌==◌, map, find, filter, refl, sym, ap, ◌∙◌, subst, Option, Some, None}
use Rattle.std.specs.Prelude.{Result, Ok, Err, IfOk, OnOk, OnErr, option_map, IsTrue}
use Rattle.cad_rows.specs.declared.edits.Edit.{Edit}
use Rattle.cad_rows.specs.declared.edits.Edit.TheVariants.{AddSource, AddPoint, DropPoint, Split, Join, Divide, Merge, Move, Attach, Detach, Rename, Enclose}
use Rattle.cad_rows.specs.declared.names.Item.{Item}
use Rattle.cad_rows.specs.declared.names.Item.TheVariants as item
use Rattle.cad_rows.specs.declared.names.Name.{Name}
use Rattle.cad_rows.specs.declared.names.Name.TheVariants as name
use Rattle.cad_rows.specs.declared.refusals.Refusal.TheVariants as told
use Rattle.cad_rows.specs.declared.rows.PointRow.{PointRow}
use Rattle.cad_rows.specs.declared.rows.StringRow.{StringRow}
use Rattle.cad_rows.specs.declared.rows.ParcelRow.{ParcelRow}
use Rattle.cad_map.specs.declared.boundary.Boundary.{Boundary}
use Rattle.cad_map.specs.Changes.{change_point, change_parcel, change_string, change_sources}
use Rattle.cad_map.specs.Effects.{after}
use Rattle.cad_map.specs.Map.{Map, point_of, parcel_of, string_of}
use Rattle.cad_map.specs.Refusals.{unknown, taken, is_there, named, given, is_attached, not_attached, when}
use Rattle.cad_map.specs.Valid.{EachPair}
use Rattle.cad_map.proofs.CallerLemmas.{map-with_row, map-with_row-same, found-number}
use Rattle.map_parts.specs.Parts.{Parts, FitTogether, rows_of, map_of}
use Rattle.edit_records.specs.Record.{edit_of, Holds}
use Rattle.edit_records.specs.declared.record.SmallRecord.{SmallRecord}
use Rattle.edit_records.specs.declared.record.SmallRecord.TheVariants as record_of
use Rattle.cad_surgery.specs.RowEdits.{is_of_rows, without_rings, ends_of, HasSameEnds, with_rows, KeepsBeside}
use Rattle.cad_surgery.proofs.RowsKept.{same-rings, rows-proper}

-- ---- What an edit of rows leaves

-- a row changed in its place
module _ (m : Map) where
  abbrev Leaves : Map → Type 0
  Leaves n = HasSameEnds m n

  same : Leaves m
  same = record { strings = refl; parcels = refl }

  point-leaves : (n : ℕ) (f : PointRow → PointRow) → Leaves (change_point n f m)
  point-leaves n f = by (point_of m n) refl
    where
      by : (o : Option PointRow) → point_of m n ≡ o → Leaves (change_point n f m)
      by None is = rw is same
      by (Some r) is = rw is (record { strings = refl; parcels = refl })

  parcel-leaves : (n : ℕ) (f : ParcelRow → ParcelRow) → Leaves (change_parcel n f m)
  parcel-leaves n f = by (parcel_of m n) refl
    where
      by : (o : Option ParcelRow) → parcel_of m n ≡ o → Leaves (change_parcel n f m)
      by None is = rw is same
      by (Some r) is = rw is (record { strings = refl; parcels = map-with_row (λ (r : ParcelRow). r.number) (f r) m.parcels })

  string-leaves : EachPair (λ a b. a ≢ b) (map (λ s. s.number) m.strings) → (n : ℕ) (f : List ℕ → List ℕ)
      → Leaves (change_string n (λ r. record r { sources = f r.sources }) m)
  string-leaves each n f = by (string_of m n) refl
    where
      by : (o : Option StringRow) → string_of m n ≡ o → Leaves (change_string n (λ r. record r { sources = f r.sources }) m)
      by None is = rw is same
      by (Some r) is =
          let new : StringRow = record r { sources = f r.sources } in
          let found = ap (λ (k : ℕ). string_of m k) (found-number (λ (s : StringRow). s.number) n m.strings r is) ∙ is in
          rw is (record { strings = map-with_row-same (λ (s : StringRow). s.number) ends_of new r m.strings each found refl; parcels = refl })

  sources-leave : EachPair (λ a b. a ≢ b) (map (λ s. s.number) m.strings) → (i : Item) (f : List ℕ → List ℕ) → Leaves (change_sources i f m)
  sources-leave each (item.Point n) f = point-leaves n (λ r. record r { sources = f r.sources })
  sources-leave each (item.String n) f = string-leaves each n f
  sources-leave each (item.Parcel n) f = parcel-leaves n (λ r. record r { sources = f r.sources })

  pub leaves-ends : (e : Edit) → IsTrue (is_of_rows e) → EachPair (λ a b. a ≢ b) (map (λ s. s.number) m.strings) → Leaves (after m e)
  unfolding after
  leaves-ends (AddSource s text) alone each = record { strings = refl; parcels = refl }
  leaves-ends (AddPoint p x y) alone each = record { strings = refl; parcels = refl }
  leaves-ends (DropPoint p) alone each = record { strings = refl; parcels = refl }
  leaves-ends (Split s p x y one two) alone each = cc
  leaves-ends (Join p s) alone each = cc
  leaves-ends (Divide face chain strings parcel label source) alone each = cc
  leaves-ends (Merge k e) alone each = cc
  leaves-ends (Move p x y) alone each = point-leaves p (λ r. record r { position = record { x = x; y = y } })
  leaves-ends (Attach i s) alone each = sources-leave each i (λ sources. sources ++ s ∷ [])
  leaves-ends (Detach i s) alone each = sources-leave each i (λ sources. filter (λ t. not (t == s)) sources)
  leaves-ends (Rename p label) alone each = parcel-leaves p (λ r. record r { label = label })
  leaves-ends (Enclose face points strings parcel label source) alone each = cc

-- ---- The rings stand beside the rows

module _ (m : Map) where
  -- the map after the edit is that of its rows, with the rings of the map before
  abbrev IsBesideRings : (Map → Map) → Type 0
  IsBesideRings f = f m ≡ record (f (without_rings m)) { boundaries = m.boundaries }

  point-beside : (n : ℕ) (f : PointRow → PointRow) → IsBesideRings (change_point n f)
  point-beside n f = by (point_of m n) refl
    where
      by : (o : Option PointRow) → point_of m n ≡ o → IsBesideRings (change_point n f)
      by None is = rw is refl
      by (Some r) is = rw is refl

  string-beside : (n : ℕ) (f : StringRow → StringRow) → IsBesideRings (change_string n f)
  string-beside n f = by (string_of m n) refl
    where
      by : (o : Option StringRow) → string_of m n ≡ o → IsBesideRings (change_string n f)
      by None is = rw is refl
      by (Some r) is = rw is refl

  parcel-beside : (n : ℕ) (f : ParcelRow → ParcelRow) → IsBesideRings (change_parcel n f)
  parcel-beside n f = by (parcel_of m n) refl
    where
      by : (o : Option ParcelRow) → parcel_of m n ≡ o → IsBesideRings (change_parcel n f)
      by None is = rw is refl
      by (Some r) is = rw is refl

  sources-beside : (i : Item) (f : List ℕ → List ℕ) → IsBesideRings (change_sources i f)
  sources-beside (item.Point n) f = point-beside n (λ r. record r { sources = f r.sources })
  sources-beside (item.String n) f = string-beside n (λ r. record r { sources = f r.sources })
  sources-beside (item.Parcel n) f = parcel-beside n (λ r. record r { sources = f r.sources })

  pub after-beside : (e : Edit) → IsTrue (is_of_rows e) → after m e ≡ record (after (without_rings m) e) { boundaries = m.boundaries }
  unfolding after
  after-beside (AddSource s text) alone = refl
  after-beside (AddPoint p x y) alone = refl
  after-beside (DropPoint p) alone = refl
  after-beside (Split s p x y one two) alone = cc
  after-beside (Join p s) alone = cc
  after-beside (Divide face chain strings parcel label source) alone = cc
  after-beside (Merge k e) alone = cc
  after-beside (Move p x y) alone = point-beside p (λ r. record r { position = record { x = x; y = y } })
  after-beside (Attach i s) alone = sources-beside i (λ sources. sources ++ s ∷ [])
  after-beside (Detach i s) alone = sources-beside i (λ sources. filter (λ t. not (t == s)) sources)
  after-beside (Rename p label) alone = parcel-beside p (λ r. record r { label = label })
  after-beside (Enclose face points strings parcel label source) alone = cc

-- an edit of rows brings no ring
pub after-rows : (m : Map) (e : Edit) → IsTrue (is_of_rows e) → after (without_rings m) e ≡ without_rings (after m e)
after-rows m e alone =
    after-beside (without_rings m) e alone ∙ sym (ap without_rings (after-beside m e alone))

-- ---- What speaks against an edit, and what a record holds, is in the rows

there-rows : (m : Map) (n : Name) → is_there (without_rings m) n ≡ is_there m n
there-rows m (name.Point n) = refl
there-rows m (name.String n) = refl
there-rows m (name.Parcel n) = refl
there-rows m (name.Source n) = refl

pub unknown-rows : (m : Map) (e : Edit) → unknown (without_rings m) e ≡ unknown m e
unknown-rows m e i = option_map (λ n. told.Unknown n) (find (λ n. not (there-rows m n i)) (named e))

pub taken-rows : (m : Map) (e : Edit) → taken (without_rings m) e ≡ taken m e
taken-rows m e i = option_map (λ n. told.Taken n) (find (λ n. there-rows m n i) (given e))

attached-rows : (m : Map) (i : Item) (s : ℕ) → is_attached (without_rings m) i s ≡ is_attached m i s
attached-rows m (item.Point n) s = refl
attached-rows m (item.String n) s = refl
attached-rows m (item.Parcel n) s = refl

pub not_attached-rows : (m : Map) (e : Edit) → not_attached (without_rings m) e ≡ not_attached m e
not_attached-rows m (AddSource s text) = refl
not_attached-rows m (AddPoint p x y) = refl
not_attached-rows m (DropPoint p) = refl
not_attached-rows m (Split s p x y one two) = refl
not_attached-rows m (Join p s) = refl
not_attached-rows m (Divide face chain strings parcel label source) = refl
not_attached-rows m (Merge k e) = refl
not_attached-rows m (Move p x y) = refl
not_attached-rows m (Attach i s) = refl
not_attached-rows m (Detach i s) = ap (λ b. when (not b) told.NotAttached) (attached-rows m i s)
not_attached-rows m (Rename p label) = refl
not_attached-rows m (Enclose face points strings parcel label source) = refl

holds-rows : (m : Map) (r : SmallRecord) → IsTrue (is_of_rows (edit_of r)) → Holds r (without_rings m) → Holds r m
holds-rows m (record_of.AddSource row) alone h = tt
holds-rows m (record_of.AddPoint p at) alone h = tt
holds-rows m (record_of.DropPoint row place) alone h = h
holds-rows m (record_of.Split row place p at first second) alone h = cc
holds-rows m (record_of.Join row place first i second j string) alone h = cc
holds-rows m (record_of.Divide face chain strings parcel label source start end moved) alone h = cc
holds-rows m (record_of.MergeAlong kept row place chain strings start end moved) alone h = cc
holds-rows m (record_of.MergeIsland kept row place points strings moved) alone h = cc
holds-rows m (record_of.Enclose face points strings parcel label source moved) alone h = cc
holds-rows m (record_of.Move p from to) alone h = h
holds-rows m (record_of.Attach i s) alone h = tt
holds-rows m (record_of.Detach (item.Point n) s place) alone h = h
holds-rows m (record_of.Detach (item.String n) s place) alone h = h
holds-rows m (record_of.Detach (item.Parcel n) s place) alone h = h
holds-rows m (record_of.Rename p from to) alone h = h

-- so what the record of an edit of rows says of them it says of the map
pub held-rows : {E : Type 0} (m : Map) (e : Edit) → IsTrue (is_of_rows e) → (o : Result SmallRecord E) → IfOk o (λ r. edit_of r ≡ e) → IfOk o (λ r. Holds r (without_rings m)) → IfOk o (λ r. Holds r m)
held-rows m e alone (Ok r) is holds = holds-rows m r (subst (λ (f : Edit). IsTrue (is_of_rows f)) (sym is) alone) holds
held-rows m e alone (Err x) is holds = tt

-- ---- The parts

module _ (d : Parts) (fit : FitTogether d) (m : Map) (ends : HasSameEnds (rows_of d) m) where
  -- the map of other rows is that of these, with the rings as they were
  pub map-rows : map_of (with_rows d m) ≡ record m { boundaries = (map_of d).boundaries }
  map-rows = ap (λ (bs : List Boundary). record m { boundaries = bs }) (same-rings d m ends)

  pub beside-rows : KeepsBeside d (with_rows d m)
  beside-rows = record { table = refl; grid = refl; proper = rows-proper d m ends fit }

module _ (d : Parts) (fit : FitTogether d) (e : Edit) (alone : IsTrue (is_of_rows e)) where
  ends-made : HasSameEnds (rows_of d) (after (rows_of d) e)
  ends-made = leaves-ends (rows_of d) e alone fit.numbers

  -- the rows after an edit, or, where memory ran out, those before it
  pub made-ends : {X Y : Type 0} (r : Result X Y) (m : Map) → OnOk r (m ≡ after (rows_of d) e) → OnErr r (m ≡ rows_of d) → HasSameEnds (rows_of d) m
  made-ends (Ok x) m made err = subst (HasSameEnds (rows_of d)) (sym made) ends-made
  made-ends (Err y) m made err = subst (HasSameEnds (rows_of d)) (sym err) (same (rows_of d))

  pub made-map : (m : Map) → m ≡ after (rows_of d) e → map_of (with_rows d m) ≡ after (map_of d) e
  made-map m is =
      map-rows d fit m (subst (HasSameEnds (rows_of d)) (sym is) ends-made)
      ∙ ap (λ (q : Map). record q { boundaries = (map_of d).boundaries }) is ∙ sym (after-beside (map_of d) e alone)

pub kept-map : (d : Parts) → FitTogether d → (m : Map) → m ≡ rows_of d → map_of (with_rows d m) ≡ map_of d
kept-map d fit m is = map-rows d fit m (subst (HasSameEnds (rows_of d)) (sym is) (same (rows_of d))) ∙ ap (λ (q : Map). record q { boundaries = (map_of d).boundaries }) is

-- the way back
turned-ends : (m n : Map) → HasSameEnds m n → HasSameEnds n m
turned-ends m n ends = record { strings = sym ends.strings; parcels = sym ends.parcels }

module _ (d : Parts) (fit : FitTogether d) (e : Edit) (alone : IsTrue (is_of_rows e)) (b : Map) (each : EachPair (λ a b. a ≢ b) (map (λ s. s.number) b.strings))
    (was : map_of d ≡ after b e) where
  pub rows-after : rows_of d ≡ after (without_rings b) e
  rows-after = ap without_rings was ∙ sym (after-rows b e alone)

  ends-back : HasSameEnds (rows_of d) (without_rings b)
  ends-back = subst (λ (q : Map). HasSameEnds q (without_rings b)) (sym rows-after) (turned-ends (without_rings b) (after (without_rings b) e) (leaves-ends (without_rings b) e alone each))

  pub unmade-ends : {X Y : Type 0} (r : Result X Y) (m : Map) → OnOk r (m ≡ without_rings b) → OnErr r (m ≡ rows_of d) → HasSameEnds (rows_of d) m
  unmade-ends (Ok x) m back err = subst (HasSameEnds (rows_of d)) (sym back) ends-back
  unmade-ends (Err y) m back err = subst (HasSameEnds (rows_of d)) (sym err) (same (rows_of d))

  pub unmade-map : (m : Map) → m ≡ without_rings b → map_of (with_rows d m) ≡ b
  unmade-map m back =
      map-rows d fit m (subst (HasSameEnds (rows_of d)) (sym back) ends-back)
      ∙ ap (λ (q : Map). record q { boundaries = (map_of d).boundaries }) back
      ∙ ap (λ (bs : List Boundary). record b { boundaries = bs }) (ap (λ (q : Map). q.boundaries) was ∙ ap (λ (q : Map). q.boundaries) (after-beside b e alone))

-- The area of a face that an edit doesn't touch.
use Rattle.std.proofs.Common.{◌≡◌, ℕ, inl, inr, refl, sym, ap, subst, ◌∙◌, List, [], ◌∷◌, ◌++◌, Bool, true, false, true≢false, Option, is_some, ℤ}
use Rattle.std.proofs.lemmas.List.{map-append}
use Rattle.std.specs.Prelude.{IsTrue, flat_map, map}
use Rattle.std.specs.List.{AllByRecursion, Contains}
use Rattle.geo_exact.specs.Measure.{Measure, sum_over}
use Rattle.geo_exact.specs.Position.{Position}
use Rattle.cad_rows.specs.declared.edits.Edit.{Edit}
use Rattle.cad_rows.specs.declared.edits.Edit.TheVariants.{AddSource, AddPoint, DropPoint, Split, Join, Divide, Merge, Move, Attach, Detach, Rename, Enclose}
use Rattle.cad_rows.specs.declared.names.Face.{Face}
use Rattle.cad_rows.specs.declared.names.Face.TheVariants.{Outside, Parcel}
use Rattle.cad_rows.specs.declared.names.Item.{Item}
use Rattle.cad_rows.specs.declared.names.Item.TheVariants as item
use Rattle.cad_rows.specs.declared.rows.ParcelRow.{ParcelRow}
use Rattle.cad_rings.specs.Cycle.{Ring, Side, sides_of, placed}
use Rattle.cad_rings.proofs.CallerLemmas.{placed_same}
use Rattle.cad_map.specs.declared.boundary.Boundary.{Boundary}
use Rattle.cad_map.specs.Boundaries.{is_face}
use Rattle.cad_map.specs.Changes.{change_parcel, change_sources}
use Rattle.cad_map.specs.Effects.{after}
use Rattle.cad_map.specs.Map.{Map, point_of, string_of, parcel_of, has_face, has_parcel, position_of, rings_of, sum_of_face}
use Rattle.numbered_rows.specs.Rows.{row_with}
use Rattle.cad_map.specs.Touched.{Touched, IsTouched}
use Rattle.cad_map.specs.Valid.{HasSoundRows}
use Rattle.cad_map.proofs.CallerLemmas.{All-at_each, Contains-first, found-with_row, is_face-same, kept}
use Rattle.cad_laws.specs.Areas.{ended_by}
use Rattle.cad_laws.specs.Tried.{IsTried}
use Rattle.cad_laws.proofs.ChangedRows.{if-changed}
use Rattle.cad_laws.proofs.Elsewhere.{filter-none, same-pushed, same-without}

-- ---- Rings that stand

-- the sides of rings whose points lie where they lay are the same in the plane
pub placed-stand : (p q : ℕ → Position) (rings : List Ring)
    → AllByRecursion (λ ring. AllByRecursion (λ v. p v ≡ q v) ring) rings
    → placed p (flat_map sides_of rings) ≡ placed q (flat_map sides_of rings)
placed-stand p q [] stand = refl
placed-stand p q (ring ∷ rings) stand =
    map-append (λ (s : Side). (p s.0, p s.1)) (sides_of ring) (flat_map sides_of rings)
    ∙ (λ i. placed_same p q ring stand.0 i ++ placed-stand p q rings stand.1 i)
    ∙ sym (map-append (λ (s : Side). (q s.0, q s.1)) (sides_of ring) (flat_map sides_of rings))

-- a face that the map doesn't have has no ring
pub no-rings : (m : Map) → HasSoundRows m → (f : Face) → has_face m f ≡ false → rings_of m f ≡ []
no-rings m rows f none =
    ap (map (λ (b : Boundary). b.ring))
    (filter-none (λ (b : Boundary). is_face f b.face) m.boundaries other)
  where
    other : (b : Boundary) → Contains m.boundaries b → is_face f b.face ≡ false
    other b there = by (is_face f b.face) refl
      where
        by : (v : Bool) → is_face f b.face ≡ v → is_face f b.face ≡ false
        by false is = is
        by true is =
            let known =
            All-at_each (λ c. IsTrue (has_face m c.face)) m.boundaries b rows.faces_of_rings
            there in
            absurd (true≢false (sym known ∙ ap (has_face m) (sym (is_face-same f b.face is))
            ∙ none))

-- ---- Parcels that stand

module _ (m : Map) (n : ℕ) (there : IsTrue (has_parcel m n)) where
  -- the map has the parcel too
  abbrev Stays : Map → Type 0
  Stays new = IsTrue (has_parcel new n)

  -- a parcel that changes stays under its number
  stays-changed : (k : ℕ) (change : ParcelRow → ParcelRow) → Stays (change_parcel k change m)
  stays-changed k change =
      if-changed Stays m (parcel_of m k) _ there (λ r is.
      found-with_row (λ (q : ParcelRow). q.number) n (change r) m.parcels ∙ there)

  -- sources don't bring or take a parcel
  stays-sources : (i : Item) (change : List ℕ → List ℕ) → Stays (change_sources i change m)
  stays-sources (item.Point k) change = if-changed Stays m (point_of m k) _ there (λ r is. there)
  stays-sources (item.String k) change = if-changed Stays m (string_of m k) _ there (λ r is. there)
  stays-sources (item.Parcel k) change =
      stays-changed k (λ r. record r { sources = change r.sources })

  -- nor does a parcel that comes
  stays-pushed : (row : ParcelRow)
      → is_some (row_with (λ (r : ParcelRow). r.number) n (m.parcels ++ row ∷ [])) ≡ true
  stays-pushed row =
      ap (λ (o : Option ParcelRow). is_some o)
      (same-pushed (λ (r : ParcelRow). r.number) n m.parcels (row ∷ []) there) ∙ there

  -- only a merger takes a parcel, and that is the one it ends
  pub parcel-stays : (e : Edit) → ¬ Contains (ended_by e) (Parcel n) → Stays (after m e)
  unfolding after
  parcel-stays (AddSource s text) off = there
  parcel-stays (AddPoint p x y) off = there
  parcel-stays (DropPoint p) off = there
  parcel-stays (Split s p x y first second) off =
      if-changed Stays m (string_of m s) _ there (λ r is. there)
  parcel-stays (Join p s) off = there
  parcel-stays (Divide face chain strings parcel label source) off =
      stays-pushed (record { number = parcel; label = label; sources = source ∷ [] })
  parcel-stays (Merge kept Outside) off = there
  parcel-stays (Merge kept (Parcel k)) off =
      ap (λ (o : Option ParcelRow). is_some o)
      (same-without (λ (r : ParcelRow). r.number) n k m.parcels
      (λ same. off (is-ended same))) ∙ there
    where
      is-ended : n ≡ k → Contains (Parcel k ∷ []) (Parcel n)
      is-ended same = subst (λ (j : ℕ). Contains (Parcel k ∷ []) (Parcel j)) (sym same)
          (Contains-first (Parcel k) [])
  parcel-stays (Move p x y) off = if-changed Stays m (point_of m p) _ there (λ r is. there)
  parcel-stays (Attach i s) off = stays-sources i (λ sources. sources ++ s ∷ [])
  parcel-stays (Detach i s) off = stays-sources i _
  parcel-stays (Rename p label) off = stays-changed p (λ r. record r { label = label })
  parcel-stays (Enclose face points strings parcel label source) off =
      stays-pushed (record { number = parcel; label = label; sources = source ∷ [] })

-- a face that was there is there after an edit, unless the edit ends it
pub face-stays : (m : Map) (e : Edit) (f : Face) → ¬ Contains (ended_by e) f
    → IsTrue (has_face m f) → IsTrue (has_face (after m e) f)
face-stays m e Outside off there = refl
face-stays m e (Parcel n) off there = parcel-stays m n there e off

-- ---- Areas that stand

-- what is added up over the rings of a face
abbrev sum_at : Measure → Map → List Ring → ℤ
sum_at g m rings = sum_over g (placed (position_of m) (flat_map sides_of rings))

-- A face that an edit doesn't touch keeps its sums, and so does one that neither map has.
pub sums-stand : (g : Measure) (m : Map) (e : Edit) (t : Touched) (f : Face) → IsTried m e
    → IsTouched m (after m e) t → ¬ Contains t.faces f → ¬ Contains (ended_by e) f
    → sum_of_face g (after m e) f ≡ sum_of_face g m f
sums-stand g m e t f tried touched off stays = by (has_face (after m e) f) refl
  where
    was : has_face (after m e) f ≡ false → (v : Bool) → has_face m f ≡ v → has_face m f ≡ false
    was none false is = is
    was none true is = absurd (true≢false (sym (face-stays m e f stays is) ∙ none))

    by : (v : Bool) → has_face (after m e) f ≡ v
        → sum_of_face g (after m e) f ≡ sum_of_face g m f
    by true known = elim (touched.faces f known) [
      | inl named ↦ absurd (off named)
      | inr stood ↦
          ap (sum_at g (after m e)) stood.rings
          ∙ ap (sum_over g)
          (placed-stand (position_of (after m e)) (position_of m) (rings_of m f) stood.positions)
    ]
    by false none =
        ap (sum_at g (after m e))
        (no-rings (after m e) (kept m e tried.valid tried.given tried.allowed).v1 f none)
        ∙ sym (ap (sum_at g m)
        (no-rings m tried.valid.sound.v1 f (was none (has_face m f) refl)))

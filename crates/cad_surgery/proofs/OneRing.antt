-- A parcel of one ring has no hole: the ring is its outline, and no half is kept that passes over.
use Rattle.std.proofs.Common.{◌≡◌, ℕ, ◌&&◌, Bool, true, false, refl, sym, ap, subst, ◌∙◌, List, [], ◌∷◌, filter, length, nat_eq, Option, Some, None, ℤ, pos, arith}
use Rattle.std.specs.Prelude.{◌||◌, int_lt, count_by, is_some, slice_index_or}
use Rattle.std.specs.List.{list_all}
use Rattle.std.proofs.lemmas.Bool.{eqb-true}
use Rattle.std.proofs.lemmas.Int.{ints}
use Rattle.std.proofs.lemmas.List.{take_all}
use Rattle.cad_rows.specs.declared.names.Face.TheVariants.{Outside, Parcel}
use Rattle.cad_rows.specs.declared.rows.ParcelRow.{ParcelRow}
use Rattle.geo_exact.specs.Measure.{doubled_area}
use Rattle.cad_rings.specs.Cycle.{Ring, anchor_of}
use Rattle.cad_map.specs.Map.{Map, has_parcel, parcel_of, sum_of_ring, is_positive, is_negative, is_in_ring, rings_at, rings_of}
use Rattle.cad_map.specs.Rings.{ring_at}
use Rattle.cad_map.specs.Valid.{IsValid, has_outlines}
use Rattle.cad_map.proofs.CallerLemmas.{count-no, find-Contains, list_all-at, whole_valid}
use Rattle.cad_valid.proofs.CallerLemmas.{outlines-canonical_order}
use Rattle.half_table.specs.declared.half.Half.{Half}
use Rattle.map_parts.specs.Handing.{home_of}
use Rattle.map_parts.specs.Parts.{Parts, FitTogether, map_of, kept_at, rings_kept}
use Rattle.map_parts.specs.Placed.{is_hole_in, moves_in}
use Rattle.cad_surgery.proofs.MovedHalves.{as-many, at-place, next-stays}

and_both : (a b : Bool) → (a && b) ≡ true → (a ≡ true) × (b ≡ true)
and_both true true h = (h, h)
and_both true false h = cc
and_both false b h = cc

not_both : (z : ℤ) → int_lt (pos 0) z ≡ true → int_lt z (pos 0) ≡ true → ⊥
not_both z h k = grind (arith, ints)

-- a positive ring is no hole
no-hole : (m : Map) (r : Ring) → is_positive m r ≡ true → is_negative m r ≡ false
no-hole m r positive = by (is_negative m r) refl
  where
    by : (t : Bool) → is_negative m r ≡ t → t ≡ false
    by true is = absurd (not_both (sum_of_ring doubled_area m r) positive is)
    by false is = refl

-- the one ring of a face with an outline is the outline
alone : (m : Map) (rings : List Ring) → length rings ≡ 1 → has_outlines 1 m rings ≡ true → is_positive m (slice_index_or rings 0 []) ≡ true
alone m [] one h = absurd (omega (arith, one))
alone m (r ∷ s ∷ rings) one h = absurd (omega (arith, one))
alone m (r ∷ []) one h = by (is_positive m r) refl
  where
    count : count_by (is_positive m) (r ∷ []) ≡ 1
    count = eqb-true (count_by (is_positive m) (r ∷ [])) 1 (and_both (nat_eq (count_by (is_positive m) (r ∷ [])) 1) (list_all (λ s. is_positive m s || is_negative m s) (r ∷ [])) h).0

    by : (t : Bool) → is_positive m r ≡ t → t ≡ true
    by true is = refl
    by false is =
        let none : count_by (is_positive m) (r ∷ []) ≡ 0 = count-no (is_positive m) r [] is in
        absurd (omega (arith, none, count))

-- a parcel of a valid map has an outline
outlined : (m : Map) → IsValid m → (n : ℕ) (o : Option ParcelRow) → parcel_of m n ≡ o → is_some o ≡ true → has_outlines 1 m (rings_of m (Parcel n)) ≡ true
outlined m valid n None at known = cc
outlined m valid n (Some row) at known =
    let all = (and_both (has_outlines 0 m (rings_of m Outside)) (list_all (λ (p : ParcelRow). has_outlines 1 m (rings_of m (Parcel p.number))) m.parcels) valid.keeps.v7).1 in
    let found = find-Contains (λ (r : ParcelRow). nat_eq r.number n) m.parcels row at in
    subst (λ (k : ℕ). has_outlines 1 m (rings_of m (Parcel k)) ≡ true) (eqb-true row.number n found.1)
    (list_all-at (λ (p : ParcelRow). has_outlines 1 m (rings_of m (Parcel p.number))) m.parcels row all found.0)

module _ (d : Parts) (fit : FitTogether d) (valid : IsValid (map_of d)) (n : ℕ) (one : length (kept_at d (Parcel n)) ≡ 1) where
  abbrev m : Map
  m = map_of d

  rings : length (rings_at (Parcel n) (rings_kept d)) ≡ 1
  rings = as-many d fit (whole_valid m valid) (Parcel n) ∙ one

  -- for what is no parcel no half is kept
  known : has_parcel m n ≡ true
  known = by (has_parcel m n) refl
    where
      by : (t : Bool) → has_parcel m n ≡ t → t ≡ true
      by true is = refl
      by false is =
          let none = ap (λ (l : List Half). length l) (fit.no_face (Parcel n) is) in
          absurd (omega (arith, none, one))

  outline : is_positive m (ring_at (rings_kept d) (Parcel n) 0) ≡ true
  outline = alone m (rings_at (Parcel n) (rings_kept d)) rings
      (outlines-canonical_order m (Parcel n) (rings_kept d) refl 1 ∙ outlined m valid n (parcel_of m n) refl known)

  -- the ring doesn't pass over with any other
  pub none-passes : (ring : Ring) → filter (λ h. moves_in m (Parcel n) ring (home_of m d.table.rows h)) (kept_at d (Parcel n)) ≡ []
  none-passes ring =
      let there = at-place (kept_at d (Parcel n)) 0 (omega (arith, one)) in
      let kept = ring_at (rings_kept d) (Parcel n) 0 in
      let stays : is_hole_in m ring kept ≡ false = ap (λ (t : Bool). t && is_in_ring m ring (anchor_of kept)) (no-hole m kept outline) in
      ap (filter (λ h. moves_in m (Parcel n) ring (home_of m d.table.rows h))) (sym (take_all 1 (kept_at d (Parcel n)) (omega (arith, one))))
      ∙ next-stays d fit (whole_valid m valid) (Parcel n) ring 0 there.0 there.1 false (sym stays) refl

-- Parts whose rows change beside halves that stay: they fit together as before, with the same rings.
use Rattle.std.proofs.Common.{◌≡◌, ◌≢◌, ℕ, List, [], ◌∷◌, map, refl, sym, ap, ◌∙◌, subst}
use Rattle.std.specs.Prelude.{IsPermutation, flat_map, ◌==◌}
use Rattle.std.specs.List.{AllByRecursion, Contains, list_any}
use Rattle.std.proofs.lemmas.List.Folds.{flat_map-map}
use Rattle.cad_rows.specs.declared.names.Face.{Face}
use Rattle.cad_rows.specs.declared.names.Face.TheVariants.{Outside, Parcel}
use Rattle.cad_rows.specs.declared.rows.ParcelRow.{ParcelRow}
use Rattle.cad_rows.specs.declared.rows.StringRow.{StringRow}
use Rattle.cad_map.specs.declared.boundary.Boundary.{Boundary}
use Rattle.cad_map.specs.Boundaries.{canonical_order}
use Rattle.cad_map.specs.Map.{Map, faces, has_face, has_string, has_parcel, rings_at}
use Rattle.cad_map.specs.Valid.{EachPair}
use Rattle.cad_map.proofs.CallerLemmas.{All-map, All-follows, All-at_each}
use Rattle.half_table.specs.declared.half.Half.{Half}
use Rattle.half_table.specs.Rows.{HalfRows, next}
use Rattle.key_lists.specs.Held.{items_at}
use Rattle.cad_laws.specs.Local.{IsShown}
use Rattle.map_parts.specs.KeptRings.{kept_ring}
use Rattle.map_parts.specs.Parts.{Parts, FitTogether, HasHalves, IsOnKeptCycle, rows_of, map_of, in_face, kept_at, kept_halves}
use Rattle.cad_surgery.specs.Proper.{IsProper, cycle_ring}
use Rattle.cad_surgery.specs.RowEdits.{HasSameEnds, ends_of, with_rows}
use Rattle.map_parts.specs.Stars.{spokes_of}
use Rattle.map_parts.specs.declared.stars.Spoke.{Spoke}
use Rattle.map_parts.proofs.CycleRings.{map-map}
use Rattle.numbered_rows.proofs.ByNumbers.{some-by_numbers}

-- a fact of what a list is mapped to
All-unmap : {X Y : Type 0} (P : X → Type 0) (f : Y → X) (ys : List Y) → AllByRecursion P (map f ys) → AllByRecursion (λ y. P (f y)) ys
All-unmap P f [] all = tt
All-unmap P f (y ∷ ys) all = (all.0, All-unmap P f ys all.1)

module _ {X Y : Type 0} (f : X → Y) (old new : List X) (same : map f new ≡ map f old) where
  -- what is read of it alone
  read : {Z : Type 0} (g : Y → Z) → map (λ x. g (f x)) new ≡ map (λ x. g (f x)) old
  read g = sym (map-map g f new) ∙ ap (map g) same ∙ map-map g f old

  all : (P : Y → Type 0) → AllByRecursion (λ x. P (f x)) old → AllByRecursion (λ x. P (f x)) new
  all P h = All-unmap P f new (subst (AllByRecursion P) (sym same) (All-map P f old h))

  flat : {Z : Type 0} (g : Y → List Z) → flat_map (λ x. g (f x)) new ≡ flat_map (λ x. g (f x)) old
  flat g = sym (flat_map-map g f new) ∙ ap (flat_map g) same ∙ flat_map-map g f old

-- a string without its sources
abbrev bare : ℕ × ℕ × ℕ → StringRow
bare e = record { number = e.0; from = e.1; to = e.2; sources = [] }

bare-halves : (rows : HalfRows) (s : StringRow) → HasHalves rows s → HasHalves rows (bare (ends_of s))
bare-halves rows s h = record { there = h.there; back = h.back; from = h.from; to = h.to }

halves-bare : (rows : HalfRows) (s : StringRow) → HasHalves rows (bare (ends_of s)) → HasHalves rows s
halves-bare rows s h = record { there = h.there; back = h.back; from = h.from; to = h.to }

module _ (d : Parts) (m : Map) (same : HasSameEnds (rows_of d) m) where
  abbrev new : Parts
  new = with_rows d m

  string-numbers : map (λ s. s.number) m.strings ≡ map (λ s. s.number) d.strings
  string-numbers = read ends_of d.strings m.strings same.strings (λ e. e.0)

  known-string : (n : ℕ) → has_string m n ≡ has_string (rows_of d) n
  known-string n =
      some-by_numbers (λ (s : StringRow). s.number) n m.strings ∙ ap (list_any (λ k. k == n)) string-numbers
      ∙ sym (some-by_numbers (λ (s : StringRow). s.number) n d.strings)

  known-parcel : (n : ℕ) → has_parcel m n ≡ has_parcel (rows_of d) n
  known-parcel n =
      some-by_numbers (λ (p : ParcelRow). p.number) n m.parcels ∙ ap (list_any (λ k. k == n)) same.parcels
      ∙ sym (some-by_numbers (λ (p : ParcelRow). p.number) n d.parcels)

  known-face : (f : Face) → has_face m f ≡ has_face (rows_of d) f
  known-face Outside = refl
  known-face (Parcel n) = known-parcel n

  same-faces : faces m ≡ faces (rows_of d)
  same-faces = ap (λ (l : List Face). Outside ∷ l) (read (λ (p : ParcelRow). p.number) d.parcels m.parcels same.parcels (λ n. Parcel n))

  same-kept : kept_halves new ≡ kept_halves d
  same-kept = ap (flat_map (in_face d)) same-faces

  -- the rings stay
  pub same-rings : (map_of new).boundaries ≡ (map_of d).boundaries
  same-rings = ap (λ (ks : List (Face × Half)). canonical_order (map (kept_ring d.table.rows) ks)) same-kept

  module _ (fit : FitTogether d) where
    to-old : (h : Half) → IsShown (rows_of new) h → IsShown (rows_of d) h
    to-old h shown = sym (known-string h.string) ∙ shown

    to-new : (h : Half) → IsShown (rows_of d) h → IsShown (rows_of new) h
    to-new h shown = known-string h.string ∙ shown

    was-kept : (k : Face × Half) → Contains (kept_halves new) k → Contains (kept_halves d) k
    was-kept k there = subst (λ (ks : List (Face × Half)). Contains ks k) same-kept there

    on-cycle : (h : Half) → IsOnKeptCycle d h → IsOnKeptCycle new h
    on-cycle h home = record {
      kept = home.kept;
      there = subst (λ (ks : List (Face × Half)). Contains ks home.kept) (sym same-kept) home.there;
      on = home.on;
    }

    begin : AllByRecursion (HasHalves d.table.rows) m.strings
    begin =
        All-follows (λ (s : StringRow). HasHalves d.table.rows (bare (ends_of s))) (HasHalves d.table.rows)
        (halves-bare d.table.rows) m.strings
        (all ends_of d.strings m.strings same.strings (λ e. HasHalves d.table.rows (bare e))
        (All-follows (HasHalves d.table.rows) (λ (s : StringRow). HasHalves d.table.rows (bare (ends_of s)))
        (bare-halves d.table.rows) d.strings fit.ends))

    -- they fit together
    pub rows-fit : FitTogether new
    rows-fit = record {
      linked = fit.linked;
      numbers = subst (EachPair (λ a b. a ≢ b)) (sym string-numbers) fit.numbers;
      parcel_numbers = subst (EachPair (λ a b. a ≢ b)) (sym same.parcels) fit.parcel_numbers;
      two_ends = all ends_of d.strings m.strings same.strings (λ e. e.1 ≢ e.2) fit.two_ends;
      ends = begin;
      inside = λ h shown. to-new (next d.table.rows h) (fit.inside h (to-old h shown));
      meets = λ h shown. fit.meets h (to-old h shown);
      shown = λ k kept. to-new k.1 (fit.shown k (was-kept k kept));
      faces = λ k kept. fit.faces k (was-kept k kept);
      homes = λ h shown. on-cycle h (fit.homes h (to-old h shown));
      no_face = λ f none. fit.no_face f (sym (known-face f) ∙ none);
      stars = λ p.
          subst (λ (l : List Spoke). IsPermutation l (items_at d.stars p))
          (sym (flat ends_of d.strings m.strings same.strings (λ e. spokes_of p (bare e)))) (fit.stars p);
    }

    -- and what was proper is
    pub rows-proper : IsProper (map_of d) d.table.rows (kept_at d) → IsProper (map_of new) d.table.rows (kept_at d)
    rows-proper proper = record {
      halves = λ h. proper.halves h ∙ sym (known-string h.string);
      prev_next = proper.prev_next;
      next_prev = proper.next_prev;
      ends = λ s there. let e = All-at_each (HasHalves d.table.rows) m.strings s begin there in (e.from, e.to);
      meets = proper.meets;
      one_face = proper.one_face;
      in_face = proper.in_face;
      one_kept = proper.one_kept;
      rings = λ f. subst (λ (bs : List Boundary). IsPermutation (map (cycle_ring d.table.rows) (kept_at d f)) (rings_at f bs)) (sym same-rings) (proper.rings f);
    }

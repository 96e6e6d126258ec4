-- Parts that stand for a map, half by half.
use Rattle.std.proofs.Common.{◌≡◌, ◌≢◌, ◌+◌, ◌≤◌, Bool, true, false, List, [], ◌∷◌, map, refl, sym, ap, ◌∙◌, subst, arith, inl, inr, cond}
use Rattle.std.specs.Prelude.{IsPermutation, flat_map, count_by}
use Rattle.std.specs.List.{AllByRecursion, Contains}
use Rattle.std.proofs.lemmas.List.Sums.{sum_by-append}
use Rattle.std.proofs.lemmas.List.Sorted.{Contains-permutation}
use Rattle.cad_rows.specs.declared.names.Face.{Face}
use Rattle.cad_rows.specs.declared.rows.StringRow.{StringRow}
use Rattle.cad_rings.specs.Cycle.{Side, is_side, sides_of, opposite}
use Rattle.cad_rings.specs.Canonical.{least_rotation}
use Rattle.cad_rings.proofs.CallerLemmas.{sides_of-least_rotation}
use Rattle.cad_map.specs.declared.boundary.Boundary.{Boundary}
use Rattle.cad_map.specs.Boundaries.{bounding, canonical_order, canonical_form}
use Rattle.cad_map.specs.Map.{side_of, string_sides}
use Rattle.cad_map.specs.Valid.{HasTwoEnds}
use Rattle.cad_map.proofs.CallerLemmas.{Contains-cases, Contains-first, Contains-later, Contains-map, Contains-flat_map, All-at_each, All-from_each, count-some, IsPermutation-canonical_order, is_side-refl, once-from_pairs}
use Rattle.half_table.specs.declared.half.Half.{Half}
use Rattle.half_table.specs.Half.{half_of}
use Rattle.half_table.specs.Rows.{HalfRows, origin_of, face, cycle}
use Rattle.cad_laws.specs.Local.{IsShown, side_by}
use Rattle.map_parts.specs.KeptRings.{kept_ring, IsKept}
use Rattle.map_parts.specs.Parts.{Parts, FitTogether, HasHalves, rows_of, map_of, kept_halves, rings_kept}
use Rattle.map_parts.specs.Fits.{FitRings, HasSidesOnce}
use Rattle.map_parts.proofs.PartsRings.{found-row, in_table, half-side, half-corner, side-there, ring-kept}

-- where a side stands once among the parts, one part alone has it
pub one_part : {X : Type 0} (f : X → List Side) (s : Side) (xs : List X) (x y : X) → count_by (is_side s) (flat_map f xs) ≤ 1 → Contains xs x → Contains xs y → Contains (f x) s → Contains (f y) s → x ≡ y
one_part f s [] x y once h k has too = let low = h.1 in absurd (omega arith)
one_part f s (z ∷ zs) x y once h k has too =
    elim (Contains-cases z zs x h) [
      | inl here ↦ elim (Contains-cases z zs y k) [
        | inl same ↦ sym here ∙ same
        | inr later ↦ absurd (twice x y here later has too)
      ]
      | inr later ↦ elim (Contains-cases z zs y k) [
        | inl here ↦ absurd (twice y x here later too has)
        | inr too_late ↦ one_part f s zs x y (omega (arith, split, once)) later too_late has too
      ]
    ]
  where
    split : count_by (is_side s) (flat_map f (z ∷ zs)) ≡ count_by (is_side s) (f z) + count_by (is_side s) (flat_map f zs)
    split = sum_by-append (λ (t : Side). cond (is_side s t) 1 0) (f z) (flat_map f zs)

    twice : (a b : _) → z ≡ a → Contains zs b → Contains (f a) s → Contains (f b) s → ⊥
    twice a b here later has too =
        let first = count-some (is_side s) (f z) s (subst (λ c. Contains (f c) s) (sym here) has) (is_side-refl s) in
        let second = count-some (is_side s) (flat_map f zs) s (Contains-flat_map f zs b s later too) (is_side-refl s) in
        omega (arith, first, second, split, once)

module _ (d : Parts) (ends : AllByRecursion (HasHalves d.table.rows) d.strings) (two_ends : HasTwoEnds (rows_of d)) (once : HasSidesOnce d) where
  -- the side of a string's half
  pub side-half_of : (s : StringRow) → Contains d.strings s → (f : Bool) → Contains (side_of s ∷ opposite (side_of s) ∷ []) (side_by d.table.rows (half_of s.number f))
  side-half_of s there true =
      let e = All-at_each (HasHalves d.table.rows) d.strings s ends there in
      subst (Contains (side_of s ∷ opposite (side_of s) ∷ [])) (sym (λ i. (e.from i, e.to i))) (Contains-first (side_of s) (opposite (side_of s) ∷ []))
  side-half_of s there false =
      let e = All-at_each (HasHalves d.table.rows) d.strings s ends there in
      subst (Contains (side_of s ∷ opposite (side_of s) ∷ [])) (sym (λ i. (e.to i, e.from i))) (Contains-later (side_of s) (opposite (side_of s) ∷ []) (opposite (side_of s)) (Contains-first (opposite (side_of s)) []))

  one-way : (s : StringRow) → Contains d.strings s → (f g : Bool) → side_by d.table.rows (half_of s.number f) ≡ side_by d.table.rows (half_of s.number g) → f ≡ g
  one-way s there true true same = refl
  one-way s there false false same = refl
  one-way s there true false same =
      let e = All-at_each (HasHalves d.table.rows) d.strings s ends there in
      absurd (All-at_each (λ (s : StringRow). s.from ≢ s.to) d.strings s two_ends there (sym e.from ∙ ap (λ (t : Side). t.0) same ∙ e.to))
  one-way s there false true same =
      let e = All-at_each (HasHalves d.table.rows) d.strings s ends there in
      absurd (All-at_each (λ (s : StringRow). s.from ≢ s.to) d.strings s two_ends there (sym e.from ∙ ap (λ (t : Side). t.0) (sym same) ∙ e.to))

  pub halves-apart : (g h : Half) → IsShown (rows_of d) g → IsShown (rows_of d) h → side_by d.table.rows g ≡ side_by d.table.rows h → g ≡ h
  halves-apart g h shown_g shown_h same =
      let s = found-row d.strings g.string shown_g in
      let t = found-row d.strings h.string shown_h in
      let g_is : half_of s.0.number g.forward ≡ g = λ i. half_of (s.2 i) g.forward in
      let h_is : half_of t.0.number h.forward ≡ h = λ i. half_of (t.2 i) h.forward in
      let on : side_by d.table.rows (half_of s.0.number g.forward) ≡ side_by d.table.rows (half_of t.0.number h.forward) = ap (side_by d.table.rows) g_is ∙ same ∙ sym (ap (side_by d.table.rows) h_is) in
      let x : Side = side_by d.table.rows (half_of s.0.number g.forward) in
      let row : s.0 ≡ t.0 = one_part (λ (r : StringRow). side_of r ∷ opposite (side_of r) ∷ []) x d.strings s.0 t.0 (once-from_pairs (string_sides (rows_of d)) once x) s.1 t.1 (side-half_of s.0 s.1 g.forward)
      (subst (Contains (side_of t.0 ∷ opposite (side_of t.0) ∷ [])) (sym on) (side-half_of t.0 t.1 h.forward)) in
      let way : g.forward ≡ h.forward = one-way s.0 s.1 g.forward h.forward (on ∙ ap (λ (r : StringRow). side_by d.table.rows (half_of r.number h.forward)) (sym row)) in
      sym g_is ∙ (λ i. half_of (row i).number (way i)) ∙ h_is

module _ (d : Parts) (is : FitTogether d) (once : HasSidesOnce d) where
  abbrev rows : HalfRows
  rows = d.table.rows

  face-kept : (k : Face × Half) → Contains (kept_halves d) k → face rows k.1 ≡ k.0
  face-kept k kept = is.faces k kept k.1 (Contains-first k.1 _)

  home-is : (k : Face × Half) → Contains (kept_halves d) k → canonical_form (bounding (face rows k.1) (map (origin_of rows) (cycle rows k.1))) ≡ canonical_form (kept_ring rows k)
  home-is k kept = ap (λ (f : Face). canonical_form (bounding f (map (origin_of rows) (cycle rows k.1)))) (face-kept k kept)

  abbrev homes : Half → Boundary
  homes h = canonical_form (bounding (face rows h) (map (origin_of rows) (cycle rows h)))

  each-kept : (k : Face × Half) → Contains (kept_halves d) k → IsKept (map_of d) rows homes k
  each-kept k kept = record {
    is_shown = is.shown k kept;
    there = subst (Contains (canonical_order (rings_kept d))) (sym (home-is k kept)) (Contains-permutation (map canonical_form (rings_kept d)) (canonical_order (rings_kept d)) (canonical_form (kept_ring rows k)) (IsPermutation-canonical_order (rings_kept d)) (Contains-map canonical_form (rings_kept d) (kept_ring rows k) (ring-kept d is k kept)));
    has = Contains-permutation (sides_of (map (origin_of rows) (cycle rows k.1))) (sides_of (least_rotation (map (origin_of rows) (cycle rows k.1)))) (side_by rows k.1) (sides_of-least_rotation (map (origin_of rows) (cycle rows k.1))) (side-there d is k kept k.1 (Contains-first k.1 _));
    face = face-kept k kept;
  }

  all-homes : (ks : List (Face × Half)) → ((k : Face × Half) → Contains ks k → Contains (kept_halves d) k) → map (λ (k : Face × Half). homes k.1) ks ≡ map canonical_form (map (kept_ring rows) ks)
  all-homes [] sub = refl
  all-homes (k ∷ ks) sub = λ i. home-is k (sub k (Contains-first k ks)) i ∷ all-homes ks (λ j h. sub j (Contains-later k ks j h)) i

  pub fits : FitRings d (map_of d).boundaries
  fits = record {
    local = record {
      linked = is.linked;
      there = in_table d is;
      inside = is.inside;
      meets = is.meets;
      corners = half-corner d is;
      apart = halves-apart d is.ends is.two_ends once;
    };
    ends = is.ends;
    faces = half-side d is;
    kept = record {
      homes = homes;
      each = All-from_each (IsKept (map_of d) rows homes) (kept_halves d) each-kept;
      all = subst (λ (l : List Boundary). IsPermutation l (canonical_order (rings_kept d))) (sym (all-homes (kept_halves d) (λ k h. h))) (IsPermutation-canonical_order (rings_kept d));
    };
    no_face = is.no_face;
    stars = is.stars;
  }

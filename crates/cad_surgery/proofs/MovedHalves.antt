-- The halves that are kept of the holes that pass to a new face.
use Rattle.std.proofs.Common.{◌≡◌, ◌≢◌, ◌⊎◌, inl, inr, ℕ, zero, suc, ◌+◌, ◌<◌, ◌&&◌, Bool, true, false, refl, sym, ap, subst, ◌∙◌, List, [], ◌∷◌, ◌++◌, map, filter, take, length, Option, Some, slice_get, cond, arith}
use Rattle.std.specs.Prelude.{option_map, int_lt, pos, flat_map, count_by, slice_index_or, IsPermutation}
use Rattle.std.specs.List.{AllByRecursion, Contains}
use Rattle.std.proofs.lemmas.List.{append-nil, length-map, map-append}
use Rattle.std.proofs.lemmas.List.Elements.{filter-append}
use Rattle.std.proofs.lemmas.List.Sorted.{sum_by-IsPermutation}
use Rattle.std.proofs.lemmas.Option.{slice_get-map, get_or_from_slice_get}
use Rattle.cad_rows.specs.declared.names.Face.{Face}
use Rattle.cad_rings.specs.Cycle.{Ring, anchor_of, IsSameRing}
use Rattle.cad_rings.proofs.CallerLemmas.{anchor_of-same, ring_sum-same_ring}
use Rattle.geo_exact.specs.Measure.{doubled_area}
use Rattle.cad_map.specs.declared.boundary.Boundary.{Boundary}
use Rattle.cad_map.specs.Boundaries.{is_face}
use Rattle.cad_map.specs.Map.{Map, faces, has_face, is_negative, is_in_ring, position_of, rings_at}
use Rattle.cad_map.specs.Rings.{HasWholeRings, ring_at}
use Rattle.cad_map.specs.Valid.{EachPair}
use Rattle.cad_map.proofs.CallerLemmas.{All-from_each, Contains-at, Contains-cases, Contains-first, Contains-later, count-no, count-yes, filter-Contains, is_face-refl, is_face-same, take-more}
use Rattle.half_table.specs.declared.half.Half.{Half}
use Rattle.half_table.specs.Rows.{HalfRows, origin_of, cycle}
use Rattle.map_parts.specs.Fits.{FitRings}
use Rattle.map_parts.specs.Handing.{home_of, halves_kept, KeepsEach}
use Rattle.map_parts.specs.Labels.{IsOnRing}
use Rattle.map_parts.specs.Parts.{Parts, FitTogether, map_of, rows_of, kept_at, rings_kept}
use Rattle.map_parts.specs.Placed.{is_hole_in, moves_in, AreOfHoles}
use Rattle.map_parts.proofs.KeptEach.{boundary-same, boundary-self, cases_face, faces-once, is_boundary, to-each, home-is}
use Rattle.map_parts.proofs.KeptHalves.{face-known}
use Rattle.cad_surgery.proofs.PartsFaces.{rings-face}
use Rattle.map_parts.proofs.Permuted.{from-often}
use Rattle.map_parts.proofs.RingsOfHalves.{cycle-same_ring}
use Rattle.map_parts.proofs.ToHalves.{fits}
use Rattle.map_parts.proofs.WholeStrings.{strings-once}

-- ---- Lists without what doesn't pass a test

count-passing : {X : Type 0} (t p : X → Bool) (xs : List X) → count_by t (filter p xs) ≡ count_by (λ x. t x && p x) xs
count-passing t p [] = refl
count-passing {X} t p (x ∷ xs) = by (p x) (t x) refl refl (count-passing t p xs)
  where
    both : X → Bool
    both x = t x && p x

    by : (b c : Bool) → p x ≡ b → t x ≡ c → count_by t (filter p xs) ≡ count_by both xs → count_by t (filter p (x ∷ xs)) ≡ count_by both (x ∷ xs)
    by true true passes is rest =
        let here = ap (λ (k : Bool). count_by t (cond k (x ∷ filter p xs) (filter p xs))) passes in
        let one = count-yes t x (filter p xs) is in
        let two = count-yes both x xs (λ i. is i && passes i) in
        omega (arith, here, one, two, rest)
    by true false passes is rest =
        let here = ap (λ (k : Bool). count_by t (cond k (x ∷ filter p xs) (filter p xs))) passes in
        let one = count-no t x (filter p xs) is in
        let two = count-no both x xs (λ i. is i && passes i) in
        omega (arith, here, one, two, rest)
    by false true passes is rest =
        let here = ap (λ (k : Bool). count_by t (cond k (x ∷ filter p xs) (filter p xs))) passes in
        let two = count-no both x xs (λ i. is i && passes i) in
        omega (arith, here, two, rest)
    by false false passes is rest =
        let here = ap (λ (k : Bool). count_by t (cond k (x ∷ filter p xs) (filter p xs))) passes in
        let two = count-no both x xs (λ i. is i && passes i) in
        omega (arith, here, two, rest)

-- the rings that pass of rings in another order
pub filter-permuted : (p : Boundary → Bool) (xs ys : List Boundary) → IsPermutation xs ys → IsPermutation (filter p xs) (filter p ys)
filter-permuted p xs ys h =
    from-often is_boundary boundary-same boundary-self (filter p xs) (filter p ys) (λ b.
    count-passing (is_boundary b) p xs ∙ sym (sum_by-IsPermutation (λ c. cond (is_boundary b c && p c) 1 0) xs ys h) ∙ sym (count-passing (is_boundary b) p ys))

pub filter-of_map : {X Y : Type 0} (p : Y → Bool) (g : X → Y) (xs : List X) → filter p (map g xs) ≡ map g (filter (λ x. p (g x)) xs)
filter-of_map p g [] = refl
filter-of_map p g (x ∷ xs) = by (p (g x)) refl (filter-of_map p g xs)
  where
    by : (t : Bool) → p (g x) ≡ t → filter p (map g xs) ≡ map g (filter (λ x. p (g x)) xs) → filter p (map g (x ∷ xs)) ≡ map g (filter (λ x. p (g x)) (x ∷ xs))
    by true is rest = rw is (ap (λ l. g x ∷ l) rest)
    by false is rest = rw is rest

none-pass : {X : Type 0} (p : X → Bool) (xs : List X) → ((x : X) → Contains xs x → p x ≡ false) → filter p xs ≡ []
none-pass p [] none = refl
none-pass p (x ∷ xs) none =
    ap (λ (k : Bool). cond k (x ∷ filter p xs) (filter p xs)) (none x (Contains-first x xs))
    ∙ none-pass p xs (λ y there. none y (Contains-later x xs y there))

-- one more that passes, or doesn't
pub passing-push : {X : Type 0} (p : X → Bool) (xs : List X) (i : ℕ) (x : X) → slice_get xs i ≡ Some x
    → filter p (take (i + 1) xs) ≡ filter p (take i xs) ++ cond (p x) (x ∷ []) []
passing-push p xs i x at = ap (filter p) (sym (take-more xs i x at)) ∙ filter-append p (take i xs) (x ∷ [])

-- what stands at a place of a list
pub at-place : {X : Type 0} (xs : List X) (i : ℕ) → i < length xs → (x : X) × (slice_get xs i ≡ Some x)
at-place [] i low = absurd (omega (arith, low))
at-place (x ∷ xs) zero low = (x, refl)
at-place (x ∷ xs) (suc i) low = at-place xs i (omega (arith, low))

-- what is told of the elements before a place, and of the one there
pub told-push : {X Y : Type 0} (f : X → Y) (xs : List X) (i : ℕ) (d : X) → i < length xs
    → map f (take i xs) ++ f (slice_index_or xs i d) ∷ [] ≡ map f (take (i + 1) xs)
told-push f xs i d low =
    let there = at-place xs i low in
    ap (λ x. map f (take i xs) ++ f x ∷ []) (get_or_from_slice_get xs i there.0 d there.1)
    ∙ sym (map-append f (take i xs) (there.0 ∷ [])) ∙ ap (map f) (take-more xs i there.0 there.1)

-- ---- Halves that are kept

module _ (d : Parts) (fit : FitTogether d) (whole : HasWholeRings (map_of d)) where
  abbrev m : Map
  m = map_of d

  abbrev rows : HalfRows
  rows = d.table.rows

  rings : FitRings d m.boundaries
  rings = fits d fit (strings-once m whole)

  keeps : KeepsEach m rows d.kept
  keeps = to-each d m.boundaries whole rings

  -- the ring of a half that is kept, and that half's home
  pub kept-home : (f : Face) (h : Half) → Contains (kept_at d f) h
      → ((home_of m rows h).face ≡ f) × IsSameRing (home_of m rows h).ring (map (origin_of rows) (cycle rows h))
  kept-home f h among =
      let at = keeps.on f h among in
      let home = home-is m whole rows at.0 at.1 h at.2 in (
        ap (λ (b : Boundary). b.face) home ∙ at.3,
        subst (λ (b : Boundary). IsSameRing b.ring (map (origin_of rows) (cycle rows h))) (sym home)
            (cycle-same_ring m rows whole rings.local h at.2.shown at.0 at.1 at.2.side),
      )

  -- what is seen of the ring at a place is so of the half's home
  pub kept-test : (f : Face) (ring : Ring) (place : ℕ) (h : Half) → slice_get (kept_at d f) place ≡ Some h
      → is_hole_in m ring (ring_at (rings_kept d) f place) ≡ moves_in m f ring (home_of m rows h)
  kept-test f ring place h at =
      let home = kept-home f h (Contains-at (kept_at d f) place h at) in
      let told : ring_at (rings_kept d) f place ≡ map (origin_of rows) (cycle rows h) =
      get_or_from_slice_get (rings_at f (rings_kept d)) place (map (origin_of rows) (cycle rows h)) []
      (ap (λ (l : List Ring). slice_get l place) (rings-face d fit f)
      ∙ slice_get-map (λ g. map (origin_of rows) (cycle rows g)) (kept_at d f) place
      ∙ ap (λ (o : Option Half). option_map (λ g. map (origin_of rows) (cycle rows g)) o) at) in
      let b = home_of m rows h in
      ap (is_hole_in m ring) told
      ∙ (λ i. int_lt (sym (ring_sum-same_ring doubled_area (position_of m) b.ring (map (origin_of rows) (cycle rows h)) home.1) i) (pos 0)
      && is_in_ring m ring (sym (anchor_of-same b.ring (map (origin_of rows) (cycle rows h)) home.1) i))
      ∙ (λ i. sym (ap (is_face f) home.0 ∙ is_face-refl f) i && is_negative m b.ring && is_in_ring m ring (anchor_of b.ring))

  -- a ring for each half
  pub as-many : (f : Face) → length (rings_at f (rings_kept d)) ≡ length (kept_at d f)
  as-many f = ap length (rings-face d fit f) ∙ length-map (kept_at d f) (λ h. map (origin_of rows) (cycle rows h))

  -- the halves so far, with the next one where its ring passes
  module _ (f : Face) (ring : Ring) (place : ℕ) (h : Half) (at : slice_get (kept_at d f) place ≡ Some h) (told : Bool)
      (is : told ≡ is_hole_in m ring (ring_at (rings_kept d) f place)) where
    next-is : filter (λ h. moves_in m f ring (home_of m rows h)) (take (place + 1) (kept_at d f))
        ≡ filter (λ h. moves_in m f ring (home_of m rows h)) (take place (kept_at d f)) ++ cond told (h ∷ []) []
    next-is =
        passing-push (λ h. moves_in m f ring (home_of m rows h)) (kept_at d f) place h at
        ∙ ap (λ (t : Bool). filter (λ h. moves_in m f ring (home_of m rows h)) (take place (kept_at d f)) ++ cond t (h ∷ []) []) (sym (is ∙ kept-test f ring place h at))

    pub next-passes : told ≡ true → filter (λ h. moves_in m f ring (home_of m rows h)) (take (place + 1) (kept_at d f))
        ≡ filter (λ h. moves_in m f ring (home_of m rows h)) (take place (kept_at d f)) ++ h ∷ []
    next-passes passes = next-is ∙ ap (λ (t : Bool). filter (λ h. moves_in m f ring (home_of m rows h)) (take place (kept_at d f)) ++ cond t (h ∷ []) []) passes

    pub next-stays : told ≡ false → filter (λ h. moves_in m f ring (home_of m rows h)) (take (place + 1) (kept_at d f))
        ≡ filter (λ h. moves_in m f ring (home_of m rows h)) (take place (kept_at d f))
    next-stays stays =
        next-is ∙ ap (λ (t : Bool). filter (λ h. moves_in m f ring (home_of m rows h)) (take place (kept_at d f)) ++ cond t (h ∷ []) []) stays
        ∙ append-nil (filter (λ h. moves_in m f ring (home_of m rows h)) (take place (kept_at d f)))

  -- ---- All of them

  -- the halves under other faces don't pass, and those under the face are all of them
  module _ (f : Face) (test : Half → Bool) (only : (g : Face) → g ≢ f → (h : Half) → Contains (kept_at d g) h → test h ≡ false) where
    none-other : (fs : List Face) → AllByRecursion (λ g. f ≢ g) fs → filter test (flat_map (kept_at d) fs) ≡ []
    none-other [] other = refl
    none-other (g ∷ fs) other =
        filter-append test (kept_at d g) (flat_map (kept_at d) fs)
        ∙ (λ i. none-pass test (kept_at d g) (only g (λ e. other.0 (sym e))) i ++ none-other fs other.1 i)

    at-face : (fs : List Face) → EachPair (λ a b. a ≢ b) fs → Contains fs f ⊎ (kept_at d f ≡ [])
        → filter test (flat_map (kept_at d) fs) ≡ filter test (kept_at d f)
    at-face [] each (inl there) = let low = there.1 in absurd (omega (arith, low))
    at-face [] each (inr none) = sym (ap (filter test) none)
    at-face (g ∷ fs) each there =
        filter-append test (kept_at d g) (flat_map (kept_at d) fs)
        ∙ elim (cases_face g f) [
          | inl is ↦
              (λ i. filter test (kept_at d (is i))
              ++ none-other fs (subst (λ (k : Face). AllByRecursion (λ a. k ≢ a) fs) is each.0) i)
              ∙ append-nil (filter test (kept_at d f))
          | inr other ↦
              (λ i. none-pass test (kept_at d g) (only g other) i ++ at-face fs each.1 (later other there) i)
        ]
      where
        later : g ≢ f → Contains (g ∷ fs) f ⊎ (kept_at d f ≡ []) → Contains fs f ⊎ (kept_at d f ≡ [])
        later other (inl there) = elim (Contains-cases g fs f there) [
          | inl is ↦ absurd (other is)
          | inr among ↦ inl among
        ]
        later other (inr none) = inr none

  known : (f : Face) → Contains (faces (rows_of d)) f ⊎ (kept_at d f ≡ [])
  known f = by (has_face (rows_of d) f) refl
    where
      by : (t : Bool) → has_face (rows_of d) f ≡ t → Contains (faces (rows_of d)) f ⊎ (kept_at d f ≡ [])
      by true is = inl (face-known d f is)
      by false is = inr (fit.no_face f is)

  -- the halves whose homes pass a test of the face are one half of each ring that passes
  module _ (f : Face) (test : Boundary → Bool) (own : (b : Boundary) → is_face f b.face ≡ false → test b ≡ false) (halves : List Half)
      (is : halves ≡ filter (λ h. test (home_of m rows h)) (kept_at d f)) where
    pub passing-on : AllByRecursion (λ h. IsOnRing m rows (home_of m rows h) h) halves
    passing-on = All-from_each (λ h. IsOnRing m rows (home_of m rows h) h) halves (λ h among.
        let kept = (filter-Contains (λ h. test (home_of m rows h)) (kept_at d f) h (subst (λ (l : List Half). Contains l h) is among)).0 in
        let at = keeps.on f h kept in
        subst (λ (b : Boundary). IsOnRing m rows b h) (sym (home-is m whole rows at.0 at.1 h at.2)) at.2)

    pub passing-all : IsPermutation (map (home_of m rows) halves) (filter test m.boundaries)
    passing-all =
        subst (λ (l : List Boundary). IsPermutation l (filter test m.boundaries)) (sym told)
        (filter-permuted test (map (home_of m rows) (halves_kept m d.kept)) m.boundaries keeps.all)
      where
        passes : Half → Bool
        passes h = test (home_of m rows h)

        other : (g : Face) → g ≢ f → (h : Half) → Contains (kept_at d g) h → passes h ≡ false
        other g apart h among = by (is_face f (home_of m rows h).face) refl
          where
            by : (t : Bool) → is_face f (home_of m rows h).face ≡ t → passes h ≡ false
            by true same = absurd (apart (sym (kept-home g h among).0 ∙ sym (is_face-same f (home_of m rows h).face same)))
            by false same = own (home_of m rows h) same

        told : map (home_of m rows) halves ≡ filter test (map (home_of m rows) (halves_kept m d.kept))
        told =
            ap (map (home_of m rows))
            (is ∙ sym (at-face f passes other (faces m) (faces-once m whole) (known f)))
            ∙ sym (filter-of_map test (home_of m rows) (halves_kept m d.kept))

  -- as those of the holes in a ring are
  pub holes-are : (f : Face) (ring : Ring) (halves : List Half)
      → halves ≡ filter (λ h. moves_in m f ring (home_of m rows h)) (kept_at d f) → AreOfHoles m rows f ring halves
  holes-are f ring halves is = record {
    on = passing-on f (moves_in m f ring) own halves is;
    all = passing-all f (moves_in m f ring) own halves is;
  }
    where
      own : (b : Boundary) → is_face f b.face ≡ false → moves_in m f ring b ≡ false
      own b same = ap (λ (t : Bool). t && is_negative m b.ring && is_in_ring m ring (anchor_of b.ring)) same

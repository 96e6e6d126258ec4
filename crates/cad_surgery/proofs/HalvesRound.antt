-- The halves round a ring of a face, and those that are kept of the face's other rings.
use Rattle.std.proofs.Common.{◌≡◌, ◌||◌, Bool, true, false, true≢false, refl, sym, ap, subst, ◌∙◌, List, [], ◌∷◌, map, filter}
use Rattle.std.specs.Prelude.{not, ◌&&◌, if◌then◌else◌, IsPermutation}
use Rattle.std.specs.List.{Contains}
use Rattle.std.proofs.lemmas.List.{length-map}
use Rattle.std.proofs.lemmas.List.Sorted.{Contains-permutation, IsPermutation-sym, length_permutation}
use Rattle.cad_rows.specs.declared.names.Face.{Face}
use Rattle.cad_rings.specs.Cycle.{Ring, Side, has_side, sides_of, IsSameRing}
use Rattle.cad_rings.proofs.CallerLemmas.{IsSameRing-sym, sides_of-same}
use Rattle.cad_map.specs.declared.boundary.Boundary.{Boundary}
use Rattle.cad_map.specs.Boundaries.{bounding, is_face}
use Rattle.cad_map.specs.Map.{Map, all_sides}
use Rattle.cad_map.specs.Rings.{HasWholeRings}
use Rattle.cad_map.proofs.CallerLemmas.{has_side-Contains, is_face-refl, list_any-Contains, once-from_pairs, All-at_each, All-from_each, Contains-first, Contains-later, Contains-has_side, Contains-map, map-Contains}
use Rattle.half_table.specs.declared.half.Half.{Half}
use Rattle.half_table.specs.Cycle.{holds}
use Rattle.half_table.specs.Half.{is_half}
use Rattle.half_table.proofs.Halves.{is_half-same, is_half-self}
use Rattle.half_table.specs.Rows.{HalfRows, has, next, origin_of, cycle}
use Rattle.cad_laws.specs.Local.{IsShown, side_by}
use Rattle.map_parts.specs.Fits.{FitRings}
use Rattle.edit_records.specs.HeldChains.{IsOfRing, NamesRings, rings_beside}
use Rattle.map_parts.specs.Handing.{home_of, KeepsEach}
use Rattle.map_parts.specs.Labels.{IsOnRing}
use Rattle.map_parts.specs.Parts.{Parts, FitTogether, map_of, kept_at}
use Rattle.map_parts.specs.Paths.{AreAlong}
use Rattle.map_parts.proofs.CycleRings.{cycle-each, cycle-sides}
use Rattle.map_parts.proofs.KeptEach.{home-is, map-cong, to-each}
use Rattle.map_parts.proofs.PartsRings.{in_table, other}
use Rattle.map_parts.proofs.RingsOfHalves.{cycle-same_ring}
use Rattle.map_parts.proofs.ToHalves.{fits, one_part}
use Rattle.map_parts.proofs.WholeStrings.{strings-once}
use Rattle.cad_surgery.proofs.MovedHalves.{kept-home, passing-all, passing-on}
use Rattle.cad_surgery.proofs.NamedRings.{on-named}

-- ---- Lists of halves

-- a half that is held is there
held : (halves : List Half) (g : Half) → holds halves g ≡ true → Contains halves g
held [] g is = absurd (true≢false (sym is))
held (x ∷ halves) g is = by (is_half g x) refl is (held halves g)
  where
    by : (b : Bool) → is_half g x ≡ b → (is_half g x || holds halves g) ≡ true → (holds halves g ≡ true → Contains halves g) → Contains (x ∷ halves) g
    by true same some later = subst (Contains (x ∷ halves)) (sym (is_half-same g x same)) (Contains-first x halves)
    by false other some later = Contains-later x halves g (later (rw other at some))

held-there : (halves : List Half) (g : Half) → Contains halves g → holds halves g ≡ true
held-there halves g among = list_any-Contains (is_half g) halves g among (is_half-self g)

-- two tests that tell the same of each
filter-cong : (p q : Half → Bool) (xs : List Half) → ((x : Half) → Contains xs x → p x ≡ q x) → filter p xs ≡ filter q xs
filter-cong p q [] same = refl
filter-cong p q (x ∷ xs) same =
    (λ i. if same x (Contains-first x xs) i then x ∷ filter p xs else filter p xs)
    ∙ ap (λ (l : List Half). if q x then x ∷ l else l) (filter-cong p q xs (λ y among. same y (Contains-later x xs y among)))

-- ---- Round a ring

module _ (d : Parts) (fit : FitTogether d) (whole : HasWholeRings (map_of d)) (face : Face) (e : Ring)
    (there : Contains (map_of d).boundaries (bounding face e)) (h : Half) (h_shown : IsShown (map_of d) h) (on : Contains (sides_of e) (side_by d.table.rows h)) where
  abbrev m : Map
  m = map_of d

  abbrev rows : HalfRows
  rows = d.table.rows

  abbrev path : List Half
  path = cycle rows h

  abbrev points : Ring
  points = map (origin_of rows) path

  rings : FitRings d m.boundaries
  rings = fits d fit (strings-once m whole)

  pub same-round : IsSameRing points e
  same-round =
      IsSameRing-sym e points (cycle-same_ring m rows whole rings.local h h_shown (bounding face e) there on)

  in_rows : has rows h ≡ true
  in_rows = in_table d fit h h_shown

  pub all-shown : (g : Half) → Contains path g → IsShown m g
  all-shown = cycle-each rows rings.local.linked h in_rows (IsShown m) rings.local.inside h_shown

  pub leads-round : AreAlong rows path (sides_of points)
  leads-round =
      map-cong (side_by rows) (λ g. (origin_of rows g, origin_of rows (next rows g))) path (λ g among. λ i. (origin_of rows g, sym (rings.local.meets g (all-shown g among)) i))
      ∙ sym (cycle-sides rows rings.local.linked h in_rows (other d fit h h_shown))

  -- ---- The other rings of the face

  abbrev left : Boundary
  left = bounding face e

  keeps : KeepsEach m rows d.kept
  keeps = to-each d m.boundaries whole rings

  abbrev s : Side
  s = side_by rows h

  -- a half of the ring is on the path
  on-round : (g : Half) → IsOnRing m rows left g → Contains path g
  on-round g g_on =
      let among = Contains-permutation (sides_of e) (sides_of points) (side_by rows g) (sides_of-same e points (IsSameRing-sym points e same-round)) g_on.side in
      let p = map-Contains (side_by rows) path (side_by rows g) (subst (λ (l : List Side). Contains l (side_by rows g)) (sym leads-round) among) in
      subst (Contains path) (rings.local.apart p.0 g (all-shown p.0 p.1) g_on.shown p.2) p.1

  -- and a half of the path on the ring
  round-on : (g : Half) → Contains path g → IsOnRing m rows left g
  round-on g among = record {
    shown = all-shown g among;
    side =
        Contains-permutation (sides_of points) (sides_of e) (side_by rows g) (sides_of-same points e same-round)
        (subst (λ (l : List Side). Contains l (side_by rows g)) leads-round (Contains-map (side_by rows) path g among));
  }

  -- a half that is kept for the face is on the path where its ring has the side
  on-own : (g : Half) → Contains (kept_at d face) g → holds path g ≡ has_side s (sides_of (home_of m rows g).ring)
  on-own g among = by (holds path g) (has_side s (sides_of (home_of m rows g).ring)) refl refl
    where
      at : (b : Boundary) × Contains m.boundaries b × IsOnRing m rows b g × (b.face ≡ face)
      at = keeps.on face g among

      home : home_of m rows g ≡ at.0
      home = home-is m whole rows at.0 at.1 g at.2

      by : (a b : Bool) → holds path g ≡ a → has_side s (sides_of (home_of m rows g).ring) ≡ b → a ≡ b
      by true true is has = refl
      by false false is has = refl
      by true false is has =
          let own = home-is m whole rows left there g (round-on g (held path g is)) in
          absurd (true≢false (sym (Contains-has_side s (sides_of e) on) ∙ ap (λ (b : Boundary). has_side s (sides_of b.ring)) (sym own) ∙ has))
      by false true is has =
          let same : at.0 ≡ left =
          one_part (λ (c : Boundary). sides_of c.ring) s m.boundaries at.0 left (once-from_pairs (all_sides m) whole.once s) at.1 there
          (subst (λ (b : Boundary). Contains (sides_of b.ring) s) home (has_side-Contains s (sides_of (home_of m rows g).ring) has)) on in
          absurd (true≢false (sym (held-there path g (on-round g (subst (λ (b : Boundary). IsOnRing m rows b g) same at.2))) ∙ is))

  abbrev beside : Boundary → Bool
  beside b = is_face face b.face && not (has_side s (sides_of b.ring))

  beside-own : (g : Half) → Contains (kept_at d face) g → not (holds path g) ≡ beside (home_of m rows g)
  beside-own g among =
      let face_is = kept-home d fit whole face g among in
      ap not (on-own g among)
      ∙ ap (λ (t : Bool). t && not (has_side s (sides_of (home_of m rows g).ring))) (sym (ap (is_face face) face_is.0 ∙ is_face-refl face))

  beside-face : (b : Boundary) → is_face face b.face ≡ false → beside b ≡ false
  beside-face b away = ap (λ (t : Bool). t && not (has_side s (sides_of b.ring))) away

  module _ (moved : List Half) (moved_is : moved ≡ filter (λ g. not (holds path g)) (kept_at d face)) where
    by-home : moved ≡ filter (λ g. beside (home_of m rows g)) (kept_at d face)
    by-home = moved_is ∙ filter-cong (λ g. not (holds path g)) (λ g. beside (home_of m rows g)) (kept_at d face) beside-own

    homes : IsPermutation (map (home_of m rows) moved) (rings_beside m face s)
    homes = passing-all d fit whole face beside beside-face moved by-home

    -- one half of each
    pub names-rings : NamesRings m moved (rings_beside m face s)
    names-rings = record {
      each = All-from_each (λ g. (b : Boundary) × Contains (rings_beside m face s) b × IsOfRing m b g) moved (λ g among. (
        home_of m rows g,
        Contains-permutation (map (home_of m rows) moved) (rings_beside m face s) (home_of m rows g) homes (Contains-map (home_of m rows) moved g among),
        named g among,
      ));
      all = λ b among.
          let g = map-Contains (home_of m rows) moved b
          (Contains-permutation (rings_beside m face s) (map (home_of m rows) moved) b (IsPermutation-sym (map (home_of m rows) moved) (rings_beside m face s) homes) among) in
          (g.0, g.1, subst (λ (c : Boundary). IsOfRing m c g.0) g.2 (named g.0 g.1));
      as_many = sym (length-map moved (home_of m rows)) ∙ sym (length_permutation (map (home_of m rows) moved) (rings_beside m face s) homes);
    }
      where
        named : (g : Half) → Contains moved g → IsOfRing m (home_of m rows g) g
        named g among =
            on-named m rows rings.ends (home_of m rows g) g
            (All-at_each (λ g. IsOnRing m rows (home_of m rows g) g) moved g (passing-on d fit whole face beside beside-face moved by-home) among)

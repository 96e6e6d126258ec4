-- The rings of a face are rings of points of the map, as many as are kept of it.
use Rattle.std.proofs.Common.{◌≡◌, ℕ, ◌<◌, ◌≤◌, refl, sym, ap, subst, ◌∙◌, List, [], ◌∷◌, length, map, get_or, true, arith}
use Rattle.std.specs.Prelude.{IsTrue, count_by}
use Rattle.std.specs.List.{AllByRecursion, Contains}
use Rattle.std.proofs.lemmas.List.{length-map, get_or-map}
use Rattle.std.proofs.lemmas.List.Elements.{Contains-get_or}
use Rattle.std.proofs.lemmas.List.Sums.{sum_by-cons}
use Rattle.cad_rows.specs.declared.names.Face.{Face}
use Rattle.cad_rings.specs.Cycle.{Ring}
use Rattle.cad_rings.proofs.CallerLemmas.{length-sides_of}
use Rattle.cad_map.specs.declared.boundary.Boundary.{Boundary}
use Rattle.cad_map.specs.Boundaries.{canonical_order, is_face}
use Rattle.cad_map.specs.Map.{Map, has_point, rings_at, rings_of}
use Rattle.cad_map.specs.Rings.{HasWholeRings}
use Rattle.cad_map.proofs.CallerLemmas.{All-Contains, All-follows, All-filter, All-map, All-from_each, ring-sides-few, rings_at-canonical_order}
use Rattle.cad_valid.specs.Rings.{IsRingOf}

module _ (m : Map) (whole : HasWholeRings m) where
  ring-of_map : (b : Boundary) → Contains m.boundaries b → IsRingOf m b.ring
  ring-of_map b there =
      let sides = ring-sides-few m m.boundaries whole whole.v1.canonical (All-follows (λ c. 3 ≤ length c.ring) (λ c. 2 ≤ length c.ring) (λ c k. omega arith) m.boundaries whole.v5.three) b there in
      let most = whole.v1.few_strings in
      let long = length-sides_of b.ring in
      record {
        points = All-Contains (λ c. AllByRecursion (λ p. IsTrue (has_point m p)) c.ring) m.boundaries b whole.v1.points_of_rings there;
        three = All-Contains (λ c. 3 ≤ length c.ring) m.boundaries b whole.v5.three there;
        few = omega arith;
      }

  -- each of a face's
  pub rings-of_map : (f : Face) → AllByRecursion (IsRingOf m) (rings_of m f)
  rings-of_map f =
      All-map (IsRingOf m) (λ (b : Boundary). b.ring) _
      (All-filter (λ b. IsRingOf m b.ring) (λ b. is_face f b.face) m.boundaries (All-from_each (λ b. IsRingOf m b.ring) m.boundaries ring-of_map))

-- a test that all pass counts each
count-each : (rings : List Ring) → count_by (λ (r : Ring). true) rings ≡ length rings
count-each [] = refl
count-each (r ∷ rings) =
    let rest = count-each rings in
    let more = sum_by-cons (λ (x : Ring). 1) r rings in
    omega arith

-- a face has as many rings as are kept of it
pub rings_counted : (m : Map) (f : Face) (bs : List Boundary)
    → canonical_order bs ≡ m.boundaries → length (rings_at f bs) ≡ length (rings_of m f)
rings_counted m f bs is =
    sym (count-each (rings_at f bs))
    ∙ (rings_at-canonical_order f bs).count (λ r. true) (λ r s same. refl)
    ∙ ap (λ (l : List Boundary). count_by (λ (r : Ring). true) (rings_at f l)) is
    ∙ count-each (rings_of m f)

-- the ring at a place of a run
pub ring-in_run : (run : List Boundary) (rings : List Ring) → map (λ (b : Boundary). b.ring) run ≡ rings → (P : Ring → Type 0) → AllByRecursion P rings → (place : ℕ) (d : Boundary) → place < length run → P (get_or run place d).ring
ring-in_run run rings is P all place d within =
    All-Contains (λ (b : Boundary). P b.ring) run (get_or run place d) (each run (subst (λ (l : List Ring). AllByRecursion P l) (sym is) all)) (Contains-get_or run place d within)
  where
    each : (run : List Boundary) → AllByRecursion P (map (λ (b : Boundary). b.ring) run) → AllByRecursion (λ (b : Boundary). P b.ring) run
    each [] all = tt
    each (b ∷ run) all = (all.0, each run all.1)

pub ring-at_run : (run : List Boundary) (rings : List Ring) → map (λ (b : Boundary). b.ring) run ≡ rings → (place : ℕ) (d : Boundary) → place < length run → (get_or run place d).ring ≡ get_or rings place []
ring-at_run run rings is place d within =
    sym (get_or-map (λ (b : Boundary). b.ring) run place d [] within) ∙ ap (λ (l : List Ring). get_or l place []) is

pub run-length : (run : List Boundary) (rings : List Ring) → map (λ (b : Boundary). b.ring) run ≡ rings → length run ≡ length rings
run-length run rings is = sym (length-map run (λ (b : Boundary). b.ring)) ∙ ap length is

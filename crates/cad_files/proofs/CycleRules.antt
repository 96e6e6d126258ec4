-- What the rules say of rings is so of the rings of a plan.
use Rattle.std.proofs.Common.{◌≡◌, ◌≢◌, ℕ, ◌≤◌, refl, sym, ap, subst, ◌∙◌, List, [], ◌∷◌, length, map, Some, arith}
use Rattle.std.specs.Prelude.{IsPermutation, IsTrue, flat_map}
use Rattle.std.specs.List.{AllByRecursion}
use Rattle.cad_rows.specs.declared.names.Face.{Face}
use Rattle.cad_rows.specs.declared.rows.StringRow.{StringRow}
use Rattle.cad_rings.specs.Cycle.{Ring, Side, opposite, sides_along, sides_of}
use Rattle.cad_map.specs.declared.boundary.Boundary.{Boundary}
use Rattle.cad_map.specs.Boundaries.{canonical_form, canonical_order}
use Rattle.cad_map.specs.Map.{Map, has_point, has_face, side_of as side_of_row, string_sides, all_sides, left_face, right_face}
use Rattle.cad_map.specs.Valid.{HasCompleteRings}
use Rattle.cad_map.proofs.CallerLemmas.{All-map, All-permuted, All-append, All-flat_map, IsPermutation-canonical_order}
use Rattle.cad_files.specs.Follower.{labelled_sides, HasRingsOf}
use Rattle.cad_files.specs.Cycles.{FollowedSide, AreSidesOf, side_and_face, labelled_side_and_face, followed_of, followed_in}
use Rattle.cad_files.specs.declared.rows.PlanString.{PlanString}
use Rattle.cad_files.proofs.CycleRings.{three}

-- ---- Rings are complete

differ-each : (m : Map) (strings : List PlanString) → AllByRecursion (λ s. left_face m s.row ≡ Some s.left) strings → AllByRecursion (λ s. right_face m s.row ≡ Some s.right) strings → AllByRecursion (λ s. s.left ≢ s.right) strings
    → AllByRecursion (λ s. left_face m s ≢ right_face m s) (map (λ s. s.row) strings)
differ-each m [] left right differ = tt
differ-each m (s ∷ strings) left right differ = (
  (λ same. differ.0 (let e : Some s.left ≡ Some s.right = sym left.0 ∙ same ∙ right.0 in cc)),
  differ-each m strings left.1 right.1 differ.1,
)

-- the rings of strings that have two faces each
pub complete-rings : (m : Map) (strings : List PlanString) → HasRingsOf m strings → AllByRecursion (λ b. 2 ≤ length b.ring) m.boundaries → AllByRecursion (λ s. s.left ≢ s.right) strings → HasCompleteRings m
complete-rings m strings has two differ = record {
  three = three m strings has two;
  once = has.once;
  two_faces = subst (λ (l : List StringRow). AllByRecursion (λ s. left_face m s ≢ right_face m s) l) (sym has.rows) (differ-each m strings has.left has.right differ);
}

-- ---- Points of rings

starts-along : (a : ℕ) (points : List ℕ) (z : ℕ) → map (λ (s : Side). s.0) (sides_along a points z) ≡ a ∷ points
starts-along a [] z = refl
starts-along a (b ∷ points) z = ap (λ (l : List ℕ). a ∷ l) (starts-along b points z)

starts-of : (ring : Ring) → map (λ (s : Side). s.0) (sides_of ring) ≡ ring
starts-of [] = refl
starts-of (a ∷ points) = starts-along a points a

module _ (P : ℕ → Type 0) where
  starts-known : (strings : List StringRow) → AllByRecursion (λ s. P s.from × P s.to) strings → AllByRecursion (λ s. P s.0) (flat_map (λ s. side_of_row s ∷ opposite (side_of_row s) ∷ []) strings)
  starts-known [] all = tt
  starts-known (s ∷ strings) all = (all.0.0, (all.0.1, starts-known strings all.1))

  points-each : (bs : List Boundary) → AllByRecursion (λ b. AllByRecursion (λ s. P s.0) (sides_of b.ring)) bs → AllByRecursion (λ b. AllByRecursion P b.ring) bs
  points-each [] all = tt
  points-each (b ∷ bs) all = (subst (λ (l : List ℕ). AllByRecursion P l) (starts-of b.ring) (All-map P (λ (s : Side). s.0) (sides_of b.ring) all.0), points-each bs all.1)

-- where the strings' ends are known, so are the points of the rings
pub points-known : (m : Map) (strings : List PlanString) → HasRingsOf m strings → AllByRecursion (λ s. IsTrue (has_point m s.from) × IsTrue (has_point m s.to)) m.strings
    → AllByRecursion (λ b. AllByRecursion (λ p. IsTrue (has_point m p)) b.ring) m.boundaries
points-known m strings has ends =
    points-each (λ p. IsTrue (has_point m p)) m.boundaries
    (All-flat_map (λ (s : Side). IsTrue (has_point m s.0)) (λ b. sides_of b.ring) m.boundaries
    (All-permuted (λ (s : Side). IsTrue (has_point m s.0)) (string_sides m) (all_sides m) has.once (starts-known (λ p. IsTrue (has_point m p)) m.strings ends)))

-- ---- Faces of rings

module _ (P : Face → Type 0) where
  faces-labelled : (strings : List PlanString) → AllByRecursion (λ s. P s.left × P s.right) strings → AllByRecursion (λ (f : Side × Face). P f.1) (map labelled_side_and_face (labelled_sides strings))
  faces-labelled [] all = tt
  faces-labelled (s ∷ strings) all = (all.0.0, (all.0.1, faces-labelled strings all.1))

  faces-of_sides : (sides : List FollowedSide) → AllByRecursion (λ (f : Side × Face). P f.1) (map side_and_face sides) → AllByRecursion (λ s. P s.face) sides
  faces-of_sides [] all = tt
  faces-of_sides (s ∷ sides) all = (all.0, faces-of_sides sides all.1)

  face-of_ring : (b : Boundary) → 2 ≤ length b.ring → AllByRecursion (λ s. P s.face) (followed_of b) → P b.face
  face-of_ring b two all = by b.ring two all
    where
      by : (ring : Ring) → 2 ≤ length ring → AllByRecursion (λ s. P s.face) (followed_of (record { face = b.face; ring = ring })) → P b.face
      by [] two all = absurd (omega arith)
      by (u ∷ []) two all = absurd (omega arith)
      by (u ∷ v ∷ []) two all = all.0
      by (u ∷ v ∷ w ∷ points) two all = all.0

  faces-of_rings : (bs : List Boundary) → AllByRecursion (λ b. 2 ≤ length b.ring) bs → AllByRecursion (λ s. P s.face) (followed_in bs) → AllByRecursion (λ b. P b.face) bs
  faces-of_rings [] two all = tt
  faces-of_rings (b ∷ bs) two all =
      let parts = All-append (λ s. P s.face) (followed_of b) (followed_in bs) all in
      (face-of_ring b two.0 parts.0, faces-of_rings bs two.1 parts.1)

-- where the strings' faces are known, so are those of the rings
pub faces-known : (m : Map) (strings : List PlanString) (sides : List FollowedSide) (bs : List Boundary) → m.boundaries ≡ canonical_order bs → AreSidesOf m strings sides → AllByRecursion (λ b. 2 ≤ length b.ring) bs → IsPermutation sides (followed_in bs)
    → AllByRecursion (λ s. IsTrue (has_face m s.left) × IsTrue (has_face m s.right)) strings → AllByRecursion (λ b. IsTrue (has_face m b.face)) m.boundaries
faces-known m strings sides bs lists of two rings faces =
    let P : Face → Type 0 = λ f. IsTrue (has_face m f) in
    let known = faces-of_sides P sides (subst (λ (l : List (Side × Face)). AllByRecursion (λ f. P f.1) l) (sym of.labels) (faces-labelled P strings faces)) in
    let each = faces-of_rings P bs two (All-permuted (λ s. P s.face) sides (followed_in bs) rings known) in
    subst (λ (l : List Boundary). AllByRecursion (λ b. P b.face) l) (sym lists)
    (All-permuted (λ b. P b.face) (map canonical_form bs) (canonical_order bs) (IsPermutation-canonical_order bs) (All-map (λ b. P b.face) canonical_form bs each))

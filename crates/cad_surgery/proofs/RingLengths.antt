-- The halves on the rings of a face that comes or goes are as many as their sides.
use Rattle.std.proofs.Common.{◌≡◌, ◌≢◌, ℕ, ◌+◌, Bool, true, false, List, [], ◌∷◌, map, filter, length, refl, sym, ap, ◌∙◌, cond, arith}
use Rattle.std.specs.Prelude.{IsPermutation, sum_by, find, unwrap_or}
use Rattle.std.specs.List.{AllByRecursion, Contains}
use Rattle.std.proofs.lemmas.List.Sums.{sum_by-cons}
use Rattle.std.proofs.lemmas.List.Sorted.{sum_by-IsPermutation, Contains-permutation, IsPermutation-sym}
use Rattle.cad_rows.specs.declared.names.Face.{Face}
use Rattle.cad_rows.specs.declared.names.Face.TheVariants.{Outside}
use Rattle.cad_rings.specs.Cycle.{has_side, sides_of}
use Rattle.cad_map.specs.declared.boundary.Boundary.{Boundary}
use Rattle.cad_map.specs.Boundaries.{is_face, bounding}
use Rattle.cad_map.specs.Map.{Map}
use Rattle.cad_map.specs.Rings.{HasWholeRings}
use Rattle.cad_map.proofs.CallerLemmas.{Contains-first, Contains-later, is_face-same, is_face-refl}
use Rattle.half_table.specs.declared.half.Half.{Half}
use Rattle.half_table.specs.Rows.{HalfRows, cycle}
use Rattle.cad_laws.specs.Counts.{sides_of_face}
use Rattle.cad_laws.specs.Local.{side_by, IsLocal}
use Rattle.map_parts.specs.Handing.{home_of}
use Rattle.map_parts.specs.Islands.{AreOfRings}
use Rattle.map_parts.specs.Labels.{IsOnRing}
use Rattle.map_parts.specs.Relabelled.{cycles_length}
use Rattle.map_parts.proofs.KeptEach.{home-is}
use Rattle.map_parts.proofs.Passing.Lengths.{cycle-length}

abbrev size : Boundary → ℕ
size b = length b.ring

-- a sum over those that pass the test is one over all, in which the others count nothing
sum-filter : (test : Boundary → Bool) (bs : List Boundary) → sum_by size (filter test bs) ≡ sum_by (λ b. cond (test b) (size b) 0) bs
sum-filter test [] = refl
sum-filter test (b ∷ bs) = by (test b) refl (sum-filter test bs)
  where
    by : (t : Bool) → test b ≡ t → sum_by size (filter test bs) ≡ sum_by (λ b. cond (test b) (size b) 0) bs → sum_by size (filter test (b ∷ bs)) ≡ sum_by (λ b. cond (test b) (size b) 0) (b ∷ bs)
    by true is rest =
        let own : cond (test b) (size b) 0 ≡ size b = rw is refl in
        let whole = sum_by-cons (λ b. cond (test b) (size b) 0) b bs in
        let front : sum_by size (filter test (b ∷ bs)) ≡ size b + sum_by size (filter test bs) = rw is (sum_by-cons size b (filter test bs)) in
        omega (arith, own, whole, front, rest)
    by false is rest =
        let own : cond (test b) (size b) 0 ≡ 0 = rw is refl in
        let whole = sum_by-cons (λ b. cond (test b) (size b) 0) b bs in
        let front : sum_by size (filter test (b ∷ bs)) ≡ sum_by size (filter test bs) = rw is refl in
        omega (arith, own, whole, front, rest)

-- a half with the same side is on the same ring
pub home-stays : (m : Map) (old new : HalfRows) (h : Half) → side_by new h ≡ side_by old h → home_of m new h ≡ home_of m old h
home-stays m old new h same = λ i. unwrap_or (find (λ b. has_side (same i) (sides_of b.ring)) m.boundaries) (bounding Outside [])

module _ (m : Map) (whole : HasWholeRings m) (rows : HalfRows) (local : IsLocal m rows) where
  pub ring-length : (b : Boundary) → Contains m.boundaries b → (h : Half) → IsOnRing m rows b h → length (cycle rows h) ≡ length b.ring
  ring-length b there h on = cycle-length m rows whole local h on.shown b there on.side

  module _ (inner : Face) (left right : Boundary) (others : List Boundary) (were : IsPermutation m.boundaries (left ∷ right ∷ others))
      (left_face : left.face ≡ inner) (right_face : right.face ≢ inner) where
    there : (b : Boundary) → Contains (left ∷ right ∷ others) b → Contains m.boundaries b
    there b = Contains-permutation (left ∷ right ∷ others) m.boundaries b (IsPermutation-sym m.boundaries (left ∷ right ∷ others) were)

    -- the sides of the face's rings
    sides-are : sides_of_face inner m ≡ size left + sum_by size (filter (λ b. is_face inner b.face) others)
    sides-are =
        let test = λ (b : Boundary). is_face inner b.face in
        let all = sum-filter test m.boundaries in
        let some = sum-filter test others in
        let moved = sum_by-IsPermutation (λ b. cond (test b) (size b) 0) m.boundaries (left ∷ right ∷ others) were in
        let one = sum_by-cons (λ b. cond (test b) (size b) 0) left (right ∷ others) in
        let two = sum_by-cons (λ b. cond (test b) (size b) 0) right others in
        let own : cond (test left) (size left) 0 ≡ size left = rw (ap (is_face inner) left_face ∙ is_face-refl inner) refl in
        let none : cond (test right) (size right) 0 ≡ 0 = rw (away (test right) refl) refl in
        omega (arith, all, some, moved, one, two, own, none)
      where
        away : (t : Bool) → is_face inner right.face ≡ t → is_face inner right.face ≡ false
        away true is = absurd (right_face (sym (is_face-same inner right.face is)))
        away false is = is

    lengths : (halves : List Half) → AllByRecursion (λ h. (b : Boundary) × Contains others b × IsOnRing m rows b h × (b.face ≡ inner)) halves
        → cycles_length rows halves ≡ sum_by size (map (home_of m rows) halves)
    lengths [] each = refl
    lengths (h ∷ halves) each =
        let it = each.0 in
        let at = there it.0 (Contains-later left (right ∷ others) it.0 (Contains-later right others it.0 it.1)) in
        let own = ring-length it.0 at h it.2 ∙ ap size (sym (home-is m whole rows it.0 at h it.2)) in
        let rest = lengths halves each.1 in
        let sum = sum_by-cons size (home_of m rows h) (map (home_of m rows) halves) in
        omega (arith, own, rest, sum)

    -- a half of the one ring, and one of each other ring of the face
    pub face-lengths : (first : Half) → IsOnRing m rows left first → (halves : List Half) → AreOfRings m rows halves inner others
        → IsPermutation (map (home_of m rows) halves) (filter (λ b. is_face inner b.face) others)
        → length (cycle rows first) + cycles_length rows halves ≡ sides_of_face inner m
    face-lengths first on halves of once =
        let own = ring-length left (there left (Contains-first left (right ∷ others))) first on in
        let rest = lengths halves of.each in
        let same = sum_by-IsPermutation size (map (home_of m rows) halves) (filter (λ b. is_face inner b.face) others) once in
        let sides = sides-are in
        omega (arith, own, rest, same, sides)

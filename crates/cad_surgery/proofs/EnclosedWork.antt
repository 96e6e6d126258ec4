-- How long the rings of an island are, and those that pass over: no longer than all rings of the new parcel.
use Rattle.std.proofs.Common.{◌≡◌, ℕ, ◌+◌, ◌≤◌, Bool, true, false, refl, sym, ap, ◌∙◌, List, [], ◌∷◌, map, filter, reverse, length, cond, if◌then◌else◌, arith}
use Rattle.std.specs.Prelude.{IsPermutation, sum_by}
use Rattle.std.specs.List.{AllByRecursion, Contains}
use Rattle.std.proofs.lemmas.List.{length-map, length-reverse}
use Rattle.std.proofs.lemmas.List.Sums.{sum_by-cons}
use Rattle.std.proofs.lemmas.List.Sorted.{Contains-permutation, IsPermutation-sym, sum_by-IsPermutation}
use Rattle.cad_rows.specs.declared.names.Face.{Face}
use Rattle.cad_rows.specs.declared.names.Face.TheVariants.{Parcel}
use Rattle.cad_rows.specs.declared.rows.StringRow.{StringRow}
use Rattle.cad_rings.specs.Cycle.{Ring}
use Rattle.cad_rings.specs.Canonical.{least_rotation}
use Rattle.cad_rings.proofs.CallerLemmas.{IsSameRing-length, IsSameRing-least_rotation}
use Rattle.cad_map.specs.declared.boundary.Boundary.{Boundary}
use Rattle.cad_map.specs.Boundaries.{is_face, bounding, canonical_form}
use Rattle.cad_map.specs.Division.{hole_placed}
use Rattle.cad_map.specs.Map.{Map}
use Rattle.cad_map.specs.Rings.{HasWholeRings}
use Rattle.cad_map.proofs.CallerLemmas.{All-at_each, All-from_each, Contains-first, Contains-later, Contains-map, filter-Contains, ring-hole_placed, is_face-refl}
use Rattle.half_table.specs.declared.half.Half.{Half}
use Rattle.half_table.specs.Half.{twin}
use Rattle.half_table.specs.Rows.{HalfRows, origin_of, cycle}
use Rattle.cad_laws.specs.Counts.{sides_of_face}
use Rattle.cad_laws.specs.Local.{IsShown, IsLocal, side_by}
use Rattle.map_parts.specs.Handing.{home_of}
use Rattle.map_parts.specs.Labels.{IsOnRing}
use Rattle.map_parts.specs.Parts.{HasHalves}
use Rattle.map_parts.specs.Placed.{moves_in, AreOfHoles}
use Rattle.map_parts.specs.Relabelled.{cycles_length}
use Rattle.map_parts.specs.Enclosing.{IsEnclosing, enclosed}
use Rattle.map_parts.proofs.Enclosing as encloses
use Rattle.map_parts.proofs.IslandFits.{first-on}
use Rattle.map_parts.proofs.PlacedHalves.{on-placed}
use Rattle.map_parts.proofs.RingsOfHalves.{cycle-same_ring}

-- ---- Lists

abbrev long : Boundary → ℕ
long b = length b.ring

-- a sum over what passes a test
filtered : (test : Boundary → Bool) (bs : List Boundary) → sum_by long (filter test bs) ≡ sum_by (λ b. cond (test b) (long b) 0) bs
filtered test [] = refl
filtered test (b ∷ bs) = by (test b) refl (filtered test bs)
  where
    by : (t : Bool) → test b ≡ t → sum_by long (filter test bs) ≡ sum_by (λ b. cond (test b) (long b) 0) bs
        → sum_by long (filter test (b ∷ bs)) ≡ sum_by (λ b. cond (test b) (long b) 0) (b ∷ bs)
    by true is rest =
        let one = sum_by-cons (λ b. cond (test b) (long b) 0) b bs in
        let two = sum_by-cons long b (filter test bs) in
        let here : cond (test b) (long b) 0 ≡ long b = ap (λ (t : Bool). cond t (long b) 0) is in
        let l : sum_by long (filter test (b ∷ bs)) ≡ sum_by long (b ∷ filter test bs) = rw is refl in
        omega (arith, l, one, two, rest, here)
    by false is rest =
        let one = sum_by-cons (λ b. cond (test b) (long b) 0) b bs in
        let here : cond (test b) (long b) 0 ≡ 0 = ap (λ (t : Bool). cond t (long b) 0) is in
        let l : sum_by long (filter test (b ∷ bs)) ≡ sum_by long (filter test bs) = rw is refl in
        omega (arith, l, one, rest, here)

-- ---- One ring

cycle-long : (m : Map) (rows : HalfRows) → HasWholeRings m → IsLocal m rows → (h : Half) (b : Boundary)
    → Contains m.boundaries b → IsOnRing m rows b h → length (cycle rows h) ≡ long b
cycle-long m rows whole local h b there on =
    sym (length-map (cycle rows h) (origin_of rows))
    ∙ IsSameRing-length b.ring (map (origin_of rows) (cycle rows h)) (cycle-same_ring m rows whole local h on.shown b there on.side)

least-long : (r : Ring) → length (least_rotation r) ≡ length r
least-long r = IsSameRing-length r (least_rotation r) (IsSameRing-least_rotation r)

module _ (m : Map) (face : Face) (numbers : List ℕ) (added : List StringRow) (parcel : ℕ) (first : Half) (others : List Half)
    (is : IsEnclosing m face numbers added parcel (first ∷ others)) where
  abbrev path : List Half
  path = first ∷ others

  abbrev now : Map
  now = enclosed is

  abbrev inner : Face
  inner = Parcel parcel

  abbrev left : Boundary
  left = canonical_form (bounding inner is.points)

  abbrev right : Boundary
  right = canonical_form (bounding face (reverse is.points))

  abbrev placed : Boundary → Boundary
  placed = hole_placed m face inner is.points

  parts : HasWholeRings now
  parts = encloses.parts m face numbers added parcel path is

  were : IsPermutation now.boundaries (left ∷ right ∷ map placed m.boundaries)
  were = (encloses.island m face numbers added parcel path is).were

  there : (b : Boundary) → Contains (left ∷ right ∷ map placed m.boundaries) b → Contains now.boundaries b
  there b h = Contains-permutation (left ∷ right ∷ map placed m.boundaries) now.boundaries b
      (IsPermutation-sym now.boundaries (left ∷ right ∷ map placed m.boundaries) were) h

  -- the rings of the parcel
  parcel-long : length is.points + sum_by long (filter (moves_in m face is.points) m.boundaries) ≤ sides_of_face inner now
  parcel-long =
      let p : Boundary → ℕ = λ b. cond (is_face inner b.face) (long b) 0 in
      let a = filtered (λ b. is_face inner b.face) now.boundaries in
      let b = sum_by-IsPermutation p now.boundaries (left ∷ right ∷ map placed m.boundaries) were in
      let c = sum_by-cons p left (right ∷ map placed m.boundaries) in
      let d = sum_by-cons p right (map placed m.boundaries) in
      let l : p left ≡ length is.points = ap (λ (t : Bool). cond t (long left) 0) (is_face-refl inner) ∙ least-long is.points in
      let r = placed-long m.boundaries in
      omega (arith, a, b, c, d, l, r)
    where
      placed-long : (bs : List Boundary) → sum_by long (filter (moves_in m face is.points) bs)
          ≤ sum_by (λ b. cond (is_face inner b.face) (long b) 0) (map placed bs)
      placed-long [] = omega arith
      placed-long (b ∷ bs) = by (moves_in m face is.points b) refl (placed-long bs)
        where
          by : (t : Bool) → moves_in m face is.points b ≡ t
              → sum_by long (filter (moves_in m face is.points) bs) ≤ sum_by (λ b. cond (is_face inner b.face) (long b) 0) (map placed bs)
              → sum_by long (filter (moves_in m face is.points) (b ∷ bs)) ≤ sum_by (λ b. cond (is_face inner b.face) (long b) 0) (map placed (b ∷ bs))
          by true moves rest =
              let one = sum_by-cons (λ b. cond (is_face inner b.face) (long b) 0) (placed b) (map placed bs) in
              let two = sum_by-cons long b (filter (moves_in m face is.points) bs) in
              let here : cond (is_face inner (placed b).face) (long (placed b)) 0 ≡ long b =
              (λ i. cond (is_face inner (if moves i then bounding inner b.ring else b).face) (length (ring-hole_placed m face inner is.points b i)) 0)
              ∙ ap (λ (t : Bool). cond t (long b) 0) (is_face-refl inner) in
              let l : sum_by long (filter (moves_in m face is.points) (b ∷ bs)) ≡ sum_by long (b ∷ filter (moves_in m face is.points) bs) = rw moves refl in
              omega (arith, l, one, two, rest, here)
          by false stays rest =
              let one = sum_by-cons (λ b. cond (is_face inner b.face) (long b) 0) (placed b) (map placed bs) in
              let l : sum_by long (filter (moves_in m face is.points) (b ∷ bs)) ≡ sum_by long (filter (moves_in m face is.points) bs) = rw stays refl in
              omega (arith, l, one, rest)

  module _ (rows : HalfRows) (local : IsLocal now rows) (ends : AllByRecursion (HasHalves rows) added) where
    pub on-ring : IsOnRing now rows left first × IsOnRing now rows right (twin first)
    on-ring =
        first-on m now face inner is.points left right (map placed m.boundaries) (encloses.island m face numbers added parcel path is) parts
        first others (encloses.more m face numbers added parcel path is) [] rows (encloses.along m face numbers added parcel path is rows ends)

    pub inner-long : length (cycle rows first) ≡ length is.points
    inner-long = cycle-long now rows parts local first left (there left (Contains-first left (right ∷ map placed m.boundaries))) on-ring.0 ∙ least-long is.points

    pub outer-long : length (cycle rows (twin first)) ≡ length is.points
    outer-long =
        cycle-long now rows parts local (twin first) right (there right (Contains-later left (right ∷ map placed m.boundaries) right (Contains-first right (map placed m.boundaries)))) on-ring.1
        ∙ least-long (reverse is.points) ∙ length-reverse is.points

    -- the rings that pass over, with the new one
    pub moved-long : (old : HalfRows) → ((h : Half) → IsShown m h → IsShown now h) → ((h : Half) → IsShown m h → side_by rows h ≡ side_by old h)
        → (moved : List Half) → AreOfHoles m old face is.points moved → length is.points + cycles_length rows moved ≤ sides_of_face inner now
    moved-long old shown sides moved of =
        let few = parcel-long in
        let total = sum_by-IsPermutation long (map (home_of m old) moved) (filter (moves_in m face is.points) m.boundaries) of.all in
        let each =
        cycles moved (All-from_each (λ h. length (cycle rows h) ≡ long (home_of m old h)) moved (λ h among. one h among)) in
        omega (arith, few, total, each)
      where
        cycles : (hs : List Half) → AllByRecursion (λ h. length (cycle rows h) ≡ long (home_of m old h)) hs
            → cycles_length rows hs ≡ sum_by long (map (home_of m old) hs)
        cycles [] all = refl
        cycles (h ∷ hs) all =
            let rest = cycles hs all.1 in
            let here = all.0 in
            let sum = sum_by-cons long (home_of m old h) (map (home_of m old) hs) in
            omega (arith, rest, here, sum)

        one : (h : Half) → Contains moved h → length (cycle rows h) ≡ long (home_of m old h)
        one h among =
            let b = home_of m old h in
            let at = filter-Contains (moves_in m face is.points) m.boundaries b
            (Contains-permutation (map (home_of m old) moved) (filter (moves_in m face is.points) m.boundaries) b of.all (Contains-map (home_of m old) moved h among)) in
            cycle-long now rows parts local h (placed b)
            (there (placed b) (Contains-later left (right ∷ map placed m.boundaries) (placed b) (Contains-later right (map placed m.boundaries) (placed b) (Contains-map placed m.boundaries b at.0))))
            (on-placed m now (encloses.whole m face numbers added parcel path is) face inner is.points (encloses.none m face numbers added parcel path is) shown old rows sides b h
            (All-at_each (λ h. IsOnRing m old (home_of m old h) h) moved h of.on among))
            ∙ ap length (ring-hole_placed m face inner is.points b)

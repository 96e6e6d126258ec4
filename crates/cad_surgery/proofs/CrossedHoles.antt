-- Of the holes that a chain puts on its left, those that it doesn't cut, and what is told of them after a division.
use Rattle.std.proofs.Common.{◌≡◌, Bool, true, false, true≢false, not, refl, sym, ap, subst, ◌∙◌, List, [], ◌∷◌, map, filter, cond, if◌then◌else◌}
use Rattle.std.specs.Prelude.{IsPermutation}
use Rattle.std.specs.List.{Contains}
use Rattle.std.proofs.lemmas.List.Sorted.{Contains-permutation, IsPermutation-map, IsPermutation-sym}
use Rattle.cad_rows.specs.declared.names.Face.{Face}
use Rattle.cad_rings.specs.Cycle.{Ring, Side, has_side, sides_of, Corner, IsSameRing}
use Rattle.cad_map.specs.declared.boundary.Boundary.{Boundary}
use Rattle.cad_map.specs.Boundaries.{bounding, is_face}
use Rattle.cad_map.specs.Chain.{leaving}
use Rattle.cad_map.specs.Division.{hole_placed}
use Rattle.cad_map.specs.Map.{Map, all_sides, has_face}
use Rattle.cad_map.specs.Rings.{HasWholeRings}
use Rattle.cad_map.proofs.CallerLemmas.{All-at_each, All-from_each, Contains-filter, Contains-has_side, Contains-map, filter-Contains, has_side-Contains, is_face-refl, is_face-same, map-Contains, once-from_pairs}
use Rattle.half_table.specs.declared.half.Half.{Half}
use Rattle.half_table.specs.Rows.{HalfRows}
use Rattle.cad_laws.specs.Faces.{uncut}
use Rattle.cad_laws.specs.Local.{IsShown, side_by}
use Rattle.map_parts.specs.Handing.{home_of}
use Rattle.map_parts.specs.Islands.{AreOfRings}
use Rattle.map_parts.specs.Labels.{IsOnRing}
use Rattle.map_parts.specs.Placed.{moves_in, AreOfHoles}
use Rattle.map_parts.proofs.CycleRings.{map-map}
use Rattle.map_parts.proofs.KeptEach.{home-is, map-cong}
use Rattle.map_parts.proofs.PlacedHalves.{on-placed, placed-face}
use Rattle.map_parts.proofs.ToHalves.{one_part}
use Rattle.cad_surgery.proofs.CrossedRing.{side-on, side-from}
use Rattle.cad_surgery.proofs.HeldEnclosures.{filter-same}
use Rattle.cad_surgery.proofs.MovedHalves.{filter-of_map, filter-permuted}

-- two tests one after the other
filter-swapped : {X : Type 0} (p q : X → Bool) (xs : List X) → filter p (filter q xs) ≡ filter q (filter p xs)
filter-swapped p q [] = refl
filter-swapped {X} p q (x ∷ xs) = by (p x) (q x) refl refl (filter-swapped p q xs)
  where
    by : (a b : Bool) → p x ≡ a → q x ≡ b → filter p (filter q xs) ≡ filter q (filter p xs) → filter p (filter q (x ∷ xs)) ≡ filter q (filter p (x ∷ xs))
    by true true is also rest =
        ap (λ (t : Bool). filter p (cond t (x ∷ filter q xs) (filter q xs))) also ∙ ap (λ (t : Bool). cond t (x ∷ filter p (filter q xs)) (filter p (filter q xs))) is ∙ ap (λ (l : List X). x ∷ l) rest
        ∙ sym (ap (λ (t : Bool). filter q (cond t (x ∷ filter p xs) (filter p xs))) is ∙ ap (λ (t : Bool). cond t (x ∷ filter q (filter p xs)) (filter q (filter p xs))) also)
    by true false is also rest =
        ap (λ (t : Bool). filter p (cond t (x ∷ filter q xs) (filter q xs))) also ∙ rest
        ∙ sym (ap (λ (t : Bool). filter q (cond t (x ∷ filter p xs) (filter p xs))) is ∙ ap (λ (t : Bool). cond t (x ∷ filter q (filter p xs)) (filter q (filter p xs))) also)
    by false true is also rest =
        ap (λ (t : Bool). filter p (cond t (x ∷ filter q xs) (filter q xs))) also ∙ ap (λ (t : Bool). cond t (x ∷ filter p (filter q xs)) (filter p (filter q xs))) is ∙ rest
        ∙ sym (ap (λ (t : Bool). filter q (cond t (x ∷ filter p xs) (filter p xs))) is)
    by false false is also rest =
        ap (λ (t : Bool). filter p (cond t (x ∷ filter q xs) (filter q xs))) also ∙ rest ∙ sym (ap (λ (t : Bool). filter q (cond t (x ∷ filter p xs) (filter p xs))) is)

-- ---- Without the ring that is cut

module _ (m : Map) (whole : HasWholeRings m) (rows : HalfRows) (cut : Boundary) (there : Contains m.boundaries cut) (first : Corner)
    (has_first : Contains (sides_of cut.ring) (leaving first)) (ring : Ring) (same : IsSameRing cut.ring ring)
    (face : Face) (left : Ring) (holes : List Half) (of : AreOfHoles m rows face left holes) where
  abbrev off : Half → Bool
  off h = not (has_side (side_by rows h) (sides_of ring))

  abbrev stays : Boundary → Bool
  stays b = not (has_side (leaving first) (sides_of b.ring))

  abbrev moves : Boundary → Bool
  moves = moves_in m face left

  abbrev home : Half → Boundary
  home = home_of m rows

  home-there : (h : Half) → Contains holes h → Contains m.boundaries (home h)
  home-there h among =
      (filter-Contains moves m.boundaries (home h) (Contains-permutation (map home holes) (filter moves m.boundaries) (home h) of.all (Contains-map home holes h among))).0

  home-on : (h : Half) → Contains holes h → IsOnRing m rows (home h) h
  home-on h among = All-at_each (λ h. IsOnRing m rows (home_of m rows h) h) holes h of.on among

  -- two rings with one side are one
  one : (s : Side) (b c : Boundary) → Contains m.boundaries b → Contains m.boundaries c → Contains (sides_of b.ring) s → Contains (sides_of c.ring) s → b ≡ c
  one s b c b_in c_in on too = one_part (λ (b : Boundary). sides_of b.ring) s m.boundaries b c (once-from_pairs (all_sides m) whole.once s) b_in c_in on too

  -- a half is off the ring where its ring isn't cut
  off-same : (h : Half) → Contains holes h → off h ≡ stays (home h)
  off-same h among = by (has_side (side_by rows h) (sides_of ring)) (has_side (leaving first) (sides_of (home h).ring)) refl refl
    where
      by : (a b : Bool) → has_side (side_by rows h) (sides_of ring) ≡ a → has_side (leaving first) (sides_of (home h).ring) ≡ b → off h ≡ stays (home h)
      by true true is also = ap not (is ∙ sym also)
      by false false is also = ap not (is ∙ sym also)
      by true false is also =
          let same_ring : home h ≡ cut =
          one (side_by rows h) (home h) cut (home-there h among) there (home-on h among).side (side-from m whole cut there ring same (side_by rows h) is) in
          absurd (true≢false
          (sym (Contains-has_side (leaving first) (sides_of (home h).ring) (subst (λ (b : Boundary). Contains (sides_of b.ring) (leaving first)) (sym same_ring) has_first)) ∙ also))
      by false true is also =
          let same_ring : home h ≡ cut =
          one (leaving first) (home h) cut (home-there h among) there (has_side-Contains (leaving first) (sides_of (home h).ring) also) has_first in
          absurd (true≢false
          (sym (side-on m whole cut there ring same (side_by rows h) (subst (λ (b : Boundary). Contains (sides_of b.ring) (side_by rows h)) same_ring (home-on h among).side)) ∙ is))

  module _ (moved : List Half) (moved_is : moved ≡ filter off holes) where
    pub moved-on : (h : Half) → Contains moved h → IsOnRing m rows (home h) h
    moved-on h among = home-on h (filter-Contains off holes h (subst (λ (l : List Half). Contains l h) moved_is among)).0

    -- one half of each ring that moves and isn't cut
    pub moved-all : IsPermutation (map home moved) (filter moves (uncut m first))
    moved-all =
        let told : map home moved ≡ filter stays (map home holes) =
        ap (map home) (moved_is ∙ filter-same off (λ h. stays (home h)) holes off-same) ∙ sym (filter-of_map stays home holes) in
        subst (λ (l : List Boundary). IsPermutation l (filter moves (uncut m first))) (sym told)
        (subst (IsPermutation (filter stays (map home holes))) (filter-swapped stays moves m.boundaries)
        (filter-permuted stays (map home holes) (filter moves m.boundaries) of.all))

-- ---- Where they go

module _ (m now : Map) (whole : HasWholeRings m) (whole_now : HasWholeRings now) (face new : Face) (ring : Ring) (none : has_face m new ≡ false)
    (shown : (h : Half) → IsShown m h → IsShown now h) (rows : HalfRows) (bs : List Boundary)
    (were : (b : Boundary) → Contains bs b → Contains m.boundaries b)
    (are : (b : Boundary) → Contains (map (hole_placed m face new ring) bs) b → Contains now.boundaries b)
    (moved : List Half) (on : (h : Half) → Contains moved h → IsOnRing m rows (home_of m rows h) h)
    (all : IsPermutation (map (home_of m rows) moved) (filter (moves_in m face ring) bs)) where
  abbrev placed : Boundary → Boundary
  placed = hole_placed m face new ring

  abbrev goes : Boundary → Bool
  goes = moves_in m face ring

  abbrev own : Boundary → Bool
  own b = is_face new b.face

  on-now : (b : Boundary) (h : Half) → IsOnRing m rows b h → IsOnRing now rows (placed b) h
  on-now b h at = on-placed m now whole face new ring none shown rows rows (λ g shown. refl) b h at

  goes-own : (b : Boundary) → Contains bs b → own (placed b) ≡ goes b
  goes-own b among = by (goes b) refl
    where
      by : (t : Bool) → goes b ≡ t → own (placed b) ≡ goes b
      by true is = ap (is_face new) (placed-face m now whole face new ring none shown rows rows (λ g shown. refl) b is) ∙ is_face-refl new ∙ sym is
      by false is = other (own (placed b)) refl
        where
          other : (t : Bool) → own (placed b) ≡ t → own (placed b) ≡ goes b
          other false also = also ∙ sym is
          other true also =
              absurd (true≢false
              (sym (All-at_each (λ b. has_face m b.face ≡ true) m.boundaries b whole.v1.faces_of_rings (were b among))
              ∙ ap (has_face m) (ap (λ (t : Bool). (if t then bounding new b.ring else b).face) (sym is) ∙ sym (is_face-same new (placed b).face also)) ∙ none))

  of-home : (h : Half) → Contains moved h → Contains bs (home_of m rows h) × (goes (home_of m rows h) ≡ true)
  of-home h among =
      filter-Contains goes bs (home_of m rows h)
      (Contains-permutation (map (home_of m rows) moved) (filter goes bs) (home_of m rows h) all (Contains-map (home_of m rows) moved h among))

  -- the halves are of the rings that pass over
  pub moved-placed : AreOfRings now rows moved new (map placed bs)
  moved-placed = record {
    each = All-from_each (λ h. (b : Boundary) × Contains (map placed bs) b × IsOnRing now rows b h × (b.face ≡ new)) moved (λ h among.
        let b = home_of m rows h in
        let at = of-home h among in
        (placed b, Contains-map placed bs b at.0, on-now b h (on h among), sym (is_face-same new (placed b).face (goes-own b at.0 ∙ at.1))));
    all = λ b among is.
        let from = map-Contains placed bs b among in
        let moves = sym (goes-own from.0 from.1) ∙ ap (λ (c : Boundary). own c) from.2 ∙ ap (is_face new) is ∙ is_face-refl new in
        let half =
        map-Contains (home_of m rows) moved from.0
        (Contains-permutation (filter goes bs) (map (home_of m rows) moved) from.0 (IsPermutation-sym (map (home_of m rows) moved) (filter goes bs) all)
        (Contains-filter goes bs from.0 from.1 moves)) in
        (half.0, half.1, subst (λ (c : Boundary). IsOnRing now rows c half.0) from.2 (on-now from.0 half.0 (subst (λ (c : Boundary). IsOnRing m rows c half.0) half.2 (on half.0 half.1))));
  }

  -- just one of each
  pub placed-once : IsPermutation (map (home_of now rows) moved) (filter own (map placed bs))
  placed-once =
      let homes : map (home_of now rows) moved ≡ map placed (map (home_of m rows) moved) =
      map-cong (home_of now rows) (λ h. placed (home_of m rows h)) moved (λ h among.
      let b = home_of m rows h in
      home-is now whole_now rows (placed b) (are (placed b) (Contains-map placed bs b (of-home h among).0)) h (on-now b h (on h among)))
      ∙ sym (map-map placed (home_of m rows) moved) in
      let told : filter own (map placed bs) ≡ map placed (filter goes bs) =
      filter-of_map own placed bs ∙ ap (map placed) (filter-same (λ b. own (placed b)) goes bs goes-own) in
      subst (λ (l : List Boundary). IsPermutation l (filter own (map placed bs))) (sym homes)
      (subst (IsPermutation (map placed (map (home_of m rows) moved))) (sym told) (IsPermutation-map placed (map (home_of m rows) moved) (filter goes bs) all))

-- What a record of an enclosure says of the rings that passed over, and what the table says.
use Rattle.std.proofs.Common.{◌≡◌, ◌≢◌, ℕ, ◌≤◌, ◌&&◌, not, inl, inr, Bool, true, false, true≢false, refl, sym, ap, subst, ◌∙◌, List, [], ◌∷◌, ◌++◌, map, filter, reverse, length, Some, cond, if◌then◌else◌, ◌==◌, arith}
use Rattle.std.specs.Prelude.{IsPermutation, count_by}
use Rattle.std.specs.List.{AllByRecursion, Contains}
use Rattle.std.proofs.lemmas.List.{length-map}
use Rattle.std.proofs.lemmas.List.Sums.{length-filter, sum_by-cons}
use Rattle.std.proofs.lemmas.List.Sorted.{Contains-permutation, IsPermutation-append_left, IsPermutation-cons, IsPermutation-filter_both, IsPermutation-map, IsPermutation-middle, IsPermutation-refl, IsPermutation-sym, IsPermutation-trans, length_permutation, sum_by-IsPermutation}
use Rattle.cad_rows.specs.declared.names.Face.{Face}
use Rattle.cad_rows.specs.declared.names.Face.TheVariants.{Parcel}
use Rattle.cad_rows.specs.declared.rows.StringRow.{StringRow}
use Rattle.cad_rings.specs.Cycle.{Ring, Side, has_side, sides_along, sides_of}
use Rattle.cad_map.specs.declared.boundary.Boundary.{Boundary}
use Rattle.cad_map.specs.Boundaries.{is_face, bounding, canonical_form}
use Rattle.cad_map.specs.Chain.{start_of, next_of, strings_along}
use Rattle.cad_map.specs.Division.{hole_placed}
use Rattle.cad_map.specs.Effects.{after}
use Rattle.cad_map.specs.Map.{Map, all_sides, has_face}
use Rattle.cad_map.specs.Rings.{HasWholeRings}
use Rattle.numbered_rows.specs.Rows.{row_with}
use Rattle.cad_map.proofs.CallerLemmas.{CanEnclose as IsAllowed, All-at_each, All-from_each, Contains-cases, Contains-first, Contains-later, Contains-map, Contains-flat_map, Contains-filter, filter-Contains, map-Contains, Contains-has_side, has_side-Contains, is_face-same, is_face-refl, ring-hole_placed, is_division-enclosed, count-no, count-map}
use Rattle.half_table.specs.declared.half.Half.{Half}
use Rattle.half_table.specs.Rows.{HalfRows}
use Rattle.cad_laws.specs.Counts.{sides_of_face}
use Rattle.cad_laws.specs.Local.{IsLocal}
use Rattle.map_parts.specs.Handing.{home_of}
use Rattle.edit_records.specs.HeldChains.{IsOfRing, rings_beside, HeldIsland}
use Rattle.map_parts.specs.Islands.{AreOfRings}
use Rattle.map_parts.specs.Labels.{IsOnRing}
use Rattle.map_parts.specs.Parts.{HasHalves}
use Rattle.map_parts.specs.Placed.{moves_in, AreOfHoles}
use Rattle.map_parts.specs.Enclosing.{IsEnclosing, enclosed, rings_placed}
use Rattle.map_parts.specs.Relabelled.{cycles_length}
use Rattle.cad_surgery.proofs.EnclosedWork.{on-ring}
use Rattle.map_parts.proofs.Enclosing as encloses
use Rattle.map_parts.proofs.KeptEach.{home-is, pick}
use Rattle.cad_surgery.proofs.MovedHalves.{filter-permuted}
use Rattle.cad_surgery.proofs.NamedRings.{named-on, on-named}
use Rattle.cad_surgery.proofs.RingLengths.{face-lengths}
use Rattle.map_parts.proofs.RingsOnce.{stands-once}

both : (a b : Bool) → (a && b) ≡ true → (a ≡ true) × (b ≡ true)
both true true h = (refl, refl)
both true false h = cc
both false b h = cc

-- the first side of a ring
pub first-of_ring : (points : List ℕ) → 2 ≤ length points → Contains (sides_of points) (start_of points, next_of points)
first-of_ring [] long = absurd (omega (arith, long))
first-of_ring (a ∷ []) long = absurd (omega (arith, long))
first-of_ring (a ∷ b ∷ points) long = Contains-first (a, b) (sides_along b points a)

-- ---- Halves that name each of some rings

-- none of them stands twice
abbrev StandOnce : List Boundary → Type 0
StandOnce bs = (b : Boundary) (rest : List Boundary) → IsPermutation bs (b ∷ rest) → Contains rest b → ⊥

-- as many halves as rings, and one for each ring: one half of each
onto : (f : Half → Boundary) (bs : List Boundary) (hs : List Half) → length hs ≡ length bs
    → ((b : Boundary) → Contains bs b → Contains (map f hs) b) → StandOnce bs → IsPermutation (map f hs) bs
onto f [] [] long all once = IsPermutation-refl []
onto f [] (h ∷ hs) long all once = absurd (omega (arith, long))
onto f (y ∷ ys) hs long all once =
    let at = pick f y hs (all y (Contains-first y ys)) in
    let moved = IsPermutation-map f hs (at.0 ∷ at.1) at.2 in
    let same_long = length_permutation hs (at.0 ∷ at.1) at.2 in
    let rest = onto f ys at.1 (omega (arith, long, same_long)) (left_over at.0 at.1 at.3 moved) once_rest in
    IsPermutation-trans (map f hs) (f at.0 ∷ map f at.1) (y ∷ ys) moved
    (subst (λ (b : Boundary). IsPermutation (b ∷ map f at.1) (y ∷ ys)) (sym at.3) (IsPermutation-cons y (map f at.1) ys rest))
  where
    once_rest : StandOnce ys
    once_rest b rest same again =
        once b (y ∷ rest)
        (IsPermutation-trans (y ∷ ys) (y ∷ b ∷ rest) (b ∷ y ∷ rest) (IsPermutation-cons y ys (b ∷ rest) same) (IsPermutation-middle (y ∷ []) b rest))
        (Contains-later y rest b again)

    left_over : (x : Half) (xs : List Half) → f x ≡ y → IsPermutation (map f hs) (f x ∷ map f xs) → (b : Boundary) → Contains ys b → Contains (map f xs) b
    left_over x xs is moved b there =
        elim (Contains-cases (f x) (map f xs) b (Contains-permutation (map f hs) (f x ∷ map f xs) b moved (all b (Contains-later y ys b there)))) [
          | inl same ↦ absurd (once y ys (IsPermutation-refl (y ∷ ys)) (subst (λ (c : Boundary). Contains ys c) (sym (sym is ∙ same)) there))
          | inr later ↦ later
        ]

first-part : {X : Type 0} (xs ys : List X) (x : X) → Contains xs x → Contains (xs ++ ys) x
first-part [] ys x there = let low = there.1 in absurd (omega (arith, low))
first-part (z ∷ xs) ys x there = elim (Contains-cases z xs x there) [
  | inl same ↦ subst (Contains (z ∷ xs ++ ys)) same (Contains-first z (xs ++ ys))
  | inr later ↦ Contains-later z (xs ++ ys) x (first-part xs ys x later)
]

pub filter-same : {X : Type 0} (f g : X → Bool) (bs : List X) → ((b : X) → Contains bs b → f b ≡ g b) → filter f bs ≡ filter g bs
filter-same f g [] same = refl
filter-same f g (b ∷ bs) same =
    let rest = filter-same f g bs (λ c h. same c (Contains-later b bs c h)) in
    λ i. cond (same b (Contains-first b bs) i) (b ∷ rest i) (rest i)

-- a row that is found is found with more rows behind
pub found-more : (n : ℕ) (rows more : List StringRow) (row : StringRow) → row_with (λ (r : StringRow). r.number) n rows ≡ Some row
    → row_with (λ (r : StringRow). r.number) n (rows ++ more) ≡ Some row
found-more n [] more row is = cc
found-more n (r ∷ rows) more row is = by (r.number == n) refl (λ h. found-more n rows more row h)
  where
    by : (t : Bool) → (r.number == n) ≡ t → (row_with (λ (r : StringRow). r.number) n rows ≡ Some row → row_with (λ (r : StringRow). r.number) n (rows ++ more) ≡ Some row)
        → row_with (λ (r : StringRow). r.number) n (r ∷ rows ++ more) ≡ Some row
    by true e rest =
        ap (λ (t : Bool). cond t (Some r) (row_with (λ (r : StringRow). r.number) n (rows ++ more))) e
        ∙ sym (ap (λ (t : Bool). cond t (Some r) (row_with (λ (r : StringRow). r.number) n rows)) e) ∙ is
    by false e rest =
        ap (λ (t : Bool). cond t (Some r) (row_with (λ (r : StringRow). r.number) n (rows ++ more))) e
        ∙ rest (sym (ap (λ (t : Bool). cond t (Some r) (row_with (λ (r : StringRow). r.number) n rows)) e) ∙ is)

and_not : (t : Bool) → (t && not false) ≡ t
and_not true = refl
and_not false = refl

-- ---- Of an enclosure

module _ (m : Map) (face : Face) (numbers : List ℕ) (added : List StringRow) (parcel : ℕ) (path : List Half)
    (is : IsEnclosing m face numbers added parcel path) where
  abbrev now : Map
  now = enclosed is

  abbrev inner : Face
  inner = Parcel parcel

  abbrev left : Boundary
  left = canonical_form (bounding inner is.points)

  abbrev right : Boundary
  right = canonical_form (bounding face (reverse is.points))

  abbrev placed : Boundary → Boundary
  placed = hole_placed m face inner is.points

  abbrev s : Side
  s = (start_of is.points, next_of is.points)

  -- another ring of the parcel
  abbrev beside : Boundary → Bool
  beside b = is_face inner b.face && not (has_side s (sides_of b.ring))

  were : IsPermutation now.boundaries (left ∷ right ∷ map placed m.boundaries)
  were = (encloses.island m face numbers added parcel path is).were

  in_ring : Contains (sides_of is.points) s
  in_ring =
      let long = (encloses.can m face numbers added parcel path is).long in
      first-of_ring is.points (omega (arith, long))

  in_left : has_side s (sides_of left.ring) ≡ true
  in_left =
      Contains-has_side s (sides_of left.ring)
      (Contains-permutation (sides_of is.points) (sides_of left.ring) s (encloses.island m face numbers added parcel path is).left_sides in_ring)

  -- no ring that was there has the side
  not_old : (b : Boundary) → Contains m.boundaries b → has_side s (sides_of b.ring) ≡ false
  not_old b there = by (has_side s (sides_of b.ring)) refl
    where
      none : (points : List ℕ) → points ≡ is.points → Contains (sides_of points) s → Contains (all_sides m) s → ⊥
      none [] same within old = let low = within.1 in omega (arith, low)
      none (a ∷ points) same within old =
          (is_division-enclosed m is.tried.valid face a points numbers parcel is.label is.source
          (subst (λ (p : List ℕ). IsAllowed m face p numbers parcel is.label is.source) (sym same) (encloses.can m face numbers added parcel path is))).new s within old

      by : (t : Bool) → has_side s (sides_of b.ring) ≡ t → has_side s (sides_of b.ring) ≡ false
      by false e = e
      by true e =
          absurd (none is.points refl in_ring
          (Contains-flat_map (λ (c : Boundary). sides_of c.ring) m.boundaries b s there (has_side-Contains s (sides_of b.ring) e)))

  not_placed : (b : Boundary) → Contains m.boundaries b → has_side s (sides_of (placed b).ring) ≡ false
  not_placed b there = ap (λ (r : Ring). has_side s (sides_of r)) (ring-hole_placed m face inner is.points b) ∙ not_old b there

  not_left : beside left ≡ false
  not_left = ap (λ (t : Bool). is_face inner inner && not t) in_left ∙ none (is_face inner inner)
    where
      none : (t : Bool) → (t && false) ≡ false
      none true = refl
      none false = refl

  not_right : beside right ≡ false
  not_right = by (is_face inner face) refl
    where
      by : (t : Bool) → is_face inner face ≡ t → (is_face inner face && not (has_side s (sides_of right.ring))) ≡ false
      by true e = absurd ((encloses.island m face numbers added parcel path is).differ (sym (is_face-same inner face e)))
      by false e = ap (λ (t : Bool). t && not (has_side s (sides_of right.ring))) e

  -- another ring of the parcel is one that passed over
  beside-placed : (b : Boundary) → Contains now.boundaries b → beside b ≡ true → Contains (map placed m.boundaries) b
  beside-placed b there test =
      elim (Contains-cases left (right ∷ map placed m.boundaries) b (Contains-permutation now.boundaries (left ∷ right ∷ map placed m.boundaries) b were there)) [
        | inl first ↦ absurd (true≢false (sym test ∙ ap beside (sym first) ∙ not_left))
        | inr more ↦ elim (Contains-cases right (map placed m.boundaries) b more) [
          | inl second ↦ absurd (true≢false (sym test ∙ ap beside (sym second) ∙ not_right))
          | inr later ↦ later
        ]
      ]

  placed-there : (b : Boundary) → Contains (map placed m.boundaries) b → Contains now.boundaries b
  placed-there b there =
      Contains-permutation (left ∷ right ∷ map placed m.boundaries) now.boundaries b
      (IsPermutation-sym now.boundaries (left ∷ right ∷ map placed m.boundaries) were)
      (Contains-later left (right ∷ map placed m.boundaries) b (Contains-later right (map placed m.boundaries) b there))

  placed-beside : (b : Boundary) → Contains m.boundaries b → (placed b).face ≡ inner → beside (placed b) ≡ true
  placed-beside b there face_is =
      (λ i. (ap (is_face inner) face_is ∙ is_face-refl inner) i && not (not_placed b there i))

  -- what the record says is so in the table
  pub named-rings : (rows : HalfRows) → AllByRecursion (HasHalves rows) now.strings → (moved : List Half)
      → HeldIsland now inner is.points moved → AreOfRings now rows moved inner (rings_placed is)
  named-rings rows ends moved it = record {
    each = All-from_each (λ h. (b : Boundary) × Contains (rings_placed is) b × IsOnRing now rows b h × (b.face ≡ inner)) moved (λ h among.
        let at = All-at_each (λ h. (b : Boundary) × Contains (rings_beside now inner s) b × IsOfRing now b h) moved h it.each among in
        let in_it = filter-Contains beside now.boundaries at.0 at.1 in (
          at.0,
          beside-placed at.0 in_it.0 in_it.1,
          named-on now rows ends at.0 h at.2,
          sym (is_face-same inner at.0.face (both (is_face inner at.0.face) (not (has_side s (sides_of at.0.ring))) in_it.1).0),
        ));
    all = λ b there face_is.
        let from = map-Contains placed m.boundaries b there in
        let test = subst (λ (c : Boundary). beside c ≡ true) from.2 (placed-beside from.0 from.1 (ap (λ (c : Boundary). c.face) from.2 ∙ face_is)) in
        let at = it.all b (Contains-filter beside now.boundaries b (placed-there b there) test) in
        (at.0, at.1, named-on now rows ends b at.0 at.2);
  }

  -- they are as many as the holes that move
  whole_faces : (b : Boundary) → Contains m.boundaries b → b.face ≢ inner
  whole_faces b there same =
      true≢false
      (sym (All-at_each (λ b. has_face m b.face ≡ true) m.boundaries b (encloses.whole m face numbers added parcel path is).v1.faces_of_rings there)
      ∙ ap (has_face m) same ∙ encloses.none m face numbers added parcel path is)

  beside-moves : (b : Boundary) → Contains m.boundaries b → beside (placed b) ≡ moves_in m face is.points b
  beside-moves b there = by (moves_in m face is.points b) refl
    where
      by : (t : Bool) → moves_in m face is.points b ≡ t → beside (placed b) ≡ t
      by true moves = placed-beside b there (ap (λ (t : Bool). (if t then bounding inner b.ring else b).face) moves)
      by false stays = other (is_face inner (placed b).face) refl
        where
          other : (t : Bool) → is_face inner (placed b).face ≡ t → beside (placed b) ≡ false
          other true e =
              absurd (whole_faces b there
              (sym (ap (λ (t : Bool). (if t then bounding inner b.ring else b).face) stays) ∙ sym (is_face-same inner (placed b).face e)))
          other false e = ap (λ (t : Bool). t && not (has_side s (sides_of (placed b).ring))) e

  pub holes-many : (old : HalfRows) (moved : List Half) → AreOfHoles m old face is.points moved
      → length moved ≡ length (rings_beside now inner s)
  holes-many old moved of =
      let one = length-map moved (home_of m old) in
      let two = length_permutation (map (home_of m old) moved) (filter (moves_in m face is.points) m.boundaries) of.all in
      let three = length-filter (moves_in m face is.points) m.boundaries in
      let four = length-filter beside now.boundaries in
      let five =
      sum_by-IsPermutation (λ b. cond (beside b) 1 0) now.boundaries (left ∷ right ∷ map placed m.boundaries) were in
      let six = count-no beside left (right ∷ map placed m.boundaries) not_left in
      let seven = count-no beside right (map placed m.boundaries) not_right in
      let eight = count-map placed beside m.boundaries in
      let nine = count-same (λ b. beside (placed b)) (moves_in m face is.points) m.boundaries beside-moves in
      omega (arith, one, two, three, four, five, six, seven, eight, nine)
    where
      count-same : (f g : Boundary → Bool) (bs : List Boundary) → ((b : Boundary) → Contains bs b → f b ≡ g b) → count_by f bs ≡ count_by g bs
      count-same f g [] same = refl
      count-same f g (b ∷ bs) same =
          let rest = count-same f g bs (λ c h. same c (Contains-later b bs c h)) in
          let here = same b (Contains-first b bs) in
          let one = sum_by-cons (λ c. cond (f c) 1 0) b bs in
          let two = sum_by-cons (λ c. cond (g c) 1 0) b bs in
          let weigh : Bool → ℕ = λ t. cond t 1 0 in
          let first : weigh (f b) ≡ weigh (g b) = ap weigh here in
          omega (arith, rest, one, two, first)

  -- a half of a ring that was there is of it where it goes
  of-now : (b : Boundary) (h : Half) → IsOfRing m b h → IsOfRing now (placed b) h
  unfolding after
  of-now b h it = record {
    side = it.side;
    along = record {
      row = it.along.row;
      there = found-more h.string m.strings (strings_along (is.source ∷ []) numbers (is.points ++ start_of is.points ∷ [])) it.along.row it.along.there;
      is = it.along.is;
    };
    on = subst (λ (r : Ring). Contains (sides_of r) it.side) (sym (ring-hole_placed m face inner is.points b)) it.on;
  }

  -- one half of each of the holes that move names the rings that pass over
  pub holes-named : (old : HalfRows) → AllByRecursion (HasHalves old) m.strings → (moved : List Half) → AreOfHoles m old face is.points moved
      → HeldIsland now inner is.points moved
  holes-named old ends moved of = record {
    each = All-from_each (λ h. (b : Boundary) × Contains (rings_beside now inner s) b × IsOfRing now b h) moved (λ h among.
        let b = home_of m old h in
        let at = filter-Contains (moves_in m face is.points) m.boundaries b
        (Contains-permutation (map (home_of m old) moved) (filter (moves_in m face is.points) m.boundaries) b of.all (Contains-map (home_of m old) moved h among)) in (
          placed b,
          Contains-filter beside now.boundaries (placed b) (placed-there (placed b) (Contains-map placed m.boundaries b at.0)) (beside-moves b at.0 ∙ at.1),
          of-now b h (on-named m old ends b h (All-at_each (λ h. IsOnRing m old (home_of m old h) h) moved h of.on among)),
        ));
    all = λ b there.
        let at = filter-Contains beside now.boundaries b there in
        let from = map-Contains placed m.boundaries b (beside-placed b at.0 at.1) in
        let moves = sym (beside-moves from.0 from.1) ∙ ap beside from.2 ∙ at.1 in
        let among = Contains-permutation (filter (moves_in m face is.points) m.boundaries) (map (home_of m old) moved) from.0
        (IsPermutation-sym (map (home_of m old) moved) (filter (moves_in m face is.points) m.boundaries) of.all)
        (Contains-filter (moves_in m face is.points) m.boundaries from.0 from.1 moves) in
        let h = map-Contains (home_of m old) moved from.0 among in
        let on = subst (λ (c : Boundary). IsOnRing m old c h.0) h.2 (All-at_each (λ h. IsOnRing m old (home_of m old h) h) moved h.0 of.on h.1) in
        (h.0, h.1, subst (λ (c : Boundary). IsOfRing now c h.0) from.2 (of-now from.0 h.0 (on-named m old ends from.0 h.0 on)));
    as_many = holes-many old moved of;
  }

  -- ---- One half of each ring

  now_whole : HasWholeRings now
  now_whole = encloses.parts m face numbers added parcel path is

  others : Boundary → Bool
  others b = not (beside b)

  once_beside : StandOnce (rings_beside now inner s)
  unfolding others
  once_beside b rest same again =
      stands-once now now_whole b (rest ++ filter others now.boundaries)
      (IsPermutation-trans now.boundaries (filter beside now.boundaries ++ filter others now.boundaries) (b ∷ rest ++ filter others now.boundaries)
      (IsPermutation-filter_both beside others (λ c. refl) now.boundaries)
      (IsPermutation-append_left (filter others now.boundaries) (filter beside now.boundaries) (b ∷ rest) same))
      (first-part rest (filter others now.boundaries) b again)

  beside-are : IsPermutation (rings_beside now inner s) (filter (λ b. is_face inner b.face) (map placed m.boundaries))
  beside-are =
      subst (IsPermutation (filter beside now.boundaries)) told
      (filter-permuted beside now.boundaries (left ∷ right ∷ map placed m.boundaries) were)
    where
      told : filter beside (left ∷ right ∷ map placed m.boundaries) ≡ filter (λ b. is_face inner b.face) (map placed m.boundaries)
      told =
          ap (λ (t : Bool). cond t (left ∷ filter beside (right ∷ map placed m.boundaries)) (filter beside (right ∷ map placed m.boundaries))) not_left
          ∙ ap (λ (t : Bool). cond t (right ∷ filter beside (map placed m.boundaries)) (filter beside (map placed m.boundaries))) not_right
          ∙ filter-same beside (λ b. is_face inner b.face) (map placed m.boundaries) (λ b there.
          let from = map-Contains placed m.boundaries b there in
          subst (λ (c : Boundary). beside c ≡ is_face inner c.face) from.2
          (ap (λ (t : Bool). is_face inner (placed from.0).face && not t) (not_placed from.0 from.1) ∙ and_not (is_face inner (placed from.0).face)))

  module _ (rows : HalfRows) (ends : AllByRecursion (HasHalves rows) now.strings) (moved : List Half) (it : HeldIsland now inner is.points moved) where
    homes-beside : IsPermutation (map (home_of now rows) moved) (rings_beside now inner s)
    homes-beside =
        onto (home_of now rows) (rings_beside now inner s) moved it.as_many (λ b there.
        let at = it.all b there in
        subst (Contains (map (home_of now rows) moved))
        (home-is now now_whole rows b (filter-Contains beside now.boundaries b there).0 at.0 (named-on now rows ends b at.0 at.2))
        (Contains-map (home_of now rows) moved at.0 at.1)) once_beside

    -- each ring of the parcel that passed over is named once
    pub named-once : IsPermutation (map (home_of now rows) moved) (filter (λ b. is_face inner b.face) (rings_placed is))
    named-once =
        IsPermutation-trans (map (home_of now rows) moved) (rings_beside now inner s) (filter (λ b. is_face inner b.face) (rings_placed is))
        homes-beside beside-are

-- the cycles of the halves that a record names are at most as long as the parcel's rings
pub named-length : (m : Map) (face : Face) (numbers : List ℕ) (added : List StringRow) (parcel : ℕ) (first : Half) (others : List Half)
    (is : IsEnclosing m face numbers added parcel (first ∷ others)) (rows : HalfRows) → IsLocal (enclosed is) rows
    → AllByRecursion (HasHalves rows) (enclosed is).strings → (moved : List Half) → HeldIsland (enclosed is) (Parcel parcel) is.points moved
    → cycles_length rows moved ≤ sides_of_face (Parcel parcel) (enclosed is)
named-length m face numbers added parcel first others is rows local ends moved it =
    let path = first ∷ others in
    let law = encloses.island m face numbers added parcel path is in
    let own = (encloses.added-ends m face numbers added parcel path is rows ends).1 in
    let long =
    face-lengths (enclosed is) (encloses.parts m face numbers added parcel path is) rows local (Parcel parcel)
    (canonical_form (bounding (Parcel parcel) is.points)) (canonical_form (bounding face (reverse is.points))) (rings_placed is)
    law.were law.left_face (λ e. law.differ (sym law.right_face ∙ e)) first
    (on-ring m face numbers added parcel first others is rows local own).0 moved
    (named-rings m face numbers added parcel path is rows ends moved it) (named-once m face numbers added parcel path is rows ends moved it) in
    omega (arith, long)

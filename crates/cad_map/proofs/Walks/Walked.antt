-- What a walk along a ring of a map has given, and what is summed and counted on the way.
use Rattle.std.proofs.Common.{◌≡◌, ℕ, ◌+◌, ◌*◌, ◌%◌, ◌<◌, ◌≤◌, refl, sym, ap, subst, ◌∙◌, List, [], ◌∷◌, ◌++◌, length, map, min, fold, Bool, true, false, not, cond, nat_eq, arith, slice_get, Option, Some, find, length-append, ℤ, pos, negsuc, ◌+ℤ◌, unsigned_abs, FitsSigned}
use Rattle.std.proofs.lemmas.List.{map-append, length-map}
use Rattle.std.proofs.lemmas.List.Sums.{sum_by-cons, sum_by-append}
use Rattle.std.proofs.lemmas.List.Sorted.{Contains-permutation}
use Rattle.std.proofs.lemmas.Bool.{eqb-true, eqb-false}
use Rattle.std.proofs.lemmas.Int.{ints}
use Rattle.std.specs.Int.{w128}
use Rattle.std.specs.Prelude.{◌==◌, IsTrue, option_and_then, option_map, unwrap_or, count_by}
use Rattle.std.specs.List.{AllByRecursion, Contains}
use Rattle.std.specs.Iterator.{Yields}
use Rattle.geo_exact.specs.Position.{Position, InRange, OnTheMap}
use Rattle.geo_exact.specs.Measure.{Measure, IsBounded, sum_over}
use Rattle.geo_exact.specs.Inside.{is_inside, is_counted}
use Rattle.geo_exact.proofs.CallerLemmas.{sum_over-append, sum_over-bounded}
use Rattle.cad_rows.specs.declared.names.Face.{Face}
use Rattle.cad_rows.specs.declared.rows.PointRow.{PointRow}
use Rattle.cad_rings.specs.Cycle.{Ring, Side, sides_along, sides_of, placed, anchor_of}
use Rattle.cad_rings.proofs.CallerLemmas.{anchor_of-Contains}
use Rattle.cad_map.specs.declared.boundary.Boundary.{Boundary}
use Rattle.cad_map.specs.Boundaries.{canonical_order, sides_in}
use Rattle.cad_map.specs.Map.{Map, origin, has_point, position_of, rings_at, all_sides}
use Rattle.cad_map.specs.Valid.{HasSoundRows}
use Rattle.cad_map.specs.Walk.{first_side, Walking, sides_ahead, GoesOn, GivesNext, IsOnRing}
use Rattle.cad_map.proofs.Lists.EachElement.{All-map}
use Rattle.cad_map.proofs.Lists.Elements.{All-at_each, All-from_each, Contains-flat_map}
use Rattle.cad_map.proofs.Walks.AlongRing.{begins_with, first-there, on_ring-begins, on_ring-yields, on_ring-ends, on_ring-side, on_ring-Contains}
use Rattle.cad_map.specs.Rings.{HasWholeRings, ring_at}
use Rattle.cad_map.proofs.Boundaries.RingsOfMap.{rings_of_map, ring-there, ring-sides-few, ring-points, side_told}

-- ---- A walk along the ring at a place

-- the first points of the sides are the points of the ring
along : (a : ℕ) (points : List ℕ) (z : ℕ) → map (λ (t : Side). t.0) (sides_along a points z) ≡ a ∷ points
along a [] z = refl
along a (b ∷ points) z = ap (λ (l : List ℕ). a ∷ l) (along b points z)

pub first_points : (ring : Ring) → map (λ (t : Side). t.0) (sides_of ring) ≡ ring
first_points [] = refl
first_points (a ∷ points) = along a points a

module _ (m : Map) (bs : List Boundary) (whole : HasWholeRings m) (is : canonical_order bs ≡ m.boundaries) (two : AllByRecursion (λ b. 2 ≤ length b.ring) bs) (f : Face) (place : ℕ) (within : place < length (rings_at f bs)) where
  found : (b : Boundary) × Contains bs b × (b.ring ≡ ring_at bs f place)
  found = ring-there m bs whole is two f place within

  on_found : (given : List Side) (w : Walking) → IsOnRing m (ring_at bs f place) given w → IsOnRing m found.0.ring given w
  on_found given w on = subst (λ (r : Ring). IsOnRing m r given w) (sym found.2) on

  -- a side of the ring is one of the map
  pub side-in_all : (s : Side) → Contains (sides_of (ring_at bs f place)) s → Contains (all_sides m) s
  side-in_all s has =
      Contains-permutation (sides_in bs) (all_sides m) s (rings_of_map m bs whole is two).sides
      (Contains-flat_map (λ b. sides_of b.ring) bs found.0 s found.1 (subst (λ (r : Ring). Contains (sides_of r) s) (sym found.2) has))

  -- it begins at the side that is told
  pub walk-begins : (w : Walking) (first : Side) (told : Option Side) → told ≡ option_and_then first_side (slice_get (rings_at f bs) place) → told ≡ Some first
      → (follower : Side → Option ℕ) → w ≡ record { map = m; follower = follower; first = first; most = 2 * length m.strings; at = Some first } → IsOnRing m (ring_at bs f place) [] w
  walk-begins w first told same some follower stands =
      let b = found.0 in
      let begins : first_side b.ring ≡ Some first = ap first_side found.2 ∙ sym (side_told m bs whole is two f place within) ∙ sym same ∙ some in
      let few = ring-sides-few m bs whole is two b found.1 in
      let room : length (sides_of b.ring) ≤ w.most = let k = ap (λ (w : Walking). w.most) stands in omega arith in
      subst (λ (r : Ring). IsOnRing m r [] w) found.2
      (on_ring-begins m bs (rings_of_map m bs whole is two) b found.1 first w begins room
      (ap (λ (w : Walking). w.map) stands) (ap (λ (w : Walking). w.first) stands) (ap (λ (w : Walking). w.at) stands))

  -- what it has given since it began
  pub walked : {S : Type 0} (at : S → Walking) (begun s : S) → s ≡ begun → IsOnRing m (ring_at bs f place) [] (at begun)
      → (xs : List Side) (t : S) → Yields (λ s r t. GivesNext (at s) r (at t)) s xs t → IsOnRing m (ring_at bs f place) xs (at t)
  walked at begun s from begins xs t gives =
      subst (λ (r : Ring). IsOnRing m r xs (at t)) found.2
      (on_ring-yields m bs (rings_of_map m bs whole is two) found.0 found.1 at [] s xs t gives (on_found [] (at s) (subst (λ (u : _). IsOnRing m (ring_at bs f place) [] (at u)) (sym from) begins)))

  -- the first of its sides is one of the map
  pub first-in_all : (given : List Side) (w : Walking) → IsOnRing m (ring_at bs f place) given w → Contains (all_sides m) w.first
  first-in_all given w on = side-in_all w.first (first-there w.first (ring_at bs f place) on.first)

  -- both ends of the side that it gives are points of the map
  pub walked-points : (given : List Side) (w : Walking) (s : Side) (v : Walking) → IsOnRing m (ring_at bs f place) given w → GoesOn w s v → IsTrue (has_point m s.0) × IsTrue (has_point m s.1)
  walked-points given w s v on goes =
      ring-points m bs whole is two found.0 found.1 s (on_ring-Contains m bs (rings_of_map m bs whole is two) found.0 found.1 given w s (on_found given w on) goes.here)

  -- and that side is one of the ring
  pub walked-side : (given : List Side) (w : Walking) (s : Side) (v : Walking) → IsOnRing m (ring_at bs f place) given w → GoesOn w s v → Contains (sides_of (ring_at bs f place)) s
  walked-side given w s v on goes =
      subst (λ (r : Ring). Contains (sides_of r) s) found.2 (on_ring-Contains m bs (rings_of_map m bs whole is two) found.0 found.1 given w s (on_found given w on) goes.here)

  -- with that side it has given no more than the strings have
  pub walked-few : (given : List Side) (w : Walking) (s : Side) (v : Walking) → IsOnRing m (ring_at bs f place) given w → GoesOn w s v → length (given ++ s ∷ []) ≤ 400000
  walked-few given w s v on goes =
      let side = on_ring-side m bs (rings_of_map m bs whole is two) found.0 found.1 given w s (on_found given w on) goes.here in
      let few = ring-sides-few m bs whole is two found.0 found.1 in
      let one = ap length side.1 in
      let all = length-append given (s ∷ side.0) in
      let now = length-append given (s ∷ []) in
      let most = whole.v1.few_strings in
      omega arith

  -- at its end it has given all
  pub walked-all : (given : List Side) (w : Walking) → IsOnRing m (ring_at bs f place) given w → sides_ahead w ≡ [] → given ≡ sides_of (ring_at bs f place)
  walked-all given w on none = on_ring-ends m bs (rings_of_map m bs whole is two) found.0 found.1 given w (on_found given w on) none ∙ ap sides_of found.2

  -- the anchor of the ring is a point of the map
  pub anchor-there : IsTrue (has_point m (anchor_of (ring_at bs f place)))
  anchor-there =
      let b = found.0 in
      let some : 2 ≤ length b.ring = All-at_each (λ b. 2 ≤ length b.ring) bs b two found.1 in
      let P : ℕ → Type 0 = λ p. IsTrue (has_point m p) in
      let of_sides = All-from_each (λ (t : Side). P t.0) (sides_of b.ring) (λ t h. (ring-points m bs whole is two b found.1 t h).0) in
      let all = subst (AllByRecursion P) (first_points b.ring) (All-map P (λ (t : Side). t.0) (sides_of b.ring) of_sides) in
      subst (λ (r : Ring). P (anchor_of r)) found.2 (All-at_each P b.ring (anchor_of b.ring) all (anchor_of-Contains b.ring (omega arith)))

-- ---- Sums and counts on the way

placed-append : (position : ℕ → Position) (given : List Side) (s : Side) → placed position (given ++ s ∷ []) ≡ placed position given ++ (position s.0, position s.1) ∷ []
placed-append position given s = map-append (λ (t : Side). (position t.0, position t.1)) given (s ∷ [])

-- one more side in a sum
pub sum-more : (f : Measure) (position : ℕ → Position) (given : List Side) (s : Side) → sum_over f (placed position (given ++ s ∷ [])) ≡ sum_over f (placed position given) +ℤ f (position s.0) (position s.1)
sum-more f position given s =
    let e = ap (sum_over f) (placed-append position given s) ∙ sum_over-append f (placed position given) ((position s.0, position s.1) ∷ []) in
    omega (arith, ints)

-- and in a count
pub inside-more : (position : ℕ → Position) (given : List Side) (s : Side) (q : Position) (counted : Bool) → counted ≡ is_counted (position s.0) (position s.1) q
    → is_inside (placed position (given ++ s ∷ [])) q ≡ cond counted (not (is_inside (placed position given) q)) (is_inside (placed position given) q)
inside-more position given s q counted same =
    let p : Position × Position → Bool = λ side. is_counted side.0 side.1 q in
    let c : Position × Position → ℕ = λ side. cond (p side) 1 0 in
    let last : Position × Position = (position s.0, position s.1) in
    let one : count_by p (placed position (given ++ s ∷ [])) ≡ count_by p (placed position given) + cond counted 1 0 =
    ap (count_by p) (placed-append position given s) ∙ sum_by-append c (placed position given) (last ∷ []) ∙ ap (λ (n : ℕ). count_by p (placed position given) + n) (sum_by-cons c last [])
    ∙ (λ i. count_by p (placed position given) + (cond (sym same i) 1 0 + 0)) ∙ omega arith in
    ap (λ (n : ℕ). nat_eq (n % 2) 1) one ∙ by counted (count_by p (placed position given))
  where
    odd : (n : ℕ) (s t : Bool) → nat_eq (n % 2) 1 ≡ s → nat_eq ((n + 1) % 2) 1 ≡ t → t ≡ not s
    odd n true true h k = let a = eqb-true (n % 2) 1 h in let b = eqb-true ((n + 1) % 2) 1 k in absurd (omega arith)
    odd n true false h k = refl
    odd n false true h k = refl
    odd n false false h k = let a = eqb-false (n % 2) 1 h in let b = eqb-false ((n + 1) % 2) 1 k in absurd (omega arith)

    by : (b : Bool) (n : ℕ) → nat_eq ((n + cond b 1 0) % 2) 1 ≡ cond b (not (nat_eq (n % 2) 1)) (nat_eq (n % 2) 1)
    by true n = odd n (nat_eq (n % 2) 1) (nat_eq ((n + 1) % 2) 1) refl refl
    by false n = ap (λ (k : ℕ). nat_eq (k % 2) 1) (omega arith)

-- and the least of the points so far
pub least-more : (a : ℕ) (given : List Side) (s : Side) → fold min a (map (λ (t : Side). t.0) (given ++ s ∷ [])) ≡ min (fold min a (map (λ (t : Side). t.0) given)) s.0
least-more a [] s = refl
least-more a (t ∷ given) s = least-more (min a t.0) given s

pub least-all : (first : Side) (ring : Ring) → first_side ring ≡ Some first → fold min first.0 (map (λ (t : Side). t.0) (sides_of ring)) ≡ anchor_of ring
least-all first [] begins = cc
least-all first (a ∷ points) begins =
    ap (fold min first.0) (along a points a) ∙ ap (λ (n : ℕ). fold min n points) (ap (λ (n : ℕ). min n a) at_first ∙ itself)
  where
    itself : min a a ≡ a
    itself = omega arith

    at_first : first.0 ≡ a
    at_first =
        let begun = begins_with first (a ∷ points) begins in
        let e : first.0 ∷ map (λ (t : Side). t.0) begun.0 ≡ a ∷ points = ap (map (λ (t : Side). t.0)) (sym begun.1) ∙ along a points a in
        cc

-- ---- Positions and bounds

-- wherever points lie on the map
module _ (position : ℕ → Position) (on_map : (p : ℕ) → OnTheMap (position p)) where
  -- so many sides' measures, added up, stay in bounds
  pub placed-bounded : (f : Measure) → IsBounded f → (sides : List Side) → length sides ≤ 400000 → unsigned_abs (sum_over f (placed position sides)) ≤ 80000000000000000000000000
  placed-bounded f bounded sides few =
      let bound = sum_over-bounded f bounded (placed position sides) (all_on sides) in
      let same : length (placed position sides) ≡ length sides = length-map sides (λ (t : Side). (position t.0, position t.1)) in
      omega arith
    where
      all_on : (ss : List Side) → AllByRecursion (λ side. OnTheMap side.0 × OnTheMap side.1) (placed position ss)
      all_on [] = tt
      all_on (s ∷ ss) = ((on_map s.0, on_map s.1), all_on ss)

  -- and so fit
  pub placed-fits : (f : Measure) → IsBounded f → (sides : List Side) → length sides ≤ 400000 → FitsSigned w128 (sum_over f (placed position sides))
  placed-fits f bounded sides few = small (sum_over f (placed position sides)) (placed-bounded f bounded sides few)
    where
      small : (z : ℤ) → unsigned_abs z ≤ 80000000000000000000000000 → FitsSigned w128 z
      small (pos n) h = omega (arith, ints)
      small (negsuc n) h = omega (arith, ints)

module _ (m : Map) (sound : HasSoundRows m) where
  -- also a point that isn't there has a position on the map, the origin
  pub position-on_map : (p : ℕ) → OnTheMap (position_of m p)
  position-on_map p = of_rows m.points sound.positions
    where
      of_rows : (rows : List PointRow) → AllByRecursion (λ r. OnTheMap r.position) rows → OnTheMap (unwrap_or (option_map (λ r. r.position) (find (λ r. r.number == p) rows)) origin)
      of_rows [] all = record { x_in_range = zero_in; y_in_range = zero_in }
        where
          zero_in : InRange (pos 0)
          zero_in = record { low = omega (arith, ints); high = omega (arith, ints) }
      of_rows (r ∷ rows) all = by (nat_eq r.number p) refl (of_rows rows all.1)
        where
          by : (b : Bool) → nat_eq r.number p ≡ b → OnTheMap (unwrap_or (option_map (λ r. r.position) (find (λ r. r.number == p) rows)) origin)
              → OnTheMap (unwrap_or (option_map (λ r. r.position) (find (λ r. r.number == p) (r ∷ rows))) origin)
          by true is rest = rw is all.0
          by false is rest = rw is rest

  -- the sums of sides where the map's points lie
  pub sum-bounded : (f : Measure) → IsBounded f → (sides : List Side) → length sides ≤ 400000 → unsigned_abs (sum_over f (placed (position_of m) sides)) ≤ 80000000000000000000000000
  sum-bounded = placed-bounded (position_of m) position-on_map

  pub sum-fits : (f : Measure) → IsBounded f → (sides : List Side) → length sides ≤ 400000 → FitsSigned w128 (sum_over f (placed (position_of m) sides))
  sum-fits = placed-fits (position_of m) position-on_map

-- A closed chain of free points put into a face of a valid map: the map stays sound.
use Rattle.std.proofs.Common.{◌≡◌, ℕ, ◌≤◌, inl, refl, ap, subst, ◌∙◌, List, [], ◌∷◌, ◌++◌, length, map, reverse, true, arith}
use Rattle.std.specs.Prelude.{IsTrue, IsPermutation}
use Rattle.std.specs.List.{AllByRecursion, Contains}
use Rattle.std.proofs.lemmas.List.{append-nil, length-append, length-reverse}
use Rattle.std.proofs.lemmas.List.Sorted.{IsPermutation-refl, IsPermutation-trans, IsPermutation-sym, IsPermutation-append_right, Contains-permutation}
use Rattle.std.proofs.lemmas.Int.{ints}
use Rattle.geo_exact.specs.Measure.{Measure, IsOdd}
use Rattle.cad_map.specs.Sums.{IsSharedOut}
use Rattle.cad_map.proofs.Parcels.PlacedSums.{placed-adds_up}
use Rattle.cad_rows.specs.declared.names.Face.{Face}
use Rattle.cad_rings.specs.Cycle.{Side, opposite, sides_of}
use Rattle.cad_rings.specs.Surgery.{sides_of_chain, both_ways}
use Rattle.cad_rings.proofs.CallerLemmas.{permuted_as, both_ways-apart, sides_of-reversed, sides_of_chain-is}
use Rattle.cad_map.specs.Map.{Map, has_point, has_face, is_free, all_sides}
use Rattle.cad_map.specs.Chain.{are_distinct, strings_along}
use Rattle.cad_map.specs.Valid.{IsValid, IsSound}
use Rattle.cad_map.specs.Changes.{enclose}
use Rattle.cad_map.proofs.Lists.Elements.{All-at_each}
use Rattle.cad_map.proofs.Lists.ElementFacts.{map-Contains}
use Rattle.cad_map.proofs.Lists.EachElement.{All-push}
use Rattle.cad_map.proofs.Parcels.ChainFacts.{HasNoOpposites, pairs-from_distinct, ends-along, no_opposites-round, sides-strings_along}
use Rattle.cad_map.proofs.Parcels.AddedChain.{CanAddRows, CanAddAlong, along-can_be_added, no_side-free}
use Rattle.cad_map.proofs.Parcels.PlacedRings.{IsDivision, placed-sound}

-- what speaks for an enclosure: none of its refusals applies
pub record CanEnclose (m : Map) (face : Face) (points strings : List ℕ) (parcel : ℕ) (label : List ℕ) (source : ℕ) : Type 0 where
  pub rows : CanAddRows m strings parcel label source
  pub face_there : has_face m face ≡ true
  pub points_there : AllByRecursion (λ p. IsTrue (has_point m p)) points
  pub free : AllByRecursion (λ p. is_free m p ≡ true) points
  pub long : 3 ≤ length points
  pub as_many : length strings ≡ length points
  pub points_distinct : are_distinct points ≡ true

module _ (m : Map) (valid : IsValid m) (face : Face) (a : ℕ) (points strings : List ℕ) (parcel : ℕ) (label : List ℕ) (source : ℕ) (can : CanEnclose m face (a ∷ points) strings parcel label source) where
  abbrev ring : List ℕ
  ring = a ∷ points

  -- the closed chain
  abbrev closed : List ℕ
  closed = ring ++ a ∷ []

  sides-closed : sides_of_chain closed ≡ sides_of ring
  sides-closed = sides_of_chain-is a points a

  none-opposite : HasNoOpposites (sides_of ring)
  none-opposite = no_opposites-round ring can.long (pairs-from_distinct ring can.points_distinct)

  -- both ends of each side are free
  free-sides : AllByRecursion (λ (s : Side). (is_free m s.0 ≡ true) × (is_free m s.1 ≡ true)) (sides_of ring)
  free-sides = ends-along (λ p. is_free m p ≡ true) a points a (All-push (λ p. is_free m p ≡ true) ring a can.free can.free.0)

  free-at : (s : Side) → Contains (sides_of ring) s → (is_free m s.0 ≡ true) × (is_free m s.1 ≡ true)
  free-at s h = All-at_each (λ (s : Side). (is_free m s.0 ≡ true) × (is_free m s.1 ≡ true)) (sides_of ring) s free-sides h

  -- the ring in the other direction has the opposite sides
  of-reversed : (s : Side) → Contains (sides_of (reverse ring)) s → Contains (sides_of ring) (opposite s)
  of-reversed s h =
      let back = map-Contains opposite (sides_of ring) s (Contains-permutation (sides_of (reverse ring)) (map opposite (sides_of ring)) s (IsPermutation-sym (map opposite (sides_of ring)) (sides_of (reverse ring)) (sides_of-reversed ring)) h) in
      subst (Contains (sides_of ring)) (ap opposite back.2) back.1

  both-hands : IsPermutation (sides_of ring ++ sides_of (reverse ring)) (both_ways (sides_of ring) ++ [])
  both-hands =
      let S = sides_of ring in
      permuted_as (S ++ sides_of (reverse ring)) (S ++ sides_of (reverse ring)) (both_ways S ++ []) (both_ways S) refl (append-nil (both_ways S))
      (IsPermutation-trans (S ++ sides_of (reverse ring)) (S ++ map opposite S) (both_ways S)
      (IsPermutation-append_right S (sides_of (reverse ring)) (map opposite S) (IsPermutation-sym (map opposite S) (sides_of (reverse ring)) (sides_of-reversed ring)))
      (IsPermutation-sym (both_ways S) (S ++ map opposite S) (both_ways-apart S)))

  pub is_division-enclosed : IsDivision m face parcel (sides_of ring) ring (reverse ring) [] m.boundaries
  is_division-enclosed = record {
    face_there = can.face_there;
    parcel_new = can.rows.parcel_new;
    no_opposites = none-opposite;
    new = λ s h. no_side-free m valid s (free-at s h).0;
    new_back = λ s h. no_side-free m valid (opposite s) (free-at s h).1;
    of_left = λ s h. inl h;
    of_right = λ s h. inl (of-reversed s h);
    others = λ b h. h;
    left_long = can.long;
    right_long = let e = length-reverse ring in omega (arith, e, can.long);
    with_cut = IsPermutation-refl (all_sides m);
    both_hands = both-hands;
  }

  can_add : CanAddAlong m closed strings parcel label source
  can_add = record {
    rows = can.rows;
    points_there = All-push (λ p. IsTrue (has_point m p)) ring a can.points_there can.points_there.0;
    as_many = let e = length-append ring (a ∷ []) in omega (arith, e, can.as_many);
    no_opposites = rw sides-closed none-opposite;
  }

  sound-enclosed : IsSound (enclose m face ring strings parcel label source)
  sound-enclosed =
      placed-sound m valid face parcel (sides_of ring) ring (reverse ring) [] m.boundaries is_division-enclosed (strings_along (source ∷ []) strings closed)
      (sides-strings_along (source ∷ []) strings closed can_add.as_many ∙ sides-closed) label source (along-can_be_added m closed strings parcel label source can_add)

-- An enclosure that is not refused keeps V1, V2 and V5.
pub enclosed-sound : (m : Map) (face : Face) (points strings : List ℕ) (parcel : ℕ) (label : List ℕ) (source : ℕ) → IsValid m → CanEnclose m face points strings parcel label source
    → IsSound (enclose m face points strings parcel label source)
enclosed-sound m face [] strings parcel label source valid can = absurd (let three = can.long in omega arith)
enclosed-sound m face (a ∷ points) strings parcel label source valid can = sound-enclosed m valid face a points strings parcel label source can

-- And the new parcel and what is left of the face add up to the face as it was.
pub enclosed-adds_up : (f : Measure) → IsOdd f → (m : Map) (face : Face) (points strings : List ℕ) (parcel : ℕ) (label : List ℕ) (source : ℕ) → IsValid m → CanEnclose m face points strings parcel label source
    → IsSharedOut f m face parcel (enclose m face points strings parcel label source)
enclosed-adds_up f odd m face [] strings parcel label source valid can = absurd (let three = can.long in omega arith)
enclosed-adds_up f odd m face (a ∷ points) strings parcel label source valid can =
    placed-adds_up f odd m valid face parcel (sides_of (a ∷ points)) (a ∷ points) (reverse (a ∷ points)) [] m.boundaries (is_division-enclosed m valid face a points strings parcel label source can)
    (omega (arith, ints)) (strings_along (source ∷ []) strings (a ∷ points ++ a ∷ [])) label source

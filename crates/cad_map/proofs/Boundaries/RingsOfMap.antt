-- What is known of the rings that something keeps of a map whose rings are whole.
use Rattle.std.proofs.Common.{◌≡◌, ℕ, zero, suc, ◌*◌, ◌<◌, ◌≤◌, inl, inr, refl, sym, ap, subst, List, [], ◌∷◌, length, Bool, true, false, arith, slice_get, length-append}
use Rattle.std.proofs.lemmas.List.Sorted.{IsPermutation-sym, length_permutation, Contains-permutation}
use Rattle.std.proofs.lemmas.Option.{slice_get-get_or}
use Rattle.std.specs.Prelude.{IsTrue, IsSome, flat_map, option_and_then}
use Rattle.std.specs.List.{AllByRecursion, Contains}
use Rattle.cad_rows.specs.declared.names.Face.{Face}
use Rattle.cad_rows.specs.declared.rows.StringRow.{StringRow}
use Rattle.cad_rings.specs.Cycle.{Ring, Side, opposite, sides_of}
use Rattle.cad_rings.proofs.CallerLemmas.{length-sides_of}
use Rattle.cad_map.specs.declared.boundary.Boundary.{Boundary}
use Rattle.cad_map.specs.Boundaries.{is_face, canonical_order, sides_in}
use Rattle.cad_map.specs.Map.{Map, side_of, has_point, all_sides, string_sides, rings_at}
use Rattle.cad_map.specs.Walk.{first_side}
use Rattle.cad_map.proofs.Lists.Elements.{Contains-cases, Contains-first, Contains-later, Contains-flat_map, All-at_each}
use Rattle.cad_map.proofs.Walks.AlongRing.{AreRingsOf, rings_of_canonical}
use Rattle.cad_map.specs.Valid.{IsValid}
use Rattle.cad_map.proofs.Boundaries.FacesBeside.{sides-once}
use Rattle.cad_map.specs.Rings.{HasWholeRings, ring_at}

pub two_each : (strings : List StringRow) → length (flat_map (λ s. side_of s ∷ opposite (side_of s) ∷ []) strings) ≡ 2 * length strings
two_each [] = refl
two_each (s ∷ strings) = let rest = two_each strings in omega arith

-- the rings of a valid map are whole
pub whole_valid : (m : Map) → IsValid m → HasWholeRings m
whole_valid m valid = record { v1 = valid.sound.v1; v5 = valid.sound.v5; once = sides-once m valid }

-- a ring of a face is one of the rings, and a face has no more rings than there are sides
rings_at-Contains : (f : Face) (bs : List Boundary) (place : ℕ) → place < length (rings_at f bs) → (b : Boundary) × Contains bs b × (b.ring ≡ ring_at bs f place)
rings_at-Contains f [] place within = absurd (omega arith)
rings_at-Contains f (b ∷ bs) place within = by (is_face f b.face) refl place within (λ p h. rings_at-Contains f bs p h)
  where
    one_more : {ring : Ring} → (c : Boundary) × Contains bs c × (c.ring ≡ ring) → (c : Boundary) × Contains (b ∷ bs) c × (c.ring ≡ ring)
    one_more found = (found.0, Contains-later b bs found.0 found.1, found.2)

    by : (t : Bool) → is_face f b.face ≡ t → (p : ℕ) → p < length (rings_at f (b ∷ bs)) → ((p : ℕ) → p < length (rings_at f bs) → (c : Boundary) × Contains bs c × (c.ring ≡ ring_at bs f p))
        → (c : Boundary) × Contains (b ∷ bs) c × (c.ring ≡ ring_at (b ∷ bs) f p)
    by true is zero h again = (b, Contains-first b bs, rw is refl)
    by true is (suc p) h again = let k : suc p < suc (length (rings_at f bs)) = rw is at h in rw is (one_more (again p (omega arith)))
    by false is p h again = let k : p < length (rings_at f bs) = rw is at h in rw is (one_more (again p k))

pub first_side-there : (ring : Ring) → 2 ≤ length ring → IsSome (first_side ring)
first_side-there [] two = absurd (omega arith)
first_side-there (a ∷ []) two = absurd (omega arith)
first_side-there (a ∷ b ∷ points) two = refl

-- each side is one of a string, so its ends are points of the map
pub string-side-points : (m : Map) → HasWholeRings m → (s : Side) → Contains (all_sides m) s → IsTrue (has_point m s.0) × IsTrue (has_point m s.1)
string-side-points m whole s there =
    All-at_each (λ t. IsTrue (has_point m t.0) × IsTrue (has_point m t.1)) (string_sides m) s (of_strings m.strings whole.v1.ends)
    (Contains-permutation (all_sides m) (string_sides m) s (IsPermutation-sym (string_sides m) (all_sides m) whole.v5.once) there)
  where
    of_strings : (strings : List StringRow) → AllByRecursion (λ r. IsTrue (has_point m r.from) × IsTrue (has_point m r.to)) strings
        → AllByRecursion (λ t. IsTrue (has_point m t.0) × IsTrue (has_point m t.1)) (flat_map (λ r. side_of r ∷ opposite (side_of r) ∷ []) strings)
    of_strings [] all = tt
    of_strings (r ∷ strings) all = (all.0, ((all.0.1, all.0.0), of_strings strings all.1))

module _ (m : Map) (bs : List Boundary) (whole : HasWholeRings m) (is : canonical_order bs ≡ m.boundaries) (two : AllByRecursion (λ b. 2 ≤ length b.ring) bs) where
  pub rings_of_map : AreRingsOf m bs
  rings_of_map = rings_of_canonical m bs is two whole.once

  -- as many sides as the strings have
  pub sides-count : length (sides_in bs) ≡ 2 * length m.strings
  sides-count =
      let one = length_permutation (sides_in bs) (all_sides m) rings_of_map.sides in
      let two = length_permutation (string_sides m) (all_sides m) whole.v5.once in
      let three = two_each m.strings in
      omega arith

  pub ring-there : (f : Face) (place : ℕ) → place < length (rings_at f bs) → (b : Boundary) × Contains bs b × (b.ring ≡ ring_at bs f place)
  ring-there f place within = rings_at-Contains f bs place within

  pub ring-sides-few : (b : Boundary) → Contains bs b → length (sides_of b.ring) ≤ 2 * length m.strings
  ring-sides-few b there = let e = sides-count in le_part bs there (omega arith)
    where
      le_part : (cs : List Boundary) → Contains cs b → length (sides_in cs) ≤ 2 * length m.strings → length (sides_of b.ring) ≤ 2 * length m.strings
      le_part [] h few = let low = h.1 in absurd (omega arith)
      le_part (c ∷ cs) h few =
          let e = length-append (sides_of c.ring) (sides_in cs) in
          elim (Contains-cases c cs b h) [
            | inl same ↦ let k = ap (λ (d : Boundary). length (sides_of d.ring)) same in omega arith
            | inr later ↦ le_part cs later (omega arith)
          ]

  -- so the ring at a place has no more points than that
  pub ring-few : (f : Face) (place : ℕ) → place < length (rings_at f bs) → length (ring_at bs f place) ≤ 400000
  ring-few f place within =
      let found = rings_at-Contains f bs place within in
      let few = ring-sides-few found.0 found.1 in
      let many = length-sides_of found.0.ring in
      let same = ap length found.2 in
      let most = whole.v1.few_strings in
      omega arith

  pub ring-points : (b : Boundary) → Contains bs b → (s : Side) → Contains (sides_of b.ring) s → IsTrue (has_point m s.0) × IsTrue (has_point m s.1)
  ring-points b there s h = string-side-points m whole s (Contains-permutation (sides_in bs) (all_sides m) s rings_of_map.sides (Contains-flat_map (λ c. sides_of c.ring) bs b s there h))

  -- `ring_side` tells the first side of the ring
  pub side_told : (f : Face) (place : ℕ) → place < length (rings_at f bs) → option_and_then first_side (slice_get (rings_at f bs) place) ≡ first_side (ring_at bs f place)
  side_told f place within = ap (option_and_then first_side) (slice_get-get_or (rings_at f bs) place [] within)

  pub side_is_told : (f : Face) (place : ℕ) → place < length (rings_at f bs) → IsSome (option_and_then first_side (slice_get (rings_at f bs) place))
  side_is_told f place within =
      let found = rings_at-Contains f bs place within in
      subst IsSome (sym (side_told f place within))
      (subst (λ (r : Ring). IsSome (first_side r)) found.2 (first_side-there found.0.ring (All-at_each (λ b. 2 ≤ length b.ring) bs found.0 two found.1)))

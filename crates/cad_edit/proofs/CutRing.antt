-- The ring that a chain divides, the places of the two sides in it, and the points of the rings that it becomes.
use Rattle.std.proofs.Common.{◌≡◌, ◌≢◌, ℕ, suc, ◌+◌, ◌<◌, refl, sym, ap, subst, ◌∙◌, List, [], ◌∷◌, ◌++◌, append_assoc, length, take, drop, map, Bool, true, false, true≢false, Option, Some, None, Bor, slice_get, arith}
use Rattle.std.specs.Prelude.{◌&&◌, nat_lt, find, option_map, IsSome, IsPermutation, slice_index}
use Rattle.std.specs.List.{Contains, list_any, position, position_or_len}
use Rattle.std.specs.Option.{option_copied}
use Rattle.std.proofs.lemmas.Option.{same_Some}
use Rattle.std.proofs.lemmas.Bool.Decides.{nat_tests}
use Rattle.std.proofs.lemmas.List.{map-append}
use Rattle.std.proofs.lemmas.List.Sorted.{IsPermutation-append_comm}
use Rattle.cad_rows.specs.declared.names.Face.{Face}
use Rattle.cad_rings.specs.Cycle.{Ring, Side, is_side, has_side, sides_of, Corner, turned}
use Rattle.cad_rings.proofs.CallerLemmas.{is_side-same, sides_of-turned}
use Rattle.cad_map.specs.Walk.{first_side}
use Rattle.cad_map.proofs.CallerLemmas.{first-is, drop-at, canonical_order-permuted, place-of, only-in, cut_ring, has_side-Contains, once-from_pairs}
use Rattle.cad_rings.specs.Surgery.{AreTwoPlaces}
use Rattle.cad_map.specs.declared.boundary.Boundary.{Boundary}
use Rattle.cad_map.specs.Boundaries.{canonical_form, canonical_order}
use Rattle.cad_map.specs.Chain.{leaving}
use Rattle.cad_map.specs.Division.{place_of, ring_with}
use Rattle.cad_map.specs.Map.{Map, rings_of, all_sides}
use Rattle.cad_map.specs.Rings.{HasWholeRings}

-- ---- The ring and the places of sides

-- the ring with a side is the one that is found
pub ring-found : (s : Side) (bs : List Boundary) → has_side s (sides_of (ring_with s bs)) ≡ true → option_map (λ b. b.ring) (find (λ b. has_side s (sides_of b.ring)) bs) ≡ Some (ring_with s bs)
ring-found s [] has = absurd (true≢false (sym has))
ring-found s (b ∷ bs) has = by (has_side s (sides_of b.ring)) refl (λ rest. ring-found s bs rest)
  where
    by : (t : Bool) → has_side s (sides_of b.ring) ≡ t → (has_side s (sides_of (ring_with s bs)) ≡ true → option_map (λ b. b.ring) (find (λ b. has_side s (sides_of b.ring)) bs) ≡ Some (ring_with s bs))
        → option_map (λ b. b.ring) (find (λ b. has_side s (sides_of b.ring)) (b ∷ bs)) ≡ Some (ring_with s (b ∷ bs))
    by true is again = rw is refl
    by false is again = rw is (again (rw is at has))

-- where one passes, the first that does has a place
any-within : (test : Side → Bool) (sides : List Side) → list_any test sides ≡ true → position_or_len test sides < length sides
any-within test [] some = absurd (true≢false (sym some))
any-within test (s ∷ sides) some = by (test s) refl (λ rest. any-within test sides rest)
  where
    by : (t : Bool) → test s ≡ t → (list_any test sides ≡ true → position_or_len test sides < length sides) → position_or_len test (s ∷ sides) < length (s ∷ sides)
    by true is again = rw is (omega arith)
    by false is again = let low = again (rw is at some) in rw is (omega (arith, low))

pub place-found : (s : Side) (ring : Ring) → has_side s (sides_of ring) ≡ true → position (is_side s) (sides_of ring) ≡ Some (place_of s ring)
place-found s ring has =
    let low = any-within (is_side s) (sides_of ring) has in
    let within : nat_lt (position_or_len (is_side s) (sides_of ring)) (length (sides_of ring)) ≡ true = grind (arith, nat_tests, low) in
    rw within refl

-- and there is a side that passes
first-at : (test : Side → Bool) (sides : List Side) → list_any test sides ≡ true → (s : Side) × (slice_get sides (position_or_len test sides) ≡ Some s) × (test s ≡ true)
first-at test [] some = absurd (true≢false (sym some))
first-at test (s ∷ sides) some = by (test s) refl (λ rest. first-at test sides rest)
  where
    by : (t : Bool) → test s ≡ t → (list_any test sides ≡ true → (u : Side) × (slice_get sides (position_or_len test sides) ≡ Some u) × (test u ≡ true))
        → (u : Side) × (slice_get (s ∷ sides) (position_or_len test (s ∷ sides)) ≡ Some u) × (test u ≡ true)
    by true is again = rw is (s, refl, is)
    by false is again =
        let k = again (rw is at some) in
        let next : 1 + position_or_len test sides ≡ suc (position_or_len test sides) = omega arith in
        rw is (rw next (k.0, k.1, k.2))

-- a ring that is written from the place of a side on begins with it
pub place-begins : (s : Side) (ring : Ring) → has_side s (sides_of ring) ≡ true → first_side (turned (place_of s ring) ring) ≡ Some s
place-begins s ring has =
    let sides = sides_of ring in
    let low = any-within (is_side s) sides has in
    let within : nat_lt (position_or_len (is_side s) sides) (length sides) ≡ true = grind (arith, nat_tests, low) in
    let place : place_of s ring ≡ position_or_len (is_side s) sides = rw within refl in
    let i = place_of s ring in
    let first = first-at (is_side s) sides has in
    let here : slice_get sides i ≡ Some s = ap (slice_get sides) place ∙ first.1 ∙ ap Some (sym (is_side-same s first.0 first.2)) in
    first-is (turned i ring) s (drop (i + 1) sides ++ take i sides) (sides_of-turned i ring ∙ ap (λ (l : List Side). l ++ take i sides) (drop-at sides i s here))

-- what is copied from behind a reference that is there
pub copied-some : {X : Type 0} (o : Option (Bor X)) (x : X) → option_copied o ≡ Some x → IsSome o
copied-some None x is = cc
copied-some (Some b) x is = refl

-- what is found by one name of the side and of the rings is found by another
pub told-by : (s t : Side) (bs cs : List Boundary) (o : Option (Bor Ring)) → s ≡ t → bs ≡ cs
    → option_copied o ≡ option_map (λ b. b.ring) (find (λ b. has_side s (sides_of b.ring)) bs) → option_copied o ≡ option_map (λ b. b.ring) (find (λ b. has_side t (sides_of b.ring)) cs)
told-by s t bs cs o side rings told = told ∙ (λ i. option_map (λ b. b.ring) (find (λ b. has_side (side i) (sides_of b.ring)) (rings i)))

-- the ring that is told is the one with the side
pub told-ring : (s : Side) (bs : List Boundary) → has_side s (sides_of (ring_with s bs)) ≡ true → (o : Option (Bor Ring)) (b : Bor Ring) → option_copied o ≡ option_map (λ b. b.ring) (find (λ b. has_side s (sides_of b.ring)) bs) → o ≡ Some b
    → b.now ≡ ring_with s bs
told-ring s bs has o b told some = same_Some b.now (ring_with s bs) (ap option_copied (sym some) ∙ told ∙ ring-found s bs has)

-- and so is the place that is told
pub told-place : (s t : Side) (ring cut : Ring) → ring ≡ cut → s ≡ t → has_side t (sides_of cut) ≡ true → (o : Option ℕ) → o ≡ position (is_side s) (sides_of ring) → o ≡ Some (place_of t cut)
told-place s t ring cut same is has o told = told ∙ (λ i. position (is_side (is i)) (sides_of (same i))) ∙ place-found t cut has

-- sides that leave different points have two places
pub two-places : (s t : Side) (ring : Ring) → has_side s (sides_of ring) ≡ true → has_side t (sides_of ring) ≡ true → s.0 ≢ t.0 → AreTwoPlaces (place_of s ring) (place_of t ring) ring
two-places s t ring has also apart =
    let one = place-of s ring has in
    let other = place-of t ring also in
    record { first = one.within; second = other.within; apart = λ same. apart (sym one.at ∙ ap (slice_index ring) same ∙ other.at) }

-- where a ring of the face has both sides, the ring with the first has the second
pub one-ring : (m : Map) → HasWholeRings m → (face : Face) (first last : Corner) → list_any (λ r. has_side (leaving first) (sides_of r) && has_side (leaving last) (sides_of r)) (rings_of m face) ≡ true
    → (b : Boundary) × Contains m.boundaries b × (ring_with (leaving first) m.boundaries ≡ b.ring) × (has_side (leaving first) (sides_of b.ring) ≡ true) × (has_side (leaving last) (sides_of b.ring) ≡ true)
one-ring m whole face first last one =
    let cut = cut_ring m face first last one in
    let b = cut.0 in
    let only = only-in (leaving first) m.boundaries b cut.1.there (has_side-Contains (leaving first) (sides_of b.ring) cut.1.has_first) (once-from_pairs (all_sides m) whole.once (leaving first)) in
    (b, cut.1.there, only.ring, cut.1.has_first, cut.1.has_last)

-- ---- Two rings put last have the canonical order that they have put first

pub canonical_order-last_two : (bs : List Boundary) (a b : Boundary) → canonical_order ((bs ++ a ∷ []) ++ b ∷ []) ≡ canonical_order (a ∷ b ∷ bs)
canonical_order-last_two bs a b =
    ap canonical_order (append_assoc bs (a ∷ []) (b ∷ []))
    ∙ canonical_order-permuted (bs ++ a ∷ b ∷ []) (a ∷ b ∷ bs)
    (subst (λ (l : List Boundary). IsPermutation l (map canonical_form (a ∷ b ∷ bs))) (sym (map-append canonical_form bs (a ∷ b ∷ []))) (IsPermutation-append_comm (map canonical_form bs) (map canonical_form (a ∷ b ∷ []))))

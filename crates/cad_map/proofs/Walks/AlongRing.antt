-- A walk by what comes after each side goes along a ring, side by side.
use Rattle.std.proofs.Common.{◌≡◌, ◌≢◌, ℕ, zero, suc, ◌≤◌, inl, inr, refl, sym, ap, subst, ◌∙◌, List, [], ◌∷◌, ◌++◌, append_assoc, length, map, find, Option, Some, None, Bool, true, false, cond, true≢false, arith, slice_get}
use Rattle.std.proofs.lemmas.List.{map-append, append-nil}
use Rattle.std.proofs.lemmas.List.Sums.{sum_by-append}
use Rattle.std.proofs.lemmas.List.Sorted.{IsPermutation-sym, Contains-permutation, sum_by-IsPermutation}
use Rattle.std.proofs.lemmas.List.Elements.{Contains-append_right}
use Rattle.std.proofs.lemmas.Option.{slice_get-map}
use Rattle.std.proofs.lemmas.Cmp.{nat_eq_equiv}
use Rattle.std.specs.Prelude.{count_by, IsPermutation, option_map, MatchOption, if◌then◌else◌}
use Rattle.std.specs.List.{AllByRecursion, Contains}
use Rattle.std.specs.Iterator.{Yields}
use Rattle.cad_rings.specs.Cycle.{Ring, Side, is_side, sides_along, sides_of, Corner, corners_along, corners_of}
use Rattle.cad_rings.specs.Surgery.{corner}
use Rattle.cad_rings.proofs.CallerLemmas.{is_side-same, length-sides_of}
use Rattle.cad_map.specs.declared.boundary.Boundary.{Boundary}
use Rattle.cad_map.specs.Boundaries.{sides_in, corners_in, canonical_order}
use Rattle.cad_map.specs.Map.{Map, all_sides, all_corners}
use Rattle.cad_map.specs.Valid.{EachPair}
use Rattle.cad_map.proofs.Lists.Elements.{Contains-cases, Contains-first, Contains-later, Contains-at, All-at_each, Contains-flat_map, count-yes, count-no, count-some, count-map, find-only, one-only, get-after, get-next, list_any-Contains}
use Rattle.cad_map.proofs.Boundaries.OrderedSides.{sides_in-canonical_order, corners_in-canonical_order}
use Rattle.cad_map.specs.Views.{IsNoSide, ComesAfter}
use Rattle.cad_map.specs.Walk.{first_side, side_after, walk, Walking, sides_ahead, IsTold, GoesOn, GivesNext, IsOnRing}

-- ---- Sides and corners of a ring

abbrev pub side_before : Corner → Side
side_before c = (c.before, c.at)

abbrev pub side_behind : Corner → Side
side_behind c = (c.at, c.after)

pub is_side-refl : (s : Side) → is_side s s ≡ true
is_side-refl s = rw (nat_eq_equiv.refl s.0, nat_eq_equiv.refl s.1) refl

before-along : (a b : ℕ) (points : List ℕ) (y z : ℕ) → map side_before (corners_along a b (points ++ z ∷ y ∷ [])) ≡ sides_along a (b ∷ points) z
before-along a b [] y z = refl
before-along a b (c ∷ points) y z = ap (λ (l : List Side). (a, b) ∷ l) (before-along b c points y z)

behind-along : (a b : ℕ) (points : List ℕ) (y z : ℕ) → map side_behind (corners_along a b (points ++ z ∷ y ∷ [])) ≡ sides_along b points z ++ (z, y) ∷ []
behind-along a b [] y z = refl
behind-along a b (c ∷ points) y z = ap (λ (l : List Side). (b, c) ∷ l) (behind-along b c points y z)

-- the sides of a ring are those before its corners
pub sides-before : (ring : Ring) → 2 ≤ length ring → map side_before (corners_of ring) ≡ sides_of ring
sides-before [] two = absurd (omega arith)
sides-before (a ∷ []) two = absurd (omega arith)
sides-before (a ∷ b ∷ points) two = before-along a b points b a

-- and those behind them, of which the last is the first side
pub sides-behind : (ring : Ring) (first : Side) → 2 ≤ length ring → first_side ring ≡ Some first → first ∷ map side_behind (corners_of ring) ≡ sides_of ring ++ first ∷ []
sides-behind [] first two is = absurd (omega arith)
sides-behind (a ∷ []) first two is = absurd (omega arith)
sides-behind (a ∷ b ∷ points) first two is =
    let e : (a, b) ≡ first = cc in
    subst (λ (f : Side). f ∷ map side_behind (corners_along a b (points ++ a ∷ b ∷ [])) ≡ sides_along a (b ∷ points) a ++ f ∷ []) e
    (ap (λ (l : List Side). (a, b) ∷ l) (behind-along a b points b a))

-- the sides of a ring begin with its first
pub begins_with : (first : Side) (ring : Ring) → first_side ring ≡ Some first → (others : List Side) × (sides_of ring ≡ first ∷ others)
begins_with first [] is = cc
begins_with first (a ∷ []) is = let e : (a, a) ≡ first = cc in ([], ap (λ (f : Side). f ∷ []) e)
begins_with first (a ∷ b ∷ points) is = let e : (a, b) ≡ first = cc in (sides_along b points a, ap (λ (f : Side). f ∷ sides_along b points a) e)

pub first-there : (first : Side) (ring : Ring) → first_side ring ≡ Some first → Contains (sides_of ring) first
first-there first ring is = let begun = begins_with first ring is in subst (λ (l : List Side). Contains l first) (sym begun.1) (Contains-first first begun.0)

-- ---- Rings of which no side stands twice

-- no side stands twice in these rings, each of two points or more
pub record HaveDistinctSides (bs : List Boundary) : Type 0 where
  pub two : AllByRecursion (λ b. 2 ≤ length b.ring) bs
  pub once : (s : Side) → count_by (is_side s) (sides_in bs) ≤ 1

pub sides_in-before : (bs : List Boundary) → AllByRecursion (λ b. 2 ≤ length b.ring) bs → map side_before (corners_in bs) ≡ sides_in bs
sides_in-before [] two = refl
sides_in-before (b ∷ bs) two = map-append side_before (corners_of b.ring) (corners_in bs) ∙ (λ i. sides-before b.ring two.0 i ++ sides_in-before bs two.1 i)

-- sides of which each pair differs
pub once-from_pairs : (sides : List Side) → EachPair (λ a b. a ≢ b) sides → (s : Side) → count_by (is_side s) sides ≤ 1
once-from_pairs [] pairs s = omega arith
once-from_pairs (t ∷ sides) pairs s = by (is_side s t) refl (once-from_pairs sides pairs.1 s)
  where
    none : (u : Side) (others : List Side) → AllByRecursion (λ v. u ≢ v) others → count_by (is_side u) others ≡ 0
    none u [] all = refl
    none u (v ∷ others) all = differs (is_side u v) refl (none u others all.1)
      where
        differs : (b : Bool) → is_side u v ≡ b → count_by (is_side u) others ≡ 0 → count_by (is_side u) (v ∷ others) ≡ 0
        differs true is rest = absurd (all.0 (is_side-same u v is))
        differs false is rest = count-no (is_side u) v others is ∙ rest

    by : (b : Bool) → is_side s t ≡ b → count_by (is_side s) sides ≤ 1 → count_by (is_side s) (t ∷ sides) ≤ 1
    by true is rest =
        let e = count-yes (is_side s) t sides is in
        let k : count_by (is_side s) sides ≡ 0 = ap (λ (u : Side). count_by (is_side u) sides) (is_side-same s t is) ∙ none t sides pairs.0 in
        omega arith
    by false is rest = let e = count-no (is_side s) t sides is in omega arith

module _ (bs : List Boundary) (distinct : HaveDistinctSides bs) where
  -- a side has one corner after it
  pub corner-once : (s : Side) → count_by (λ c. is_side s (side_before c)) (corners_in bs) ≤ 1
  corner-once s =
      let e = count-map side_before (is_side s) (corners_in bs) in
      let k = ap (λ (l : List Side). count_by (is_side s) l) (sides_in-before bs distinct.two) in
      let few = distinct.once s in
      omega arith

  pub corner-only : (c d : Corner) → Contains (corners_in bs) c → Contains (corners_in bs) d → side_before c ≡ side_before d → c ≡ d
  corner-only c d h k same =
      let s = side_before c in
      one-only (λ e. is_side s (side_before e)) (corners_in bs) c d (corner-once s) h k (is_side-refl s) (ap (is_side s) (sym same) ∙ is_side-refl s)

  pub corner-found : (c : Corner) → Contains (corners_in bs) c → find (λ d. is_side (side_before c) (side_before d)) (corners_in bs) ≡ Some c
  corner-found c h = find-only (λ d. is_side (side_before c) (side_before d)) (corners_in bs) c (corner-once (side_before c)) h (is_side-refl (side_before c))

  -- the walk along a ring of these goes on from a side to the next, and ends at the last
  module _ (b : Boundary) (there : Contains bs b) (first : Side) (begins : first_side b.ring ≡ Some first) where
    two : 2 ≤ length b.ring
    two = All-at_each (λ b. 2 ≤ length b.ring) bs b distinct.two there

    pub once-in_ring : (s : Side) → count_by (is_side s) (sides_of b.ring) ≤ 1
    once-in_ring s = le_part bs there (distinct.once s)
      where
        le_part : (cs : List Boundary) → Contains cs b → count_by (is_side s) (sides_in cs) ≤ 1 → count_by (is_side s) (sides_of b.ring) ≤ 1
        le_part [] h few = let low = h.1 in absurd (omega arith)
        le_part (c ∷ cs) h few =
            let e = sum_by-append (λ (t : Side). cond (is_side s t) 1 0) (sides_of c.ring) (sides_in cs) in
            elim (Contains-cases c cs b h) [
              | inl is ↦ let k = ap (λ (d : Boundary). count_by (is_side s) (sides_of d.ring)) is in omega arith
              | inr later ↦ le_part cs later (omega arith)
            ]

    -- a side after another isn't the first
    later : (given : List Side) (s t : Side) (others : List Side) → given ++ s ∷ t ∷ others ≡ sides_of b.ring → is_side first t ≡ true → ⊥
    later given s t others sides is =
        let all = begins_with first b.ring begins in
        let more = count-some (is_side first) all.0 t (among given (sides ∙ all.1)) is in
        let e = count-yes (is_side first) first all.0 (is_side-refl first) in
        let k = ap (λ (l : List Side). count_by (is_side first) l) all.1 in
        let few = once-in_ring first in
        omega arith
      where
        among : (gs : List Side) {rest : List Side} → gs ++ s ∷ t ∷ others ≡ first ∷ rest → Contains rest t
        among [] {rest} e = let same : t ∷ others ≡ rest = cc in subst (λ (l : List Side). Contains l t) same (Contains-first t others)
        among (g ∷ gs) {rest} e =
            let same : gs ++ s ∷ t ∷ others ≡ rest = cc in
            subst (λ (l : List Side). Contains l t) same (Contains-append_right gs (s ∷ t ∷ others) t (Contains-later s (t ∷ others) t (Contains-first t others)))

    pub next_side : (given : List Side) (s : Side) (rest : List Side) (w : ℕ) → given ++ s ∷ rest ≡ sides_of b.ring → Contains (corners_in bs) (corner s.0 s.1 w) → side_after first s (Some w) ≡ slice_get rest 0
    next_side given s rest w sides told = by rest comes refl
      where
        cs : List Corner
        cs = corners_of b.ring

        i : ℕ
        i = length given

        here : option_map side_before (slice_get cs i) ≡ Some s
        here = sym (slice_get-map side_before cs i) ∙ ap (λ (l : List Side). slice_get l i) (sides-before b.ring two ∙ sym sides) ∙ get-after given s rest

        from_corner : (o : Option Corner) → slice_get cs i ≡ o → option_map side_before o ≡ Some s → slice_get cs i ≡ Some (corner s.0 s.1 w)
        from_corner None is h = cc
        from_corner (Some c) is h =
            let same : side_before c ≡ s = cc in
            is ∙ ap Some (corner-only c (corner s.0 s.1 w) (Contains-flat_map (λ b. corners_of b.ring) bs b c there (Contains-at cs i c is)) told same)

        comes : Some (s.1, w) ≡ slice_get (rest ++ first ∷ []) 0
        comes =
            sym (ap (option_map side_behind) (from_corner (slice_get cs i) refl here)) ∙ sym (slice_get-map side_behind cs i)
            ∙ ap (λ (l : List Side). slice_get l (suc i)) (sides-behind b.ring first two begins ∙ ap (λ (l : List Side). l ++ first ∷ []) (sym sides) ∙ append_assoc given (s ∷ rest) (first ∷ []))
            ∙ get-next given s (rest ++ first ∷ [])

        by : (r : List Side) → Some (s.1, w) ≡ slice_get (r ++ first ∷ []) 0 → rest ≡ r → side_after first s (Some w) ≡ slice_get r 0
        by [] h is =
            let same : (s.1, w) ≡ first = cc in
            ap (λ (t : Side). if is_side first t then None else Some (s.1, w)) same ∙ ap (λ (v : Bool). if v then None else Some (s.1, w)) (is_side-refl first)
        by (t ∷ others) h is = at_first (is_side first (s.1, w)) refl
          where
            same : (s.1, w) ≡ t
            same = cc

            at_first : (v : Bool) → is_side first (s.1, w) ≡ v → side_after first s (Some w) ≡ Some t
            at_first true found = absurd (later given s t others (ap (λ (r : List Side). given ++ s ∷ r) (sym is) ∙ sides) (ap (is_side first) (sym same) ∙ found))
            at_first false missed = ap (λ (v : Bool). if v then None else Some (s.1, w)) missed ∙ ap Some same

-- ---- The whole walk, by what a follower tells

-- the follower tells what comes after each side of these rings
pub record FollowsSides (bs : List Boundary) (follower : Side → Option ℕ) : Type 0 where
  pub after : (s : Side) → Contains (sides_in bs) s → (w : ℕ) × (follower s ≡ Some w) × Contains (corners_in bs) (corner s.0 s.1 w)

walk-none : (follower : Side → Option ℕ) (first : Side) (most : ℕ) → walk follower first most None ≡ []
walk-none follower first zero = refl
walk-none follower first (suc most) = refl

module _ (bs : List Boundary) (distinct : HaveDistinctSides bs) (b : Boundary) (there : Contains bs b) (first : Side) (begins : first_side b.ring ≡ Some first) where
  module _ (follower : Side → Option ℕ) (follows : FollowsSides bs follower) where
    walk-rest : (given rest : List Side) (most : ℕ) → given ++ rest ≡ sides_of b.ring → length rest ≤ most → walk follower first most (slice_get rest 0) ≡ rest
    walk-rest given [] most sides room = walk-none follower first most
    walk-rest given (s ∷ rest) zero sides room = absurd (omega arith)
    walk-rest given (s ∷ rest) (suc most) sides room =
        let here = Contains-flat_map (λ b. sides_of b.ring) bs b s there (subst (λ (l : List Side). Contains l s) sides (Contains-append_right given (s ∷ rest) s (Contains-first s rest))) in
        let told = follows.after s here in
        let next = ap (side_after first s) told.1 ∙ next_side bs distinct b there first begins given s rest told.0 sides told.2 in
        ap (λ (at : Option Side). s ∷ walk follower first most at) next
        ∙ ap (λ (l : List Side). s ∷ l) (walk-rest (given ++ s ∷ []) rest most (append_assoc given (s ∷ []) rest ∙ sides) (omega arith))

    -- a walk from the first side of a ring, with enough steps, has the sides of the ring
    pub walk-ring : (most : ℕ) → length b.ring ≤ most → walk follower first most (first_side b.ring) ≡ sides_of b.ring
    walk-ring most room =
        let begun = begins_with first b.ring begins in
        let at : first_side b.ring ≡ slice_get (sides_of b.ring) 0 = begins ∙ ap (λ (l : List Side). slice_get l 0) (sym begun.1) in
        let few = length-sides_of b.ring in
        ap (walk follower first most) at ∙ walk-rest [] (sides_of b.ring) most refl (omega arith)

-- ---- A walk under way

-- these are the rings of the map, each written from some point on
pub record AreRingsOf (m : Map) (bs : List Boundary) : Type 0 where
  pub sides : IsPermutation (sides_in bs) (all_sides m)
  pub corners : IsPermutation (corners_in bs) (all_corners m)
  pub distinct : HaveDistinctSides bs

module _ (m : Map) (bs : List Boundary) (rings : AreRingsOf m bs) (b : Boundary) (there : Contains bs b) where
  -- the side that the walk is at is one of the ring
  pub on_ring-side : (given : List Side) (w : Walking) (s : Side) → IsOnRing m b.ring given w → w.at ≡ Some s → (rest : List Side) × (given ++ s ∷ rest ≡ sides_of b.ring) × (suc (length rest) ≤ w.most)
  on_ring-side given w s on at = by on.rest on.sides (sym at ∙ on.here) on.room
    where
      by : (rest : List Side) → given ++ rest ≡ sides_of b.ring → Some s ≡ slice_get rest 0 → length rest ≤ w.most → (rest : List Side) × (given ++ s ∷ rest ≡ sides_of b.ring) × (suc (length rest) ≤ w.most)
      by [] sides is room = cc
      by (t ∷ rest) sides is room = let same : s ≡ t = cc in (rest, ap (λ (u : Side). given ++ u ∷ rest) same ∙ sides, omega arith)

  pub on_ring-Contains : (given : List Side) (w : Walking) (s : Side) → IsOnRing m b.ring given w → w.at ≡ Some s → Contains (sides_of b.ring) s
  on_ring-Contains given w s on at =
      let found = on_ring-side given w s on at in
      subst (λ (l : List Side). Contains l s) found.1 (Contains-append_right given (s ∷ found.0) s (Contains-first s found.0))

  -- the map has a corner after each side of its rings
  told-corner : (s : Side) (follower : Side → Option ℕ) → Contains (sides_of b.ring) s → IsTold m follower s → (w : ℕ) × (follower s ≡ Some w) × Contains (corners_in bs) (corner s.0 s.1 w)
  told-corner s follower h told = by (follower s) refl told
    where
      by : (o : Option ℕ) → follower s ≡ o → MatchOption o (IsNoSide m s) (ComesAfter m s) → (w : ℕ) × (follower s ≡ Some w) × Contains (corners_in bs) (corner s.0 s.1 w)
      by None is none =
          let among = Contains-permutation (sides_in bs) (all_sides m) s rings.sides (Contains-flat_map (λ b. sides_of b.ring) bs b s there h) in
          absurd (true≢false (sym (list_any-Contains (is_side s) (all_sides m) s among (is_side-refl s)) ∙ none))
      by (Some w) is some = (w, is, Contains-permutation (all_corners m) (corners_in bs) (corner s.0 s.1 w) (IsPermutation-sym (corners_in bs) (all_corners m) rings.corners) some)

  -- one step of a walk
  pub on_ring-goes_on : (given : List Side) (w : Walking) (s : Side) (v : Walking) → IsOnRing m b.ring given w → GoesOn w s v → IsOnRing m b.ring (given ++ s ∷ []) v
  on_ring-goes_on given w s v on goes =
      let found = on_ring-side given w s on goes.here in
      let told = told-corner s w.follower (on_ring-Contains given w s on goes.here) (subst (λ (n : Map). IsTold n w.follower s) on.around goes.told) in
      let next = ap (side_after w.first s) told.1 ∙ next_side bs rings.distinct b there w.first on.first given s found.0 told.0 found.1 told.2 in
      let room : suc (length found.0) ≤ w.most = found.2 in
      subst (IsOnRing m b.ring (given ++ s ∷ [])) (sym goes.is)
      (record { rest = found.0; sides = append_assoc given (s ∷ []) found.0 ∙ found.1; here = next; first = on.first; around = on.around; room = omega arith })

  -- a walk with no side left to give has given the sides of the ring
  pub on_ring-ends : (given : List Side) (w : Walking) → IsOnRing m b.ring given w → sides_ahead w ≡ [] → given ≡ sides_of b.ring
  on_ring-ends given w on none = by on.rest on.sides on.here on.room w.most refl
    where
      by : (rest : List Side) → given ++ rest ≡ sides_of b.ring → w.at ≡ slice_get rest 0 → length rest ≤ w.most → (most : ℕ) → w.most ≡ most → given ≡ sides_of b.ring
      by [] sides here room most is = sym (append-nil given) ∙ sides
      by (s ∷ rest) sides here room zero is = absurd (omega arith)
      by (s ∷ rest) sides here room (suc most) is =
          let some : walk w.follower w.first (suc most) (Some s) ≡ [] = (λ i. walk w.follower w.first (sym is i) (sym here i)) ∙ none in
          cc

  -- what a walk that began at the first side of the ring has given
  pub on_ring-yields : {S : Type 0} (at : S → Walking) (given : List Side) (s : S) (xs : List Side) (t : S) → Yields (λ s r t. GivesNext (at s) r (at t)) s xs t → IsOnRing m b.ring given (at s) → IsOnRing m b.ring (given ++ xs) (at t)
  on_ring-yields at given s [] t same on = subst (λ (u : _). IsOnRing m b.ring (given ++ []) (at u)) same (subst (λ (l : List Side). IsOnRing m b.ring l (at s)) (sym (append-nil given)) on)
  on_ring-yields at given s (x ∷ xs) t gives on =
      subst (λ (l : List Side). IsOnRing m b.ring l (at t)) (append_assoc given (x ∷ []) xs)
      (on_ring-yields at (given ++ x ∷ []) gives.0 xs t gives.2 (on_ring-goes_on given (at s) x (at gives.0) on gives.1.goes_on))

  -- it begins at the first side
  pub on_ring-begins : (first : Side) (w : Walking) → first_side b.ring ≡ Some first → length (sides_of b.ring) ≤ w.most → w.map ≡ m → w.first ≡ first → w.at ≡ Some first → IsOnRing m b.ring [] w
  on_ring-begins first w begins room around is at =
      let begun = begins_with first b.ring begins in
      record { rest = sides_of b.ring; sides = refl; here = at ∙ ap (λ (l : List Side). slice_get l 0) (sym begun.1); first = begins ∙ ap Some (sym is); around = around; room = room }

-- the rings in canonical order, and as something that stands for the map keeps them
pub rings_of_canonical : (m : Map) (bs : List Boundary) → canonical_order bs ≡ m.boundaries → AllByRecursion (λ b. 2 ≤ length b.ring) bs → EachPair (λ a b. a ≢ b) (all_sides m) → AreRingsOf m bs
rings_of_canonical m bs is two once =
    let sides : IsPermutation (sides_in bs) (all_sides m) = subst (λ (l : List Boundary). IsPermutation (sides_in bs) (sides_in l)) is (sides_in-canonical_order bs) in
    record {
      sides = sides;
      corners = subst (λ (l : List Boundary). IsPermutation (corners_in bs) (corners_in l)) is (corners_in-canonical_order bs);
      distinct = record {
        two = two;
        once = λ s.
            let few = once-from_pairs (all_sides m) once s in
            let same = sum_by-IsPermutation (λ (t : Side). cond (is_side s t) 1 0) (sides_in bs) (all_sides m) sides in
            omega arith;
      };
    }

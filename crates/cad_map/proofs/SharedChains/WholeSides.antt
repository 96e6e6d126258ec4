-- The sides of a map whose rings are whole, each followed by the next one of its ring.
use Rattle.std.proofs.Common.{◌≡◌, ℕ, ◌+◌, ◌≤◌, inl, inr, refl, sym, ap, subst, ◌∙◌, List, [], ◌∷◌, length, Option, Some, None, cond, true≢false, arith}
use Rattle.std.proofs.lemmas.List.Sums.{sum_by-append}
use Rattle.std.proofs.lemmas.List.Sorted.{IsPermutation-sym, Contains-permutation}
use Rattle.std.specs.Prelude.{count_by, unwrap_or}
use Rattle.std.specs.List.{AllByRecursion, Contains}
use Rattle.cad_rings.specs.Cycle.{Side, is_side, opposite, sides_of, Corner, corners_of}
use Rattle.cad_rings.specs.Surgery.{corner}
use Rattle.cad_map.specs.declared.boundary.Boundary.{Boundary}
use Rattle.cad_map.specs.Boundaries.{sides_in, corners_in}
use Rattle.cad_map.specs.Map.{Map, all_sides, string_sides, point_after}
use Rattle.cad_map.specs.Rings.{HasWholeRings}
use Rattle.cad_map.specs.Views.{ComesAfter}
use Rattle.cad_map.specs.Steps.{next_side}
use Rattle.cad_map.proofs.Lists.EachElement.{All-follows}
use Rattle.cad_map.proofs.Lists.Elements.{Contains-cases, Contains-flat_map, Contains-in_part, Contains-map, count-some, All-at_each}
use Rattle.cad_map.proofs.Boundaries.Looks.{point_after-some, point_after-none}
use Rattle.cad_map.proofs.Boundaries.FacesBeside.{Contains-has_side, string_side, both_sides}
use Rattle.cad_map.proofs.Walks.AlongRing.{AreRingsOf, side_before, is_side-refl, sides_in-before, corner-only, once-in_ring}
use Rattle.cad_map.proofs.Boundaries.RingsOfMap.{rings_of_map}
use Rattle.cad_map.proofs.SharedChains.StepsOfRings.{IsWalked, has_first}
use Rattle.cad_map.proofs.SharedChains.StepsOfRings as on_ring

-- a side that stands once among these rings is one of one ring
pub one_boundary : (s : Side) (bs : List Boundary) (b c : Boundary) → count_by (is_side s) (sides_in bs) ≤ 1 → Contains bs b → Contains bs c → Contains (sides_of b.ring) s → Contains (sides_of c.ring) s → b ≡ c
one_boundary s [] b c once h k has too = let low = h.1 in absurd (omega arith)
one_boundary s (d ∷ ds) b c once h k has too =
    let split : count_by (is_side s) (sides_in (d ∷ ds)) ≡ count_by (is_side s) (sides_of d.ring) + count_by (is_side s) (sides_in ds) = sum_by-append (λ (t : Side). cond (is_side s t) 1 0) (sides_of d.ring) (sides_in ds) in
    elim (Contains-cases d ds b h) [
      | inl here ↦ elim (Contains-cases d ds c k) [
        | inl same ↦ sym here ∙ same
        | inr later ↦ absurd (twice d b c here later has too (omega (arith, split, once)))
      ]
      | inr later ↦ elim (Contains-cases d ds c k) [
        | inl here ↦ absurd (twice d c b here later too has (omega (arith, split, once)))
        | inr too_late ↦ one_boundary s ds b c (omega (arith, split, once)) later too_late has too
      ]
    ]
  where
    twice : (d b c : Boundary) → d ≡ b → Contains ds c → Contains (sides_of b.ring) s → Contains (sides_of c.ring) s → count_by (is_side s) (sides_of d.ring) + count_by (is_side s) (sides_in ds) ≤ 1 → ⊥
    twice d b c here later has too few =
        let first = count-some (is_side s) (sides_of d.ring) s (subst (λ (x : Boundary). Contains (sides_of x.ring) s) (sym here) has) (is_side-refl s) in
        let second = count-some (is_side s) (sides_in ds) s (Contains-flat_map (λ x. sides_of x.ring) ds c s later too) (is_side-refl s) in
        omega (arith, first, second, few)

module _ (m : Map) (whole : HasWholeRings m) where
  two : AllByRecursion (λ b. 2 ≤ length b.ring) m.boundaries
  two = All-follows (λ b. 3 ≤ length b.ring) (λ b. 2 ≤ length b.ring) (λ b h. omega (arith, h)) m.boundaries whole.v5.three

  rings : AreRingsOf m m.boundaries
  rings = rings_of_map m m.boundaries whole whole.v1.canonical two

  -- where a point comes after a side, the side to it is the next one
  pub next-is : (s : Side) (w : ℕ) → ComesAfter m s w → next_side m s ≡ (s.1, w)
  next-is s w comes = by (point_after s m.boundaries) refl
    where
      to : ℕ → Side
      to v = (s.1, v)

      by : (o : Option ℕ) → point_after s m.boundaries ≡ o → to (unwrap_or (point_after s m.boundaries) 0) ≡ to w
      by None is =
          let there = subst (λ (l : List Side). Contains l s) (sides_in-before m.boundaries two) (Contains-map side_before (corners_in m.boundaries) (corner s.0 s.1 w) comes) in
          absurd (true≢false (sym (Contains-has_side s (sides_in m.boundaries) there) ∙ point_after-none s m.boundaries two is))
      by (Some v) is =
          let same = corner-only m.boundaries rings.distinct (corner s.0 s.1 v) (corner s.0 s.1 w) (point_after-some s m.boundaries v is) comes refl in
          ap (λ (o : Option ℕ). to (unwrap_or o 0)) is ∙ ap (λ (c : Corner). to c.after) same

  pub ring-walked : (b : Boundary) → Contains m.boundaries b → IsWalked (next_side m) b.ring
  ring-walked b there =
      let long = All-at_each (λ b. 2 ≤ length b.ring) m.boundaries b two there in
      let first = has_first b.ring long in
      record {
        two = long;
        follows = λ c h. next-is (side_before c) c.after (Contains-flat_map (λ b. corners_of b.ring) m.boundaries b c there h);
        once = λ s. once-in_ring m.boundaries rings.distinct b there first.0 first.1 s;
      }

  -- the ring of a side has the next one
  pub next-in_all : (s : Side) → Contains (all_sides m) s → Contains (all_sides m) (next_side m s)
  next-in_all s there =
      let part = Contains-in_part (λ b. sides_of b.ring) m.boundaries s there in
      Contains-flat_map (λ b. sides_of b.ring) m.boundaries part.0 (next_side m s) part.1 (on_ring.next-there (next_side m) (λ t. refl) part.0.ring s (ring-walked part.0 part.1) part.2)

  -- and a ring that has the next one has the side
  pub comes_from : (b : Boundary) → Contains m.boundaries b → (s : Side) → Contains (all_sides m) s → Contains (sides_of b.ring) (next_side m s) → Contains (sides_of b.ring) s
  comes_from b there s has next =
      let part = Contains-in_part (λ b. sides_of b.ring) m.boundaries s has in
      let too = on_ring.next-there (next_side m) (λ t. refl) part.0.ring s (ring-walked part.0 part.1) part.2 in
      let same = one_boundary (next_side m s) m.boundaries part.0 b (rings.distinct.once (next_side m s)) part.1 there too next in
      subst (λ (c : Boundary). Contains (sides_of c.ring) s) same part.2

  -- the opposite of a side is one too
  pub opposite-in_all : (s : Side) → Contains (all_sides m) s → Contains (all_sides m) (opposite s)
  opposite-in_all s there =
      let canonical_so = Contains-permutation (all_sides m) (string_sides m) s
      (IsPermutation-sym (string_sides m) (all_sides m) whole.v5.once) there in
      let found = string_side m s canonical_so in
      let sides = both_sides m found.string found.there in
      Contains-permutation (string_sides m) (all_sides m) (opposite s) whole.v5.once (elim found.is [
        | inl is ↦ subst (λ (u : Side). Contains (string_sides m) (opposite u)) (sym is) sides.1
        | inr is ↦ subst (λ (u : Side). Contains (string_sides m) (opposite u)) (sym is) sides.0
      ])

-- Room in the stars for the halves of strings along a chain.
use Rattle.std.proofs.Common.{◌≡◌, ◌≢◌, ℕ, zero, suc, ◌+◌, ◌<◌, ◌≤◌, ◌==◌, Bool, true, false, refl, sym, ap, subst, ◌∙◌, List, [], ◌∷◌, ◌++◌, map, length, slice_get, Some, arith}
use Rattle.std.specs.Prelude.{count_by, cond}
use Rattle.std.specs.List.{AllByRecursion}
use Rattle.std.proofs.lemmas.Bool.{eqb-true}
use Rattle.std.proofs.lemmas.List.Sums.{sum_by-append}
use Rattle.cad_rows.specs.declared.rows.StringRow.{StringRow}
use Rattle.cad_rings.specs.Cycle.{Ring, Side, sides_along, sides_of}
use Rattle.cad_rings.specs.Surgery.{sides_of_chain}
use Rattle.cad_rings.proofs.CallerLemmas.{sides_of_chain-is}
use Rattle.cad_map.specs.Chain.{start_of, end_of, inner_of}
use Rattle.cad_map.specs.Map.{side_of}
use Rattle.cad_map.specs.Valid.{EachPair}
use Rattle.cad_map.proofs.CallerLemmas.{count-yes, count-no, All-at_each, Contains-at, in_parts}
use Rattle.key_lists.specs.Held.{Held, HasRoomAt}
use Rattle.map_parts.specs.declared.stars.Spoke.{Spoke}
use Rattle.map_parts.specs.Adding.{HasRoomAtEnds}
use Rattle.map_parts.specs.Stars.{spokes_at}
use Rattle.map_parts.specs.StringRows.{HasRoomFor}
use Rattle.map_parts.proofs.AlongPaths.{starts-along}
use Rattle.map_parts.proofs.ChainAcross.{last-string}
use Rattle.map_parts.proofs.CycleRings.{map-map}
use Rattle.map_parts.proofs.IslandRoom.{is, spokes-few, once, room-found, ring-room, ends-around}

module _ (p : ℕ) where
  -- how often the point stands there
  abbrev often : List ℕ → ℕ
  often points = count_by (is p) points

  often-append : (xs ys : List ℕ) → often (xs ++ ys) ≡ often xs + often ys
  often-append xs ys = sum_by-append (λ (n : ℕ). cond (is p n) 1 0) xs ys

  -- the points where strings along a chain begin, and where they end
  froms-along : (ss : List StringRow) (a : ℕ) (inner : List ℕ) (z : ℕ) → map side_of ss ≡ sides_along a inner z → map (λ (s : StringRow). s.from) ss ≡ a ∷ inner
  froms-along ss a inner z e = sym (map-map (λ (t : Side). t.0) side_of ss) ∙ ap (map (λ (t : Side). t.0)) e ∙ starts-along a inner z

  tos-along : (ss : List StringRow) (a : ℕ) (inner : List ℕ) (z : ℕ) → map side_of ss ≡ sides_along a inner z → map (λ (s : StringRow). s.to) ss ≡ inner ++ z ∷ []
  tos-along ss a inner z e = sym (map-map (λ (t : Side). t.1) side_of ss) ∙ ap (map (λ (t : Side). t.1)) e ∙ ends-around p a inner z

  one-only : (z : ℕ) → 1 ≤ often (z ∷ []) → z ≡ p
  one-only z some = by (z == p) refl
    where
      by : (b : Bool) → (z == p) ≡ b → z ≡ p
      by true e = eqb-true z p e
      by false e = let none = count-no (is p) z [] e in absurd (omega (arith, none, some))

-- room for two at the first point of each string of a chain, and for one at its end, is room for all their halves
chain-room : (added : List StringRow) (a : ℕ) (inner : List ℕ) (z : ℕ) → map side_of added ≡ sides_along a inner z → EachPair (λ m n. m ≢ n) (a ∷ inner ++ z ∷ [])
    → (stars : Held Spoke) → AllByRecursion (λ (s : StringRow). HasRoomAt stars s.from 2) added → HasRoomAt stars z 1 → HasRoomFor added stars
chain-room added a inner z sides each stars room end_room p some = by (often p (a ∷ inner)) refl
  where
    few : length (spokes_at p added) ≤ count_by (is p) (map (λ (s : StringRow). s.from) added) + count_by (is p) (map (λ (s : StringRow). s.to) added)
    few = spokes-few p added

    from_count : count_by (is p) (map (λ (s : StringRow). s.from) added) ≡ often p (a ∷ inner)
    from_count = ap (often p) (froms-along p added a inner z sides)

    to_count : count_by (is p) (map (λ (s : StringRow). s.to) added) ≡ often p inner + often p (z ∷ [])
    to_count = ap (often p) (tos-along p added a inner z sides) ∙ often-append p inner (z ∷ [])

    all_once : often p (a ∷ inner) + often p (z ∷ []) ≤ 1
    all_once = let e = often-append p (a ∷ inner) (z ∷ []) in let one = once p (a ∷ inner ++ z ∷ []) each in omega (arith, e, one)

    first_more : often p inner ≤ often p (a ∷ inner)
    first_more = which (a == p) refl
      where
        which : (b : Bool) → (a == p) ≡ b → often p inner ≤ often p (a ∷ inner)
        which true e = let k = count-yes (is p) a inner e in omega (arith, k)
        which false e = let k = count-no (is p) a inner e in omega (arith, k)

    by : (n : ℕ) → often p (a ∷ inner) ≡ n → HasRoomAt stars p (length (spokes_at p added))
    by zero none =
        let at = one-only p z (omega (arith, few, from_count, to_count, none, first_more, some)) in
        let here : HasRoomAt stars p 1 = subst (λ (k : ℕ). HasRoomAt stars k 1) at end_room in
        omega (arith, few, from_count, to_count, none, first_more, all_once, here)
    by (suc n) there =
        let two = room-found p stars added (omega (arith, from_count, there)) room in
        omega (arith, few, from_count, to_count, there, first_more, all_once, two)

first-ends : (stars : Held Spoke) (rows : List StringRow) → AllByRecursion (HasRoomAtEnds stars) rows → AllByRecursion (λ (s : StringRow). HasRoomAt stars s.from 2) rows
first-ends stars [] all = tt
first-ends stars (r ∷ rows) all = (all.0.0, first-ends stars rows all.1)

last-of : (xs : List StringRow) → 0 < length xs → (n : ℕ) × (s : StringRow) × (suc n ≡ length xs) × (slice_get xs n ≡ Some s)
last-of [] some = absurd (omega (arith, some))
last-of (x ∷ []) some = (0, x, refl, refl)
last-of (x ∷ y ∷ xs) some = let it = last-of (y ∷ xs) (omega arith) in (suc it.0, it.1, ap suc it.2, it.3)

-- room for two at both ends of each string of a chain is room for all their halves
pub chain_ends-room : (added : List StringRow) (chain : List ℕ) → 2 ≤ length chain → EachPair (λ a b. a ≢ b) chain → map side_of added ≡ sides_of_chain chain
    → (stars : Held Spoke) → AllByRecursion (HasRoomAtEnds stars) added → HasRoomFor added stars
chain_ends-room added chain long each sides stars all =
    let parts = in_parts chain long in
    let last = last-string added chain long sides in
    let at = last-of added last.0 in
    let both = All-at_each (HasRoomAtEnds stars) added at.1 all (Contains-at added at.0 at.1 at.3) in
    let at_end : HasRoomAt stars (end_of chain) 2 = subst (λ (n : ℕ). HasRoomAt stars n 2) (last.1 at.0 at.2 at.1 at.3) both.1 in
    chain-room added (start_of chain) (inner_of chain) (end_of chain) (sides ∙ ap sides_of_chain parts ∙ sides_of_chain-is (start_of chain) (inner_of chain) (end_of chain))
    (subst (EachPair (λ a b. a ≢ b)) parts each) stars (first-ends stars added all) (omega (arith, at_end))

-- and so it is where they close a ring
pub ring_ends-room : (added : List StringRow) (ring : Ring) → EachPair (λ a b. a ≢ b) ring → map side_of added ≡ sides_of ring
    → (stars : Held Spoke) → AllByRecursion (HasRoomAtEnds stars) added → HasRoomFor added stars
ring_ends-room added ring each sides stars all = ring-room added ring sides each stars (first-ends stars added all)

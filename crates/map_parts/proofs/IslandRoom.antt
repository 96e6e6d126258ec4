-- Room in the stars for the halves of strings that close a ring.
use Rattle.std.proofs.Common.{◌≡◌, ◌≢◌, ℕ, ◌+◌, ◌≤◌, ◌==◌, Bool, true, false, true≢false, refl, sym, ap, subst, ◌∙◌, List, [], ◌∷◌, ◌++◌, map, length, length-append, cond, arith}
use Rattle.std.specs.Prelude.{count_by}
use Rattle.std.specs.List.{AllByRecursion}
use Rattle.std.proofs.lemmas.Bool.{eqb-true, eq-eqb}
use Rattle.std.proofs.lemmas.List.Sorted.{IsPermutation-append_comm, sum_by-IsPermutation}
use Rattle.cad_rows.specs.declared.rows.StringRow.{StringRow}
use Rattle.cad_rings.specs.Cycle.{Ring, Side, sides_along, sides_of}
use Rattle.cad_map.specs.Map.{side_of}
use Rattle.cad_map.specs.Valid.{EachPair}
use Rattle.cad_map.proofs.CallerLemmas.{count-yes, count-no}
use Rattle.key_lists.specs.Held.{Held, HasRoomAt, KeepsOthers}
use Rattle.map_parts.specs.declared.stars.Spoke.{Spoke}
use Rattle.map_parts.specs.Stars.{spokes_of, spokes_at}
use Rattle.map_parts.specs.StringRows.{HasRoomFor}
use Rattle.map_parts.proofs.AlongPaths.{starts-along}
use Rattle.map_parts.proofs.CycleRings.{map-map}
use Rattle.map_parts.proofs.Passing.StarsChanged.{same-room}

module _ (p : ℕ) where
  abbrev pub is : ℕ → Bool
  is n = n == p

  abbrev pub from : StringRow → ℕ
  from s = s.from

  abbrev pub to : StringRow → ℕ
  to s = s.to

  -- at most so many halves begin at the point as strings begin or end there
  pub spokes-few : (ss : List StringRow)
      → length (spokes_at p ss) ≤ count_by is (map from ss) + count_by is (map to ss)
  spokes-few [] = omega arith
  spokes-few (s ∷ ss) =
      let rest = spokes-few ss in
      let joined = length-append (spokes_of p s) (spokes_at p ss) in
      by rest joined (s.from == p) (s.to == p) refl refl
    where
      by : length (spokes_at p ss) ≤ count_by is (map from ss) + count_by is (map to ss)
          → length (spokes_of p s ++ spokes_at p ss) ≡ length (spokes_of p s) + length (spokes_at p ss)
          → (a b : Bool) → (s.from == p) ≡ a → (s.to == p) ≡ b
          → length (spokes_of p s ++ spokes_at p ss) ≤ count_by is (map from (s ∷ ss)) + count_by is (map to (s ∷ ss))
      by rest joined true true e f =
          let one : length (spokes_of p s) ≡ 1 = rw e refl in
          let g = count-yes is s.from (map from ss) e in
          let h = count-yes is s.to (map to ss) f in
          omega (arith, rest, joined, one, g, h)
      by rest joined true false e f =
          let one : length (spokes_of p s) ≡ 1 = rw e refl in
          let g = count-yes is s.from (map from ss) e in
          let h = count-no is s.to (map to ss) f in
          omega (arith, rest, joined, one, g, h)
      by rest joined false true e f =
          let one : length (spokes_of p s) ≡ 1 = rw (e, f) refl in
          let g = count-no is s.from (map from ss) e in
          let h = count-yes is s.to (map to ss) f in
          omega (arith, rest, joined, one, g, h)
      by rest joined false false e f =
          let none : length (spokes_of p s) ≡ 0 = rw (e, f) refl in
          let g = count-no is s.from (map from ss) e in
          let h = count-no is s.to (map to ss) f in
          omega (arith, rest, joined, none, g, h)

  none-other : (n : ℕ) (xs : List ℕ) → n ≡ p → AllByRecursion (λ k. n ≢ k) xs → count_by is xs ≡ 0
  none-other n [] same all = refl
  none-other n (x ∷ xs) same all = by (x == p) refl (none-other n xs same all.1)
    where
      by : (b : Bool) → (x == p) ≡ b → count_by is xs ≡ 0 → count_by is (x ∷ xs) ≡ 0
      by true e rest = absurd (all.0 (same ∙ sym (eqb-true x p e)))
      by false e rest = count-no is x xs e ∙ rest

  pub once : (xs : List ℕ) → EachPair (λ a b. a ≢ b) xs → count_by is xs ≤ 1
  once [] each = omega arith
  once (x ∷ xs) each = by (x == p) refl (once xs each.1)
    where
      by : (b : Bool) → (x == p) ≡ b → count_by is xs ≤ 1 → count_by is (x ∷ xs) ≤ 1
      by true e rest =
          let a = count-yes is x xs e in
          let b = none-other x xs (eqb-true x p e) each.0 in
          omega (arith, a, b)
      by false e rest = let a = count-no is x xs e in omega (arith, a, rest)

  -- where a string begins at the point there is room
  pub room-found : (stars : Held Spoke) (ss : List StringRow) → 1 ≤ count_by is (map from ss)
      → AllByRecursion (λ (s : StringRow). HasRoomAt stars s.from 2) ss → HasRoomAt stars p 2
  room-found stars [] some all = absurd (omega (arith, some))
  room-found stars (s ∷ ss) some all = by (s.from == p) refl (λ more. room-found stars ss more all.1)
    where
      by : (b : Bool) → (s.from == p) ≡ b → (1 ≤ count_by is (map from ss) → HasRoomAt stars p 2) → HasRoomAt stars p 2
      by true e again = subst (λ (n : ℕ). HasRoomAt stars n 2) (eqb-true s.from p e) all.0
      by false e again = let a = count-no is s.from (map from ss) e in again (omega (arith, a, some))

  pub ends-around : (a : ℕ) (points : List ℕ) (z : ℕ) → map (λ (s : Side). s.1) (sides_along a points z) ≡ points ++ z ∷ []
  ends-around a [] z = refl
  ends-around a (b ∷ points) z = ap (λ (l : List ℕ). b ∷ l) (ends-around b points z)

  -- as many strings of a ring end at the point as it stands in the ring
  froms-are : (ss : List StringRow) (ring : Ring) → map side_of ss ≡ sides_of ring → map from ss ≡ ring
  froms-are [] [] e = refl
  froms-are (s ∷ ss) [] e = cc
  froms-are ss (a ∷ points) e =
      sym (map-map (λ (t : Side). t.0) side_of ss) ∙ ap (map (λ (t : Side). t.0)) e ∙ starts-along a points a

  tos-count : (ss : List StringRow) (ring : Ring) → map side_of ss ≡ sides_of ring → count_by is (map to ss) ≡ count_by is ring
  tos-count [] [] e = refl
  tos-count (s ∷ ss) [] e = cc
  tos-count ss (a ∷ points) e =
      ap (count_by is) (sym (map-map (λ (t : Side). t.1) side_of ss) ∙ ap (map (λ (t : Side). t.1)) e ∙ ends-around a points a)
      ∙ sum_by-IsPermutation (λ n. cond (is n) 1 0) (a ∷ points) (points ++ a ∷ []) (IsPermutation-append_comm (a ∷ []) points)

-- room for two at the first point of each string of a ring is room for all their halves
pub ring-room : (added : List StringRow) (ring : Ring) → map side_of added ≡ sides_of ring → EachPair (λ a b. a ≢ b) ring
    → (stars : Held Spoke) → AllByRecursion (λ (s : StringRow). HasRoomAt stars s.from 2) added → HasRoomFor added stars
ring-room added ring sides each stars room p some =
    let few = spokes-few p added in
    let from_count = ap (count_by (is p)) (froms-are p added ring sides) in
    let to_count = tos-count p added ring sides in
    let one = once p ring each in
    let two = room-found p stars added (omega (arith, few, from_count, to_count, some)) room in
    omega (arith, few, from_count, to_count, one, two)

-- room at one key takes none from another
pub room-stays : (key : ℕ) (old new : Held Spoke) → KeepsOthers key old new → HasRoomAt new key 2 → (p : ℕ) → HasRoomAt old p 2 → HasRoomAt new p 2
room-stays key old new others here p room = by (key == p) refl
  where
    by : (b : Bool) → (key == p) ≡ b → HasRoomAt new p 2
    by true e = subst (λ (n : ℕ). HasRoomAt new n 2) (eqb-true key p e) here
    by false e = same-room old new p 2 (others p (λ same. true≢false (sym (eq-eqb key p same) ∙ e))) room

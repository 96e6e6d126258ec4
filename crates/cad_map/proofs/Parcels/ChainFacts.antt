-- Chains of points: their parts, their sides, and the strings along them.
use Rattle.std.proofs.Common.{◌≡◌, ◌≢◌, ℕ, ◌+◌, ◌-◌, ◌≤◌, ◌⊎◌, inl, inr, refl, sym, ap, subst, ◌∙◌, List, [], ◌∷◌, ◌++◌, length, map, flat_map, take, nat_eq, Bool, true, false, true≢false, not, arith}
use Rattle.std.specs.Prelude.{◌==◌, ◌&&◌, ◌||◌, slice_index}
use Rattle.std.specs.List.{AllByRecursion, Contains, list_any}
use Rattle.std.proofs.Math.Seq.{take-append_seam}
use Rattle.std.proofs.lemmas.List.{reverse-append, length-append}
use Rattle.std.proofs.lemmas.Cmp.{nat_eq_equiv}
use Rattle.cad_rows.specs.declared.rows.StringRow.{StringRow}
use Rattle.cad_rings.specs.Cycle.{Ring, Side, opposite, sides_along, sides_of}
use Rattle.cad_rings.specs.Surgery.{sides_of_chain}
use Rattle.cad_map.specs.Map.{side_of}
use Rattle.cad_map.specs.Chain.{start_of, end_of, inner_of, are_distinct, strings_along}
use Rattle.cad_map.specs.Valid.{EachPair}
use Rattle.cad_map.proofs.Lists.Elements.{Contains-cases, Contains-first, Contains-later, All-at_each}
use Rattle.cad_map.proofs.Lists.EachElement.{All-follows, EachPair-push}

-- ---- Numbers none of which stands twice

-- no number of a list that passes the test of distinctness is another of them
pub pairs-from_distinct : (xs : List ℕ) → are_distinct xs ≡ true → EachPair (λ a b. a ≢ b) xs
pairs-from_distinct [] h = tt
pairs-from_distinct (x ∷ xs) h = by (list_any (λ y. x == y) xs) refl h (λ rest. pairs-from_distinct xs rest)
  where
    others : (ys : List ℕ) → list_any (λ y. x == y) ys ≡ false → AllByRecursion (λ y. x ≢ y) ys
    others [] none = tt
    others (y ∷ ys) none = one (x == y) refl none (λ rest. others ys rest)
      where
        one : (b : Bool) → (x == y) ≡ b → (b || list_any (λ y. x == y) ys) ≡ false → (list_any (λ y. x == y) ys ≡ false → AllByRecursion (λ y. x ≢ y) ys) → AllByRecursion (λ y. x ≢ y) (y ∷ ys)
        one true is none again = absurd (true≢false none)
        one false is none again = ((λ same. true≢false (sym (nat_eq_equiv.refl x) ∙ ap (λ (k : ℕ). x == k) same ∙ is)), again none)

    by : (b : Bool) → list_any (λ y. x == y) xs ≡ b → (not b && are_distinct xs) ≡ true → (are_distinct xs ≡ true → EachPair (λ a b. a ≢ b) xs) → EachPair (λ a b. a ≢ b) (x ∷ xs)
    by true is h again = absurd (true≢false (sym h))
    by false is h again = (others xs is, again h)

-- no number of a list is the one that isn't found in it
pub others-attached : (s : ℕ) (sources : List ℕ) → list_any (λ t. t == s) sources ≡ false → AllByRecursion (λ t. t ≢ s) sources
others-attached s [] h = tt
others-attached s (t ∷ sources) h = by (λ rest. others-attached s sources rest) (nat_eq t s) refl
  where
    by : (list_any (λ t. t == s) sources ≡ false → AllByRecursion (λ t. t ≢ s) sources) → (b : Bool) → nat_eq t s ≡ b → AllByRecursion (λ t. t ≢ s) (t ∷ sources)
    by again true is = absurd (true≢false (sym (ap (λ (b : Bool). b || list_any (λ t. t == s) sources) is) ∙ h))
    by again false is = (
      (λ same. true≢false (sym (ap (λ (k : ℕ). nat_eq k s) same ∙ nat_eq_equiv.refl s) ∙ is)),
      again (sym (ap (λ (b : Bool). b || list_any (λ t. t == s) sources) is) ∙ h),
    )

-- ---- The parts of a chain

-- a list that isn't empty has a last element
last_apart : (x : ℕ) (xs : List ℕ) → (ys : List ℕ) × (y : ℕ) × (x ∷ xs ≡ ys ++ y ∷ [])
last_apart x [] = ([], x, refl)
last_apart x (y ∷ xs) = let rest = last_apart y xs in (x ∷ rest.0, rest.1, ap (λ (l : List ℕ). x ∷ l) rest.2)

abbrev InParts : List ℕ → Type 0
InParts chain = chain ≡ start_of chain ∷ inner_of chain ++ end_of chain ∷ []

parts-of : (a : ℕ) (inner : List ℕ) (z : ℕ) → InParts (a ∷ inner ++ z ∷ [])
parts-of a inner z =
    let long = length-append inner (z ∷ []) in
    let count : length (a ∷ inner ++ z ∷ []) - 1 - 1 ≡ length inner = omega arith in
    let last : end_of (a ∷ inner ++ z ∷ []) ≡ z = ap (λ (l : List ℕ). slice_index l 0) (reverse-append (a ∷ inner) (z ∷ [])) in
    let middle : inner_of (a ∷ inner ++ z ∷ []) ≡ inner = ap (λ (n : ℕ). take n (inner ++ z ∷ [])) count ∙ take-append_seam inner (z ∷ []) in
    λ i. a ∷ sym middle i ++ sym last i ∷ []

-- a chain is its first point, its inner points and its last point
pub in_parts : (chain : List ℕ) → 2 ≤ length chain → InParts chain
in_parts [] two = absurd (omega arith)
in_parts (a ∷ []) two = absurd (omega arith)
in_parts (a ∷ x ∷ xs) two = let rest = last_apart x xs in subst InParts (ap (λ (l : List ℕ). a ∷ l) (sym rest.2)) (parts-of a rest.0 rest.1)

-- ---- The sides along a chain

-- a fact of each point is one of both ends of each side
pub ends-along : (P : ℕ → Type 0) (a : ℕ) (xs : List ℕ) (z : ℕ) → AllByRecursion P (a ∷ xs ++ z ∷ []) → AllByRecursion (λ (s : Side). P s.0 × P s.1) (sides_along a xs z)
ends-along P a [] z all = ((all.0, all.1.0), tt)
ends-along P a (x ∷ xs) z all = ((all.0, all.1.0), ends-along P x xs z all.1)

pub ends-chain : (P : ℕ → Type 0) (chain : List ℕ) → AllByRecursion P chain → AllByRecursion (λ (s : Side). P s.0 × P s.1) (sides_of_chain chain)
ends-chain P [] all = tt
ends-chain P (a ∷ []) all = tt
ends-chain P (a ∷ b ∷ points) all = ((all.0, all.1.0), ends-chain P (b ∷ points) all.1)

-- a fact of the point that each side leaves is one of each point
pub points-along : (P : ℕ → Type 0) (a : ℕ) (xs : List ℕ) (z : ℕ) → AllByRecursion (λ (s : Side). P s.0) (sides_along a xs z) → AllByRecursion P (a ∷ xs)
points-along P a [] z all = (all.0, tt)
points-along P a (x ∷ xs) z all = (all.0, points-along P x xs z all.1)

pub points-round : (P : ℕ → Type 0) (ring : Ring) → AllByRecursion (λ (s : Side). P s.0) (sides_of ring) → AllByRecursion P ring
points-round P [] all = tt
points-round P (a ∷ points) all = points-along P a points a all

-- a chain is one side, or each of its sides has an inner point
pub inner-along : (a : ℕ) (xs : List ℕ) (z : ℕ) (s : Side) → Contains (sides_along a xs z) s → ((xs ≡ []) × (s ≡ (a, z))) ⊎ (Contains xs s.0 ⊎ Contains xs s.1)
inner-along a [] z s h = elim (Contains-cases (a, z) [] s h) [ inl is ↦ inl (refl, sym is) | inr none ↦ let low = none.1 in absurd (omega arith) ]
inner-along a (x ∷ xs) z s h = elim (Contains-cases (a, x) (sides_along x xs z) s h) [
  | inl is ↦ inr (inr (subst (Contains (x ∷ xs)) (ap (λ (t : Side). t.1) is) (Contains-first x xs)))
  | inr later ↦ elim (inner-along x xs z s later) [
    | inl last ↦ inr (inl (subst (Contains (x ∷ xs)) (ap (λ (t : Side). t.0) (sym last.1)) (Contains-first x xs)))
    | inr some ↦ elim some [ inl h ↦ inr (inl (Contains-later x xs s.0 h)) | inr h ↦ inr (inr (Contains-later x xs s.1 h)) ]
  ]
]

-- ---- No side of a chain is the opposite of another

-- of these sides none has its opposite among them
pub record HasNoOpposites (sides : List Side) : Type 0 where
  pub none : (s : Side) → Contains sides s → Contains sides (opposite s) → ⊥

-- both ends of a side differ from a number that none of the chain's points is
away : (p a : ℕ) (xs : List ℕ) (z : ℕ) → AllByRecursion (λ q. p ≢ q) (a ∷ xs ++ z ∷ []) → (s : Side) → Contains (sides_along a xs z) s → (p ≢ s.0) × (p ≢ s.1)
away p a xs z all s h = All-at_each (λ (s : Side). (p ≢ s.0) × (p ≢ s.1)) (sides_along a xs z) s (ends-along (λ q. p ≢ q) a xs z all) h

pub no_opposites-along : (a : ℕ) (xs : List ℕ) (z : ℕ) → EachPair (λ p q. p ≢ q) (a ∷ xs ++ z ∷ []) → HasNoOpposites (sides_along a xs z)
no_opposites-along a [] z each = record { none = λ s h k. by s h k }
  where
    only : (s : Side) → Contains ((a, z) ∷ []) s → (a, z) ≡ s
    only s h = elim (Contains-cases (a, z) [] s h) [ inl is ↦ is | inr none ↦ let low = none.1 in absurd (omega arith) ]

    by : (s : Side) → Contains ((a, z) ∷ []) s → Contains ((a, z) ∷ []) (opposite s) → ⊥
    by s h k = each.0.0 (ap (λ (t : Side). t.0) (only s h) ∙ ap (λ (t : Side). t.1) (sym (only (opposite s) k)))
no_opposites-along a (x ∷ xs) z each = record { none = λ s h k. by (no_opposites-along x xs z each.1) s h k }
  where
    first : (s : Side) → (a, x) ≡ s → Contains (sides_along x xs z) (opposite s) → ⊥
    first s is k = (away a x xs z each.0 (opposite s) k).1 (ap (λ (t : Side). t.0) is)

    by : HasNoOpposites (sides_along x xs z) → (s : Side) → Contains ((a, x) ∷ sides_along x xs z) s → Contains ((a, x) ∷ sides_along x xs z) (opposite s) → ⊥
    by rest s h k = elim (Contains-cases (a, x) (sides_along x xs z) s h) [
      | inl is ↦ elim (Contains-cases (a, x) (sides_along x xs z) (opposite s) k) [
        | inl too ↦ each.0.0 (ap (λ (t : Side). t.0) is ∙ ap (λ (t : Side). t.1) (sym too))
        | inr later ↦ first s is later
      ]
      | inr here ↦ elim (Contains-cases (a, x) (sides_along x xs z) (opposite s) k) [
        | inl too ↦ first (opposite s) too here
        | inr later ↦ rest.none s here later
      ]
    ]

-- the same of a ring of three points or more
pub no_opposites-round : (ring : Ring) → 3 ≤ length ring → EachPair (λ p q. p ≢ q) ring → HasNoOpposites (sides_of ring)
no_opposites-round [] three each = absurd (omega arith)
no_opposites-round (a ∷ []) three each = absurd (omega arith)
no_opposites-round (a ∷ x ∷ []) three each = absurd (omega arith)
no_opposites-round (a ∷ x ∷ y ∷ ys) three each = record { none = λ s h k. by s h k }
  where
    back : AllByRecursion (λ q. q ≢ a) (x ∷ y ∷ ys)
    back = All-follows (λ q. a ≢ q) (λ q. q ≢ a) (λ q other same. other (sym same)) (x ∷ y ∷ ys) each.0

    chain : EachPair (λ p q. p ≢ q) (x ∷ y ∷ ys ++ a ∷ [])
    chain = EachPair-push (λ p q. p ≢ q) (x ∷ y ∷ ys) a each.1 back

    rest : HasNoOpposites (sides_along x (y ∷ ys) a)
    rest = no_opposites-along x (y ∷ ys) a chain

    first : (s : Side) → (a, x) ≡ s → Contains (sides_along x (y ∷ ys) a) (opposite s) → ⊥
    first s is k = elim (Contains-cases (x, y) (sides_along y ys a) (opposite s) k) [
      | inl too ↦ each.0.1.0 (ap (λ (t : Side). t.0) is ∙ ap (λ (t : Side). t.1) (sym too))
      | inr later ↦ (away x y ys a chain.0 (opposite s) later).0 (ap (λ (t : Side). t.1) is)
    ]

    by : (s : Side) → Contains ((a, x) ∷ sides_along x (y ∷ ys) a) s → Contains ((a, x) ∷ sides_along x (y ∷ ys) a) (opposite s) → ⊥
    by s h k = elim (Contains-cases (a, x) (sides_along x (y ∷ ys) a) s h) [
      | inl is ↦ elim (Contains-cases (a, x) (sides_along x (y ∷ ys) a) (opposite s) k) [
        | inl too ↦ each.0.0 (ap (λ (t : Side). t.0) is ∙ ap (λ (t : Side). t.1) (sym too))
        | inr later ↦ first s is later
      ]
      | inr here ↦ elim (Contains-cases (a, x) (sides_along x (y ∷ ys) a) (opposite s) k) [
        | inl too ↦ first (opposite s) too here
        | inr later ↦ rest.none s here later
      ]
    ]

-- ---- The strings along a chain

-- the sides of strings are those from their first ends to their second ones, each both ways
pub sides-from_ends : (strings : List StringRow) → flat_map (λ s. side_of s ∷ opposite (side_of s) ∷ []) strings ≡ flat_map (λ (s : Side). s ∷ opposite s ∷ []) (map side_of strings)
sides-from_ends [] = refl
sides-from_ends (s ∷ strings) = ap (λ (rest : List Side). side_of s ∷ opposite (side_of s) ∷ rest) (sides-from_ends strings)

module _ (sources : List ℕ) where
  -- the strings lead along the chain
  pub sides-strings_along : (strings chain : List ℕ) → length strings + 1 ≡ length chain → map side_of (strings_along sources strings chain) ≡ sides_of_chain chain
  sides-strings_along [] [] fits = absurd (omega (arith, fits))
  sides-strings_along [] (a ∷ []) fits = refl
  sides-strings_along [] (a ∷ b ∷ points) fits = absurd (omega (arith, fits))
  sides-strings_along (s ∷ strings) [] fits = absurd (omega (arith, fits))
  sides-strings_along (s ∷ strings) (a ∷ []) fits = absurd (omega (arith, fits))
  sides-strings_along (s ∷ strings) (a ∷ b ∷ points) fits = ap (λ (l : List Side). (a, b) ∷ l) (sides-strings_along strings (b ∷ points) (omega (arith, fits)))

  -- and have these numbers
  pub numbers-strings_along : (strings chain : List ℕ) → length strings + 1 ≡ length chain → map (λ (r : StringRow). r.number) (strings_along sources strings chain) ≡ strings
  numbers-strings_along [] [] fits = absurd (omega (arith, fits))
  numbers-strings_along [] (a ∷ []) fits = refl
  numbers-strings_along [] (a ∷ b ∷ points) fits = absurd (omega (arith, fits))
  numbers-strings_along (s ∷ strings) [] fits = absurd (omega (arith, fits))
  numbers-strings_along (s ∷ strings) (a ∷ []) fits = absurd (omega (arith, fits))
  numbers-strings_along (s ∷ strings) (a ∷ b ∷ points) fits = ap (λ (l : List ℕ). s ∷ l) (numbers-strings_along strings (b ∷ points) (omega (arith, fits)))

  pub sources-strings_along : (P : List ℕ → Type 0) → P sources → (strings chain : List ℕ) → AllByRecursion (λ (r : StringRow). P r.sources) (strings_along sources strings chain)
  sources-strings_along P holds [] chain = tt
  sources-strings_along P holds (s ∷ strings) [] = tt
  sources-strings_along P holds (s ∷ strings) (a ∷ []) = tt
  sources-strings_along P holds (s ∷ strings) (a ∷ b ∷ points) = (holds, sources-strings_along P holds strings (b ∷ points))

-- A chain that parts a map, from its other end.
use Rattle.std.proofs.Common.{◌≡◌, ℕ, List, [], ◌∷◌, ◌++◌, map, reverse, refl, sym, ap, ◌∙◌, subst, inl, inr}
use Rattle.std.specs.Prelude.{IsPermutation}
use Rattle.std.specs.List.{Contains}
use Rattle.std.proofs.lemmas.List.{reverse-append, reverse-reverse}
use Rattle.std.proofs.lemmas.List.Sorted.{IsPermutation-sym, IsPermutation-trans, IsPermutation-map, IsPermutation-append, IsPermutation-append_comm, IsPermutation-reverse, Contains-permutation}
use Rattle.cad_rings.specs.Cycle.{Side, opposite, Corner, corner_back}
use Rattle.cad_rings.specs.Surgery.{corner, both_ways, sides_of_chain, corners_of_chain}
use Rattle.cad_rings.proofs.CallerLemmas.{both_ways-apart, corners_of_chain-reverse}
use Rattle.cad_map.specs.Chain.{start_of, next_of}
use Rattle.cad_map.specs.Map.{Map}
use Rattle.cad_map.proofs.CallerLemmas.{Contains-map}
use Rattle.cad_laws.specs.Parting.{HasCorner, IsOn, IsParted}
use Rattle.map_parts.proofs.CycleRings.{map-map}

sides-last : (xs : List ℕ) (c d : ℕ) → sides_of_chain (xs ++ c ∷ d ∷ []) ≡ sides_of_chain (xs ++ c ∷ []) ++ (c, d) ∷ []
sides-last [] c d = refl
sides-last (a ∷ []) c d = refl
sides-last (a ∷ b ∷ xs) c d = ap (λ (l : List Side). (a, b) ∷ l) (sides-last (b ∷ xs) c d)

-- the points backwards have the opposite sides, last first
pub sides_of_chain-reverse : (points : List ℕ) → sides_of_chain (reverse points) ≡ reverse (map opposite (sides_of_chain points))
sides_of_chain-reverse [] = refl
sides_of_chain-reverse (a ∷ []) = refl
sides_of_chain-reverse (a ∷ b ∷ points) =
    let e1 : reverse (a ∷ b ∷ points) ≡ reverse points ++ b ∷ a ∷ [] = reverse-append (a ∷ b ∷ []) points in
    let e2 : reverse (b ∷ points) ≡ reverse points ++ b ∷ [] = reverse-append (b ∷ []) points in
    ap sides_of_chain e1 ∙ sides-last (reverse points) b a ∙ ap (λ (l : List ℕ). sides_of_chain l ++ (b, a) ∷ []) (sym e2)
    ∙ ap (λ (l : List Side). l ++ (b, a) ∷ []) (sides_of_chain-reverse (b ∷ points)) ∙ sym (reverse-append ((b, a) ∷ []) (map opposite (sides_of_chain (b ∷ points))))

pub side-turned : (points : List ℕ) (s : Side) → Contains (sides_of_chain points) s → Contains (sides_of_chain (reverse points)) (opposite s)
side-turned points s there =
    let turned = map opposite (sides_of_chain points) in
    subst (λ (l : List Side). Contains l (opposite s)) (sym (sides_of_chain-reverse points))
    (Contains-permutation turned (reverse turned) (opposite s) (IsPermutation-reverse turned) (Contains-map opposite (sides_of_chain points) s there))

-- sides and their opposite ones are the same, both ways
pub both-opposite : (xs ys : List Side) → IsPermutation (map opposite xs) ys → IsPermutation (both_ways xs) (both_ways ys)
both-opposite xs ys back =
    let zs = map opposite ys in
    let again : IsPermutation xs zs =
    subst (λ (l : List Side). IsPermutation l zs) (map-map opposite opposite xs ∙ same xs) (IsPermutation-map opposite (map opposite xs) ys back) in
    IsPermutation-trans (both_ways xs) (xs ++ map opposite xs) (both_ways ys) (both_ways-apart xs)
    (IsPermutation-trans (xs ++ map opposite xs) (zs ++ ys) (both_ways ys) (IsPermutation-append xs zs (map opposite xs) ys again back)
    (IsPermutation-trans (zs ++ ys) (ys ++ zs) (both_ways ys) (IsPermutation-append_comm zs ys) (IsPermutation-sym (both_ways ys) (ys ++ zs) (both_ways-apart ys))))
  where
    same : (xs : List Side) → map (λ s. opposite (opposite s)) xs ≡ xs
    same [] = refl
    same (s ∷ xs) = λ i. s ∷ same xs i

-- both directions are the same sides
pub both-turned : (points : List ℕ) → IsPermutation (both_ways (sides_of_chain (reverse points))) (both_ways (sides_of_chain points))
both-turned points =
    let xs = sides_of_chain points in
    let zs = sides_of_chain (reverse points) in
    IsPermutation-sym (both_ways xs) (both_ways zs)
    (both-opposite xs zs (subst (IsPermutation (map opposite xs)) (sym (sides_of_chain-reverse points)) (IsPermutation-reverse (map opposite xs))))

-- a corner on the one sides is on the other
pub on-same : (xs ys : List Side) → IsPermutation (both_ways xs) (both_ways ys) → (c : Corner) → IsOn xs c → IsOn ys c
on-same xs ys same c on = elim on [
  | inl a ↦ inl (Contains-permutation (both_ways xs) (both_ways ys) (c.before, c.at) same a)
  | inr b ↦ inr (Contains-permutation (both_ways xs) (both_ways ys) (c.at, c.after) same b)
]

on-turned : (points : List ℕ) (c : Corner) → IsOn (sides_of_chain points) c → IsOn (sides_of_chain (reverse points)) c
on-turned points c on =
    let xs = sides_of_chain points in
    let zs = sides_of_chain (reverse points) in
    on-same xs zs (IsPermutation-sym (both_ways zs) (both_ways xs) (both-turned points)) c on

-- the corners of the points backwards, in the other direction
corner-turned : (points : List ℕ) (c : Corner) → Contains (corners_of_chain points) c → Contains (corners_of_chain (reverse points)) (corner_back c)
corner-turned points c there =
    let turned = map corner_back (corners_of_chain points) in
    subst (λ (l : List Corner). Contains l (corner_back c)) (sym (corners_of_chain-reverse points))
    (Contains-permutation turned (reverse turned) (corner_back c) (IsPermutation-reverse turned) (Contains-map corner_back (corners_of_chain points) c there))

-- what a chain parts, the chain from its other end parts as well
pub parted-reversed : (whole parted : Map) (chain : List ℕ) (first last : Corner) → IsParted whole parted (reverse chain) first last → IsParted whole parted chain last first
parted-reversed whole parted chain first last it = record {
  first_there = it.last_there;
  first_at = it.last_at ∙ (λ i. start_of (twice i));
  last_there = it.first_there;
  last_at = it.first_at;
  to_start = subst (λ (l : List ℕ). HasCorner parted (corner last.before (start_of l) (next_of l))) twice it.to_end;
  from_start = subst (λ (l : List ℕ). HasCorner parted (corner (next_of l) (start_of l) last.after)) twice it.from_end;
  to_end = it.to_start;
  from_end = it.from_start;
  along = λ c on. it.back (corner_back c) (corner-turned chain c on);
  back = λ c on. it.along (corner_back c) (corner-turned chain c on);
  stays = λ c there one two. it.stays c there two one;
  joins = λ c there off. it.joins c there (λ on. off (subst (λ (l : List ℕ). IsOn (sides_of_chain l) c) twice (on-turned (reverse chain) c on)));
  free = λ c there on. it.free c there (on-turned chain c on);
}
  where
    twice : reverse (reverse chain) ≡ chain
    twice = reverse-reverse chain

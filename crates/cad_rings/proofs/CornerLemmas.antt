-- The corners of a ring, from another place on, and in the other direction.
use Rattle.std.proofs.Common.{◌≡◌, ℕ, suc, ◌≤◌, ◌⊎◌, inl, inr, refl, sym, ◌∙◌, ap, List, [], ◌∷◌, ◌++◌, length, take, drop, map, reverse, append_assoc, arith}
use Rattle.std.proofs.lemmas.List.{append-nil, reverse-append, take-append-drop, length-take-le, length-append, drop-append-le, take-append-le}
use Rattle.std.proofs.lemmas.List.Sorted.{IsPermutation-refl, IsPermutation-trans, IsPermutation-reverse}
use Rattle.std.proofs.lemmas.Bool.{cases_lt}
use Rattle.std.specs.Prelude.{IsPermutation}
use Rattle.cad_rings.specs.Cycle.{Ring, Corner, corner_back, corners_along, corners_of, turned, IsSameRing}
use Rattle.cad_rings.specs.Surgery.{reversed, corners_of_chain}
use Rattle.cad_rings.proofs.Permuted.{permuted_as}
use Rattle.cad_rings.proofs.Turned.{round_past, round_permuted, IsSameRing-append}

-- corners through c and d are those to c, which d follows, and those from c on
pub corners_of_chain-append : (xs : List ℕ) (c d : ℕ) (ys : List ℕ) → corners_of_chain (xs ++ c ∷ d ∷ ys) ≡ corners_of_chain (xs ++ c ∷ d ∷ []) ++ corners_of_chain (c ∷ d ∷ ys)
corners_of_chain-append [] c d ys = refl
corners_of_chain-append (a ∷ []) c d ys = refl
corners_of_chain-append (a ∷ b ∷ []) c d ys = refl
corners_of_chain-append (a ∷ b ∷ x ∷ xs) c d ys = ap (λ (l : List Corner). record { before = a; at = b; after = x } ∷ l) (corners_of_chain-append (b ∷ x ∷ xs) c d ys)

pub length-corners_along : (a b : ℕ) (xs : List ℕ) → length (corners_along a b xs) ≡ length xs
length-corners_along a b [] = refl
length-corners_along a b (x ∷ xs) = ap suc (length-corners_along b x xs)

pub length-corners_of : (ring : Ring) → 2 ≤ length ring → length (corners_of ring) ≡ length ring
length-corners_of [] h = absurd (omega arith)
length-corners_of (a ∷ []) h = absurd (omega arith)
length-corners_of (a ∷ b ∷ points) h = let e = length-corners_along a b (points ++ a ∷ b ∷ []) in let e' = length-append points (a ∷ b ∷ []) in omega arith

-- one step on: the first corner goes to the end
step_on : (a : ℕ) (points : List ℕ) → corners_of (points ++ a ∷ []) ≡ drop 1 (corners_of (a ∷ points)) ++ take 1 (corners_of (a ∷ points))
step_on a [] = refl
step_on a (b ∷ []) = refl
step_on a (b ∷ c ∷ points) =
    let e : corners_along b c ((points ++ a ∷ []) ++ b ∷ c ∷ []) ≡ corners_of_chain (b ∷ c ∷ points ++ a ∷ b ∷ c ∷ []) = ap (corners_along b c) (append_assoc points (a ∷ []) (b ∷ c ∷ [])) in
    e ∙ corners_of_chain-append (b ∷ c ∷ points) a b (c ∷ [])

-- a list from one place further on
next_place : (n : ℕ) (cs : List Corner) → suc n ≤ length cs → drop n (drop 1 cs ++ take 1 cs) ++ take n (drop 1 cs ++ take 1 cs) ≡ drop (suc n) cs ++ take (suc n) cs
next_place n [] h = absurd (omega arith)
next_place n (c ∷ cs) h =
    let within : n ≤ length cs = omega arith in
    (λ i. drop-append-le n cs (c ∷ []) within i ++ take-append-le n cs (c ∷ []) within i) ∙ append_assoc (drop n cs) (c ∷ []) (take n cs)

one_more : (a : ℕ) (front back : List ℕ) → 2 ≤ length (a ∷ front ++ back)
    → corners_of ((back ++ a ∷ []) ++ front) ≡ drop (length front) (corners_of (front ++ (back ++ a ∷ []))) ++ take (length front) (corners_of (front ++ (back ++ a ∷ [])))
    → corners_of (back ++ a ∷ front) ≡ drop (suc (length front)) (corners_of (a ∷ front ++ back)) ++ take (suc (length front)) (corners_of (a ∷ front ++ back))
one_more a front back long rest =
    let n = length front in
    let cs = corners_of (a ∷ front ++ back) in
    let moved : corners_of (front ++ (back ++ a ∷ [])) ≡ drop 1 cs ++ take 1 cs = ap corners_of (sym (append_assoc front back (a ∷ []))) ∙ step_on a (front ++ back) in
    let within : suc n ≤ length cs = let e = length-corners_of (a ∷ front ++ back) long in let e' = length-append front back in omega arith in
    ap corners_of (sym (append_assoc back (a ∷ []) front)) ∙ rest ∙ (λ i. drop n (moved i) ++ take n (moved i)) ∙ next_place n cs within

-- as many steps as there are points before a place
steps_on : (front back : List ℕ) → corners_of (back ++ front) ≡ drop (length front) (corners_of (front ++ back)) ++ take (length front) (corners_of (front ++ back))
steps_on [] back = ap corners_of (append-nil back) ∙ sym (append-nil (corners_of back))
steps_on (a ∷ []) [] = refl
steps_on (a ∷ []) (b ∷ back) = one_more a [] (b ∷ back) (omega arith) (steps_on [] ((b ∷ back) ++ a ∷ []))
steps_on (a ∷ b ∷ front) back = one_more a (b ∷ front) back (omega arith) (steps_on (b ∷ front) (back ++ a ∷ []))

either_way : (m n : ℕ) → (m ≤ n) ⊎ (n ≤ m)
either_way m n = elim (cases_lt m n) [ inl h ↦ inl (omega arith) | inr h ↦ inr h ]

at_most : (ring : Ring) → length (corners_of ring) ≤ length ring
at_most [] = omega arith
at_most (a ∷ []) = omega arith
at_most (a ∷ b ∷ points) = let e = length-corners_of (a ∷ b ∷ points) (omega arith) in omega arith

-- a ring written from another place on has the corners from that place on
pub corners_of-turned : (k : ℕ) (ring : Ring) → corners_of (turned k ring) ≡ drop k (corners_of ring) ++ take k (corners_of ring)
corners_of-turned k ring = elim (either_way k (length ring)) [
  | inl h ↦ steps_on (take k ring) (drop k ring) ∙ (λ i. drop (length-take-le k ring h i) (corners_of (take-append-drop k ring i)) ++ take (length-take-le k ring h i) (corners_of (take-append-drop k ring i)))
  | inr h ↦
      let long : length (corners_of ring) ≤ k = let e = at_most ring in omega arith in
      ap corners_of (round_past k ring h) ∙ sym (round_past k (corners_of ring) long)
]

pub corners_of-same : (r s : Ring) → IsSameRing r s → IsPermutation (corners_of r) (corners_of s)
corners_of-same r s h =
    permuted_as (corners_of r) (corners_of r) (corners_of s) (drop h.place (corners_of r) ++ take h.place (corners_of r)) refl (ap corners_of h.is ∙ corners_of-turned h.place r) (round_permuted h.place (corners_of r))

-- ---- In the other direction

-- the points backwards have the corners backwards, last first
pub corners_of_chain-reverse : (points : List ℕ) → corners_of_chain (reverse points) ≡ reverse (map corner_back (corners_of_chain points))
corners_of_chain-reverse [] = refl
corners_of_chain-reverse (a ∷ []) = refl
corners_of_chain-reverse (a ∷ b ∷ []) = refl
corners_of_chain-reverse (a ∷ b ∷ c ∷ points) =
    let rest = corners_of_chain-reverse (b ∷ c ∷ points) in
    let e1 : reverse (a ∷ b ∷ c ∷ points) ≡ reverse points ++ c ∷ b ∷ a ∷ [] = reverse-append (a ∷ b ∷ c ∷ []) points in
    let e2 : reverse (b ∷ c ∷ points) ≡ reverse points ++ c ∷ b ∷ [] = reverse-append (b ∷ c ∷ []) points in
    ap corners_of_chain e1 ∙ corners_of_chain-append (reverse points) c b (a ∷ []) ∙ ap (λ (l : List ℕ). corners_of_chain l ++ record { before = c; at = b; after = a } ∷ []) (sym e2)
    ∙ ap (λ (l : List Corner). l ++ record { before = c; at = b; after = a } ∷ []) rest
    ∙ sym (reverse-append (record { before = c; at = b; after = a } ∷ []) (map corner_back (corners_of_chain (b ∷ c ∷ points))))

-- the corners of a ring are those along its points with the first two once more
round_points : (a b : ℕ) (points : List ℕ) → corners_of (a ∷ b ∷ points) ≡ corners_of_chain (a ∷ b ∷ points ++ a ∷ b ∷ [])
round_points a b points = refl

pub corners_of-reversed : (ring : Ring) → IsPermutation (map corner_back (corners_of ring)) (corners_of (reversed ring))
corners_of-reversed [] = IsPermutation-refl []
corners_of-reversed (a ∷ []) = IsPermutation-refl []
corners_of-reversed (a ∷ b ∷ points) =
    let M = map corner_back (corners_of (a ∷ b ∷ points)) in
    let e1 : reverse (a ∷ b ∷ points ++ a ∷ b ∷ []) ≡ b ∷ a ∷ reverse points ++ b ∷ a ∷ [] = reverse-append (a ∷ b ∷ points) (a ∷ b ∷ []) ∙ ap (λ (l : List ℕ). b ∷ a ∷ l) (reverse-append (a ∷ b ∷ []) points) in
    let e2 : corners_of (b ∷ a ∷ reverse points) ≡ reverse M = ap corners_of_chain (sym e1) ∙ corners_of_chain-reverse (a ∷ b ∷ points ++ a ∷ b ∷ []) in
    IsPermutation-trans M (corners_of (b ∷ a ∷ reverse points)) (corners_of (reverse (a ∷ b ∷ points)))
    (permuted_as M M (corners_of (b ∷ a ∷ reverse points)) (reverse M) refl e2 (IsPermutation-reverse M))
    (permuted_as (corners_of (b ∷ a ∷ reverse points)) (corners_of (b ∷ a ∷ reverse points)) (corners_of (reverse (a ∷ b ∷ points))) (corners_of (reverse points ++ b ∷ a ∷ [])) refl
    (ap corners_of (reverse-append (a ∷ b ∷ []) points)) (corners_of-same (b ∷ a ∷ reverse points) (reverse points ++ b ∷ a ∷ []) (IsSameRing-append (b ∷ a ∷ []) (reverse points))))

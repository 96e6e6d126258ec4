-- A ring cut by a chain: the corners of the two rings.
use Rattle.std.proofs.Common.{◌≡◌, ℕ, ◌-◌, refl, sym, ◌∙◌, ap, subst, List, [], ◌∷◌, ◌++◌, length, map, reverse, append_assoc}
use Rattle.std.proofs.lemmas.List.{reverse-append}
use Rattle.std.proofs.lemmas.List.Sorted.{IsPermutation-trans, IsPermutation-sym, IsPermutation-append, IsPermutation-append_right, IsPermutation-reverse}
use Rattle.std.specs.Prelude.{IsPermutation, slice_index, slice_range}
use Rattle.cad_rings.specs.Cycle.{Ring, Corner, corner_back, corners_along, corners_of, corner_at, turned}
use Rattle.cad_rings.specs.Surgery.{corner, left_ring, right_ring, chain_across, AreTwoPlaces, corners_of_chain, corners_both_ways, parted_by, chain_from, HaveChainInCommon, joined}
use Rattle.cad_rings.proofs.Permuted.{permuted_as, laid, shuffled, corners_both_ways-apart}
use Rattle.cad_rings.proofs.CornerLemmas.{corners_of_chain-reverse, corners_of-same}
use Rattle.cad_rings.proofs.Turned.{IsSameRing-turned}
use Rattle.cad_rings.proofs.CutLemmas.{cut}
use Rattle.cad_rings.proofs.JoinLemmas.{cut-joined}

-- the last of a and the points after it
abbrev pub last_of : ℕ → List ℕ → ℕ
last_of a [] = a
last_of a (x ∷ xs) = last_of x xs

-- the first of the points before b, and b
abbrev pub first_of : List ℕ → ℕ → ℕ
first_of [] b = b
first_of (x ∷ xs) b = x

-- the corners of a chain between a and b
abbrev pub between : ℕ → List ℕ → ℕ → List Corner
between a xs b = corners_of_chain (a ∷ xs ++ b ∷ [])

through : (a : ℕ) (xs : List ℕ) (b c : ℕ) (ys : List ℕ) → corners_of_chain (a ∷ xs ++ b ∷ c ∷ ys) ≡ between a xs b ++ corner (last_of a xs) b c ∷ corners_of_chain (b ∷ c ∷ ys)
through a [] b c ys = refl
through a (x ∷ []) b c ys = refl
through a (x ∷ y ∷ xs) b c ys = ap (λ (l : List Corner). corner a x y ∷ l) (through x (y ∷ xs) b c ys)

through_both : (a : ℕ) (xs : List ℕ) (b : ℕ) (ys : List ℕ) (z n : ℕ)
    → corners_of_chain (a ∷ xs ++ b ∷ (ys ++ z ∷ n ∷ [])) ≡ between a xs b ++ corner (last_of a xs) b (first_of ys z) ∷ (between b ys z ++ corner (last_of b ys) z n ∷ [])
through_both a xs b [] z n = through a xs b z (n ∷ [])
through_both a xs b (y ∷ ys) z n =
    through a xs b y (ys ++ z ∷ n ∷ []) ∙ ap (λ (l : List Corner). between a xs b ++ corner (last_of a xs) b y ∷ l) (through b (y ∷ ys) z n [])

-- the corners of a ring between two of its points, and at these
pub corners_of-parts : (a : ℕ) (xs : List ℕ) (b : ℕ) (ys : List ℕ)
    → corners_of (a ∷ xs ++ b ∷ ys) ≡ between a xs b ++ corner (last_of a xs) b (first_of ys a) ∷ (between b ys a ++ corner (last_of b ys) a (first_of xs b) ∷ [])
corners_of-parts a [] b ys = through_both a [] b ys a b
corners_of-parts a (x ∷ xs) b ys = ap (λ (l : List ℕ). corners_along a x l) (append_assoc xs (b ∷ ys) (a ∷ x ∷ [])) ∙ through_both a (x ∷ xs) b ys a x

-- ---- Ends of lists

last_of-append : (a : ℕ) (xs : List ℕ) (b : ℕ) (ys : List ℕ) → last_of a (xs ++ b ∷ ys) ≡ last_of b ys
last_of-append a [] b ys = refl
last_of-append a (x ∷ xs) b ys = last_of-append x xs b ys

last_of-reverse : (b : ℕ) (xs : List ℕ) → last_of b (reverse xs) ≡ first_of xs b
last_of-reverse b [] = refl
last_of-reverse b (x ∷ xs) = ap (last_of b) (reverse-append (x ∷ []) xs) ∙ last_of-append b (reverse xs) x []

first_of-append : (xs : List ℕ) (b : ℕ) (ys : List ℕ) (z : ℕ) → first_of (xs ++ b ∷ ys) z ≡ first_of xs b
first_of-append [] b ys z = refl
first_of-append (x ∷ xs) b ys z = refl

pub first_of-reverse : (a : ℕ) (xs : List ℕ) → first_of (reverse xs) a ≡ last_of a xs
first_of-reverse a [] = refl
first_of-reverse a (x ∷ xs) = ap (λ (l : List ℕ). first_of l a) (reverse-append (x ∷ []) xs) ∙ first_of-append (reverse xs) x [] a ∙ first_of-reverse x xs

at_first : (xs : List ℕ) (b : ℕ) (ys : List ℕ) → slice_index (xs ++ b ∷ ys) 0 ≡ first_of xs b
at_first [] b ys = refl
at_first (x ∷ xs) b ys = refl

at_last : (xs : List ℕ) (b : ℕ) (ys : List ℕ) → slice_index (reverse (xs ++ b ∷ ys)) 0 ≡ last_of b ys
at_last xs b ys =
    ap (λ (l : List ℕ). slice_index l 0) (reverse-append xs (b ∷ ys) ∙ ap (λ (l : List ℕ). l ++ reverse xs) (reverse-append (b ∷ []) ys) ∙ append_assoc (reverse ys) (b ∷ []) (reverse xs))
    ∙ at_first (reverse ys) b (reverse xs) ∙ first_of-reverse b ys

corner_at-is : (i : ℕ) (ring : Ring) (xs : List ℕ) (b : ℕ) (ys : List ℕ) → turned i ring ≡ slice_index ring i ∷ xs ++ b ∷ ys → corner_at i ring ≡ corner (last_of b ys) (slice_index ring i) (first_of xs b)
corner_at-is i ring xs b ys e =
    let before : slice_index (reverse (turned i ring)) 0 ≡ last_of b ys = ap (λ (l : List ℕ). slice_index (reverse l) 0) e ∙ at_last (slice_index ring i ∷ xs) b ys in
    let after : slice_index (turned i ring) 1 ≡ first_of xs b = ap (λ (l : List ℕ). slice_index l 1) e ∙ at_first xs b ys in
    λ k. corner (before k) (slice_index ring i) (after k)

-- ---- The cut

-- at each end of the chain a corner is parted in two, and the chain's own corners come in both ways
pub corners-parts : (a : ℕ) (xs : List ℕ) (b : ℕ) (ys inner : List ℕ)
    → let at_a = corner (last_of b ys) a (first_of xs b) in let at_b = corner (last_of a xs) b (first_of ys a) in
    IsPermutation (at_a ∷ at_b ∷ (corners_of (a ∷ inner ++ b ∷ ys) ++ corners_of (b ∷ reverse inner ++ a ∷ xs)))
    (parted_by (first_of inner b) at_a ++ (parted_by (last_of a inner) at_b ++ ((between a inner b ++ between b (reverse inner) a) ++ corners_of (a ∷ xs ++ b ∷ ys))))
corners-parts a xs b ys inner =
    let at_a = corner (last_of b ys) a (first_of xs b) in
    let at_b = corner (last_of a xs) b (first_of ys a) in
    let a_first = corner (last_of b ys) a (first_of inner b) in
    let a_second = corner (first_of inner b) a (first_of xs b) in
    let b_first = corner (last_of a xs) b (last_of a inner) in
    let b_second = corner (last_of a inner) b (first_of ys a) in
    let chain = between a inner b in
    let back = between b (reverse inner) a in
    let first = between a xs b in
    let second = between b ys a in
    let left : corners_of (a ∷ inner ++ b ∷ ys) ≡ chain ++ b_second ∷ (second ++ a_first ∷ []) = corners_of-parts a inner b ys in
    let right : corners_of (b ∷ reverse inner ++ a ∷ xs) ≡ back ++ a_second ∷ (first ++ b_first ∷ []) =
    corners_of-parts b (reverse inner) a xs ∙ (λ k. back ++ corner (last_of-reverse b inner k) a (first_of xs b) ∷ (first ++ corner (last_of a xs) b (first_of-reverse a inner k) ∷ [])) in
    let whole : corners_of (a ∷ xs ++ b ∷ ys) ≡ first ++ at_b ∷ (second ++ at_a ∷ []) = corners_of-parts a xs b ys in
    let pieces : List (List Corner) = (at_a ∷ []) ∷ (at_b ∷ []) ∷ chain ∷ (b_second ∷ []) ∷ second ∷ (a_first ∷ []) ∷ back ∷ (a_second ∷ []) ∷ first ∷ (b_first ∷ []) ∷ [] in
    let e1 : at_a ∷ at_b ∷ (corners_of (a ∷ inner ++ b ∷ ys) ++ corners_of (b ∷ reverse inner ++ a ∷ xs)) ≡ laid pieces (0 ∷ 1 ∷ 2 ∷ 3 ∷ 4 ∷ 5 ∷ 6 ∷ 7 ∷ 8 ∷ 9 ∷ []) =
    (λ k. at_a ∷ at_b ∷ (left k ++ right k)) ∙ simp append_assoc in
    let e2 : parted_by (first_of inner b) at_a ++ (parted_by (last_of a inner) at_b ++ ((chain ++ back) ++ corners_of (a ∷ xs ++ b ∷ ys))) ≡ laid pieces (5 ∷ 7 ∷ 9 ∷ 3 ∷ 2 ∷ 6 ∷ 8 ∷ 1 ∷ 4 ∷ 0 ∷ []) =
    (λ k. a_first ∷ a_second ∷ b_first ∷ b_second ∷ ((chain ++ back) ++ whole k)) ∙ simp append_assoc in
    permuted_as (at_a ∷ at_b ∷ (corners_of (a ∷ inner ++ b ∷ ys) ++ corners_of (b ∷ reverse inner ++ a ∷ xs))) (laid pieces (0 ∷ 1 ∷ 2 ∷ 3 ∷ 4 ∷ 5 ∷ 6 ∷ 7 ∷ 8 ∷ 9 ∷ []))
    (parted_by (first_of inner b) at_a ++ (parted_by (last_of a inner) at_b ++ ((chain ++ back) ++ corners_of (a ∷ xs ++ b ∷ ys)))) (laid pieces (5 ∷ 7 ∷ 9 ∷ 3 ∷ 2 ∷ 6 ∷ 8 ∷ 1 ∷ 4 ∷ 0 ∷ [])) e1 e2
    (shuffled pieces (0 ∷ 1 ∷ 2 ∷ 3 ∷ 4 ∷ 5 ∷ 6 ∷ 7 ∷ 8 ∷ 9 ∷ []) (5 ∷ 7 ∷ 9 ∷ 3 ∷ 2 ∷ 6 ∷ 8 ∷ 1 ∷ 4 ∷ 0 ∷ []) refl)

pub back_again : (a : ℕ) (inner : List ℕ) (b : ℕ) → reverse (a ∷ inner ++ b ∷ []) ≡ b ∷ reverse inner ++ a ∷ []
back_again a inner b = reverse-append (a ∷ inner) (b ∷ []) ∙ ap (λ (l : List ℕ). b ∷ l) (reverse-append (a ∷ []) inner)

chain_both_ways : (a : ℕ) (inner : List ℕ) (b : ℕ) → IsPermutation (between a inner b ++ between b (reverse inner) a) (corners_both_ways (between a inner b))
chain_both_ways a inner b =
    let C = between a inner b in
    let M = map corner_back C in
    let e : between b (reverse inner) a ≡ reverse M = ap corners_of_chain (sym (back_again a inner b)) ∙ corners_of_chain-reverse (a ∷ inner ++ b ∷ []) in
    IsPermutation-trans (C ++ between b (reverse inner) a) (C ++ M) (corners_both_ways C)
    (permuted_as (C ++ between b (reverse inner) a) (C ++ reverse M) (C ++ M) (C ++ M) (ap (λ (l : List Corner). C ++ l) e) refl
    (IsPermutation-append_right C (reverse M) M (IsPermutation-sym M (reverse M) (IsPermutation-reverse M))))
    (IsPermutation-sym (corners_both_ways C) (C ++ M) (corners_both_ways-apart C))

-- The two rings have the corners of the ring, those at the chain's ends parted in two, and the chain's corners both ways.
pub corners_of-cut : (i j : ℕ) (inner : List ℕ) (ring : Ring) → AreTwoPlaces i j ring
    → let chain = chain_across i j inner ring in
    IsPermutation (corner_at i ring ∷ corner_at j ring ∷ (corners_of (left_ring i j inner ring) ++ corners_of (right_ring i j inner ring)))
    (parted_by (slice_index chain 1) (corner_at i ring) ++ (parted_by (slice_index (reverse chain) 1) (corner_at j ring) ++ (corners_both_ways (corners_of_chain chain) ++ corners_of ring)))
corners_of-cut i j inner ring two =
    let h = cut i j inner ring two in
    let a = slice_index ring i in
    let b = slice_index ring j in
    let chain = chain_across i j inner ring in
    let at_a = corner (last_of b h.ys) a (first_of h.xs b) in
    let at_b = corner (last_of a h.xs) b (first_of h.ys a) in
    let whole = a ∷ h.xs ++ b ∷ h.ys in
    let both = between a inner b ++ between b (reverse inner) a in
    let L = corners_of (left_ring i j inner ring) in
    let R = corners_of (right_ring i j inner ring) in
    let at_i : corner_at i ring ≡ at_a = corner_at-is i ring h.xs b h.ys h.round in
    let at_j : corner_at j ring ≡ at_b = corner_at-is j ring h.ys a h.xs h.round_back in
    let after_a : slice_index chain 1 ≡ first_of inner b = at_first inner b [] in
    let before_b : slice_index (reverse chain) 1 ≡ last_of a inner = ap (λ (l : List ℕ). slice_index l 1) (back_again a inner b) ∙ at_first (reverse inner) a [] ∙ first_of-reverse a inner in
    let kept : IsPermutation (corners_of whole) (corners_of ring) =
    subst (λ (l : List ℕ). IsPermutation (corners_of l) (corners_of ring)) h.round (IsPermutation-sym (corners_of ring) (corners_of (turned i ring)) (corners_of-same ring (turned i ring) (IsSameRing-turned i ring))) in
    permuted_as (corner_at i ring ∷ corner_at j ring ∷ (L ++ R)) (at_a ∷ at_b ∷ (corners_of (a ∷ inner ++ b ∷ h.ys) ++ corners_of (b ∷ reverse inner ++ a ∷ h.xs)))
    (parted_by (slice_index chain 1) (corner_at i ring) ++ (parted_by (slice_index (reverse chain) 1) (corner_at j ring) ++ (corners_both_ways (corners_of_chain chain) ++ corners_of ring)))
    (parted_by (first_of inner b) at_a ++ (parted_by (last_of a inner) at_b ++ (corners_both_ways (between a inner b) ++ corners_of ring)))
    (λ k. at_i k ∷ at_j k ∷ (corners_of (h.left k) ++ corners_of (h.right k)))
    (λ k. parted_by (after_a k) (at_i k) ++ (parted_by (before_b k) (at_j k) ++ (corners_both_ways (between a inner b) ++ corners_of ring)))
    (IsPermutation-trans (at_a ∷ at_b ∷ (corners_of (a ∷ inner ++ b ∷ h.ys) ++ corners_of (b ∷ reverse inner ++ a ∷ h.xs)))
    (parted_by (first_of inner b) at_a ++ (parted_by (last_of a inner) at_b ++ (both ++ corners_of whole)))
    (parted_by (first_of inner b) at_a ++ (parted_by (last_of a inner) at_b ++ (corners_both_ways (between a inner b) ++ corners_of ring)))
    (corners-parts a h.xs b h.ys inner)
    (IsPermutation-append_right (parted_by (first_of inner b) at_a) (parted_by (last_of a inner) at_b ++ (both ++ corners_of whole)) (parted_by (last_of a inner) at_b ++ (corners_both_ways (between a inner b) ++ corners_of ring))
    (IsPermutation-append_right (parted_by (last_of a inner) at_b) (both ++ corners_of whole) (corners_both_ways (between a inner b) ++ corners_of ring)
    (IsPermutation-append both (corners_both_ways (between a inner b)) (corners_of whole) (corners_of ring) (chain_both_ways a inner b) kept))))

-- The ring round both has the corners of the two, those that meet at the chain's ends made one, and the chain's corners in neither way.
pub corners_of-joined : (i j m : ℕ) (kept ended : Ring) → HaveChainInCommon i j m kept ended
    → let chain = chain_from i m kept in let ring = joined i j m kept ended in
    IsPermutation (corner_at (length kept - m) ring ∷ corner_at 0 ring ∷ (corners_of kept ++ corners_of ended))
    (parted_by (slice_index chain 1) (corner_at (length kept - m) ring) ++ (parted_by (slice_index (reverse chain) 1) (corner_at 0 ring) ++ (corners_both_ways (corners_of_chain chain) ++ corners_of ring)))
corners_of-joined i j m kept ended common =
    let h = cut-joined i j m kept ended common in
    let ring = joined i j m kept ended in
    let p = length kept - m in
    let mid = slice_range (turned i kept) 1 m in
    let at_p = corner_at p ring in
    let at_0 = corner_at 0 ring in
    let K = corners_of (turned i kept) in
    let E = corners_of (turned j ended) in
    let sum : List ℕ → List Corner = λ chain. parted_by (slice_index chain 1) at_p ++ (parted_by (slice_index (reverse chain) 1) at_0 ++ (corners_both_ways (corners_of_chain chain) ++ corners_of ring)) in
    IsPermutation-trans (at_p ∷ at_0 ∷ (corners_of kept ++ corners_of ended)) (at_p ∷ at_0 ∷ (K ++ E)) (sum (chain_from i m kept))
    (IsPermutation-append_right (at_p ∷ at_0 ∷ []) (corners_of kept ++ corners_of ended) (K ++ E)
    (IsPermutation-append (corners_of kept) K (corners_of ended) E (corners_of-same kept (turned i kept) (IsSameRing-turned i kept)) (corners_of-same ended (turned j ended) (IsSameRing-turned j ended))))
    (permuted_as (at_p ∷ at_0 ∷ (K ++ E)) (at_p ∷ at_0 ∷ (corners_of (left_ring p 0 mid ring) ++ corners_of (right_ring p 0 mid ring))) (sum (chain_from i m kept)) (sum (chain_across p 0 mid ring))
    (λ k. at_p ∷ at_0 ∷ (corners_of (sym h.left k) ++ corners_of (sym h.right k))) (ap sum (sym h.chain)) (corners_of-cut p 0 mid ring h.two))

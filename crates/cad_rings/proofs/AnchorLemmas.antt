-- The anchor of a ring is the least of its points, wherever the ring is written from.
use Rattle.std.proofs.Common.{◌≡◌, ℕ, suc, ◌≤◌, ◌⊎◌, inl, inr, min, refl, sym, ◌∙◌, ap, List, [], ◌∷◌, ◌++◌, length, take, drop, reverse, arith}
use Rattle.std.proofs.lemmas.List.{append-nil, take-append-drop, reverse-append}
use Rattle.std.proofs.lemmas.Bool.{cases_lt}
use Rattle.std.specs.Prelude.{fold, Contains}
use Rattle.std.specs.List.{AllByRecursion}
use Rattle.cad_rings.specs.Cycle.{Ring, IsSameRing, anchor_of}
use Rattle.cad_rings.specs.Canonical.{least_rotation}
use Rattle.cad_rings.specs.Surgery.{reversed}
use Rattle.cad_rings.proofs.OneForm.{IsSameRing-least_rotation}

least-append : (a : ℕ) (xs ys : List ℕ) → fold min a (xs ++ ys) ≡ fold min (fold min a xs) ys
least-append a [] ys = refl
least-append a (x ∷ xs) ys = least-append (min a x) xs ys

least-min : (a b : ℕ) (xs : List ℕ) → fold min (min a b) xs ≡ min a (fold min b xs)
least-min a b [] = refl
least-min a b (x ∷ xs) = ap (λ (n : ℕ). fold min n xs) (let e : min (min a b) x ≡ min a (min b x) = omega arith in e) ∙ least-min a (min b x) xs

two_pieces : (a : ℕ) (xs : List ℕ) (b : ℕ) (ys : List ℕ) → anchor_of (a ∷ xs ++ b ∷ ys) ≡ min (fold min a xs) (fold min b ys)
two_pieces a xs b ys = least-append a xs (b ∷ ys) ∙ least-min (fold min a xs) b ys

pieces : (front back : List ℕ) → anchor_of (front ++ back) ≡ anchor_of (back ++ front)
pieces [] back = ap anchor_of (sym (append-nil back))
pieces (a ∷ front) [] = ap anchor_of (append-nil (a ∷ front))
pieces (a ∷ front) (b ∷ back) =
    let e : min (fold min a front) (fold min b back) ≡ min (fold min b back) (fold min a front) = omega arith in
    two_pieces a front b back ∙ e ∙ sym (two_pieces b back a front)

pub anchor_of-same : (r s : Ring) → IsSameRing r s → anchor_of r ≡ anchor_of s
anchor_of-same r s h = ap anchor_of (sym (take-append-drop h.place r)) ∙ pieces (take h.place r) (drop h.place r) ∙ ap anchor_of (sym h.is)

pub anchor_of-least_rotation : (ring : Ring) → anchor_of (least_rotation ring) ≡ anchor_of ring
anchor_of-least_rotation ring = sym (anchor_of-same ring (least_rotation ring) (IsSameRing-least_rotation ring))

backwards : (b : ℕ) (xs : List ℕ) → fold min b (reverse xs) ≡ fold min b xs
backwards b [] = refl
backwards b (x ∷ xs) =
    ap (fold min b) (reverse-append (x ∷ []) xs) ∙ least-append b (reverse xs) (x ∷ []) ∙ ap (λ (n : ℕ). min n x) (backwards b xs)
    ∙ (let e : min (fold min b xs) x ≡ min x (fold min b xs) = omega arith in e) ∙ sym (least-min x b xs) ∙ ap (λ (n : ℕ). fold min n xs) (let e : min x b ≡ min b x = omega arith in e)

pub anchor_of-reversed : (ring : Ring) → anchor_of (reversed ring) ≡ anchor_of ring
anchor_of-reversed [] = refl
anchor_of-reversed (a ∷ points) = ap anchor_of (reverse-append (a ∷ []) points) ∙ pieces (reverse points) (a ∷ []) ∙ backwards a points

-- ---- It is the least of the points

at_most_first : (a : ℕ) (xs : List ℕ) → fold min a xs ≤ a
at_most_first a [] = omega arith
at_most_first a (x ∷ xs) = let h = at_most_first (min a x) xs in omega arith

at_most_each : (a : ℕ) (xs : List ℕ) → AllByRecursion (λ p. fold min a xs ≤ p) xs
at_most_each a [] = tt
at_most_each a (x ∷ xs) = ((let h = at_most_first (min a x) xs in omega arith), at_most_each (min a x) xs)

pub anchor_of-at_most : (ring : Ring) → AllByRecursion (λ p. anchor_of ring ≤ p) ring
anchor_of-at_most [] = tt
anchor_of-at_most (a ∷ points) = (at_most_first a points, at_most_each a points)

-- ---- It is one of the points

here_or_there : (a x : ℕ) (xs : List ℕ) → (fold min a xs ≡ a) ⊎ Contains xs (fold min a xs) → Contains (x ∷ xs) (fold min a xs) ⊎ (fold min a xs ≡ a)
here_or_there a x xs (inl h) = inr h
here_or_there a x xs (inr (k, within, is)) = inl (suc k, omega arith, is)

first_or_among : (a : ℕ) (xs : List ℕ) → (fold min a xs ≡ a) ⊎ Contains xs (fold min a xs)
first_or_among a [] = inl refl
first_or_among a (x ∷ xs) = elim (here_or_there (min a x) x xs (first_or_among (min a x) xs)) [
  | inl h ↦ inr h
  | inr h ↦ elim (cases_lt x a) [
    | inl lower ↦ inr (0, omega arith, (let e : x ≡ fold min (min a x) xs = omega arith in e))
    | inr not_lower ↦ inl (omega arith)
  ]
]

pub anchor_of-Contains : (ring : Ring) → 1 ≤ length ring → Contains ring (anchor_of ring)
anchor_of-Contains [] h = absurd (omega arith)
anchor_of-Contains (a ∷ points) h = elim (first_or_among a points) [
  | inl e ↦ (0, omega arith, sym e)
  | inr (k, within, is) ↦ (suc k, omega arith, is)
]

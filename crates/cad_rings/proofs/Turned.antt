-- A ring written from another of its places on is the same ring.
use Rattle.std.proofs.Common.{◌≡◌, ℕ, ◌+◌, ◌-◌, ◌≤◌, ◌⊎◌, inl, inr, sym, ◌∙◌, ap, subst, List, ◌++◌, length, take, drop, reverse, append_assoc, length-append, arith}
use Rattle.std.proofs.Math.Seq.{drop-append_seam, take-append_seam, drop-append-add, take-append-add}
use Rattle.std.proofs.lemmas.List.{append-nil, take-append-drop, take-append-le, drop-append-le, take_all, drop_all, reverse-append, reverse-reverse, length-reverse}
use Rattle.std.proofs.lemmas.List.Sorted.{IsPermutation-append_comm}
use Rattle.std.proofs.lemmas.Bool.{cases_lt}
use Rattle.std.specs.Prelude.{IsPermutation}
use Rattle.cad_rings.specs.Cycle.{Ring, turned, IsSameRing}
use Rattle.cad_rings.specs.Surgery.{reversed}

module _ {A : Type 0} where
  -- what stands from a place on, and then what stands before it
  pub round_at : (front back : List A) → drop (length front) (front ++ back) ++ take (length front) (front ++ back) ≡ back ++ front
  round_at front back = λ i. drop-append_seam front back i ++ take-append_seam front back i

  -- from the end on nothing stands
  pub round_past : (k : ℕ) (xs : List A) → length xs ≤ k → drop k xs ++ take k xs ≡ xs
  round_past k xs h = λ i. drop_all k xs h i ++ take_all k xs h i

  pub round_permuted : (k : ℕ) (xs : List A) → IsPermutation xs (drop k xs ++ take k xs)
  round_permuted k xs = subst (λ (l : List A). IsPermutation l (drop k xs ++ take k xs)) (take-append-drop k xs) (IsPermutation-append_comm (take k xs) (drop k xs))

-- two pieces, in either order
pub IsSameRing-append : (front back : List ℕ) → IsSameRing (front ++ back) (back ++ front)
IsSameRing-append front back = record { place = length front; within = omega (arith, length-append front back); is = sym (round_at front back) }

pub IsSameRing-turned : (k : ℕ) (ring : Ring) → IsSameRing ring (turned k ring)
IsSameRing-turned k ring = subst (λ (l : List ℕ). IsSameRing l (turned k ring)) (take-append-drop k ring) (IsSameRing-append (take k ring) (drop k ring))

pub length-turned : (k : ℕ) (ring : Ring) → length (turned k ring) ≡ length ring
length-turned k ring = omega (arith, length-append (drop k ring) (take k ring), length-append (take k ring) (drop k ring), ap length (take-append-drop k ring))

-- ---- The same ring is an equivalence

pub IsSameRing-refl : (ring : Ring) → IsSameRing ring ring
IsSameRing-refl ring = record { place = 0; within = omega arith; is = sym (append-nil ring) }

pub IsSameRing-sym : (r s : Ring) → IsSameRing r s → IsSameRing s r
IsSameRing-sym r s h =
    let k = h.place in
    subst (λ (l : List ℕ). IsSameRing l r) (sym h.is) (subst (λ (l : List ℕ). IsSameRing (turned k r) l) (take-append-drop k r) (IsSameRing-append (drop k r) (take k r)))

turned_again : (k : ℕ) (front back : List ℕ) → (k ≤ length back) ⊎ (length back ≤ k) → IsSameRing (front ++ back) (turned k (back ++ front))
turned_again k front back (inl h) =
    let e : turned k (back ++ front) ≡ drop k back ++ (front ++ take k back) = (λ i. drop-append-le k back front h i ++ take-append-le k back front h i) ∙ append_assoc (drop k back) front (take k back) in
    let e' : (front ++ take k back) ++ drop k back ≡ front ++ back = append_assoc front (take k back) (drop k back) ∙ ap (λ (l : List ℕ). front ++ l) (take-append-drop k back) in
    subst (λ (l : List ℕ). IsSameRing (front ++ back) l) (sym e) (subst (λ (l : List ℕ). IsSameRing l (drop k back ++ (front ++ take k back))) e' (IsSameRing-append (front ++ take k back) (drop k back)))
turned_again k front back (inr h) =
    let n = k - length back in
    let ek : length back + n ≡ k = omega arith in
    let e : turned k (back ++ front) ≡ (drop n front ++ back) ++ take n front =
    (λ i. turned (sym ek i) (back ++ front)) ∙ (λ i. drop-append-add back front n i ++ take-append-add back front n i) ∙ sym (append_assoc (drop n front) back (take n front)) in
    let e' : take n front ++ (drop n front ++ back) ≡ front ++ back = sym (append_assoc (take n front) (drop n front) back) ∙ ap (λ (l : List ℕ). l ++ back) (take-append-drop n front) in
    subst (λ (l : List ℕ). IsSameRing (front ++ back) l) (sym e) (subst (λ (l : List ℕ). IsSameRing l ((drop n front ++ back) ++ take n front)) e' (IsSameRing-append (take n front) (drop n front ++ back)))

either_way : (m n : ℕ) → (m ≤ n) ⊎ (n ≤ m)
either_way m n = elim (cases_lt m n) [ inl h ↦ inl (omega arith) | inr h ↦ inr h ]

pub IsSameRing-trans : (r s t : Ring) → IsSameRing r s → IsSameRing s t → IsSameRing r t
IsSameRing-trans r s t h k =
    let l = h.place in
    let e : turned k.place (turned l r) ≡ t = ap (turned k.place) (sym h.is) ∙ sym k.is in
    subst (λ (w : List ℕ). IsSameRing r w) e
    (subst (λ (w : List ℕ). IsSameRing w (turned k.place (turned l r))) (take-append-drop l r)
    (turned_again k.place (take l r) (drop l r) (either_way k.place (length (drop l r)))))

pub IsSameRing-length : (r s : Ring) → IsSameRing r s → length s ≡ length r
IsSameRing-length r s h = ap length h.is ∙ length-turned h.place r

-- ---- The ring in the other direction

pub reversed-reversed : (ring : Ring) → reversed (reversed ring) ≡ ring
reversed-reversed ring = reverse-reverse ring

pub length-reversed : (ring : Ring) → length (reversed ring) ≡ length ring
length-reversed ring = length-reverse ring

reversed_pieces : (front back : List ℕ) → IsSameRing (reversed (front ++ back)) (reversed (back ++ front))
reversed_pieces front back =
    subst (λ (l : List ℕ). IsSameRing l (reversed (back ++ front))) (sym (reverse-append front back))
    (subst (λ (l : List ℕ). IsSameRing (reverse back ++ reverse front) l) (sym (reverse-append back front)) (IsSameRing-append (reverse back) (reverse front)))

pub IsSameRing-reversed : (r s : Ring) → IsSameRing r s → IsSameRing (reversed r) (reversed s)
IsSameRing-reversed r s h =
    subst (λ (l : List ℕ). IsSameRing (reversed r) (reversed l)) (sym h.is)
    (subst (λ (l : List ℕ). IsSameRing (reversed l) (reversed (turned h.place r))) (take-append-drop h.place r) (reversed_pieces (take h.place r) (drop h.place r)))

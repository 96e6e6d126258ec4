-- The two stretches of a ring between two of its places.
use Rattle.std.proofs.Common.{◌≡◌, ℕ, suc, ◌+◌, ◌-◌, ◌<◌, inl, inr, sym, ◌∙◌, ap, subst, List, ◌∷◌, ◌++◌, length, take, drop, append_assoc, true, false, arith}
use Rattle.std.proofs.Math.Seq.{drop-append_seam, drop-append-add, take-append_seam, take-append-add, get_or-append_seam, drop-cons}
use Rattle.std.proofs.lemmas.List.{get_or-append-add, take-append-drop, length-take-le, drop-drop, length-drop}
use Rattle.std.proofs.lemmas.Bool.{cases_order}
use Rattle.std.proofs.lemmas.Bool.Decides.{nat_tests}
use Rattle.std.specs.Prelude.{nat_lt, slice_index, slice_range}
use Rattle.cad_rings.specs.Cycle.{Ring, turned}
use Rattle.cad_rings.specs.Surgery.{stretch, AreTwoPlaces}
use Rattle.cad_rings.proofs.Turned.{round_at}

-- each stretch begins with the point at its place, and they make up the ring
pub record IsParted (i j : ℕ) (ring : Ring) : Type 0 where
  pub after_i : List ℕ
  pub after_j : List ℕ
  pub first : stretch i j ring ≡ slice_index ring i ∷ after_i
  pub second : stretch j i ring ≡ slice_index ring j ∷ after_j
  pub round : turned i ring ≡ stretch i j ring ++ stretch j i ring
  pub round_back : turned j ring ≡ stretch j i ring ++ stretch i j ring

module _ (p q r : List ℕ) where
  behind : drop (length p + length q) (p ++ (q ++ r)) ≡ r
  behind = drop-append-add p (q ++ r) (length q) ∙ drop-append_seam q r

  before : take (length p + length q) (p ++ (q ++ r)) ≡ p ++ q
  before = take-append-add p (q ++ r) (length q) ∙ ap (λ (l : List ℕ). p ++ l) (take-append_seam q r)

  middle : slice_range (p ++ (q ++ r)) (length p) (length p + length q) ≡ q
  middle =
      let e : length p + length q - length p ≡ length q = omega arith in
      (λ i. take (e i) (drop-append_seam p (q ++ r) i)) ∙ take-append_seam q r

  -- round the end
  pub outer : stretch (length p + length q) (length p) (p ++ (q ++ r)) ≡ r ++ p
  outer =
      let later : nat_lt (length p + length q) (length p) ≡ false = grind (arith, nat_tests) in
      simp later (λ i. behind i ++ take-append_seam p (q ++ r) i)

  pub inner : 0 < length q → stretch (length p) (length p + length q) (p ++ (q ++ r)) ≡ q
  inner some =
      let earlier : nat_lt (length p) (length p + length q) ≡ true = grind (arith, nat_tests) in
      simp earlier middle

-- the places of a and of b
in_pieces : (p : List ℕ) (a : ℕ) (mid : List ℕ) (b : ℕ) (post : List ℕ) → IsParted (length p) (length p + length (a ∷ mid)) (p ++ (a ∷ mid ++ b ∷ post))
in_pieces p a mid b post =
    let q : List ℕ = a ∷ mid in
    let r : List ℕ = b ∷ post in
    let ring = p ++ (a ∷ mid ++ b ∷ post) in
    let in1 : stretch (length p) (length p + length q) ring ≡ q = inner p q r (omega arith) in
    let out1 : stretch (length p + length q) (length p) ring ≡ r ++ p = outer p q r in
    let at_i : slice_index ring (length p) ≡ a = get_or-append_seam p a (mid ++ b ∷ post) 0 in
    let at_j : slice_index ring (length p + length q) ≡ b = get_or-append-add p (a ∷ mid ++ b ∷ post) (length (a ∷ mid)) 0 ∙ get_or-append_seam (a ∷ mid) b post 0 in
    record {
      after_i = mid;
      after_j = post ++ p;
      first = in1 ∙ ap (λ (x : ℕ). x ∷ mid) (sym at_i);
      second = out1 ∙ ap (λ (x : ℕ). x ∷ (post ++ p)) (sym at_j);
      round = round_at p (q ++ r) ∙ append_assoc q r p ∙ (λ k. sym in1 k ++ sym out1 k);
      round_back = (λ k. behind p q r k ++ before p q r k) ∙ sym (append_assoc r p q) ∙ (λ k. sym out1 k ++ sym in1 k);
    }

as_given : (i i' j j' : ℕ) (r r' : Ring) → i ≡ i' → j ≡ j' → r ≡ r' → IsParted i j r → IsParted i' j' r'
as_given i i' j j' r r' ei ej er h =
    subst (λ (l : List ℕ). IsParted i' j' l) er (subst (λ (n : ℕ). IsParted i' n r) ej (subst (λ (n : ℕ). IsParted n j r) ei h))

forwards : (i j : ℕ) (ring : Ring) → i < j → j < length ring → IsParted i j ring
forwards i j ring h within =
    let n = j - suc i in
    let a = slice_index ring i in
    let b = slice_index ring j in
    let rest = drop (suc i) ring in
    let mid = take n rest in
    let post = drop (suc j) ring in
    let at : suc i + n ≡ j = omega arith in
    let e2 : drop n rest ≡ b ∷ post = drop-drop n (suc i) ring ∙ ap (λ (k : ℕ). drop k ring) at ∙ drop-cons ring j 0 within in
    let e3 : mid ++ b ∷ post ≡ rest = ap (λ (l : List ℕ). mid ++ l) (sym e2) ∙ take-append-drop n rest in
    let e4 : take i ring ++ (a ∷ mid ++ b ∷ post) ≡ ring = ap (λ (l : List ℕ). take i ring ++ a ∷ l) e3 ∙ ap (λ (l : List ℕ). take i ring ++ l) (sym (drop-cons ring i 0 (omega arith))) ∙ take-append-drop i ring in
    let li : length (take i ring) ≡ i = length-take-le i ring (omega arith) in
    let lm : length mid ≡ n = length-take-le n rest (let e = length-drop (suc i) ring in omega arith) in
    as_given (length (take i ring)) i (length (take i ring) + length (a ∷ mid)) j (take i ring ++ (a ∷ mid ++ b ∷ post)) ring li (omega arith) e4 (in_pieces (take i ring) a mid b post)

exchanged : (i j : ℕ) (ring : Ring) → IsParted i j ring → IsParted j i ring
exchanged i j ring h = record { after_i = h.after_j; after_j = h.after_i; first = h.second; second = h.first; round = h.round_back; round_back = h.round }

pub parted : (i j : ℕ) (ring : Ring) → AreTwoPlaces i j ring → IsParted i j ring
parted i j ring two = elim (cases_order i j) [
  | inl h ↦ absurd (two.apart h)
  | inr h ↦ elim h [
    | inl before ↦ forwards i j ring before two.second
    | inr after ↦ exchanged j i ring (forwards j i ring after two.first)
  ]
]

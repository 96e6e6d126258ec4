-- A point dropped from a ring, or put on a side of it: the corners.
use Rattle.std.proofs.Common.{◌≡◌, ℕ, suc, ◌≤◌, inl, inr, refl, sym, ◌∙◌, ap, subst, List, [], ◌∷◌, ◌++◌, length, take, drop, reverse, append_assoc, cond, arith}
use Rattle.std.proofs.Math.Seq.{drop-append_seam, take-append_seam}
use Rattle.std.proofs.lemmas.List.{reverse-append}
use Rattle.std.proofs.lemmas.List.Sorted.{IsPermutation-trans, IsPermutation-sym, IsPermutation-append_right, sum_by-IsPermutation}
use Rattle.std.specs.Prelude.{count_by, Contains}
use Rattle.cad_rings.specs.Cycle.{Ring, Side, is_side, sides_of, Corner, corners_of, turned, IsSameRing, times_along, times_through}
use Rattle.cad_rings.specs.Surgery.{corner, corners_of_chain, put_on, without, StandsBetween}
use Rattle.cad_rings.proofs.Permuted.{permuted_as, laid, shuffled}
use Rattle.cad_rings.proofs.SideLemmas.{sides_of-turned, sides_of-same}
use Rattle.cad_rings.proofs.CornerLemmas.{corners_of-same}
use Rattle.cad_rings.proofs.CutCorners.{last_of, first_of, corners_of-parts}
use Rattle.cad_rings.proofs.Turned.{IsSameRing-append, IsSameRing-turned, IsSameRing-sym, IsSameRing-trans, IsSameRing-length}
use Rattle.cad_rings.proofs.PutOn.{is_side-same, once_first, put_on-same}
use Rattle.cad_rings.proofs.Without.{ends_with, from_corner, without-rest, put_at_end}

in_a_row : (n : ℕ) (zs : List ℕ) (w v : ℕ) → StandsBetween w v n (n ∷ zs ++ w ∷ v ∷ []) (n ∷ zs ++ w ∷ [])
in_a_row n zs w v =
    let B = corners_of_chain (n ∷ zs ++ w ∷ []) in
    let u = last_of n zs in
    let x = first_of zs w in
    let R : Ring = n ∷ zs ++ w ∷ v ∷ [] in
    let R' : Ring = n ∷ zs ++ w ∷ [] in
    let pieces : List (List Corner) = (corner u w n ∷ []) ∷ (corner w n x ∷ []) ∷ B ∷ (corner u w v ∷ []) ∷ (corner w v n ∷ []) ∷ (corner v n x ∷ []) ∷ [] in
    let e1 : corner u w n ∷ corner w n x ∷ corners_of R ≡ laid pieces (0 ∷ 1 ∷ 2 ∷ 3 ∷ 4 ∷ 5 ∷ []) = ap (λ (l : List Corner). corner u w n ∷ corner w n x ∷ l) (corners_of-parts n zs w (v ∷ [])) in
    let e2 : corner u w v ∷ corner w v n ∷ corner v n x ∷ corners_of R' ≡ laid pieces (3 ∷ 4 ∷ 5 ∷ 2 ∷ 0 ∷ 1 ∷ []) =
    ap (λ (l : List Corner). corner u w v ∷ corner w v n ∷ corner v n x ∷ l) (corners_of-parts n zs w []) in
    record {
      u = u;
      x = x;
      is = permuted_as (corner u w n ∷ corner w n x ∷ corners_of R) (laid pieces (0 ∷ 1 ∷ 2 ∷ 3 ∷ 4 ∷ 5 ∷ []))
          (corner u w v ∷ corner w v n ∷ corner v n x ∷ corners_of R') (laid pieces (3 ∷ 4 ∷ 5 ∷ 2 ∷ 0 ∷ 1 ∷ [])) e1 e2
          (shuffled pieces (0 ∷ 1 ∷ 2 ∷ 3 ∷ 4 ∷ 5 ∷ []) (3 ∷ 4 ∷ 5 ∷ 2 ∷ 0 ∷ 1 ∷ []) refl);
    }

-- wherever the two rings are written from
elsewhere : (w v n : ℕ) (r s r' s' : Ring) → IsSameRing r r' → IsSameRing s s' → StandsBetween w v n r s → StandsBetween w v n r' s'
elsewhere w v n r s r' s' hr hs h =
    let a = corner h.u w n ∷ corner w n h.x ∷ [] in
    let b = corner h.u w v ∷ corner w v n ∷ corner v n h.x ∷ [] in
    record {
      u = h.u;
      x = h.x;
      is = IsPermutation-trans (a ++ corners_of r') (a ++ corners_of r) (b ++ corners_of s')
          (IsPermutation-append_right a (corners_of r') (corners_of r) (IsPermutation-sym (corners_of r) (corners_of r') (corners_of-same r r' hr)))
          (IsPermutation-trans (a ++ corners_of r) (b ++ corners_of s) (b ++ corners_of s') h.is (IsPermutation-append_right b (corners_of s) (corners_of s') (corners_of-same s s' hs)));
    }

-- of two points or more, the first and the last
first_and_last : (n : ℕ) (ys points : List ℕ) (w : ℕ) → n ∷ ys ≡ points ++ w ∷ [] → 2 ≤ length (n ∷ ys) → (zs : List ℕ) × (n ∷ ys ≡ n ∷ zs ++ w ∷ [])
first_and_last n ys [] w e long = let k : suc (length ys) ≡ suc 0 = ap length e in absurd (omega arith)
first_and_last n ys (m ∷ zs) w e long = let k : m ≡ n = cc in (zs, e ∙ ap (λ (q : ℕ). q ∷ zs ++ w ∷ []) k)

with_behind : (n : ℕ) (ys zs : List ℕ) (w v : ℕ) → n ∷ ys ≡ n ∷ zs ++ w ∷ [] → n ∷ ys ++ v ∷ [] ≡ n ∷ zs ++ w ∷ v ∷ []
with_behind n ys zs w v e = ap (λ (l : List ℕ). l ++ v ∷ []) e ∙ append_assoc (n ∷ zs) (w ∷ []) (v ∷ [])

in_a_ring : (n : ℕ) (ys points : List ℕ) (w v : ℕ) → n ∷ ys ≡ points ++ w ∷ [] → 2 ≤ length (n ∷ ys) → StandsBetween w v n (n ∷ ys ++ v ∷ []) (n ∷ ys)
in_a_ring n ys points w v e long =
    let k = first_and_last n ys points w e long in
    subst (λ (l : List ℕ). StandsBetween w v n l (n ∷ ys)) (sym (with_behind n ys k.0 w v k.1)) (subst (λ (l : List ℕ). StandsBetween w v n (n ∷ k.0 ++ w ∷ v ∷ []) l) (sym k.1) (in_a_row n k.0 w v))

-- a corner whose point is dropped goes, and its neighbours see each other
pub corners_of-without : (ring : Ring) (c : Corner) → Contains (corners_of ring) c → times_through c.at ring ≡ 1 → 3 ≤ length ring → StandsBetween c.before c.at c.after ring (without c.at ring)
corners_of-without ring c there once long =
    let h = from_corner ring c there in
    let T = c.at ∷ c.after ∷ h.rest in
    let rest = c.after ∷ h.rest in
    let e = IsSameRing-length ring T h.same in
    elsewhere c.before c.at c.after (rest ++ c.at ∷ []) rest ring (without c.at ring)
    (IsSameRing-trans (rest ++ c.at ∷ []) T ring (IsSameRing-append rest (c.at ∷ [])) (IsSameRing-sym ring T h.same)) (without-rest ring c h once)
    (in_a_ring c.after h.rest h.points c.before c.at h.is (omega arith))

-- ---- Put on

-- where the one side that is s stands
record HasOne (s : Side) (sides : List Side) : Type 0 where
  front : List Side
  back : List Side
  is : sides ≡ front ++ s ∷ back

has_one : (s : Side) (sides : List Side) → count_by (is_side s) sides ≡ 1 → HasOne s sides
has_one s [] h = absurd (let e : 0 ≡ 1 = h in omega arith)
has_one s (t ∷ sides) h = elim (once_first s t sides h) [
  | inl k ↦ record { front = []; back = sides; is = ap (λ (u : Side). u ∷ sides) (sym (is_side-same s t k.0)) }
  | inr k ↦ let rest = has_one s sides k.1 in record { front = t ∷ rest.front; back = rest.back; is = ap (λ (l : List Side). t ∷ l) rest.is }
]

-- the ring from the end of a side on
record FromSide (ring : Ring) (s : Side) : Type 0 where
  rest : List ℕ
  points : List ℕ
  is : s.1 ∷ rest ≡ points ++ s.0 ∷ []
  sides : List Side
  same : IsSameRing ring (s.1 ∷ rest)
  sides_are : sides_of (s.1 ∷ rest) ≡ sides ++ s ∷ []

last_same : (xs ys : List Side) (a b : Side) → xs ++ a ∷ [] ≡ ys ++ b ∷ [] → a ≡ b
last_same xs ys a b h = let e : a ∷ reverse xs ≡ b ∷ reverse ys = sym (reverse-append xs (a ∷ [])) ∙ ap reverse h ∙ reverse-append ys (b ∷ []) in cc

from_last : (ring : Ring) (s : Side) (r : Ring) (front : List Side) → IsSameRing ring r → sides_of r ≡ front ++ s ∷ [] → FromSide ring s
from_last ring s [] [] h e = cc
from_last ring s [] (t ∷ front) h e = cc
from_last ring s (n ∷ ys) front h e =
    let w = ends_with n ys in
    let end : Side = (w.last, n) in
    let it : end ≡ s = last_same w.sides front end s (sym (w.sides_to n) ∙ e) in
    subst (FromSide ring) it (record { rest = ys; points = w.points; is = w.is; sides = w.sides; same = h; sides_are = w.sides_to n })

from_side : (ring : Ring) (s : Side) → times_along s ring ≡ 1 → FromSide ring s
from_side ring s once =
    let h = has_one s (sides_of ring) once in
    let S = sides_of ring in
    let k = length (h.front ++ s ∷ []) in
    let split : S ≡ (h.front ++ s ∷ []) ++ h.back = h.is ∙ sym (append_assoc h.front (s ∷ []) h.back) in
    let e : sides_of (turned k ring) ≡ (h.back ++ h.front) ++ s ∷ [] =
    sides_of-turned k ring ∙ (λ i. drop k (split i) ++ take k (split i)) ∙ (λ i. drop-append_seam (h.front ++ s ∷ []) h.back i ++ take-append_seam (h.front ++ s ∷ []) h.back i)
    ∙ sym (append_assoc h.back h.front (s ∷ [])) in
    from_last ring s (turned k ring) (h.back ++ h.front) (IsSameRing-turned k ring) e

-- the point that is put on a side makes a corner, and the side's ends see it
pub corners_of-put_on : (s : Side) (p : ℕ) (ring : Ring) → times_along s ring ≡ 1 → 2 ≤ length ring → StandsBetween s.0 p s.1 (put_on s p ring) ring
corners_of-put_on s p ring once long =
    let h = from_side ring s once in
    let T = s.1 ∷ h.rest in
    let e = IsSameRing-length ring T h.same in
    let count_e : times_along s T ≡ times_along s ring = sum_by-IsPermutation (λ (t : Side). cond (is_side s t) 1 0) (sides_of ring) (sides_of T) (sides_of-same ring T h.same) in
    let put_e : put_on s p T ≡ T ++ p ∷ [] = put_at_end s p s.1 h.rest h.sides h.sides_are (count_e ∙ once) in
    let back = IsSameRing-sym ring T h.same in
    elsewhere s.0 p s.1 (T ++ p ∷ []) T (put_on s p ring) ring (subst (λ (l : List ℕ). IsSameRing l (put_on s p ring)) put_e (put_on-same s p T ring back)) back
    (in_a_ring s.1 h.rest h.points s.0 p h.is (omega arith))

-- Two rings joined along a chain: a join is a cut taken back.
use Rattle.std.proofs.Common.{◌≡◌, ℕ, suc, ◌+◌, ◌-◌, ◌*◌, ◌<◌, refl, sym, ◌∙◌, ap, List, [], ◌∷◌, ◌++◌, length, take, drop, reverse, append_assoc, ◌+ℤ◌, arith}
use Rattle.std.proofs.Math.Seq.{get_or-append_seam}
use Rattle.std.proofs.lemmas.Int.{ints}
use Rattle.std.proofs.lemmas.List.{append-nil, length-append, length-reverse, reverse-append, reverse-reverse, take-append-drop, length-take-le, take_at, drop_at}
use Rattle.std.proofs.lemmas.List.Sorted.{IsPermutation-trans, IsPermutation-append, IsPermutation-append_right}
use Rattle.std.specs.Prelude.{IsPermutation, slice_index, slice_range}
use Rattle.geo_exact.specs.Position.{Position}
use Rattle.geo_exact.specs.Measure.{Measure, IsOdd}
use Rattle.cad_rings.specs.Cycle.{Ring, sides_along, sides_of, ring_sum, turned}
use Rattle.cad_rings.specs.Surgery.{stretch, left_ring, right_ring, chain_across, AreTwoPlaces, chain_from, HaveChainInCommon, joined, sides_of_chain, both_ways}
use Rattle.cad_rings.proofs.Permuted.{permuted_as, sum-permuted, sum-append, sum-both_ways}
use Rattle.cad_rings.proofs.SideLemmas.{sides_of_chain-is, sides_of-same}
use Rattle.cad_rings.proofs.Turned.{IsSameRing-turned, IsSameRing-append, length-turned}
use Rattle.cad_rings.proofs.Parts.{outer, inner}
use Rattle.cad_rings.proofs.CutLemmas.{sides_of-parts, cut}

-- ---- The chain and the two rings, as lists

-- a list that isn't empty has a last element
record HasLast (xs : List ℕ) : Type 0 where
  front : List ℕ
  last : ℕ
  is : xs ≡ front ++ last ∷ []

has_last : (x : ℕ) (xs : List ℕ) → HasLast (x ∷ xs)
has_last x [] = record { front = []; last = x; is = refl }
has_last x (y ∷ ys) = let h = has_last y ys in record { front = x ∷ h.front; last = h.last; is = ap (λ (l : List ℕ). x ∷ l) h.is }

-- the points that only one of the rings has are r and s
pub record IsJoined (i j m : ℕ) (kept ended : Ring) : Type 0 where
  pub c : ℕ
  pub mid : List ℕ
  pub d : ℕ
  pub r : List ℕ
  pub s : List ℕ
  pub long : suc (length mid) ≡ m
  pub chain : chain_from i m kept ≡ c ∷ mid ++ d ∷ []
  pub from_c : turned i kept ≡ c ∷ mid ++ d ∷ r
  pub from_d : turned j ended ≡ d ∷ reverse mid ++ c ∷ s
  pub is : joined i j m kept ended ≡ d ∷ r ++ c ∷ s

-- a list of at least two points
record HasEnds (xs : List ℕ) : Type 0 where
  first : ℕ
  mid : List ℕ
  last : ℕ
  is : xs ≡ first ∷ mid ++ last ∷ []

has_ends : (xs : List ℕ) → 1 < length xs → HasEnds xs
has_ends [] h = absurd (omega arith)
has_ends (x ∷ []) h = absurd (omega arith)
has_ends (x ∷ y ∷ ys) h = let e = has_last y ys in record { first = x; mid = e.front; last = e.last; is = ap (λ (l : List ℕ). x ∷ l) e.is }

backwards : (c : ℕ) (mid : List ℕ) (d : ℕ) (there back : List ℕ) → there ≡ c ∷ mid ++ d ∷ [] → there ≡ reverse back → back ≡ d ∷ reverse mid ++ c ∷ []
backwards c mid d there back e h =
    sym (reverse-reverse back) ∙ ap reverse (sym h ∙ e) ∙ reverse-append (c ∷ mid) (d ∷ []) ∙ ap (λ (l : List ℕ). d ∷ l) (reverse-append (c ∷ []) mid)

in_two : (n : ℕ) (points chain : List ℕ) → take n points ≡ chain → points ≡ chain ++ drop n points
in_two n points chain e = sym (take-append-drop n points) ∙ ap (λ (l : List ℕ). l ++ drop n points) e

pub is_joined : (i j m : ℕ) (kept ended : Ring) → HaveChainInCommon i j m kept ended → IsJoined i j m kept ended
is_joined i j m kept ended h =
    let K = turned i kept in
    let E = turned j ended in
    let lk : length K ≡ length kept = length-turned i kept in
    let le : length E ≡ length ended = length-turned j ended in
    let more_k = h.more_in_kept in
    let more_e = h.more_in_ended in
    let some = h.some in
    let lc : length (take (m + 1) K) ≡ m + 1 = length-take-le (m + 1) K (omega arith) in
    let ends = has_ends (take (m + 1) K) (omega arith) in
    let c = ends.first in
    let mid = ends.mid in
    let d = ends.last in
    let r = drop (m + 1) K in
    let s = drop (m + 1) E in
    let long : suc (length mid) ≡ m = let e = ap length ends.is in let e' = length-append (c ∷ mid) (d ∷ []) in omega arith in
    let chain_e : take (m + 1) E ≡ d ∷ reverse mid ++ c ∷ [] = backwards c mid d (take (m + 1) K) (take (m + 1) E) ends.is h.common in
    let k_is : K ≡ c ∷ mid ++ d ∷ r = in_two (m + 1) K (c ∷ mid ++ d ∷ []) ends.is ∙ append_assoc (c ∷ mid) (d ∷ []) r in
    let e_is : E ≡ d ∷ reverse mid ++ c ∷ s = in_two (m + 1) E (d ∷ reverse mid ++ c ∷ []) chain_e ∙ append_assoc (d ∷ reverse mid) (c ∷ []) s in
    let behind_k : drop m K ≡ d ∷ r = ap (drop m) k_is ∙ drop_at (c ∷ mid) (d ∷ r) m long in
    let behind_e : drop m E ≡ c ∷ s = ap (drop m) e_is ∙ drop_at (d ∷ reverse mid) (c ∷ s) m (let e = length-reverse mid in omega arith) in
    record { c = c; mid = mid; d = d; r = r; s = s; long = long; chain = ends.is; from_c = k_is; from_d = e_is; is = λ k. behind_k k ++ behind_e k }

-- ---- Sides, sums, lengths

-- the two rings have the sides of the ring round both, and those of the chain both ways
pub sides_of-joined : (i j m : ℕ) (kept ended : Ring) → HaveChainInCommon i j m kept ended
    → IsPermutation (sides_of kept ++ sides_of ended) (both_ways (sides_of_chain (chain_from i m kept)) ++ sides_of (joined i j m kept ended))
sides_of-joined i j m kept ended common =
    let h = is_joined i j m kept ended common in
    let C = both_ways (sides_along h.c h.mid h.d) in
    let K = turned i kept in
    let E = turned j ended in
    let whole = h.c ∷ h.s ++ h.d ∷ h.r in
    IsPermutation-trans (sides_of kept ++ sides_of ended) (sides_of K ++ sides_of E) (both_ways (sides_of_chain (chain_from i m kept)) ++ sides_of (joined i j m kept ended))
    (IsPermutation-append (sides_of kept) (sides_of K) (sides_of ended) (sides_of E) (sides_of-same kept K (IsSameRing-turned i kept)) (sides_of-same ended E (IsSameRing-turned j ended)))
    (IsPermutation-trans (sides_of K ++ sides_of E) (C ++ sides_of whole) (both_ways (sides_of_chain (chain_from i m kept)) ++ sides_of (joined i j m kept ended))
    (permuted_as (sides_of K ++ sides_of E) (sides_of (h.c ∷ h.mid ++ h.d ∷ h.r) ++ sides_of (h.d ∷ reverse h.mid ++ h.c ∷ h.s)) (C ++ sides_of whole) (C ++ sides_of whole)
    (λ k. sides_of (h.from_c k) ++ sides_of (h.from_d k)) refl (sides_of-parts h.c h.s h.d h.r h.mid))
    (permuted_as (C ++ sides_of whole) (C ++ sides_of whole) (both_ways (sides_of_chain (chain_from i m kept)) ++ sides_of (joined i j m kept ended)) (C ++ sides_of (h.d ∷ h.r ++ h.c ∷ h.s)) refl
    (λ k. both_ways ((ap sides_of_chain h.chain ∙ sides_of_chain-is h.c h.mid h.d) k) ++ sides_of (h.is k))
    (IsPermutation-append_right C (sides_of whole) (sides_of (h.d ∷ h.r ++ h.c ∷ h.s)) (sides_of-same whole (h.d ∷ h.r ++ h.c ∷ h.s) (IsSameRing-append (h.c ∷ h.s) (h.d ∷ h.r))))))

-- Two joined rings add up to the ring round both.
pub ring_sum-joined : (f : Measure) → IsOdd f → (position : ℕ → Position) (i j m : ℕ) (kept ended : Ring) → HaveChainInCommon i j m kept ended
    → ring_sum f position kept +ℤ ring_sum f position ended ≡ ring_sum f position (joined i j m kept ended)
ring_sum-joined f odd position i j m kept ended common =
    let W = sides_of (joined i j m kept ended) in
    let C = both_ways (sides_of_chain (chain_from i m kept)) in
    let e1 = sum-append f position (sides_of kept) (sides_of ended) in
    let e2 = sum-permuted f position (sides_of kept ++ sides_of ended) (C ++ W) (sides_of-joined i j m kept ended common) in
    let e3 = sum-append f position C W in
    let e4 = sum-both_ways f odd position (sides_of_chain (chain_from i m kept)) in
    omega (arith, ints, e1, e2, e3, e4)

pub length-joined : (i j m : ℕ) (kept ended : Ring) → HaveChainInCommon i j m kept ended → length (joined i j m kept ended) + 2 * m ≡ length kept + length ended
length-joined i j m kept ended common =
    let h = is_joined i j m kept ended common in
    let e1 = ap length h.from_c in
    let e2 = ap length h.from_d in
    let e3 = ap length h.is in
    let e4 = length-append (h.c ∷ h.mid) (h.d ∷ h.r) in
    let e5 = length-append (h.d ∷ reverse h.mid) (h.c ∷ h.s) in
    let e6 = length-append (h.d ∷ h.r) (h.c ∷ h.s) in
    let e7 = length-reverse h.mid in
    let e8 = length-turned i kept in
    let e9 = length-turned j ended in
    let e0 = h.long in
    omega arith

-- ---- One takes back the other

-- The two rings of a cut have the chain in common.
pub HaveChainInCommon-cut : (i j : ℕ) (inner : List ℕ) (ring : Ring) → AreTwoPlaces i j ring → HaveChainInCommon 0 0 (length inner + 1) (left_ring i j inner ring) (right_ring i j inner ring)
HaveChainInCommon-cut i j inner ring two =
    let h = cut i j inner ring two in
    let a = slice_index ring i in
    let b = slice_index ring j in
    let L = left_ring i j inner ring in
    let R = right_ring i j inner ring in
    let e1 = ap length h.left in
    let e2 = ap length h.right in
    let e4 = length-append (a ∷ inner) (b ∷ h.ys) in
    let e5 = length-append (b ∷ reverse inner) (a ∷ h.xs) in
    let e7 = length-reverse inner in
    let n = length inner + 1 + 1 in
    let first : chain_from 0 (length inner + 1) L ≡ a ∷ inner ++ b ∷ [] =
    ap (take n) (append-nil L ∙ h.left ∙ sym (append_assoc (a ∷ inner) (b ∷ []) h.ys)) ∙ take_at (a ∷ inner ++ b ∷ []) h.ys n (let e = length-append (a ∷ inner) (b ∷ []) in omega arith) in
    let second : chain_from 0 (length inner + 1) R ≡ b ∷ reverse inner ++ a ∷ [] =
    ap (take n) (append-nil R ∙ h.right ∙ sym (append_assoc (b ∷ reverse inner) (a ∷ []) h.xs)) ∙ take_at (b ∷ reverse inner ++ a ∷ []) h.xs n (let e = length-append (b ∷ reverse inner) (a ∷ []) in omega arith) in
    let turned_round : reverse (b ∷ reverse inner ++ a ∷ []) ≡ a ∷ inner ++ b ∷ [] =
    reverse-append (b ∷ reverse inner) (a ∷ []) ∙ ap (λ (l : List ℕ). a ∷ l) (reverse-append (b ∷ []) (reverse inner) ∙ ap (λ (l : List ℕ). l ++ b ∷ []) (reverse-reverse inner)) in
    record {
      some = omega arith;
      more_in_kept = omega arith;
      more_in_ended = omega arith;
      common = first ∙ sym turned_round ∙ ap reverse (sym second);
    }

-- Joined again along the chain they are the ring.
pub joined-cut : (i j : ℕ) (inner : List ℕ) (ring : Ring) → AreTwoPlaces i j ring → joined 0 0 (length inner + 1) (left_ring i j inner ring) (right_ring i j inner ring) ≡ turned j ring
joined-cut i j inner ring two =
    let h = cut i j inner ring two in
    let a = slice_index ring i in
    let b = slice_index ring j in
    let m = length inner + 1 in
    let first : drop m (turned 0 (left_ring i j inner ring)) ≡ b ∷ h.ys = ap (drop m) (append-nil (left_ring i j inner ring) ∙ h.left) ∙ drop_at (a ∷ inner) (b ∷ h.ys) m (omega arith) in
    let second : drop m (turned 0 (right_ring i j inner ring)) ≡ a ∷ h.xs =
    ap (drop m) (append-nil (right_ring i j inner ring) ∙ h.right) ∙ drop_at (b ∷ reverse inner) (a ∷ h.xs) m (let e = length-reverse inner in omega arith) in
    (λ k. first k ++ second k) ∙ sym h.round_back

-- The ring round both, cut along the chain again, from where the ended ring's part begins to its first place.
pub record IsCutBack (i j m : ℕ) (kept ended : Ring) : Type 0 where
  pub two : AreTwoPlaces (length kept - m) 0 (joined i j m kept ended)
  pub left : left_ring (length kept - m) 0 (slice_range (turned i kept) 1 m) (joined i j m kept ended) ≡ turned i kept
  pub right : right_ring (length kept - m) 0 (slice_range (turned i kept) 1 m) (joined i j m kept ended) ≡ turned j ended
  pub chain : chain_across (length kept - m) 0 (slice_range (turned i kept) 1 m) (joined i j m kept ended) ≡ chain_from i m kept

pub cut-joined : (i j m : ℕ) (kept ended : Ring) → HaveChainInCommon i j m kept ended → IsCutBack i j m kept ended
cut-joined i j m kept ended common =
    let h = is_joined i j m kept ended common in
    let K = turned i kept in
    let W = joined i j m kept ended in
    let p = length kept - m in
    let more = common.more_in_kept in
    let some = common.some in
    let long = h.long in
    let e8 = length-turned i kept in
    let e1 = ap length h.from_c in
    let e4 = length-append (h.c ∷ h.mid) (h.d ∷ h.r) in
    let at : length (h.d ∷ h.r) ≡ p = omega arith in
    let w : W ≡ (h.d ∷ h.r) ++ (h.c ∷ h.s) = h.is in
    let e3 = ap length w in
    let e6 = length-append (h.d ∷ h.r) (h.c ∷ h.s) in
    let inner_is : slice_range K 1 m ≡ h.mid = ap (λ (l : List ℕ). slice_range l 1 m) h.from_c ∙ take_at h.mid (h.d ∷ h.r) (m - 1) (omega arith) in
    let c_at : slice_index W p ≡ h.c = (λ k. slice_index (w k) (sym at k)) ∙ get_or-append_seam (h.d ∷ h.r) h.c h.s 0 in
    let d_at : slice_index W 0 ≡ h.d = ap (λ (l : List ℕ). slice_index l 0) w in
    let to_p : stretch 0 p W ≡ h.d ∷ h.r =
    (λ k. stretch 0 (sym at k) (w k)) ∙ ap (λ (n : ℕ). stretch 0 n ((h.d ∷ h.r) ++ (h.c ∷ h.s))) (let e : length (h.d ∷ h.r) ≡ length {A = ℕ} [] + length (h.d ∷ h.r) = omega arith in e) ∙ inner [] (h.d ∷ h.r) (h.c ∷ h.s) (omega arith) in
    let from_p : stretch p 0 W ≡ h.c ∷ h.s =
    (λ k. stretch (sym at k) 0 (w k)) ∙ ap (λ (n : ℕ). stretch n 0 ((h.d ∷ h.r) ++ (h.c ∷ h.s))) (let e : length (h.d ∷ h.r) ≡ length {A = ℕ} [] + length (h.d ∷ h.r) = omega arith in e) ∙ outer [] (h.d ∷ h.r) (h.c ∷ h.s) ∙ append-nil (h.c ∷ h.s) in
    record {
      two = record { first = omega arith; second = omega arith; apart = λ e. absurd (omega arith) };
      left = (λ k. c_at k ∷ inner_is k ++ to_p k) ∙ sym h.from_c;
      right = (λ k. d_at k ∷ reverse (inner_is k) ++ from_p k) ∙ sym h.from_d;
      chain = (λ k. c_at k ∷ inner_is k ++ d_at k ∷ []) ∙ sym h.chain;
    }

-- Where a ring is cut at two sides that it has once, the two rings are the same lists, wherever the ring is written from.
use Rattle.std.proofs.Common.{◌≡◌, ℕ, zero, suc, ◌+◌, ◌<◌, ◌≤◌, refl, sym, ◌∙◌, ap, List, [], ◌∷◌, ◌++◌, length, take, drop, reverse, true, cond, arith}
use Rattle.std.proofs.Math.Seq.{drop-cons, take-append_seam}
use Rattle.std.proofs.lemmas.List.{append-nil, take-append-drop, length-drop}
use Rattle.std.proofs.lemmas.List.Sums.{sum_by-cons, sum_by-append}
use Rattle.std.proofs.lemmas.List.Sorted.{sum_by-IsPermutation}
use Rattle.std.proofs.lemmas.Bool.Decides.{nat_tests}
use Rattle.std.specs.Prelude.{count_by, slice_index, ◌==◌, ◌&&◌}
use Rattle.cad_rings.specs.Cycle.{Ring, Side, is_side, sides_of, sides_along, times_along, turned, IsSameRing}
use Rattle.cad_rings.specs.Surgery.{stretch, left_ring, right_ring, AreTwoPlaces, LeavesOnce, AreSamePlaces}
use Rattle.cad_rings.proofs.SideLemmas.{sides_of-turned, sides_of-same, sides_along-append, length-sides_along, length-sides_of}
use Rattle.cad_rings.proofs.Turned.{round_past, IsSameRing-turned, IsSameRing-sym, IsSameRing-trans}
use Rattle.cad_rings.proofs.Parts.{parted}

-- ---- How often a side is there

abbrev count : Side → List Side → ℕ
count s sides = count_by (is_side s) sides

same_number : (p : ℕ) → (p == p) ≡ true
same_number p = grind (arith, nat_tests)

is_itself : (s : Side) → is_side s s ≡ true
is_itself s = λ i. same_number s.0 i && same_number s.1 i

count-here : (s : Side) (sides : List Side) → count s (s ∷ sides) ≡ 1 + count s sides
count-here s sides =
    let e = sum_by-cons (λ (t : Side). cond (is_side s t) 1 0) s sides in
    let here : cond {A = ℕ} (is_side s s) 1 0 ≡ 1 = λ i. cond {A = ℕ} (is_itself s i) 1 0 in
    omega arith

count-at_least : (s t : Side) (sides : List Side) → count s sides ≤ count s (t ∷ sides)
count-at_least s t sides = let e = sum_by-cons (λ (u : Side). cond (is_side s u) 1 0) t sides in omega arith

count-append : (s : Side) (xs ys : List Side) → count s (xs ++ ys) ≡ count s xs + count s ys
count-append s xs ys = sum_by-append (λ (t : Side). cond (is_side s t) 1 0) xs ys

count-among : (s : Side) (xs ys : List Side) → 1 ≤ count s (xs ++ s ∷ ys)
count-among s xs ys = let e = count-append s xs (s ∷ ys) in let e' = count-here s ys in omega arith

-- a side that is there once stands in one place
one_place : (s : Side) (xs ys xs' ys' : List Side) → xs ++ s ∷ ys ≡ xs' ++ s ∷ ys' → count s (xs ++ s ∷ ys) ≡ 1 → length xs ≡ length xs'
one_place s [] ys [] ys' e h = refl
one_place s [] ys (x ∷ xs') ys' e h =
    let rest : ys ≡ xs' ++ s ∷ ys' = cc in
    let e1 = count-here s ys in let e2 = ap (count s) rest in let e3 = count-among s xs' ys' in absurd (omega arith)
one_place s (x ∷ xs) ys [] ys' e h =
    let rest : xs ++ s ∷ ys ≡ ys' = cc in
    let whole = ap (count s) e in
    let e1 = count-here s ys' in let e2 = ap (count s) rest in let e3 = count-among s xs ys in absurd (omega arith)
one_place s (x ∷ xs) ys (x' ∷ xs') ys' e h =
    let rest : xs ++ s ∷ ys ≡ xs' ++ s ∷ ys' = cc in
    let e1 = count-at_least s x (xs ++ s ∷ ys) in let e2 = count-among s xs ys in
    ap suc (one_place s xs ys xs' ys' rest (omega arith))

-- ---- The ring from the side on

-- a ring written from a side on that it has once is one list
one_list : (u v : Ring) (s : Side) (a b : List Side) → IsSameRing u v → sides_of u ≡ s ∷ a → sides_of v ≡ s ∷ b → times_along s u ≡ 1 → u ≡ v
one_list u v s a b h eu ev once = go h.place h.is
  where
    later : (n : ℕ) (rest : List Side) → drop n a ≡ rest → v ≡ turned (suc n) u → u ≡ v
    later n [] e is =
        let e1 = ap length e in
        let e2 = length-sides_of u in
        let e3 = ap length eu in
        let e4 = length-drop n a in
        sym (round_past (suc n) u (omega arith)) ∙ sym is
    later n (x ∷ rest) e is =
        let all : (x ∷ rest) ++ (s ∷ take n a) ≡ s ∷ b =
        (λ i. sym e i ++ (s ∷ take n a)) ∙ (λ i. drop (suc n) (sym eu i) ++ take (suc n) (sym eu i)) ∙ sym (sides_of-turned (suc n) u) ∙ ap sides_of (sym is) ∙ ev in
        let first : x ≡ s = cc in
        let parts : take n a ++ s ∷ rest ≡ a = (λ i. take n a ++ sym first i ∷ rest) ∙ ap (λ (l : List Side). take n a ++ l) (sym e) ∙ take-append-drop n a in
        let e1 = ap (count s) parts in
        let e2 = count-among s (take n a) rest in
        let e3 = count-here s a in
        let e4 = ap (count s) eu in
        absurd (omega arith)

    go : (k : ℕ) → v ≡ turned k u → u ≡ v
    go zero is = sym (append-nil u) ∙ sym is
    go (suc n) is = later n (drop n a) refl is

leads : (i : ℕ) (s : Side) (ring : Ring) → LeavesOnce i s ring → sides_of (turned i ring) ≡ s ∷ (drop (suc i) (sides_of ring) ++ take i (sides_of ring))
leads i s ring h =
    let within : i < length (sides_of ring) = let e = length-sides_of ring in let e' = h.within in omega arith in
    sides_of-turned i ring ∙ ap (λ (l : List Side). l ++ take i (sides_of ring)) (drop-cons (sides_of ring) i s within ∙ ap (λ (t : Side). t ∷ drop (suc i) (sides_of ring)) h.is)

-- the second side stands where the second stretch begins
record HasSecond (i j : ℕ) (t : Side) (ring : Ring) : Type 0 where
  front : List Side
  back : List Side
  is : sides_of (turned i ring) ≡ front ++ t ∷ back
  long : length front ≡ length (stretch i j ring)

has_second : (i j : ℕ) (t : Side) (ring : Ring) → AreTwoPlaces i j ring → LeavesOnce j t ring → HasSecond i j t ring
has_second i j t ring two h =
    let k = parted i j ring two in
    let a = slice_index ring i in
    let b = slice_index ring j in
    let xs = k.after_i in
    let ys = k.after_j in
    let there : sides_of (turned i ring) ≡ sides_along a xs b ++ sides_along b ys a = ap sides_of (k.round ∙ (λ n. k.first n ++ k.second n)) ∙ sides_along-append a xs b ys a in
    let back_e : sides_of (turned j ring) ≡ sides_along b ys a ++ sides_along a xs b = ap sides_of (k.round_back ∙ (λ n. k.second n ++ k.first n)) ∙ sides_along-append b ys a xs b in
    go a xs b ys there (sym back_e ∙ leads j t ring h) (length-sides_along a xs b ∙ sym (ap length k.first))
  where
    go : (a : ℕ) (xs : List ℕ) (b : ℕ) (ys : List ℕ) → sides_of (turned i ring) ≡ sides_along a xs b ++ sides_along b ys a
        → sides_along b ys a ++ sides_along a xs b ≡ t ∷ (drop (suc j) (sides_of ring) ++ take j (sides_of ring)) → length (sides_along a xs b) ≡ length (stretch i j ring) → HasSecond i j t ring
    go a xs b [] e e' l = let end : Side = (b, a) in let first : end ≡ t = cc in record { front = sides_along a xs b; back = []; is = e ∙ ap (λ (u : Side). sides_along a xs b ++ u ∷ []) first; long = l }
    go a xs b (y ∷ ys) e e' l = let end : Side = (b, y) in let first : end ≡ t = cc in record { front = sides_along a xs b; back = sides_along y ys a; is = e ∙ ap (λ (u : Side). sides_along a xs b ++ u ∷ sides_along y ys a) first; long = l }

-- ---- The cut

times_along-same : (s : Side) (r t : Ring) → IsSameRing r t → times_along s t ≡ times_along s r
times_along-same s r t h = sum_by-IsPermutation (λ (u : Side). cond (is_side s u) 1 0) (sides_of r) (sides_of t) (sides_of-same r t h)

front_of : (i j : ℕ) (ring : Ring) → AreTwoPlaces i j ring → take (length (stretch i j ring)) (turned i ring) ≡ stretch i j ring
front_of i j ring two = let k = parted i j ring two in ap (take (length (stretch i j ring))) k.round ∙ take-append_seam (stretch i j ring) (stretch j i ring)

pub stretch-same : (i j : ℕ) (r : Ring) (k l : ℕ) (s : Ring) → AreSamePlaces i j r k l s → stretch i j r ≡ stretch k l s
stretch-same i j r k l s h =
    let U = turned i r in
    let V = turned k s in
    let turned_same : IsSameRing U V = IsSameRing-trans U r V (IsSameRing-sym r U (IsSameRing-turned i r)) (IsSameRing-trans r s V h.same (IsSameRing-turned k s)) in
    let once : times_along h.first U ≡ 1 = times_along-same h.first r U (IsSameRing-turned i r) ∙ h.first_here.once in
    let here = drop (suc i) (sides_of r) ++ take i (sides_of r) in
    let there = drop (suc k) (sides_of s) ++ take k (sides_of s) in
    let e : U ≡ V = one_list U V h.first here there turned_same (leads i h.first r h.first_here) (leads k h.first s h.first_there) once in
    let m = has_second i j h.second r h.two h.second_here in
    let n = has_second k l h.second s h.two_there h.second_there in
    let fronts : length m.front ≡ length n.front =
    one_place h.second m.front m.back n.front n.back (sym m.is ∙ ap sides_of e ∙ n.is) (ap (count h.second) (sym m.is) ∙ times_along-same h.second r U (IsSameRing-turned i r) ∙ h.second_here.once) in
    let long : length (stretch i j r) ≡ length (stretch k l s) = sym m.long ∙ fronts ∙ n.long in
    sym (front_of i j r h.two) ∙ (λ q. take (long q) (e q)) ∙ front_of k l s h.two_there

two_exchanged : (i j : ℕ) (ring : Ring) → AreTwoPlaces i j ring → AreTwoPlaces j i ring
two_exchanged i j ring h = record { first = h.second; second = h.first; apart = λ e. h.apart (sym e) }

exchanged : (i j : ℕ) (r : Ring) (k l : ℕ) (s : Ring) → AreSamePlaces i j r k l s → AreSamePlaces j i r l k s
exchanged i j r k l s h = record {
  same = h.same;
  two = two_exchanged i j r h.two;
  two_there = two_exchanged k l s h.two_there;
  first = h.second;
  first_here = h.second_here;
  first_there = h.second_there;
  second = h.first;
  second_here = h.first_here;
  second_there = h.first_there;
}

same_first : (i j : ℕ) (r : Ring) (k l : ℕ) (s : Ring) → AreSamePlaces i j r k l s → slice_index r i ≡ slice_index s k
same_first i j r k l s h =
    let m = parted i j r h.two in
    let n = parted k l s h.two_there in
    let e : slice_index r i ∷ m.after_i ≡ slice_index s k ∷ n.after_i = sym m.first ∙ stretch-same i j r k l s h ∙ n.first in
    cc

pub left_ring-same : (inner : List ℕ) (i j : ℕ) (r : Ring) (k l : ℕ) (s : Ring) → AreSamePlaces i j r k l s → left_ring i j inner r ≡ left_ring k l inner s
left_ring-same inner i j r k l s h = λ q. same_first i j r k l s h q ∷ inner ++ stretch-same j i r l k s (exchanged i j r k l s h) q

pub right_ring-same : (inner : List ℕ) (i j : ℕ) (r : Ring) (k l : ℕ) (s : Ring) → AreSamePlaces i j r k l s → right_ring i j inner r ≡ right_ring k l inner s
right_ring-same inner i j r k l s h = λ q. same_first j i r l k s (exchanged i j r k l s h) q ∷ reverse inner ++ stretch-same i j r k l s h q

-- A point dropped from a ring: its two sides become one. Dropping takes back putting on, and the other way round.
use Rattle.std.proofs.Common.{◌≡◌, ℕ, suc, ◌+◌, refl, sym, ◌∙◌, ap, subst, List, [], ◌∷◌, ◌++◌, length, take, drop, reverse, append_assoc, Bool, true, false, cond, arith}
use Rattle.std.proofs.Math.Seq.{take-suc}
use Rattle.std.proofs.lemmas.List.{append-nil, take-append-drop, reverse-append}
use Rattle.std.proofs.lemmas.List.Concat.{flat_map-append}
use Rattle.std.proofs.lemmas.List.Elements.{filter-append}
use Rattle.std.proofs.lemmas.List.Sums.{sum_by-cons, sum_by-append}
use Rattle.std.proofs.lemmas.List.Sorted.{IsPermutation-cons, IsPermutation-sym, IsPermutation-trans, IsPermutation-to_front, sum_by-IsPermutation}
use Rattle.std.proofs.lemmas.Bool.Decides.{nat_tests}
use Rattle.std.specs.Prelude.{IsPermutation, if◌then◌else◌, flat_map, count_by, not, ◌==◌, ◌&&◌, Contains}
use Rattle.cad_rings.specs.Cycle.{Ring, Side, is_side, sides_along, sides_of, Corner, corners_along, corners_of, turned, IsSameRing, times_along, times_through}
use Rattle.cad_rings.specs.Surgery.{put_on, without}
use Rattle.cad_rings.proofs.Permuted.{permuted_as}
use Rattle.cad_rings.proofs.SideLemmas.{sides_of-same}
use Rattle.cad_rings.proofs.CornerLemmas.{corners_of-turned}
use Rattle.cad_rings.proofs.Turned.{IsSameRing-append, IsSameRing-turned, IsSameRing-sym, IsSameRing-trans}
use Rattle.cad_rings.proofs.PutOn.{point_or_two, none_first, put_on-same}

-- ---- How often the point is there

same_number : (p : ℕ) → (p == p) ≡ true
same_number p = grind (arith, nat_tests)

none_among : (p x : ℕ) (xs : List ℕ) → times_through p (x ∷ xs) ≡ 0 → ((x == p) ≡ false) × (times_through p xs ≡ 0)
none_among p x xs h = go (x == p) (sum_by-cons (λ (q : ℕ). cond (q == p) 1 0) x xs)
  where
    go : (v : Bool) → times_through p (x ∷ xs) ≡ cond v 1 0 + times_through p xs → (v ≡ false) × (times_through p xs ≡ 0)
    go true e = absurd (omega arith)
    go false e = (refl, omega arith)

-- of a point once passed, the ring from there on passes it no more
once_here : (p : ℕ) (xs : List ℕ) → times_through p (p ∷ xs) ≡ 1 → times_through p xs ≡ 0
once_here p xs h = let e = sum_by-cons (λ (q : ℕ). cond (q == p) 1 0) p xs in let here : cond {A = ℕ} (p == p) 1 0 ≡ 1 = λ i. cond (same_number p i) 1 0 in omega arith

times-pieces : (p : ℕ) (front back : List ℕ) → times_through p (back ++ front) ≡ times_through p (front ++ back)
times-pieces p front back = let f : ℕ → ℕ = λ q. cond (q == p) 1 0 in let e = sum_by-append f back front in let e' = sum_by-append f front back in omega arith

pub times_through-same : (p : ℕ) (r s : Ring) → IsSameRing r s → times_through p s ≡ times_through p r
times_through-same p r s h =
    ap (times_through p) h.is ∙ times-pieces p (take h.place r) (drop h.place r) ∙ ap (times_through p) (take-append-drop h.place r)

-- ---- Dropped

pub without-none : (p : ℕ) (ring : Ring) → times_through p ring ≡ 0 → without p ring ≡ ring
without-none p [] h = refl
without-none p (x ∷ xs) h = let n = none_among p x xs h in λ i. cond (not (n.0 i)) (x ∷ without-none p xs n.1 i) (without p xs)

without-here : (p : ℕ) (xs : List ℕ) → times_through p (p ∷ xs) ≡ 1 → without p (p ∷ xs) ≡ xs
without-here p xs h = (λ i. cond (not (same_number p i)) (p ∷ without p xs) (without p xs)) ∙ without-none p xs (once_here p xs h)

pub length-without : (p : ℕ) (ring : Ring) → length (without p ring) + times_through p ring ≡ length ring
length-without p [] = omega arith
length-without p (x ∷ xs) = go (x == p) (length-without p xs) (sum_by-cons (λ (q : ℕ). cond (q == p) 1 0) x xs)
  where
    go : (v : Bool) → length (without p xs) + times_through p xs ≡ length xs → times_through p (x ∷ xs) ≡ cond v 1 0 + times_through p xs
        → length (cond (not v) (x ∷ without p xs) (without p xs)) + times_through p (x ∷ xs) ≡ suc (length xs)
    go true e k = omega arith
    go false e k = omega arith

pub without-same : (p : ℕ) (r s : Ring) → IsSameRing r s → IsSameRing (without p r) (without p s)
without-same p r s h =
    let test : ℕ → Bool = λ q. not (q == p) in
    let front = take h.place r in
    let back = drop h.place r in
    let first : without p front ++ without p back ≡ without p r = sym (filter-append test front back) ∙ ap (without p) (take-append-drop h.place r) in
    let second : without p s ≡ without p back ++ without p front = ap (without p) h.is ∙ filter-append test back front in
    subst (λ (l : List ℕ). IsSameRing l (without p s)) first (subst (λ (l : List ℕ). IsSameRing (without p front ++ without p back) l) (sym second) (IsSameRing-append (without p front) (without p back)))

-- ---- Dropping takes back putting on

one_dropped : (p a : ℕ) (t : Bool) → (a == p) ≡ false → without p (if t then a ∷ p ∷ [] else a ∷ []) ≡ a ∷ []
one_dropped p a true h = (λ i. cond (not (h i)) (a ∷ without p (p ∷ [])) (without p (p ∷ []))) ∙ (λ i. a ∷ cond (not (same_number p i)) (p ∷ []) [])
one_dropped p a false h = λ i. cond (not (h i)) (a ∷ []) []

taken_back : (s : Side) (p a : ℕ) (xs : List ℕ) (z : ℕ) → times_through p (a ∷ xs) ≡ 0 → without p (flat_map (point_or_two s p) (sides_along a xs z)) ≡ a ∷ xs
taken_back s p a [] z h =
    ap (without p) (append-nil (point_or_two s p (a, z))) ∙ one_dropped p a (is_side s (a, z)) (none_among p a [] h).0
taken_back s p a (x ∷ xs) z h =
    let n = none_among p a (x ∷ xs) h in
    filter-append (λ q. not (q == p)) (point_or_two s p (a, x)) (flat_map (point_or_two s p) (sides_along x xs z))
    ∙ (λ i. one_dropped p a (is_side s (a, x)) n.0 i ++ taken_back s p x xs z n.1 i)

pub without-put_on : (s : Side) (p : ℕ) (ring : Ring) → times_through p ring ≡ 0 → without p (put_on s p ring) ≡ ring
without-put_on s p [] h = refl
without-put_on s p (a ∷ points) h = taken_back s p a points a h

-- ---- The sides

-- how the points n, ys end
pub record EndsWith (n : ℕ) (ys : List ℕ) : Type 0 where
  pub last : ℕ
  pub points : List ℕ
  pub is : n ∷ ys ≡ points ++ last ∷ []
  pub sides : List Side
  pub sides_to : (z : ℕ) → sides_along n ys z ≡ sides ++ (last, z) ∷ []
  pub corners : (u : ℕ) (v v' : ℕ) → (cs : List Corner) × (corners_along u n (ys ++ v ∷ v' ∷ []) ≡ cs ++ record { before = last; at = v; after = v' } ∷ [])

pub ends_with : (n : ℕ) (ys : List ℕ) → EndsWith n ys
ends_with n [] = record { last = n; points = []; is = refl; sides = []; sides_to = λ z. refl; corners = λ u v v'. (record { before = u; at = n; after = v } ∷ [], refl) }
ends_with n (y ∷ ys) =
    let h = ends_with y ys in
    record {
      last = h.last;
      points = n ∷ h.points;
      is = ap (λ (l : List ℕ). n ∷ l) h.is;
      sides = (n, y) ∷ h.sides;
      sides_to = λ z. ap (λ (l : List Side). (n, y) ∷ l) (h.sides_to z);
      corners = λ u v v'. let k = h.corners n v v' in (record { before = u; at = n; after = y } ∷ k.0, ap (λ (l : List Corner). record { before = u; at = n; after = y } ∷ l) k.1);
    }

last_same : (xs ys : List Corner) (a b : Corner) → xs ++ a ∷ [] ≡ ys ++ b ∷ [] → a ≡ b
last_same xs ys a b h =
    let e : a ∷ reverse xs ≡ b ∷ reverse ys = sym (reverse-append xs (a ∷ [])) ∙ ap reverse h ∙ reverse-append ys (b ∷ []) in cc

-- the ring from a corner's point on
pub record FromCorner (ring : Ring) (c : Corner) : Type 0 where
  pub rest : List ℕ
  pub points : List ℕ
  pub is : c.after ∷ rest ≡ points ++ c.before ∷ []
  pub sides : List Side
  pub same : IsSameRing ring (c.at ∷ c.after ∷ rest)
  pub sides_to : (z : ℕ) → sides_along c.after rest z ≡ sides ++ (c.before, z) ∷ []

from_last : (ring : Ring) (c : Corner) (r : Ring) (cs : List Corner) → IsSameRing ring r → corners_of r ≡ cs ++ c ∷ [] → FromCorner ring c
from_last ring c [] [] h e = cc
from_last ring c [] (d ∷ cs) h e = cc
from_last ring c (v ∷ []) [] h e = cc
from_last ring c (v ∷ []) (d ∷ cs) h e = cc
from_last ring c (v ∷ n ∷ ys) cs h e =
    let w = ends_with n ys in
    let k = w.corners v v n in
    let it : record { before = w.last; at = v; after = n } ≡ c = last_same k.0 cs (record { before = w.last; at = v; after = n }) c (sym k.1 ∙ e) in
    subst (FromCorner ring) it (record { rest = ys; points = w.points; is = w.is; sides = w.sides; same = h; sides_to = w.sides_to })

pub from_corner : (ring : Ring) (c : Corner) → Contains (corners_of ring) c → FromCorner ring c
from_corner ring c (k, within, is) =
    let C = corners_of ring in
    let e : corners_of (turned (suc k) ring) ≡ (drop (suc k) C ++ take k C) ++ c ∷ [] =
    corners_of-turned (suc k) ring ∙ ap (λ (l : List Corner). drop (suc k) C ++ l) (take-suc C k c within ∙ ap (λ (d : Corner). take k C ++ d ∷ []) is) ∙ sym (append_assoc (drop (suc k) C) (take k C) (c ∷ [])) in
    from_last ring c (turned (suc k) ring) (drop (suc k) C ++ take k C) (IsSameRing-turned (suc k) ring) e

-- the last side of each list goes in front of the other
ends_exchanged : (x y m : Side) (sides : List Side) → IsPermutation (x ∷ m ∷ (sides ++ y ∷ [])) (y ∷ m ∷ (sides ++ x ∷ []))
ends_exchanged x y m sides =
    IsPermutation-trans (x ∷ m ∷ (sides ++ y ∷ [])) (y ∷ x ∷ m ∷ sides) (y ∷ m ∷ (sides ++ x ∷ []))
    (IsPermutation-to_front (x ∷ m ∷ sides) y)
    (IsPermutation-cons y (x ∷ m ∷ sides) (m ∷ (sides ++ x ∷ [])) (IsPermutation-sym (m ∷ (sides ++ x ∷ [])) (x ∷ m ∷ sides) (IsPermutation-to_front (m ∷ sides) x)))

-- without the corner's point the ring is the rest of it
pub without-rest : (ring : Ring) (c : Corner) (h : FromCorner ring c) → times_through c.at ring ≡ 1 → IsSameRing (c.after ∷ h.rest) (without c.at ring)
without-rest ring c h once =
    let T = c.at ∷ c.after ∷ h.rest in
    let once_T : times_through c.at T ≡ 1 = times_through-same c.at ring T h.same ∙ once in
    subst (λ (l : List ℕ). IsSameRing l (without c.at ring)) (without-here c.at (c.after ∷ h.rest) once_T) (without-same c.at T ring (IsSameRing-sym ring T h.same))

-- at a corner whose point the ring passes once the two sides give way to one
pub sides_of-without : (ring : Ring) (c : Corner) → Contains (corners_of ring) c → times_through c.at ring ≡ 1
    → IsPermutation ((c.before, c.after) ∷ sides_of ring) ((c.before, c.at) ∷ (c.at, c.after) ∷ sides_of (without c.at ring))
sides_of-without ring c there once =
    let h = from_corner ring c there in
    let T = c.at ∷ c.after ∷ h.rest in
    let rest = c.after ∷ h.rest in
    let same : IsSameRing rest (without c.at ring) = without-rest ring c h once in
    let x : Side = (c.before, c.after) in
    let y : Side = (c.before, c.at) in
    let m : Side = (c.at, c.after) in
    IsPermutation-trans (x ∷ sides_of ring) (x ∷ sides_of T) (y ∷ m ∷ sides_of (without c.at ring))
    (IsPermutation-cons x (sides_of ring) (sides_of T) (sides_of-same ring T h.same))
    (IsPermutation-trans (x ∷ sides_of T) (y ∷ m ∷ sides_of rest) (y ∷ m ∷ sides_of (without c.at ring))
    (permuted_as (x ∷ sides_of T) (x ∷ m ∷ (h.sides ++ y ∷ [])) (y ∷ m ∷ sides_of rest) (y ∷ m ∷ (h.sides ++ x ∷ []))
    (ap (λ (l : List Side). x ∷ m ∷ l) (h.sides_to c.at)) (ap (λ (l : List Side). y ∷ m ∷ l) (h.sides_to c.after)) (ends_exchanged x y m h.sides))
    (IsPermutation-cons y (m ∷ sides_of rest) (m ∷ sides_of (without c.at ring)) (IsPermutation-cons m (sides_of rest) (sides_of (without c.at ring)) (sides_of-same rest (without c.at ring) same))))

-- ---- Putting on takes back dropping

-- the points at which sides begin
starts : (a : ℕ) (xs : List ℕ) (z : ℕ) → flat_map (λ t. t.0 ∷ []) (sides_along a xs z) ≡ a ∷ xs
starts a [] z = refl
starts a (x ∷ xs) z = ap (λ (l : List ℕ). a ∷ l) (starts x xs z)

nothing_put : (s : Side) (p : ℕ) (sides : List Side) → count_by (is_side s) sides ≡ 0 → flat_map (point_or_two s p) sides ≡ flat_map (λ t. t.0 ∷ []) sides
nothing_put s p [] h = refl
nothing_put s p (t ∷ sides) h = let n = none_first s t sides h in λ i. (if n.0 i then t.0 ∷ p ∷ [] else t.0 ∷ []) ++ nothing_put s p sides n.1 i

is_itself : (s : Side) → is_side s s ≡ true
is_itself s = λ i. same_number s.0 i && same_number s.1 i

put_last : (s : Side) (p : ℕ) (sides : List Side) → count_by (is_side s) (sides ++ s ∷ []) ≡ 1
    → flat_map (point_or_two s p) (sides ++ s ∷ []) ≡ flat_map (λ t. t.0 ∷ []) (sides ++ s ∷ []) ++ p ∷ []
put_last s p sides h =
    let G = point_or_two s p in
    let H : Side → List ℕ = λ t. t.0 ∷ [] in
    let count : Side → ℕ = λ t. cond (is_side s t) 1 0 in
    let here : cond {A = ℕ} (is_side s s) 1 0 ≡ 1 = λ i. cond {A = ℕ} (is_itself s i) 1 0 in
    let e = sum_by-append count sides (s ∷ []) in
    let none : count_by (is_side s) sides ≡ 0 = omega arith in
    flat_map-append G sides (s ∷ []) ∙ (λ i. nothing_put s p sides none i ++ ((if is_itself s i then s.0 ∷ p ∷ [] else s.0 ∷ []) ++ []))
    ∙ sym (append_assoc (flat_map H sides) (s.0 ∷ []) (p ∷ [])) ∙ ap (λ (l : List ℕ). l ++ p ∷ []) (sym (flat_map-append H sides (s ∷ [])))

-- the point put on the last side
pub put_at_end : (s : Side) (p n : ℕ) (ys : List ℕ) (sides : List Side) → sides_of (n ∷ ys) ≡ sides ++ s ∷ [] → times_along s (n ∷ ys) ≡ 1 → put_on s p (n ∷ ys) ≡ n ∷ ys ++ p ∷ []
put_at_end s p n ys sides e once =
    ap (flat_map (point_or_two s p)) e ∙ put_last s p sides (ap (count_by (is_side s)) (sym e) ∙ once)
    ∙ ap (λ (l : List Side). flat_map (λ t. t.0 ∷ []) l ++ p ∷ []) (sym e) ∙ ap (λ (l : List ℕ). l ++ p ∷ []) (starts n ys n)

-- the point put on the one side again, where the ring has no other such side
pub put_on-without : (ring : Ring) (c : Corner) → Contains (corners_of ring) c → times_through c.at ring ≡ 1 → times_along (c.before, c.after) (without c.at ring) ≡ 1
    → IsSameRing ring (put_on (c.before, c.after) c.at (without c.at ring))
put_on-without ring c there once one_side =
    let h = from_corner ring c there in
    let s : Side = (c.before, c.after) in
    let T = c.at ∷ c.after ∷ h.rest in
    let rest = c.after ∷ h.rest in
    let same : IsSameRing rest (without c.at ring) = without-rest ring c h once in
    let count_e : times_along s (without c.at ring) ≡ times_along s rest =
    sum_by-IsPermutation (λ (t : Side). cond (is_side s t) 1 0) (sides_of rest) (sides_of (without c.at ring)) (sides_of-same rest (without c.at ring) same) in
    let put_e : put_on s c.at rest ≡ rest ++ c.at ∷ [] = put_at_end s c.at c.after h.rest h.sides (h.sides_to c.after) (sym count_e ∙ one_side) in
    IsSameRing-trans ring T (put_on s c.at (without c.at ring)) h.same
    (IsSameRing-trans T (rest ++ c.at ∷ []) (put_on s c.at (without c.at ring)) (IsSameRing-append (c.at ∷ []) rest)
    (subst (λ (l : List ℕ). IsSameRing l (put_on s c.at (without c.at ring))) put_e (put_on-same s c.at rest (without c.at ring) same)))

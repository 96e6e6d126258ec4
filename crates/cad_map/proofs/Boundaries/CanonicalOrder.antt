-- The list of a map's boundaries is one, in whatever order and rotation they are kept.
use Rattle.std.proofs.Common.{◌≡◌, ℕ, suc, ◌+◌, ◌≤◌, ◌<◌, refl, sym, ◌∙◌, ap, subst, true≢false, List, [], ◌∷◌, Bool, true, false, not, ◌&&◌, map, length, arith, nat_eq}
use Rattle.std.proofs.lemmas.Bool.Decides.{nat_tests}
use Rattle.std.specs.Prelude.{IsPermutation, sum_by, if◌then◌else◌, get_or}
use Rattle.std.specs.List.{AllByRecursion}
use Rattle.std.specs.List.Sorted.{IsSortedBy}
use Rattle.std.specs.Cmp.{IsStrictWeakOrder}
use Rattle.std.proofs.lemmas.List.Sums.{sum_by-cons}
use Rattle.std.proofs.lemmas.List.MinMax.{IsStrictWeakOrder-from_at_least}
use Rattle.std.proofs.lemmas.List.Sorted.{IsPermutation-refl, IsPermutation-cons, IsPermutation-sym, IsPermutation-trans, sum_by-IsPermutation, sorted_far}
use Rattle.cad_rows.specs.declared.names.Face.{Face}
use Rattle.cad_rows.specs.declared.names.Face.TheVariants.{Outside, Parcel}
use Rattle.cad_rings.proofs.CallerLemmas.{comes_first-total, comes_first-antisym, comes_first-trans, least_rotation-least_rotation}
use Rattle.cad_map.specs.declared.boundary.Boundary.{Boundary}
use Rattle.cad_map.specs.Boundaries.{is_face, bounding, canonical_form, face_place, boundary_comes_first, put_in_canonical_order, canonical_order}

-- ---- The order of boundaries

same_face : (f g : Face) → face_place f ≡ face_place g → f ≡ g
same_face Outside Outside h = refl
same_face Outside (Parcel n) h = cc
same_face (Parcel m) Outside h = cc
same_face (Parcel m) (Parcel n) h = let e : m ≡ n = cc in ap Parcel e

-- by the face and the ring
abbrev key : Boundary → List ℕ
key a = face_place a.face ∷ a.ring

same_boundary : (a b : Boundary) → boundary_comes_first a b ≡ true → boundary_comes_first b a ≡ true → a ≡ b
same_boundary a b h k =
    let e : key a ≡ key b = comes_first-antisym (key a) (key b) h k in
    let ef : face_place a.face ≡ face_place b.face = cc in
    let er : a.ring ≡ b.ring = cc in
    let eg = same_face a.face b.face ef in
    λ i. record { face = eg i; ring = er i }

pub boundary_comes_first-total : (a b : Boundary) → boundary_comes_first a b ≡ false → boundary_comes_first b a ≡ true
boundary_comes_first-total a b h = comes_first-total (key a) (key b) h

pub boundary_comes_first-trans : (a b c : Boundary) → boundary_comes_first a b ≡ true → boundary_comes_first b c ≡ true → boundary_comes_first a c ≡ true
boundary_comes_first-trans a b c h k = comes_first-trans (key a) (key b) (key c) h k

-- a face is known by its place
pub is_face-place : (f g : Face) → is_face f g ≡ nat_eq (face_place f) (face_place g)
is_face-place Outside Outside = refl
is_face-place Outside (Parcel n) = sym (grind (arith, nat_tests))
is_face-place (Parcel m) Outside = sym (grind (arith, nat_tests))
is_face-place (Parcel m) (Parcel n) = grind (arith, nat_tests)

-- ---- Boundaries in canonical order rise

-- each comes before all later ones
abbrev pub InOrder : List Boundary → Type 0
InOrder [] = Unit {0}
InOrder (b ∷ bs) = AllByRecursion (λ c. boundary_comes_first b c ≡ true) bs × InOrder bs

All-put : (P : Boundary → Type 0) (a : Boundary) (bs : List Boundary) → P a → AllByRecursion P bs → AllByRecursion P (put_in_canonical_order a bs)
All-put P a [] h all = (h, tt)
All-put P a (b ∷ bs) h all = by (boundary_comes_first a b) (All-put P a bs h all.1)
  where
    by : (t : Bool) → AllByRecursion P (put_in_canonical_order a bs) → AllByRecursion P (if t then a ∷ b ∷ bs else b ∷ put_in_canonical_order a bs)
    by true rest = (h, all)
    by false rest = (all.0, rest)

before_all : (a b : Boundary) (bs : List Boundary) → boundary_comes_first a b ≡ true → AllByRecursion (λ c. boundary_comes_first b c ≡ true) bs → AllByRecursion (λ c. boundary_comes_first a c ≡ true) bs
before_all a b [] h all = tt
before_all a b (c ∷ bs) h all = (boundary_comes_first-trans a b c h all.0, before_all a b bs h all.1)

InOrder-put : (a : Boundary) (bs : List Boundary) → InOrder bs → InOrder (put_in_canonical_order a bs)
InOrder-put a [] o = (tt, tt)
InOrder-put a (b ∷ bs) o = by (boundary_comes_first a b) refl (InOrder-put a bs o.1)
  where
    by : (t : Bool) → boundary_comes_first a b ≡ t → InOrder (put_in_canonical_order a bs) → InOrder (if t then a ∷ b ∷ bs else b ∷ put_in_canonical_order a bs)
    by true is rest = ((is, before_all a b bs is o.0), o)
    by false is rest = (All-put (λ c. boundary_comes_first b c ≡ true) a bs (boundary_comes_first-total a b is) o.0, rest)

pub InOrder-canonical_order : (bs : List Boundary) → InOrder (canonical_order bs)
InOrder-canonical_order [] = tt
InOrder-canonical_order (b ∷ bs) = InOrder-put (canonical_form b) (canonical_order bs) (InOrder-canonical_order bs)

-- ---- They are the canonical forms, in another order

pub IsPermutation-put : (a : Boundary) (bs : List Boundary) → IsPermutation (a ∷ bs) (put_in_canonical_order a bs)
IsPermutation-put a [] = IsPermutation-refl (a ∷ [])
IsPermutation-put a (b ∷ bs) = by (boundary_comes_first a b) (IsPermutation-put a bs)
  where
    by : (t : Bool) → IsPermutation (a ∷ bs) (put_in_canonical_order a bs) → IsPermutation (a ∷ b ∷ bs) (if t then a ∷ b ∷ bs else b ∷ put_in_canonical_order a bs)
    by true rest = IsPermutation-refl (a ∷ b ∷ bs)
    by false rest =
        IsPermutation-trans (a ∷ b ∷ bs) (b ∷ a ∷ bs) (b ∷ put_in_canonical_order a bs)
        (record { moves = (0, 1) ∷ []; below = omega arith; is = refl })
        (IsPermutation-cons b (a ∷ bs) (put_in_canonical_order a bs) rest)

pub IsPermutation-canonical_order : (bs : List Boundary) → IsPermutation (map canonical_form bs) (canonical_order bs)
IsPermutation-canonical_order [] = IsPermutation-refl []
IsPermutation-canonical_order (b ∷ bs) =
    IsPermutation-trans (canonical_form b ∷ map canonical_form bs) (canonical_form b ∷ canonical_order bs) (canonical_order (b ∷ bs))
    (IsPermutation-cons (canonical_form b) (map canonical_form bs) (canonical_order bs) (IsPermutation-canonical_order bs))
    (IsPermutation-put (canonical_form b) (canonical_order bs))

-- ---- There is one list in order

-- whether it is this boundary, as a number
abbrev one_of : Boundary → Boundary → ℕ
one_of k b = if boundary_comes_first k b && boundary_comes_first b k then 1 else 0

-- how many times the boundary stands in the list
abbrev times : Boundary → List Boundary → ℕ
times k bs = sum_by (one_of k) bs

itself_first : (k : Boundary) → boundary_comes_first k k ≡ true
itself_first k = by (boundary_comes_first k k) refl
  where
    by : (t : Bool) → boundary_comes_first k k ≡ t → boundary_comes_first k k ≡ true
    by true is = is
    by false is = boundary_comes_first-total k k is

itself : (k : Boundary) → one_of k k ≡ 1
itself k = let is = itself_first k in simp is

-- one that doesn't come after b isn't among those that come after b
never : (k b : Boundary) (bs : List Boundary) → boundary_comes_first b k ≡ false → AllByRecursion (λ c. boundary_comes_first b c ≡ true) bs → times k bs ≡ 0
never k b [] h all = refl
never k b (c ∷ bs) h all = sum_by-cons (one_of k) c bs ∙ (λ i. not_this (boundary_comes_first k c) (boundary_comes_first c k) refl refl i + never k b bs h all.1 i)
  where
    not_this : (t u : Bool) → boundary_comes_first k c ≡ t → boundary_comes_first c k ≡ u → one_of k c ≡ 0
    not_this true true et eu = absurd (true≢false (sym (boundary_comes_first-trans b c k all.0 eu) ∙ h))
    not_this true false et eu = simp (et, eu)
    not_this false u et eu = simp et

-- a list that begins with a boundary has it more often than one that lacks it
lacks : (z : Boundary) (zs others : List Boundary) → times z (z ∷ zs) ≡ times z others → times z others ≡ 0 → ⊥
lacks z zs others same none = let m = sum_by-cons (one_of z) z zs in let i = itself z in omega (arith, same, none, m, i)

in_order-one : (xs ys : List Boundary) → InOrder xs → InOrder ys → ((k : Boundary) → times k xs ≡ times k ys) → xs ≡ ys
in_order-one [] [] ox oy same = refl
in_order-one [] (y ∷ ys) ox oy same = let e = same y in let n = sum_by-cons (one_of y) y ys in let i = itself y in absurd (omega (arith, e, n, i))
in_order-one (x ∷ xs) [] ox oy same = let e = same x in let n = sum_by-cons (one_of x) x xs in let i = itself x in absurd (omega (arith, e, n, i))
in_order-one (x ∷ xs) (y ∷ ys) ox oy same = by (λ tails. in_order-one xs ys ox.1 oy.1 tails) (boundary_comes_first x y) (boundary_comes_first y x) refl refl
  where
    by : (((k : Boundary) → times k xs ≡ times k ys) → xs ≡ ys) → (t u : Bool) → boundary_comes_first x y ≡ t → boundary_comes_first y x ≡ u → x ∷ xs ≡ y ∷ ys
    by again true true et eu =
        let e = same_boundary x y et eu in
        let rest = again (λ k. let s = same k in let a = sum_by-cons (one_of k) x xs in let b = sum_by-cons (one_of k) y ys in let c = ap (one_of k) e in omega (arith, s, a, b, c)) in
        λ i. e i ∷ rest i
    by again false u et eu = absurd (lacks y ys (x ∷ xs) (sym (same y)) (never y x (x ∷ xs) et (itself_first x, ox.0)))
    by again true false et eu = absurd (lacks x xs (y ∷ ys) (same x) (never x y (y ∷ ys) eu (itself_first y, oy.0)))

-- boundaries in order, which are the canonical forms of these, are these in canonical order
pub canonical_order-is : (bs ys : List Boundary) → IsPermutation (map canonical_form bs) ys → InOrder ys → ys ≡ canonical_order bs
canonical_order-is bs ys p o =
    in_order-one ys (canonical_order bs) o (InOrder-canonical_order bs)
    (λ k. sum_by-IsPermutation (one_of k) (map canonical_form bs) ys p ∙ sym (sum_by-IsPermutation (one_of k) (map canonical_form bs) (canonical_order bs) (IsPermutation-canonical_order bs)))

-- ---- What follows

-- boundaries in another order have the same canonical order
pub canonical_order-permuted : (bs cs : List Boundary) → IsPermutation (map canonical_form bs) (map canonical_form cs) → canonical_order bs ≡ canonical_order cs
canonical_order-permuted bs cs p = canonical_order-is cs (canonical_order bs) (IsPermutation-trans (map canonical_form cs) (map canonical_form bs) (canonical_order bs) (IsPermutation-sym (map canonical_form bs) (map canonical_form cs) p) (IsPermutation-canonical_order bs)) (InOrder-canonical_order bs)

-- ---- A sort gives it

in_order-from : (xs : List Boundary) → ((i j : ℕ) (d : Boundary) → i ≤ j → j < length xs → boundary_comes_first (get_or xs i d) (get_or xs j d) ≡ true) → InOrder xs
in_order-from [] h = tt
in_order-from (x ∷ xs) h = (later xs (λ j d lt. h 0 (suc j) d (omega arith) (omega (arith, lt))), in_order-from xs (λ i j d le lt. h (suc i) (suc j) d (omega (arith, le)) (omega (arith, lt))))
  where
    later : (ys : List Boundary) → ((j : ℕ) (d : Boundary) → j < length ys → boundary_comes_first x (get_or ys j d) ≡ true) → AllByRecursion (λ c. boundary_comes_first x c ≡ true) ys
    later [] g = tt
    later (y ∷ ys) g = (g 0 y (omega arith), later ys (λ j d lt. g (suc j) d (omega (arith, lt))))

-- whether a stands before b wherever both stand
abbrev pub is_less : Boundary → Boundary → Bool
is_less a b = not (boundary_comes_first b a)

pub IsStrictWeakOrder-is_less : IsStrictWeakOrder is_less
IsStrictWeakOrder-is_less = IsStrictWeakOrder-from_at_least boundary_comes_first boundary_comes_first-total boundary_comes_first-trans

not-not : (b : Bool) → not b ≡ false → b ≡ true
not-not true h = refl
not-not false h = cc

pub canonical_order-from_sort : (bs ys : List Boundary) → IsPermutation (map canonical_form bs) ys → IsSortedBy is_less ys → ys ≡ canonical_order bs
canonical_order-from_sort bs ys p up = canonical_order-is bs ys p (in_order-from ys (λ i j d le lt. not-not _ (sorted_far is_less IsStrictWeakOrder-is_less ys up i j d le lt)))

-- ---- Once in canonical order, and so for good

canonical_form-put : (a : Boundary) (bs : List Boundary) → canonical_form a ≡ a → AllByRecursion (λ b. canonical_form b ≡ b) bs → AllByRecursion (λ b. canonical_form b ≡ b) (put_in_canonical_order a bs)
canonical_form-put a bs h all = All-put (λ b. canonical_form b ≡ b) a bs h all

pub each_canonical : (bs : List Boundary) → AllByRecursion (λ b. canonical_form b ≡ b) (canonical_order bs)
each_canonical [] = tt
each_canonical (b ∷ bs) = canonical_form-put (canonical_form b) (canonical_order bs) (ap (bounding b.face) (least_rotation-least_rotation b.ring)) (each_canonical bs)

pub map-canonical_form : (bs : List Boundary) → AllByRecursion (λ b. canonical_form b ≡ b) bs → map canonical_form bs ≡ bs
map-canonical_form [] all = refl
map-canonical_form (b ∷ bs) all = λ i. all.0 i ∷ map-canonical_form bs all.1 i

pub canonical_order-canonical_order : (bs : List Boundary) → canonical_order (canonical_order bs) ≡ canonical_order bs
canonical_order-canonical_order bs =
    sym (canonical_order-is (canonical_order bs) (canonical_order bs) (subst (λ (l : List Boundary). IsPermutation l (canonical_order bs)) (sym (map-canonical_form (canonical_order bs) (each_canonical bs))) (IsPermutation-refl (canonical_order bs))) (InOrder-canonical_order bs))

-- Rings that are cut while they are walked along.
use Rattle.std.proofs.Common.{◌≡◌, ◌≢◌, ◌∙◌, refl, sym, ap, subst, ℕ, zero, suc, ◌+◌, ◌-◌, ◌<◌, ◌≤◌, ◌==◌, Bool, true, false, List, [], ◌∷◌, ◌++◌, length, length-append, length-drop, append_assoc, append-nil, drop-cons, get_or, take, drop, map, filter, Some, None, arith, if◌then◌else◌}
use Rattle.std.specs.Prelude.{IsPermutation, flat_map, position}
use Rattle.std.specs.List.{AllByRecursion, Contains, position_or_len}
use Rattle.std.proofs.lemmas.Bool.{eqb-true, eqb-false, ne_eqb}
use Rattle.std.proofs.lemmas.Bool.Decides.{nat_tests}
use Rattle.std.proofs.lemmas.List.{take_more, take_all, take-append-drop, length-map, get_or-map}
use Rattle.std.proofs.lemmas.List.Sums.{fails_before_first}
use Rattle.std.proofs.lemmas.List.Quantifiers.{position-Some}
use Rattle.std.proofs.lemmas.Grind.{flat_map-append}
use Rattle.std.proofs.lemmas.List.Sorted.{IsPermutation-refl, IsPermutation-trans, IsPermutation-append_left, IsPermutation-append_right, IsPermutation-append_comm, length_permutation}
use Rattle.geo_exact.specs.Measure.{Measure, sum_over}
use Rattle.cad_rows.specs.declared.names.Face.{Face}
use Rattle.cad_rows.specs.declared.rows.StringRow.{StringRow}
use Rattle.cad_rings.specs.Cycle.{Ring, Side, opposite, sides_along, sides_of, placed}
use Rattle.cad_rings.proofs.CallerLemmas.{permuted_as, shuffled, sides_along-append, length-sides_of, sum-permuted}
use Rattle.cad_map.specs.declared.boundary.Boundary.{Boundary}
use Rattle.cad_map.specs.Boundaries.{is_face, sides_in}
use Rattle.cad_map.specs.Map.{Map, all_sides, position_of, rings_at, rings_of, side_of, string_sides, sum_of_face}
use Rattle.cad_map.specs.Valid.{IsValid}
use Rattle.cad_map.proofs.Boundaries.FaceSums.{up_to-few}
use Rattle.cad_map.proofs.CallerLemmas.{list_any-none, All-at_each, All-push, All-append, All-follows, All-permuted, EachPair-append, EachPair-join, whole_valid}
use Rattle.indexmap.specs.IndexSet.{insert_key}
use Rattle.cad_views.specs.Cut.{IsSimple, AreCutFrom, HasTwoEndsEach}
use Rattle.cad_views.specs.Walked.{sides_to, first_of, IsWalked, HaveTwoEnds}

-- points through p: to p, and from p on
pub sides_to-append : (xs : List ℕ) (p : ℕ) (ys : List ℕ) (z : ℕ) → sides_to (xs ++ p ∷ ys) z ≡ sides_to xs p ++ sides_along p ys z
sides_to-append [] p ys z = refl
sides_to-append (a ∷ xs) p ys z = sides_along-append a xs p ys z

pub walked-none : IsWalked [] [] []
walked-none = record { sides = λ z. IsPermutation-refl []; first = refl; distinct = tt; simple = tt }

first-push : (xs ys : List ℕ) (p : ℕ) → first_of xs ≡ first_of ys → first_of (xs ++ p ∷ []) ≡ first_of (ys ++ p ∷ [])
first-push [] [] p same = refl
first-push [] (b ∷ ys) p same = cc
first-push (a ∷ xs) [] p same = cc
first-push (a ∷ xs) (b ∷ ys) p same = same

first-cut : (xs : List ℕ) (p : ℕ) (ys zs : List ℕ) → first_of (xs ++ p ∷ ys) ≡ first_of (xs ++ p ∷ zs)
first-cut [] p ys zs = refl
first-cut (a ∷ xs) p ys zs = refl

first-nil : (done : List ℕ) (front : List ℕ) (p : ℕ) (rest : List ℕ) → first_of (front ++ p ∷ rest) ≡ first_of done → first_of done ≡ first_of (done ++ p ∷ [])
first-nil [] [] p rest same = cc
first-nil [] (a ∷ front) p rest same = cc
first-nil (b ∷ done) front p rest same = refl

module _ (done path : List ℕ) (pieces : List Ring) (w : IsWalked done path pieces) (p : ℕ) where
  -- the walk goes on to p
  on-to : (z : ℕ) → IsPermutation (sides_to (done ++ p ∷ []) z) ((sides_to path p ++ flat_map sides_of pieces) ++ (p, z) ∷ [])
  on-to z =
      let all = (sides_to path p ++ flat_map sides_of pieces) ++ (p, z) ∷ [] in
      permuted_as (sides_to (done ++ p ∷ []) z) (sides_to done p ++ (p, z) ∷ []) all all (sides_to-append done p [] z) refl
      (IsPermutation-append_left ((p, z) ∷ []) (sides_to done p) (sides_to path p ++ flat_map sides_of pieces) (w.sides p))

  -- a point that isn't on the path
  pub walked-open : AllByRecursion (λ a. a ≢ p) path → IsWalked (done ++ p ∷ []) (path ++ p ∷ []) pieces
  walked-open new = record {
    sides = λ z.
        let A = sides_to path p in
        let F = flat_map sides_of pieces in
        let end : List Side = (p, z) ∷ [] in
        IsPermutation-trans (sides_to (done ++ p ∷ []) z) ((A ++ F) ++ end) (sides_to (path ++ p ∷ []) z ++ F) (on-to z)
        (permuted_as ((A ++ F) ++ end) (A ++ (F ++ end)) (sides_to (path ++ p ∷ []) z ++ F) (A ++ (end ++ F)) (append_assoc A F end)
        (ap (λ (l : List Side). l ++ F) (sides_to-append path p [] z) ∙ append_assoc A end F)
        (IsPermutation-append_right A (F ++ end) (end ++ F) (IsPermutation-append_comm F end)));
    first = first-push path done p w.first;
    distinct = EachPair-join (λ a b. a ≢ b) path (p ∷ []) w.distinct (tt, tt) (All-follows (λ a. a ≢ p) (λ a. AllByRecursion (λ b. a ≢ b) (p ∷ [])) (λ a h. (h, tt)) path new);
    simple = w.simple;
  }

module _ (done front : List ℕ) (p : ℕ) (rest : List ℕ) (pieces : List Ring) (w : IsWalked done (front ++ p ∷ rest) pieces) where
  -- the part of the path since p is closed by more than one side
  pub closed-two : AllByRecursion (λ (s : Side). s.0 ≢ s.1) (sides_to done p) → 2 ≤ length (p ∷ rest)
  closed-two apart = by rest w
    where
      by : (rest : List ℕ) → IsWalked done (front ++ p ∷ rest) pieces → 2 ≤ length (p ∷ rest)
      by [] v =
          let F = flat_map sides_of pieces in
          let all = All-permuted (λ (s : Side). s.0 ≢ s.1) (sides_to done p) (sides_to (front ++ p ∷ []) p ++ F) (v.sides p) apart in
          let path = (All-append (λ (s : Side). s.0 ≢ s.1) (sides_to (front ++ p ∷ []) p) F all).0 in
          let last = subst (AllByRecursion (λ (s : Side). s.0 ≢ s.1)) (sides_to-append front p [] p) path in
          let loop = (All-append (λ (s : Side). s.0 ≢ s.1) (sides_to front p) ((p, p) ∷ []) last).1 in
          absurd (loop.0 refl)
      by (q ∷ rest) v = omega arith

  -- a point that is on the path: the part since then is a ring
  pub walked-closed : 2 ≤ length (p ∷ rest) → IsWalked (done ++ p ∷ []) (front ++ p ∷ []) (pieces ++ (p ∷ rest) ∷ [])
  walked-closed two =
      let parts = EachPair-append (λ a b. a ≢ b) front (p ∷ rest) w.distinct in
      record {
        sides = λ z.
            let A = sides_to front p in
            let B = sides_along p rest p in
            let F = flat_map sides_of pieces in
            let end : List Side = (p, z) ∷ [] in
            let path : sides_to (front ++ p ∷ rest) p ≡ A ++ B = sides_to-append front p rest p in
            let old : List Side = (sides_to (front ++ p ∷ rest) p ++ F) ++ end in
            let new : List Side = sides_to (front ++ p ∷ []) z ++ flat_map sides_of (pieces ++ (p ∷ rest) ∷ []) in
            let from : old ≡ A ++ (B ++ (F ++ (end ++ []))) = ap (λ (l : List Side). (l ++ F) ++ end) path ∙ simp (append_assoc, append-nil) in
            let to : new ≡ A ++ (end ++ (F ++ (B ++ []))) = (λ i. sides_to-append front p [] z i ++ flat_map-append sides_of pieces ((p ∷ rest) ∷ []) i) ∙ append_assoc A end (F ++ (B ++ [])) in
            IsPermutation-trans (sides_to (done ++ p ∷ []) z) old new (on-to done (front ++ p ∷ rest) pieces w p z)
            (permuted_as old (A ++ (B ++ (F ++ (end ++ [])))) new (A ++ (end ++ (F ++ (B ++ [])))) from to
            (shuffled (A ∷ B ∷ F ∷ end ∷ []) (0 ∷ 1 ∷ 2 ∷ 3 ∷ []) (0 ∷ 3 ∷ 2 ∷ 1 ∷ []) refl));
        first = first-cut front p [] rest ∙ w.first ∙ first-nil done front p rest w.first;
        distinct = EachPair-join (λ a b. a ≢ b) front (p ∷ []) parts.0 (tt, tt) (All-follows (λ a. AllByRecursion (λ b. a ≢ b) (p ∷ rest)) (λ a. AllByRecursion (λ b. a ≢ b) (p ∷ [])) (λ a h. (h.0, tt)) front parts.2);
        simple = All-push IsSimple pieces (p ∷ rest) w.simple (record { distinct = parts.1; two = two });
      }

-- at the end of the ring the path is closed too
pub walked-all : (ring path : List ℕ) (pieces : List Ring) → IsWalked ring path pieces → 2 ≤ length path → AreCutFrom (ring ∷ []) (pieces ++ path ∷ [])
walked-all [] [] pieces w two = absurd (omega arith)
walked-all [] (a ∷ path) pieces w two = let none = w.first in cc
walked-all (b ∷ ring) [] pieces w two = absurd (omega arith)
walked-all (b ∷ ring) (a ∷ path) pieces w two =
    let same : a ≡ b = let first = w.first in cc in
    let F = flat_map sides_of pieces in
    let R = sides_of (b ∷ ring) in
    let P = sides_of (a ∷ path) in
    let walked : IsPermutation R (P ++ F) = subst (λ (z : ℕ). IsPermutation R (sides_along a path z ++ F)) (sym same) (w.sides b) in
    record {
      sides = permuted_as (R ++ []) R (flat_map sides_of (pieces ++ (a ∷ path) ∷ [])) (F ++ P) (append-nil R)
          (flat_map-append sides_of pieces ((a ∷ path) ∷ []) ∙ ap (λ (l : List Side). F ++ l) (append-nil P))
          (IsPermutation-trans R (P ++ F) (F ++ P) walked (IsPermutation-append_comm P F));
      simple = All-push IsSimple pieces (a ∷ path) w.simple (record { distinct = w.distinct; two = two });
    }

-- the pieces of two lists of rings
pub cut-both : (rs ss ps qs : List Ring) → AreCutFrom rs ps → AreCutFrom ss qs → AreCutFrom (rs ++ ss) (ps ++ qs)
cut-both rs ss ps qs a b = record {
  sides =
      let R = flat_map sides_of rs in
      let S = flat_map sides_of ss in
      let P = flat_map sides_of ps in
      let Q = flat_map sides_of qs in
      permuted_as (flat_map sides_of (rs ++ ss)) (R ++ S) (flat_map sides_of (ps ++ qs)) (P ++ Q) (flat_map-append sides_of rs ss) (flat_map-append sides_of ps qs)
      (IsPermutation-trans (R ++ S) (P ++ S) (P ++ Q) (IsPermutation-append_left S R P a.sides) (IsPermutation-append_right P S Q b.sides));
  simple = All-both ps qs a.simple b.simple;
}
  where
    All-both : (xs ys : List Ring) → AllByRecursion IsSimple xs → AllByRecursion IsSimple ys → AllByRecursion IsSimple (xs ++ ys)
    All-both [] ys a b = b
    All-both (x ∷ xs) ys a b = (a.0, All-both xs ys a.1 b)

-- every measure adds up
pub cut-sum : (f : Measure) (m : Map) (face : Face) (pieces : List Ring) → AreCutFrom (rings_of m face) pieces
    → sum_over f (placed (position_of m) (flat_map sides_of pieces)) ≡ sum_of_face f m face
cut-sum f m face pieces cut = sym (sum-permuted f (position_of m) (flat_map sides_of (rings_of m face)) (flat_map sides_of pieces) cut.sides)

-- ---- What a point's place in the path says

by-place : (P : ℕ → Type 0) (xs : List ℕ) → ((k : ℕ) → k < length xs → P (get_or xs k 0)) → AllByRecursion P xs
by-place P [] each = tt
by-place P (x ∷ xs) each = (each 0 (omega arith), by-place P xs (λ k h. each (suc k) (omega arith)))

past-all : (xs : List ℕ) (p : ℕ) → position (λ q. p == q) xs ≡ None → length xs ≤ position_or_len (λ q. p == q) xs
past-all xs p none = grind (arith, nat_tests)

pub none-differs : (xs : List ℕ) (p : ℕ) → position (λ q. p == q) xs ≡ None → AllByRecursion (λ a. a ≢ p) xs
none-differs xs p none =
    let past = past-all xs p none in
    by-place (λ a. a ≢ p) xs (λ k h same. eqb-false p (get_or xs k 0) (fails_before_first (λ q. p == q) xs k 0 (omega arith)) (sym same))

-- a point that isn't on the path goes last
pub inserted-last : (xs : List ℕ) (p : ℕ) → position (λ q. p == q) xs ≡ None → insert_key (λ (a b : ℕ). a == b) xs p ≡ xs ++ p ∷ []
inserted-last xs p none =
    let other : (q : ℕ) → Contains xs q → (p == q) ≡ false = λ q there. ne_eqb p q (λ same. All-at_each (λ a. a ≢ p) xs q (none-differs xs p none) there (sym same)) in
    ap (λ (b : Bool). if b then xs else (xs ++ p ∷ [])) (list_any-none (λ q. p == q) xs other)

pub some-parts : (xs : List ℕ) (p i : ℕ) → position (λ q. p == q) xs ≡ Some i
    → (i < length xs) × (drop i xs ≡ p ∷ drop (suc i) xs) × (xs ≡ take i xs ++ p ∷ drop (suc i) xs) × (take (i + 1) xs ≡ take i xs ++ p ∷ [])
some-parts xs p i some =
    let found = position-Some (λ q. p == q) xs i 0 some in
    let is : get_or xs i 0 ≡ p = sym (eqb-true p (get_or xs i 0) found.1) in
    let within : i < length xs = found.0 in
    let back : drop i xs ≡ p ∷ drop (suc i) xs = drop-cons xs i 0 within ∙ ap (λ (q : ℕ). q ∷ drop (suc i) xs) is in
    (within, back, sym (take-append-drop i xs) ∙ ap (λ (l : List ℕ). take i xs ++ l) back, take_more xs i 0 within ∙ ap (λ (q : ℕ). take i xs ++ q ∷ []) is)

-- ---- A point of the open path that is come to again

module _ (path : List ℕ) (p place : ℕ) (some : position (λ q. p == q) path ≡ Some place) where
  -- the path since then
  pub since-then : (xs : List ℕ) → xs ≡ path → take (length xs - place) (drop place xs) ≡ p ∷ drop (suc place) path
  since-then xs same =
      take_all (length xs - place) (drop place xs) (omega (arith, length-drop place xs)) ∙ ap (drop place) same ∙ (some-parts path p place some).1

  module _ (done : List ℕ) (pieces : List Ring) (w : IsWalked done path pieces) where
    walked : IsWalked done (take place path ++ p ∷ drop (suc place) path) pieces
    walked = subst (λ (l : List ℕ). IsWalked done l pieces) (some-parts path p place some).2 w

    -- is a ring of two points at least
    pub since-two : HaveTwoEnds done p → 2 ≤ length (p ∷ drop (suc place) path)
    since-two apart = closed-two done (take place path) p (drop (suc place) path) pieces walked apart

    -- and a piece, and the path goes on from the point
    pub since-closed : 2 ≤ length (p ∷ drop (suc place) path) → IsWalked (done ++ p ∷ []) (take (place + 1) path) (pieces ++ (p ∷ drop (suc place) path) ∷ [])
    since-closed two =
        rw (some-parts path p place some).3 (walked-closed done (take place path) p (drop (suc place) path) pieces walked two)

-- the sides of a ring up to one of its points
pub front-apart : (ring : List ℕ) (done : List ℕ) (p : ℕ) (later : List ℕ) → ring ≡ done ++ p ∷ later → HasTwoEndsEach ring → HaveTwoEnds done p
front-apart ring [] p later is apart = tt
front-apart ring (a ∷ done) p later is apart =
    let all = subst (λ (r : List ℕ). HasTwoEndsEach r) is apart in
    let parts = subst (AllByRecursion (λ (s : Side). s.0 ≢ s.1)) (sides_along-append a done p later a) all in
    (All-append (λ (s : Side). s.0 ≢ s.1) (sides_along a done p) (sides_along p later a) parts).0

-- a path that closes a ring has two points
pub last-two : (ring path : List ℕ) (pieces : List Ring) → IsWalked ring path pieces → 2 ≤ length ring → HasTwoEndsEach ring → 2 ≤ length path
last-two [] path pieces w two apart = absurd (omega arith)
last-two (b ∷ ring) [] pieces w two apart = let none = w.first in cc
last-two (b ∷ ring) (a ∷ []) pieces w two apart =
    let same : a ≡ b = let first = w.first in cc in
    let walked = All-permuted (λ (s : Side). s.0 ≢ s.1) (sides_along b ring b) ((a, b) ∷ flat_map sides_of pieces) (w.sides b) apart in
    absurd (walked.0 same)
last-two (b ∷ ring) (a ∷ c ∷ path) pieces w two apart = omega arith

-- ---- The rings of valid maps

pub ends-of-sides : (m : Map) → IsValid m → AllByRecursion (λ (s : Side). s.0 ≢ s.1) (all_sides m)
ends-of-sides m valid =
    All-permuted (λ (s : Side). s.0 ≢ s.1) (string_sides m) (all_sides m) valid.sound.v5.once (both m.strings valid.sound.v2)
  where
    both : (ss : List StringRow) → AllByRecursion (λ s. s.from ≢ s.to) ss → AllByRecursion (λ (s : Side). s.0 ≢ s.1) (flat_map (λ s. side_of s ∷ opposite (side_of s) ∷ []) ss)
    both [] all = tt
    both (s ∷ ss) all = (all.0, ((λ e. all.0 (sym e)), both ss all.1))

pub rings-apart : (m : Map) → IsValid m → (f : Face) → AllByRecursion HasTwoEndsEach (rings_of m f)
rings-apart m valid f = by m.boundaries (ends-of-sides m valid)
  where
    one : (t : Bool) (b : Boundary) (rest : List Ring) → HasTwoEndsEach b.ring → AllByRecursion HasTwoEndsEach rest → (rs : List Ring) → rs ≡ (if t then b.ring ∷ rest else rest) → AllByRecursion HasTwoEndsEach rs
    one true b rest here later rs is = subst (AllByRecursion HasTwoEndsEach) (sym is) (here, later)
    one false b rest here later rs is = subst (AllByRecursion HasTwoEndsEach) (sym is) later

    parted : (t : Bool) (b : Boundary) (bs : List Boundary) → map (λ (c : Boundary). c.ring) (if t then b ∷ bs else bs) ≡ (if t then b.ring ∷ map (λ (c : Boundary). c.ring) bs else map (λ (c : Boundary). c.ring) bs)
    parted true b bs = refl
    parted false b bs = refl

    by : (bs : List Boundary) → AllByRecursion (λ (s : Side). s.0 ≢ s.1) (sides_in bs) → AllByRecursion HasTwoEndsEach (rings_at f bs)
    by [] all = tt
    by (b ∷ bs) all =
        let parts = All-append (λ (s : Side). s.0 ≢ s.1) (sides_of b.ring) (sides_in bs) all in
        one (is_face f b.face) b (rings_at f bs) parts.0 (by bs parts.1) (rings_at f (b ∷ bs)) (parted (is_face f b.face) b (filter (λ c. is_face f c.face) bs))

-- ---- How many points the pieces have

pub each-few : (pieces : List Ring) (n : ℕ) → length (flat_map sides_of pieces) ≤ n → AllByRecursion (λ r. length r ≤ n) pieces
each-few [] n few = tt
each-few (r ∷ pieces) n few =
    let e = length-append (sides_of r) (flat_map sides_of pieces) in
    let k = length-sides_of r in
    (omega arith, each-few pieces n (omega arith))

pub pieces-few : (m : Map) → IsValid m → (f : Face) (pieces : List Ring) → IsPermutation (flat_map sides_of (rings_of m f)) (flat_map sides_of pieces) → AllByRecursion (λ r. length r ≤ 400000) pieces
pieces-few m valid f pieces same_sides =
    let whole = whole_valid m valid in
    let all = up_to-few m m.boundaries whole valid.sound.v1.canonical f (length (rings_of m f)) in
    let every = take_all (length (rings_of m f)) (rings_of m f) (omega arith) in
    let count = ap (λ (rs : List Ring). length (flat_map sides_of rs)) every in
    let same = length_permutation (flat_map sides_of (rings_of m f)) (flat_map sides_of pieces) same_sides in
    each-few pieces 400000 (omega arith)

pub rings-few : (m : Map) → IsValid m → (f : Face) → AllByRecursion (λ r. length r ≤ 400000) (rings_of m f)
rings-few m valid f = pieces-few m valid f (rings_of m f) (IsPermutation-refl (flat_map sides_of (rings_of m f)))

pub few-at : (rs : List Ring) (i n : ℕ) (r : Ring) → AllByRecursion (λ r. length r ≤ n) rs → i < length rs → length (get_or rs i r) ≤ n
few-at [] i n r all within = absurd (omega arith)
few-at (s ∷ rs) zero n r all within = all.0
few-at (s ∷ rs) (suc i) n r all within = few-at rs i n r all.1 (omega arith)

-- ---- Rings of boundaries, one after another

pub cut-none : AreCutFrom [] []
cut-none = record { sides = IsPermutation-refl []; simple = tt }

pub rings-more : (bs : List Boundary) (i : ℕ) (b : Boundary) → i < length bs
    → take (i + 1) (map (λ (c : Boundary). c.ring) bs) ≡ take i (map (λ (c : Boundary). c.ring) bs) ++ (get_or bs i b).ring ∷ []
rings-more bs i b within =
    let rings = map (λ (c : Boundary). c.ring) bs in
    let long : i < length rings = simp length-map within in
    take_more rings i b.ring long ∙ ap (λ (r : Ring). take i rings ++ r ∷ []) (get_or-map (λ (c : Boundary). c.ring) bs i b b.ring within)

pub apart-at : (bs : List Boundary) (i : ℕ) (b : Boundary) → i < length bs → AllByRecursion HasTwoEndsEach (map (λ (c : Boundary). c.ring) bs) → HasTwoEndsEach (get_or bs i b).ring
apart-at [] i b within all = absurd (omega arith)
apart-at (c ∷ bs) zero b within all = all.0
apart-at (c ∷ bs) (suc i) b within all = apart-at bs i b (omega arith) all.1

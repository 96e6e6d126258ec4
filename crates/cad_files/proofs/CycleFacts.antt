-- Sides that follow one another make rings: side by side, and ring by ring.
use Rattle.std.proofs.Common.{◌≡◌, ◌≢◌, ℕ, ◌+◌, ◌≤◌, ◌⊎◌, inl, inr, refl, sym, ap, subst, ◌∙◌, List, [], ◌∷◌, ◌++◌, append_assoc, length, map, Bool, true, cond, suc, arith}
use Rattle.std.proofs.lemmas.List.{map-append, append-nil, length-append, length-map}
use Rattle.cad_rings.proofs.CallerLemmas.{length-corners_of}
use Rattle.std.proofs.lemmas.List.Sums.{sum_by-cons}
use Rattle.std.proofs.lemmas.List.Sorted.{IsPermutation-refl, IsPermutation-cons, IsPermutation-trans, IsPermutation-append_right, IsPermutation-pop_more, length_permutation, Contains-permutation, sum_by-IsPermutation}
use Rattle.std.specs.Prelude.{count_by, IsPermutation}
use Rattle.std.specs.List.{AllByRecursion, Contains}
use Rattle.cad_rows.specs.declared.names.Face.{Face}
use Rattle.cad_rings.specs.Cycle.{Side, is_side, Corner, corners_along, corners_of}
use Rattle.cad_map.specs.declared.boundary.Boundary.{Boundary}
use Rattle.cad_map.specs.Valid.{EachPair}
use Rattle.cad_map.proofs.CallerLemmas.{All-push, All-map, All-follows, All-from_Contains, All-permuted, All-Contains, Contains-cases, Contains-first, Contains-later, count-some, count-map, one-only, is_side-refl, once-from_pairs}
use Rattle.cad_files.specs.Cycles.{FollowedSide, side_of_followed, side_behind, HasNext, AreFollowed, followed_of, followed_in}

-- ---- Sides of which no two have the same key

module _ (key : FollowedSide → Side) where
  abbrev pub Once : List FollowedSide → Type 0
  Once sides = (k : Side) → count_by (λ s. is_side k (key s)) sides ≤ 1

  count-cons : (k : Side) (s : FollowedSide) (sides : List FollowedSide) → count_by (λ s. is_side k (key s)) (s ∷ sides) ≡ cond (is_side k (key s)) 1 0 + count_by (λ s. is_side k (key s)) sides
  count-cons k s sides = sum_by-cons (λ (s : FollowedSide). cond (is_side k (key s)) 1 0) s sides

  Once-tail : (s : FollowedSide) (sides : List FollowedSide) → Once (s ∷ sides) → Once sides
  Once-tail s sides once k = let few = once k in let e = count-cons k s sides in omega arith

  Once-but_second : (s t : FollowedSide) (sides : List FollowedSide) → Once (s ∷ t ∷ sides) → Once (s ∷ sides)
  Once-but_second s t sides once k = let few = once k in let e = count-cons k s (t ∷ sides) in let f = count-cons k t sides in let g = count-cons k s sides in omega arith

  pub Once-permuted : (xs ys : List FollowedSide) → IsPermutation xs ys → Once xs → Once ys
  Once-permuted xs ys p once k = let few = once k in let e = sum_by-IsPermutation (λ (s : FollowedSide). cond (is_side k (key s)) 1 0) xs ys p in omega arith

  count-yes : (k : Side) (s : FollowedSide) (sides : List FollowedSide) → is_side k (key s) ≡ true → count_by (λ s. is_side k (key s)) (s ∷ sides) ≡ suc (count_by (λ s. is_side k (key s)) sides)
  count-yes k s sides is = count-cons k s sides ∙ ap (λ (b : Bool). cond b 1 0 + count_by (λ s. is_side k (key s)) sides) is ∙ omega arith

  -- a later side has another key than the first
  Once-other : (s : FollowedSide) (sides : List FollowedSide) → Once (s ∷ sides) → (t : FollowedSide) → Contains sides t → key s ≢ key t
  Once-other s sides once t there same =
      let few = once (key s) in
      let e = count-yes (key s) s sides (is_side-refl (key s)) in
      let more = count-some (λ t. is_side (key s) (key t)) sides t there (ap (is_side (key s)) (sym same) ∙ is_side-refl (key s)) in
      absurd (omega arith)

  pub Once-same : (sides : List FollowedSide) → Once sides → (s t : FollowedSide) → Contains sides s → Contains sides t → key s ≡ key t → s ≡ t
  Once-same sides once s t h k same = one-only (λ u. is_side (key s) (key u)) sides s t (once (key s)) h k (is_side-refl (key s)) (ap (is_side (key s)) (sym same) ∙ is_side-refl (key s))

  pub Once-from_pairs : (sides : List FollowedSide) → EachPair (λ a b. a ≢ b) (map key sides) → Once sides
  Once-from_pairs sides pairs k = let few = once-from_pairs (map key sides) pairs k in let e = count-map key (is_side k) sides in omega arith

  pairs-from_Once : (sides : List FollowedSide) → Once sides → EachPair (λ a b. a ≢ b) (map key sides)
  pairs-from_Once [] once = tt
  pairs-from_Once (s ∷ sides) once = (All-map (λ k. key s ≢ k) key sides (All-from_Contains (λ t. key s ≢ key t) sides (Once-other s sides once)), pairs-from_Once sides (Once-tail s sides once))

-- ---- A ring that isn't closed yet

-- the sides that are left while the ring from the first side has come to the last
pub record IsOpen (first last : FollowedSide) (rest : List FollowedSide) : Type 0 where
  pub once : Once side_of_followed (first ∷ rest)
  pub apart : Once side_behind (last ∷ rest)
  pub next : AllByRecursion (HasNext (first ∷ rest)) (last ∷ rest)
  pub ends : AllByRecursion (λ s. s.from ≢ s.to) (first ∷ rest)

open-begins : (first : FollowedSide) (rest : List FollowedSide) → AreFollowed (first ∷ rest) → IsOpen first first rest
open-begins first rest are = record { once = Once-from_pairs side_of_followed (first ∷ rest) are.once; apart = Once-from_pairs side_behind (first ∷ rest) are.apart; next = are.next; ends = are.ends }

-- a side that another leads to than the last one does keeps what it leads to
module _ (first last x : FollowedSide) (left : List FollowedSide) (opened : IsOpen first last (x ∷ left)) (behind : side_of_followed x ≡ side_behind last) where
  keeps : (s : FollowedSide) → Contains (x ∷ left) s → HasNext (first ∷ x ∷ left) s → HasNext (first ∷ left) s
  keeps s there h = record { next = h.next; among = by (Contains-cases first (x ∷ left) h.next h.among); behind = h.behind; face = h.face }
    where
      later : (x ≡ h.next) ⊎ Contains left h.next → Contains (first ∷ left) h.next
      later (inl is) = absurd (Once-other side_behind last (x ∷ left) opened.apart s there (sym behind ∙ ap side_of_followed is ∙ h.behind))
      later (inr among) = Contains-later first left h.next among

      by : (first ≡ h.next) ⊎ Contains (x ∷ left) h.next → Contains (first ∷ left) h.next
      by (inl is) = subst (λ (t : FollowedSide). Contains (first ∷ left) t) is (Contains-first first left)
      by (inr among) = later (Contains-cases x left h.next among)

  open-front : IsOpen first x left
  open-front = record {
    once = Once-but_second side_of_followed first x left opened.once;
    apart = Once-tail side_behind last (x ∷ left) opened.apart;
    next = All-from_Contains (HasNext (first ∷ left)) (x ∷ left) (λ s there. keeps s there (All-Contains (HasNext (first ∷ x ∷ left)) (x ∷ left) s opened.next.1 there));
    ends = (opened.ends.0, opened.ends.1.1);
  }

  front-face : x.face ≡ last.face
  front-face =
      let h = opened.next.0 in
      let same : x ≡ h.next = Once-same side_of_followed (first ∷ x ∷ left) opened.once x h.next (Contains-later first (x ∷ left) x (Contains-first x left)) h.among (behind ∙ sym h.behind) in
      ap (λ (s : FollowedSide). s.face) same ∙ h.face

-- no side is left to which the last one leads
module _ (first last : FollowedSide) (rest : List FollowedSide) (opened : IsOpen first last rest) (none : AllByRecursion (λ s. side_of_followed s ≢ side_behind last) rest) where
  is_first : (t : FollowedSide) → Contains (first ∷ rest) t → side_of_followed t ≡ side_behind last → first ≡ t
  is_first t there behind = elim (Contains-cases first rest t there) [ inl is ↦ is | inr among ↦ absurd (All-Contains (λ s. side_of_followed s ≢ side_behind last) rest t none among behind) ]

  -- then it leads to the first
  back : side_behind last ≡ side_of_followed first
  back = let h = opened.next.0 in sym (ap side_of_followed (is_first h.next h.among h.behind) ∙ h.behind)

  keeps-closed : (s : FollowedSide) → Contains rest s → HasNext (first ∷ rest) s → HasNext rest s
  keeps-closed s there h = record { next = h.next; among = by (Contains-cases first rest h.next h.among); behind = h.behind; face = h.face }
    where
      by : (first ≡ h.next) ⊎ Contains rest h.next → Contains rest h.next
      by (inl is) = absurd (Once-other side_behind last rest opened.apart s there (back ∙ ap side_of_followed is ∙ h.behind))
      by (inr among) = among

  closed : AreFollowed rest
  closed = record {
    once = pairs-from_Once side_of_followed rest (Once-tail side_of_followed first rest opened.once);
    apart = pairs-from_Once side_behind rest (Once-tail side_behind last rest opened.apart);
    next = All-from_Contains (HasNext rest) rest (λ s there. keeps-closed s there (All-Contains (HasNext (first ∷ rest)) rest s opened.next.1 there));
    ends = opened.ends.1;
  }

-- sides in another order
pub AreFollowed-permuted : (xs ys : List FollowedSide) → IsPermutation xs ys → AreFollowed xs → AreFollowed ys
AreFollowed-permuted xs ys p are = record {
  once = pairs-from_Once side_of_followed ys (Once-permuted side_of_followed xs ys p (Once-from_pairs side_of_followed xs are.once));
  apart = pairs-from_Once side_behind ys (Once-permuted side_behind xs ys p (Once-from_pairs side_behind xs are.apart));
  next = All-follows (HasNext xs) (HasNext ys) (λ s h. record { next = h.next; among = Contains-permutation xs ys h.next p h.among; behind = h.behind; face = h.face }) ys (All-permuted (HasNext xs) xs ys p are.next);
  ends = All-permuted (λ s. s.from ≢ s.to) xs ys p are.ends;
}

-- ---- The ring of a chain

-- each side leads to the next one, and the last to z
abbrev pub IsChain : FollowedSide → List FollowedSide → Side → Type 0
IsChain s [] z = side_behind s ≡ z
IsChain s (t ∷ ts) z = (side_behind s ≡ side_of_followed t) × IsChain t ts z

chain-push : (s : FollowedSide) (ts : List FollowedSide) (x : FollowedSide) → IsChain s ts (side_of_followed x) → IsChain s (ts ++ x ∷ []) (side_behind x)
chain-push s [] x h = (h, refl)
chain-push s (t ∷ ts) x h = (h.0, chain-push t ts x h.1)

abbrev start : FollowedSide → ℕ
start s = s.from

-- the ring of these sides
abbrev pub ring_along : FollowedSide → List FollowedSide → Boundary
ring_along first path = record { face = first.face; ring = map start (first ∷ path) }

abbrev pub with_face : Face → Corner → FollowedSide
with_face f c = record { from = c.before; to = c.at; after = c.after; face = f }

same_side : (f : Face) (s : FollowedSide) (b c : ℕ) → side_behind s ≡ (b, c) → s.face ≡ f → with_face f (record { before = s.from; at = b; after = c }) ≡ s
same_side f s b c behind face = λ i. record { from = s.from; to = (sym behind i).0; after = (sym behind i).1; face = sym face i }

along : (f : Face) (s t : FollowedSide) (ts : List FollowedSide) (y z : ℕ) → side_behind s ≡ side_of_followed t → IsChain t ts (y, z) → s.face ≡ f → AllByRecursion (λ u. u.face ≡ f) (t ∷ ts)
    → map (with_face f) (corners_along s.from t.from (map start ts ++ y ∷ z ∷ [])) ≡ s ∷ t ∷ ts
along f s t [] y z h chain face faces =
    let on : side_behind s ≡ (t.from, y) = h ∙ ap (λ (v : Side). (t.from, v.0)) chain in
    λ i. same_side f s t.from y on face i ∷ same_side f t y z chain faces.0 i ∷ []
along f s t (u ∷ us) y z h chain face faces =
    let on : side_behind s ≡ (t.from, u.from) = h ∙ ap (λ (v : Side). (t.from, v.0)) chain.0 in
    λ i. same_side f s t.from u.from on face i ∷ along f t u us y z chain.0 chain.1 faces.0 faces.1 i

followed-chain : (first : FollowedSide) (path : List FollowedSide) → IsChain first path (side_of_followed first) → first.from ≢ first.to → AllByRecursion (λ s. s.face ≡ first.face) path → followed_of (ring_along first path) ≡ first ∷ path
followed-chain first [] chain ends faces = absurd (ends (sym (ap (λ (v : Side). v.0) chain)))
followed-chain first (t ∷ ts) chain ends faces =
    let to : first.to ≡ t.from = ap (λ (v : Side). v.0) chain.0 in
    along first.face first t ts first.from t.from chain.0 (subst (λ (n : ℕ). IsChain t ts (first.from, n)) to chain.1) refl faces

length-chain : (first : FollowedSide) (path : List FollowedSide) → IsChain first path (side_of_followed first) → first.from ≢ first.to → 2 ≤ length (map start (first ∷ path))
length-chain first [] chain ends = absurd (ends (sym (ap (λ (v : Side). v.0) chain)))
length-chain first (t ∷ ts) chain ends = omega arith

-- ---- What the loop over a ring's sides keeps

-- the ring from the first side has come through these points to the last side, and so many sides are left
pub record IsOnWay (first : FollowedSide) (old : List FollowedSide) (points : List ℕ) (last : FollowedSide) (rest : List FollowedSide) : Type 0 where
  pub path : List FollowedSide
  pub through : points ≡ map start (first ∷ path)
  pub chain : IsChain first path (side_behind last)
  pub faces : AllByRecursion (λ s. s.face ≡ first.face) path
  pub last_face : last.face ≡ first.face
  pub all : IsPermutation (first ∷ old) ((first ∷ path) ++ rest)
  pub opened : IsOpen first last rest

pub way-begins : (first : FollowedSide) (rest : List FollowedSide) → AreFollowed (first ∷ rest) → IsOnWay first rest (first.from ∷ []) first rest
way-begins first rest are =
    record { path = []; through = refl; chain = refl; faces = tt; last_face = refl; all = IsPermutation-refl (first ∷ rest); opened = open-begins first rest are }

module _ (first : FollowedSide) (old : List FollowedSide) (points : List ℕ) (last : FollowedSide) (rest : List FollowedSide) (way : IsOnWay first old points last rest) where
  pub way-goes_on : (x : FollowedSide) (left : List FollowedSide) → side_of_followed x ≡ side_behind last → IsPermutation rest (x ∷ left) → IsOnWay first old (points ++ x.from ∷ []) x left
  way-goes_on x left behind p = record {
    path = way.path ++ x ∷ [];
    through = ap (λ (l : List ℕ). l ++ x.from ∷ []) way.through ∙ sym (map-append start (first ∷ way.path) (x ∷ []));
    chain = chain-push first way.path x (subst (λ (v : Side). IsChain first way.path v) (sym behind) way.chain);
    faces = All-push (λ s. s.face ≡ first.face) way.path x way.faces face;
    last_face = face;
    all = IsPermutation-pop_more (first ∷ old) (first ∷ way.path) rest left x way.all p;
    opened = open-front first last x left opened behind;
  }
    where
      opened : IsOpen first last (x ∷ left)
      opened = record {
        once = Once-permuted side_of_followed (first ∷ rest) (first ∷ x ∷ left) (IsPermutation-cons first rest (x ∷ left) p) way.opened.once;
        apart = Once-permuted side_behind (last ∷ rest) (last ∷ x ∷ left) (IsPermutation-cons last rest (x ∷ left) p) way.opened.apart;
        next = All-permuted (HasNext (first ∷ x ∷ left)) (last ∷ rest) (last ∷ x ∷ left) (IsPermutation-cons last rest (x ∷ left) p)
            (All-follows (HasNext (first ∷ rest)) (HasNext (first ∷ x ∷ left)) among (last ∷ rest) way.opened.next);
        ends = All-permuted (λ s. s.from ≢ s.to) (first ∷ rest) (first ∷ x ∷ left) (IsPermutation-cons first rest (x ∷ left) p) way.opened.ends;
      }
        where
          among : (s : FollowedSide) → HasNext (first ∷ rest) s → HasNext (first ∷ x ∷ left) s
          among s h = record { next = h.next; among = Contains-permutation (first ∷ rest) (first ∷ x ∷ left) h.next (IsPermutation-cons first rest (x ∷ left) p) h.among; behind = h.behind; face = h.face }

      face : x.face ≡ first.face
      face = front-face first last x left opened behind ∙ way.last_face

  -- where no side is left to which the last one leads, the ring is closed
  module _ (none : AllByRecursion (λ s. side_of_followed s ≢ side_behind last) rest) where
    chain-closed : IsChain first way.path (side_of_followed first)
    chain-closed = subst (λ (v : Side). IsChain first way.path v) (back first last rest way.opened none) way.chain

    pub way-ring : IsPermutation (first ∷ old) (followed_of (record { face = first.face; ring = points }) ++ rest)
    way-ring =
        subst (λ (l : List FollowedSide). IsPermutation (first ∷ old) (l ++ rest))
        (sym (ap (λ (l : List ℕ). followed_of (record { face = first.face; ring = l })) way.through ∙ followed-chain first way.path chain-closed way.opened.ends.0 way.faces))
        way.all

    pub way-two : 2 ≤ length points
    way-two = subst (λ (l : List ℕ). 2 ≤ length l) (sym way.through) (length-chain first way.path chain-closed way.opened.ends.0)

    pub way-left : AreFollowed rest
    way-left = closed first last rest way.opened none

-- ---- What the loop over rings keeps

-- these rings and the sides that are left
pub record AreMade (sides : List FollowedSide) (rings : List Boundary) (rest : List FollowedSide) : Type 0 where
  pub all : IsPermutation sides (followed_in rings ++ rest)
  pub two : AllByRecursion (λ b. 2 ≤ length b.ring) rings
  pub left : AreFollowed rest

followed_in-push : (rings : List Boundary) (b : Boundary) → followed_in (rings ++ b ∷ []) ≡ followed_in rings ++ followed_of b
followed_in-push [] b = append-nil (followed_of b)
followed_in-push (a ∷ rings) b = ap (λ (l : List FollowedSide). followed_of a ++ l) (followed_in-push rings b) ∙ sym (append_assoc (followed_of a) (followed_in rings) (followed_of b))

pub made-more : (sides : List FollowedSide) (rings : List Boundary) (old rest : List FollowedSide) (first : FollowedSide) (b : Boundary) (left : List FollowedSide) → AreMade sides rings old
    → IsPermutation old (first ∷ rest) → IsPermutation (first ∷ rest) (followed_of b ++ left) → 2 ≤ length b.ring → AreFollowed left → AreMade sides (rings ++ b ∷ []) left
made-more sides rings old rest first b left made out p two are = record {
  all =
      let step = IsPermutation-trans old (first ∷ rest) (followed_of b ++ left) out p in
      let more = IsPermutation-trans sides (followed_in rings ++ old) (followed_in rings ++ (followed_of b ++ left)) made.all (IsPermutation-append_right (followed_in rings) old (followed_of b ++ left) step) in
      subst (λ (l : List FollowedSide). IsPermutation sides l) (sym (append_assoc (followed_in rings) (followed_of b) left) ∙ ap (λ (l : List FollowedSide). l ++ left) (sym (followed_in-push rings b))) more;
  two = All-push (λ b. 2 ≤ length b.ring) rings b made.two two;
  left = are;
}

pub made-begins : (sides : List FollowedSide) → AreFollowed sides → AreMade sides [] sides
made-begins sides are = record { all = IsPermutation-refl sides; two = tt; left = are }

pub made-ends : (sides : List FollowedSide) (rings : List Boundary) → AreMade sides rings [] → IsPermutation sides (followed_in rings)
made-ends sides rings made = subst (λ (l : List FollowedSide). IsPermutation sides l) (append-nil (followed_in rings)) made.all

pub fewer-left : (rest : List FollowedSide) (first : FollowedSide) (b : Boundary) (left : List FollowedSide) → IsPermutation (first ∷ rest) (followed_of b ++ left) → 2 ≤ length b.ring → length left ≤ length rest
fewer-left rest first b left p two =
    let e = length_permutation (first ∷ rest) (followed_of b ++ left) p in
    let f = length-append (followed_of b) left in
    let g = length-map (corners_of b.ring) (with_face b.face) in
    let h = length-corners_of b.ring two in
    omega arith

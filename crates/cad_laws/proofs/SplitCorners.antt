-- The corners of rings with a point on a side.
use Rattle.std.proofs.Common.{◌≡◌, ℕ, ℤ, ◌≤◌, Bool, true, false, List, [], ◌∷◌, ◌++◌, length, map, refl, sym, ap, ◌∙◌, subst, inl, inr, arith}
use Rattle.std.proofs.lemmas.List.{append_assoc}
use Rattle.std.proofs.lemmas.List.Elements.{Contains-append_cases}
use Rattle.std.proofs.lemmas.List.Sorted.{Contains-permutation}
use Rattle.std.specs.Prelude.{flat_map, if◌then◌else◌}
use Rattle.std.specs.List.{Contains}
use Rattle.cad_rows.specs.declared.rows.StringRow.{StringRow}
use Rattle.cad_rings.specs.Cycle.{Ring, Side, is_side, sides_along, Corner, corners_of}
use Rattle.cad_rings.specs.Surgery.{corner, corners_of_chain, put_on}
use Rattle.cad_rings.proofs.CallerLemmas.{corners_of_chain-append}
use Rattle.cad_map.specs.declared.boundary.Boundary.{Boundary}
use Rattle.cad_map.specs.Boundaries.{bounding, canonical_order, corners_in}
use Rattle.cad_map.specs.Map.{Map, all_corners}
use Rattle.cad_map.specs.Changes.{split}
use Rattle.cad_map.proofs.CallerLemmas.{Contains-cases, Contains-first, Contains-later, Contains-flat_map, Contains-in_part, Contains-map, corners_in-canonical_order}

-- what becomes of a corner where a point is put on a side: a point that the corner sees along the
-- side gives way to it
abbrev pub image : Side → ℕ → Corner → Corner
image s p c =
    corner (if is_side s (c.before, c.at) then p else c.before) c.at
    (if is_side s (c.at, c.after) then p else c.after)

none : (x : Corner) → Contains [] x → ⊥
none x h = let low = h.1 in omega arith

-- a corner of a chain is one of the chain with a point more before it
later : (x y : ℕ) (l : List ℕ) (c : Corner) → Contains (corners_of_chain (y ∷ l)) c
    → Contains (corners_of_chain (x ∷ y ∷ l)) c
later x y [] c h = absurd (none c h)
later x y (z ∷ l) c h = Contains-later (corner x y z) (corners_of_chain (y ∷ z ∷ l)) c h

module _ (s : Side) (p : ℕ) where
  abbrev before_it : Bool → List ℕ → List ℕ
  before_it t l = if t then p ∷ l else l

  -- the points after x, with p put on the side
  abbrev ins : ℕ → List ℕ → List ℕ
  ins x [] = []
  ins x (y ∷ ys) = before_it (is_side s (x, y)) (y ∷ ins y ys)

  image-chain : (x : ℕ) (ys : List ℕ) (c : Corner) → Contains (corners_of_chain (x ∷ ys)) c
      → Contains (corners_of_chain (x ∷ ins x ys)) (image s p c)
  image-chain x [] c h = absurd (none c h)
  image-chain x (y ∷ []) c h = absurd (none c h)
  image-chain x (y ∷ z ∷ rest) c h =
      elim (Contains-cases (corner x y z) (corners_of_chain (y ∷ z ∷ rest)) c h) [
        | inl is ↦
            subst (λ (d : Corner).
            Contains (corners_of_chain (x ∷ ins x (y ∷ z ∷ rest))) (image s p d)) is
            (here (is_side s (x, y)) (is_side s (y, z)))
        | inr on ↦ there (is_side s (x, y)) (image-chain y (z ∷ rest) c on)
      ]
    where
      here : (t u : Bool) → Contains
          (corners_of_chain
          (x ∷ (if t then p ∷ y ∷ (if u then p ∷ z ∷ ins z rest else z ∷ ins z rest) else y ∷
          (if u then p ∷ z ∷ ins z rest else z ∷ ins z rest))))
          (corner (if t then p else x) y (if u then p else z))
      here true true =
          Contains-later (corner x p y) (corners_of_chain (p ∷ y ∷ p ∷ z ∷ ins z rest))
          (corner p y p)
          (Contains-first (corner p y p) (corners_of_chain (y ∷ p ∷ z ∷ ins z rest)))
      here true false =
          Contains-later (corner x p y) (corners_of_chain (p ∷ y ∷ z ∷ ins z rest)) (corner p y z)
          (Contains-first (corner p y z) (corners_of_chain (y ∷ z ∷ ins z rest)))
      here false true = Contains-first (corner x y p) (corners_of_chain (y ∷ p ∷ z ∷ ins z rest))
      here false false = Contains-first (corner x y z) (corners_of_chain (y ∷ z ∷ ins z rest))

      there : (t : Bool) → Contains (corners_of_chain (y ∷ ins y (z ∷ rest))) (image s p c)
          → Contains
          (corners_of_chain (x ∷ (if t then p ∷ y ∷ ins y (z ∷ rest) else y ∷ ins y (z ∷ rest))))
          (image s p c)
      there true k =
          later x p (y ∷ ins y (z ∷ rest)) (image s p c)
          (later p y (ins y (z ∷ rest)) (image s p c) k)
      there false k = later x y (ins y (z ∷ rest)) (image s p c) k

  -- ---- Rings

  abbrev g : Side → List ℕ
  g t = if is_side s t then t.0 ∷ p ∷ [] else t.0 ∷ []

  laid : (a : ℕ) (l : List ℕ) (z : ℕ)
      → flat_map g (sides_along a l z) ++ z ∷ [] ≡ a ∷ ins a (l ++ z ∷ [])
  laid a [] z = by (is_side s (a, z))
    where
      by : (t : Bool) → ((if t then a ∷ p ∷ [] else a ∷ []) ++ []) ++ z ∷ [] ≡ a ∷
          (if t then p ∷ z ∷ [] else z ∷ [])
      by true = refl
      by false = refl
  laid a (x ∷ l) z = by (is_side s (a, x)) (laid x l z)
    where
      by : (t : Bool) → flat_map g (sides_along x l z) ++ z ∷ [] ≡ x ∷ ins x (l ++ z ∷ [])
          → ((if t then a ∷ p ∷ [] else a ∷ []) ++ flat_map g (sides_along x l z)) ++ z ∷ [] ≡ a ∷
          (if t then p ∷ x ∷ ins x (l ++ z ∷ []) else x ∷ ins x (l ++ z ∷ []))
      by true e = ap (λ (k : List ℕ). a ∷ p ∷ k) e
      by false e = ap (λ (k : List ℕ). a ∷ k) e

  ins-more : (x : ℕ) (l : List ℕ) (z w : ℕ)
      → ins x (l ++ z ∷ w ∷ []) ≡ ins x (l ++ z ∷ []) ++ before_it (is_side s (z, w)) (w ∷ [])
  ins-more x [] z w = by (is_side s (x, z))
    where
      by : (t : Bool)
          → (if t then p ∷ z ∷ before_it (is_side s (z, w)) (w ∷ []) else z ∷ before_it
          (is_side s (z, w)) (w ∷ [])) ≡ (if t then p ∷ z ∷ [] else z ∷ []) ++ before_it
          (is_side s (z, w)) (w ∷ [])
      by true = refl
      by false = refl
  ins-more x (y ∷ l) z w = by (is_side s (x, y)) (ins-more y l z w)
    where
      by : (t : Bool) → ins y (l ++ z ∷ w ∷ []) ≡ ins y (l ++ z ∷ []) ++ before_it
          (is_side s (z, w)) (w ∷ [])
          → (if t then p ∷ y ∷ ins y (l ++ z ∷ w ∷ []) else y ∷ ins y (l ++ z ∷ w ∷ [])) ≡
          (if t then p ∷ y ∷ ins y (l ++ z ∷ []) else y ∷ ins y (l ++ z ∷ [])) ++ before_it
          (is_side s (z, w)) (w ∷ [])
      by true e = ap (λ (k : List ℕ). p ∷ y ∷ k) e
      by false e = ap (λ (k : List ℕ). y ∷ k) e

  longer : (x : ℕ) (l : List ℕ) (z : ℕ) → 1 ≤ length (ins x (l ++ z ∷ []))
  longer x [] z = by (is_side s (x, z))
    where
      by : (t : Bool) → 1 ≤ length (if t then p ∷ z ∷ [] else z ∷ [])
      by true = omega arith
      by false = omega arith
  longer x (y ∷ l) z = by (is_side s (x, y))
    where
      by : (t : Bool)
          → 1 ≤ length (if t then p ∷ y ∷ ins y (l ++ z ∷ []) else y ∷ ins y (l ++ z ∷ []))
      by true = omega arith
      by false = omega arith

  -- the corners of a ring that begins with a and b, once round and on to the second point
  round : (a b : ℕ) (t : Bool) (Q rest : List ℕ) → 1 ≤ length rest
      → Q ++ a ∷ [] ≡ a ∷ (if t then p ∷ b ∷ rest else b ∷ rest) → (c : Corner)
      → Contains (corners_of_chain (Q ++ a ∷ (if t then p ∷ b ∷ [] else b ∷ []))) c
      → Contains (corners_of Q) c
  round a b true [] rest some is c h = cc
  round a b false [] rest some is c h = cc
  round a b true (q ∷ []) rest some is c h = cc
  round a b false (q ∷ []) rest some is c h = let e =
      ap length is in absurd (omega (arith, e, some))
  round a b false (q ∷ r ∷ Q) rest some is c h =
      let one : q ≡ a = cc in
      let two : r ≡ b = cc in
      subst (λ (l : List ℕ). Contains (corners_of_chain (q ∷ r ∷ Q ++ l)) c)
      (λ i. sym one i ∷ sym two i ∷ []) h
  round a b true (q ∷ r ∷ Q) rest some is c h =
      let one : q ≡ a = cc in
      let two : r ≡ p = cc in
      let others : Q ++ a ∷ [] ≡ b ∷ rest = cc in
      let parts =
      subst (λ (l : List Corner). Contains l c)
      (corners_of_chain-append (q ∷ r ∷ Q) a p (b ∷ [])) h in
      let whole : (l : List ℕ) → l ≡ a ∷ p ∷ []
      → Contains (corners_of_chain (q ∷ r ∷ Q ++ a ∷ p ∷ [])) c
      → Contains (corners_of_chain (q ∷ r ∷ Q ++ l)) c =
      λ l e k.
      subst (λ (l : List ℕ). Contains (corners_of_chain (q ∷ r ∷ Q ++ l)) c) (sym e) k in
      elim (Contains-append_cases (corners_of_chain (q ∷ r ∷ Q ++ a ∷ p ∷ []))
      (corner a p b ∷ []) c parts) [
        | inl k ↦ whole (q ∷ r ∷ []) (λ i. one i ∷ two i ∷ []) k
        | inr k ↦ elim (Contains-cases (corner a p b) [] c k) [
          | inr late ↦ absurd (none c late)
          | inl e ↦
              whole (q ∷ r ∷ []) (λ i. one i ∷ two i ∷ [])
              (subst (Contains (corners_of_chain (q ∷ r ∷ Q ++ a ∷ p ∷ []))) e
              (first Q others one two))
        ]
      ]
    where
      first : (Q : List ℕ) → Q ++ a ∷ [] ≡ b ∷ rest → q ≡ a → r ≡ p
          → Contains (corners_of_chain (q ∷ r ∷ Q ++ a ∷ p ∷ [])) (corner a p b)
      first [] e one two = let z : a ≡ b =
          cc in subst (Contains (corners_of_chain (q ∷ r ∷ a ∷ p ∷ [])))
          (λ i. corner (one i) (two i) (z i))
          (Contains-first (corner q r a) (corners_of_chain (r ∷ a ∷ p ∷ [])))
      first (x ∷ Q) e one two = let z : x ≡ b =
          cc in subst (Contains (corners_of_chain (q ∷ r ∷ x ∷ Q ++ a ∷ p ∷ [])))
          (λ i. corner (one i) (two i) (z i))
          (Contains-first (corner q r x) (corners_of_chain (r ∷ x ∷ Q ++ a ∷ p ∷ [])))

  image-ring : (ring : Ring) (c : Corner) → Contains (corners_of ring) c
      → Contains (corners_of (put_on s p ring)) (image s p c)
  image-ring [] c h = absurd (none c h)
  image-ring (a ∷ []) c h = absurd (none c h)
  image-ring (a ∷ b ∷ pts) c h =
      let Q = put_on s p (a ∷ b ∷ pts) in
      let is : Q ++ a ∷ [] ≡ a ∷ ins a (b ∷ pts ++ a ∷ []) = laid a (b ∷ pts) a in
      let k = image-chain a (b ∷ pts ++ a ∷ b ∷ []) c h in
      let on : a ∷ ins a (b ∷ pts ++ a ∷ b ∷ []) ≡ Q ++ a ∷ before_it (is_side s (a, b)) (b ∷ []) =
      ap (λ (l : List ℕ). a ∷ l) (ins-more a (b ∷ pts) a b)
      ∙ ap (λ (l : List ℕ). l ++ before_it (is_side s (a, b)) (b ∷ [])) (sym is)
      ∙ append_assoc Q (a ∷ []) (before_it (is_side s (a, b)) (b ∷ [])) in
      round a b (is_side s (a, b)) Q (ins b (pts ++ a ∷ [])) (longer b pts a) is (image s p c)
      (subst (λ (l : List ℕ). Contains (corners_of_chain l) (image s p c)) on k)

-- ---- A map with a string split

pub image-split : (m : Map) (row : StringRow) (p : ℕ) (x y : ℤ) (first second : ℕ) (c : Corner)
    → Contains (all_corners m) c
    → Contains (all_corners (split m row p x y first second))
    (image (row.to, row.from) p (image (row.from, row.to) p c))
image-split m row p x y first second c h =
    let part = Contains-in_part (λ (b : Boundary). corners_of b.ring) m.boundaries c h in
    let change : Boundary → Boundary =
    λ b. bounding b.face (put_on (row.to, row.from) p (put_on (row.from, row.to) p b.ring)) in
    let d = image (row.to, row.from) p (image (row.from, row.to) p c) in
    let one = image-ring (row.from, row.to) p part.0.ring c part.2 in
    let two =
    image-ring (row.to, row.from) p (put_on (row.from, row.to) p part.0.ring)
    (image (row.from, row.to) p c) one in
    Contains-permutation (corners_in (map change m.boundaries))
    (corners_in (canonical_order (map change m.boundaries))) d
    (corners_in-canonical_order (map change m.boundaries))
    (Contains-flat_map (λ (b : Boundary). corners_of b.ring) (map change m.boundaries)
    (change part.0) d (Contains-map change m.boundaries part.0 part.1) two)

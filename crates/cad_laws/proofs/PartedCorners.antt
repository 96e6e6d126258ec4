-- A ring parted by a chain, among other rings: which corners stand, which come and which go.
-- It speaks of a ring in four pieces and of a chain alone. A map comes in by two permutations of
-- its corners, and by the fact that none of its old corners has a side of the chain. So one proof
-- serves a division (pieces from the cut) and a merger (pieces from the join).
use Rattle.std.proofs.Common.{◌≡◌, ℕ, ◌⊎◌, inl, inr, refl, sym, ap, subst, ◌∙◌, List, [], ◌∷◌, ◌++◌, map, reverse, arith}
use Rattle.std.proofs.lemmas.List.Elements.{Contains-append_cases, Contains-append_left, Contains-append_right}
use Rattle.std.proofs.lemmas.List.Sorted.{IsPermutation-sym, IsPermutation-reverse, Contains-permutation}
use Rattle.std.specs.Prelude.{IsPermutation}
use Rattle.std.specs.List.{Contains}
use Rattle.cad_rings.specs.Cycle.{Side, sides_along, Corner, corner_back, corners_of}
use Rattle.cad_rings.specs.Surgery.{corner, both_ways, corners_of_chain, parted_by}
use Rattle.cad_rings.proofs.CallerLemmas.{sides_of_chain-is, corners_of_chain-reverse}
use Rattle.cad_rings.proofs.CutCorners.{last_of, first_of, between, corners_of-parts, corners-parts, back_again, first_of-reverse}
use Rattle.cad_map.specs.Map.{Map, all_corners}
use Rattle.cad_map.specs.Chain.{start_of, next_of, end_of, last_but_one}
use Rattle.cad_map.proofs.CallerLemmas.{Contains-cases, Contains-first, Contains-later, Contains-map, map-Contains, side_before, side_behind, in_both_ways}
use Rattle.cad_laws.specs.Parting.{IsOn, IsParted}

no_element : {X : Type 0} (x : X) → Contains [] x → ⊥
no_element x h = let low = h.1 in omega arith

-- ---- The ends of a chain

next-is : (a : ℕ) (inner : List ℕ) (b : ℕ) → next_of (a ∷ inner ++ b ∷ []) ≡ first_of inner b
next-is a [] b = refl
next-is a (x ∷ inner) b = refl

end-is : (a : ℕ) (inner : List ℕ) (b : ℕ) → end_of (a ∷ inner ++ b ∷ []) ≡ b
end-is a inner b = ap start_of (back_again a inner b)

pub last-is : (a : ℕ) (inner : List ℕ) (b : ℕ)
    → last_but_one (a ∷ inner ++ b ∷ []) ≡ last_of a inner
last-is a inner b =
    ap next_of (back_again a inner b) ∙ next-is b (reverse inner) a ∙ first_of-reverse a inner

-- its first and its last side
first-side : (a : ℕ) (inner : List ℕ) (b : ℕ)
    → Contains (sides_along a inner b) (a, first_of inner b)
first-side a [] b = Contains-first (a, b) []
first-side a (x ∷ inner) b = Contains-first (a, x) (sides_along x inner b)

last-side : (a : ℕ) (inner : List ℕ) (b : ℕ)
    → Contains (sides_along a inner b) (last_of a inner, b)
last-side a [] b = Contains-first (a, b) []
last-side a (x ∷ inner) b =
    Contains-later (a, x) (sides_along x inner b) (last_of x inner, b) (last-side x inner b)

-- the side before a corner of a chain is one of its sides
between-before : (a : ℕ) (inner : List ℕ) (b : ℕ) (c : Corner) → Contains (between a inner b) c
    → Contains (sides_along a inner b) (side_before c)
between-before a [] b c h = absurd (no_element c h)
between-before a (x ∷ []) b c h = elim (Contains-cases (corner a x b) [] c h) [
  | inl is ↦
      subst (λ (d : Corner). Contains ((a, x) ∷ (x, b) ∷ []) (side_before d)) is
      (Contains-first (a, x) ((x, b) ∷ []))
  | inr none ↦ absurd (no_element c none)
]
between-before a (x ∷ y ∷ inner) b c h =
    elim (Contains-cases (corner a x y) (between x (y ∷ inner) b) c h) [
      | inl is ↦
          subst (λ (d : Corner). Contains (sides_along a (x ∷ y ∷ inner) b) (side_before d)) is
          (Contains-first (a, x) (sides_along x (y ∷ inner) b))
      | inr on ↦
          Contains-later (a, x) (sides_along x (y ∷ inner) b) (side_before c)
          (between-before x (y ∷ inner) b c on)
    ]

-- a corner of the chain backwards is one of the chain, the other way
between-back : (a : ℕ) (inner : List ℕ) (b : ℕ)
    → between b (reverse inner) a ≡ reverse (map corner_back (between a inner b))
between-back a inner b =
    ap corners_of_chain (sym (back_again a inner b))
    ∙ corners_of_chain-reverse (a ∷ inner ++ b ∷ [])

of-back : (a : ℕ) (inner : List ℕ) (b : ℕ) (c : Corner) → Contains (between b (reverse inner) a) c
    → (d : Corner) × Contains (between a inner b) d × (corner_back d ≡ c)
of-back a inner b c h =
    let M = map corner_back (between a inner b) in
    map-Contains corner_back (between a inner b) c
    (Contains-permutation (reverse M) M c
    (IsPermutation-sym M (reverse M) (IsPermutation-reverse M))
    (subst (λ (l : List Corner). Contains l c) (between-back a inner b) h))

to-back : (a : ℕ) (inner : List ℕ) (b : ℕ) (c : Corner) → Contains (between a inner b) c
    → Contains (between b (reverse inner) a) (corner_back c)
to-back a inner b c h =
    let M = map corner_back (between a inner b) in
    subst (λ (l : List Corner). Contains l (corner_back c)) (sym (between-back a inner b))
    (Contains-permutation M (reverse M) (corner_back c) (IsPermutation-reverse M)
    (Contains-map corner_back (between a inner b) c h))

-- the corners of a ring at two of its points
pub ends-there : (a : ℕ) (xs : List ℕ) (b : ℕ) (ys : List ℕ)
    → Contains (corners_of (a ∷ xs ++ b ∷ ys)) (corner (last_of b ys) a (first_of xs b))
    × Contains (corners_of (a ∷ xs ++ b ∷ ys)) (corner (last_of a xs) b (first_of ys a))
ends-there a xs b ys =
    let at_a = corner (last_of b ys) a (first_of xs b) in
    let at_b = corner (last_of a xs) b (first_of ys a) in
    let later = between b ys a ++ at_a ∷ [] in (
      subst (λ (l : List Corner). Contains l at_a) (sym (corners_of-parts a xs b ys))
          (Contains-append_right (between a xs b) (at_b ∷ later) at_a
          (Contains-later at_b later at_a
          (Contains-append_right (between b ys a) (at_a ∷ []) at_a (Contains-first at_a [])))),
      subst (λ (l : List Corner). Contains l at_b) (sym (corners_of-parts a xs b ys))
          (Contains-append_right (between a xs b) (at_b ∷ later) at_b (Contains-first at_b later)),
    )

-- ---- One ring in two

module _ (a : ℕ) (xs : List ℕ) (b : ℕ) (ys inner : List ℕ) (rest : List Corner) where
  abbrev pub at_a : Corner
  at_a = corner (last_of b ys) a (first_of xs b)

  abbrev pub at_b : Corner
  at_b = corner (last_of a xs) b (first_of ys a)

  abbrev pub whole : List Corner
  whole = corners_of (a ∷ xs ++ b ∷ ys) ++ rest

  abbrev pub parted : List Corner
  parted = (corners_of (a ∷ inner ++ b ∷ ys) ++ corners_of (b ∷ reverse inner ++ a ∷ xs)) ++ rest

  abbrev chain : List Side
  chain = sides_along a inner b

  -- the corners that come
  abbrev fresh : List Corner
  fresh = parted_by (first_of inner b) at_a ++
      (parted_by (last_of a inner) at_b ++ (between a inner b ++ between b (reverse inner) a))

  abbrev two : List Corner
  two = corners_of (a ∷ inner ++ b ∷ ys) ++ corners_of (b ∷ reverse inner ++ a ∷ xs)

  abbrev one : List Corner
  one = corners_of (a ∷ xs ++ b ∷ ys)

  abbrev both : List Corner
  both = between a inner b ++ between b (reverse inner) a

  abbrev law : IsPermutation (at_a ∷ at_b ∷ two)
      (parted_by (first_of inner b) at_a ++ (parted_by (last_of a inner) at_b ++ (both ++ one)))
  law = corners-parts a xs b ys inner

  -- what was there is there, or is one of the two at the ends
  two-stays : (c : Corner) → Contains (at_a ∷ at_b ∷ two) c
      → (at_a ≡ c) ⊎ ((at_b ≡ c) ⊎ Contains parted c)
  two-stays c h = elim (Contains-cases at_a (at_b ∷ two) c h) [
    | inl is ↦ inl is
    | inr later ↦ elim (Contains-cases at_b two c later) [
      | inl is ↦ inr (inl is)
      | inr there ↦ inr (inr (Contains-append_left two rest c there))
    ]
  ]

  back-in : (c : Corner) → Contains
      (parted_by (first_of inner b) at_a ++ (parted_by (last_of a inner) at_b ++ (both ++ one))) c
      → (at_a ≡ c) ⊎ ((at_b ≡ c) ⊎ Contains parted c)
  back-in c h =
      let R = parted_by (first_of inner b) at_a ++
      (parted_by (last_of a inner) at_b ++ (both ++ one)) in
      two-stays c
      (Contains-permutation R (at_a ∷ at_b ∷ two) c
      (IsPermutation-sym (at_a ∷ at_b ∷ two) R law) h)

  from-whole : (c : Corner) → Contains whole c → (at_a ≡ c) ⊎ ((at_b ≡ c) ⊎ Contains parted c)
  from-whole c h = elim (Contains-append_cases one rest c h) [
    | inl here ↦
        back-in c
        (Contains-append_right (parted_by (first_of inner b) at_a)
        (parted_by (last_of a inner) at_b ++ (both ++ one)) c
        (Contains-append_right (parted_by (last_of a inner) at_b) (both ++ one) c
        (Contains-append_right both one c here)))
    | inr other ↦ inr (inr (Contains-append_right two rest c other))
  ]

  from-fresh : (c : Corner) → Contains fresh c → (at_a ≡ c) ⊎ ((at_b ≡ c) ⊎ Contains parted c)
  from-fresh c h =
      elim (Contains-append_cases (parted_by (first_of inner b) at_a)
      (parted_by (last_of a inner) at_b ++ both) c h) [
        | inl here ↦
            back-in c
            (Contains-append_left (parted_by (first_of inner b) at_a)
            (parted_by (last_of a inner) at_b ++ (both ++ one)) c here)
        | inr later ↦
            back-in c
            (Contains-append_right (parted_by (first_of inner b) at_a)
            (parted_by (last_of a inner) at_b ++ (both ++ one)) c
            (elim (Contains-append_cases (parted_by (last_of a inner) at_b) both c later) [
              | inl here ↦
                  Contains-append_left (parted_by (last_of a inner) at_b) (both ++ one) c here
              | inr there ↦
                  Contains-append_right (parted_by (last_of a inner) at_b) (both ++ one) c
                  (Contains-append_left both one c there)
            ]))
      ]

  -- what is there was there, or came
  from-parted : (c : Corner) → Contains parted c → Contains fresh c ⊎ Contains whole c
  from-parted c h = elim (Contains-append_cases two rest c h) [
    | inl here ↦
        let P = parted_by (first_of inner b) at_a in
        let Q = parted_by (last_of a inner) at_b in
        let k = Contains-permutation (at_a ∷ at_b ∷ two) (P ++ (Q ++ (both ++ one))) c law
        (Contains-later at_a (at_b ∷ two) c (Contains-later at_b two c here)) in
        elim (Contains-append_cases P (Q ++ (both ++ one)) c k) [
          | inl p ↦ inl (Contains-append_left P (Q ++ both) c p)
          | inr k ↦ elim (Contains-append_cases Q (both ++ one) c k) [
            | inl q ↦ inl (Contains-append_right P (Q ++ both) c (Contains-append_left Q both c q))
            | inr k ↦ elim (Contains-append_cases both one c k) [
              | inl both_ways ↦
                  inl (Contains-append_right P (Q ++ both) c
                  (Contains-append_right Q both c both_ways))
              | inr old ↦ inr (Contains-append_left one rest c old)
            ]
          ]
        ]
    | inr other ↦ inr (Contains-append_right one rest c other)
  ]

  -- of two corners one has the chain behind it and one before it
  two-on : (x y : Corner) → Contains (both_ways chain) (side_behind x)
      → Contains (both_ways chain) (side_before y)
      → (c : Corner) → Contains (x ∷ y ∷ []) c → IsOn chain c
  two-on x y behind before c h = elim (Contains-cases x (y ∷ []) c h) [
    | inl is ↦ inr (subst (λ (d : Corner). Contains (both_ways chain) (side_behind d)) is behind)
    | inr later ↦ elim (Contains-cases y [] c later) [
      | inl is ↦ inl (subst (λ (d : Corner). Contains (both_ways chain) (side_before d)) is before)
      | inr none ↦ absurd (no_element c none)
    ]
  ]

  -- what comes has a side of the chain
  fresh-on : (c : Corner) → Contains fresh c → IsOn chain c
  fresh-on c h = elim (Contains-append_cases (parted_by w at_a) (parted_by v at_b ++ both) c h) [
    | inl here ↦ two-on (corner (last_of b ys) a w) (corner w a (first_of xs b)) start.0 start.1 c here
    | inr k ↦ elim (Contains-append_cases (parted_by v at_b) both c k) [
      | inl here ↦ two-on (corner (last_of a xs) b v) (corner v b (first_of ys a)) end.1 end.0 c here
      | inr k ↦
          elim (Contains-append_cases (between a inner b) (between b (reverse inner) a) c k) [
            | inl there ↦
                inl (in_both_ways chain (side_before c) (between-before a inner b c there)).0
            | inr back ↦ let d =
                of-back a inner b c back in
                inr (subst (λ (e : Corner). Contains (both_ways chain) (side_behind e)) d.2
                (in_both_ways chain (side_before d.0) (between-before a inner b d.0 d.1)).1)
          ]
    ]
  ]
    where
      w : ℕ
      w = first_of inner b

      v : ℕ
      v = last_of a inner

      start : Contains (both_ways chain) (a, w) × Contains (both_ways chain) (w, a)
      start = in_both_ways chain (a, w) (first-side a inner b)

      end : Contains (both_ways chain) (v, b) × Contains (both_ways chain) (b, v)
      end = in_both_ways chain (v, b) (last-side a inner b)

  -- ---- Where no corner of the whole has a side of the chain

  module _ (w p : Map) (first_map : IsPermutation whole (all_corners w))
      (second_map : IsPermutation parted (all_corners p))
      (free : (c : Corner) → Contains (all_corners w) c → IsOn chain c → ⊥) where
    in-whole : (c : Corner) → Contains whole c → Contains (all_corners w) c
    in-whole c h = Contains-permutation whole (all_corners w) c first_map h

    in-parted : (c : Corner) → Contains parted c → Contains (all_corners p) c
    in-parted c h = Contains-permutation parted (all_corners p) c second_map h

    a-there : Contains (all_corners w) at_a
    a-there = in-whole at_a (Contains-append_left one rest at_a (ends-there a xs b ys).0)

    b-there : Contains (all_corners w) at_b
    b-there = in-whole at_b (Contains-append_left one rest at_b (ends-there a xs b ys).1)

    fresh-there : (c : Corner) → Contains fresh c → Contains (all_corners p) c
    fresh-there c h = elim (from-fresh c h) [
      | inl is ↦ absurd (free c (subst (Contains (all_corners w)) is a-there) (fresh-on c h))
      | inr k ↦ elim k [
        | inl is ↦ absurd (free c (subst (Contains (all_corners w)) is b-there) (fresh-on c h))
        | inr there ↦ in-parted c there
      ]
    ]

    of-chain : (c : Corner) → Contains both c → Contains (all_corners p) c
    of-chain c h =
        fresh-there c
        (Contains-append_right (parted_by (first_of inner b) at_a)
        (parted_by (last_of a inner) at_b ++ both) c
        (Contains-append_right (parted_by (last_of a inner) at_b) both c h))

    pub is_parted : IsParted w p (a ∷ inner ++ b ∷ []) at_a at_b
    is_parted =
        let next = next-is a inner b in
        let end = end-is a inner b in
        let last = last-is a inner b in
        let sides = sides_of_chain-is a inner b in
        let ends = parted_by (last_of a inner) at_b ++ both in
        let all = parted_by (first_of inner b) at_a ++ ends in
        let a1 = corner (last_of b ys) a (first_of inner b) in
        let a2 = corner (first_of inner b) a (first_of xs b) in
        let b1 = corner (last_of a xs) b (last_of a inner) in
        let b2 = corner (last_of a inner) b (first_of ys a) in
        record {
          first_there = a-there;
          first_at = refl;
          last_there = b-there;
          last_at = sym end;
          to_start =
              subst (λ (n : ℕ). Contains (all_corners p) (corner (last_of b ys) a n)) (sym next)
              (fresh-there a1 (Contains-first a1 (a2 ∷ ends)));
          from_start =
              subst (λ (n : ℕ). Contains (all_corners p) (corner n a (first_of xs b))) (sym next)
              (fresh-there a2 (Contains-later a1 (a2 ∷ ends) a2 (Contains-first a2 ends)));
          to_end =
              subst (λ (n : ℕ × ℕ). Contains (all_corners p) (corner (last_of a xs) n.0 n.1))
              (λ i. (sym end i, sym last i))
              (fresh-there b1
              (Contains-later a1 (a2 ∷ ends) b1
              (Contains-later a2 ends b1 (Contains-first b1 (b2 ∷ both)))));
          from_end =
              subst (λ (n : ℕ × ℕ). Contains (all_corners p) (corner n.1 n.0 (first_of ys a)))
              (λ i. (sym end i, sym last i))
              (fresh-there b2
              (Contains-later a1 (a2 ∷ ends) b2
              (Contains-later a2 ends b2
              (Contains-later b1 (b2 ∷ both) b2 (Contains-first b2 both)))));
          along = λ c h.
              of-chain c
              (Contains-append_left (between a inner b) (between b (reverse inner) a) c h);
          back = λ c h.
              of-chain (corner_back c)
              (Contains-append_right (between a inner b) (between b (reverse inner) a)
              (corner_back c) (to-back a inner b c h));
          stays = λ c h other far.
              elim (from-whole c
              (Contains-permutation (all_corners w) whole c
              (IsPermutation-sym whole (all_corners w) first_map) h)) [
                | inl is ↦ absurd (other (sym is))
                | inr k ↦ elim k [ inl is ↦ absurd (far (sym is)) | inr there ↦ in-parted c there ]
              ];
          joins = λ c h off.
              elim (from-parted c
              (Contains-permutation (all_corners p) parted c
              (IsPermutation-sym parted (all_corners p) second_map) h)) [
                | inl came ↦
                    absurd (off
                    (subst (λ (l : List Side). IsOn l c) (sym sides) (fresh-on c came)))
                | inr old ↦ in-whole c old
              ];
          free = λ c h on. free c h (subst (λ (l : List Side). IsOn l c) sides on);
        }

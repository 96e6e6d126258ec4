-- Anchors in the order of their heights, at which the sides of an outline are counted.
use Rattle.std.proofs.Common.{◌≡◌, ◌≤◌, ◌<◌, ℕ, zero, suc, ◌+◌, ◌-◌, ◌%◌, List, [], ◌∷◌, ◌++◌, length, take, drop, map, get_or, refl, sym, ap, ◌∙◌, subst, Bool, true, false, not, nat_eq, cond, arith, min, max, ◌⊎◌, inl, inr, ℤ, pos, ◌+ℤ◌, ◌≤ℤ◌}
use Rattle.std.specs.Prelude.{◌||◌, count_by, unsigned_abs}
use Rattle.std.specs.List.{enumerate_from, IsDistinct, AllWithin}
use Rattle.std.specs.List.Sorted.{IsPermutation, IsNonDecreasingBy, IsStrictlyIncreasing, IsPartitionPoint}
use Rattle.std.proofs.lemmas.Int.{ints}
use Rattle.std.proofs.lemmas.List.{same_lists, get_or_default, length-map, get_or-map, map-append, length-take, length-drop, get_or-take, get_or-drop, take-append-drop}
use Rattle.std.proofs.lemmas.List.Sums.{sum_by-append, sum_by-cons}
use Rattle.std.proofs.lemmas.List.Sorted.{IsPermutation-map, IsPermutation-trans, All-permutation, length_permutation}
use Rattle.std.proofs.lemmas.List.Elements.{All-get_or, All-from_get_or}
use Rattle.std.proofs.lemmas.List.FromFn.{length-enumerate_from, get_or-enumerate_from}
use Rattle.std.proofs.lemmas.Bool.Decides.{nat_tests}
use Rattle.std.proofs.lemmas.Map.Keys.{IsDistinct-IsPermutation, IsDistinct-from_apart, IsStrictlyIncreasing-from_distinct}
use Rattle.std.proofs.lemmas.Simd.{map-map}
use Rattle.geo_exact.specs.Position.{Position, coordinate_limit}
use Rattle.geo_exact.specs.Inside.{is_counted, is_counted_upwards, is_inside}
use Rattle.cad_valid.specs.Boxes.{from_least}
use Rattle.cad_valid.specs.Anchors.{height_of, counted_at, with_one_more}
use Rattle.cad_valid.specs.declared.anchors.Anchor.{Anchor}
use Rattle.cad_valid.proofs.InsideBox.{rises_past, odd}

-- ---- One side more

-- one more side in the count, at the end
inside-push : (sides : List (Position × Position)) (side : Position × Position) (q : Position)
    → is_inside (sides ++ side ∷ []) q ≡ cond (is_counted side.0 side.1 q) (not (is_inside sides q)) (is_inside sides q)
inside-push sides side q =
    let counted : Position × Position → Bool = λ s. is_counted s.0 s.1 q in
    ap (λ (n : ℕ). nat_eq (n % 2) 1) (sum_by-append (λ (s : Position × Position). cond (counted s) 1 0) sides (side ∷ [])
    ∙ ap (λ (n : ℕ). count_by counted sides + n) (sum_by-cons (λ (s : Position × Position). cond (counted s) 1 0) side []))
    ∙ by (counted side) (count_by counted sides)
  where
    by : (b : Bool) (n : ℕ) → nat_eq ((n + (cond b 1 0 + 0)) % 2) 1 ≡ cond b (not (nat_eq (n % 2) 1)) (nat_eq (n % 2) 1)
    by true n = ap (λ (k : ℕ). nat_eq (k % 2) 1) (omega arith) ∙ odd n (nat_eq (n % 2) 1) (nat_eq ((1 + n) % 2) 1) refl refl
    by false n = ap (λ (k : ℕ). nat_eq (k % 2) 1) (omega arith)

-- so it is at the anchor there
counted-push : (sides : List (Position × Position)) (side : Position × Position) (placed : ℕ × Position)
    → with_one_more side (counted_at sides placed) ≡ counted_at (sides ++ side ∷ []) placed
counted-push sides side placed = λ i. record { at = placed.1; place = placed.0; inside = sym (inside-push sides side placed.1) i }

-- where it isn't counted, the anchor stays
uncounted : (a b : Position) (anchor : Anchor) → (is_counted a b anchor.at ≡ true → ⊥) → with_one_more (a, b) anchor ≡ anchor
uncounted a b anchor never = λ i. record { at = anchor.at; place = anchor.place; inside = by (is_counted a b anchor.at) never i }
  where
    by : (s : Bool) → (s ≡ true → ⊥) → cond s (not anchor.inside) anchor.inside ≡ anchor.inside
    by true never = absurd (never refl)
    by false never = refl

-- what is told of each element of a numbered list but not of its number
of-enumerated : {X Y : Type 0} (f : X → Y) (n : ℕ) (xs : List X) → map (λ (p : ℕ × X). f p.1) (enumerate_from n xs) ≡ map f xs
of-enumerated f n [] = refl
of-enumerated f n (x ∷ xs) = ap (λ l. f x ∷ l) (of-enumerated f (n + 1) xs)

-- ---- Elements in the order of their numbers

-- numbers that rise lie as far apart as their places at least
far-apart : (ks : List ℕ) → IsStrictlyIncreasing ks → (k j : ℕ) → k + j < length ks → get_or ks k 0 + j ≤ get_or ks (k + j) 0
far-apart ks rise k zero within =
    let there : get_or ks (k + 0) 0 ≡ get_or ks k 0 = ap (λ (n : ℕ). get_or ks n 0) (omega arith) in
    omega (arith, there)
far-apart ks rise k (suc j) within =
    let before = far-apart ks rise k j (omega arith) in
    let step : get_or ks (k + j) 0 < get_or ks (k + j + 1) 0 = rise (k + j) (omega arith) in
    let there : get_or ks (k + suc j) 0 ≡ get_or ks (k + j + 1) 0 = ap (λ (n : ℕ). get_or ks n 0) (omega arith) in
    omega (arith, before, step, there)

-- numbers of different places differ
differ : (m n i j : ℕ) → m ≡ i → n ≡ j → i < j → nat_eq m n ≡ false
differ m n i j one other before = grind (arith, nat_tests)

module _ {X : Type 0} (number : X → ℕ) (xs ys : List X) (numbered : (k : ℕ) (d : X) → k < length xs → number (get_or xs k d) ≡ k)
    (same : IsPermutation xs ys) (rise : IsNonDecreasingBy number ys) where
  -- their numbers differ, in whatever order they stand
  they-differ : IsDistinct nat_eq (map number ys)
  they-differ = IsDistinct-IsPermutation nat_eq (λ i j. grind (arith, nat_tests)) (map number xs) (map number ys) (IsPermutation-map number xs ys same)
      (IsDistinct-from_apart nat_eq (map number xs) (apart xs numbered))
    where
      apart : (l : List X) → ((k : ℕ) (d : X) → k < length l → number (get_or l k d) ≡ k) → (i j d : ℕ) → i < j → j < length (map number l)
          → nat_eq (get_or (map number l) i d) (get_or (map number l) j d) ≡ false
      apart [] numbered i j d before within = absurd (omega arith)
      apart (x ∷ l) numbered i j d before within =
          let long = length-map (x ∷ l) number in
          let one = get_or-map number (x ∷ l) i x d (omega (arith, long)) in
          let other = get_or-map number (x ∷ l) j x d (omega (arith, long)) in
          let at_one = numbered i x (omega (arith, long)) in
          let at_other = numbered j x (omega (arith, long)) in
          differ (get_or (map number (x ∷ l)) i d) (get_or (map number (x ∷ l)) j d) i j (one ∙ at_one) (other ∙ at_other) before

  -- so each is above the one before
  they-rise : IsStrictlyIncreasing (map number ys)
  they-rise = IsStrictlyIncreasing-from_distinct (map number ys) (never-less ys rise) they-differ
    where
      never-less : (l : List X) → IsNonDecreasingBy number l → (i j d : ℕ) → i ≤ j → j < length (map number l)
          → get_or (map number l) i d ≤ get_or (map number l) j d
      never-less [] rise i j d le within = absurd (omega arith)
      never-less (x ∷ l) rise i j d le within =
          let long = length-map (x ∷ l) number in
          let one = get_or-map number (x ∷ l) i x d (omega (arith, long)) in
          let other = get_or-map number (x ∷ l) j x d (omega (arith, long)) in
          omega (arith, one, other, rise i j x le (omega (arith, long)))

  -- each element has a number below the length, and stands there in the first list
  abbrev stands : X → Type 0
  stands y = (number y < length xs) × ((d : X) → get_or xs (number y) d ≡ y)

  -- so it is in any order
  they-stand : (k : ℕ) (d : X) → k < length ys → stands (get_or ys k d)
  they-stand k d within = All-get_or stands ys k d within (All-permutation stands xs ys same (All-from_get_or stands xs d (λ i below.
      let is = numbered i d below in
      (omega (arith, is), λ e. ap (λ (n : ℕ). get_or xs n e) is ∙ get_or_default xs i e d below))))

  -- and the number is the place again: there are as many below it as places before it, and as many above as after it
  numbered-back : (k : ℕ) (d : X) → k < length ys → number (get_or ys k d) ≡ k
  numbered-back k d within =
      let long = length-map ys number in
      let alike = length_permutation xs ys same in
      let here = get_or-map number ys k d 0 (omega (arith, long)) in
      let last = get_or-map number ys (k + (length ys - 1 - k)) d 0 (omega (arith, long)) in
      let stand = they-stand (k + (length ys - 1 - k)) d (omega arith) in
      let below = stand.0 in
      let from = far-apart (map number ys) they-rise 0 k (omega (arith, long)) in
      let there : get_or (map number ys) (0 + k) 0 ≡ get_or (map number ys) k 0 = ap (λ (n : ℕ). get_or (map number ys) n 0) (omega arith) in
      let to = far-apart (map number ys) they-rise k (length ys - 1 - k) (omega (arith, long)) in
      omega (arith, alike, here, last, below, from, there, to)

  -- elements that each have their place for their number are so again, once they are in the order of their numbers
  pub as-before : xs ≡ ys
  as-before =
      let alike = length_permutation xs ys same in
      same_lists xs ys (sym alike) (λ k d within.
      let stand = they-stand k d (omega (arith, alike)) in
      sym (ap (λ (n : ℕ). get_or xs n d) (numbered-back k d (omega (arith, alike)))) ∙ stand.1 d)

-- ---- Anchors with the sides so far

module _ (positions : List Position) where
  -- the anchors at the positions with these sides counted, the lowest first
  pub record AreCounted (sides : List (Position × Position)) (anchors : List Anchor) : Type 0 where
    pub same : IsPermutation (map (counted_at sides) (enumerate_from 0 positions)) anchors
    pub rise : IsNonDecreasingBy height_of anchors

  pub counted-more : (sides : List (Position × Position)) (side : Position × Position) (old : List Anchor) → AreCounted sides old
      → AreCounted (sides ++ side ∷ []) (map (with_one_more side) old)
  counted-more sides side old is = record {
    same = subst (λ (l : List Anchor). IsPermutation l (map (with_one_more side) old))
        (map-map (with_one_more side) (counted_at sides) (enumerate_from 0 positions)
        ∙ λ i. map (λ (placed : ℕ × Position). counted-push sides side placed i) (enumerate_from 0 positions))
        (IsPermutation-map (with_one_more side) (map (counted_at sides) (enumerate_from 0 positions)) old is.same);
    rise = λ i j d le lt.
        let long = length-map old (with_one_more side) in
        let first = ap height_of (get_or-map (with_one_more side) old i d d (omega (arith, long))) in
        let later = ap height_of (get_or-map (with_one_more side) old j d d (omega (arith, long))) in
        omega (arith, first, later, is.rise i j d le (omega (arith, long)));
  }

  -- the anchor at a place
  counted-there : (sides : List (Position × Position)) (k : ℕ) (d : Anchor) → k < length (map (counted_at sides) (enumerate_from 0 positions))
      → (get_or (map (counted_at sides) (enumerate_from 0 positions)) k d).place ≡ k
  counted-there sides k d within =
      let long = length-map (enumerate_from 0 positions) (counted_at sides) in
      let numbers = length-enumerate_from 0 positions in
      let placed : ℕ × Position = (d.place, d.at) in
      let there = get_or-map (counted_at sides) (enumerate_from 0 positions) k placed d (omega (arith, long)) in
      let is = get_or-enumerate_from 0 positions k placed (omega (arith, long, numbers)) in
      ap (λ (a : Anchor). a.place) there ∙ ap (λ (p : ℕ × Position). p.0) is ∙ omega arith

  -- in the order of their places they tell which positions are inside
  pub counted-back : (sides : List (Position × Position)) (anchors back : List Anchor) → AreCounted sides anchors
      → IsPermutation anchors back → IsNonDecreasingBy (λ (a : Anchor). a.place) back
      → map (λ (a : Anchor). a.inside) back ≡ map (is_inside sides) positions
  counted-back sides anchors back is same rise =
      ap (map (λ (a : Anchor). a.inside)) (sym (as-before (λ (a : Anchor). a.place) (map (counted_at sides) (enumerate_from 0 positions)) back
      (counted-there sides) (IsPermutation-trans (map (counted_at sides) (enumerate_from 0 positions)) anchors back is.same same) rise))
      ∙ map-map (λ (a : Anchor). a.inside) (counted_at sides) (enumerate_from 0 positions)
      ∙ of-enumerated (is_inside sides) 0 positions

-- ---- A side is counted at those anchors alone whose height it spans

-- a height is what it is called, where the coordinate isn't below the least
height-is : (z : ℤ) → pos 0 ≤ℤ (z +ℤ coordinate_limit) → pos (from_least z) ≡ z +ℤ coordinate_limit
height-is z h = by (z +ℤ coordinate_limit) h
  where
    by : (w : ℤ) → pos 0 ≤ℤ w → pos (unsigned_abs w) ≡ w
    by w h = grind (arith, ints)

module _ (a b : Position) (low high : ℕ) (a_low : pos low ≤ℤ (a.y +ℤ coordinate_limit)) (b_low : pos low ≤ℤ (b.y +ℤ coordinate_limit))
    (a_high : (a.y +ℤ coordinate_limit) ≤ℤ pos high) (b_high : (b.y +ℤ coordinate_limit) ≤ℤ pos high) where
  -- where a side is counted, it reaches from no higher than there to higher
  spanned : (q : Position) → is_counted a b q ≡ true → (low ≤ from_least q.y) × (from_least q.y < high)
  spanned q h = by (is_counted_upwards a b q) refl h
    where
      up : (p r : Position) → pos low ≤ℤ (p.y +ℤ coordinate_limit) → (r.y +ℤ coordinate_limit) ≤ℤ pos high
          → is_counted_upwards p r q ≡ true → (low ≤ from_least q.y) × (from_least q.y < high)
      up p r lies reaches rises =
          let past = rises_past p r q rises in
          let from = past.0 in
          let to = past.1 in
          let is = height-is q.y (omega (arith, ints)) in
          (omega (arith, ints), omega (arith, ints))

      by : (s : Bool) → is_counted_upwards a b q ≡ s → (s || is_counted_upwards b a q) ≡ true → (low ≤ from_least q.y) × (from_least q.y < high)
      by true rises h = up a b a_low b_high rises
      by false rises h = up b a b_low a_high h

  -- so an anchor below it stays, and one above
  below-stays : (anchor : Anchor) → height_of anchor < low → with_one_more (a, b) anchor ≡ anchor
  below-stays anchor below = uncounted a b anchor (λ h. let s = spanned anchor.at h in let at_least = s.0 in omega arith)

  above-stays : (anchor : Anchor) → high ≤ height_of anchor → with_one_more (a, b) anchor ≡ anchor
  above-stays anchor above = uncounted a b anchor (λ h. let s = spanned anchor.at h in let below = s.1 in omega arith)

-- ---- What stays, before a place and after it

untouched : {X : Type 0} (f : X → X) (xs : List X) → ((k : ℕ) (d : X) → k < length xs → f (get_or xs k d) ≡ get_or xs k d) → map f xs ≡ xs
untouched f [] stay = refl
untouched f (x ∷ xs) stay = λ i. stay 0 x (omega arith) i ∷ untouched f xs (λ k d lt. stay (suc k) d (omega arith)) i

module _ {X : Type 0} (f : X → X) (xs : List X) (n : ℕ) where
  pub first-stay : n ≤ length xs → AllWithin (λ x. f x ≡ x) xs 0 n → map f (take n xs) ++ drop n xs ≡ xs
  first-stay within stay = ap (λ (l : List X). l ++ drop n xs) (untouched f (take n xs) (λ k d lt.
      let long = length-take n xs in
      let same = get_or-take n xs k d (omega (arith, long)) in
      ap f same ∙ stay k d (omega arith) (omega (arith, long)) ∙ sym same)) ∙ take-append-drop n xs

  pub rest-stay : AllWithin (λ x. f x ≡ x) xs n (length xs) → map f (take n xs) ++ drop n xs ≡ map f xs
  rest-stay stay = ap (λ (l : List X). map f (take n xs) ++ l) (sym (untouched f (drop n xs) (λ k d lt.
      let long = length-drop n xs in
      let same = get_or-drop n xs k d in
      ap f same ∙ stay (n + k) d (omega arith) (omega (arith, long)) ∙ sym same))) ∙ sym (map-append f (take n xs) (drop n xs))
      ∙ ap (map f) (take-append-drop n xs)

-- ---- So a side need be counted at no others

-- the side's ends are so high, counted from the least coordinate that there can be, and low and high
-- are the lower and the higher of the two
pub record Reaches (a b : Position) (ay by low high : ℕ) : Type 0 where
  pub from : pos ay ≡ a.y +ℤ coordinate_limit
  pub to : pos by ≡ b.y +ℤ coordinate_limit
  pub lower : low ≡ min ay by
  pub higher : high ≡ max ay by

module _ (a b : Position) (ay by low high : ℕ) (reaches : Reaches a b ay by low high) (anchors : List Anchor) where
  abbrev more : Anchor → Anchor
  more = with_one_more (a, b)

  stays : (x : Anchor) → (height_of x < low) ⊎ (high ≤ height_of x) → more x ≡ x
  stays x apart =
      let from = reaches.from in
      let to = reaches.to in
      let lower = reaches.lower in
      let higher = reaches.higher in
      elim apart [
        | inl under ↦ below-stays a b low high (omega (arith, ints)) (omega (arith, ints)) (omega (arith, ints)) (omega (arith, ints)) x under
        | inr over ↦ above-stays a b low high (omega (arith, ints)) (omega (arith, ints)) (omega (arith, ints)) (omega (arith, ints)) x over
      ]

  pub none-before : (first : ℕ) → IsPartitionPoint (λ (x : Anchor). height_of x < low) (λ (x : Anchor). low ≤ height_of x) anchors first
      → first ≤ length anchors → anchors ≡ map more (take first anchors) ++ drop first anchors
  none-before first point within =
      sym (first-stay more anchors first within (λ k d from below. stays (get_or anchors k d) (inl (point.0 k d from below))))

  pub none-after : (end place : ℕ) → IsPartitionPoint (λ (x : Anchor). height_of x < high) (λ (x : Anchor). high ≤ height_of x) anchors end
      → end ≤ place → map more (take place anchors) ++ drop place anchors ≡ map more anchors
  none-after end place point past =
      rest-stay more anchors place (λ k d from last. stays (get_or anchors k d) (inr (point.1 k d (omega arith) last)))

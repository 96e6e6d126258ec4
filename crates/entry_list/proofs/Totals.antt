-- Sums of blocks, of marks and of such sums, stated of any numbers. A change of one number is
-- three cases of arithmetic at each level: the blocks before, the block itself, the blocks
-- behind.
use Rattle.std.proofs.Common.{◌≡◌, ◌≢◌, ℕ, zero, suc, ◌+◌, ◌*◌, ◌/◌, ◌-◌, ◌<◌, ◌≤◌, List, [], ◌∷◌, ◌++◌, length, get_or, set, take, min, refl, sym, ap, subst, arith, add-one, add-zero, length-append, ◌⊎◌, inl, inr, get_or-set_other}
use Rattle.std.proofs.lemmas.List.{get_or_past, get_or_read, length-set, length-take-le}
use Rattle.std.proofs.lemmas.Grind.{get_or-set_at}
use Rattle.std.proofs.lemmas.Bool.{cases_order, cases_lt, cases_eq}
use Rattle.entry_list.specs.Totals.{total_before, AreMarks, AreBlockSums, IsTallied}

pub total-zero : (xs : List ℕ) → total_before 0 xs ≡ 0
unfolding total_before
total-zero xs = refl

total-suc : (i : ℕ) (xs : List ℕ) → total_before (suc i) xs ≡ total_before i xs + get_or xs i 0
unfolding total_before
total-suc zero [] = omega arith
total-suc zero (x ∷ xs) = omega arith
total-suc (suc n) [] = omega arith
total-suc (suc n) (x ∷ xs) = omega (arith, total-suc n xs)

pub total-more : (i : ℕ) (xs : List ℕ) → total_before (i + 1) xs ≡ total_before i xs + get_or xs i 0
total-more i xs = rw add-one (total-suc i xs)

total-add : (n i : ℕ) (xs : List ℕ) → total_before i xs ≤ total_before (i + n) xs
total-add zero i xs = rw add-zero (omega arith)
total-add (suc n) i xs =
    let e : i + suc n ≡ suc (i + n) = omega arith in
    rw e (omega (arith, total-suc (i + n) xs, total-add n i xs))

pub total-le : (i j : ℕ) (xs : List ℕ) → i ≤ j → total_before i xs ≤ total_before j xs
total-le i j xs h =
    let e : j ≡ i + (j - i) = omega arith in
    rw e (total-add (j - i) i xs)

total-add-ones : (n i : ℕ) (xs : List ℕ) → AreMarks xs
    → total_before (i + n) xs ≤ total_before i xs + n
total-add-ones zero i xs a = rw add-zero (omega arith)
total-add-ones (suc n) i xs a =
    let e : i + suc n ≡ suc (i + n) = omega arith in
    rw e (omega (arith, total-suc (i + n) xs, total-add-ones n i xs a, a (i + n)))

pub total-le-ones : (i j : ℕ) (xs : List ℕ) → AreMarks xs → i ≤ j
    → total_before j xs ≤ total_before i xs + (j - i)
total-le-ones i j xs a h =
    let e : j ≡ i + (j - i) = omega arith in
    let f : total_before (i + (j - i)) xs ≤ total_before i xs + (j - i) =
    total-add-ones (j - i) i xs a in
    subst (λ (k : ℕ). total_before k xs ≤ total_before i xs + (j - i)) (sym e) f

pub total-all : (i : ℕ) (xs : List ℕ) → length xs ≤ i
    → total_before i xs ≡ total_before (length xs) xs
unfolding total_before
total-all zero [] h = refl
total-all zero (x ∷ xs) h = absurd (omega arith)
total-all (suc n) [] h = refl
total-all (suc n) (x ∷ xs) h = ap (λ k. x + k) (total-all n xs (omega arith))

pub total-set-le : (k i y : ℕ) (xs : List ℕ) → k ≤ i
    → total_before k (set xs i y) ≡ total_before k xs
unfolding total_before
total-set-le zero i y xs h = refl
total-set-le (suc k) i y [] h = refl
total-set-le (suc k) zero y (x ∷ xs) h = absurd (omega arith)
total-set-le (suc k) (suc i) y (x ∷ xs) h = ap (λ n. x + n) (total-set-le k i y xs (omega arith))

pub total-set-lt : (k i y : ℕ) (xs : List ℕ) → i < k → i < length xs
    → total_before k (set xs i y) + get_or xs i 0 ≡ total_before k xs + y
unfolding total_before
total-set-lt zero i y xs h l = absurd (omega arith)
total-set-lt (suc k) i y [] h l = absurd (omega arith)
total-set-lt (suc k) zero y (x ∷ xs) h l = omega arith
total-set-lt (suc k) (suc i) y (x ∷ xs) h l =
    omega (arith, total-set-lt k i y xs (omega arith) (omega arith))

pub total-push-le : (k y : ℕ) (xs : List ℕ) → k ≤ length xs
    → total_before k (xs ++ y ∷ []) ≡ total_before k xs
unfolding total_before
total-push-le zero y xs h = refl
total-push-le (suc k) y [] h = absurd (omega arith)
total-push-le (suc k) y (x ∷ xs) h = ap (λ n. x + n) (total-push-le k y xs (omega arith))

pub total-push-lt : (k y : ℕ) (xs : List ℕ) → length xs < k
    → total_before k (xs ++ y ∷ []) ≡ total_before k xs + y
unfolding total_before
total-push-lt zero y xs h = absurd (omega arith)
total-push-lt (suc zero) y [] h = omega arith
total-push-lt (suc (suc k)) y [] h = omega arith
total-push-lt (suc k) y (x ∷ xs) h = omega (arith, total-push-lt k y xs (omega arith))

-- the sums before a block are the numbers before it
pub blocks : (j : ℕ) (xs sums : List ℕ) → AreBlockSums xs sums
    → total_before (j * 64) xs ≡ total_before j sums
blocks zero xs sums h = omega (arith, total-zero xs, total-zero sums)
blocks (suc j) xs sums h =
    let e : suc j * 64 ≡ j * 64 + 64 = omega arith in
    rw e (omega (arith, h.each j, total-suc j sums, blocks j xs sums h))

empty_sums : AreBlockSums [] []
unfolding total_before
empty_sums = record {
  each =
      λ j. omega (
        arith,
        total-all (j * 64) [] (omega arith),
        total-all (j * 64 + 64) [] (omega arith),
      );
  room = omega arith;
}

-- a number is at most the sum of its block
part-le-sum : (i : ℕ) (xs sums : List ℕ) → AreBlockSums xs sums
    → get_or xs i 0 ≤ get_or sums (i / 64) 0
part-le-sum i xs sums h =
    omega (
      arith,
      h.each (i / 64),
      total-more i xs,
      total-le (i / 64 * 64) i xs (omega arith),
      total-le (i + 1) (i / 64 * 64 + 64) xs (omega arith),
    )

-- a sum of 64 marks, and a total of 64 such sums
pub sum-small : (j : ℕ) (marks sums totals : List ℕ) → IsTallied marks sums totals
    → get_or sums j 0 ≤ 64
sum-small j marks sums totals h =
    omega (
      arith,
      h.sums_right.each j,
      total-le-ones (j * 64) (j * 64 + 64) marks h.ones (omega arith),
    )

pub whole-small : (j : ℕ) (marks sums totals : List ℕ) → IsTallied marks sums totals
    → get_or totals j 0 ≤ 4096
whole-small j marks sums totals h =
    omega (
      arith,
      h.totals_right.each j,
      blocks (j * 64) marks sums h.sums_right,
      blocks (j * 64 + 64) marks sums h.sums_right,
      total-le-ones (j * 64 * 64) ((j * 64 + 64) * 64) marks h.ones (omega arith),
    )

pub total-small : (i : ℕ) (marks : List ℕ) → AreMarks marks → total_before i marks ≤ i
total-small i marks a = omega (arith, total-le-ones 0 i marks a (omega arith), total-zero marks)

ones-set : (i y k : ℕ) (marks : List ℕ) → AreMarks marks → y ≤ 1
    → (k < length marks) ⊎ (length marks ≤ k) → (k ≡ i) ⊎ (k ≡ i → ⊥)
    → get_or (set marks i y) k 0 ≤ 1
ones-set i y k marks a u (inr past) e =
    rw (get_or_past (set marks i y) k 0 (rw length-set past)) (omega arith)
ones-set i y k marks a u (inl lt) (inl e) = rw (get_or-set_at marks i k y 0 e (omega arith)) u
ones-set i y k marks a u (inl lt) (inr ne) = rw (get_or-set_other marks i k y 0 ne) (a k)

-- a number is set: the sum of its block changes by as much, and the others stay
set-each : (i y n j : ℕ) (xs sums : List ℕ) → AreBlockSums xs sums → i < length xs
    → n + get_or xs i 0 ≡ get_or sums (i / 64) 0 + y
    → (j ≡ i / 64) ⊎ ((j < i / 64) ⊎ (i / 64 < j))
    → total_before (j * 64) (set xs i y) + get_or (set sums (i / 64) n) j 0
    ≡ total_before (j * 64 + 64) (set xs i y)
set-each i y n j xs sums h l e (inl same) =
    let lt : i / 64 < length sums = omega (arith, h.room) in
    let a : get_or (set sums (i / 64) n) j 0 ≡ n = get_or-set_at sums (i / 64) j n 0 same lt in
    let s : get_or sums (i / 64) 0 ≡ get_or sums j 0 = ap (λ k. get_or sums k 0) (sym same) in
    omega (
      arith,
      a,
      s,
      e,
      h.each j,
      total-set-le (j * 64) i y xs (omega arith),
      total-set-lt (j * 64 + 64) i y xs (omega arith) l,
    )
set-each i y n j xs sums h l e (inr (inl lt)) =
    omega (
      arith,
      get_or-set_other sums (i / 64) j n 0 (omega arith),
      h.each j,
      total-set-le (j * 64) i y xs (omega arith),
      total-set-le (j * 64 + 64) i y xs (omega arith),
    )
set-each i y n j xs sums h l e (inr (inr gt)) =
    omega (
      arith,
      get_or-set_other sums (i / 64) j n 0 (omega arith),
      h.each j,
      total-set-lt (j * 64) i y xs (omega arith) l,
      total-set-lt (j * 64 + 64) i y xs (omega arith) l,
    )

set_sums : (i y n : ℕ) (xs sums : List ℕ) → AreBlockSums xs sums → i < length xs
    → n + get_or xs i 0 ≡ get_or sums (i / 64) 0 + y
    → AreBlockSums (set xs i y) (set sums (i / 64) n)
set_sums i y n xs sums h l e = record {
  each = λ j. set-each i y n j xs sums h l e (cases_order j (i / 64));
  room = omega (arith, h.room, length-set xs i y, length-set sums (i / 64) n);
}

-- a further sum of 0
push-zero : (xs : List ℕ) (k : ℕ) → get_or (xs ++ 0 ∷ []) k 0 ≡ get_or xs k 0
push-zero [] zero = refl
push-zero [] (suc k) = refl
push-zero (x ∷ xs) zero = refl
push-zero (x ∷ xs) (suc k) = push-zero xs k

room_sums : (xs sums : List ℕ) → AreBlockSums xs sums → AreBlockSums xs (sums ++ 0 ∷ [])
room_sums xs sums h = record {
  each = λ j. rw (push-zero sums j) (h.each j);
  room = omega (arith, h.room, length-append sums (0 ∷ []));
}

-- the sum of another block stays, where both its ends have as much more before them
push-other : (y j more : ℕ) (xs sums : List ℕ) → AreBlockSums xs sums → j ≢ length xs / 64
    → total_before (j * 64) (xs ++ y ∷ []) ≡ total_before (j * 64) xs + more
    → total_before (j * 64 + 64) (xs ++ y ∷ []) ≡ total_before (j * 64 + 64) xs + more
    → total_before (j * 64) (xs ++ y ∷ [])
    + get_or (set sums (length xs / 64) (get_or sums (length xs / 64) 0 + y)) j 0
    ≡ total_before (j * 64 + 64) (xs ++ y ∷ [])
push-other y j more xs sums h ne first last =
    let n : ℕ = get_or sums (length xs / 64) 0 + y in
    let a : get_or (set sums (length xs / 64) n) j 0 ≡ get_or sums j 0 =
    get_or-set_other sums (length xs / 64) j n 0 ne in
    omega (arith, a, h.each j, first, last)

push-each : (y j : ℕ) (xs sums : List ℕ) → AreBlockSums xs sums
    → length xs / 64 < length sums
    → (j ≡ length xs / 64) ⊎ ((j < length xs / 64) ⊎ (length xs / 64 < j))
    → total_before (j * 64) (xs ++ y ∷ [])
    + get_or (set sums (length xs / 64) (get_or sums (length xs / 64) 0 + y)) j 0
    ≡ total_before (j * 64 + 64) (xs ++ y ∷ [])
push-each y j xs sums h l (inl same) =
    let n : ℕ = get_or sums (length xs / 64) 0 + y in
    let a : get_or (set sums (length xs / 64) n) j 0 ≡ n =
    get_or-set_at sums (length xs / 64) j n 0 same l in
    let s : get_or sums (length xs / 64) 0 ≡ get_or sums j 0 =
    ap (λ k. get_or sums k 0) (sym same) in
    omega (
      arith,
      a,
      s,
      h.each j,
      total-push-le (j * 64) y xs (omega arith),
      total-push-lt (j * 64 + 64) y xs (omega arith),
    )
push-each y j xs sums h l (inr (inl lt)) =
    push-other y j 0 xs sums h (omega arith)
    (omega (arith, total-push-le (j * 64) y xs (omega arith)))
    (omega (arith, total-push-le (j * 64 + 64) y xs (omega arith)))
push-each y j xs sums h l (inr (inr gt)) =
    push-other y j y xs sums h (omega arith) (total-push-lt (j * 64) y xs (omega arith))
    (total-push-lt (j * 64 + 64) y xs (omega arith))

ones-push : (y : ℕ) (marks : List ℕ) → y ≤ 1 → AreMarks marks → AreMarks (marks ++ y ∷ [])
ones-push y [] u a zero = u
ones-push y [] u a (suc k) = omega arith
ones-push y (x ∷ xs) u a zero = a 0
ones-push y (x ∷ xs) u a (suc k) = ones-push y xs u (λ n. a (suc n)) k

push_sums : (y : ℕ) (xs sums : List ℕ) → AreBlockSums xs sums
    → length xs / 64 < length sums
    → AreBlockSums (xs ++ y ∷ [])
    (set sums (length xs / 64) (get_or sums (length xs / 64) 0 + y))
push_sums y xs sums h l = record {
  each = λ j. push-each y j xs sums h l (cases_order j (length xs / 64));
  room =
      omega (
        arith,
        h.room,
        length-append xs (y ∷ []),
        length-set sums (length xs / 64) (get_or sums (length xs / 64) 0 + y),
      );
}

within-by : (p c : ℕ) (marks : List ℕ) → total_before p marks ≤ c
    → c < total_before (length marks) marks → (p < length marks) ⊎ (length marks ≤ p)
    → p < length marks
within-by p c marks le lt (inl h) = h
within-by p c marks le lt (inr h) = absurd (omega (arith, total-all p marks h))

-- where the marks before p are fewer than all, p is a place
pub mark_within : (p c : ℕ) (marks : List ℕ) → total_before p marks ≤ c
    → c < total_before (length marks) marks → p < length marks
mark_within p c marks le lt = within-by p c marks le lt (cases_lt p (length marks))

all-blocks : (xs sums : List ℕ) → AreBlockSums xs sums
    → total_before (length xs) xs ≡ total_before (length sums) sums
all-blocks xs sums h =
    omega (
      arith,
      blocks (length sums) xs sums h,
      total-all (length sums * 64) xs h.room,
    )

-- so it is with all sums, and with all totals
pub all-sums : (marks sums totals : List ℕ) → IsTallied marks sums totals
    → total_before (length marks) marks ≡ total_before (length sums) sums
all-sums marks sums totals h = all-blocks marks sums h.sums_right

pub all-totals : (marks sums totals : List ℕ) → IsTallied marks sums totals
    → total_before (length marks) marks ≡ total_before (length totals) totals
all-totals marks sums totals h =
    omega (arith, all-blocks marks sums h.sums_right, all-blocks sums totals h.totals_right)

total-nil : (k : ℕ) → total_before k [] ≡ 0
unfolding total_before
total-nil zero = refl
total-nil (suc k) = refl

pub total-take : (k n : ℕ) (xs : List ℕ) → total_before k (take n xs) ≡ total_before (min k n) xs
unfolding total_before
total-take zero n xs = let e : min 0 n ≡ 0 = omega arith in rw e refl
total-take (suc k) zero xs = let e : min (suc k) 0 ≡ 0 = omega arith in rw e refl
total-take (suc k) (suc n) [] =
    let e : min (suc k) (suc n) ≡ suc (min k n) = omega arith in rw e refl
total-take (suc k) (suc n) (x ∷ xs) =
    let e : min (suc k) (suc n) ≡ suc (min k n) = omega arith in
    rw e (ap (λ m. x + m) (total-take k n xs))

ones-take : (n k : ℕ) (xs : List ℕ) → AreMarks xs → get_or (take n xs) k 0 ≤ 1
ones-take zero k xs a = omega arith
ones-take (suc n) k [] a = omega arith
ones-take (suc n) zero (x ∷ xs) a = a 0
ones-take (suc n) (suc k) (x ∷ xs) a = ones-take n k xs (λ m. a (suc m))

-- the last number is taken away
pop-each : (l j : ℕ) (xs sums : List ℕ) → AreBlockSums xs sums → length xs ≡ l + 1
    → (j ≡ l / 64) ⊎ ((j < l / 64) ⊎ (l / 64 < j))
    → total_before (j * 64) (take l xs)
    + get_or (set sums (l / 64) (get_or sums (l / 64) 0 - get_or xs l 0)) j 0
    ≡ total_before (j * 64 + 64) (take l xs)
pop-each l j xs sums h e (inl same) =
    let n : ℕ = get_or sums (l / 64) 0 - get_or xs l 0 in
    let lt : l / 64 < length sums = omega (arith, h.room) in
    let a : get_or (set sums (l / 64) n) j 0 ≡ n = get_or-set_at sums (l / 64) j n 0 same lt in
    let s : get_or sums (l / 64) 0 ≡ get_or sums j 0 = ap (λ k. get_or sums k 0) (sym same) in
    let f : min (j * 64) l ≡ j * 64 = omega arith in
    let g : min (j * 64 + 64) l ≡ l = omega arith in
    rw (total-take (j * 64) l xs, total-take (j * 64 + 64) l xs, f, g)
    (omega (
      arith,
      a,
      s,
      part-le-sum l xs sums h,
      h.each j,
      total-more l xs,
      total-all (l + 1) xs (omega arith),
      total-all (j * 64 + 64) xs (omega arith),
    ))
pop-each l j xs sums h e (inr (inl lt)) =
    let ne : j ≢ l / 64 = omega arith in
    let n : ℕ = get_or sums (l / 64) 0 - get_or xs l 0 in
    let a : get_or (set sums (l / 64) n) j 0 ≡ get_or sums j 0 =
    get_or-set_other sums (l / 64) j n 0 ne in
    let f : min (j * 64) l ≡ j * 64 = omega arith in
    let g : min (j * 64 + 64) l ≡ j * 64 + 64 = omega arith in
    rw (total-take (j * 64) l xs, total-take (j * 64 + 64) l xs, f, g)
    (omega (arith, a, h.each j))
pop-each l j xs sums h e (inr (inr gt)) =
    let ne : j ≢ l / 64 = omega arith in
    let n : ℕ = get_or sums (l / 64) 0 - get_or xs l 0 in
    let a : get_or (set sums (l / 64) n) j 0 ≡ get_or sums j 0 =
    get_or-set_other sums (l / 64) j n 0 ne in
    let f : min (j * 64) l ≡ l = omega arith in
    let g : min (j * 64 + 64) l ≡ l = omega arith in
    rw (total-take (j * 64) l xs, total-take (j * 64 + 64) l xs, f, g)
    (omega (
      arith,
      a,
      h.each j,
      total-all (j * 64) xs (omega arith),
      total-all (j * 64 + 64) xs (omega arith),
    ))

pop_sums : (l : ℕ) (xs sums : List ℕ) → AreBlockSums xs sums → length xs ≡ l + 1
    → AreBlockSums (take l xs) (set sums (l / 64) (get_or sums (l / 64) 0 - get_or xs l 0))
pop_sums l xs sums h e = record {
  each = λ j. pop-each l j xs sums h e (cases_order j (l / 64));
  room =
      omega (
        arith,
        h.room,
        length-take-le l xs (omega arith),
        length-set sums (l / 64) (get_or sums (l / 64) 0 - get_or xs l 0),
      );
}

total-push-zero : (k : ℕ) (xs : List ℕ) → total_before k (xs ++ 0 ∷ []) ≡ total_before k xs
unfolding total_before
total-push-zero zero xs = refl
total-push-zero (suc zero) [] = refl
total-push-zero (suc (suc k)) [] = refl
total-push-zero (suc k) (x ∷ xs) = ap (λ n. x + n) (total-push-zero k xs)

-- a further 0 among the numbers, where its block has a sum
zero_sums : (xs sums : List ℕ) → AreBlockSums xs sums → length xs / 64 < length sums
    → AreBlockSums (xs ++ 0 ∷ []) sums
zero_sums xs sums h l = record {
  each = λ j. rw (total-push-zero (j * 64) xs, total-push-zero (j * 64 + 64) xs) (h.each j);
  room = omega (arith, h.room, length-append xs (0 ∷ []));
}

-- what the functions cite, of both levels at once
mark-le-whole : (i : ℕ) (marks sums totals : List ℕ) → IsTallied marks sums totals
    → get_or marks i 0 ≤ get_or totals (i / 64 / 64) 0
mark-le-whole i marks sums totals h =
    omega (
      arith,
      part-le-sum i marks sums h.sums_right,
      part-le-sum (i / 64) sums totals h.totals_right,
    )

-- the sum and the total that are read of a place in a block that has a sum
module _ (i : ℕ) {marks sums totals : List ℕ} (h : IsTallied marks sums totals)
    (room : i / 64 < length sums) where
  pub sum-read : {s : ℕ} → s ≡ get_or sums (i / 64) s → s ≡ get_or sums (i / 64) 0
  sum-read {s} e = get_or_read sums (i / 64) s room e 0

  pub total-read : {t : ℕ} → t ≡ get_or totals (i / 64 / 64) t → t ≡ get_or totals (i / 64 / 64) 0
  total-read {t} e =
      get_or_read totals (i / 64 / 64) t (omega (arith, room, h.totals_right.room)) e 0

  pub sum-read-small : {s : ℕ} → s ≡ get_or sums (i / 64) s → s ≤ 64
  sum-read-small e = omega (arith, sum-read e, sum-small (i / 64) marks sums totals h)

  pub total-read-small : {t : ℕ} → t ≡ get_or totals (i / 64 / 64) t → t ≤ 4096
  total-read-small e = omega (arith, total-read e, whole-small (i / 64 / 64) marks sums totals h)

-- a mark that is read is at most the sum and the total that it is in
module _ {i : ℕ} {marks sums totals : List ℕ} (h : IsTallied marks sums totals)
    (within : i < length marks) where
  pub room-of : i / 64 < length sums
  room-of = omega (arith, within, h.sums_right.room)

  module _ {m : ℕ} (mark : m ≡ get_or marks i m) where
    pub mark-read : m ≡ get_or marks i 0
    mark-read = get_or_read marks i m within mark 0

    pub mark-le-sum : {s : ℕ} → s ≡ get_or sums (i / 64) s → m ≤ s
    mark-le-sum e =
        omega (arith, mark-read, sum-read i h room-of e, part-le-sum i marks sums h.sums_right)

    pub mark-le-total : {t : ℕ} → t ≡ get_or totals (i / 64 / 64) t → m ≤ t
    mark-le-total e =
        omega (arith, mark-read, total-read i h room-of e, mark-le-whole i marks sums totals h)

pub empty_tallied : IsTallied [] [] []
empty_tallied = record {
  ones = λ k. omega arith;
  sums_right = empty_sums;
  totals_right = empty_sums;
}

-- a mark is set, with the sum and the total that were read
pub set_tallied : {i m s t w y v : ℕ} {marks sums totals : List ℕ} → IsTallied marks sums totals
    → i < length marks → m ≡ get_or marks i m → s ≡ get_or sums (i / 64) s
    → t ≡ get_or totals (i / 64 / 64) t → w ≡ m → v ≡ y → y ≤ 1
    → IsTallied (set marks i y) (set sums (i / 64) (s - m + y))
    (set totals (i / 64 / 64) (t - w + v))
set_tallied {i} {m} {s} {t} {w} {y} {v} {marks} {sums} {totals} h l rm rs rt ew ev u =
    let n : s - m + y + get_or marks i 0 ≡ get_or sums (i / 64) 0 + y =
    omega (arith, mark-read h l rm, sum-read i h (room-of h l) rs, mark-le-sum h l rm rs) in
    let p : t - w + v + get_or marks i 0 ≡ get_or totals (i / 64 / 64) 0 + y =
    omega (arith, mark-read h l rm, total-read i h (room-of h l) rt, mark-le-total h l rm rt) in
    record {
      ones = λ k. ones-set i y k marks h.ones u (cases_lt k (length marks)) (cases_eq k i);
      sums_right = set_sums i y (s - m + y) marks sums h.sums_right l n;
      totals_right =
          set_sums (i / 64) (s - m + y) (t - w + v) sums totals h.totals_right (room-of h l)
          (omega (arith, n, p));
    }

pub push_tallied : (y : ℕ) (marks sums totals : List ℕ) → IsTallied marks sums totals
    → length marks / 64 < length sums → y ≤ 1
    → IsTallied (marks ++ y ∷ [])
    (set sums (length marks / 64) (get_or sums (length marks / 64) 0 + y))
    (set totals (length marks / 64 / 64) (get_or totals (length marks / 64 / 64) 0 + y))
push_tallied y marks sums totals h l u = record {
  ones = ones-push y marks u h.ones;
  sums_right = push_sums y marks sums h.sums_right l;
  totals_right =
      set_sums (length marks / 64) (get_or sums (length marks / 64) 0 + y)
      (get_or totals (length marks / 64 / 64) 0 + y) sums totals h.totals_right l (omega arith);
}

pop-last : (l : ℕ) (marks sums totals : List ℕ) → IsTallied marks sums totals
    → length marks ≡ l + 1
    → IsTallied (take l marks) (set sums (l / 64) (get_or sums (l / 64) 0 - get_or marks l 0))
    (set totals (l / 64 / 64) (get_or totals (l / 64 / 64) 0 - get_or marks l 0))
pop-last l marks sums totals h e = record {
  ones = λ k. ones-take l k marks h.ones;
  sums_right = pop_sums l marks sums h.sums_right e;
  totals_right =
      set_sums (l / 64) (get_or sums (l / 64) 0 - get_or marks l 0)
      (get_or totals (l / 64 / 64) 0 - get_or marks l 0) sums totals h.totals_right
      (omega (arith, e, h.sums_right.room))
      (omega (
        arith,
        part-le-sum l marks sums h.sums_right,
        mark-le-whole l marks sums totals h,
      ));
}

-- the last mark is taken away, with the sum and the total that were read
pub pop_tallied : {n k m s t w : ℕ} {marks sums totals v : List ℕ} → IsTallied marks sums totals
    → n ≡ length marks → 0 < n → v ≡ take (k - 1) marks → k ≡ n → m ≡ get_or marks (n - 1) m
    → s ≡ get_or sums ((n - 1) / 64) s → t ≡ get_or totals ((n - 1) / 64 / 64) t → w ≡ m
    → IsTallied v (set sums ((n - 1) / 64) (s - m)) (set totals ((n - 1) / 64 / 64) (t - w))
pop_tallied {n} {marks = marks} {sums = sums} {totals = totals} h q p e same rm rs rt ew =
    let l : n - 1 < length marks = omega arith in
    let room = room-of h l in
    rw (e, same, ew, sum-read (n - 1) h room rs, total-read (n - 1) h room rt, mark-read h l rm)
    (pop-last (n - 1) marks sums totals h (omega arith))

pub more_totals : (marks sums totals : List ℕ) → IsTallied marks sums totals
    → IsTallied marks sums (totals ++ 0 ∷ [])
more_totals marks sums totals h = record {
  ones = h.ones;
  sums_right = h.sums_right;
  totals_right = room_sums sums totals h.totals_right;
}

pub more_sums : (marks sums totals : List ℕ) → IsTallied marks sums totals
    → length sums / 64 < length totals → IsTallied marks (sums ++ 0 ∷ []) totals
more_sums marks sums totals h l = record {
  ones = h.ones;
  sums_right = room_sums marks sums h.sums_right;
  totals_right = zero_sums sums totals h.totals_right l;
}

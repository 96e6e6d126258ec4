-- Stars of some strings, with one string less and one more.
use Rattle.std.proofs.Common.{◌≡◌, ◌≢◌, ℕ, ◌+◌, ◌≤◌, inl, inr, ◌==◌, ◌&&◌, if◌then◌else◌, refl, sym, ap, subst, ◌∙◌, List, [], ◌∷◌, ◌++◌, length, Bool, true, false, cond, Option, arith, length-append}
use Rattle.std.specs.Prelude.{IsPermutation, sum_by, count_by, option_map, unwrap_or}
use Rattle.std.specs.List.{Contains}
use Rattle.std.proofs.lemmas.Bool.{eqb-true, eq-eqb}
use Rattle.std.proofs.lemmas.List.Sums.{sum_by-cons, sum_by-append}
use Rattle.std.proofs.lemmas.List.Sorted.{IsPermutation-refl, IsPermutation-cons, IsPermutation-sym, IsPermutation-trans, IsPermutation-middle, sum_by-IsPermutation, Contains-permutation, length_permutation}
use Rattle.cad_map.proofs.CallerLemmas.{Contains-cases, Contains-first, Contains-later, Contains-flat_map, count-yes, count-no}
use Rattle.cad_rows.specs.declared.rows.StringRow.{StringRow}
use Rattle.half_table.specs.Half.{is_half, forward_of, backward_of}
use Rattle.half_table.proofs.Halves.{is_half-self, is_half-same}
use Rattle.key_lists.specs.Kept.{Kept}
use Rattle.key_lists.specs.Held.{Held, items_at, capacity_at, list_at, HasRoomAt}
use Rattle.map_parts.specs.declared.stars.Spoke.{Spoke}
use Rattle.map_parts.specs.Splitting.{AreStarsOf, Connects}
use Rattle.map_parts.specs.Stars.{spoke, spokes_of, spokes_at, is_spoke, AddsSpokes}

-- ---- Elements counted

module _ {X : Type 0} (same : X → X → Bool) (self : (x : X) → same x x ≡ true)
    (is : (x y : X) → same x y ≡ true → x ≡ y) where
  parted-at : (xs : List X) (x : X) → Contains xs x
      → (before : List X) × (behind : List X) × (xs ≡ before ++ x ∷ behind)
  parted-at [] x h = let low = h.1 in absurd (omega arith)
  parted-at (y ∷ xs) x h = elim (Contains-cases y xs x h) [
    | inl e ↦ ([], xs, ap (λ (z : X). z ∷ xs) e)
    | inr later ↦
        let rest = parted-at xs x later in (y ∷ rest.0, rest.1, ap (λ (zs : List X). y ∷ zs) rest.2)
  ]

  counted : (x : X) (ys : List X) → 1 ≤ count_by (same x) ys → Contains ys x
  counted x [] some = absurd (omega arith)
  counted x (y ∷ ys) some = by (same x y) refl (λ rest. counted x ys rest)
    where
      by : (b : Bool) → same x y ≡ b → (1 ≤ count_by (same x) ys → Contains ys x) → Contains (y ∷ ys) x
      by true e again = subst (Contains (y ∷ ys)) (sym (is x y e)) (Contains-first y ys)
      by false e again =
          let k = count-no (same x) y ys e in Contains-later y ys x (again (omega (arith, some, k)))

  -- each element as often: in another order
  pub permuted-from_counts : (xs ys : List X) → ((x : X) → count_by (same x) xs ≡ count_by (same x) ys)
      → IsPermutation xs ys
  permuted-from_counts [] [] each = IsPermutation-refl []
  permuted-from_counts [] (y ∷ ys) each =
      let e = each y in
      let k = count-yes (same y) y ys (self y) in
      absurd (omega (arith, e, k))
  permuted-from_counts (x ∷ xs) ys each =
      let e = each x in
      let k = count-yes (same x) x xs (self x) in
      let at = parted-at ys x (counted x ys (omega (arith, e, k))) in
      let left = at.0 ++ at.1 in
      let moved : IsPermutation ys (x ∷ left) =
      subst (λ (l : List X). IsPermutation l (x ∷ left)) (sym at.2) (IsPermutation-middle at.0 x at.1) in
      let rest = permuted-from_counts xs left (λ s.
      let one : X → ℕ = λ (t : X). cond (same s t) 1 0 in
      let a = each s in
      let b = sum_by-IsPermutation one ys (x ∷ left) moved in
      let c = sum_by-cons one x xs in
      let d = sum_by-cons one x left in
      omega (arith, a, b, c, d)) in
      IsPermutation-trans (x ∷ xs) (x ∷ left) ys (IsPermutation-cons x xs left rest)
      (IsPermutation-sym ys (x ∷ left) moved)

-- ---- Spokes

is_spoke-self : (s : Spoke) → is_spoke s s ≡ true
is_spoke-self s = (λ i. is_half-self s.half i && eq-eqb s.far s.far refl i)

is_spoke-is : (s t : Spoke) → is_spoke s t ≡ true → s ≡ t
is_spoke-is s t e =
    let two = both (is_half s.half t.half) (s.far == t.far) e in
    let half = is_half-same s.half t.half two.0 in
    let far = eqb-true s.far t.far two.1 in
    λ i. record { half = half i; far = far i }
  where
    both : (a b : Bool) → (a && b) ≡ true → (a ≡ true) × (b ≡ true)
    both true true h = (refl, refl)
    both true false h = cc
    both false b h = cc

-- how often a spoke stands in the star that strings make of a point
times-at : (s : Spoke) (p : ℕ) (rows : List StringRow)
    → count_by (is_spoke s) (spokes_at p rows) ≡ sum_by (λ r. count_by (is_spoke s) (spokes_of p r)) rows
times-at s p [] = refl
times-at s p (r ∷ rows) =
    sum_by-append (λ (t : Spoke). cond (is_spoke s t) 1 0) (spokes_of p r) (spokes_at p rows)
    ∙ ap (λ (n : ℕ). count_by (is_spoke s) (spokes_of p r) + n) (times-at s p rows)
    ∙ sym (sum_by-cons (λ r. count_by (is_spoke s) (spokes_of p r)) r rows)

-- the halves of a string are in the stars of its ends
pub star-from : (rows : List StringRow) (stars : Held Spoke) → AreStarsOf rows stars → (row : StringRow)
    → Contains rows row → Contains (items_at stars row.from) (spoke (forward_of row.number) row.to)
star-from rows stars are row there =
    let it = spoke (forward_of row.number) row.to in
    let own : spokes_of row.from row ≡ it ∷ [] =
    (λ i. if eq-eqb row.from row.from refl i then it ∷ []
    else (if row.to == row.from then spoke (backward_of row.number) row.from ∷ [] else [])) in
    Contains-permutation (spokes_at row.from rows) (items_at stars row.from) it (are row.from)
    (Contains-flat_map (spokes_of row.from) rows row it there
    (subst (λ (l : List Spoke). Contains l it) (sym own) (Contains-first it [])))

not-equal : (a b : ℕ) → a ≢ b → (a == b) ≡ false
not-equal a b apart = by (a == b) refl
  where
    by : (t : Bool) → (a == b) ≡ t → t ≡ false
    by true e = absurd (apart (eqb-true a b e))
    by false e = refl

-- what a string adds to the star of its second end
spokes-to : (row : StringRow) → row.from ≢ row.to
    → spokes_of row.to row ≡ spoke (backward_of row.number) row.from ∷ []
spokes-to row two =
    let it = spoke (backward_of row.number) row.from in
    (λ i. if not-equal row.from row.to two i then spoke (forward_of row.number) row.to ∷ []
    else (if row.to == row.to then it ∷ [] else []))
    ∙ (λ i. if eq-eqb row.to row.to refl i then it ∷ [] else [])

spokes-from : (row : StringRow)
    → spokes_of row.from row ≡ spoke (forward_of row.number) row.to ∷ []
spokes-from row =
    (λ i. if eq-eqb row.from row.from refl i then spoke (forward_of row.number) row.to ∷ []
    else (if row.to == row.from then spoke (backward_of row.number) row.from ∷ [] else []))

-- and to that of a point that is no end of it
pub spokes-elsewhere : (p : ℕ) (row : StringRow) → row.from ≢ p → row.to ≢ p → spokes_of p row ≡ []
spokes-elsewhere p row from to =
    (λ i. if not-equal row.from p from i then spoke (forward_of row.number) row.to ∷ []
    else (if row.to == p then spoke (backward_of row.number) row.from ∷ [] else []))
    ∙ (λ i. if not-equal row.to p to i then spoke (backward_of row.number) row.from ∷ [] else [])

pub star-to : (rows : List StringRow) (stars : Held Spoke) → AreStarsOf rows stars → (row : StringRow)
    → row.from ≢ row.to → Contains rows row
    → Contains (items_at stars row.to) (spoke (backward_of row.number) row.from)
star-to rows stars are row two there =
    let it = spoke (backward_of row.number) row.from in
    Contains-permutation (spokes_at row.to rows) (items_at stars row.to) it (are row.to)
    (Contains-flat_map (spokes_of row.to) rows row it there
    (subst (λ (l : List Spoke). Contains l it) (sym (spokes-to row two)) (Contains-first it [])))

-- the order of strings is nothing to their stars
pub stars-permuted : (rows others : List StringRow) (stars : Held Spoke) → IsPermutation rows others
    → AreStarsOf others stars → AreStarsOf rows stars
stars-permuted rows others stars moved are p =
    permuted-from_counts is_spoke is_spoke-self is_spoke-is (spokes_at p rows) (items_at stars p) (λ s.
    let one : Spoke → ℕ = λ (t : Spoke). cond (is_spoke s t) 1 0 in
    let by : StringRow → ℕ = λ r. count_by (is_spoke s) (spokes_of p r) in
    let a = sum_by-IsPermutation one (spokes_at p others) (items_at stars p) (are p) in
    let b = times-at s p rows in
    let c = times-at s p others in
    let d = sum_by-IsPermutation by rows others moved in
    omega (arith, a, b, c, d))

-- how often a spoke stands in the stars of a string and of others
times-with : (s : Spoke) (p : ℕ) (rows left : List StringRow) (row : StringRow) → IsPermutation rows (row ∷ left)
    → count_by (is_spoke s) (spokes_at p rows) ≡ count_by (is_spoke s) (spokes_of p row) + count_by (is_spoke s) (spokes_at p left)
times-with s p rows left row parts =
    let by : StringRow → ℕ = λ r. count_by (is_spoke s) (spokes_of p r) in
    let a = times-at s p rows in
    let b = times-at s p left in
    let c = sum_by-IsPermutation by rows (row ∷ left) parts in
    let d = sum_by-cons by row left in
    omega (arith, a, b, c, d)

-- ---- One string less

-- each star has less what the string added to it
abbrev pub TakesSpokes : StringRow → Held Spoke → Held Spoke → Type 0
TakesSpokes row old new = (p : ℕ) → IsPermutation (items_at old p) (spokes_of p row ++ items_at new p)

pub stars-without : (rows left : List StringRow) (row : StringRow) (old new : Held Spoke)
    → AreStarsOf rows old → IsPermutation rows (row ∷ left) → TakesSpokes row old new → AreStarsOf left new
stars-without rows left row old new are parts takes p =
    permuted-from_counts is_spoke is_spoke-self is_spoke-is (spokes_at p left) (items_at new p) (λ s.
    let one : Spoke → ℕ = λ (t : Spoke). cond (is_spoke s t) 1 0 in
    let a = sum_by-IsPermutation one (spokes_at p rows) (items_at old p) (are p) in
    let b = sum_by-IsPermutation one (items_at old p) (spokes_of p row ++ items_at new p) (takes p) in
    let c = sum_by-append one (spokes_of p row) (items_at new p) in
    let d = times-with s p rows left row parts in
    omega (arith, a, b, c, d))

-- ---- One string more

pub stars-with : (rows left : List StringRow) (row : StringRow) (old new : Held Spoke)
    → AreStarsOf left old → IsPermutation rows (row ∷ left) → AddsSpokes row old new → AreStarsOf rows new
stars-with rows left row old new are parts adds p =
    permuted-from_counts is_spoke is_spoke-self is_spoke-is (spokes_at p rows) (items_at new p) (λ s.
    let one : Spoke → ℕ = λ (t : Spoke). cond (is_spoke s t) 1 0 in
    let a = sum_by-IsPermutation one (spokes_at p left) (items_at old p) (are p) in
    let b = ap (λ (l : List Spoke). sum_by one l) (adds p) in
    let c = sum_by-append one (items_at old p) (spokes_of p row) in
    let d = times-with s p rows left row parts in
    omega (arith, a, b, c, d))

-- ---- Taken from both ends

same-items : (old new : Held Spoke) (p : ℕ) → list_at new p ≡ list_at old p → items_at new p ≡ items_at old p
same-items old new p e =
    ap (λ (o : Option (Kept Spoke)). unwrap_or (option_map (λ list. list.items) o) []) e

same-capacity : (old new : Held Spoke) (p : ℕ) → list_at new p ≡ list_at old p
    → capacity_at new p ≡ capacity_at old p
same-capacity old new p e =
    ap (λ (o : Option (Kept Spoke)). unwrap_or (option_map (λ list. list.capacity) o) 0) e

pub same-room : (old new : Held Spoke) (p n : ℕ) → list_at new p ≡ list_at old p → HasRoomAt old p n
    → HasRoomAt new p n
same-room old new p n e room =
    let items = ap (λ (l : List Spoke). length l) (same-items old new p e) in
    let capacity = same-capacity old new p e in
    omega (arith, items, capacity, room)

-- ---- Room

-- of what is taken the room stays, and there is as much more
pub room-after_take : (row : StringRow) (old new : Held Spoke) (p n : ℕ) → TakesSpokes row old new
    → capacity_at new p ≡ capacity_at old p → HasRoomAt old p n → HasRoomAt new p n
room-after_take row old new p n takes capacity room =
    let long = length_permutation (items_at old p) (spokes_of p row ++ items_at new p) (takes p) in
    let parts = length-append (spokes_of p row) (items_at new p) in
    omega (arith, long, parts, capacity, room)

-- what comes takes its room
pub room-after_put : (row : StringRow) (old new : Held Spoke) (p n : ℕ) → AddsSpokes row old new
    → capacity_at new p ≡ capacity_at old p → HasRoomAt old p (n + length (spokes_of p row))
    → HasRoomAt new p n
room-after_put row old new p n adds capacity room =
    let long = ap (λ (l : List Spoke). length l) (adds p) in
    let parts = length-append (items_at old p) (spokes_of p row) in
    omega (arith, long, parts, capacity, room)

-- ---- Two points

pub connects-two : (row : StringRow) (a b : ℕ) → a ≢ b → Connects row a b → row.from ≢ row.to
connects-two row a b apart on same = elim on [
  | inl w ↦ apart (sym w.0 ∙ same ∙ w.1)
  | inr w ↦ apart (sym w.1 ∙ sym same ∙ w.0)
]

-- room at both points is room at both ends
pub room-ends : (row : StringRow) (a b : ℕ) (stars : Held Spoke) → Connects row a b → HasRoomAt stars a 1
    → HasRoomAt stars b 1 → HasRoomAt stars row.from 1 × HasRoomAt stars row.to 1
room-ends row a b stars on first second = elim on [
  | inl w ↦ (
    subst (λ (n : ℕ). HasRoomAt stars n 1) (sym w.0) first,
    subst (λ (n : ℕ). HasRoomAt stars n 1) (sym w.1) second,
  )
  | inr w ↦ (
    subst (λ (n : ℕ). HasRoomAt stars n 1) (sym w.0) second,
    subst (λ (n : ℕ). HasRoomAt stars n 1) (sym w.1) first,
  )
]

-- and the other way
pub room-points : (row : StringRow) (a b : ℕ) (stars : Held Spoke) → Connects row a b
    → HasRoomAt stars row.from 1 → HasRoomAt stars row.to 1 → HasRoomAt stars a 1 × HasRoomAt stars b 1
room-points row a b stars on first second = elim on [
  | inl w ↦ (
    subst (λ (n : ℕ). HasRoomAt stars n 1) w.0 first,
    subst (λ (n : ℕ). HasRoomAt stars n 1) w.1 second,
  )
  | inr w ↦ (
    subst (λ (n : ℕ). HasRoomAt stars n 1) w.1 second,
    subst (λ (n : ℕ). HasRoomAt stars n 1) w.0 first,
  )
]

-- a string adds one to the star of each of its points
pub length-spokes_at : (row : StringRow) (a b : ℕ) → a ≢ b → Connects row a b
    → length (spokes_of b row) ≡ 1
length-spokes_at row a b apart on = elim on [
  | inl w ↦
      subst (λ (n : ℕ). length (spokes_of n row) ≡ 1) w.1
      (ap (λ (l : List Spoke). length l) (spokes-to row (connects-two row a b apart (inl w))))
  | inr w ↦
      subst (λ (n : ℕ). length (spokes_of n row) ≡ 1) w.0
      (ap (λ (l : List Spoke). length l) (spokes-from row))
]

pub connects-elsewhere : (row : StringRow) (a b q : ℕ) → Connects row a b → q ≢ a → q ≢ b
    → spokes_of q row ≡ []
connects-elsewhere row a b q on not_a not_b = elim on [
  | inl w ↦ spokes-elsewhere q row (λ e. not_a (sym e ∙ w.0)) (λ e. not_b (sym e ∙ w.1))
  | inr w ↦ spokes-elsewhere q row (λ e. not_b (sym e ∙ w.0)) (λ e. not_a (sym e ∙ w.1))
]

-- where two strings went from a point, and one came elsewhere, there is room for both again
pub room-after_both : (other whole : StringRow) (mid bare new : Held Spoke) (a p : ℕ) → a ≢ p → Connects other a p
    → TakesSpokes other mid bare → capacity_at bare p ≡ capacity_at mid p → HasRoomAt mid p 1
    → AddsSpokes whole bare new → capacity_at new p ≡ capacity_at bare p → whole.from ≢ p → whole.to ≢ p
    → HasRoomAt new p 2
room-after_both other whole mid bare new a p apart on takes less room adds more from to =
    let one = length-spokes_at other a p apart on in
    let long = length_permutation (items_at mid p) (spokes_of p other ++ items_at bare p) (takes p) in
    let parts = length-append (spokes_of p other) (items_at bare p) in
    let none = ap (λ (l : List Spoke). length l) (spokes-elsewhere p whole from to) in
    let now = ap (λ (l : List Spoke). length l) (adds p) in
    let both = length-append (items_at bare p) (spokes_of p whole) in
    omega (arith, one, long, parts, less, room, more, none, now, both)

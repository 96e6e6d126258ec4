-- Kept halves handed over one after another.
use Rattle.std.proofs.Common.{◌≡◌, ◌≢◌, ℕ, suc, ◌+◌, ◌-◌, ◌<◌, ◌≤◌, Bool, true, false, List, [], ◌∷◌, ◌++◌, length, take, set, get_or, refl, sym, ap, ◌∙◌, subst, arith, Some, slice_get, length-append}
use Rattle.std.specs.Prelude.{IsPermutation, swap_remove}
use Rattle.std.specs.List.{AllByRecursion}
use Rattle.std.proofs.lemmas.List.{append_assoc, append-nil, take_more, take_all, take-take, take-set-le}
use Rattle.std.proofs.lemmas.Option.{get_or_from_slice_get, slice_get_within}
use Rattle.std.proofs.lemmas.List.Sorted.{IsPermutation-refl, IsPermutation-pop_more, IsPermutation-swap_remove, IsPermutation-sym, Contains-permutation, length_permutation}
use Rattle.std.proofs.lemmas.List.Elements.{Contains-append_left, Contains-append_right}
use Rattle.cad_map.proofs.CallerLemmas.{All-at_each, All-from_each}
use Rattle.half_table.specs.declared.half.Half.{Half}
use Rattle.std.specs.Prelude.{◌==◌}
use Rattle.std.proofs.lemmas.Bool.{eqb-true}
use Rattle.std.proofs.lemmas.Cmp.{nat_eq_equiv}
use Rattle.cad_map.specs.Boundaries.{face_place}
use Rattle.half_table.specs.Rows.{HalfRows, has, face}
use Rattle.half_paths.specs.Path.{AreIn}
use Rattle.key_lists.specs.Held.{Held, items_at, capacity_at, HasRoomAt}
use Rattle.map_parts.specs.Handing.{is_placed, HandsOver, KeepsBoth, KeepsOne}

-- so far: what has gone, and the first halves that are left have another face
pub record IsHanding (rows : HalfRows) (from to : ℕ) (old now : Held Half) (place step : ℕ) : Type 0 where
  pub gone : List Half
  pub split : IsPermutation (items_at old from) (gone ++ items_at now from)
  pub got : items_at now to ≡ items_at old to ++ gone
  pub goes : AllByRecursion (λ h. is_placed rows to h ≡ true) gone
  pub stays : AllByRecursion (λ h. is_placed rows to h ≡ false) (take place (items_at now from))
  pub count : length (items_at now from) + step ≡ length (items_at old from) + place
  pub within : place ≤ length (items_at now from)
  pub others : (n : ℕ) → ¬ (from ≡ n) → ¬ (to ≡ n) → items_at now n ≡ items_at old n
  pub capacity : (n : ℕ) → capacity_at now n ≡ capacity_at old n

all-snoc : {X : Type 0} (P : X → Type 0) (xs : List X) (x : X) → AllByRecursion P xs → P x → AllByRecursion P (xs ++ x ∷ [])
all-snoc P [] x all h = (h, tt)
all-snoc P (y ∷ xs) x all h = (all.0, all-snoc P xs x all.1 h)

pub hand-none : (rows : HalfRows) (from to : ℕ) (old : Held Half) → IsHanding rows from to old old 0 0
hand-none rows from to old = record {
  gone = [];
  split = IsPermutation-refl (items_at old from);
  got = sym (append-nil (items_at old to));
  goes = tt;
  stays = tt;
  count = refl;
  within = omega arith;
  others = λ n away too. refl;
  capacity = λ n. refl;
}

module _ (rows : HalfRows) (from to : ℕ) (old now : Held Half) (place step : ℕ) (it : IsHanding rows from to old now place step) where
  -- as long as steps are left, a half is
  pub some-left : step < length (items_at old from) → place < length (items_at now from)
  some-left more = let c = it.count in let w = it.within in omega (arith, c, w, more)

  pub still-in : AreIn rows (items_at old from) → AreIn rows (items_at now from)
  still-in all = All-from_each (λ h. has rows h ≡ true) (items_at now from) (λ h among.
      All-at_each (λ h. has rows h ≡ true) (items_at old from) h all
      (Contains-permutation (it.gone ++ items_at now from) (items_at old from) h (IsPermutation-sym (items_at old from) (it.gone ++ items_at now from) it.split)
      (Contains-append_right it.gone (items_at now from) h among)))

  -- and there is room for it
  pub has-room : HasRoomAt old to (length (items_at old from)) → place < length (items_at now from) → HasRoomAt now to 1
  has-room room some =
      let c = it.capacity to in
      let g = ap length it.got ∙ length-append (items_at old to) it.gone in
      let s = sym (length-append it.gone (items_at now from)) ∙ length_permutation (items_at old from) (it.gone ++ items_at now from) it.split in
      omega (arith, c, g, s, room, some)

  module _ (h : Half) (at : slice_get (items_at now from) place ≡ Some h) where
    within : place < length (items_at now from)
    within = slice_get_within (items_at now from) place h at

    own : h ≡ get_or (items_at now from) place h
    own = sym (get_or_from_slice_get (items_at now from) place h h at)

    -- it stays
    pub hand-skip : is_placed rows to h ≡ false → IsHanding rows from to old now (place + 1) (step + 1)
    hand-skip other = record {
      gone = it.gone;
      split = it.split;
      got = it.got;
      goes = it.goes;
      stays =
          subst (AllByRecursion (λ h. is_placed rows to h ≡ false))
          (sym (take_more (items_at now from) place h within ∙ ap (λ (x : Half). take place (items_at now from) ++ x ∷ []) (sym own)))
          (all-snoc (λ h. is_placed rows to h ≡ false) (take place (items_at now from)) h it.stays other);
      count = let c = it.count in omega (arith, c);
      within = let w = within in omega (arith, w);
      others = it.others;
      capacity = it.capacity;
    }

    -- or goes
    module _ (new : Held Half) (left : items_at new from ≡ swap_remove (items_at now from) place h) (got : items_at new to ≡ items_at now to ++ h ∷ [])
        (others : (n : ℕ) → ¬ (from ≡ n) → ¬ (to ≡ n) → items_at new n ≡ items_at now n) (capacity : (n : ℕ) → capacity_at new n ≡ capacity_at now n) where
      taken : IsPermutation (items_at now from) (h ∷ items_at new from)
      taken = subst (λ (l : List Half). IsPermutation (items_at now from) (h ∷ l)) (sym left) (IsPermutation-swap_remove (items_at now from) place h within own)

      fewer : suc (length (items_at new from)) ≡ length (items_at now from)
      fewer = length_permutation (items_at now from) (h ∷ items_at new from) taken

      front : take place (items_at new from) ≡ take place (items_at now from)
      front =
          let n = length (items_at now from) - 1 in
          let z = get_or (items_at now from) n h in
          let low : place ≤ n = let w = within in omega (arith, w) in
          ap (take place) left ∙ take-take place n (set (items_at now from) place z) low ∙ take-set-le place (items_at now from) place z (omega arith)

      pub hand-more : is_placed rows to h ≡ true → IsHanding rows from to old new place (step + 1)
      hand-more placed = record {
        gone = it.gone ++ h ∷ [];
        split = IsPermutation-pop_more (items_at old from) it.gone (items_at now from) (items_at new from) h it.split taken;
        got = got ∙ ap (λ (l : List Half). l ++ h ∷ []) it.got ∙ append_assoc (items_at old to) it.gone (h ∷ []);
        goes = all-snoc (λ h. is_placed rows to h ≡ true) it.gone h it.goes placed;
        stays = subst (AllByRecursion (λ h. is_placed rows to h ≡ false)) (sym front) it.stays;
        count = let c = it.count in let f = fewer in omega (arith, c, f);
        within = let w = within in let f = fewer in omega (arith, w, f);
        others = λ n away too. others n away too ∙ it.others n away too;
        capacity = λ n. capacity n ∙ it.capacity n;
      }

  -- at the end all that are left have another face
  pub hand-all : length (items_at old from) ≤ step → HandsOver rows from to old now
  hand-all past =
      let c = it.count in
      let w = it.within in
      record {
        gone = it.gone;
        split = it.split;
        got = it.got;
        goes = it.goes;
        stays = subst (AllByRecursion (λ h. is_placed rows to h ≡ false)) (take_all place (items_at now from) (omega (arith, c, w, past))) it.stays;
        others = it.others;
      }

-- whether the face that is told of a half has the place
pub placed-yes : (rows : HalfRows) (n : ℕ) (h : Half) (k : ℕ) → k ≡ face_place (face rows h) → k ≡ n → is_placed rows n h ≡ true
placed-yes rows n h k is same = ap (λ (j : ℕ). j == n) (sym is ∙ same) ∙ nat_eq_equiv.refl n

pub placed-no : (rows : HalfRows) (n : ℕ) (h : Half) (k : ℕ) → k ≡ face_place (face rows h) → k ≢ n → is_placed rows n h ≡ false
placed-no rows n h k is differ = by (is_placed rows n h) refl
  where
    by : (t : Bool) → is_placed rows n h ≡ t → is_placed rows n h ≡ false
    by true same = absurd (differ (is ∙ eqb-true (face_place (face rows h)) n same))
    by false other = other

pub placed-is : (rows : HalfRows) (n : ℕ) (h : Half) → is_placed rows n h ≡ true → face_place (face rows h) ≡ n
placed-is rows n h same = eqb-true (face_place (face rows h)) n same

-- ---- A list that is emptied

pub nothing-left : {X : Type 0} (xs : List X) → length xs ≤ 0 → xs ≡ []
nothing-left [] few = refl
nothing-left (x ∷ xs) few = absurd (omega (arith, few))

pub one-fewer : {X : Type 0} (xs : List X) (i : ℕ) (x : X) (ys : List X) → slice_get xs i ≡ Some x → ys ≡ swap_remove xs i x → suc (length ys) ≡ length xs
one-fewer xs i x ys at is =
    ap (λ (l : List _). suc (length l)) is
    ∙ length_permutation xs (x ∷ swap_remove xs i x) (IsPermutation-swap_remove xs i x (slice_get_within xs i x at) (sym (get_or_from_slice_get xs i x x at)))

-- ---- Lists that halves come to and go from

pub in-parts : (rows : HalfRows) (xs ys : List Half) → AreIn rows xs → AreIn rows ys → AreIn rows (xs ++ ys)
in-parts rows [] ys all too = too
in-parts rows (x ∷ xs) ys all too = (all.0, in-parts rows xs ys all.1 too)

pub in-handed : (rows face_rows : HalfRows) (from to : ℕ) (old new : Held Half) → HandsOver face_rows from to old new → AreIn rows (items_at old from) → AreIn rows (items_at old to) → AreIn rows (items_at new to)
in-handed rows face_rows from to old new hands all too =
    subst (AreIn rows) (sym hands.got)
    (in-parts rows (items_at old to) hands.gone too (All-from_each (λ h. has rows h ≡ true) hands.gone (λ h among.
    All-at_each (λ h. has rows h ≡ true) (items_at old from) h all
    (Contains-permutation (hands.gone ++ items_at new from) (items_at old from) h (IsPermutation-sym (items_at old from) (hands.gone ++ items_at new from) hands.split) (Contains-append_left hands.gone (items_at new from) h among)))))

-- those that are left were there
pub left-handed : (rows face_rows : HalfRows) (from to : ℕ) (old new : Held Half) → HandsOver face_rows from to old new → AreIn rows (items_at old from) → AreIn rows (items_at new from)
left-handed rows face_rows from to old new hands all = All-from_each (λ h. has rows h ≡ true) (items_at new from) (λ h among.
    All-at_each (λ h. has rows h ≡ true) (items_at old from) h all
    (Contains-permutation (hands.gone ++ items_at new from) (items_at old from) h (IsPermutation-sym (items_at old from) (hands.gone ++ items_at new from) hands.split) (Contains-append_right hands.gone (items_at new from) h among)))

-- where one half comes, for the one face or the other
pub both-in : (rows : HalfRows) (inner outer : ℕ) (own other : Half) (old new : Held Half) → KeepsBoth inner outer own other old new → AreIn rows (items_at old outer) → has rows other ≡ true → AreIn rows (items_at new outer)
both-in rows inner outer own other old new both all there = by (items_at old inner) refl
  where
    by : (xs : List Half) → items_at old inner ≡ xs → AreIn rows (items_at new outer)
    by [] is = subst (AreIn rows) (sym (both.none is).1) all
    by (x ∷ xs) is = subst (AreIn rows) (sym (both.some (λ e. some-not x xs (sym is ∙ e))).1) (in-parts rows (items_at old outer) (other ∷ []) all (there, tt))
      where
        some-not : (x : Half) (xs : List Half) → (x ∷ xs) ≡ [] → ⊥
        some-not x xs e = cc

-- halves that pass over are as many as before, together
pub count-handed : (rows : HalfRows) (from to : ℕ) (old new : Held Half) → HandsOver rows from to old new
    → length (items_at new from) + length (items_at new to) ≡ length (items_at old from) + length (items_at old to)
count-handed rows from to old new hands =
    let s = sym (length-append hands.gone (items_at new from)) ∙ length_permutation (items_at old from) (hands.gone ++ items_at new from) hands.split in
    let g = ap length hands.got ∙ length-append (items_at old to) hands.gone in
    omega (arith, s, g)

-- one half more is kept only where another went
pub one-few : (inner outer : ℕ) (half : Half) (old new : Held Half) → KeepsOne inner outer half old new
    → length (items_at new inner) + length (items_at new outer) ≤ length (items_at old inner) + length (items_at old outer)
one-few inner outer half old new one = by (items_at old inner) refl
  where
    by : (l : List Half) → items_at old inner ≡ l → length (items_at new inner) + length (items_at new outer) ≤ length (items_at old inner) + length (items_at old outer)
    by [] is =
        let gone = ap length one.gone in
        let same = ap length (one.none is) in
        omega (arith, gone, same)
    by (h ∷ l) is =
        let gone = ap length one.gone in
        let more = ap length (one.some (λ none. let some = ap length (sym is ∙ none) in omega (arith, some))) ∙ length-append (items_at old outer) (half ∷ []) in
        let long = ap length is in
        omega (arith, gone, more, long)

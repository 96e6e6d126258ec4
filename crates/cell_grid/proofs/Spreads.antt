-- What a put and a take do to entries that are spread over the cells of one size.
use Rattle.std.proofs.Common.{◌≡◌, ℕ, zero, suc, ◌+◌, ◌<◌, ◌≤◌, List, [], ◌∷◌, ◌++◌, Bool, true, false, cond, refl, sym, ap, subst, ◌∙◌, arith, ◌⊎◌, inl, inr, mul-pos}
use Rattle.std.proofs.lemmas.Bool.{cases_lt, cases_eq}
use Rattle.std.proofs.lemmas.List.Elements.{Contains-append_left, Contains-append_right, Contains-append_cases, Contains-push, Contains-push_cases}
use Rattle.std.proofs.lemmas.List.Sorted.{sum_by-IsPermutation, Contains-permutation, IsPermutation-sym}
use Rattle.std.proofs.lemmas.List.Sums.{sum_by_push}
use Rattle.std.specs.Prelude.{count_by, IsPermutation}
use Rattle.std.specs.List.{Contains}
use Rattle.cell_grid.specs.declared.block.Block.{Block}
use Rattle.cell_grid.specs.declared.block.CellSize.{CellSize}
use Rattle.cell_grid.specs.declared.entry.Entry.{Entry}
use Rattle.cell_grid.specs.Entries.{is_same_entry}
use Rattle.cell_grid.specs.Cells.{IsBlock, IsCellOf, cell_count, cell_at}
use Rattle.cell_grid.specs.Held.{HeldEntries, entries_at, HasSameEntries, times_at, HasEachAsOften}
use Rattle.cell_grid.specs.Spread.{IsSpread, IsSoundEntry, Stands, StandsSame, StandsOneMore, StandsOneLess, block_at, IsPutIn, IsTakenOut}
use Rattle.cell_grid.proofs.Blocks.{cell-of, cell-found}
use Rattle.cell_grid.proofs.Same.{same_entry, is_itself, one_from_Contains, Contains_from_one, count_more}

-- ---- Cells that have each entry as often as before

-- the same entries stand there as before
module _ (old new : HeldEntries) (same : HasEachAsOften old new) where
  into_same : (cell : ℕ) (e : Entry) → Contains (entries_at old cell) e
      → Contains (entries_at new cell) e
  into_same cell e h = Contains_from_one (entries_at new cell) e
      (subst (λ (n : ℕ). 1 ≤ n) (sym (same cell e)) (one_from_Contains (entries_at old cell) e h))

  from_same : (cell : ℕ) (e : Entry) → Contains (entries_at new cell) e
      → Contains (entries_at old cell) e
  from_same cell e h = Contains_from_one (entries_at old cell) e
      (subst (λ (n : ℕ). 1 ≤ n) (same cell e) (one_from_Contains (entries_at new cell) e h))

  pub stands-same : StandsSame old new
  stands-same e = ((λ h. (h.0, from_same h.0 e h.1)), (λ h. (h.0, into_same h.0 e h.1)))

  pub spread-same : (size : CellSize) → IsSpread size old → IsSpread size new
  spread-same size s = record {
    cells = s.cells;
    in_box = λ cell e h. s.in_box cell e (from_same cell e h);
    everywhere =
        λ from cell e h c. into_same cell e (s.everywhere from cell e (from_same from e h) c);
    once = λ cell e. subst (λ (n : ℕ). n ≤ 1) (sym (same cell e)) (s.once cell e);
    sound = λ e h. s.sound e ((stands-same e).0 h);
  }

-- ---- Numbers below a bound

-- one of these numbers is c, or none is
some_below : (f : ℕ → ℕ) (c n : ℕ)
    → ((k : ℕ) × (k < n) × (f k ≡ c)) ⊎ ((k : ℕ) → k < n → ¬ (f k ≡ c))
some_below f c zero = inr (λ k hk. absurd (omega arith))
some_below f c (suc n) = elim (some_below f c n) [
  | inl found ↦ inl (found.0, omega (arith, found.1), found.2)
  | inr none ↦ elim (cases_eq (f n) c) [
    | inl here ↦ inl (n, omega arith, here)
    | inr other ↦ inr
        (λ k hk. elim (cases_lt k n) [
          | inl lt ↦ none k lt
          | inr ge ↦ let same : k ≡ n = omega arith in
              λ e. other (subst (λ (j : ℕ). f j ≡ c) same e)
        ])
  ]
]

-- a list that may be put into has e no more than once then
pub count_pushed : (xs : List Entry) (e x : Entry) → ¬ Contains xs e
    → count_by (is_same_entry x) xs ≤ 1 → count_by (is_same_entry x) (xs ++ e ∷ []) ≤ 1
count_pushed xs e x none few = by (is_same_entry x e) refl
  where
    by : (b : Bool) → is_same_entry x e ≡ b → count_by (is_same_entry x) (xs ++ e ∷ []) ≤ 1
    by true is =
        let push = sum_by_push (λ (y : Entry). cond {A = ℕ} (is_same_entry x y) 1 0) xs e in
        let one : cond {A = ℕ} (is_same_entry x e) 1 0 ≡ 1 =
        subst (λ (b : Bool). cond {A = ℕ} b 1 0 ≡ 1) (sym is) refl in
        let absent : ¬ (1 ≤ count_by (is_same_entry x) xs) =
        λ h. none (subst (λ (y : Entry). Contains xs y) (same_entry x e is)
        (Contains_from_one xs x h)) in
        elim (cases_lt (count_by (is_same_entry x) xs) 1) [
          | inl lt ↦ omega arith
          | inr ge ↦ absurd (absent ge)
        ]
    by false is =
        let push = sum_by_push (λ (y : Entry). cond {A = ℕ} (is_same_entry x y) 1 0) xs e in
        let zero_more : cond {A = ℕ} (is_same_entry x e) 1 0 ≡ 0 =
        subst (λ (b : Bool). cond {A = ℕ} b 1 0 ≡ 0) (sym is) refl in
        omega arith

-- a list without an entry that it had
module _ (old new : List Entry) (e : Entry) (out : IsPermutation old (e ∷ new)) where
  count_out : (x : Entry)
      → count_by (is_same_entry x) old
      ≡ cond {A = ℕ} (is_same_entry x e) 1 0 + count_by (is_same_entry x) new
  count_out x =
      sym (sum_by-IsPermutation (λ (y : Entry). cond {A = ℕ} (is_same_entry x y) 1 0) old
      (e ∷ new) out) ∙ count_more (is_same_entry x) e new

  pub few_out : (x : Entry) → count_by (is_same_entry x) old ≤ 1 → count_by (is_same_entry x) new ≤ 1
  few_out x few = let c = count_out x in omega arith

  pub stood : (x : Entry) → Contains new x → Contains old x
  stood x h = Contains-permutation (e ∷ new) old x (IsPermutation-sym old (e ∷ new) out)
      (Contains-append_right (e ∷ []) new x h)

  pub gone : count_by (is_same_entry e) old ≤ 1 → ¬ Contains new e
  gone few h =
      let c = count_out e in
      let one : cond {A = ℕ} (is_same_entry e e) 1 0 ≡ 1 =
      subst (λ (b : Bool). cond {A = ℕ} b 1 0 ≡ 1) (sym (is_itself e)) refl in
      let more = one_from_Contains new e h in
      absurd (omega arith)

  pub keeps : (x : Entry) → Contains old x → ¬ (x ≡ e) → Contains new x
  keeps x h other =
      elim (Contains-append_cases (e ∷ []) new x (Contains-permutation old (e ∷ new) x out h)) [
        | inl here ↦ absurd (other (only x here))
        | inr later ↦ later
      ]
    where
      only : (x : Entry) → Contains (e ∷ []) x → x ≡ e
      only x (zero, within, is) = sym is
      only x (suc k, within, is) = absurd (omega arith)

-- an entry that went into cells of a block, and that is taken out of them again
module _ (b : Block) (n : ℕ) (e : Entry) (old full kept : HeldEntries)
    (put : IsPutIn old b e n full) (same : HasSameEntries full kept) where
  items : (k : ℕ) → k < n → entries_at kept (cell_at b k) ≡ entries_at old (cell_at b k) ++ e ∷ []
  items k low = same (cell_at b k) ∙ put.there k low

  pub went-in : (k : ℕ) → k < n → Contains (entries_at kept (cell_at b k)) e
  went-in k low = subst (λ (l : List Entry). Contains l e) (sym (items k low))
      (Contains-push (entries_at old (cell_at b k)) e)

  pub came-out : (new : HeldEntries) → IsTakenOut kept b e n new → HasEachAsOften old new
  came-out new out cell x = elim (some_below (cell_at b) cell n) [
    | inl found ↦ subst (λ (c : ℕ). times_at new c x ≡ times_at old c x) found.2
        (as_often found.0 found.1)
    | inr none ↦ ap (λ (l : List Entry). count_by (is_same_entry x) l)
        (out.others cell none ∙ same cell ∙ put.others cell none)
  ]
    where
      as_often : (k : ℕ) → k < n → times_at new (cell_at b k) x ≡ times_at old (cell_at b k) x
      as_often k low =
          let was = entries_at old (cell_at b k) in
          let is = entries_at new (cell_at b k) in
          let more = sum_by_push (λ (y : Entry). cond {A = ℕ} (is_same_entry x y) 1 0) was e in
          let out_of : IsPermutation (was ++ e ∷ []) (e ∷ is) =
          subst (λ (l : List Entry). IsPermutation l (e ∷ is)) (items k low) (out.there k low) in
          let less = count_out (was ++ e ∷ []) is e out_of x in
          omega arith

-- ---- Into the cells of a box, and out of them

record IsIn (b : Block) (e : Entry) (old new : HeldEntries) (cell : ℕ) : Type 0 where
  of_block : IsCellOf b cell
  items : entries_at new cell ≡ entries_at old cell ++ e ∷ []

record IsOut (b : Block) (e : Entry) (old new : HeldEntries) (cell : ℕ) : Type 0 where
  of_block : IsCellOf b cell
  items : IsPermutation (entries_at old cell) (e ∷ entries_at new cell)

record IsAway (b : Block) (old new : HeldEntries) (cell : ℕ) : Type 0 where
  other : ¬ IsCellOf b cell
  items : entries_at new cell ≡ entries_at old cell

away : (b : Block) (h : IsBlock b) (old new : HeldEntries) (cell : ℕ)
    → ((k : ℕ) → k < cell_count b → ¬ (cell_at b k ≡ cell))
    → entries_at new cell ≡ entries_at old cell → IsAway b old new cell
away b h old new cell none same =
    record { other = λ c. let f = cell-found b h cell c in none f.0 f.1 f.2; items = same }

-- a cell is of the block, and as each of them is, or away from it
cases : (b : Block) (h : IsBlock b) (old new : HeldEntries) (P : ℕ → Type 0)
    → ((k : ℕ) → k < cell_count b → P (cell_at b k))
    → ((cell : ℕ) → ((k : ℕ) → k < cell_count b → ¬ (cell_at b k ≡ cell))
    → entries_at new cell ≡ entries_at old cell)
    → (cell : ℕ) → P cell ⊎ IsAway b old new cell
cases b h old new P there others cell = elim (some_below (cell_at b) cell (cell_count b)) [
  | inl found ↦ inl (subst P found.2 (there found.0 found.1))
  | inr none ↦ inr (away b h old new cell none (others cell none))
]

put_cases : (b : Block) (h : IsBlock b) (e : Entry) (old new : HeldEntries)
    → IsPutIn old b e (cell_count b) new → (cell : ℕ)
    → IsIn b e old new cell ⊎ IsAway b old new cell
put_cases b h e old new put = cases b h old new (IsIn b e old new)
    (λ k low. record { of_block = cell-of b h k low; items = put.there k low }) put.others

take_cases : (b : Block) (h : IsBlock b) (e : Entry) (old new : HeldEntries)
    → IsTakenOut old b e (cell_count b) new → (cell : ℕ)
    → IsOut b e old new cell ⊎ IsAway b old new cell
take_cases b h e old new out = cases b h old new (IsOut b e old new)
    (λ k low. record { of_block = cell-of b h k low; items = out.there k low }) out.others

-- after a put into each cell of its box
module _ (size : CellSize) (e : Entry) (h : IsBlock (block_at size e)) (old new : HeldEntries)
    (s : IsSpread size old) (number : IsSoundEntry e) (absent : ¬ Stands old e)
    (put : IsPutIn old (block_at size e) e (cell_count (block_at size e)) new) where
  came : (cell : ℕ) (x : Entry) → Contains (entries_at new cell) x
      → Contains (entries_at old cell) x ⊎ ((x ≡ e) × IsCellOf (block_at size e) cell)
  came cell x there = elim (put_cases (block_at size e) h e old new put cell) [
    | inl i ↦ elim (Contains-push_cases (entries_at old cell) e x
        (subst (λ (l : List Entry). Contains l x) i.items there))
        [ inl stood ↦ inl stood | inr same ↦ inr (sym same, i.of_block) ]
    | inr a ↦ inl (subst (λ (l : List Entry). Contains l x) a.items there)
  ]

  stays : (cell : ℕ) (x : Entry) → Contains (entries_at old cell) x → Contains (entries_at new cell) x
  stays cell x there = elim (put_cases (block_at size e) h e old new put cell) [
    | inl i ↦ subst (λ (l : List Entry). Contains l x) (sym i.items)
        (Contains-append_left (entries_at old cell) (e ∷ []) x there)
    | inr a ↦ subst (λ (l : List Entry). Contains l x) (sym a.items) there
  ]

  arrives : (cell : ℕ) → IsCellOf (block_at size e) cell → Contains (entries_at new cell) e
  arrives cell c = elim (put_cases (block_at size e) h e old new put cell) [
    | inl i ↦ subst (λ (l : List Entry). Contains l e) (sym i.items)
        (Contains-push (entries_at old cell) e)
    | inr a ↦ absurd (a.other c)
  ]

  few_each : (cell : ℕ) (x : Entry) → count_by (is_same_entry x) (entries_at new cell) ≤ 1
  few_each cell x = elim (put_cases (block_at size e) h e old new put cell) [
    | inl i ↦ subst (λ (l : List Entry). count_by (is_same_entry x) l ≤ 1) (sym i.items)
        (count_pushed (entries_at old cell) e x (λ there. absent (cell, there)) (s.once cell x))
    | inr a ↦ subst (λ (l : List Entry). count_by (is_same_entry x) l ≤ 1) (sym a.items)
        (s.once cell x)
  ]

  in_box_of : (cell : ℕ) (x : Entry) → Contains (entries_at new cell) x
      → IsCellOf (block_at size x) cell
  in_box_of cell x there =
      elim (came cell x there) [
        | inl stood ↦ s.in_box cell x stood
        | inr p ↦ subst (λ (y : Entry). IsCellOf (block_at size y) cell) (sym p.0) p.1
      ]

  everywhere_of : (from cell : ℕ) (x : Entry) → Contains (entries_at new from) x
      → IsCellOf (block_at size x) cell → Contains (entries_at new cell) x
  everywhere_of from cell x there c = elim (came from x there) [
    | inl stood ↦ stays cell x (s.everywhere from cell x stood c)
    | inr p ↦ subst (λ (y : Entry). Contains (entries_at new cell) y) (sym p.0)
        (arrives cell (subst (λ (y : Entry). IsCellOf (block_at size y) cell) p.0 c))
  ]

  pub stands-put : StandsOneMore old e new
  stands-put x = (back, forth)
    where
      first : ℕ
      first = cell_at (block_at size e) 0

      some_cell : 0 < cell_count (block_at size e)
      some_cell = mul-pos (omega arith) (omega arith)

      back : Stands new x → Stands old x ⊎ (x ≡ e)
      back t = elim (came t.0 x t.1) [ inl stood ↦ inl (t.0, stood) | inr p ↦ inr p.0 ]

      forth : Stands old x ⊎ (x ≡ e) → Stands new x
      forth (inl t) = (t.0, stays t.0 x t.1)
      forth (inr same) = (
        first,
        subst (λ (y : Entry). Contains (entries_at new first) y) (sym same)
            (arrives first (cell-of (block_at size e) h 0 some_cell)),
      )

  pub spread-put : IsSpread size new
  spread-put = record {
    cells = s.cells;
    in_box = in_box_of;
    everywhere = everywhere_of;
    once = few_each;
    sound = λ x t. elim ((stands-put x).0 t) [
      | inl stood ↦ s.sound x stood
      | inr same ↦ subst IsSoundEntry (sym same) number
    ];
  }

-- after a take out of each cell of its box
module _ (size : CellSize) (e : Entry) (h : IsBlock (block_at size e)) (old new : HeldEntries)
    (s : IsSpread size old)
    (out : IsTakenOut old (block_at size e) e (cell_count (block_at size e)) new) where
  was : (cell : ℕ) (x : Entry) → Contains (entries_at new cell) x
      → Contains (entries_at old cell) x × ¬ (x ≡ e)
  was cell x there = elim (take_cases (block_at size e) h e old new out cell) [
    | inl o ↦ (
      stood (entries_at old cell) (entries_at new cell) e o.items x there,
      (λ same. gone (entries_at old cell) (entries_at new cell) e o.items (s.once cell e)
          (subst (λ (y : Entry). Contains (entries_at new cell) y) same there)),
    )
    | inr a ↦
        let before : Contains (entries_at old cell) x =
        subst (λ (l : List Entry). Contains l x) a.items there in (
          before,
          (λ same.
              a.other (s.in_box cell e (subst (λ (y : Entry). Contains (entries_at old cell) y) same
              before))),
        )
  ]

  remains : (cell : ℕ) (x : Entry) → Contains (entries_at old cell) x → ¬ (x ≡ e)
      → Contains (entries_at new cell) x
  remains cell x there other = elim (take_cases (block_at size e) h e old new out cell) [
    | inl o ↦ keeps (entries_at old cell) (entries_at new cell) e o.items x there other
    | inr a ↦ subst (λ (l : List Entry). Contains l x) (sym a.items) there
  ]

  few_left : (cell : ℕ) (x : Entry) → count_by (is_same_entry x) (entries_at new cell) ≤ 1
  few_left cell x = elim (take_cases (block_at size e) h e old new out cell) [
    | inl o ↦ few_out (entries_at old cell) (entries_at new cell) e o.items x (s.once cell x)
    | inr a ↦ subst (λ (l : List Entry). count_by (is_same_entry x) l ≤ 1) (sym a.items)
        (s.once cell x)
  ]

  pub stands-take : StandsOneLess old e new
  stands-take x = (
    (λ t. let w = was t.0 x t.1 in ((t.0, w.0), w.1)),
    (λ p. (p.0.0, remains p.0.0 x p.0.1 p.1)),
  )

  pub spread-take : IsSpread size new
  spread-take = record {
    cells = s.cells;
    in_box = λ cell x t. s.in_box cell x (was cell x t).0;
    everywhere = λ from cell x t c. remains cell x (s.everywhere from cell x (was from x t).0 c)
        (was from x t).1;
    once = few_left;
    sound = λ x t. s.sound x ((stands-take x).0 t).0;
  }

-- an entry that stands in a layer stands in each cell of its box
pub stands-each : (size : CellSize) (e : Entry) (h : IsBlock (block_at size e)) (lists : HeldEntries)
    → IsSpread size lists → Stands lists e → (k : ℕ) → k < cell_count (block_at size e)
    → Contains (entries_at lists (cell_at (block_at size e) k)) e
stands-each size e h lists s t k low =
    s.everywhere t.0 (cell_at (block_at size e) k) e t.1 (cell-of (block_at size e) h k low)

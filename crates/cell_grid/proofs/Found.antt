-- What is given near a segment is held, and all whose box overlaps its own is given.
use Rattle.std.proofs.Common.{◌≡◌, ℕ, zero, suc, ◌-◌, ◌<◌, List, [], ◌∷◌, length, filter, Bool, true, false, refl, sym, subst, ◌∙◌, arith, ◌⊎◌, inl, inr, Option, Some, None, nat_eq, eqb-true}
use Rattle.std.specs.Prelude.{if◌then◌else◌}
use Rattle.std.specs.List.{Contains}
use Rattle.std.specs.Map.{lookup}
use Rattle.geo_exact.specs.Position.{Position, OnTheMap}
use Rattle.geo_exact.specs.SignTest.{boxes_overlap}
use Rattle.cell_grid.specs.declared.block.CellSize.{CellSize}
use Rattle.cell_grid.specs.declared.entry.Entry.{Entry}
use Rattle.cell_grid.specs.declared.held_list.HeldList.{HeldList}
use Rattle.cell_grid.specs.Bounds.{bounds_of, is_near}
use Rattle.cell_grid.specs.declared.near.Scope.{Scope}
use Rattle.cell_grid.specs.Cells.{IsCellOf, cell_count, cell_at, is_cell_of}
use Rattle.cell_grid.specs.Held.{HeldEntries, entries_at, cell_list as list_of, cell_in_turn, list_in_turn}
use Rattle.cell_grid.specs.Spread.{IsSpread, Stands}
use Rattle.cell_grid.specs.Near.{IsScope, searched_count, searched_list, lists_from}
use Rattle.cell_grid.proofs.Placed.{one_cell}
use Rattle.cell_grid.proofs.Blocks.{cell-found, cell-told}
use Rattle.cell_grid.proofs.Bounded.{is_near-is}
use Rattle.cell_grid.proofs.Nearness.{joined-has, joined-from}

-- ---- The near ones of a list

cons-cases : {X : Type 0} (y : X) (ys : List X) (x : X) → Contains (y ∷ ys) x
    → (y ≡ x) ⊎ Contains ys x
cons-cases y ys x (zero, within, is) = inl is
cons-cases y ys x (suc k, within, is) = inr (k, omega arith, is)

cons-later : {X : Type 0} (y : X) (ys : List X) (x : X) → Contains ys x → Contains (y ∷ ys) x
cons-later y ys x (k, within, is) = (suc k, omega arith, is)

one_kept : (p : Entry → Bool) (x : Entry) (xs : List Entry) → p x ≡ true
    → filter p (x ∷ xs) ≡ x ∷ filter p xs
one_kept p x xs here = rw here refl

one_left : (p : Entry → Bool) (x : Entry) (xs : List Entry) → p x ≡ false
    → filter p (x ∷ xs) ≡ filter p xs
one_left p x xs here = rw here refl

pub near-from : (p : Entry → Bool) (xs : List Entry) (e : Entry) → Contains (filter p xs) e
    → Contains xs e × (p e ≡ true)
near-from p [] e h = absurd (omega (arith, h.1))
near-from p (x ∷ xs) e h = by (p x) refl (near-from p xs e)
  where
    by : (b : Bool) → p x ≡ b → (Contains (filter p xs) e → Contains xs e × (p e ≡ true))
        → Contains (x ∷ xs) e × (p e ≡ true)
    by true is rest =
        elim (cons-cases x (filter p xs) e
        (subst (λ (l : List Entry). Contains l e) (one_kept p x xs is) h)) [
          | inl here ↦ ((0, omega arith, here), subst (λ (y : Entry). p y ≡ true) here is)
          | inr more ↦ let f = rest more in (cons-later x xs e f.0, f.1)
        ]
    by false is rest =
        let f = rest (subst (λ (l : List Entry). Contains l e) (one_left p x xs is) h) in
        (cons-later x xs e f.0, f.1)

pub near-has : (p : Entry → Bool) (xs : List Entry) (e : Entry) → Contains xs e → p e ≡ true
    → Contains (filter p xs) e
near-has p [] e h near = absurd (omega (arith, h.1))
near-has p (x ∷ xs) e h near = elim (cons-cases x xs e h) [
  | inl here ↦
      subst (λ (l : List Entry). Contains l e)
      (sym (one_kept p x xs (subst (λ (y : Entry). p y ≡ true) (sym here) near)))
      (0, omega arith, here)
  | inr later ↦ past (p x) refl (near-has p xs e later near)
]
  where
    past : (b : Bool) → p x ≡ b → Contains (filter p xs) e → Contains (filter p (x ∷ xs)) e
    past true is c =
        subst (λ (l : List Entry). Contains l e) (sym (one_kept p x xs is))
        (cons-later x (filter p xs) e c)
    past false is c = subst (λ (l : List Entry). Contains l e) (sym (one_left p x xs is)) c

-- ---- Entries by the places of their lists

record HasKey (es : HeldEntries) (cell : ℕ) : Type 0 where
  k : ℕ
  within : k < length es
  is : cell_in_turn es k ≡ cell

at_key : (es : HeldEntries) (cell : ℕ) (l : HeldList) → lookup (nat_eq cell) es ≡ Some l
    → HasKey es cell
at_key [] cell l is = cc
at_key (p ∷ es) cell l is = by (nat_eq cell p.0) refl (at_key es cell l)
  where
    by : (b : Bool) → nat_eq cell p.0 ≡ b → (lookup (nat_eq cell) es ≡ Some l → HasKey es cell)
        → HasKey (p ∷ es) cell
    by true same rest =
        record { k = 0; within = omega arith; is = sym (eqb-true cell p.0 same) }
    by false same rest =
        let on : lookup (nat_eq cell) (p ∷ es) ≡ lookup (nat_eq cell) es = rw same refl in
        let f = rest (sym on ∙ is) in
        record { k = suc f.k; within = omega (arith, f.within); is = f.is }

module _ (lists : HeldEntries) (from to : Position) (s : Scope) where
  -- what the search gives from its beginning on
  abbrev given : List Entry
  given = filter (is_near (bounds_of from to)) (lists_from lists s 0)

  list-stands : (k : ℕ) (e : Entry) → Contains (searched_list lists s k) e → Stands lists e
  list-stands k e h = by s.all h
    where
      in_turn : (b : Bool) → Contains (if b then list_in_turn lists k else []) e → Stands lists e
      in_turn true t = (cell_in_turn lists k, t)
      in_turn false t = absurd (omega (arith, t.1))

      by : (b : Bool)
          → Contains (if b then (if is_cell_of s.block (cell_in_turn lists k) then list_in_turn lists k
          else []) else entries_at lists (cell_at s.block k)) e → Stands lists e
      by true t = in_turn (is_cell_of s.block (cell_in_turn lists k)) t
      by false t = (cell_at s.block k, t)

  pub given-stands : (e : Entry) → Contains given e
      → Stands lists e × (boxes_overlap from to e.from e.to ≡ true)
  given-stands e h =
      let f = near-from (is_near (bounds_of from to)) (lists_from lists s 0) e h in
      let j = joined-from (searched_list lists s) e 0 (searched_count lists s - 0) f.0 in
      (list-stands j.0 e j.1, sym (is_near-is from to e) ∙ f.1)

  -- the place of a cell with an entry, in turn
  turn-of : (cell : ℕ) (e : Entry) → Contains (entries_at lists cell) e → HasKey lists cell
  turn-of cell e h = by (list_of lists cell) refl
    where
      by : (o : Option HeldList) → list_of lists cell ≡ o → HasKey lists cell
      by None is = let none = rw is at h in absurd (omega (arith, none.1))
      by (Some l) is = at_key lists cell l is

  module _ (size : CellSize) (spread : IsSpread size lists) (is : IsScope size from to s)
      (on_from : OnTheMap from) (on_to : OnTheMap to) where
    list-of : (e : Entry) → Stands lists e → boxes_overlap from to e.from e.to ≡ true
        → (k : ℕ) × (k < searched_count lists s) × Contains (searched_list lists s k) e
    list-of e stands near = found s.all
      where
        one : (cell : ℕ) × IsCellOf s.block cell × Contains (entries_at lists cell) e
        one =
            let sound = spread.sound e stands in
            let c = one_cell size from to e.from e.to on_from on_to sound.from
            sound.to near in (
              c.0,
              subst (λ b. IsCellOf b c.0) (sym is.block) c.1,
              spread.everywhere stands.0 c.0 e stands.1 c.2,
            )

        found : (b : Bool) → (k : ℕ) × (k < (if b then length lists else cell_count s.block))
            × Contains (if b then (if is_cell_of s.block (cell_in_turn lists k)
            then list_in_turn lists k else []) else entries_at lists (cell_at s.block k)) e
        found true =
            let f = turn-of one.0 e one.2 in
            let told : is_cell_of s.block (cell_in_turn lists f.k) ≡ true =
            rw f.is (cell-told s.block is.is_block one.0 one.1) in
            (f.k, f.within, rw told (rw f.is one.2))
        found false =
            let f = cell-found s.block is.is_block one.0 one.1 in
            (f.0, f.1, subst (λ c. Contains (entries_at lists c) e) (sym f.2) one.2)

    pub given-all : (e : Entry) → Stands lists e → boxes_overlap from to e.from e.to ≡ true
        → Contains given e
    given-all e stands near =
        let l = list-of e stands near in
        near-has (is_near (bounds_of from to)) (lists_from lists s 0) e
        (joined-has (searched_list lists s) e l.0 0 (searched_count lists s - 0)
        (omega arith) (omega (arith, l.1)) l.2) (is_near-is from to e ∙ near)

-- An entry goes into the cells of its box one after another, and out of them.
use Rattle.std.proofs.Common.{◌≡◌, ℕ, ◌+◌, ◌<◌, List, [], ◌∷◌, ◌++◌, sym, ap, subst, ◌∙◌, arith, ◌⊎◌, inl, inr}
use Rattle.std.proofs.lemmas.Bool.{cases_lt}
use Rattle.std.specs.Prelude.{IsPermutation, option_map, unwrap_or}
use Rattle.std.specs.List.{Contains}
use Rattle.cell_grid.specs.declared.held_list.HeldList.{HeldList}
use Rattle.cell_grid.specs.declared.block.Block.{Block}
use Rattle.cell_grid.specs.declared.entry.Entry.{Entry}
use Rattle.cell_grid.specs.Cells.{IsBlock, cell_count, cell_at}
use Rattle.cell_grid.specs.Held.{HeldEntries, entries_at, KeepsOtherCells}
use Rattle.cell_grid.specs.Spread.{IsPutIn, IsTakenOut}
use Rattle.cell_grid.proofs.Blocks.{cell-once}

pub items-kept : (c : ℕ) (old new : HeldEntries) → KeepsOtherCells c old new → (b : ℕ) → ¬ (c ≡ b)
    → entries_at new b ≡ entries_at old b
items-kept c old new keeps b other =
    ap (λ o. unwrap_or (option_map (λ (l : HeldList). l.entries.items) o) []) (keeps b other)

-- a number below the next one is it, or below this one
below_next : (k i : ℕ) → k < i + 1 → (k ≡ i) ⊎ (k < i)
below_next k i h = elim (cases_lt k i) [ inl lt ↦ inr lt | inr ge ↦ inl (omega arith) ]

module _ (b : Block) (h : IsBlock b) (i : ℕ) (within : i < cell_count b) where
  other_cell : (k : ℕ) → k < cell_count b → ¬ (k ≡ i) → ¬ (cell_at b i ≡ cell_at b k)
  other_cell k hk apart same = apart (sym (cell-once b h i k within hk same))

  -- no earlier place is that of this cell
  earlier : (j : ℕ) → j < i → ¬ (cell_at b j ≡ cell_at b i)
  earlier j hj same =
      other_cell j (omega arith) (λ e. absurd (omega arith)) (sym same)

  pub put-more : (start old new : HeldEntries) (e : Entry) → IsPutIn start b e i old
      → entries_at new (cell_at b i) ≡ entries_at old (cell_at b i) ++ e ∷ []
      → KeepsOtherCells (cell_at b i) old new → IsPutIn start b e (i + 1) new
  put-more start old new e put here keeps = record {
    there = λ k hk. elim (below_next k i hk) [
      | inl same ↦
          subst (λ (n : ℕ). entries_at new (cell_at b n) ≡ entries_at start (cell_at b n) ++ e ∷ [])
          (sym same) (here ∙ ap (λ (l : List Entry). l ++ e ∷ [])
          (put.others (cell_at b i) earlier))
      | inr lt ↦ items-kept (cell_at b i) old new keeps (cell_at b k)
          (other_cell k (omega arith) (λ x. absurd (omega arith))) ∙ put.there k lt
    ];
    others = λ cell none. items-kept (cell_at b i) old new keeps cell (none i (omega arith))
        ∙ put.others cell (λ j hj. none j (omega arith));
  }

  pub take-more : (start old new : HeldEntries) (e : Entry) → IsTakenOut start b e i old
      → IsPermutation (entries_at old (cell_at b i)) (e ∷ entries_at new (cell_at b i))
      → KeepsOtherCells (cell_at b i) old new → IsTakenOut start b e (i + 1) new
  take-more start old new e taken out keeps = record {
    there = λ k hk. elim (below_next k i hk) [
      | inl eq ↦ subst (λ (n : ℕ). IsPermutation (entries_at start (cell_at b n))
          (e ∷ entries_at new (cell_at b n))) (sym eq)
          (subst (λ (l : List Entry). IsPermutation l (e ∷ entries_at new (cell_at b i)))
          (taken.others (cell_at b i) earlier) out)
      | inr lt ↦ subst (λ (l : List Entry). IsPermutation (entries_at start (cell_at b k))
          (e ∷ l)) (sym (items-kept (cell_at b i) old new keeps (cell_at b k)
          (other_cell k (omega arith) (λ y. absurd (omega arith))))) (taken.there k lt)
    ];
    others = λ cell none. items-kept (cell_at b i) old new keeps cell (none i (omega arith))
        ∙ taken.others cell (λ j hj. none j (omega arith));
  }

  -- the cell that comes next has what it had at the start
  pub taken-there : (start old : HeldEntries) (e : Entry) → IsTakenOut start b e i old
      → Contains (entries_at start (cell_at b i)) e → Contains (entries_at old (cell_at b i)) e
  taken-there start old e taken there =
      subst (λ (l : List Entry). Contains l e)
      (sym (taken.others (cell_at b i) earlier)) there

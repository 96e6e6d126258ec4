-- The cells of a block, by their places.
use Rattle.std.proofs.Common.{◌≡◌, ℕ, ◌+◌, ◌*◌, ◌/◌, ◌%◌, ◌-◌, ◌<◌, arith, mul_comm, sym, ap, subst, ◌∙◌, true}
use Rattle.std.proofs.lemmas.Bool.Decides.{nat_tests}
use Rattle.std.proofs.lemmas.Nat.{div-add-mod', div-mul-add, div_below, mod-mul-add, mul-add-lt}
use Rattle.cell_grid.specs.declared.block.Block.{Block}
use Rattle.cell_grid.specs.Cells.{cells_in_row, IsBlock, IsCellOf, width, cell_count, cell_at, is_cell_of}

module _ (b : Block) (h : IsBlock b) where
  some : 0 < width b
  some = omega arith

  below_width : (k : ℕ) → k % width b < width b
  below_width k = let s = some in omega arith

  pub cell-of : (k : ℕ) → k < cell_count b → IsCellOf b (cell_at b k)
  cell-of k within =
      let s = some in
      let turned : k < (b.top - b.bottom + 1) * width b =
      subst (λ (n : ℕ). k < n) (mul_comm (width b) (b.top - b.bottom + 1)) within in
      let row : k / width b < b.top - b.bottom + 1 =
      div_below k (width b) (b.top - b.bottom + 1) s turned in
      let column : k % width b < width b = below_width k in
      let up = h.up in let across = h.across in
      record {
        x = b.left + k % width b;
        y = b.bottom + k / width b;
        left = omega arith;
        right = omega arith;
        bottom = omega arith;
        top = omega arith;
        is = omega arith;
      }

  -- the place of a cell
  pub cell-found : (cell : ℕ) → IsCellOf b cell → (k : ℕ) × (k < cell_count b)
      × (cell_at b k ≡ cell)
  cell-found cell c =
      let column : c.x - b.left < width b = let l = c.left in let r = c.right in omega arith in
      let row : c.y - b.bottom < b.top - b.bottom + 1 =
      let l = c.bottom in let r = c.top in omega arith in
      let k = (c.y - b.bottom) * width b + (c.x - b.left) in
      let div : k / width b ≡ c.y - b.bottom =
      div-mul-add (c.y - b.bottom) (width b) (c.x - b.left) column in
      let rest : k % width b ≡ c.x - b.left =
      mod-mul-add (c.y - b.bottom) (width b) (c.x - b.left) column in
      let within : k < width b * (b.top - b.bottom + 1) =
      mul-add-lt (c.y - b.bottom) (width b) (c.x - b.left) (b.top - b.bottom + 1) row column
      in
      let l = c.left in let m = c.bottom in let e = c.is in
      (k, within, at (k / width b) (k % width b) div rest)
    where
      at : (q r : ℕ) → q ≡ c.y - b.bottom → r ≡ c.x - b.left
          → (b.bottom + q) * cells_in_row + b.left + r ≡ cell
      at q r hq hr = let l = c.left in let m = c.bottom in let e = c.is in omega arith

  pub cell-once : (j k : ℕ) → j < cell_count b → k < cell_count b → cell_at b j ≡ cell_at b k
      → j ≡ k
  cell-once j k hj hk same =
      let left = h.right in
      let jc = below_width j in let kc = below_width k in
      let columns : j % width b ≡ k % width b =
      apart (j / width b) (j % width b) (k / width b) (k % width b) jc kc same in
      let rows : j / width b ≡ k / width b =
      rows_same (j / width b) (j % width b) (k / width b) (k % width b) jc kc same in
      sym (div-add-mod' j (width b)) ∙ (λ i. rows i * width b + columns i)
      ∙ div-add-mod' k (width b)
    where
      apart : (q r p t : ℕ) → r < width b → t < width b
          → (b.bottom + q) * cells_in_row + b.left + r ≡ (b.bottom + p) * cells_in_row + b.left + t
          → r ≡ t
      apart q r p t hr ht e = let across = h.across in let right = h.right in omega arith

      rows_same : (q r p t : ℕ) → r < width b → t < width b
          → (b.bottom + q) * cells_in_row + b.left + r ≡ (b.bottom + p) * cells_in_row + b.left + t
          → q ≡ p
      rows_same q r p t hr ht e = let across = h.across in let right = h.right in omega arith

  -- the test by columns and rows tells the cells of a block
  pub cell-told : (cell : ℕ) → IsCellOf b cell → is_cell_of b cell ≡ true
  cell-told cell c =
      let low : c.x < cells_in_row = let r = c.right in let across = h.right in omega arith in
      let row : cell / cells_in_row ≡ c.y =
      ap (λ (n : ℕ). n / cells_in_row) c.is ∙ div-mul-add c.y cells_in_row c.x low in
      let column : cell % cells_in_row ≡ c.x =
      ap (λ (n : ℕ). n % cells_in_row) c.is ∙ mod-mul-add c.y cells_in_row c.x low in
      let l = c.left in let r = c.right in let m = c.bottom in let t = c.top in
      rw (row, column) (grind (arith, nat_tests))

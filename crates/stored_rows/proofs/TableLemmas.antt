-- Rows put behind others.
use Rattle.std.proofs.Common.{◌≡◌, ◌≢◌, ℕ, suc, ◌+◌, ◌<◌, ◌==◌, pos, true, List, [], ◌∷◌, ◌++◌, Less, Equal, length, refl, sym, ap, subst, ◌∙◌, arith, ne_eqb}
use Rattle.std.specs.Ordering.{int_cmp}
use Rattle.std.proofs.lemmas.Bool.Decides.{nat_tests}
use Rattle.sqlite_value.specs.declared.value.Value.TheVariants.{Int}
use Rattle.sqlite_value.specs.declared.keys.Order.{Order}
use Rattle.sqlite_value.specs.Order.{Row, value_cmp}
use Rattle.sqlite_value.proofs.OrderLemmas.{value_cmp-Int}
use Rattle.sqlite_trees.specs.Tree.{Trees, put_row, with_tree, from_key, without_rowid}
use Rattle.sqlite_trees.specs.View.{View, SetsTree, OnlyWrites}
use Rattle.stored_rows.specs.Tables.{placed, placed_from, HasTable, PutsRows}

int_below : (m n : ℕ) → m < n → int_cmp (pos m) (pos n) ≡ Less
int_below m n h = grind (arith, nat_tests)

number_below : (m n : ℕ) → m < n → value_cmp (Int (pos m)) (Int (pos n)) ≡ Less
number_below m n h = value_cmp-Int (pos m) (pos n) ∙ int_below m n h

-- a row under the next place comes last
put_last : (n k : ℕ) (rows : List Row) (f : Row) → k ≡ n + length rows → put_row (placed k f) (placed_from n rows) ≡ placed_from n (rows ++ f ∷ [])
put_last n k [] f e = ap (λ m. placed m f ∷ []) (omega (arith, e))
put_last n k (r ∷ rs) f e = rw (number_below n k (omega (arith, e))) (ap (λ xs. placed n r ∷ xs) (put_last (n + 1) k rs f (omega (arith, e))))

has_one_more : (first : Trees) (old new : View) (tree k : ℕ) (rows : List Row) (f : Row) → HasTable first tree rows old.trees → k ≡ 1 + length rows → SetsTree old new tree (put_row (placed k f))
    → tree == tree ≡ true → HasTable first tree (rows ++ f ∷ []) new.trees
has_one_more first old new tree k rows f h e sets same = record {
  table = ap (λ v. v.trees tree) sets.is ∙ (rw same refl ∙ ap (put_row (placed k f)) h.table ∙ put_last 1 k rows f e);
  others = λ t other. ap (λ v. v.trees t) sets.is ∙ elsewhere t other ∙ h.others t other;
}
  where
    elsewhere : (t : ℕ) → t ≢ tree → with_tree old.trees tree (put_row (placed k f) (old.trees tree)) t ≡ old.trees t
    elsewhere t other = rw (ne_eqb t tree other) refl

rewritten : (old new : View) (trees : Trees) → new ≡ record old { trees = trees; cursors = new.cursors } → OnlyWrites old new
rewritten old new trees is = subst (λ ts. new ≡ record old { trees = ts; cursors = new.cursors }) (sym (ap (λ v. v.trees) is)) is

overwritten : (first old new : View) → OnlyWrites first old → new ≡ record old { trees = new.trees; cursors = new.cursors } → OnlyWrites first new
overwritten first old new was is = is ∙ ap {A = View} (λ v. record v { trees = new.trees; cursors = new.cursors }) was

-- and is one more of those that the transaction has put
pub puts_one_more : (first old new : View) (tree k : ℕ) (rows : List Row) (f : Row) → PutsRows first tree rows old → k ≡ 1 + length rows → SetsTree old new tree (put_row (placed k f))
    → tree == tree ≡ true → PutsRows first tree (rows ++ f ∷ []) new
puts_one_more first old new tree k rows f h e sets same = record {
  has = has_one_more first.trees old new tree k rows f h.has e sets same;
  is = overwritten first old new h.is (rewritten old new _ sets.is);
}

-- a table has one number of rows
length_placed : (n : ℕ) (rows : List Row) → length (placed_from n rows) ≡ length rows
length_placed n [] = refl
length_placed n (r ∷ rs) = ap suc (length_placed (n + 1) rs)

pub one_count : (some rows : List Row) → placed_from 1 some ≡ placed_from 1 rows → length some ≡ length rows
one_count some rows e = sym (length_placed 1 some) ∙ ap length e ∙ length_placed 1 rows

pub from_no_key : (o : Order) (es : List Row) → from_key o [] es ≡ es
from_no_key o [] = refl
from_no_key o (e ∷ es) = refl

-- one more row of those that are left
pub rows_push : (n : ℕ) (rows : List Row) (f : Row) (rest : List Row) → placed_from n (rows ++ f ∷ []) ++ rest ≡ placed_from n rows ++ placed (n + length rows) f ∷ rest
rows_push n [] f rest = ap (λ m. placed m f ∷ rest) (omega arith)
rows_push n (r ∷ rs) f rest = ap (λ xs. placed n r ∷ xs) (rows_push (n + 1) rs f rest ∙ ap (λ m. placed_from (n + 1) rs ++ placed m f ∷ rest) (omega arith))

same_number : (n : ℕ) → value_cmp (Int (pos n)) (Int (pos n)) ≡ Equal
same_number n = value_cmp-Int (pos n) (pos n) ∙ grind (arith, nat_tests)

-- the last row is taken out
drop_last : (n k : ℕ) (rows : List Row) (f : Row) → k ≡ n + length rows → without_rowid (pos k) (placed_from n (rows ++ f ∷ [])) ≡ placed_from n rows
drop_last n k [] f e = let same : k ≡ n = omega (arith, e) in rw (same, same_number n) refl
drop_last n k (r ∷ rs) f e = rw (number_below n k (omega (arith, e))) (ap (λ xs. placed n r ∷ xs) (drop_last (n + 1) k rs f (omega (arith, e))))

-- and is one less of those that the transaction has left
pub leaves_one_less : (first old new : View) (tree k : ℕ) (rows : List Row) (f : Row) → PutsRows first tree (rows ++ f ∷ []) old → k ≡ 1 + length rows → SetsTree old new tree (without_rowid (pos k))
    → tree == tree ≡ true → PutsRows first tree rows new
leaves_one_less first old new tree k rows f h e sets same = record {
  has = record {
    table = ap (λ v. v.trees tree) sets.is ∙ (rw same refl ∙ ap (without_rowid (pos k)) h.has.table ∙ drop_last 1 k rows f e);
    others = λ t other. ap (λ v. v.trees t) sets.is ∙ elsewhere t other ∙ h.has.others t other;
  };
  is = overwritten first old new h.is (rewritten old new _ sets.is);
}
  where
    elsewhere : (t : ℕ) → t ≢ tree → with_tree old.trees tree (without_rowid (pos k) (old.trees tree)) t ≡ old.trees t
    elsewhere t other = rw (ne_eqb t tree other) refl

-- a table that has just the rows that it had
pub has_its_own : (v : View) (tree : ℕ) (rows : List Row) → v.trees tree ≡ placed_from 1 rows → PutsRows v tree rows v
has_its_own v tree rows is = record { has = record { table = is; others = λ t other. refl }; is = refl }

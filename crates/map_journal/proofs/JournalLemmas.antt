-- Lines put behind others, and what a commit and a crash leave of them.
use Rattle.std.proofs.Common.{◌≡◌, ◌≢◌, ℕ, false, List, [], ◌∷◌, ◌++◌, ◌+◌, map, length, IsTrue, refl, sym, ap, subst, ◌∙◌, inl, inr}
use Rattle.std.proofs.lemmas.Bool.{cases_Bool, false≢true}
use Rattle.std.proofs.lemmas.List.{length-map}
use Rattle.sqlite_trees.proofs.Doubt.{no_doubt}
use Rattle.sqlite_value.specs.Order.{Row, column, bytes}
use Rattle.sqlite_trees.specs.View.{View, IsClean, Commits}
use Rattle.stored_rows.specs.Tables.{placed_from, PutsRows}
use Rattle.map_journal.specs.Journal.{Line, line_fields, rows_of, journal_tree, HasLines, IsAtRest, IsKept}

pub has_before : (v : View) (done : List Line) → IsAtRest v done → HasLines v.committed done v.committed
has_before v done h = record { journal = h.journal; rest = λ t other. refl }

pub there : (v : View) (done : List Line) → IsAtRest v done → v.trees journal_tree ≡ rows_of done
there v done h = ap (λ trees. trees journal_tree) h.settled ∙ h.journal

mapped : (done lines : List Line) → map line_fields done ++ map line_fields lines ≡ map line_fields (done ++ lines)
mapped [] lines = refl
mapped (line ∷ done) lines = ap (λ rows. line_fields line ∷ rows) (mapped done lines)

pub has_after : (old mid : View) (done lines : List Line) → IsAtRest old done → PutsRows old journal_tree (map line_fields done ++ map line_fields lines) mid
    → HasLines old.committed (done ++ lines) mid.trees
has_after old mid done lines h puts = record {
  journal = puts.has.table ∙ ap (placed_from 1) (mapped done lines);
  rest = λ t other. puts.has.others t other ∙ ap (λ trees. trees t) h.settled;
}

pub kept_after : (old mid new : View) (done lines : List Line) → IsAtRest old done → PutsRows old journal_tree (map line_fields done ++ map line_fields lines) mid → Commits mid new
    → IsKept old new (done ++ lines)
kept_after old mid new done lines h puts commits = record {
  rest = record {
    is_open = subst IsTrue (sym (ap (λ v. v.is_open) commits.is ∙ ap (λ v. v.is_open) puts.is)) h.is_open;
    sound = ap (λ v. v.is_broken) commits.is ∙ commits.sound;
    shape = ap (λ v. v.shape journal_tree) commits.is ∙ (ap (λ v. v.shape journal_tree) puts.is ∙ h.shape);
    settled = ap (λ v. v.trees) commits.is ∙ sym (ap (λ v. v.committed) commits.is);
    journal = ap (λ v. v.committed journal_tree) commits.is ∙ (has_after old mid done lines h puts).journal;
  };
  trees = subst (HasLines old.committed (done ++ lines)) (sym (ap (λ v. v.committed) commits.is)) (has_after old mid done lines h puts);
}

pub clean_if_open : (v : View) → (v.is_clean ≡ false → v.is_open ≡ false) → IsTrue v.is_open → IsClean v
clean_if_open v shut h = elim (cases_Bool v.is_clean) [ inl clean ↦ no_doubt v.is_clean clean | inr dirty ↦ absurd (false≢true (sym (shut dirty) ∙ h)) ]

pub open_if_sound : (v : View) → (v.is_open ≡ false → IsTrue v.is_broken) → v.is_broken ≡ false → IsTrue v.is_open
open_if_sound v broken h = elim (cases_Bool v.is_open) [ inl open' ↦ open' | inr shut ↦ absurd (false≢true (sym h ∙ broken shut)) ]

abbrev lines_from : List Row → List Line
lines_from [] = []
lines_from (r ∷ rs) = bytes (column r 2) ∷ lines_from rs

lines_of_rows : (n : ℕ) (lines : List Line) → lines_from (placed_from n (map line_fields lines)) ≡ lines
lines_of_rows n [] = refl
lines_of_rows n (l ∷ ls) = ap (λ xs. l ∷ xs) (lines_of_rows (n + 1) ls)

-- rows are those of one list of lines
pub same_lines : (some lines : List Line) → rows_of some ≡ rows_of lines → some ≡ lines
same_lines some lines e = sym (lines_of_rows 1 some) ∙ ap lines_from e ∙ lines_of_rows 1 lines

-- What a map file holds after calls of its store.
use Rattle.std.proofs.Common.{◌≡◌, ◌∙◌, ℕ, refl, sym, ap, subst, arith, List, [], IsTrue}
use Rattle.sqlite_trees.specs.View.{View}
use Rattle.cad_map.specs.Map.{Map}
use Rattle.cad_history.specs.History.{beginning}
use Rattle.cad_files.specs.Rows.{Rows}
use Rattle.cad_files.specs.Building.{IsBuilt}
use Rattle.stored_rows.specs.Tables.{OnlyReads, PutsRows}
use Rattle.map_tables.specs.Tables.{PutsPlan}
use Rattle.map_job.specs.Files.{HoldsMap, IsFresh, PutsMap, depth_rows}
use Rattle.map_journal.specs.Journal.{Line, IsAtRest}

-- ---- Reading alone

-- leaves a file at rest
pub still_at_rest : (old new : View) (lines : List Line) → IsAtRest old lines → OnlyReads old new → IsAtRest new lines
still_at_rest old new lines rest is = record {
  is_open = subst IsTrue (sym (ap (λ v. v.is_open) is)) rest.is_open;
  sound = ap (λ v. v.is_broken) is ∙ rest.sound;
  shape = ap (λ v. v.shape 0) is ∙ rest.shape;
  settled = ap (λ v. v.trees) is ∙ rest.settled ∙ sym (ap (λ v. v.committed) is);
  journal = ap (λ v. v.committed 0) is ∙ rest.journal;
}

-- and what was read of it is what is committed then
pub read_of_committed : (old new : View) (lines : List Line) → IsAtRest old lines → OnlyReads old new → old.trees ≡ new.committed
read_of_committed old new lines rest is = rest.settled ∙ sym (ap (λ v. v.committed) is)

-- ---- A file that is made

-- tables in turn, and the settings
pub puts_both : (old mid new : View) (rows : Rows) (depth : ℕ) → IsFresh old → PutsPlan old rows mid → PutsRows mid 6 (depth_rows depth) new → PutsMap old rows depth new
puts_both old mid new rows depth fresh plan put = record {
  tables = record {
    sources = put.has.others 1 (λ is. omega (arith, is)) ∙ plan.has.sources;
    points = put.has.others 2 (λ is. omega (arith, is)) ∙ plan.has.points;
    parcels = put.has.others 3 (λ is. omega (arith, is)) ∙ plan.has.parcels;
    strings = put.has.others 4 (λ is. omega (arith, is)) ∙ plan.has.strings;
    retired = put.has.others 5 (λ is. omega (arith, is)) ∙ plan.has.retired;
  };
  setting = put.has.table;
  journal = put.has.others 0 (λ is. omega (arith, is)) ∙ plan.journal ∙ fresh.journal;
  is = put.is ∙ ap {A = View} (λ v. record v { trees = new.trees; cursors = new.cursors }) plan.is;
}

pub holds_made : (old new : View) (rows : Rows) (depth : ℕ) (m : Map) → PutsMap old rows depth new → IsBuilt rows m → HoldsMap new.trees [] (beginning m depth)
holds_made old new rows depth m put built =
    record { rows = rows; map = m; depth = depth; tables = put.tables; built = built; setting = put.setting; journal = put.journal; replays = refl }

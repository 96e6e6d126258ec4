-- What a batch of records comes to.
use Rattle.std.specs.Prelude.{ℕ, List}
use Rattle.sqlite_trees.specs.Tree.{Trees}
use Rattle.cad_history.specs.History.{History}
use Rattle.cad_files.specs.Texts.{Record}
use Rattle.cad_session.specs.Answered.{AreAnswered}
use Rattle.map_journal.specs.Journal.{Line}
use Rattle.map_session.specs.Session.{Replays}
use Rattle.map_job.specs.Files.{HoldsMap}

-- the records are answered in turn by these bytes, and these lines of them make the same history
pub record IsBatch (first : History) (script : List Record) (lines : List Line) (text : List ℕ) (end : History) : Type 0 where
  pub told : AreAnswered first script text end
  pub kept : Replays first lines end

-- the records are answered in turn by these bytes, and the file holds what they made
pub record IsServed (first : History) (script : List Record) (text : List ℕ) (db : Trees) (lines : List Line) (end : History) : Type 0 where
  pub told : AreAnswered first script text end
  pub holds : HoldsMap db lines end

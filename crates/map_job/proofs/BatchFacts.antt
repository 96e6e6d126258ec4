-- Records done in turn.
use Rattle.std.proofs.Common.{◌≡◌, ◌∙◌, refl, sym, ap, subst, ℕ, List, [], ◌∷◌, ◌++◌, append_assoc, append-nil, arith, true, false, Bool}
use Rattle.sqlite_trees.specs.Tree.{Trees}
use Rattle.cad_history.specs.History.{History, beginning}
use Rattle.cad_files.specs.Line.{line_of}
use Rattle.cad_files.specs.Texts.{Record}
use Rattle.cad_session.specs.Answered.{AreAnswered, IsAnswered}
use Rattle.map_journal.specs.Journal.{Line, HasLines}
use Rattle.map_session.specs.Session.{IsDoneIf, IsLineOf, Replays}
use Rattle.map_session.proofs.ReplayFacts.{replays_on}
use Rattle.map_job.specs.Files.{HoldsMap}
use Rattle.map_job.specs.Batches.{IsBatch}

answers_push : (h mid end : History) (script : List Record) (text more : List ℕ) (f : Record) → AreAnswered h script text mid → IsAnswered mid (line_of f) more end
    → AreAnswered h (script ++ f ∷ []) (text ++ more) end
answers_push h mid end [] text more f a is =
    (end, more, [], subst (λ x. IsAnswered x (line_of f) more end) a.1 is, (refl, refl), ap (λ x. x ++ more) a.0 ∙ sym (append-nil more))
answers_push h mid end (r ∷ rs) text more f a is =
    (a.0, a.1, a.2 ++ more, a.3, answers_push a.0 mid end rs a.2 more f a.4 is, ap (λ x. x ++ more) a.5 ∙ append_assoc a.1 a.2 more)

-- a record that is kept
pub kept_behind : (first h end : History) (script : List Record) (lines new : List Line) (text more told : List ℕ) (f : Record) (line : Line) (done : Bool) → IsBatch first script lines text h
    → IsAnswered h (line_of f) more end → IsDoneIf done h f end → done ≡ true → IsLineOf line f → new ≡ lines ++ line ∷ [] → told ≡ text ++ more
    → IsBatch first (script ++ f ∷ []) new told end
kept_behind first h end script lines new text more told f line done batch is leads so of_f grown written =
    let made = subst (λ d. IsDoneIf d h f end) so leads in
    rw (grown, written) (record {
      told = answers_push first h end script text more f batch.told is;
      kept = replays_on first h end lines (line ∷ []) batch.kept (f, end, of_f, made, refl);
    })

-- and one that isn't
pub answered_behind : (first h end : History) (script : List Record) (lines : List Line) (text more told : List ℕ) (f : Record) (done : Bool) → IsBatch first script lines text h
    → IsAnswered h (line_of f) more end → IsDoneIf done h f end → done ≡ false → told ≡ text ++ more
    → IsBatch first (script ++ f ∷ []) lines told end
answered_behind first h end script lines text more told f done batch is leads so written =
    let same = subst (λ d. IsDoneIf d h f end) so leads in
    rw written (record {
      told = answers_push first h end script text more f batch.told is;
      kept = subst (Replays first lines) (sym same) batch.kept;
    })

-- ---- A batch that is kept

pub holds_with : (old db : Trees) (done lines : List Line) (h end : History) → HoldsMap old done h → HasLines old (done ++ lines) db → Replays h lines end → HoldsMap db (done ++ lines) end
holds_with old db done lines h end file has made = record {
  rows = file.rows;
  map = file.map;
  depth = file.depth;
  tables = record {
    sources = has.rest 1 (λ is. omega (arith, is)) ∙ file.tables.sources;
    points = has.rest 2 (λ is. omega (arith, is)) ∙ file.tables.points;
    parcels = has.rest 3 (λ is. omega (arith, is)) ∙ file.tables.parcels;
    strings = has.rest 4 (λ is. omega (arith, is)) ∙ file.tables.strings;
    retired = has.rest 5 (λ is. omega (arith, is)) ∙ file.tables.retired;
  };
  built = file.built;
  setting = has.rest 6 (λ is. omega (arith, is)) ∙ file.setting;
  journal = has.journal;
  replays = replays_on (beginning file.map file.depth) h end done lines file.replays made;
}

-- no line more
pub holds_still : (old db : Trees) (done : List Line) (h : History) → HoldsMap old done h → HasLines old done db → HoldsMap db done h
holds_still old db done h file has =
    subst (λ ls. HoldsMap db ls h) (append-nil done) (holds_with old db done [] h h file (subst (λ ls. HasLines old ls db) (sym (append-nil done)) has) refl)

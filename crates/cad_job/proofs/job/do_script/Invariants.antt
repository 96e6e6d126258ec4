use Rattle.std.proofs.Common.{◌≡◌, ◌≤◌, ◌++◌, ℕ, List, length}
use Rattle.std.specs.Io.KnownBytes.{Appends}
use Rattle.cad_history.specs.History.{History, beginning}
use Rattle.cad_history.specs.Standing.{StandsFor, StandsForSome}
use Rattle.cad_files.specs.Input.{HasRead}
use Rattle.cad_job.specs.Stopped.{AreGoneThrough}
use Rattle.cad_job.proofs.job.do_script.Given as goal

-- some records of the script are read and answered, none by an answer that stops it, and the editor stands for the history that they lead to
abbrev pub invariant-loop-turn : goal.invariant-loop-turn
invariant-loop-turn g l =
    let map_of = g.M.MapView.map in
    let belongs = g.M.MapStore.belongs in
    record {
      done : (text : List ℕ) (plan : List (List (List ℕ))) → HasRead g.R.Read.remaining text plan l.fn.reader → record {
        script : List (List (List ℕ));
        written : List ℕ;
        now : History;
        read : HasRead g.R.Read.remaining text (plan ++ script) l.reader;
        count : length script ≡ l.turn;
        told : AreGoneThrough l.fn.stop (beginning (map_of l.fn.store) l.fn.depth) script written now;
        stands : StandsFor map_of belongs l.editor now;
        wrote : Appends (g.S.Sink.taken l.fn.sink) (g.S.Sink.taken l.sink) written;
      };
      some : StandsForSome map_of belongs l.editor;
      few : l.turn ≤ 1000000;
      quiet : g.S.Sink.failures l.sink ≡ g.S.Sink.failures l.fn.sink;
    }

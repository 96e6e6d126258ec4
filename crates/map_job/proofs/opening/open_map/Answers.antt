use Rattle.std.proofs.Common.{◌∙◌, sym, subst, arith}
use Rattle.sqlite_trees.specs.View.{IsClean}
use Rattle.cad_history.specs.History.{beginning}
use Rattle.map_session.specs.Session.{Replays}
use Rattle.map_tables.specs.Tables.{HasRows}
use Rattle.map_job.specs.Files.{HasDepth}
use Rattle.map_job.proofs.FileFacts.{still_at_rest, read_of_committed}
use Rattle.map_job.proofs.opening.open_map.Goals as goal

pub returns-in-Ok-replay-clause-holds : goal.returns-in-Ok-replay-clause-holds
returns-in-Ok-replay-clause-holds g c clean =
    let old = g.S.Store.view c.open_journal.new.store in
    let new = g.S.Store.view c.read_tables.new.store in
    let lines = c.in-Ok.lines.items in
    let (depth, rows) = c.in-Ok-read_tables.tables in
    let was : IsClean old = omega (arith, c.read_tables.ensures.quiet.clean, clean) in
    let rest = c.in-Ok.ensures.rest was in
    let same = c.in-Ok-read_tables.ensures.same clean in
    let read = c.in-Ok-read_tables.ensures.read clean in
    let committed = read_of_committed old new lines rest same in
    let now = still_at_rest old new lines rest same in
    let (m, built, stands) = c.in_ok-editor.ensures in
    let (end, replays, after) = c.in-Ok-replay.ensures (beginning m depth) stands in (
      lines,
      end,
      now,
      sym (c.len.ensures ∙ c.in-Ok.lines.ok.0),
      record {
        rows = rows;
        map = m;
        depth = depth;
        tables = subst (λ db. HasRows db rows) committed read.1;
        built = built;
        setting = subst (λ db. HasDepth db depth) committed read.0;
        journal = now.journal;
        replays = subst (λ ls. Replays (beginning m depth) ls end) c.as_slice.ensures.value replays;
      },
      after,
    )

pub returns-in-Ok-replay-clause-stands : goal.returns-in-Ok-replay-clause-stands
returns-in-Ok-replay-clause-stands g c =
    let (m, built, stands) = c.in_ok-editor.ensures in
    let (end, replays, after) = c.in-Ok-replay.ensures _ stands in (end, after)

use Rattle.std.proofs.Common.{◌≡◌, ◌∙◌, ◌++◌, length, length-append, sym, ap, subst, arith, inl, inr}
use Rattle.map_session.specs.Session.{Replays}
use Rattle.map_journal.proofs.JournalLemmas.{same_lines}
use Rattle.map_job.proofs.BatchFacts.{holds_with, holds_still}
use Rattle.map_job.proofs.serving.serve_batch.Goals as goal

pub returns-in-Ok-keep_batch-clause-served : goal.returns-in-Ok-keep_batch-clause-served
returns-in-Ok-keep_batch-clause-served g c clean h done stands rest file =
    let old = g.S.Store.view c.args.store.now in
    let new = g.S.Store.view c.keep_batch.new.store in
    let lines = c.as_slice.result.now in
    let (end, batch, after) = c.in-Ok.ensures.done h stands in
    let made = subst (λ ls. Replays h ls end) (sym c.as_slice.ensures.value) batch.kept in
    let kept = c.in-Ok-keep_batch.ensures.kept clean done rest in
    let there = c.requires.rest (c.keep_batch.ensures.falls clean) in
    let before : length done ≡ c.args.lines = ap length (same_lines done there.0 (sym rest.journal ∙ there.1.journal)) ∙ there.2 in
    let more : length lines ≡ c.len.result = ap length c.as_slice.ensures.value ∙ sym (c.len.ensures ∙ c.in-Ok.batch.lines.ok.0) in (
      end,
      done ++ lines,
      record { told = batch.told; holds = holds_with old.committed new.committed done lines h end file kept.trees made },
      kept.rest,
      omega (arith, length-append done lines, before, more),
      after,
    )

pub returns-in-Ok-keep_batch-clause-crash : goal.returns-in-Ok-keep_batch-clause-crash
returns-in-Ok-keep_batch-clause-crash g c h done stands rest file db r =
    let old = g.S.Store.view c.args.store.now in
    let lines = c.as_slice.result.now in
    let (end, batch, after) = c.in-Ok.ensures.done h stands in
    let made = subst (λ ls. Replays h ls end) (sym c.as_slice.ensures.value) batch.kept in
    elim (c.keep_batch.ensures.crash done rest db r) [
      | inl same ↦ inl (holds_still old.committed db done h file same)
      | inr more ↦ inr (end, c.in-Ok.batch.answers.items, done ++ lines, record { told = batch.told; holds = holds_with old.committed db done lines h end file more made })
    ]

pub returns-in-Err-keep_batch-clause-crash : goal.returns-in-Err-keep_batch-clause-crash
returns-in-Err-keep_batch-clause-crash g c h done stands rest file db r =
    let old = g.S.Store.view c.args.store.now in
    let lines = c.as_slice.result.now in
    let (end, batch, after) = c.in-Ok.ensures.done h stands in
    let made = subst (λ ls. Replays h ls end) (sym c.as_slice.ensures.value) batch.kept in
    elim (c.keep_batch.ensures.crash done rest db r) [
      | inl same ↦ inl (holds_still old.committed db done h file same)
      | inr more ↦ inr (end, c.in-Ok.batch.answers.items, done ++ lines, record { told = batch.told; holds = holds_with old.committed db done lines h end file more made })
    ]

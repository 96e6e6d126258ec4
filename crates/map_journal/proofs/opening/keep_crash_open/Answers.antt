use Rattle.std.proofs.Common.{◌≡◌, ◌++◌, true, Result, Ok, Err, OnOk, sym, ap, ◌∙◌, arith, inl, inr}
use Rattle.std.specs.Result.{is_ok}
use Rattle.std.proofs.lemmas.Bool.{false≢true}
use Rattle.std.proofs.lemmas.Result.{IfOk-weaker}
use Rattle.sqlite_trees.specs.View.{IsClean}
use Rattle.map_journal.specs.Journal.{journal_tree}
use Rattle.map_journal.proofs.JournalLemmas.{same_lines}
use Rattle.map_journal.proofs.opening.keep_crash_open.Goals as goal

pub returns-clause-found : goal.returns-clause-found
returns-clause-found g c =
    IfOk-weaker c.read_rows.result _ _ (λ found h clean done rest.
    let reopened : IsClean (g.S.Store.view c.crash_and_reopen.new.self) = omega (arith, c.read_rows.ensures.quiet.clean, clean) in
    let rows = sym (h clean) ∙ ap (λ t. t journal_tree) c.in-Ok.ensures.fresh.clean in
    elim (c.keep_batch.ensures.crash done rest (g.S.Store.view c.crash_and_reopen.new.self).committed (c.in-Ok.ensures.found reopened)) [
      | inl before ↦ inl (same_lines found.items _ (rows ∙ before.journal))
      | inr after ↦ inr (same_lines found.items _ (rows ∙ after.journal))
    ])
    c.read_rows.ensures.rows

on_ok_of : {A B : Type 0} {P : Type 0} (r : Result A B) → is_ok r ≡ true → OnOk r P → P
on_ok_of (Ok a) ok p = p
on_ok_of (Err b) ok p = absurd (false≢true ok)

pub returns-clause-all : goal.returns-clause-all
returns-clause-all g c =
    IfOk-weaker c.read_rows.result _ _ (λ found h clean done rest ok.
    let reopened : IsClean (g.S.Store.view c.crash_and_reopen.new.self) = omega (arith, c.read_rows.ensures.quiet.clean, clean) in
    let kept = on_ok_of c.keep_batch.result (sym c.is_ok.ensures.value ∙ ok) c.keep_batch.ensures.kept (omega (arith, c.crash_and_reopen.ensures.clean, reopened)) done rest in
    let same = g.met.S.Store.settled c.keep_batch.new.store _ kept.rest.is_open (c.in-Ok.ensures.found reopened) in
    same_lines found.items _ (sym (h clean) ∙ ap (λ t. t journal_tree) (c.in-Ok.ensures.fresh.clean ∙ same) ∙ kept.trees.journal))
    c.read_rows.ensures.rows

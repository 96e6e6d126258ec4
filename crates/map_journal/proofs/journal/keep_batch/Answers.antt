use Rattle.std.proofs.Common.{◌++◌, map, sym, subst, arith, inl, inr}
use Rattle.std.proofs.lemmas.Result.{on_ok_weaker}
use Rattle.map_journal.specs.Journal.{line_fields, HasLines}
use Rattle.map_journal.proofs.JournalLemmas.{kept_after, has_after, has_before, there, clean_if_open, open_if_sound}
use Rattle.map_journal.proofs.journal.keep_batch.Goals as goal

pub returns-clause-kept : goal.returns-clause-kept
returns-clause-kept g c =
    on_ok_weaker c.commit.result (λ commits clean done h.
    let old = g.S.Store.view c.args.store.now in
    kept_after old _ _ done c.args.lines.now h (c.in_ok-append_rows.ensures.put (omega (arith, c.commit.ensures.clean, clean)) (map line_fields done) (there old done h)) (commits clean))
    c.commit.ensures.ok

pub returns-clause-crash : goal.returns-clause-crash
returns-clause-crash g c done h db r =
    let old = g.S.Store.view c.args.store.now in
    let mid = g.S.Store.view c.append_rows.new.store in
    elim (c.commit.ensures.crash db r) [
      | inl now ↦
          let clean = clean_if_open mid (g.met.S.Store.shut_if_dirty c.append_rows.new.store) (open_if_sound mid (g.met.S.Store.broken_if_shut c.append_rows.new.store) now.0) in
          inr (subst (HasLines old.committed (done ++ c.args.lines.now)) (sym now.1)
          (has_after old mid done c.args.lines.now h (c.in_ok-append_rows.ensures.put clean (map line_fields done) (there old done h))))
      | inr before ↦ inl (subst (HasLines old.committed done) (sym (g.met.S.Store.settled c.args.store.now db h.is_open (c.append_rows.ensures.quiet.outcomes db before))) (has_before old done h))
    ]

pub returns-clause-dirty : goal.returns-clause-dirty
returns-clause-dirty g c dirty db r =
    let mid = g.S.Store.view c.append_rows.new.store in
    elim (c.commit.ensures.crash db r) [
      | inl now ↦
          let clean = clean_if_open mid (g.met.S.Store.shut_if_dirty c.append_rows.new.store) (open_if_sound mid (g.met.S.Store.broken_if_shut c.append_rows.new.store) now.0) in
          absurd (dirty (omega (arith, c.append_rows.ensures.quiet.clean, clean)))
      | inr before ↦ c.append_rows.ensures.quiet.outcomes db before
    ]

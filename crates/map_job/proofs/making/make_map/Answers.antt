use Rattle.std.proofs.Common.{[], ap, sym, subst, arith, inl, inr}
use Rattle.std.proofs.lemmas.Result.{on_ok_weaker}
use Rattle.sqlite_trees.specs.View.{IsClean}
use Rattle.cad_history.specs.History.{beginning}
use Rattle.map_journal.proofs.JournalLemmas.{clean_if_open, open_if_sound}
use Rattle.map_job.specs.Files.{HoldsMap}
use Rattle.map_job.proofs.FileFacts.{holds_made}
use Rattle.map_job.proofs.making.make_map.Goals as goal

pub returns-clause-made : goal.returns-clause-made
returns-clause-made g c =
    let view = g.S.Store.view in
    on_ok_weaker c.commit.result (λ commits clean m built.
    let mid : IsClean (view c.put_map.new.store) = omega (arith, c.commit.ensures.clean, clean) in
    subst (λ db. HoldsMap db [] (beginning m c.args.depth)) (sym (ap (λ v. v.committed) (commits clean).is))
    (holds_made (view c.args.store.now) (view c.put_map.new.store) c.args.rows.now c.args.depth m (c.in_ok-put_map.ensures.put mid) built))
    c.commit.ensures.ok

pub returns-clause-crash : goal.returns-clause-crash
returns-clause-crash g c db r =
    let mid = g.S.Store.view c.put_map.new.store in
    elim (c.commit.ensures.crash db r) [
      | inl now ↦
          let clean = clean_if_open mid (g.met.S.Store.shut_if_dirty c.put_map.new.store) (open_if_sound mid (g.met.S.Store.broken_if_shut c.put_map.new.store) now.0) in
          inr (λ m built. subst (λ trees. HoldsMap trees [] (beginning m c.args.depth)) (sym now.1)
          (holds_made (g.S.Store.view c.args.store.now) mid c.args.rows.now c.args.depth m (c.in_ok-put_map.ensures.put clean) built))
      | inr before ↦ inl (c.put_map.ensures.quiet.outcomes db before)
    ]

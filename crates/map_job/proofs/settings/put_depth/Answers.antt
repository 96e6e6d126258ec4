use Rattle.std.proofs.Common.{[], ◌∙◌, ap, map, subst, arith}
use Rattle.std.proofs.lemmas.Result.{on_ok_weaker}
use Rattle.sqlite_trees.specs.View.{IsClean}
use Rattle.stored_rows.specs.Tables.{PutsRows}
use Rattle.map_job.specs.Files.{setting_fields}
use Rattle.map_job.proofs.settings.put_depth.Goals as goal

pub returns-clause-put : goal.returns-clause-put
returns-clause-put g c =
    on_ok_weaker c.append_rows.result (λ put clean.
    let before : IsClean (g.S.Store.view c.args.store.now) = omega (arith, c.append_rows.ensures.quiet.clean, clean) in
    subst (λ rows. PutsRows (g.S.Store.view c.args.store.now) 6 rows (g.S.Store.view c.append_rows.new.store)) (ap (map (λ s. setting_fields s.name s.value)) c.as_slice.ensures ∙ c.in-Ok.ensures)
    (put clean [] (c.requires.empty before)))
    c.append_rows.ensures.put

use Rattle.std.proofs.Common.{arith}
use Rattle.std.proofs.lemmas.Result.{on_ok_weaker}
use Rattle.sqlite_trees.specs.View.{IsClean}
use Rattle.map_job.proofs.FileFacts.{puts_both}
use Rattle.map_job.proofs.making.put_map.Goals as goal

pub returns-clause-put : goal.returns-clause-put
returns-clause-put g c =
    let view = g.S.Store.view in
    on_ok_weaker c.put_depth.result (λ put clean.
    let mid : IsClean (view c.put_plan_rows.new.store) = omega (arith, c.put_depth.ensures.quiet.clean, clean) in
    let old : IsClean (view c.args.store.now) = omega (arith, c.put_plan_rows.ensures.quiet.clean, mid) in
    puts_both (view c.args.store.now) (view c.put_plan_rows.new.store) (view c.put_depth.new.store) c.args.rows.now c.args.depth (c.requires.fresh old) (c.in_ok-put_plan_rows.ensures.put mid) (put clean))
    c.put_depth.ensures.put

use Rattle.std.proofs.Common.{sym, subst}
use Rattle.cad_history.specs.Standing.{StandsForSome}
use Rattle.half_cases.proofs.Stands.{on_ok}
use Rattle.half_cases.proofs.editors.run_again.Goals as goal

pub returns : goal.returns
returns g c =
    let stands = subst (StandsForSome g.M.MapView.map g.M.MapStore.belongs) (sym c.in-Err.ensures.err) c.requires in
    on_ok c.run-in-Err.result _ (λ answers along. let (end, _, after) = along stands.0 stands.1 in (end, after)) c.run-in-Err.ensures.run

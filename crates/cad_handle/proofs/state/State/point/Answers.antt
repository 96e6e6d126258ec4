use Rattle.std.proofs.Common.{sym, ap, option_map}
use Rattle.std.proofs.lemmas.Bool.{false≢true}
use Rattle.cad_rows.specs.declared.rows.PointRow.{PointRow}
use Rattle.cad_handle.proofs.NumberFacts.{no-point}
use Rattle.cad_handle.proofs.state.State.point.Goals as goal

pub returns-in_default : goal.returns-in_default
returns-in_default c = λ h m shows shown.
    sym (ap (option_map (λ (r : PointRow). r.position)) (no-point m c.args.number (shows.history.valid h.place m shown) (λ n. false≢true (c.in_default.ensures.some.1 n))))

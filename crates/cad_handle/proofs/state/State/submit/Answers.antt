use Rattle.cad_handle.proofs.state.State.submit.Goals as goal

pub returns-in-Ok-clause-usable : goal.returns-in-Ok-clause-usable
returns-in-Ok-clause-usable c =
    let (h, shows) = c.requires in
    let (fields, end, whole, answered, after) = c.in-Ok.ensures.told h shows in
    (end, after)

pub returns-in-Err-clause-usable : goal.returns-in-Err-clause-usable
returns-in-Err-clause-usable c =
    let (h, shows) = c.requires in
    let (end, is, after) = c.in-Err.ensures.untold h shows in
    (end, after)

use Rattle.cad_history.proofs.Moves.{IsHistory-beginning}
use Rattle.cad_history.proofs.Runs.{IsHistory-step}
use Rattle.cad_history.proofs.laws.histories_stay.Goals as goal

pub returns-clause-beginning : goal.returns-clause-beginning
returns-clause-beginning c = IsHistory-beginning

pub returns-clause-step : goal.returns-clause-step
returns-clause-step c = IsHistory-step

pub returns-clause-shown_map : goal.returns-clause-shown_map
returns-clause-shown_map c = λ h m is at. is.valid h.place m at

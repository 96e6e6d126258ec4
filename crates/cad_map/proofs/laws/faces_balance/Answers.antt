use Rattle.cad_map.proofs.Boundaries.Balance.{balanced}
use Rattle.cad_map.proofs.laws.faces_balance.Goals as goal

pub returns : goal.returns
returns c = λ f odd m valid. balanced f odd m valid.sound.v1 valid.sound.v5

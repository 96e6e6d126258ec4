use Rattle.cad_laws.proofs.SweptAreas.{areas-swept}
use Rattle.cad_laws.proofs.laws.areas_swept.Goals as goal

pub returns : goal.returns
returns c m x y p a b f whole in_x in_y = areas-swept m x y p a b f whole in_x in_y

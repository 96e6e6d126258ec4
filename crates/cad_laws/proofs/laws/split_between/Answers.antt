use Rattle.cad_laws.proofs.SplitAt.{split-between}
use Rattle.cad_laws.proofs.laws.split_between.Goals as goal

pub returns-clause-corners : goal.returns-clause-corners
returns-clause-corners c m s p x y first second row t found =
    (split-between m s p x y first second row t.valid t.given t.allowed found).0

pub returns-clause-apart : goal.returns-clause-apart
returns-clause-apart c m s p x y first second row t found =
    (split-between m s p x y first second row t.valid t.given t.allowed found).1

use Rattle.std.proofs.Common.{arith}
use Rattle.std.proofs.lemmas.Fmt.{decimal_digit}
use Rattle.cad_files.proofs.plan_texts.face_number.Goals as goal

pub returns-in-Outside : goal.returns-in-Outside
returns-in-Outside c = rw c.in-Outside.is (decimal_digit 0 (omega arith))

use Rattle.std.proofs.Common.{length}
use Rattle.std.proofs.lemmas.Bool.{OnTrue_at, OnTrue_from}
use Rattle.std.proofs.lemmas.Result.{IfOk-weaker}
use Rattle.cad_files.specs.Corners.{NoneMet}
use Rattle.cad_files.proofs.RepeatFacts.{none-met_once}
use Rattle.cad_files.proofs.repeats.are_met_once.Goals as goal

pub returns-then-branch : goal.returns-then-branch
returns-then-branch c =
    let sides = c.args.sides.now in
    let apart = OnTrue_at c.if-branch.true c.in_ok-are_apart.ensures in
    IfOk-weaker c.go_on_apart.result _ _ (λ b on. OnTrue_from b (NoneMet sides (length sides)) (λ is.
    none-met_once sides apart c.requires.linked (OnTrue_at is on))) c.go_on_apart.ensures

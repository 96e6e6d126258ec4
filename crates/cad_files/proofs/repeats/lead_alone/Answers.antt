use Rattle.std.proofs.Common.{subst, arith}
use Rattle.std.specs.List.{AllByRecursion}
use Rattle.std.proofs.lemmas.List.{take_all}
use Rattle.cad_files.specs.Corners.{LeadsAlone}
use Rattle.cad_files.proofs.AloneFacts.{alone-apart}
use Rattle.cad_files.proofs.repeats.lead_alone.Goals as goal

pub returns : goal.returns
returns c = λ m are rows.
    let strings = c.args.strings.now in
    let all = take_all c.loop-string.string-index strings (omega arith) in
    alone-apart m strings rows (subst (AllByRecursion (λ s. LeadsAlone m.strings s.row)) all (c.loop-string.invariant m are))

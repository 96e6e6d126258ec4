use Rattle.std.proofs.Common.{rules, tests}
use Rattle.std.specs.Prelude.{not}
use Rattle.std.proofs.lemmas.Fn.{filter_same}
use Rattle.cad_map.specs.Boundaries.{is_face}
use Rattle.cad_map.proofs.plain.drop_rings.Goals as goal

pub returns-clause-rings : goal.returns-clause-rings
returns-clause-rings c =
    filter_same _ (λ b. not (is_face b.face c.args.face.now)) _ (λ x b q h. search (rules, tests)) _ _ c.retain.ensures.filtered

use Rattle.cad_map.proofs.CallerLemmas.{kept}
use Rattle.cad_edit.proofs.effect.try_edit.Goals as goal

pub returns-in-Ok-effect_of-clause-tested : goal.returns-in-Ok-effect_of-clause-tested
returns-in-Ok-effect_of-clause-tested c =
    rw c.in-Ok-effect_of.ensures (kept c.args.map.now c.args.edit.now c.requires c.are_in_range.ensures c.in-Ok.ensures.allowed)

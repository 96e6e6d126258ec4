use Rattle.std.proofs.Common.{◌∙◌, ap, length, rules, tests, arith}
use Rattle.std.specs.Prelude.{not, ◌==◌}
use Rattle.std.proofs.lemmas.Fn.{filter_same}
use Rattle.cad_rings.specs.Surgery.{without}
use Rattle.cad_rings.proofs.CallerLemmas.{length-without}
use Rattle.cad_rings.proofs.ring.Ring.without_each.Goals as goal

pub returns : goal.returns
returns c =
    filter_same _ (λ q. not (q == c.args.point)) _ (λ x b q h. search (rules, tests)) _ _ c.retain.ensures.filtered
    ∙ ap (without c.args.point) (c.ring.view_is ∙ c.in_ok-ring.ensures)

pub invariant_of-ring : goal.invariant_of-ring
invariant_of-ring c = omega (arith, ap length (returns c), length-without c.args.point c.args.self.now)

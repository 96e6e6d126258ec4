use Rattle.std.proofs.Common.{sym, subst}
use Rattle.std.specs.List.{Contains}
use Rattle.cad_rings.specs.Cycle.{Side}
use Rattle.cad_map.specs.Map.{all_sides}
use Rattle.cad_map.specs.Steps.{next_side}
use Rattle.cad_map.proofs.SharedChains.NextSides.{next-in_all, opposite-in_all}
use Rattle.cad_map.proofs.shared_chain.turns_back.Goals as goal

pub next_side-back-requires-clause-there : goal.next_side-back-requires-clause-there
next_side-back-requires-clause-there g c =
    let m = g.M.MapView.map c.args.map.now in
    let s : Side = (c.args.from, c.args.to) in
    subst (λ (t : Side). Contains (all_sides m) (t.1, c.args.to)) (sym c.next_side-far.ensures.next) (opposite-in_all m c.requires.valid (next_side m s) (next-in_all m c.requires.valid s c.requires.there))

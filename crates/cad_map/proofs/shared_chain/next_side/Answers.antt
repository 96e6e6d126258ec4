use Rattle.std.proofs.Common.{sym, subst}
use Rattle.std.specs.List.{Contains}
use Rattle.cad_map.specs.Map.{all_sides}
use Rattle.cad_map.proofs.SharedChains.NextSides.{next-is, next-in_all}
use Rattle.cad_map.proofs.shared_chain.next_side.Goals as goal

pub returns-clause-next : goal.returns-clause-next
returns-clause-next g c = sym (next-is (g.M.MapView.map c.args.map.now) c.requires.valid (c.args.from, c.args.to) c.unwrap.result (rw c.unwrap.ensures at c.after.ensures.some))

pub returns-clause-there : goal.returns-clause-there
returns-clause-there g c =
    let m = g.M.MapView.map c.args.map.now in
    subst (Contains (all_sides m)) (sym (returns-clause-next g c)) (next-in_all m c.requires.valid (c.args.from, c.args.to) c.requires.there)

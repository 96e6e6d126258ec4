use Rattle.std.specs.Prelude.{IsTrue}
use Rattle.std.proofs.lemmas.Bool.{eqb-true}
use Rattle.cad_map.specs.Map.{is_end}
use Rattle.cad_map.proofs.CallerLemmas.{All-at_each}
use Rattle.cad_near.specs.Near.{OfString}
use Rattle.cad_near.proofs.ways.is_own.Goals as goal

pub returns-then-contains : goal.returns-then-contains
returns-then-contains g c =
    let (place, within, is) = c.if-contains.ensures.cases in
    let there = All-at_each (OfString (g.M.MapView.map c.args.map.now) (λ s. IsTrue (is_end s c.args.point))) c.args.own.now c.args.string c.requires.own (place, within, eqb-true _ c.args.string (is c.args.string)) in
    ((λ _. there), (λ _. c.if-contains.true))

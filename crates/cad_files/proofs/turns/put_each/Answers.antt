use Rattle.std.proofs.Common.{◌≡◌, ◌∙◌, sym, ap, subst, ℕ, get_or, length}
use Rattle.std.proofs.lemmas.List.{get_or_default}
use Rattle.cad_map.specs.declared.stars.Spoke.{Spoke}
use Rattle.cad_files.specs.Turns.{IsTurnOf, IsSoleSpoke, place_before}
use Rattle.cad_files.proofs.TurnFacts.{turn-sole, inserted-each}
use Rattle.cad_files.proofs.turns.put_each.Goals as goal

pub loop-i-preserved : goal.loop-i-preserved
loop-i-preserved c =
    let m = c.args.plain.now in
    let order = c.args.order.now in
    let own = c.index-order-i.result in
    let next = c.index-order-place_before.result in
    let i = c.loop-i.i in
    let sole = turn-sole m c.args.point order c.requires.all c.requires.turn c.requires.many i next c.loop-i-test.true in
    let is_next : get_or order (place_before i (length order)) next ≡ next = ap (λ (k : ℕ). get_or order k next) (sym c.place_before.ensures) ∙ sym c.index-order-place_before.is in
    let is_own : get_or order i next ≡ get_or order i own = get_or_default order i next own c.loop-i-test.true in
    inserted-each (IsTurnOf m) c.key.result _ c.loop-i.turns.entries c.insert.new.self.entries c.in_ok-insert.ensures.updates.0 c.loop-i.invariant
    (subst (λ (s : Spoke × Spoke). IsSoleSpoke m s.0.far c.args.point s.1) (λ k. (is_own k, is_next k)) sole)

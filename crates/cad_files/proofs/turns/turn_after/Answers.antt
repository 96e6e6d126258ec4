use Rattle.std.proofs.Common.{◌∙◌, sym, subst, ℕ, Option}
use Rattle.std.specs.Prelude.{IfSome}
use Rattle.std.proofs.lemmas.Bool.{eqb-true}
use Rattle.cad_files.specs.declared.turns.Turn.{Turn}
use Rattle.cad_files.specs.Turns.{IsTurnOf, IsSoleSpoke}
use Rattle.cad_files.proofs.turns.turn_after.Goals as goal

pub returns-then-eq-2 : goal.returns-then-eq-2
returns-then-eq-2 c = λ m are.
    let turn = c.in_ok-turn.turn.now in
    let is : IsTurnOf m turn = subst (λ (o : Option Turn). IfSome o (IsTurnOf m)) (sym c.in_ok-turn.ensures.value) (are c.key.result) in
    let from = eqb-true turn.from c.args.from (sym c.eq.ensures ∙ c.if-eq.true) in
    let to = eqb-true turn.to c.args.to (sym c.eq-then-eq.ensures ∙ c.if-eq-2.true) in
    subst (λ (s : ℕ × ℕ). IsSoleSpoke m s.0 s.1 turn.next) (λ i. (from i, to i)) is

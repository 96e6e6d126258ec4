use Rattle.std.proofs.Common.{◌≡◌, ◌-◌, ◌∙◌, sym, get_or, arith}
use Rattle.std.proofs.lemmas.List.{get_or_default}
use Rattle.cad_map.specs.declared.stars.Spoke.{Spoke}
use Rattle.cad_map.proofs.Ends.InTurn.{told-apart, met-more}
use Rattle.cad_map.proofs.turn.are_met_in_turn.Goals as goal
use Rattle.cad_map.proofs.turn.are_met_in_turn.Goals.{else-i-gt0-via-then-i-gt0+else-not-is_met_first, else-i-gt0-via-else-i-gt0}

pub loop-i-preserved : goal.loop-i-preserved
loop-i-preserved c =
    let v = c.args.centre in
    let spokes = c.args.spokes.now in
    let i = c.loop-i.i in
    let within = c.loop-i-test.true in
    let spoke = c.index-spokes-i.result in
    let at = λ (d : Spoke). get_or_default spokes i d spoke within in
    let here : (d : Spoke) → ¬ ((get_or spokes i d).position ≡ v) = λ d. rw at (told-apart (get_or spokes i spoke).position v (sym c.eq.ensures ∙ c.if-eq.false)) in
    met-more v spokes i c.loop-i.invariant here (λ d some. elim c.else-i-gt0.branch [
      | else-i-gt0-via-then-i-gt0+else-not-is_met_first w ↦
          let before = w.index-spokes-i-then-i-gt0.result in
          rw (at, get_or_default spokes (i - 1) d before (omega arith)) (sym w.is_met_first.ensures ∙ w.if-not-is_met_first.false)
      | else-i-gt0-via-else-i-gt0 w ↦ let none = w.if-i-gt0.false in absurd (omega (arith, none, some))
    ])

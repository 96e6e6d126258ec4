use Rattle.std.proofs.Common.{◌≡◌, ◌+◌, ◌-◌, ◌<◌, suc, refl, sym, ap, ◌∙◌, Bool, ℕ, arith, Some}
use Rattle.std.specs.Prelude.{◌&&◌}
use Rattle.cad_rings.specs.Cycle.{Side}
use Rattle.cad_map.specs.Steps.{next_side, steps, runs_back}
use Rattle.cad_map.proofs.shared_chain.run_back.Goals as goal

one-more : (count n : ℕ) → n < count → count - n ≡ suc (count - (n + 1))
one-more count n within = omega arith

pub loop-preserved : goal.loop-preserved
loop-preserved g c =
    let next = next_side (g.M.MapView.map c.args.map.now) in
    let s = c.loop.side in
    let rest = c.args.count - (c.loop.counter + 1) in
    let more = one-more c.args.count c.loop.counter c.loop-test.true in
    let turns = sym c.turns_back.ensures ∙ c.if-not-turns_back.false in
    record {
      there = c.next_side-side.ensures.there;
      left = c.loop.invariant.left ∙ ap (runs_back next s) more ∙ ap (λ (b : Bool). b && runs_back next (next s) rest) turns ∙ ap (λ (t : Side). runs_back next t rest) (sym c.next_side-side.ensures.next);
      at = c.loop.invariant.at ∙ ap (λ (n : ℕ). steps next n s) more ∙ ap (λ (t : Side). steps next rest t) (sym c.next_side-side.ensures.next);
    }

pub returns-then-not-turns_back : goal.returns-then-not-turns_back
returns-then-not-turns_back g c =
    let next = next_side (g.M.MapView.map c.args.map.now) in
    rw (c.loop.invariant.left ∙ ap (runs_back next c.loop.side) (one-more c.args.count c.loop.counter c.loop-test.true)
    ∙ ap (λ (b : Bool). b && runs_back next (next c.loop.side) (c.args.count - (c.loop.counter + 1))) (sym c.turns_back.ensures ∙ c.if-not-turns_back.true)) refl

pub returns : goal.returns
returns g c =
    let next = next_side (g.M.MapView.map c.args.map.now) in
    let s = c.loop.side in
    let test = c.loop-test.false in
    let none : c.args.count - c.loop.counter ≡ 0 = omega (arith, test) in
    rw (c.loop.invariant.left ∙ ap (runs_back next s) none) (ap Some (sym (c.loop.invariant.at ∙ ap (λ (n : ℕ). steps next n s) none)))

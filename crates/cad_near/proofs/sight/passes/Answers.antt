use Rattle.std.proofs.Common.{◌∙◌, sym}
use Rattle.cad_near.specs.Seen.{OfHeldString, held_string, is_clear_string, lying_string}
use Rattle.cad_near.proofs.SightOfMap.{row-passed, row-passes}
use Rattle.cad_near.proofs.sight.passes.Goals as goal

pub returns-then-is_clear_string : goal.returns-then-is_clear_string
unfolding OfHeldString
returns-then-is_clear_string g c =
    let is = c.is_clear_string.ensures ∙ (λ i. is_clear_string c.args.seen.now (c.lying_held.ensures i)) in
    let m = g.M.MapView.map c.args.map.now in
    row-passed (lying_string m) m.strings (is_clear_string c.args.seen.now) (held_string c.args.held.now) c.is_clear_string.result is c.if-is_clear_string.true

pub returns-else-is_clear_string : goal.returns-else-is_clear_string
unfolding OfHeldString
returns-else-is_clear_string g c =
    let is = c.is_clear_string.ensures ∙ (λ i. is_clear_string c.args.seen.now (c.lying_held.ensures i)) in
    let m = g.M.MapView.map c.args.map.now in
    row-passes (lying_string m) m.strings (is_clear_string c.args.seen.now) (held_string c.args.held.now) c.is_stale.result (sym is ∙ c.if-is_clear_string.false) c.is_stale.ensures

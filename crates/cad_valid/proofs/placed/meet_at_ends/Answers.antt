use Rattle.std.proofs.Common.{sym, ◌∙◌, refl}
use Rattle.cad_valid.proofs.PlacedStrings.{meets-same}
use Rattle.cad_valid.proofs.placed.meet_at_ends.Goals as goal

pub returns-else-is_end-2 : goal.returns-else-is_end-2
returns-else-is_end-2 c =
    let f = c.args.string.now in
    let g = c.args.other.now in
    let on = meets-same c.meets.result f.a f.b g.a g.b c.meets.ensures in
    let from = sym c.is_end.ensures ∙ c.if-is_end.false in
    let to = sym c.is_end-else-is_end.ensures ∙ c.if-is_end-2.false in
    rw (from, to, on) refl

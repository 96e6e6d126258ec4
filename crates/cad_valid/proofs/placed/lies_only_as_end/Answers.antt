use Rattle.std.proofs.Common.{sym, ◌∙◌, refl}
use Rattle.cad_valid.proofs.PlacedStrings.{meets-same}
use Rattle.cad_valid.proofs.placed.lies_only_as_end.Goals as goal

pub returns-else-is_end : goal.returns-else-is_end
returns-else-is_end c =
    let f = c.args.string.now in
    let p = c.args.point.now in
    let on = meets-same c.on_segment.result f.a f.b p.a p.a c.on_segment.ensures in
    let apart = sym c.is_end.ensures ∙ c.if-is_end.false in
    rw (apart, on) refl

use Rattle.std.proofs.Common.{◌∙◌, sym}
use Rattle.cad_surgery.proofs.PartsFaces.{kept-there}
use Rattle.cad_surgery.proofs.draft.Draft.has_long_ring.Goals as goal

pub is_long-requires : goal.is_long-requires
is_long-requires g c =
    kept-there _ c.self.invariant c.args.face 0 c.in-Some.half (sym c.kept_half.ensures ∙ c.in-Some.is)

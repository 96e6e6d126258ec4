use Rattle.std.proofs.Common.{◌∙◌, sym}
use Rattle.cad_map.proofs.SharedChains.NextSides.{told-beyond, untold-beyond}
use Rattle.cad_map.proofs.shared_chain.has_twin_in.Goals as goal

pub returns-in-Some : goal.returns-in-Some
returns-in-Some g c = c.is_face.ensures ∙ told-beyond (g.M.MapView.map c.args.map.now) c.requires c.args.face.now c.in-Some.other (c.args.from, c.args.to) c.in-Some.ensures.some

pub returns-in-None : goal.returns-in-None
returns-in-None g c = sym (untold-beyond (g.M.MapView.map c.args.map.now) c.requires c.args.face.now (c.args.from, c.args.to) c.in-None.ensures.none)

use Rattle.std.proofs.Common.{sym, ap, ◌∙◌, length}
use Rattle.std.proofs.lemmas.List.{length-map}
use Rattle.cad_map.specs.declared.boundary.Boundary.{Boundary}
use Rattle.cad_map.proofs.look.rings_with.Goals as goal

pub returns : goal.returns
returns c = sym (length-map c.run_of.result.now (λ (b : Boundary). b.ring)) ∙ ap length c.run_of.ensures

use Rattle.std.proofs.Common.{sym, ◌∙◌}
use Rattle.std.specs.Prelude.{IsTrue}
use Rattle.cad_map.specs.Map.{is_end}
use Rattle.cad_near.proofs.RowsByNumber.{of_string}
use Rattle.cad_near.proofs.ways.ends_there.Goals as goal

pub returns-in-Some : goal.returns-in-Some
returns-in-Some g c =
    of_string (g.M.MapView.map c.args.map.now) c.requires (λ s. IsTrue (is_end s c.args.point)) c.args.string c.in-Some.row.now (sym c.in-Some.ensures) c.is_end.result
    ((λ t. sym c.is_end.ensures ∙ t), (λ t. c.is_end.ensures ∙ t))

use Rattle.std.proofs.Common.{subst}
use Rattle.std.specs.Prelude.{IfSome, IfNone}
use Rattle.cad_map.specs.Views.{IsNoSide}
use Rattle.map_parts.specs.Labels.{IsAlong}
use Rattle.map_parts.specs.Parts.{Parts, rows_of, map_of}
use Rattle.cad_surgery.proofs.PartsStars.{half-some, half-none}
use Rattle.cad_surgery.proofs.draft.Draft.half_in.Goals as goal

pub returns-clause-some : goal.returns-clause-some
returns-clause-some g c =
    subst (λ (d : Parts). IfSome c.find_half_in_star.result (IsAlong (rows_of d) d.table.rows (c.args.from, c.args.to)))
    c.self.view_is (half-some _ c.self.invariant (c.args.from, c.args.to) c.find_half_in_star.result c.find_half_in_star.ensures)

pub returns-clause-none : goal.returns-clause-none
returns-clause-none g c =
    subst (λ (d : Parts). IfNone c.find_half_in_star.result (IsNoSide (map_of d) (c.args.from, c.args.to)))
    c.self.view_is (half-none _ c.self.invariant (c.args.from, c.args.to) c.find_half_in_star.result c.find_half_in_star.ensures)

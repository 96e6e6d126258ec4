use Rattle.std.proofs.Common.{sym, subst}
use Rattle.cad_map.specs.Views.{HasSide}
use Rattle.map_parts.specs.Parts.{Parts, rows_of, map_of}
use Rattle.map_parts.specs.Labels.{IsAlong}
use Rattle.cad_surgery.proofs.PartsStars.{along-face}
use Rattle.cad_surgery.proofs.draft.DraftMapView.face_of.Goals as goal

pub returns-clause-some : goal.returns-clause-some
returns-clause-some g c =
    subst (λ (d : Parts). HasSide (map_of d) c.face.result (c.args.from, c.args.to)) c.self.view_is
    (rw c.face.ensures (along-face _ c.self.invariant (c.args.from, c.args.to) c.in_ok-half.half
    (subst (λ (d : Parts). IsAlong (rows_of d) d.table.rows (c.args.from, c.args.to) c.in_ok-half.half) (sym c.self.view_is) c.in_ok-half.ensures.some)))

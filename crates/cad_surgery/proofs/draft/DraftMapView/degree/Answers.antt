use Rattle.std.proofs.Common.{ap, ◌∙◌, length}
use Rattle.cad_surgery.proofs.PartsStars.{star-degree}
use Rattle.cad_surgery.proofs.draft.DraftMapView.degree.Goals as goal

pub returns : goal.returns
returns g c = rw (← c.self.view_is) (ap length c.star_of.ensures ∙ star-degree _ c.self.invariant c.args.no)

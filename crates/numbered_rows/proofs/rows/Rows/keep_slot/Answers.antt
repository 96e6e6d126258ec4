use Rattle.std.proofs.Common.{subst, sym}
use Rattle.numbered_rows.specs.Rows.{AreNumbered}
use Rattle.numbered_rows.proofs.rows.Rows.keep_slot.Goals as goal

pub invariant_of-self : goal.invariant_of-self
invariant_of-self g c = subst (AreNumbered g.R.Numbered.number_of) (sym c.keep_slot.ensures.rows) c.self.invariant

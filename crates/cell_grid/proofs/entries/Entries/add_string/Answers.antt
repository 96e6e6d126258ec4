use Rattle.cell_grid.specs.Spread.{IsSoundEntry}
use Rattle.cell_grid.proofs.Together.{each-push}
use Rattle.cell_grid.proofs.entries.Entries.add_string.Goals as goal

pub invariant_of-self : goal.invariant_of-self
invariant_of-self c = record {
  strings = rw c.in_err-push.ensures.items c.self.invariant.strings;
  points = c.self.invariant.points;
  spots = c.self.invariant.spots;
}

pub invariant_of-self-2 : goal.invariant_of-self-2
invariant_of-self-2 c = record {
  strings = rw c.in_ok-push.ensures.items
      (each-push IsSoundEntry _ _ c.self.invariant.strings c.of_string.ensures.sound);
  points = c.self.invariant.points;
  spots = c.self.invariant.spots;
}

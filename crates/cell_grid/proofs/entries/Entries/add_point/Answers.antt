use Rattle.std.proofs.Common.{◌≡◌, refl}
use Rattle.cell_grid.specs.Spread.{IsSoundEntry}
use Rattle.cell_grid.proofs.Together.{each-push}
use Rattle.cell_grid.proofs.entries.Entries.add_point.Goals as goal

pub invariant_of-self : goal.invariant_of-self
invariant_of-self c = record {
  points = rw c.in_err-push.ensures.items c.self.invariant.points;
  strings = c.self.invariant.strings;
  spots = rw c.in_err-push.ensures.items c.self.invariant.spots;
}

pub invariant_of-self-2 : goal.invariant_of-self-2
invariant_of-self-2 c = record {
  points = rw c.in_ok-push.ensures.items
      (each-push IsSoundEntry _ _ c.self.invariant.points c.of_point.ensures.sound);
  strings = c.self.invariant.strings;
  spots = rw c.in_ok-push.ensures.items (each-push (λ e. e.from ≡ e.to) _ _ c.self.invariant.spots
      (rw c.of_point.ensures.value refl));
}

use Rattle.std.proofs.Common.{rules, ◌≡◌, to_z, of_z, w8, sym, subst}
use Rattle.geo_exact.specs.Position.{InRange}
use Rattle.cell_grid.specs.Packed.{joined}
use Rattle.cell_grid.proofs.packed.PackedEntry.of.Goals as goal

pub invariant_of-result : goal.invariant_of-result
invariant_of-result c =
    let from_x : joined (to_z w8 (of_z w8 c.parts_of-from_x.result.high)) c.parts_of-from_x.result.low ≡ c.from.inside.x = search rules in
    let from_y : joined (to_z w8 (of_z w8 c.parts_of-from_y.result.high)) c.parts_of-from_y.result.low ≡ c.from.inside.y = search rules in
    let to_x : joined (to_z w8 (of_z w8 c.parts_of-to_x.result.high)) c.parts_of-to_x.result.low ≡ c.to.inside.x = search rules in
    let to_y : joined (to_z w8 (of_z w8 c.parts_of-to_y.result.high)) c.parts_of-to_y.result.low ≡ c.to.inside.y = search rules in
    record {
      from = record {
        x_in_range = subst InRange (sym from_x) c.from.invariant.x_in_range;
        y_in_range = subst InRange (sym from_y) c.from.invariant.y_in_range;
      };
      to = record {
        x_in_range = subst InRange (sym to_x) c.to.invariant.x_in_range;
        y_in_range = subst InRange (sym to_y) c.to.invariant.y_in_range;
      };
    }

pub returns : goal.returns
returns c =
    let e = c.args.entry.now in
    let from_x : joined (to_z w8 (of_z w8 c.parts_of-from_x.result.high)) c.parts_of-from_x.result.low ≡ e.from.x = search rules in
    let from_y : joined (to_z w8 (of_z w8 c.parts_of-from_y.result.high)) c.parts_of-from_y.result.low ≡ e.from.y = search rules in
    let to_x : joined (to_z w8 (of_z w8 c.parts_of-to_x.result.high)) c.parts_of-to_x.result.low ≡ e.to.x = search rules in
    let to_y : joined (to_z w8 (of_z w8 c.parts_of-to_y.result.high)) c.parts_of-to_y.result.low ≡ e.to.y = search rules in
    λ i. record {
      number = e.number;
      from = record { x = from_x i; y = from_y i };
      to = record { x = to_x i; y = to_y i };
    }

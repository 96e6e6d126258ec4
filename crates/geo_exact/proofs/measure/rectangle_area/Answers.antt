use Rattle.std.proofs.Common.{◌*ℤ◌, to_z-of_z}
use Rattle.geo_exact.proofs.Wide.{coordinate_fits_wide, rectangle_small, rectangle_fits}
use Rattle.geo_exact.proofs.measure.rectangle_area.Goals as goal

pub overflow_mul-result : goal.overflow_mul-result
overflow_mul-result c =
    let fx = c.ranges.x in let fy = c.ranges.y in
    let gx = coordinate_fits_wide c.args.x c.requires.x_in in let gy = coordinate_fits_wide c.args.y c.requires.y_in in
    simp to_z-of_z (rectangle_fits (c.args.x *ℤ c.args.y) (rectangle_small c.args.x c.args.y c.requires.x_in c.requires.y_in))

pub returns : goal.returns
returns c =
    let fx = c.ranges.x in let fy = c.ranges.y in
    let gx = coordinate_fits_wide c.args.x c.requires.x_in in let gy = coordinate_fits_wide c.args.y c.requires.y_in in
    let m = rectangle_small c.args.x c.args.y c.requires.x_in c.requires.y_in in
    let f = rectangle_fits (c.args.x *ℤ c.args.y) m in
    record { value = simp to_z-of_z; small = simp to_z-of_z m }

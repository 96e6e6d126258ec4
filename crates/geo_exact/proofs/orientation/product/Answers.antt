use Rattle.std.proofs.Common.{to_z-of_z}
use Rattle.geo_exact.proofs.Wide.{difference_fits, difference_fits_wide, product_fits, product_small}
use Rattle.geo_exact.proofs.orientation.product.Goals as goal

pub overflow_mul-result : goal.overflow_mul-result
overflow_mul-result c =
    let fa = c.ranges.a in let fb = c.ranges.b in let fc = c.ranges.c in let fd = c.ranges.d in
    let f1 = difference_fits c.args.a c.args.b c.requires.a_in c.requires.b_in in
    let f2 = difference_fits c.args.c c.args.d c.requires.c_in c.requires.d_in in
    let g1 = difference_fits_wide c.args.a c.args.b c.requires.a_in c.requires.b_in in
    let g2 = difference_fits_wide c.args.c c.args.d c.requires.c_in c.requires.d_in in
    simp to_z-of_z (product_fits c.args.a c.args.b c.args.c c.args.d c.requires.a_in c.requires.b_in c.requires.c_in c.requires.d_in)

pub returns : goal.returns
returns c =
    let fa = c.ranges.a in let fb = c.ranges.b in let fc = c.ranges.c in let fd = c.ranges.d in
    let f1 = difference_fits c.args.a c.args.b c.requires.a_in c.requires.b_in in
    let f2 = difference_fits c.args.c c.args.d c.requires.c_in c.requires.d_in in
    let g1 = difference_fits_wide c.args.a c.args.b c.requires.a_in c.requires.b_in in
    let g2 = difference_fits_wide c.args.c c.args.d c.requires.c_in c.requires.d_in in
    let m = product_fits c.args.a c.args.b c.args.c c.args.d c.requires.a_in c.requires.b_in c.requires.c_in c.requires.d_in in
    record {
      value = simp to_z-of_z;
      small = simp to_z-of_z (product_small c.args.a c.args.b c.args.c c.args.d c.requires.a_in c.requires.b_in c.requires.c_in c.requires.d_in);
    }

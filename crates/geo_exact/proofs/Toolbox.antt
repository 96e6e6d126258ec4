-- The toolbox for proofs of integer geometry, in one import for this crate and those above: identities of sums of products, signs of products,
-- and that differences, products and sums of coordinates fit their types.
pub use Rattle.geo_exact.proofs.Polynomial.{Polynomial, value, parts, by_parts}
pub use Rattle.geo_exact.proofs.Polynomial.Polynomial.{var, num, ◌⊞◌, ◌⊟◌, ◌⊠◌}
pub use Rattle.geo_exact.proofs.Signs.{positive-positive, positive-negative, negative-positive, negative-negative, zero-times, square, square_zero}
pub use Rattle.geo_exact.proofs.Wide.{coordinate_small, coordinate_fits, coordinate_fits_wide, position_read, difference_fits, difference_fits_wide, difference_small, product_fits, product_small, combined, orientation_fits, rectangle_small, rectangle_fits, measure_fits}

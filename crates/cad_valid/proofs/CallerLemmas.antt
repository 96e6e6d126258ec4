-- What crates above cite of the rules, in one import.
-- that the rings of a map are whole, and answers step by step
pub use Rattle.cad_valid.proofs.Whole.{placed, whole}
pub use Rattle.cad_valid.proofs.Decisions.{iff-trans, not-iff}
pub use Rattle.cad_valid.proofs.Tests.{all-goes, all-stops}
-- strings and points as they lie, their boxes, and pairs of them among many
pub use Rattle.cad_valid.proofs.PlacedStrings.{have_common-is, is_only_end-is, lies-by, meets-by, meets-same, only_start}
pub use Rattle.cad_valid.proofs.BoxesOfMap.{overlap-common}
pub use Rattle.cad_valid.proofs.SweptPairs.{each_pair-true, get-first, get-mapped, get-second, passed-pair}
pub use Rattle.cad_valid.proofs.SweptRules.{meet-exchanged, point_is, point_on, point_string, same_itself, same_position, string_on, string_point, strings_passed}
pub use Rattle.cad_valid.proofs.HubFacts.{two-among, two-only_start}
-- corners, and the strings of a point one by one
pub use Rattle.cad_valid.proofs.EmptyCorners.{empty-after, empty-no_side}
pub use Rattle.cad_valid.proofs.StarTests.{HavePassed, lent-there, passed-all, passed-more, star_begun}
-- rings: what is inside, in whatever order their sides are counted
pub use Rattle.cad_valid.proofs.InsideBox.{counted-left, differ, differ-none, inside-cons, inside-permuted, low, right_of, rises_past}
-- the rings of a face: their number, their areas, and what they tell as they lie
pub use Rattle.cad_valid.proofs.RingsInMap.{rings_counted}
pub use Rattle.cad_valid.proofs.FacesOfMap.{apart-canonical_order, inside-canonical_order, outlines-canonical_order}
pub use Rattle.cad_valid.proofs.OutlineCounts.{areas_before, counted-all}
pub use Rattle.cad_valid.proofs.PlacedRings.{shape-along}
pub use Rattle.cad_valid.proofs.ShapesOfFace.{holes-shapes, outlines-told, placed-few, sound-told, told-next}
pub use Rattle.cad_valid.proofs.Sweeping.{sound-alone}

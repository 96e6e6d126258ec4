-- What crates above cite of rings, in one import.
pub use Rattle.cad_rings.proofs.Order.{comes_first-refl, comes_first-total, comes_first-antisym, comes_first-trans}
pub use Rattle.cad_rings.proofs.Turned.{round_permuted, IsSameRing-append, IsSameRing-turned, IsSameRing-refl, IsSameRing-sym, IsSameRing-trans, IsSameRing-length, IsSameRing-reversed, length-turned, reversed-reversed, length-reversed}
pub use Rattle.cad_rings.proofs.OneForm.{IsSameRing-least_rotation, IsSameRing-from_least_rotation, least_rotation-comes_first, least_rotation-same, least_rotation-turned, least_rotation-least_rotation}
pub use Rattle.cad_rings.proofs.Permuted.{permuted_as, second_last, both_ways-apart, corners_both_ways-apart, piece, laid, in_order, shuffled, sum-permuted, sum-append, sum-opposite, sum-both_ways}
pub use Rattle.cad_rings.proofs.SideLemmas.{sides_along-append, sides_along-reverse, sides_of_chain-is, length-sides_along, length-sides_of, sides_of-turned, sides_of-same, sides_of-least_rotation, sides_of-reversed, ring_sum-same_ring, ring_sum-reversed}
pub use Rattle.cad_rings.proofs.CornerLemmas.{corners_of_chain-append, corners_of_chain-reverse, length-corners_of, corners_of-turned, corners_of-same, corners_of-reversed}
pub use Rattle.cad_rings.proofs.Parts.{IsParted, parted}
pub use Rattle.cad_rings.proofs.CutLemmas.{IsCut, cut, sides_of-cut, ring_sum-cut, length-cut}
pub use Rattle.cad_rings.proofs.CutElsewhere.{stretch-same, left_ring-same, right_ring-same}
pub use Rattle.cad_rings.proofs.JoinLemmas.{IsJoined, is_joined, sides_of-joined, ring_sum-joined, length-joined, HaveChainInCommon-cut, joined-cut, IsCutBack, cut-joined}
pub use Rattle.cad_rings.proofs.CutCorners.{corners_of-cut, corners_of-joined}
pub use Rattle.cad_rings.proofs.AnchorLemmas.{anchor_of-same, anchor_of-least_rotation, anchor_of-reversed, anchor_of-at_most, anchor_of-Contains}
pub use Rattle.cad_rings.proofs.PutOn.{is_side-same, sides_of-put_on, halves_none, halves_once, sides_of-put_on_once, length-put_on, put_on-same}
pub use Rattle.cad_rings.proofs.Without.{FromCorner, from_corner, times_through-same, without-none, length-without, without-same, without-put_on, sides_of-without, put_on-without}
pub use Rattle.cad_rings.proofs.PointCorners.{corners_of-without, corners_of-put_on}
pub use Rattle.cad_rings.proofs.Placed.{placed_same, ring_sum-same}

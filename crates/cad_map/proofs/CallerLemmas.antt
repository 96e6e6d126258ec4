-- What crates above cite of maps, in one import.
-- lists: elements, tests of them, and rows as they grow and shrink
pub use Rattle.cad_map.proofs.Lists.EachElement.{All-Contains, All-append, All-filter, All-flat_map, All-follows, All-from_Contains, All-map, All-permuted, All-push, drop-at, filter-at, filter-past, found-again, found-number, found-with_row, map-push, map-with_row, map-with_row-same}
pub use Rattle.cad_map.proofs.Lists.Elements.{All-at_each, All-from_each, Contains-at, Contains-cases, Contains-first, Contains-flat_map, Contains-in_part, Contains-later, Contains-map, count-map, count-no, count-some, count-yes, find-none, list_all-IsPermutation, list_all-same, list_any-Contains, one-only}
pub use Rattle.cad_map.proofs.Lists.ElementFacts.{Contains-filter, Contains-one, EachPair-from_test, EachPair-two, filter-Contains, find-Contains, find-nothing, list_all-at, list_all-from, list_any-none, map-Contains}
pub use Rattle.cad_map.proofs.Lists.TakenOut.{EachPair-append}
pub use Rattle.cad_map.proofs.Lists.RowsLeft.{none-push, sum-without}
pub use Rattle.numbered_rows.proofs.Removed.{none-filter, others-from_none}
pub use Rattle.cad_map.proofs.Lists.RowsInTurn.{row_with-earlier, row_with-there}
pub use Rattle.cad_map.proofs.Lists.Entries.{take-more}
pub use Rattle.cad_map.proofs.Lists.PairsByPlace.{AllPairs-from_EachPair, EachPair-from_AllPairs}
-- boundaries: their canonical order, and the faces on both hands of their sides
pub use Rattle.cad_map.proofs.Boundaries.CanonicalOrder.{IsPermutation-canonical_order, canonical_order-canonical_order, canonical_order-permuted, each_canonical, is_face-place, map-canonical_form}
pub use Rattle.cad_map.proofs.Boundaries.OrderedSides.{corners_in-canonical_order, front_exchanged, sides_in-canonical_order}
pub use Rattle.cad_map.proofs.Boundaries.OrderedRings.{IsOfRing, IsOfTwoRings, TestAlike, each_pair-filter, list_all-filter, list_all-none, rings_at-canonical_order}
pub use Rattle.cad_map.proofs.Boundaries.OrderedParts.{canonical_order-filter}
pub use Rattle.cad_map.proofs.Boundaries.FacesBeside.{Contains-has_side, IsBeside, IsSideOf, beside, both_sides, face-told, faces-told, has_side-Contains, in_all, is_face-same, of_string, one_face, one_ring, row-found, side-face, sides-once, some-faces, string_side}
pub use Rattle.cad_map.proofs.Boundaries.TwoFaces.{apart-valid, beside-canonical_order, complete}
pub use Rattle.cad_map.proofs.Boundaries.Looks.{first_face-some, is_face-refl, point_after-none, point_after-some}
pub use Rattle.cad_map.proofs.Boundaries.RingsOfMap.{ring-few, ring-sides-few, rings_of_map, side_is_told, side_told, string-side-points, whole_valid}
-- walks along rings, and the corners that are met
pub use Rattle.cad_map.proofs.Walks.AlongRing.{HaveDistinctSides, begins_with, corner-found, corner-only, is_side-refl, once-from_pairs, once-in_ring, side_before, side_behind, sides-before, sides-behind, sides_in-before}
pub use Rattle.cad_map.proofs.Walks.Walked.{anchor-there, first_points, inside-more, least-all, least-more, placed-fits, position-on_map, sum-bounded, sum-fits, sum-more, walked, walked-all, walked-points}
pub use Rattle.cad_map.proofs.Walks.RingsFrom.{all-from, begins-from, few-from, only-from, ring_on, same-from, walked-from}
pub use Rattle.cad_map.proofs.Walks.Counted.{counted-Contains, parted-at, permuted-from_times, times, times-append, times-cons, times-flat_map, times-permuted}
pub use Rattle.cad_map.proofs.Walks.CornersAt.{corners_at, new_side, old_sides, sides-without, through-corners}
pub use Rattle.cad_map.proofs.Walks.FirstCorners.{behind-only, corner-all_sides, corner-points, distinct-whole, two-each}
pub use Rattle.cad_map.proofs.Walks.ChosenCorners.{IsChosen, chosen, face-ring}
-- ends of strings: where strings meet, and in which directions they lead
pub use Rattle.cad_map.proofs.Ends.SharedEnds.{only_start-is}
pub use Rattle.cad_map.proofs.Ends.Meetings.{all-placed, ends, far_end-away, is_end-from, is_end-of, meet-at_end, meet-no_end, other_end, placed-at, positions-differ}
pub use Rattle.cad_map.proofs.Ends.Parallel.{all_sides-once, is_side-is, pairs-IsPermutation, string_sides-once}
pub use Rattle.cad_map.proofs.Ends.StringEnds.{IsString, Joins, first_met, joins-end, joins-far, joins-far_end, side-joins, three_directions, two_ends}
pub use Rattle.cad_map.proofs.Ends.StarFacts.{IsSpoke, IsSpoke-all, far-star, length-star}
pub use Rattle.cad_map.proofs.Ends.StringsTold.{all-told, lent-is, lent-some, strings-found, told-is, told-some, two-told}
-- edits that are allowed: what they keep of a valid map
pub use Rattle.cad_map.proofs.Edits.Allowed.{IsAllowed, allowed, free-dropped, free-join, free-point, free-source, free-split, halves-differ, none-from_some, not-when, position-in_range, room, there-one, two-joined}
pub use Rattle.cad_map.proofs.Edits.AllowedParcels.{can-divide, can-enclose, can-merge, names-parcels, points-there, there-each}
pub use Rattle.cad_map.proofs.Edits.Broken.{broken-one, leads-not_refused, leads-one, none_broken, refused-but_memory, refused-one}
pub use Rattle.cad_map.proofs.Edits.Kept.{kept, valid-from_kept}
pub use Rattle.cad_map.proofs.Edits.KeptRows.{differs, is_nothing, kept-drop, kept-point, kept-source, length-push, no_end, rings-elsewhere}
pub use Rattle.cad_map.proofs.Edits.KeptChanges.{kept-attach, kept-detach, kept-move, kept-rename}
pub use Rattle.cad_map.proofs.Edits.KeptSplit.{Came, along-known, apart-split, came, kept-split, old-known, split_boundary, split_ring}
pub use Rattle.cad_map.proofs.Edits.KeptJoin.{AreApartEnds, MeetAt, apart-join, ends-apart, kept-join, meet-at, three-join}
pub use Rattle.cad_map.proofs.Edits.JoinedRings.{corner-sides, count-part, dropped, filter-append}
pub use Rattle.cad_map.proofs.Edits.JoinedStrings.{IsThere, at-first, at-most-one, at-second, away, both, differ, in_ring-of, is-one, once-join, the-corners}
pub use Rattle.cad_map.proofs.Edits.StringsMeeting.{few-sources, left-is, room-without}
-- new parcels: a chain across a face, and a closed chain in it
pub use Rattle.cad_map.proofs.Parcels.ChainFacts.{HasNoOpposites, ends-along, ends-chain, in_parts, no_opposites-along, numbers-strings_along, pairs-from_distinct, sides-from_ends, sides-strings_along}
pub use Rattle.cad_map.proofs.Parcels.AddedRows.{All-join, EachPair-join}
pub use Rattle.cad_map.proofs.Parcels.PlacedRings.{face-hole_placed, ring-hole_placed}
pub use Rattle.cad_map.proofs.Parcels.CutSides.{IsOnlyIn, only-in, place-of}
pub use Rattle.cad_map.proofs.Parcels.Divided.{CanDivide, IsCutRing, across, at_first, at_last, cut_ring, divide-is, divided-sound, ends-differ, new-side, new-side_back, only, two}
pub use Rattle.cad_map.proofs.Parcels.Enclosed.{CanEnclose, enclosed-sound, is_division-enclosed}
-- mergers of two parcels
pub use Rattle.cad_map.proofs.Mergers.Merged.{gone, in_both_ways, new, of_both_ways, of_face, once-merged, shared-chain, sides-parted, stays, three-merged, two_out, was-beside}
pub use Rattle.cad_map.proofs.Mergers.MergedRows.{CanMerge, faces-differ, merge-is, merged-sound, rows, shared_chain-there}
-- the chain that two faces share: it is found by steps along the rings, and it is the only one
pub use Rattle.cad_map.proofs.SharedChains.FoundChains.{IsChainInRings, along-passed, around-back, common-along, ring-there, shared_chain-found}
unfoldable pub use Rattle.cad_map.proofs.SharedChains.FoundChains.{along-found, around-found}
pub use Rattle.cad_map.proofs.SharedChains.ChainsOfRings.{distinct-from_pairs}
pub use Rattle.cad_map.proofs.SharedChains.Steps.{points_along}
pub use Rattle.cad_map.proofs.SharedChains.StepsOfRings.{IsWalked, first-is, has_first, next-there, points_along-ring, round-least, side-place, side-same, steps-round, walked-same}
pub use Rattle.cad_map.proofs.SharedChains.WholeSides.{comes_from, next-in_all, next-is, one_boundary, opposite-in_all, ring-walked}
pub use Rattle.cad_map.proofs.SharedChains.ChainsOfMap.{list_any-found}
pub use Rattle.cad_map.proofs.SharedChains.OneChain.{IsFound, found, merged-any, same-turned, turned-walked, two-of_shared_chain}
-- worked maps, on which the definitions are computed
pub use Rattle.cad_map.proofs.Worked.Plans.{island, label_c, square}

-- What crates above cite of edits on maps, in one import.
-- corners, known by either of their sides
pub use Rattle.cad_laws.proofs.MapCorners.{corner-in, off-sides, two-sides, behind-only, two-whole, behind-one, before-one, some-corner, place-begins}
-- what each edit makes of corners, boundaries and faces
pub use Rattle.cad_laws.proofs.DividedCorners.{divided-parted}
pub use Rattle.cad_laws.proofs.PlacedFaces.{divided-faces, enclosed-faces, map-map, map-same}
pub use Rattle.cad_laws.proofs.EnclosedCorners.{enclosed-island}
pub use Rattle.cad_laws.proofs.MergedCorners.{merged-corners}
pub use Rattle.cad_laws.proofs.MergedFaces.{merged-faces}
pub use Rattle.cad_laws.proofs.NamedParcels.{of-parcels}
pub use Rattle.cad_laws.proofs.JoinedCorners.{join-at}
pub use Rattle.cad_laws.proofs.SplitAt.{split-between}
-- that the rings are whole after each edit
pub use Rattle.cad_laws.proofs.WholeAfter.{whole-after, join-breaks}
-- what each edit touches, the ways straight past a point, and that the corners elsewhere are the same
pub use Rattle.cad_laws.proofs.TouchedAfter.{touched-after}
pub use Rattle.cad_laws.proofs.StraightAt.{straight-turned}
pub use Rattle.cad_laws.proofs.CornersElsewhere.{corners-parted, corners-island, corners-joined, to-point}
-- rows and positions where one row comes, goes or changes, and lists that a test leaves empty
pub use Rattle.cad_laws.proofs.Elsewhere.{same-pushed, same-without, same-with_row, own-with_row, filter-none}
pub use Rattle.cad_laws.proofs.ChangedRows.{if-changed, found-own}
pub use Rattle.cad_laws.proofs.TouchedRows.{same-position}
-- what the halves of a table go on to
pub use Rattle.cad_laws.proofs.TablesParted.{corner_of, next-side, goes-on_parted, goes-on_whole, goes-on_with, goes-on_without}
pub use Rattle.cad_laws.proofs.TablesJoined.{goes-on_joined, goes-on_split}
pub use Rattle.cad_laws.proofs.ApartHalves.{apart-halves}
-- how many rows come and go, and the sources of those that go
pub use Rattle.cad_laws.proofs.CountedRows.{Turns, filter-all}
pub use Rattle.cad_laws.proofs.CountedEdits.{counted}
-- and how many sides of rings change, and how many rings pass to another face, at the least
pub use Rattle.cad_laws.proofs.CountedSides.{sides-counted}
pub use Rattle.cad_laws.proofs.CountedRings.{rings-counted_by}
pub use Rattle.cad_laws.proofs.CountedShared.{shared-counted}
-- the faces of sides, where the rings are whole
pub use Rattle.cad_laws.proofs.WholeFaces.{one-ring, face-told, one-face, side-face, side-string, string-sides, faces-differ}
-- rows that are put back, or changed and changed back
pub use Rattle.cad_laws.proofs.RowsBack.{filter-push, found-at, found-changed, insert-without, none-any, with-again, with-same, without-push}
-- sums of faces that an edit leaves as they are, and what an area gains where a point goes elsewhere
pub use Rattle.cad_laws.proofs.StandingAreas.{placed-stand, no-rings, face-stays, sums-stand}
pub use Rattle.cad_laws.proofs.SweptAreas.{by-strings, gained-beside, areas-swept}
-- integers added up over lists, and over strings
pub use Rattle.cad_laws.proofs.Totals.{total, total-append, total-same, total-none, total-filter, total-permuted, total-flat_map, strings-total, sum_of_strings-permuted, sum_of_strings-append, sum_of_strings-push, sum_of_strings-same}
-- what a face has more by a point than straight, and which of its sides stand for straight ones
pub use Rattle.cad_laws.proofs.BentAreas.{area-bent, along-bent, against-bent}
-- which areas an edit leaves as they are, and the point that a split, a join or a move is at
pub use Rattle.cad_laws.proofs.TurnedAreas.{split-straight, split-lies, join-straight, move-from, move-to, move-from_after, move-to_after, areas-of_others, areas-of_rows}

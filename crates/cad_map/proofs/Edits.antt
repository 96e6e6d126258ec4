-- Edits that are allowed: what they keep of a valid map.
pub mod Allowed
pub mod AllowedParcels
pub mod Broken
pub mod Kept
pub mod KeptRows
pub mod KeptChanges
pub mod KeptSplit
pub mod KeptJoin
pub mod JoinedRings
pub mod JoinedStrings
pub mod StringsMeeting
pub mod AddedUp

-- Boundaries: their canonical order, and the faces on both hands of their sides.
pub mod CanonicalOrder
pub mod OrderedSides
pub mod OrderedRings
pub mod OrderedParts
pub mod CanonicalForms
pub mod FaceRuns
pub mod FacesBeside
pub mod TwoFaces
pub mod Looks
pub mod LooksBefore
pub mod RingsOfMap
pub mod OutlineRings
pub mod AllFaces
pub mod Balance
pub mod FaceSums
pub mod SideCounts

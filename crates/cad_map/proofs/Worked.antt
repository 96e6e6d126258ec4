-- Worked maps, on which the definitions are computed.
pub mod Plans
pub mod WorkedRows
pub mod WorkedParcels
pub mod WorkedCosts

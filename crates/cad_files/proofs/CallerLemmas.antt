-- What crates above cite of files, in one import.
pub use Rattle.cad_files.proofs.InputFacts.{if_some}
pub use Rattle.cad_files.proofs.DecimalFacts.{digits_push, digits_decimal}
pub use Rattle.cad_files.proofs.TextFacts.{join-some}

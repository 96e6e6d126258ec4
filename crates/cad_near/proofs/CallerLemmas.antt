-- What crates above cite of the check near an edit, in one import.
pub use Rattle.cad_near.proofs.Untouched.{kept-untouched}

-- The rows of a valid map have no fault, and build the map.
use Rattle.std.proofs.Common.{◌≡◌, refl, None}
use Rattle.cad_map.specs.Map.{Map}
use Rattle.cad_map.specs.Valid.{IsValid}
use Rattle.cad_files.specs.Building.{rows_of, first_fault, IsBuilt}
use Rattle.cad_files.proofs.MapAgain.{map_again}
use Rattle.cad_files.proofs.NoneTaken.{none_taken}
use Rattle.cad_files.proofs.AllKnown.{none_unknown}
use Rattle.cad_files.proofs.NoneDangling.{none_dangling}
use Rattle.cad_files.proofs.NoBadCorner.{no_bad_corner}
use Rattle.cad_files.proofs.NoOtherLabel.{no_other_label}

pub faultless : (m : Map) → IsValid m → first_fault (rows_of m) ≡ None
faultless m valid = rw (none_taken m valid, none_unknown m valid, none_dangling m valid, no_bad_corner m valid, no_other_label m valid) refl

pub built_again : (m : Map) → IsValid m → IsBuilt (rows_of m) m
built_again m valid = record { faultless = faultless m valid; is = map_again m valid; valid = valid }

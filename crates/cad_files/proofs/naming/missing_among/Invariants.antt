use Rattle.std.proofs.Common.{◌≡◌, take, None}
use Rattle.std.specs.Prelude.{flat_map}
use Rattle.cad_files.specs.Building.{missing_name}
use Rattle.cad_files.proofs.naming.missing_among.Given as goal

abbrev pub invariant-loop-i : goal.invariant-loop-i
invariant-loop-i g l = missing_name l.plain (flat_map g.R.NamesRows.names (take l.i l.rows)) ≡ None

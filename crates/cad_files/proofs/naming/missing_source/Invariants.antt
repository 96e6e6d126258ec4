use Rattle.std.proofs.Common.{◌≡◌, take, None}
use Rattle.cad_files.specs.Building.{missing_name, sources_named}
use Rattle.cad_files.proofs.naming.missing_source.Given as goal

abbrev pub invariant-loop-i : goal.invariant-loop-i
invariant-loop-i l = missing_name l.plain (sources_named (take l.i l.sources)) ≡ None

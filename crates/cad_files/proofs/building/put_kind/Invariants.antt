use Rattle.std.proofs.Common.{◌≡◌, ◌++◌, take, drop}
use Rattle.cad_files.specs.Fields.{repeated}
use Rattle.cad_files.specs.Kinds.{numbers_of, taken_before, filled}
use Rattle.cad_files.proofs.building.put_kind.Given as goal

-- the rows before the place are put, and no number of theirs is taken before it
abbrev pub invariant-loop-place : goal.invariant-loop-place
invariant-loop-place l = record {
  put : l.plain ≡ filled l.rows l.kind l.place;
  free : repeated (taken_before l.rows l.kind ++ take l.place (numbers_of l.rows l.kind)) (drop l.place (numbers_of l.rows l.kind)) ≡ repeated (taken_before l.rows l.kind) (numbers_of l.rows l.kind);
}

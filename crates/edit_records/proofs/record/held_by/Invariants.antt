use Rattle.std.proofs.Common.{◌≡◌, ◌≤◌, ◌+◌, ◌*◌, take}
use Rattle.std.specs.Prelude.{◌^◌}
use Rattle.edit_records.specs.Record.{chain_weight}
use Rattle.edit_records.proofs.record.held_by.Given as goal

-- the strings so far are added up
abbrev pub invariant-loop-string : goal.invariant-loop-string
invariant-loop-string l = record {
  total : l.total ≡ chain_weight (take l.string-index l.strings);
  few : l.total ≤ l.string-index * (2 ^ 62 + 2);
}

use Rattle.std.proofs.Common.{◌≡◌, ◌≤◌, ◌+◌, ◌++◌, drop, length}
use Rattle.std.specs.Vec.{vec_len, vec_capacity}
use Rattle.std.specs.Vec.Iter.{into_iter_items, into_iter_len}
use Rattle.cad_surgery.specs.ChainStrings.{with_halves}
use Rattle.cad_surgery.proofs.edits.chain_strings.chain_strings.Given as goal

-- with the strings that are still to come it is all
abbrev pub invariant-loop-string : goal.invariant-loop-string
invariant-loop-string l = record {
  whole : l.strings.items ++ with_halves (drop l.along l.path) (into_iter_items l.string-iterator) ≡ with_halves l.path (into_iter_items l.initial.string-iterator);
  as_many : length (drop l.along l.path) ≡ length (into_iter_items l.string-iterator);
  room : vec_len l.strings + length (into_iter_items l.string-iterator) ≤ vec_capacity l.strings;
  len : into_iter_len l.string-iterator ≡ length (into_iter_items l.string-iterator);
}

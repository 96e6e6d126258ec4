use Rattle.std.proofs.Common.{◌≡◌, map, take}
use Rattle.edit_records.specs.HeldChains.{rows_along}
use Rattle.map_parts.specs.Merging.{rows_gone}
use Rattle.cad_surgery.proofs.edits.merged.strings_back.Given as goal

-- the strings so far
abbrev pub invariant-loop-place : goal.invariant-loop-place
invariant-loop-place l = record {
  rows : rows_gone l.gone.items ≡ rows_along (take l.place l.fn.strings) l.fn.chain;
  places : map (λ g. g.place) l.gone.items ≡ map (λ s. s.place) (take l.place l.fn.strings);
}

use Rattle.std.proofs.Common.{◌≡◌, ◌≢◌, ◌++◌, None, take, drop, map}
use Rattle.std.specs.List.{AllByRecursion}
use Rattle.cad_map.specs.Map.{string_of}
use Rattle.cad_map.specs.Valid.{EachPair}
use Rattle.cad_edit.proofs.parcels.put_strings.Given as goal

abbrev pub invariant-loop-place : goal.invariant-loop-place
invariant-loop-place l = record {
  put : l.map ≡ record l.fn.map { strings = l.fn.map.strings ++ take l.place l.rows };
  new : AllByRecursion (λ row. string_of l.map row.number ≡ None) (drop l.place l.rows);
  distinct : EachPair (λ a b. a ≢ b) (map (λ row. row.number) (drop l.place l.rows));
}

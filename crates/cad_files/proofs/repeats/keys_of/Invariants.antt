use Rattle.std.proofs.Common.{◌≡◌, ◌<◌, ◌^◌, map, take}
use Rattle.std.specs.List.{AllByRecursion}
use Rattle.cad_files.specs.Corners.{key_of, two_points_of}
use Rattle.cad_files.proofs.repeats.keys_of.Given as goal

abbrev pub invariant-loop-i : goal.invariant-loop-i
invariant-loop-i l = record {
  keys : l.keys.items ≡ map (λ s. key_of (two_points_of l.is_onward s)) (take l.i l.sides);
  small : AllByRecursion (λ s. ((two_points_of l.is_onward s).0 < 2 ^ 32) × ((two_points_of l.is_onward s).1 < 2 ^ 32)) (take l.i l.sides);
}

use Rattle.std.proofs.Common.{◌≤◌, length, take}
use Rattle.std.specs.List.{AllByRecursion, Contains}
use Rattle.cad_near.specs.Near.{OfString}
use Rattle.cad_near.specs.Seen.{lying_string}
use Rattle.cad_near.proofs.seen.gather_strings.Given as goal

-- the strings so far that the map has were gathered
abbrev pub invariant-loop-place : goal.invariant-loop-place
invariant-loop-place g l =
    let m = g.M.MapView.map l.map in
    record {
      all : AllByRecursion (OfString m (λ s. Contains l.seen.items (lying_string m s))) (take l.place l.strings);
      few : length l.seen.items ≤ l.place;
    }

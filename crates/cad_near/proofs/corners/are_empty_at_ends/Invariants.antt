use Rattle.std.proofs.Common.{take}
use Rattle.std.specs.Prelude.{IfSome}
use Rattle.std.specs.List.{AllByRecursion}
use Rattle.cad_near.specs.Near.{OfString, HasEmptyEnds}
use Rattle.cad_near.proofs.corners.are_empty_at_ends.Given as goal

-- the corners at the ends of the strings so far are empty
abbrev pub invariant-loop-place : goal.invariant-loop-place
invariant-loop-place g l =
    let m = g.M.MapView.map l.map in
    record {
      each : AllByRecursion (OfString m (HasEmptyEnds m)) (take l.place l.strings);
      before : IfSome l.before (λ s. HasEmptyEnds m s.now);
    }

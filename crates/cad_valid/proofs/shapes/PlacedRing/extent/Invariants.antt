use Rattle.std.proofs.Common.{take}
use Rattle.std.specs.List.{AllByRecursion}
use Rattle.sweep.specs.Extents.{IsExtent}
use Rattle.cad_valid.specs.Extents.{IsWithin}
use Rattle.cad_valid.proofs.shapes.PlacedRing.extent.Given as goal

-- a box, with the anchor and the sides so far in it
abbrev pub invariant-loop-from : goal.invariant-loop-from
invariant-loop-from l =
    record {
      whole : IsExtent l.extent;
      anchor : IsWithin l.extent l.fn.self.anchor;
      sides : AllByRecursion (λ s. IsWithin l.extent s.0 × IsWithin l.extent s.1) (take l.from-index l.from-items);
    }

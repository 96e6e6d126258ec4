use Rattle.std.proofs.Common.{◌≡◌, false, take, ◌==◌}
use Rattle.std.specs.List.{list_any}
use Rattle.cad_files.proofs.lists.is_among.Given as goal

abbrev pub invariant-loop-other : goal.invariant-loop-other
invariant-loop-other g l = list_any (λ k. k == l.no) (take l.other-index l.list) ≡ false

use Rattle.std.proofs.Common.{◌≡◌, map}
use Rattle.std.specs.Prelude.{slice_index}
use Rattle.std.specs.List.{range_with_len}
use Rattle.sweep.proofs.repeats.with_places.Given as goal

-- the keys before this one stand there with their places
abbrev pub invariant-loop-place : goal.invariant-loop-place
invariant-loop-place l =
    l.keyed.items ≡ map (λ i. record { key = slice_index l.keys i; place = i }) (range_with_len 0 l.place)

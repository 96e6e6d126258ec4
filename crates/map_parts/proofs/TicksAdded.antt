-- Ticks of steps that follow one another.
use Rattle.std.proofs.Common.{◌≡◌, ℕ, ◌+◌, ap, sym, ◌∙◌}
use Rattle.half_table.specs.Count.{ticked}
use Rattle.half_paths.proofs.Along.{ticked-add}

-- a step after another: the ticks of both
pub two-steps : (n k w : ℕ) {v u : ℕ} → v ≡ ticked n w → u ≡ ticked k v → u ≡ ticked (n + k) w
two-steps n k w first then = then ∙ ap (ticked k) first ∙ sym (ticked-add n k w)

-- and a third one
pub three-steps : (n k j w : ℕ) {v u t : ℕ} → v ≡ ticked n w → u ≡ ticked k v → t ≡ ticked j u → t ≡ ticked (n + k + j) w
three-steps n k j w first then last = two-steps (n + k) j w (two-steps n k w first then) last

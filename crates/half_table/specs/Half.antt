-- The two half-edges of a string.
use Rattle.std.specs.Prelude.{ℕ, Bool, true, false, not, ◌&&◌, ◌==◌}
use Rattle.std.specs.Bool.{beq}
use Rattle.half_table.specs.declared.half.Half.{Half}

-- the other half of the same string
abbrev pub twin : Half → Half
twin h = record { string = h.string; forward = not h.forward }

abbrev pub is_half : Half → Half → Bool
is_half g h = (g.string == h.string) && beq g.forward h.forward

-- a half of the string with this number
abbrev pub half_of : ℕ → Bool → Half
half_of s f = record { string = s; forward = f }

-- its two halves
abbrev pub forward_of : ℕ → Half
forward_of s = half_of s true

abbrev pub backward_of : ℕ → Half
backward_of s = half_of s false

-- A record of which each byte between the commas stands for itself.
use Rattle.std.specs.Prelude.{◌≡◌, ◌⊎◌, ◌==◌, ◌||◌, ℕ, Bool, List, [], ◌∷◌}

-- a quote, or what ends a line
abbrev pub is_mark : ℕ → Bool
is_mark byte = (byte == 34) || ((byte == 13) || (byte == 10))

-- nothing, or a line feed
abbrev pub IsLineEnd : List ℕ → Type 0
IsLineEnd tail = (tail ≡ []) ⊎ (tail ≡ 10 ∷ [])

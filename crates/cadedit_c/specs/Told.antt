-- What a room holds once a text was told.
use Rattle.std.specs.Prelude.{ℕ, List, ◌++◌, take, drop, length}

-- the text, or its front where the room is shorter, and behind it what the room held
abbrev pub told : List ℕ → List ℕ → List ℕ
told text room = take (length room) text ++ drop (length text) room

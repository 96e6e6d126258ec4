-- Texts in a drawing.
use Rattle.std.specs.Prelude.{ℕ, ◌==◌, List, [], ◌∷◌, codes, nat_lt, if◌then◌else◌}

-- a byte of a text as XML has it, and a control character as a space
abbrev pub escaped : ℕ → List ℕ
escaped b =
    if b == 38 then codes "&amp;" else (if b == 60 then codes "&lt;" else
    (if b == 62 then codes "&gt;" else (if nat_lt b 32 then codes " " else b ∷ [])))

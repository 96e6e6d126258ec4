-- What follows the sides at a point, told by the order of its spokes.
use Rattle.std.specs.Prelude.{ℕ, ◌-◌, ◌==◌, if◌then◌else◌, List, IfSome, nat_eq}
use Rattle.std.specs.Map.{lookup}
use Rattle.cad_map.specs.Map.{Map}
use Rattle.cad_map.specs.Stars.{star, spokes_of}
use Rattle.cad_map.specs.declared.stars.Spoke.{Spoke}
use Rattle.cad_files.specs.Arrival.{IsOnly, arrival_of}
use Rattle.cad_files.specs.declared.turns.Turn.{Turn}

-- of the spokes at the end of a side this one may follow, and each that may leads to the same point
abbrev pub IsSoleSpoke : Map → ℕ → ℕ → Spoke → Type 0
IsSoleSpoke m from to w =
    IsOnly (arrival_of m from to) (star to (spokes_of m)) (star to (spokes_of m)) w

-- its spoke is the one that follows its side
abbrev pub IsTurnOf : Map → Turn → Type 0
IsTurnOf m t = IsSoleSpoke m t.from t.to t.next

-- each that is found, under whatever key, is so
abbrev pub AreTurnsOf : Map → List (ℕ × Turn) → Type 0
AreTurnsOf m entries = (key : ℕ) → IfSome (lookup (nat_eq key) entries) (IsTurnOf m)

-- the place before one of so many in a circle
abbrev pub place_before : ℕ → ℕ → ℕ
place_before place count = if place == 0 then count - 1 else place - 1

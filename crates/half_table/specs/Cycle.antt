-- How half-edges follow one another, whatever next is.
use Rattle.std.specs.Prelude.{◌≡◌, ℕ, zero, suc, Bool, false, List, [], ◌∷◌, if◌then◌else◌}
use Rattle.std.specs.List.{list_any}
use Rattle.half_table.specs.declared.half.Half.{Half}
use Rattle.half_table.specs.Half.{is_half}

-- whether the half is one of these
abbrev pub holds : List Half → Half → Bool
holds halves h = list_any (is_half h) halves

-- no half stands twice
abbrev pub IsOnce : List Half → Type 0
IsOnce [] = Unit {0}
IsOnce (h ∷ halves) = (holds halves h ≡ false) × IsOnce halves

-- from a through these halves each is the next of the one before, and z is the next of the last
abbrev pub IsWalk : (Half → Half) → Half → List Half → Half → Type 0
IsWalk next a [] z = next a ≡ z
IsWalk next a (b ∷ halves) z = (next a ≡ b) × IsWalk next b halves z

-- the halves are a whole cycle, each once
abbrev pub IsCycle : (Half → Half) → List Half → Type 0
IsCycle next [] = ⊥
IsCycle next (h ∷ halves) = IsWalk next h halves h × IsOnce (h ∷ halves)

-- the values at a and at b exchanged
abbrev pub exchanged : Half → Half → (Half → Half) → Half → Half
exchanged a b f h = if is_half h a then f b else (if is_half h b then f a else f h)

-- at most n halves from `at` on, up to the one before `stop`
abbrev pub orbit : (Half → Half) → ℕ → Half → Half → List Half
orbit next zero stop at = []
orbit next (suc n) stop at = if is_half at stop then [] else at ∷ orbit next n stop (next at)

-- from `at` on these halves follow one another, none of them h, and then h comes
abbrev pub IsRun : (Half → Half) → Half → Half → List Half → Type 0
IsRun next h at [] = at ≡ h
IsRun next h at (b ∷ halves) = (at ≡ b) × (is_half at h ≡ false) × IsRun next h (next at) halves

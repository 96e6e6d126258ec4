-- Along a ring from one of its sides on, and whether another face comes back along the same sides.
use Rattle.std.specs.Prelude.{◌≡◌, IsTrue, ℕ, zero, suc, ◌-◌, Bool, true, false, ◌&&◌, ◌||◌, not, ◌==◌, nat_lt, length, unwrap_or, option_map}
use Rattle.std.specs.List.{Contains, list_any}
use Rattle.cad_rows.specs.declared.names.Face.{Face}
use Rattle.cad_rings.specs.Cycle.{Ring, Side, has_side, opposite, sides_of}
use Rattle.cad_map.specs.Map.{Map, face_sides, point_after}
use Rattle.cad_map.specs.Walk.{first_side}
use Rattle.cad_map.specs.declared.shared_chain.SharedChain.{SharedChain}
use Rattle.cad_map.specs.declared.shared_chain.SharedChain.TheVariants.{Along, Around}

-- the side that comes after a side in its ring
abbrev pub next_side : Map → Side → Side
next_side m s = (s.1, unwrap_or (point_after s m.boundaries) 0)

-- so many steps on
abbrev pub steps : (Side → Side) → ℕ → Side → Side
steps next zero s = s
steps next (suc n) s = steps next n (next s)

-- the opposite of the next side is followed by the opposite of this one
abbrev pub turns_back : (Side → Side) → Side → Bool
turns_back next s = (next (opposite (next s))).1 == s.0

-- so it is with so many sides, this one first
abbrev pub runs_back : (Side → Side) → Side → ℕ → Bool
runs_back next s zero = true
runs_back next s (suc n) = turns_back next s && runs_back next (next s) n

-- the face has the opposite of the side
abbrev pub has_twin_in : Map → Face → Side → Bool
has_twin_in m face s = has_side (opposite s) (face_sides m face)

-- the chain of so many sides that begins with this one
abbrev pub chain_along : (Side → Side) → Side → ℕ → SharedChain
chain_along next s n = Along s (steps next (n - 1) s) n

-- the face comes back along so many sides from this one on, and they lead to another point than they begin with
abbrev pub begins_chain : Map → Face → ℕ → Side → Bool
begins_chain m face n s =
    nat_lt 0 n && has_twin_in m face s && runs_back (next_side m) s (n - 1) && not (s.0 == (steps (next_side m) (n - 1) s).1)

-- a chain begins after the side, whose twin the face doesn't have
abbrev pub is_before_chain : Map → Face → ℕ → Side → Bool
is_before_chain m face n s = not (has_twin_in m face s) && begins_chain m face n (next_side m s)

-- the ring has so many sides, and the face comes back along all of them
abbrev pub runs_round : Map → Face → ℕ → Ring → Bool
runs_round m face n ring = (length ring == n) && unwrap_or (option_map (λ s. has_twin_in m face s && runs_back (next_side m) s n) (first_side ring)) false

-- the face comes back along so many sides of the ring: round it, or along a chain
abbrev pub has_chain_along : Map → Face → ℕ → Ring → Bool
has_chain_along m face n ring = runs_round m face n ring || list_any (is_before_chain m face n) (sides_of ring)

-- the chain is one that was found along the ring
abbrev pub IsFoundAlong : Map → Face → ℕ → Ring → SharedChain → Type 0
-- after one of its sides
IsFoundAlong m face n ring (Along first last sides) =
    (s : Side) × Contains (sides_of ring) s × IsTrue (is_before_chain m face n s) × (Along first last sides ≡ chain_along (next_side m) (next_side m s) n)
-- or all round it
IsFoundAlong m face n ring (Around side) = IsTrue (runs_round m face n ring) × Contains (sides_of ring) side

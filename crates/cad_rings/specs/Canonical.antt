-- The canonical form of a ring, its least rotation, and the lexicographic order of lists.
use Rattle.std.specs.Prelude.{ℕ, Bool, true, false, ◌&&◌, ◌||◌, ◌==◌, nat_lt, List, [], ◌∷◌, ◌++◌, if◌then◌else◌}
use Rattle.cad_rings.specs.Cycle.{Ring}

-- x does not come after y in lexicographic order
abbrev pub comes_first : List ℕ → List ℕ → Bool
comes_first [] ys = true
comes_first (x ∷ xs) [] = false
comes_first (x ∷ xs) (y ∷ ys) = nat_lt x y || (x == y && comes_first xs ys)

-- the rotations of front ++ back that begin in back
abbrev pub rotations_from : List ℕ → List ℕ → List Ring
rotations_from front [] = []
rotations_from front (x ∷ back) = (x ∷ back ++ front) ∷ rotations_from (front ++ x ∷ []) back

-- the ring from each of its points on
abbrev pub rotations : Ring → List Ring
rotations ring = rotations_from [] ring

-- the one of these lists, and best, that comes before all others
abbrev pub least : List ℕ → List (List ℕ) → List ℕ
least best [] = best
least best (x ∷ xs) = least (if comes_first best x then best else x) xs

-- the canonical form of a ring: the rotation that comes before all others
abbrev pub least_rotation : Ring → Ring
least_rotation ring = least ring (rotations ring)

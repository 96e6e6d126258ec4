-- The area of a ring along halves, side by side.
use Rattle.std.proofs.Common.{◌≡◌, ℕ, ℤ, ◌+ℤ◌, List, [], ◌∷◌, Option, Some, None, true, map, ap, ◌∙◌, arith}
use Rattle.std.proofs.lemmas.Int.{ints}
use Rattle.std.specs.Iterator.{YieldsFirst}
use Rattle.geo_exact.specs.Position.{Position}
use Rattle.geo_exact.specs.Measure.{doubled_area, sum_over}
use Rattle.cad_rings.specs.Cycle.{sides_along, placed}
use Rattle.cad_map.proofs.CallerLemmas.{All-from_each}
use Rattle.half_table.specs.declared.half.Half.{Half}
use Rattle.half_table.specs.Rows.{HalfRows, IsLinked, has, cycle}
use Rattle.half_paths.specs.Path.{AreIn}
use Rattle.map_parts.proofs.CycleRings.{cycle-each}

-- the area of the sides from a position on, along the places of these halves, and back to a last position
abbrev pub area_ahead : (Half → Position) → Position → List Half → Position → ℤ
area_ahead at a [] z = doubled_area a z
area_ahead at a (h ∷ halves) z = doubled_area a (at h) +ℤ area_ahead at (at h) halves z

-- it is that of the sides along the halves' points
pub ahead-is : (position : ℕ → Position) (o : Half → ℕ) (a z : ℕ) (halves : List Half)
    → sum_over doubled_area (placed position (sides_along a (map o halves) z)) ≡ area_ahead (λ h. position (o h)) (position a) halves (position z)
ahead-is position o a z [] = omega (arith, ints)
ahead-is position o a z (h ∷ halves) = ap (λ (n : ℤ). doubled_area (position a) (position (o h)) +ℤ n) (ahead-is position o (o h) z halves)

-- the halves of a cycle are in the table
pub cycle-in : (rows : HalfRows) → IsLinked rows → (h : Half) → has rows h ≡ true → AreIn rows (cycle rows h)
cycle-in rows linked h there =
    All-from_each (λ g. has rows g ≡ true) (cycle rows h)
    (λ g among. cycle-each rows linked h there (λ x. has rows x ≡ true) (λ x here. linked.inside x ∙ here) there g among)

-- past the first of a list the others are left
pub past-first : (o : Option Half) (old left : List Half) {h : Half} {others : List Half} → YieldsFirst (λ w. w) old o left → old ≡ h ∷ others → left ≡ others
past-first None old left step is = cc
past-first (Some x) old left step is = cc

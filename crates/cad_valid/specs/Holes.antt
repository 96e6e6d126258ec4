-- Holes in their outlines, and rings apart from one another.
use Rattle.std.specs.Prelude.{ℕ, Bool, not, ◌&&◌, ◌||◌, List, filter}
use Rattle.std.specs.List.{list_all}
use Rattle.cad_rings.specs.Cycle.{Ring, anchor_of}
use Rattle.cad_map.specs.Map.{Map, is_positive, is_negative, is_in_ring}

-- the ring is no outline, or has the point inside
abbrev pub has_inside_if_outline : Map → ℕ → Ring → Bool
has_inside_if_outline m p ring = not (is_positive m ring) || is_in_ring m ring p

-- the ring is no hole, or its anchor is inside each outline among these
abbrev pub is_inside_if_hole : Map → List Ring → Ring → Bool
is_inside_if_hole m rings ring = not (is_negative m ring) || list_all (λ outline. is_in_ring m outline (anchor_of ring)) (filter (is_positive m) rings)

-- neither ring has the other's anchor inside
abbrev pub are_apart : Map → Ring → Ring → Bool
are_apart m a b = not (is_in_ring m a (anchor_of b)) && not (is_in_ring m b (anchor_of a))

-- the second is no hole, or they are apart
abbrev pub is_apart_if_hole : Map → Ring → Ring → Bool
is_apart_if_hole m ring other = not (is_negative m other) || are_apart m ring other

-- the ring is no hole, or it and each hole among the others are apart
abbrev pub is_apart_from_holes : Map → Ring → List Ring → Bool
is_apart_from_holes m ring others = not (is_negative m ring) || list_all (is_apart_if_hole m ring) others

-- one of the two is no hole, or they are apart
abbrev pub are_apart_if_holes : Map → Ring → Ring → Bool
are_apart_if_holes m a b = not (is_negative m a && is_negative m b) || are_apart m a b

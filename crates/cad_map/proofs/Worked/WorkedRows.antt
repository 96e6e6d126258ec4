-- What the definitions compute for divisions, mergers, an enclosure, moves and joins on the square and on the island.
use Rattle.std.proofs.Common.{◌≡◌, ℕ, refl, [], ◌∷◌, ◌++◌, ℤ, pos, negsuc, true, false, map}
use Rattle.geo_exact.specs.Measure.{doubled_area}
use Rattle.cad_rows.specs.declared.names.Face.{Face}
use Rattle.cad_rows.specs.declared.names.Face.TheVariants.{Outside, Parcel}
use Rattle.cad_map.specs.Boundaries.{bounding, canonical_order}
use Rattle.cad_map.specs.Map.{Map, faces, rings_of, sum_of_face}
use Rattle.cad_map.specs.Valid.{has_distinct_positions, has_empty_corners, has_one_outline_each, has_holes_in_place}
use Rattle.cad_map.specs.Changes.{split, join, divide, merge, enclose}
use Rattle.cad_map.specs.Sums.{sum_of_faces}
use Rattle.cad_map.proofs.Worked.Plans.{square, island, string, point, label_c, outer_ring, with_points, moved}

area : Map → Face → ℤ
area m f = sum_of_face doubled_area m f

-- the diagonal from 1 to 3, and from 3 to 1
abbrev d13 : Map → ℕ → ℕ → Map
d13 m s p = divide m (Parcel 1) (1 ∷ 3 ∷ []) (s ∷ []) p label_c 1

abbrev d31 : Map → ℕ → ℕ → Map
d31 m s p = divide m (Parcel 1) (3 ∷ 1 ∷ []) (s ∷ []) p label_c 1

-- ---- The maps themselves

square_canonical : canonical_order square.boundaries ≡ square.boundaries
square_canonical = refl

island_canonical : canonical_order island.boundaries ≡ island.boundaries
island_canonical = refl

island_kept : (has_distinct_positions island ≡ true) × (has_empty_corners island ≡ true) × (has_one_outline_each island ≡ true) × (has_holes_in_place island ≡ true)
island_kept = (refl, refl, refl, refl)

square_area : area square (Parcel 1) ≡ pos 2000000
unfolding area
square_area = refl

island_areas : map (area island) (faces island) ≡ negsuc 1999999 ∷ pos 1980000 ∷ pos 20000 ∷ []
unfolding area
island_areas = refl

island_balance : sum_of_faces doubled_area island (faces island) ≡ pos 0
island_balance = refl

-- ---- Divisions: what is left of the line is the new parcel

halves : (d13 square 21 2).boundaries ≡ bounding Outside (1 ∷ 4 ∷ 3 ∷ 2 ∷ []) ∷ bounding (Parcel 1) (1 ∷ 2 ∷ 3 ∷ []) ∷ bounding (Parcel 2) (1 ∷ 3 ∷ 4 ∷ []) ∷ []
halves = refl

half_areas : map (area (d13 square 21 2)) (Parcel 1 ∷ Parcel 2 ∷ []) ≡ pos 1000000 ∷ pos 1000000 ∷ []
unfolding area
half_areas = refl

new_string : (d13 square 21 2).strings ≡ square.strings ++ record { number = 21; from = 1; to = 3; sources = 1 ∷ [] } ∷ []
new_string = refl

other_half : rings_of (d31 square 21 2) (Parcel 2) ≡ (1 ∷ 2 ∷ 3 ∷ []) ∷ []
other_half = refl

hole_stays : (d13 island 21 3).boundaries
    ≡ bounding Outside (1 ∷ 4 ∷ 3 ∷ 2 ∷ []) ∷ bounding (Parcel 1) (1 ∷ 2 ∷ 3 ∷ []) ∷ bounding (Parcel 1) (6 ∷ 8 ∷ 7 ∷ []) ∷ bounding (Parcel 2) (6 ∷ 7 ∷ 8 ∷ []) ∷ bounding (Parcel 3) (1 ∷ 3 ∷ 4 ∷ []) ∷ []
hole_stays = refl

hole_goes : rings_of (d31 island 21 3) (Parcel 3) ≡ (1 ∷ 2 ∷ 3 ∷ []) ∷ (6 ∷ 8 ∷ 7 ∷ []) ∷ []
hole_goes = refl

island_half_areas : map (area (d13 island 21 3)) (Parcel 1 ∷ Parcel 2 ∷ Parcel 3 ∷ []) ≡ pos 980000 ∷ pos 20000 ∷ pos 1000000 ∷ []
unfolding area
island_half_areas = refl

abbrev to_the_right : Map
to_the_right = with_points (point 5 (pos 2000) (pos 500) ∷ []) square

from_outside : (divide to_the_right Outside (2 ∷ 5 ∷ 3 ∷ []) (22 ∷ 23 ∷ []) 2 label_c 1).boundaries
    ≡ bounding Outside (1 ∷ 4 ∷ 3 ∷ 5 ∷ 2 ∷ []) ∷ bounding (Parcel 1) outer_ring ∷ bounding (Parcel 2) (2 ∷ 5 ∷ 3 ∷ []) ∷ []
from_outside = refl

wrong_way : has_one_outline_each (divide to_the_right Outside (3 ∷ 5 ∷ 2 ∷ []) (22 ∷ 23 ∷ []) 2 label_c 1) ≡ false
wrong_way = refl

-- ---- Mergers

merged_again : (merge (d13 island 21 3) (Parcel 1) (Parcel 3)).boundaries ≡ island.boundaries
merged_again = refl

retired : (merge (d13 island 21 3) (Parcel 1) (Parcel 3)).retired ≡ 3 ∷ []
retired = refl

abbrev by_a_bend : Map
by_a_bend = divide (with_points (point 5 (pos 400) (pos 600) ∷ []) square) (Parcel 1) (1 ∷ 5 ∷ 3 ∷ []) (21 ∷ 22 ∷ []) 2 label_c 1

merged_along_a_chain : (merge by_a_bend (Parcel 1) (Parcel 2)).boundaries ≡ square.boundaries
merged_along_a_chain = refl

island_taken : (merge island (Parcel 1) (Parcel 2)).boundaries ≡ square.boundaries
island_taken = refl

taken_by_island : (merge island (Parcel 2) (Parcel 1)).boundaries ≡ bounding Outside (1 ∷ 4 ∷ 3 ∷ 2 ∷ []) ∷ bounding (Parcel 2) outer_ring ∷ []
taken_by_island = refl

-- ---- An enclosure round the island

abbrev pub round_it : Map
round_it = with_points (point 9 (pos 600) (pos 100) ∷ point 10 (pos 900) (pos 100) ∷ point 11 (pos 900) (pos 700) ∷ point 12 (pos 600) (pos 700) ∷ []) island

abbrev enclosed : Face → Map
enclosed f = enclose round_it f (9 ∷ 10 ∷ 11 ∷ 12 ∷ []) (41 ∷ 42 ∷ 43 ∷ 44 ∷ []) 3 label_c 1

ring_left : rings_of (enclosed (Parcel 1)) (Parcel 1) ≡ outer_ring ∷ (9 ∷ 12 ∷ 11 ∷ 10 ∷ []) ∷ []
ring_left = refl

ring_made : rings_of (enclosed (Parcel 1)) (Parcel 3) ≡ (6 ∷ 8 ∷ 7 ∷ []) ∷ (9 ∷ 10 ∷ 11 ∷ 12 ∷ []) ∷ []
ring_made = refl

enclosed_areas : map (area (enclosed (Parcel 1))) (Parcel 1 ∷ Parcel 2 ∷ Parcel 3 ∷ []) ≡ pos 1640000 ∷ pos 20000 ∷ pos 340000 ∷ []
unfolding area
enclosed_areas = refl

wrong_face : (has_holes_in_place (enclosed Outside) ≡ false) × (has_holes_in_place (enclosed (Parcel 2)) ≡ false)
wrong_face = (refl, refl)

-- ---- Rules that a move breaks

turned_over : (has_one_outline_each (moved 3 (negsuc 999) (negsuc 999) square) ≡ false) × (has_empty_corners (moved 3 (negsuc 999) (negsuc 999) square) ≡ true)
turned_over = (refl, refl)

abbrev three_parcels : Map
three_parcels = d13 by_a_bend 23 3

areas_of_three : map (area three_parcels) (Parcel 1 ∷ Parcel 2 ∷ Parcel 3 ∷ []) ≡ pos 1000000 ∷ pos 800000 ∷ pos 200000 ∷ []
unfolding area
areas_of_three = refl

moved_corner : has_empty_corners (moved 5 (pos 600) (pos 400) three_parcels) ≡ false
moved_corner = refl

moved_round_hole : (has_holes_in_place (moved 3 (pos 400) (pos 400) island) ≡ false) × (has_empty_corners (moved 3 (pos 400) (pos 400) island) ≡ true)
moved_round_hole = (refl, refl)

-- a hole of the outside inside the other
hole_in_hole : has_holes_in_place (record island {
  boundaries = canonical_order (bounding Outside (1 ∷ 4 ∷ 3 ∷ 2 ∷ []) ∷ bounding (Parcel 1) outer_ring ∷ bounding Outside (6 ∷ 8 ∷ 7 ∷ []) ∷ bounding (Parcel 2) (6 ∷ 7 ∷ 8 ∷ []) ∷ []);
}) ≡ false
hole_in_hole = refl

-- ---- A string split, two strings joined

split_strings : (split square (string 11 1 2) 5 (pos 500) (pos 0) 22 23).strings ≡ string 12 2 3 ∷ string 13 3 4 ∷ string 14 4 1 ∷ string 22 1 5 ∷ string 23 5 2 ∷ []
split_strings = refl

split_rings : (split square (string 11 1 2) 5 (pos 500) (pos 0) 22 23).boundaries ≡ bounding Outside (1 ∷ 4 ∷ 3 ∷ 2 ∷ 5 ∷ []) ∷ bounding (Parcel 1) (1 ∷ 5 ∷ 2 ∷ 3 ∷ 4 ∷ []) ∷ []
split_rings = refl

joined_strings : (join square 1 21).strings ≡ string 12 2 3 ∷ string 13 3 4 ∷ string 21 2 4 ∷ []
joined_strings = refl

joined_rings : (join square 1 21).boundaries ≡ bounding Outside (2 ∷ 4 ∷ 3 ∷ []) ∷ bounding (Parcel 1) (2 ∷ 3 ∷ 4 ∷ []) ∷ []
joined_rings = refl

-- Worked rings, computed.
use Rattle.std.proofs.Common.{◌≡◌, ℕ, refl, [], ◌∷◌, pos, negsuc, lit<, true, false, lit≤, arith}
use Rattle.std.specs.Prelude.{◌==◌, if◌then◌else◌}
use Rattle.geo_exact.specs.Position.{Position}
use Rattle.geo_exact.specs.Measure.{doubled_area}
use Rattle.cad_rings.specs.Cycle.{Ring, sides_of, has_side, times_along, times_through, corners_of, anchor_of, ring_sum}
use Rattle.cad_rings.specs.Positions.{position_in}
use Rattle.cad_rings.specs.Canonical.{comes_first, rotations, least_rotation}
use Rattle.cad_rings.specs.Surgery.{reversed, sides_of_chain, both_ways, stretch, chain_across, AreSamePlaces, left_ring, right_ring, chain_from, HaveChainInCommon, joined, put_on, without}

-- the square 1 2 3 4 with sides of a metre, with a point 5 on its diagonal's other side
abbrev square : Ring
square = 1 ∷ 2 ∷ 3 ∷ 4 ∷ []

-- its boundary as the outside has it
abbrev outside : Ring
outside = 1 ∷ 4 ∷ 3 ∷ 2 ∷ []

abbrev position : ℕ → Position
position p =
    if p == 1 then record { x = pos 0; y = pos 0 }
    else (if p == 2 then record { x = pos 1000; y = pos 0 }
    else (if p == 3 then record { x = pos 1000; y = pos 1000 }
    else (if p == 4 then record { x = pos 0; y = pos 1000 }
    else record { x = pos 400; y = pos 600 })))

-- ---- Sides and corners

sides : sides_of square ≡ (1, 2) ∷ (2, 3) ∷ (3, 4) ∷ (4, 1) ∷ []
sides = refl

corners : corners_of (1 ∷ 2 ∷ 3 ∷ []) ≡ record { before = 1; at = 2; after = 3 } ∷ record { before = 2; at = 3; after = 1 } ∷ record { before = 3; at = 1; after = 2 } ∷ []
corners = refl

-- a ring that passes a point twice
passes_twice : times_through 1 (1 ∷ 2 ∷ 3 ∷ 1 ∷ 4 ∷ 5 ∷ []) ≡ 2
passes_twice = refl

goes_once : times_along (3, 1) (1 ∷ 2 ∷ 3 ∷ 1 ∷ 4 ∷ 5 ∷ []) ≡ 1
goes_once = refl

has_its_sides : has_side (4, 1) (sides_of square) ≡ true
has_its_sides = refl

has_no_opposite : has_side (1, 4) (sides_of square) ≡ false
has_no_opposite = refl

-- two sides, and both are of the same two points
of_two : sides_of (1 ∷ 2 ∷ []) ≡ (1, 2) ∷ (2, 1) ∷ []
of_two = refl

-- ---- The canonical form of rings

canonical_form : least_rotation (3 ∷ 1 ∷ 2 ∷ []) ≡ 1 ∷ 2 ∷ 3 ∷ []
canonical_form = refl

-- the ring of an island in the parcel round it
island : least_rotation (8 ∷ 7 ∷ 6 ∷ []) ≡ 6 ∷ 8 ∷ 7 ∷ []
island = refl

all_rotations : rotations (3 ∷ 1 ∷ 2 ∷ []) ≡ (3 ∷ 1 ∷ 2 ∷ []) ∷ (1 ∷ 2 ∷ 3 ∷ []) ∷ (2 ∷ 3 ∷ 1 ∷ []) ∷ []
all_rotations = refl

-- of two rotations that begin at the same point the later points decide
decided_later : least_rotation (1 ∷ 4 ∷ 5 ∷ 1 ∷ 2 ∷ 3 ∷ []) ≡ 1 ∷ 2 ∷ 3 ∷ 1 ∷ 4 ∷ 5 ∷ []
decided_later = refl

backwards : least_rotation (reversed (9 ∷ 10 ∷ 11 ∷ 12 ∷ [])) ≡ 9 ∷ 12 ∷ 11 ∷ 10 ∷ []
backwards = refl

seen_from_outside : least_rotation (reversed square) ≡ outside
seen_from_outside = refl

anchor : anchor_of (8 ∷ 6 ∷ 7 ∷ []) ≡ 6
anchor = refl

shorter_first : comes_first (1 ∷ 2 ∷ []) (1 ∷ 2 ∷ 3 ∷ []) ≡ true
shorter_first = refl

-- ---- The square divided from 1 to 3

left : least_rotation (left_ring 0 2 [] square) ≡ 1 ∷ 3 ∷ 4 ∷ []
left = refl

right : least_rotation (right_ring 0 2 [] square) ≡ 1 ∷ 2 ∷ 3 ∷ []
right = refl

-- and from 3 to 1
left_back : least_rotation (left_ring 2 0 [] square) ≡ 1 ∷ 2 ∷ 3 ∷ []
left_back = refl

right_back : least_rotation (right_ring 2 0 [] square) ≡ 1 ∷ 3 ∷ 4 ∷ []
right_back = refl

-- through 5
left_through : least_rotation (left_ring 0 2 (5 ∷ []) square) ≡ 1 ∷ 5 ∷ 3 ∷ 4 ∷ []
left_through = refl

right_through : least_rotation (right_ring 0 2 (5 ∷ []) square) ≡ 1 ∷ 2 ∷ 3 ∷ 5 ∷ []
right_through = refl

chain_through : both_ways (sides_of_chain (chain_across 0 2 (5 ∷ []) square)) ≡ (1, 5) ∷ (5, 1) ∷ (5, 3) ∷ (3, 5) ∷ []
chain_through = refl

-- the outside divided along 2 5 3: the new parcel has the triangle, and the outside's ring goes round it
left_of_outside : least_rotation (left_ring 3 2 (5 ∷ []) outside) ≡ 2 ∷ 5 ∷ 3 ∷ []
left_of_outside = refl

right_of_outside : least_rotation (right_ring 3 2 (5 ∷ []) outside) ≡ 1 ∷ 4 ∷ 3 ∷ 5 ∷ 2 ∷ []
right_of_outside = refl

-- and along 3 5 2 the other way round
left_the_wrong_way : least_rotation (left_ring 2 3 (5 ∷ []) outside) ≡ 1 ∷ 4 ∷ 3 ∷ 5 ∷ 2 ∷ []
left_the_wrong_way = refl

stretches : stretch 3 1 square ≡ 4 ∷ 1 ∷ []
stretches = refl

-- a ring that passes 1 twice, cut at its second passage
second_passage : left_ring 3 5 [] (1 ∷ 2 ∷ 3 ∷ 1 ∷ 4 ∷ 5 ∷ []) ≡ 1 ∷ 5 ∷ 1 ∷ 2 ∷ 3 ∷ []
second_passage = refl

-- the places of 1 and 3, in the square and in the square written from 3 on
places_elsewhere : AreSamePlaces 0 2 square 2 0 (3 ∷ 4 ∷ 1 ∷ 2 ∷ [])
places_elsewhere = record {
  same = record { place = 2; within = lit≤ tt; is = refl };
  two = record { first = lit< tt; second = lit< tt; apart = λ e. absurd (omega arith) };
  two_there = record { first = lit< tt; second = lit< tt; apart = λ e. absurd (omega arith) };
  first = (1, 2);
  first_here = record { within = lit< tt; is = refl; once = refl };
  first_there = record { within = lit< tt; is = refl; once = refl };
  second = (3, 4);
  second_here = record { within = lit< tt; is = refl; once = refl };
  second_there = record { within = lit< tt; is = refl; once = refl };
}

-- ---- The parts joined again

-- along 3 1
again : least_rotation (joined 2 0 1 (1 ∷ 2 ∷ 3 ∷ []) (1 ∷ 3 ∷ 4 ∷ [])) ≡ square
again = refl

in_common : HaveChainInCommon 2 0 1 (1 ∷ 2 ∷ 3 ∷ []) (1 ∷ 3 ∷ 4 ∷ [])
in_common = record { some = lit< tt; more_in_kept = lit< tt; more_in_ended = lit< tt; common = refl }

-- along 3 5 1
again_through : least_rotation (joined 2 0 2 (1 ∷ 2 ∷ 3 ∷ 5 ∷ []) (1 ∷ 5 ∷ 3 ∷ 4 ∷ [])) ≡ square
again_through = refl

in_common_through : HaveChainInCommon 2 0 2 (1 ∷ 2 ∷ 3 ∷ 5 ∷ []) (1 ∷ 5 ∷ 3 ∷ 4 ∷ [])
in_common_through = record { some = lit< tt; more_in_kept = lit< tt; more_in_ended = lit< tt; common = refl }

chain_they_share : chain_from 2 2 (1 ∷ 2 ∷ 3 ∷ 5 ∷ []) ≡ 3 ∷ 5 ∷ 1 ∷ []
chain_they_share = refl

-- ---- Points put on and dropped

split : put_on (1, 2) 5 square ≡ 1 ∷ 5 ∷ 2 ∷ 3 ∷ 4 ∷ []
split = refl

split_last : put_on (4, 1) 5 square ≡ 1 ∷ 2 ∷ 3 ∷ 4 ∷ 5 ∷ []
split_last = refl

split_outside : least_rotation (put_on (2, 1) 5 outside) ≡ 1 ∷ 4 ∷ 3 ∷ 2 ∷ 5 ∷ []
split_outside = refl

not_split : put_on (2, 1) 5 square ≡ square
not_split = refl

dropped : without 1 square ≡ 2 ∷ 3 ∷ 4 ∷ []
dropped = refl

dropped_again : without 5 (put_on (1, 2) 5 square) ≡ square
dropped_again = refl

-- ---- Doubled areas

area : ring_sum doubled_area position square ≡ pos 2000000
area = refl

area_from_outside : ring_sum doubled_area position outside ≡ negsuc 1999999
area_from_outside = refl

area_of_left : ring_sum doubled_area position (left_ring 0 2 (5 ∷ []) square) ≡ pos 800000
area_of_left = refl

area_of_right : ring_sum doubled_area position (right_ring 0 2 (5 ∷ []) square) ≡ pos 1200000
area_of_right = refl

-- ---- Positions

abbrev here : Position
here = record { x = pos 7; y = pos 8 }

abbrev there : Position
there = record { x = pos 500; y = pos 500 }

first_entry : position_in ((2, there) ∷ (1, here) ∷ (1, there) ∷ []) 1 ≡ here
first_entry = refl

no_entry : position_in ((1, here) ∷ []) 2 ≡ record { x = pos 0; y = pos 0 }
no_entry = refl

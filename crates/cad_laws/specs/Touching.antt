-- The points, strings and faces that each edit touches.
use Rattle.std.specs.Prelude.{ℕ, ◌||◌, ◌==◌, Bool, List, [], ◌∷◌, map, filter, option_map, unwrap_or, Option, Some, None}
use Rattle.std.specs.List.{list_any, flat_map}
use Rattle.cad_rows.specs.declared.edits.Edit.{Edit}
use Rattle.cad_rows.specs.declared.edits.Edit.TheVariants.{AddPoint, Split, Join, Divide, Merge, Move, Enclose}
use Rattle.cad_rows.specs.declared.names.Face.{Face}
use Rattle.cad_rows.specs.declared.names.Face.TheVariants.{Parcel}
use Rattle.cad_rows.specs.declared.rows.StringRow.{StringRow}
use Rattle.cad_rings.specs.Cycle.{Ring, has_side, opposite, sides_of}
use Rattle.cad_rings.specs.Surgery.{chain_from}
use Rattle.cad_map.specs.Map.{Map, position_of, string_of, side_of, strings_at}
use Rattle.cad_map.specs.Merger.{ChainInRings, shared_chains}
use Rattle.cad_map.specs.Merger.ChainInRings.{along, around}
use Rattle.cad_map.specs.Touched.{Joined, Touched, neighbours}

abbrev pub touching : List ℕ → List ℕ → List Face → Touched
touching points strings faces =
    record { points = points; strings = strings; faces = faces; moved = None; joined = None }

-- the faces of the rings that pass the test
abbrev pub faces_where : Map → (Ring → Bool) → List Face
faces_where m test = map (λ b. b.face) (filter (λ b. test b.ring) m.boundaries)

-- the ring passes the point
abbrev pub passes : ℕ → Ring → Bool
passes p ring = list_any (λ q. q == p) ring

-- the ring goes along the string, one way or the other
abbrev pub goes_along : StringRow → Ring → Bool
goes_along s ring =
    has_side (side_of s) (sides_of ring) || has_side (opposite (side_of s)) (sides_of ring)

-- the points of the chain, or of the island, that a merger takes out
abbrev pub points_of_shared_chain : ChainInRings → List ℕ
points_of_shared_chain (along n k i e j) = chain_from i n k
points_of_shared_chain (around k e) = k

-- the new point and the string's ends, the two new strings, the faces beside the string, and the
-- point as if it had lain where the string begins
abbrev pub touched_by_split : Map → ℕ → ℕ → ℕ → StringRow → Touched
touched_by_split m p first second s = record {
  points = p ∷ s.from ∷ s.to ∷ [];
  strings = first ∷ second ∷ [];
  faces = faces_where m (goes_along s);
  moved = Some (record { point = p; from = position_of m s.from });
  joined = None;
}

-- the point, and where it lies, between two others
abbrev pub joined_between : Map → ℕ → List ℕ → Option Joined
joined_between m p (a ∷ b ∷ []) =
    Some (record { point = p; position = position_of m p; first = a; second = b })
joined_between m p _ = None

-- the two far ends, the new string, the faces whose rings pass the point, and the point between the two
abbrev pub touched_by_join : Map → ℕ → ℕ → Touched
touched_by_join m p new = record {
  points = neighbours m p;
  strings = new ∷ [];
  faces = faces_where m (passes p);
  moved = None;
  joined = joined_between m p (neighbours m p);
}

-- the point, its strings, the faces whose rings pass it, and where it lay
abbrev pub touched_by_move : Map → ℕ → Touched
touched_by_move m p = record {
  points = p ∷ [];
  strings = map (λ s. s.number) (strings_at m p);
  faces = faces_where m (passes p);
  moved = Some (record { point = p; from = position_of m p });
  joined = None;
}

-- What an edit touches. Sources and labels are in no rule, and a point that is dropped is gone.
abbrev pub touched_by : Map → Edit → Touched
touched_by m (AddPoint p x y) = touching (p ∷ []) [] []
touched_by m (Split s p x y first second) =
    unwrap_or (option_map (touched_by_split m p first second) (string_of m s)) (touching [] [] [])
touched_by m (Join p new) = touched_by_join m p new
touched_by m (Divide face chain strings parcel label source) =
    touching chain strings (face ∷ Parcel parcel ∷ [])
touched_by m (Merge kept ended) =
    touching (flat_map points_of_shared_chain (shared_chains m kept ended)) [] (kept ∷ [])
touched_by m (Move p x y) = touched_by_move m p
touched_by m (Enclose face points strings parcel label source) =
    touching points strings (face ∷ Parcel parcel ∷ [])
touched_by m _ = touching [] [] []

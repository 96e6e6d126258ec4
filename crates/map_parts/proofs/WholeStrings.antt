-- The strings of a map whose rings are whole.
use Rattle.std.proofs.Common.{◌≢◌, sym}
use Rattle.std.proofs.lemmas.List.Sorted.{IsPermutation-sym}
use Rattle.cad_rows.specs.declared.rows.StringRow.{StringRow}
use Rattle.cad_map.specs.Map.{Map, face_at, string_sides, all_sides, left_face, right_face}
use Rattle.cad_map.specs.Rings.{HasWholeRings}
use Rattle.cad_map.specs.Valid.{EachPair, HasTwoEnds}
use Rattle.cad_map.proofs.CallerLemmas.{All-follows, pairs-IsPermutation, is_side-is}
use Rattle.cad_rings.specs.Cycle.{is_side}

-- each has two ends, since it has two faces
pub two-ends : (m : Map) → HasWholeRings m → HasTwoEnds m
two-ends m whole =
    All-follows (λ (s : StringRow). left_face m s ≢ right_face m s) (λ (s : StringRow). s.from ≢ s.to)
    (λ s differ same. differ (λ i. face_at m (same i, sym same i))) m.strings whole.v5.two_faces

-- and no side of one stands twice
pub strings-once : (m : Map) → HasWholeRings m → EachPair (λ a b. a ≢ b) (string_sides m)
strings-once m whole =
    pairs-IsPermutation is_side is_side-is (all_sides m) (string_sides m)
    (IsPermutation-sym (string_sides m) (all_sides m) whole.v5.once) whole.once

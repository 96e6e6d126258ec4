-- How much of a map an edit changes, and what its record and its work may come to.
use Rattle.std.specs.Prelude.{ℕ, ◌+◌, ◌*◌, Bool, ◌&&◌, not, length, filter, sum_by, count_by}
use Rattle.std.specs.List.{list_any}
use Rattle.std.specs.Str.{bytes_eq as is_same_list}
use Rattle.cad_map.specs.declared.boundary.Boundary.{Boundary}
use Rattle.cad_map.specs.Boundaries.{is_face}
use Rattle.cad_map.specs.Map.{Map, has_point, has_string, has_parcel, has_source}

-- ---- Rows that one of two maps has and the other has not

abbrev pub rows_missing : Map → Map → ℕ
rows_missing old new =
    count_by (λ r. not (has_point new r.number)) old.points + count_by (λ r. not (has_string new r.number)) old.strings
    + count_by (λ r. not (has_parcel new r.number)) old.parcels + count_by (λ r. not (has_source new r.number)) old.sources

-- the rows that the edit adds or removes
abbrev pub rows_changed : Map → Map → ℕ
rows_changed old new = rows_missing old new + rows_missing new old

-- the sources attached to the rows that it removes
abbrev pub sources_removed : Map → Map → ℕ
sources_removed old new =
    sum_by (λ r. length r.sources) (filter (λ r. not (has_point new r.number)) old.points)
    + sum_by (λ r. length r.sources) (filter (λ r. not (has_string new r.number)) old.strings)
    + sum_by (λ r. length r.sources) (filter (λ r. not (has_parcel new r.number)) old.parcels)

-- ---- Rings

abbrev pub has_ring : Map → Boundary → Bool
has_ring m b = list_any (λ c. is_same_list c.ring b.ring) m.boundaries

-- the same ring in the same face
abbrev pub has_boundary : Map → Boundary → Bool
has_boundary m b = list_any (λ c. is_face c.face b.face && is_same_list c.ring b.ring) m.boundaries

-- the rings that both maps have, in different faces
abbrev pub rings_moved : Map → Map → ℕ
rings_moved old new = count_by (λ b. has_ring new b && not (has_boundary new b)) old.boundaries

-- the sides of the rings that the other map doesn't have in the same face
abbrev pub sides_missing : Map → Map → ℕ
sides_missing old new = sum_by (λ b. length b.ring) (filter (λ b. not (has_boundary new b)) old.boundaries)

abbrev pub sides_changed : Map → Map → ℕ
sides_changed old new = sides_missing old new + sides_missing new old

-- ---- The bounds

-- the most that a record of the edit may weigh, where the store changes half-edges in place
abbrev pub weight_bound : Map → Map → ℕ
weight_bound old new = 8 + 3 * rows_changed old new + rings_moved old new + sources_removed old new

-- the most steps on the half-edges that the edit may take, or that taking it back may take
abbrev pub work_bound : Map → Map → ℕ
work_bound old new = 16 * (rows_changed old new + 1) + 4 * sides_changed old new

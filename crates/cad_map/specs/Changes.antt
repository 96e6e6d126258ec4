-- Maps with one thing changed.
use Rattle.std.specs.Prelude.{ℕ, not, ◌==◌, nat_lt, List, [], ◌∷◌, ◌++◌, filter, map, Option, Some, if◌then◌else◌, unwrap_or, option_map, ℤ}
use Rattle.std.specs.List.{list_any}
use Rattle.cad_rows.specs.declared.rows.PointRow.{PointRow}
use Rattle.cad_rows.specs.declared.rows.StringRow.{StringRow}
use Rattle.cad_rows.specs.declared.rows.ParcelRow.{ParcelRow}
use Rattle.cad_rows.specs.declared.names.Face.{Face}
use Rattle.cad_rows.specs.declared.names.Face.TheVariants.{Outside, Parcel}
use Rattle.cad_rows.specs.declared.names.Item.{Item}
use Rattle.cad_rows.specs.declared.names.Item.TheVariants as item
use Rattle.cad_rings.specs.Cycle.{Ring, Corner}
use Rattle.cad_rings.specs.Surgery.{put_on, without}
use Rattle.cad_map.specs.declared.boundary.Boundary.{Boundary}
use Rattle.cad_map.specs.Boundaries.{bounding, canonical_order}
use Rattle.cad_map.specs.Map.{Map, point_of, parcel_of, string_of, strings_at, far_end, is_end}
use Rattle.numbered_rows.specs.Rows.{with_row, without_row}
use Rattle.cad_map.specs.Chain.{start_of, next_of, end_of, last_but_one, strings_along, chosen_corner}
use Rattle.cad_map.specs.Division.{boundaries_divided, boundaries_enclosed}
use Rattle.cad_map.specs.Merger.{ChainInRings, shared_chains, is_shared, boundaries_by}

-- ---- One row

-- the map with this row in the place of the point with its number
abbrev pub with_point : Map → PointRow → Map
with_point m row = record m { points = with_row (λ r. r.number) row m.points }

abbrev pub with_parcel : Map → ParcelRow → Map
with_parcel m row = record m { parcels = with_row (λ r. r.number) row m.parcels }

abbrev pub with_string : Map → StringRow → Map
with_string m row = record m { strings = with_row (λ r. r.number) row m.strings }

-- the point with the number, as change leaves it, in its place
abbrev pub change_point : ℕ → (PointRow → PointRow) → Map → Map
change_point n change m = unwrap_or (option_map (λ r. with_point m (change r)) (point_of m n)) m

abbrev pub change_parcel : ℕ → (ParcelRow → ParcelRow) → Map → Map
change_parcel n change m = unwrap_or (option_map (λ r. with_parcel m (change r)) (parcel_of m n)) m

abbrev pub change_string : ℕ → (StringRow → StringRow) → Map → Map
change_string n change m = unwrap_or (option_map (λ r. with_string m (change r)) (string_of m n)) m

-- the sources of an item, as change leaves them
abbrev pub change_sources : Item → (List ℕ → List ℕ) → Map → Map
change_sources (item.Point n) change m = change_point n (λ r. record r { sources = change r.sources }) m
change_sources (item.String n) change m = change_string n (λ r. record r { sources = change r.sources }) m
change_sources (item.Parcel n) change m = change_parcel n (λ r. record r { sources = change r.sources }) m

-- ---- Rings

-- these boundaries, in canonical order
abbrev pub with_boundaries : List Boundary → Map → Map
with_boundaries bs m = record m { boundaries = canonical_order bs }

-- each ring as change leaves it
abbrev pub with_each_ring : (Ring → Ring) → Map → Map
with_each_ring change m = with_boundaries (map (λ b. bounding b.face (change b.ring)) m.boundaries) m

-- ---- A string split at a new point, and two strings joined

-- the string's row goes, two come last, and the point is put between its ends
abbrev pub split : Map → StringRow → ℕ → ℤ → ℤ → ℕ → ℕ → Map
split m s p x y first second =
    with_each_ring (λ r. put_on (s.to, s.from) p (put_on (s.from, s.to) p r)) (record m {
      points = m.points ++ record { number = p; position = record { x = x; y = y }; sources = [] } ∷ [];
      strings = without_row (λ r. r.number) s.number m.strings
          ++ record { number = first; from = s.from; to = p; sources = s.sources }
          ∷ record { number = second; from = p; to = s.to; sources = s.sources } ∷ [];
    })

-- the sources of the first list, and those of the second that aren't among them
abbrev pub both_sources : List ℕ → List ℕ → List ℕ
both_sources xs ys = xs ++ filter (λ y. not (list_any (λ x. x == y) xs)) ys

-- of two strings the lower-numbered one first
abbrev pub by_number : List StringRow → List StringRow
by_number (s ∷ t ∷ rest) = if nat_lt t.number s.number then t ∷ s ∷ rest else s ∷ t ∷ rest
by_number strings = strings

-- the sources of two strings that are joined
abbrev pub joined_sources : List StringRow → List ℕ
joined_sources (s ∷ t ∷ rest) = both_sources s.sources t.sources
joined_sources strings = []

-- one string in the place of two that meet in the point, from the far end of the first to that of the second
abbrev pub string_joining : ℕ → ℕ → List StringRow → List StringRow
string_joining p new (s ∷ t ∷ rest) = record { number = new; from = far_end s p; to = far_end t p; sources = joined_sources (s ∷ t ∷ []) } ∷ []
string_joining p new strings = []

-- the point's row and its strings go, and one string comes last, from the far end of the lower-numbered one to that of the other
abbrev pub join : Map → ℕ → ℕ → Map
join m p new =
    with_each_ring (without p) (record m {
      points = without_row (λ r. r.number) p m.points;
      strings = filter (λ s. not (is_end s p)) m.strings ++ string_joining p new (by_number (strings_at m p));
    })

-- ---- Parcels made and merged

-- the new strings and the new parcel come last
abbrev pub with_new_parcel : List StringRow → ℕ → List ℕ → ℕ → Map → Map
with_new_parcel strings parcel label source m =
    record m { strings = m.strings ++ strings; parcels = m.parcels ++ record { number = parcel; label = label; sources = source ∷ [] } ∷ [] }

abbrev pub divide_at : Map → Face → List ℕ → ℕ → Option Corner → Option Corner → List Boundary
divide_at m face chain parcel (Some a) (Some b) = boundaries_divided m face (Parcel parcel) chain a b
divide_at m face chain parcel _ _ = m.boundaries

-- the face divided along a chain of points by these strings: what is left of the chain is the new parcel
abbrev pub divide : Map → Face → List ℕ → List ℕ → ℕ → List ℕ → ℕ → Map
divide m face chain strings parcel label source =
    with_boundaries (divide_at m face chain parcel (chosen_corner m face (start_of chain) (next_of chain)) (chosen_corner m face (end_of chain) (last_but_one chain)))
    (with_new_parcel (strings_along (source ∷ []) strings chain) parcel label source m)

-- the closed chain of points made an island in the face
abbrev pub enclose : Map → Face → List ℕ → List ℕ → ℕ → List ℕ → ℕ → Map
enclose m face points strings parcel label source =
    with_boundaries (boundaries_enclosed m face (Parcel parcel) points)
    (with_new_parcel (strings_along (source ∷ []) strings (points ++ start_of points ∷ [])) parcel label source m)

abbrev pub merge_at : Map → Face → Face → List ChainInRings → List Boundary
merge_at m kept ended (shared_chain ∷ _) = boundaries_by m kept ended shared_chain
merge_at m kept ended [] = m.boundaries

-- the shared strings and the ended parcel go, and its number is retired
abbrev pub merge : Map → Face → Face → Map
merge m kept (Parcel n) =
    with_boundaries (merge_at m kept (Parcel n) (shared_chains m kept (Parcel n)))
    (record m {
      parcels = without_row (λ r. r.number) n m.parcels;
      strings = filter (λ s. not (is_shared m kept (Parcel n) s)) m.strings;
      retired = m.retired ++ n ∷ [];
    })
merge m kept Outside = m

-- A join as it is asked for, and its record.
use Rattle.std.specs.Prelude.{◌≡◌, ⊤, ℕ, [], ◌∷◌}
use Rattle.cad_rows.specs.declared.rows.StringRow.{StringRow}
use Rattle.cad_map.specs.Changes.{by_number, joined_sources}
use Rattle.cad_map.specs.Map.{Map, far_end, strings_at}
use Rattle.map_parts.specs.declared.edits.join.JoinedRows.{JoinedRows}
use Rattle.cad_surgery.specs.declared.edits.joining.Joining.{Joining}
use Rattle.edit_records.specs.declared.record.SmallRecord.{SmallRecord}
use Rattle.edit_records.specs.declared.record.SmallRecord.TheVariants as change

-- the string that comes in the place of two that meet at the point
abbrev pub joining_row : (point string : ℕ) → (one other : StringRow) → StringRow
joining_row point string one other = record {
  number = string;
  from = far_end one point;
  to = far_end other point;
  sources = joined_sources (one ∷ other ∷ []);
}

-- what the join of two strings is made of
abbrev pub joining_of : (point string : ℕ) → (one other : StringRow) → Joining
joining_of point string one other =
    record { first = one.number; second = other.number; row = joining_row point string one other }

-- it is made of the two strings at the point, the lower-numbered first
abbrev pub IsJoiningAt : Map → (point : ℕ) → Joining → Type 0
IsJoiningAt m point joining = (s t : StringRow) → by_number (strings_at m point) ≡ s ∷ t ∷ []
    → joining ≡ joining_of point joining.row.number s t

-- its record
abbrev pub join_record : JoinedRows → ℕ → SmallRecord
join_record joined string =
    change.Join joined.point joined.point_place joined.first joined.first_place joined.second joined.second_place string

-- the record is of a join
abbrev pub IsOfJoin : SmallRecord → Type 0
IsOfJoin (change.Join row place first i second j string) = ⊤
IsOfJoin _ = ⊥

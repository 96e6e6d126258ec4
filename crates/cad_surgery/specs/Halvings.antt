-- A split as it is asked for, its rows and its record.
use Rattle.std.specs.Prelude.{◌≡◌, ℕ, ⊤, []}
use Rattle.cad_rows.specs.declared.edits.Edit.{Edit}
use Rattle.cad_rows.specs.declared.edits.Edit.TheVariants.{Split}
use Rattle.cad_rows.specs.declared.rows.StringRow.{StringRow}
use Rattle.cad_surgery.specs.declared.edits.try_split.Halving.{Halving}
use Rattle.cad_surgery.specs.declared.edits.try_split.SplitRows.{SplitRows}
use Rattle.edit_records.specs.declared.record.SmallRecord.{SmallRecord}
use Rattle.edit_records.specs.declared.record.SmallRecord.TheVariants as change
use Rattle.edit_records.specs.Record.{IsMadeOf}
use Rattle.cad_map.specs.Effects.{after}
use Rattle.cad_map.specs.Map.{Map}

-- the edit that splits the string so
abbrev pub split_by : ℕ → Halving → Edit
split_by string h = Split string h.point h.position.x h.position.y h.first h.second

-- its record
abbrev pub split_record : StringRow → ℕ → Halving → SmallRecord
split_record row place h = change.Split row place h.point h.position h.first h.second

-- the record is of a split
abbrev pub IsOfSplit : SmallRecord → Type 0
IsOfSplit (change.Split row place p at first second) = ⊤
IsOfSplit _ = ⊥

-- the second map is that after a split of the string, which stood at the place, of the first
abbrev pub IsSplitFrom : StringRow → ℕ → Halving → Map → Map → Type 0
IsSplitFrom row place h now m = IsMadeOf (split_record row place h) m × (now ≡ after m (split_by row.number h))

-- the rows that it brings
abbrev pub split_rows : StringRow → Halving → SplitRows
split_rows row h = record {
  point = record { number = h.point; position = h.position; sources = [] };
  first = record { number = h.first; from = row.from; to = h.point; sources = row.sources };
  second = record { number = h.second; from = h.point; to = row.to; sources = row.sources };
}

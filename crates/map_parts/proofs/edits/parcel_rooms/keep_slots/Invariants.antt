use Rattle.std.proofs.Common.{◌≡◌, take}
use Rattle.std.specs.List.{AllByRecursion}
use Rattle.cad_rows.specs.declared.rows.StringRow.{StringRow}
use Rattle.entry_list.specs.Slots.{HasSlot, KeepsSlots}
use Rattle.cad_map.specs.MapRows.{map_in}
use Rattle.map_parts.proofs.edits.parcel_rooms.keep_slots.Given as goal

-- the strings so far have slots
abbrev pub invariant-loop-string : goal.invariant-loop-string
invariant-loop-string l = record {
  rows : map_in l.rows ≡ map_in l.initial.rows;
  strings : KeepsSlots l.initial.rows.strings l.rows.strings;
  parcels : KeepsSlots l.initial.rows.parcels l.rows.parcels;
  slots : AllByRecursion (λ (s : StringRow). HasSlot l.rows.strings s.number) (take l.string-index l.strings);
}

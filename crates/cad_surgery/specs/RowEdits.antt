-- Edits of rows alone, beside halves that stay.
use Rattle.std.specs.Prelude.{◌≡◌, ℕ, Bool, true, false, [], map}
use Rattle.cad_rows.specs.declared.edits.Edit.{Edit}
use Rattle.cad_rows.specs.declared.edits.Edit.TheVariants.{Split, Join, Divide, Merge, Enclose}
use Rattle.cad_rows.specs.declared.rows.StringRow.{StringRow}
use Rattle.cad_map.specs.Map.{Map}
use Rattle.map_parts.specs.Parts.{Parts, map_of, kept_at}
use Rattle.cad_surgery.specs.Proper.{IsProper}

-- the edit leaves the numbers and ends of strings, the numbers of parcels, and all rings
abbrev pub is_of_rows : Edit → Bool
is_of_rows (Split s p x y first second) = false
is_of_rows (Join p s) = false
is_of_rows (Divide face chain strings parcel label source) = false
is_of_rows (Merge kept ended) = false
is_of_rows (Enclose face points strings parcel label source) = false
is_of_rows _ = true

-- the rows of a map
abbrev pub without_rings : Map → Map
without_rings m = record m { boundaries = [] }

-- a string's number and its ends
abbrev pub ends_of : StringRow → ℕ × ℕ × ℕ
ends_of s = (s.number, s.from, s.to)

-- the numbers and ends of strings and the numbers of parcels are the same
pub record HasSameEnds (old new : Map) : Type 0 where
  pub strings : map ends_of new.strings ≡ map ends_of old.strings
  pub parcels : map (λ p. p.number) new.parcels ≡ map (λ p. p.number) old.parcels

-- these parts with other rows
abbrev pub with_rows : Parts → Map → Parts
with_rows d m = record d {
  sources = m.sources;
  points = m.points;
  parcels = m.parcels;
  strings = m.strings;
  retired = m.retired;
}

-- table and grid are as they were, and parts that were proper for their map are
pub record KeepsBeside (old new : Parts) : Type 0 where
  pub table : new.table ≡ old.table
  pub grid : new.grid ≡ old.grid
  pub proper : IsProper (map_of old) old.table.rows (kept_at old)
      → IsProper (map_of new) new.table.rows (kept_at new)

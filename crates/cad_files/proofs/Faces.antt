-- The faces beside the strings of a valid map.
use Rattle.std.proofs.Common.{◌≡◌, refl, Option, Some, None, rules}
use Rattle.std.specs.Prelude.{IfNone, IsSome}
use Rattle.std.specs.List.{Contains}
use Rattle.cad_rows.specs.declared.names.Face.{Face}
use Rattle.cad_rows.specs.declared.rows.StringRow.{StringRow}
use Rattle.cad_map.specs.Map.{Map, string_of}
use Rattle.cad_map.specs.Valid.{IsValid}
use Rattle.cad_map.specs.Views.{HasFaces, HasNoFaces}
use Rattle.cad_map.proofs.CallerLemmas.{faces-told, some-faces, row-found}
use Rattle.cad_files.specs.Building.{plan_string_of}

module _ (m : Map) (valid : IsValid m) (row : StringRow) (there : Contains m.strings row) where
  by_number : string_of m row.number ≡ Some row
  by_number = row-found m.strings row valid.sound.v1.strings.distinct there

  -- faces are told of each string
  pub is_told : (o : Option (Face × Face)) → IfNone o (HasNoFaces m row.number) → IsSome o
  is_told None none = absurd (some-faces m valid row.number row there by_number none)
  is_told (Some faces) none = search rules

  -- a string with the faces that are told is the plan's
  pub as_told : (left right : Face) → HasFaces m row.number left right → plan_string_of m row ≡ record { row = row; left = left; right = right }
  as_told left right told =
      let sides = faces-told m valid row.number row left right by_number told in
      rw (sides.0, sides.1) refl

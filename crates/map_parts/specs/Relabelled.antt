-- Several cycles of a table that get one face.
use Rattle.std.specs.Prelude.{◌≡◌, ℕ, ◌+◌, Bool, List, [], ◌∷◌, length, if◌then◌else◌}
use Rattle.std.specs.List.{list_any}
use Rattle.cad_rows.specs.declared.names.Face.{Face}
use Rattle.half_table.specs.declared.half.Half.{Half}
use Rattle.half_table.specs.Cycle.{holds}
use Rattle.half_table.specs.Rows.{HalfRows, strings, has, next, prev, origin_of, face, cycle}

-- the half is on the cycle of one of these
abbrev pub on_cycles : HalfRows → List Half → Half → Bool
on_cycles rows halves g = list_any (λ h. holds (cycle rows h) g) halves

-- the halves of these cycles, together
abbrev pub cycles_length : HalfRows → List Half → ℕ
cycles_length rows [] = 0
cycles_length rows (h ∷ halves) = length (cycle rows h) + cycles_length rows halves

-- the cycles of these halves have the face, and nothing else has changed
pub record RelabelsEach (halves : List Half) (to : Face) (old new : HalfRows) : Type 0 where
  pub strings : strings new ≡ strings old
  pub has : (g : Half) → has new g ≡ has old g
  pub next : (g : Half) → next new g ≡ next old g
  pub prev : (g : Half) → prev new g ≡ prev old g
  pub origin : (g : Half) → origin_of new g ≡ origin_of old g
  pub face : (g : Half) → face new g ≡ (if on_cycles old halves g then to else face old g)

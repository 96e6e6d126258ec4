-- Listed entries from inside.
use Rattle.std.specs.Prelude.{◌≡◌}
use Rattle.std.specs.List.{Contains}
use Rattle.cell_grid.specs.declared.entries.Entries.TheInside.{Inside}
use Rattle.cell_grid.specs.declared.entry.Entry.{Entry}
use Rattle.cell_grid.specs.Together.{Listed, AreSound}

abbrev pub listed : Inside → Listed
listed e = record { strings = e.strings.items; points = e.points.items }

-- all are sound, and a point's entry has one position
pub record AreListed (e : Inside) : Type 0 where
  pub strings : AreSound e.strings.items
  pub points : AreSound e.points.items
  pub spots : (p : Entry) → Contains e.points.items p → p.from ≡ p.to

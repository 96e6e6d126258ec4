-- Entries in few bytes: of each coordinate the low 32 bits, and what is above them.
use Rattle.std.specs.Prelude.{ℕ, ℤ, pos, ◌+ℤ◌, ◌*ℤ◌}
use Rattle.geo_exact.specs.Position.{OnTheMap}
use Rattle.cell_grid.specs.declared.entry.Entry.{Entry}
use Rattle.cell_grid.specs.declared.packed.PackedEntry.TheInside.{Inside}

-- a coordinate of its two parts
abbrev pub joined : ℤ → ℕ → ℤ
joined high low = high *ℤ pos 4294967296 +ℤ pos low

-- the entry that is packed
abbrev pub unpacked : Inside → Entry
unpacked p = record {
  number = p.number;
  from = record { x = joined p.from_x_high p.from_x; y = joined p.from_y_high p.from_y };
  to = record { x = joined p.to_x_high p.to_x; y = joined p.to_y_high p.to_y };
}

-- its ends are on the map
pub record IsPacked (p : Inside) : Type 0 where
  pub from : OnTheMap (unpacked p).from
  pub to : OnTheMap (unpacked p).to

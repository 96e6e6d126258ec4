-- What a table ends as, once a `&mut` into it has ended.
use Rattle.std.specs.Prelude.{ℕ}
use Rattle.std.specs.Borrow.{Fml, RattleType, MutBor, Lends}
use Rattle.indexmap.specs.Layout.{set_value_at}
use Rattle.number_table.specs.Rows.{Rows}
use Rattle.number_table.specs.contracts.table.NumberTable.{the_row}

-- the row at the place has the last value written through the borrow
abbrev pub LendsValue : (V : RattleType) → MutBor (Rows V.Denot) → ℕ → MutBor V.Denot → Fml
LendsValue V table place value = Lends (the_row V) V table value (set_value_at table.now place)

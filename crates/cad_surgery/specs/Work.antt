-- The work on a table that an edit may take.
use Rattle.std.specs.Prelude.{◌≡◌, ℕ, ◌+◌, ◌≤◌}
use Rattle.half_table.specs.Count.{ticked}
use Rattle.half_table.specs.Rows.{Table}

-- the count never goes down, and goes up by no more than this
pub record TakesWork (old new : Table) (most : ℕ) : Type 0 where
  pub rises : old.work ≤ new.work
  pub few : new.work ≤ old.work + most

-- as many ticks as this, or fewer
pub record TicksUpTo (most : ℕ) (old new : Table) : Type 0 where
  pub ticks : ℕ
  pub few : ticks ≤ most
  pub counted : new.work ≡ ticked ticks old.work

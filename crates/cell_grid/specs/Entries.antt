-- Entries, each a segment with a number.
use Rattle.std.specs.Prelude.{Bool, ◌&&◌, ◌==◌}
use Rattle.std.specs.Ordering.{int_eq}
use Rattle.cell_grid.specs.declared.entry.Entry.{Entry}

-- the two are the same
abbrev pub is_same_entry : Entry → Entry → Bool
is_same_entry a b = (a.number == b.number) && int_eq a.from.x b.from.x && int_eq a.from.y b.from.y
    && int_eq a.to.x b.to.x && int_eq a.to.y b.to.y

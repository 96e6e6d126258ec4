-- What a table tells of its halves once strings came to it, or would have.
use Rattle.std.specs.Prelude.{◌≡◌, ◌≤◌, ℕ, true, List, if◌then◌else◌}
use Rattle.half_table.specs.declared.half.Half.{Half}
use Rattle.half_table.specs.Count.{ticked}
use Rattle.half_table.specs.Rows.{HalfRows, has, origin_of}
use Rattle.half_paths.specs.Loose.{is_of}

-- it has the halves of these strings, and those that it had
abbrev pub HasBesides : List ℕ → HalfRows → HalfRows → Type 0
HasBesides numbers old new = (h : Half) → has new h ≡ (if is_of numbers h then true else has old h)

-- each half that it had begins where it began
abbrev pub KeepsOrigins : HalfRows → HalfRows → Type 0
KeepsOrigins old new = (h : Half) → has old h ≡ true → origin_of new h ≡ origin_of old h

-- some of so many strings came and went again, with a tick for each both times
abbrev pub CameAndWent : ℕ → ℕ → ℕ → Type 0
CameAndWent many old new = (count : ℕ) × (count ≤ many) × (new ≡ ticked count (ticked count old))

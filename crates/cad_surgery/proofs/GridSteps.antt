-- The steps of an edit beside the grid.
use Rattle.std.proofs.Common.{◌≡◌, ℕ, inl, inr, refl, ap, subst, sym, ◌∙◌, ◌⊎◌, arith}
use Rattle.cad_map.specs.Asked.{GivesInRange}
use Rattle.cad_map.specs.Effects.{after}
use Rattle.cad_map.specs.Map.{Map}
use Rattle.cell_grid.specs.Together.{Listed}
use Rattle.cad_laws.specs.Tried.{IsTried}
use Rattle.cad_surgery.specs.AtRest.{IsAtRest}
use Rattle.edit_records.specs.Exchanged.{IsExchange}
use Rattle.edit_records.proofs.Exchanges.{exchange-back}
use Rattle.edit_records.specs.Gridded.{IsGridOf}
use Rattle.edit_records.specs.GridEdits.{gone_by, come_by}
use Rattle.edit_records.specs.GridLists.{AreEntries, IsBeside}
use Rattle.map_parts.specs.Parts.{Parts, map_of, kept_at}
use Rattle.cad_surgery.specs.Proper.{IsProper}
use Rattle.half_table.specs.Rows.{Table}
use Rattle.cad_surgery.specs.Work.{TakesWork}
use Rattle.edit_records.specs.Record.{edit_of, Holds, IsMadeOf, Belongs}
use Rattle.edit_records.specs.declared.record.SmallRecord.{SmallRecord}
use Rattle.cad_surgery.proofs.Played.{listed}

-- parts that differ in the grid alone
module _ (old new : Parts) (beside : new ≡ record old { grid = new.grid }) where
  pub same-map : map_of new ≡ map_of old
  same-map = ap map_of beside

  pub same-proper : IsProper (map_of old) old.table.rows (kept_at old) → IsProper (map_of new) new.table.rows (kept_at new)
  same-proper proper = subst (λ (d : Parts). IsProper (map_of d) d.table.rows (kept_at d)) (sym beside) proper

  pub same-table : new.table ≡ old.table
  same-table = ap (λ (d : Parts). d.table) beside

  pub rests : IsProper (map_of old) old.table.rows (kept_at old) → (m : Map) → map_of old ≡ m → IsGridOf new.grid m → IsAtRest new
  rests proper m is grid = record {
    proper = same-proper proper;
    grid = subst (IsGridOf new.grid) (sym (same-map ∙ is)) grid;
  }

-- the work on a table beside steps that leave it
pub idle : (old new : Parts) (most : ℕ) → new.table ≡ old.table → TakesWork old.table new.table most
idle old new most is = subst (λ (t : Table). TakesWork old.table t most) (sym is) (record { rises = omega arith; few = omega arith })

pub worked : (a b c d : Parts) {most more : ℕ} → b ≡ record a { grid = b.grid } → d ≡ record c { grid = d.grid } → most ≡ more → TakesWork b.table c.table most → TakesWork a.table d.table more
worked a b c d {most} {more} first last is takes =
    subst (λ (t : Table). TakesWork t d.table more) (same-table a b first)
    (subst (λ (t : Table). TakesWork b.table t more) (sym (same-table c d last)) (subst (λ (n : ℕ). TakesWork b.table c.table n) is takes))

-- a record that leads to a map is of its edit as it is made
pub made-by : (r : SmallRecord) (before after : Map) → Belongs r before after → IsMadeOf r before
made-by r before after belongs = record { valid = belongs.valid; allowed = belongs.leads.allowed; holds = belongs.holds }

-- what a record's edit is tried on, and what it exchanges
pub tried-of : (r : SmallRecord) (b : Map) → IsMadeOf r b → GivesInRange (edit_of r) → IsTried b (edit_of r)
tried-of r b made given = record { valid = made.valid; given = given; allowed = made.allowed }

pub exchange-of : (m b : Map) (r : SmallRecord) (gone come : Listed) (made : IsMadeOf r b) (given : GivesInRange (edit_of r)) → ((m ≡ b) ⊎ (m ≡ after b (edit_of r)))
    → ((b : Map) → IsBeside m b (edit_of r) → Holds r b → AreEntries (gone_by b (edit_of r)) gone)
    → ((b : Map) → IsBeside m b (edit_of r) → Holds r b → AreEntries (come_by b (edit_of r)) come) → IsExchange b gone come (after b (edit_of r))
exchange-of m b r gone come made given is goes comes =
    let tried = tried-of r b made given in
    let beside : IsBeside m b (edit_of r) = record { tried = tried; is = is } in
    listed b (edit_of r) tried gone come (goes b beside made.holds) (comes b beside made.holds)

-- beside the map before it, on the way on
pub exchange-on : {m n : Map} {r : SmallRecord} {gone come : Listed} → Belongs r m n → GivesInRange (edit_of r)
    → ((b : Map) → IsBeside m b (edit_of r) → Holds r b → AreEntries (gone_by b (edit_of r)) gone)
    → ((b : Map) → IsBeside m b (edit_of r) → Holds r b → AreEntries (come_by b (edit_of r)) come) → IsExchange m gone come (after m (edit_of r))
exchange-on {m} {n} {r} {gone} {come} belongs given = exchange-of m m r gone come (made-by r m n belongs) given (inl refl)

-- and beside the map after it, on the way back
pub exchange-off : {m n : Map} {r : SmallRecord} {gone come : Listed} → Belongs r m n → GivesInRange (edit_of r)
    → ((b : Map) → IsBeside n b (edit_of r) → Holds r b → AreEntries (gone_by b (edit_of r)) gone)
    → ((b : Map) → IsBeside n b (edit_of r) → Holds r b → AreEntries (come_by b (edit_of r)) come) → IsExchange n come gone m
exchange-off {m} {n} {r} {gone} {come} belongs given goes comes =
    subst (λ (q : Map). IsExchange q come gone m) (sym belongs.leads.is)
    (exchange-back m (after m (edit_of r)) gone come (exchange-of n m r gone come (made-by r m n belongs) given (inr belongs.leads.is) goes comes))

-- a table that stands took none
pub stood : {s t : Table} {most : ℕ} → t ≡ s → TakesWork s t most
stood {s} {t} {most} is = subst (λ (u : Table). TakesWork s u most) (sym is) (record { rises = omega arith; few = omega arith })

-- Ticks one after another, and what an edit may take.
use Rattle.std.proofs.Common.{◌≡◌, ◌≤◌, ◌+◌, ◌*◌, ℕ, sym, ap, ◌∙◌, arith}
use Rattle.cad_rows.specs.declared.edits.Edit.{Edit}
use Rattle.cad_map.specs.Costs.{work_bound}
use Rattle.cad_map.specs.Effects.{after}
use Rattle.cad_map.specs.Map.{Map}
use Rattle.cad_laws.specs.Counts.{rows_by, sides_by}
use Rattle.cad_laws.specs.Tried.{IsTried}
use Rattle.cad_laws.proofs.CallerLemmas.{counted, sides-counted}
use Rattle.half_paths.proofs.Along.{ticked-add}
use Rattle.half_table.specs.Count.{greatest, ticked}
use Rattle.half_table.specs.Rows.{Table}
use Rattle.half_table.proofs.Counted.{ticked-at-most, ticked-no-less}
use Rattle.cad_surgery.specs.Work.{TakesWork, TicksUpTo}

-- so many ticks, and then so many more
pub ticks-then : (s t u : Table) (a b : ℕ) → TicksUpTo a s t → TicksUpTo b t u → TicksUpTo (a + b) s u
ticks-then s t u a b one two = record {
  ticks = one.ticks + two.ticks;
  few = let x = one.few in let y = two.few in omega (arith, x, y);
  counted =
      two.counted ∙ ap (ticked two.ticks) one.counted
      ∙ sym (ticked-add one.ticks two.ticks s.work);
}

pub ticks-just : (s t : Table) (n : ℕ) → t.work ≡ ticked n s.work → TicksUpTo n s t
ticks-just s t n is = record { ticks = n; few = omega arith; counted = is }

pub ticks-fewer : (s t : Table) (a b : ℕ) → a ≤ b → TicksUpTo a s t → TicksUpTo b s t
ticks-fewer s t a b low it = record {
  ticks = it.ticks;
  few = let x = it.few in omega (arith, x, low);
  counted = it.counted;
}

-- they are the work that is taken
pub ticks-work : (s t : Table) (a b : ℕ) → s.work ≤ greatest → a ≤ b → TicksUpTo a s t → TakesWork s t b
ticks-work s t a b within low it =
    let up = (ticked-no-less it.ticks s.work within).0 in
    let most = ticked-at-most it.ticks s.work in
    let is = it.counted in
    let few = it.few in
    record { rises = omega (arith, up, is); few = omega (arith, most, is, few, low) }

-- what an edit that is tried may take, at the least
pub work-allowed : (m : Map) (e : Edit) → IsTried m e
    → 16 * (rows_by m e + 1) + 4 * sides_by m e ≤ work_bound m (after m e)
work-allowed m e t =
    let rows = (counted m e t.valid t.given t.allowed).rows_are in
    let sides = sides-counted m e t.valid t.given t.allowed in
    omega (arith, rows, sides)

-- What an edit is tried on, and what a trial of it gives.
use Rattle.std.specs.Prelude.{◌≡◌, Result, IfOk, IfErr, OnOk, OnErr}
use Rattle.cad_rows.specs.declared.edits.Edit.{Edit}
use Rattle.cad_rows.specs.declared.refusals.Refusal.{Refusal}
use Rattle.cad_map.specs.Costs.{work_bound}
use Rattle.cad_map.specs.Effects.{after}
use Rattle.cad_map.specs.Map.{Map}
use Rattle.cad_map.specs.Outcome.{MayRefuse}
use Rattle.cad_map.specs.Touched.{IsTouched}
use Rattle.cad_map.specs.Valid.{IsValid}
use Rattle.cad_laws.specs.Tried.{IsTried}
use Rattle.cad_near.specs.KeptAreas.{KeptAreas, HoldsAreas}
use Rattle.cad_near.specs.Near.{HoldsMap, touched_of}
use Rattle.cad_near.specs.declared.Touched.{Touched}
use Rattle.edit_records.specs.Record.{edit_of, Holds}
use Rattle.edit_records.specs.declared.record.SmallRecord.{SmallRecord}
use Rattle.map_parts.specs.Parts.{Parts, map_of, kept_at}
use Rattle.cad_surgery.specs.Proper.{IsProper}
use Rattle.cad_surgery.specs.Work.{TakesWork}

-- These parts are ready for a trial of the edit, which touches what is listed.
pub record IsReadyFor (e : Edit) (d : Parts) (kept : KeptAreas) (listed : Touched)
    : Type 0 where
  -- nothing speaks against the edit at once
  pub tried : IsTried (map_of d) e
  -- the grid holds the strings and points of the map after it
  pub held : HoldsMap d.grid (after (map_of d) e)
  -- the areas that are kept are those of the map after it
  pub areas : HoldsAreas kept (after (map_of d) e)
  -- what isn't listed stands as it stood
  pub touched : IsTouched (map_of d) (after (map_of d) e) (touched_of listed)
  -- the table is the map's
  pub proper : IsProper (map_of d) d.table.rows (kept_at d)

-- The edit is made, or there is an error and the map stays.
pub record IsMade {A E : Type 0} (e : Edit) (old new : Parts) (result : Result A E) : Type 0 where
  -- the map is the one after the edit
  pub becomes : OnOk result (map_of new ≡ after (map_of old) e)
  -- an error leaves the map
  pub err : OnErr result (map_of new ≡ map_of old)
  -- the grid stays
  pub grid : new.grid ≡ old.grid
  -- the table is the map's again
  pub proper : IsProper (map_of new) new.table.rows (kept_at new)
  -- the work on it stays within the bound of the edit
  pub work : TakesWork old.table new.table (work_bound (map_of old) (after (map_of old) e))

-- The edit is made and the map keeps the rules, or it is refused and the map stays.
pub record IsPlayed {A : Type 0} (e : Edit) (old new : Parts) (result : Result A Refusal)
    : Type 0 where
  pub made : IsMade e old new result
  -- the map keeps the rules
  pub valid : OnOk result (IsValid (map_of new))
  -- a refusal has a reason
  pub refused : IfErr result (MayRefuse (map_of old) e)

-- It is played, and its record is given.
pub record IsTrialOf (e : Edit) (old new : Parts) (result : Result SmallRecord Refusal)
    : Type 0 where
  pub played : IsPlayed e old new result
  -- the record is of the edit
  pub edit : IfOk result (λ r. edit_of r ≡ e)
  -- and of the map before it
  pub holds : IfOk result (λ r. Holds r (map_of old))

-- There is such a map, before or after this one, and the table is this one's.
pub record StandsBeside (Which : Map → Type 0) (d : Parts) : Type 0 where
  pub made : (m : Map) × Which m
  pub proper : IsProper (map_of d) d.table.rows (kept_at d)

-- An edit is taken back, to whichever map it was made on, or there is no memory and the map stays.
pub record IsTakenBack {A E : Type 0} (Was : Map → Type 0) (old new : Parts) (result : Result A E)
    : Type 0 where
  -- the map is the one before the edit
  pub before : OnOk result ((m : Map) → Was m → map_of new ≡ m)
  -- an error leaves the map
  pub err : OnErr result (map_of new ≡ map_of old)
  -- the grid stays
  pub grid : new.grid ≡ old.grid
  -- the table is the map's again
  pub proper : IsProper (map_of new) new.table.rows (kept_at new)
  -- the work on it stays within the bound of that edit
  pub work : (m : Map) → Was m → TakesWork old.table new.table (work_bound m (map_of old))

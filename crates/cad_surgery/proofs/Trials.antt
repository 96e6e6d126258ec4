-- Edits in place, one kind after another.
use Rattle.std.proofs.Common.{◌≡◌, ◌∙◌, ℕ, ℤ, refl, sym, subst, true≢false, to_z, of_z, w64}
use Rattle.std.specs.Prelude.{IsTrue, List, Result, Ok, Err, IsErr, IsErrAnd}
use Rattle.std.specs.Global.{Vec}
use Rattle.geo_exact.specs.Position.{Position}
use Rattle.cad_rows.specs.declared.edits.Edit.{Edit}
use Rattle.cad_rows.specs.declared.edits.Edit.TheVariants.{AddSource, AddPoint, DropPoint, Split, Join, Divide, Merge, Move, Attach, Detach, Rename, Enclose}
use Rattle.cad_rows.specs.declared.names.Face.{Face}
use Rattle.cad_rows.specs.declared.refusals.Refusal.{Refusal}
use Rattle.cad_rows.specs.declared.rows.ParcelRow.{ParcelRow}
use Rattle.cad_rows.specs.declared.rows.PointRow.{PointRow}
use Rattle.cad_rows.specs.declared.rows.StringRow.{StringRow}
use Rattle.cad_map.specs.Costs.{work_bound}
use Rattle.cad_map.specs.Effects.{after}
use Rattle.cad_map.specs.Map.{Map}
use Rattle.cad_map.specs.Outcome.{MayRefuse}
use Rattle.cad_near.specs.KeptAreas.{KeptAreas}
use Rattle.cad_near.specs.declared.Touched.{Touched}
use Rattle.map_parts.specs.Parts.{Parts, map_of, kept_at}
use Rattle.cad_surgery.specs.Proper.{IsProper}
use Rattle.cad_surgery.specs.Trials.{IsReadyFor, IsMade, IsPlayed, IsTrialOf, IsTakenBack}
use Rattle.cad_surgery.specs.Work.{TakesWork}
use Rattle.cad_surgery.proofs.GridSteps.{idle}
use Rattle.half_table.specs.declared.half.Half.{Half}
use Rattle.cad_laws.specs.Tried.{IsTried}
use Rattle.edit_records.specs.Record.{edit_of}
use Rattle.cad_surgery.specs.RowEdits.{is_of_rows}
use Rattle.edit_records.specs.declared.record.ChainString.{ChainString}
use Rattle.edit_records.specs.declared.record.SmallRecord.{SmallRecord}
use Rattle.edit_records.specs.declared.record.SmallRecord.TheVariants as record_of
use Rattle.edit_records.proofs.GridEdits.{same_numbers, split-on}

-- a split with its coordinates as a position
pub same-split : (m : Map) (e : Edit) (s p : ℕ) (x y : ℤ) (first second : ℕ) (at : Position) → IsTried m e → e ≡ Split s p x y first second
    → at ≡ record { x = to_z w64 (of_z w64 x); y = to_z w64 (of_z w64 y) } → Split s p at.x at.y first second ≡ e
same-split m e s p x y first second at tried is placed =
    let numbers = placed ∙ same_numbers x y (split-on m s p x y first second (subst (IsTried m) is tried)) in
    (λ i. Split s p (numbers i).x (numbers i).y first second) ∙ sym is

-- the edits that are left are of rows alone
pub rows-left : (e : Edit) → ((s p : ℕ) (x y : ℤ) (first second : ℕ) → e ≡ Split s p x y first second → ⊥)
    → ((p s : ℕ) → e ≡ Join p s → ⊥)
    → ((face : Face) (points strings : List ℕ) (parcel : ℕ) (label : List ℕ) (source : ℕ) → e ≡ Enclose face points strings parcel label source → ⊥)
    → ((face : Face) (chain strings : List ℕ) (parcel : ℕ) (label : List ℕ) (source : ℕ) → e ≡ Divide face chain strings parcel label source → ⊥)
    → ((kept ended : Face) → e ≡ Merge kept ended → ⊥)
    → IsTrue (is_of_rows e)
rows-left (AddSource s text) split join enclose divide merge = refl
rows-left (AddPoint p x y) split join enclose divide merge = refl
rows-left (DropPoint p) split join enclose divide merge = refl
rows-left (Split s p x y first second) split join enclose divide merge = absurd (split s p x y first second refl)
rows-left (Join p s) split join enclose divide merge = absurd (join p s refl)
rows-left (Divide face chain strings parcel label source) split join enclose divide merge = absurd (divide face chain strings parcel label source refl)
rows-left (Merge kept ended) split join enclose divide merge = absurd (merge kept ended refl)
rows-left (Move p x y) split join enclose divide merge = refl
rows-left (Attach i s) split join enclose divide merge = refl
rows-left (Detach i s) split join enclose divide merge = refl
rows-left (Rename p label) split join enclose divide merge = refl
rows-left (Enclose face points strings parcel label source) split join enclose divide merge = absurd (enclose face points strings parcel label source refl)

-- so it is with a record's edit
pub rows-of : (r : SmallRecord)
    → ((row : StringRow) (place p : ℕ) (at : Position) (first second : ℕ) → r ≡ record_of.Split row place p at first second → ⊥)
    → ((row : PointRow) (place : ℕ) (first : StringRow) (i : ℕ) (second : StringRow) (j string : ℕ) → r ≡ record_of.Join row place first i second j string → ⊥)
    → ((face : Face) (points strings : List ℕ) (parcel : ℕ) (label : List ℕ) (source : ℕ) (moved : Vec Half)
    → r ≡ record_of.Enclose face points strings parcel label source moved → ⊥)
    → ((face : Face) (chain strings : List ℕ) (parcel : ℕ) (label : List ℕ) (source : ℕ) (start end : Half) (moved : Vec Half)
    → r ≡ record_of.Divide face chain strings parcel label source start end moved → ⊥)
    → ((kept : Face) (row : ParcelRow) (place : ℕ) (chain : List ℕ) (strings : Vec ChainString) (start end : Half) (moved : Vec Half)
    → r ≡ record_of.MergeAlong kept row place chain strings start end moved → ⊥)
    → ((kept : Face) (row : ParcelRow) (place : ℕ) (points : List ℕ) (strings : Vec ChainString) (moved : Vec Half)
    → r ≡ record_of.MergeIsland kept row place points strings moved → ⊥)
    → IsTrue (is_of_rows (edit_of r))
rows-of (record_of.AddSource row) split join enclose divide along island = refl
rows-of (record_of.AddPoint p at) split join enclose divide along island = refl
rows-of (record_of.DropPoint row i) split join enclose divide along island = refl
rows-of (record_of.Split row i p at first second) split join enclose divide along island = absurd (split row i p at first second refl)
rows-of (record_of.Join row i first j second k string) split join enclose divide along island = absurd (join row i first j second k string refl)
rows-of (record_of.Divide face chain strings parcel label source start end moved) split join enclose divide along island =
    absurd (divide face chain strings parcel label source start end moved refl)
rows-of (record_of.MergeAlong kept row i chain strings start end moved) split join enclose divide along island = absurd (along kept row i chain strings start end moved refl)
rows-of (record_of.MergeIsland kept row i points strings moved) split join enclose divide along island = absurd (island kept row i points strings moved refl)
rows-of (record_of.Move p from to) split join enclose divide along island = refl
rows-of (record_of.Attach i source) split join enclose divide along island = refl
rows-of (record_of.Detach i source j) split join enclose divide along island = refl
rows-of (record_of.Rename p from to) split join enclose divide along island = refl
rows-of (record_of.Enclose face points strings parcel label source moved) split join enclose divide along island = absurd (enclose face points strings parcel label source moved refl)

-- ---- Made, or left as it was

module _ {e : Edit} {old new : Parts} (grid : new.grid ≡ old.grid) (proper : IsProper (map_of new) new.table.rows (kept_at new))
    (work : TakesWork old.table new.table (work_bound (map_of old) (after (map_of old) e))) {A E : Type 0} where
  pub is-made : {a : A} → map_of new ≡ after (map_of old) e → IsMade {A = A} {E = E} e old new (Ok a)
  is-made map_is = record { becomes = map_is; err = tt; grid = grid; proper = proper; work = work }

  pub is-left : {f : E} → map_of new ≡ map_of old → IsMade {A = A} {E = E} e old new (Err f)
  is-left map_is = record { becomes = tt; err = map_is; grid = grid; proper = proper; work = work }

-- by a call whose error is passed on
pub is-left-too : {A E : Type 0} {e : Edit} {old new : Parts} {r : Result A E} → IsErr r → new.grid ≡ old.grid → IsProper (map_of new) new.table.rows (kept_at new)
    → TakesWork old.table new.table (work_bound (map_of old) (after (map_of old) e)) → map_of new ≡ map_of old → IsMade e old new r
is-left-too {r = Ok b} is grid proper work map_is = absurd (true≢false (sym is))
is-left-too {r = Err f} is grid proper work map_is = is-left grid proper work map_is

-- where it was idle
pub is-idle : {A E : Type 0} {e : Edit} {d : Parts} {r : Result A E} → IsErr r → IsProper (map_of d) d.table.rows (kept_at d) → IsMade e d d r
is-idle {r = Ok a} is proper = absurd (true≢false (sym is))
is-idle {d} {r = Err f} is proper = is-left refl proper (idle d d _ refl) refl

-- ---- Trials that are refused

-- before anything was done
pub stays : {kept : KeptAreas} (e : Edit) (d : Parts) (t : Touched) (why : Refusal) → IsReadyFor e d kept t → MayRefuse (map_of d) e why → IsTrialOf e d d (Err why)
stays e d t why ready may = record {
  played = record { made = is-left refl ready.proper (idle d d _ refl) refl; valid = tt; refused = may };
  edit = tt;
  holds = tt;
}

-- the same with something else to give
pub played-with : {A B : Type 0} {e : Edit} {old new : Parts} {a : A} {b : B} → IsPlayed e old new (Ok a) → IsPlayed e old new (Ok b)
played-with played = record {
  made = is-made played.made.grid played.made.proper played.made.work played.made.becomes;
  valid = played.valid;
  refused = tt;
}

-- by a call, whose refusal is passed on
pub passes-on : {A : Type 0} {e : Edit} {old new : Parts} {why : Refusal} (r : Result SmallRecord Refusal) → IsErr r × IsErrAnd r (λ f. f ≡ why)
    → IsPlayed {A = A} e old new (Err why) → IsTrialOf e old new r
passes-on (Ok a) is played = absurd is.1
passes-on {e = e} {old = old} (Err f) is played = record {
  played = record {
    made = is-left played.made.grid played.made.proper played.made.work played.made.err;
    valid = tt;
    refused = subst (MayRefuse (map_of old) e) (sym is.1) played.refused;
  };
  edit = tt;
  holds = tt;
}

-- ---- Edits that aren't taken back

pub stays-made : {A E : Type 0} (Was : Map → Type 0) (old new : Parts) (r : Result A E) → IsErr r → map_of new ≡ map_of old → new.grid ≡ old.grid
    → IsProper (map_of new) new.table.rows (kept_at new) → ((m : Map) → Was m → TakesWork old.table new.table (work_bound m (map_of old)))
    → IsTakenBack Was old new r
stays-made Was old new (Ok a) is map_is grid proper work = absurd (true≢false (sym is))
stays-made Was old new (Err f) is map_is grid proper work = record {
  before = tt;
  err = map_is;
  grid = grid;
  proper = proper;
  work = work;
}

-- before anything was done
pub stays-whole : {A E : Type 0} (Was : Map → Type 0) (d : Parts) (r : Result A E) → IsErr r → IsProper (map_of d) d.table.rows (kept_at d)
    → IsTakenBack Was d d r
stays-whole Was d r is proper = stays-made Was d d r is refl refl proper (λ m was. idle d d _ refl)

-- to a map that is as another one is told to be
pub taken-so : {A E : Type 0} {Was Is : Map → Type 0} {old new : Parts} {r : Result A E} → ((m : Map) → Was m → Is m) → IsTakenBack Is old new r → IsTakenBack Was old new r
taken-so {r = Ok a} so taken = record {
  before = λ m was. taken.before m (so m was);
  err = tt;
  grid = taken.grid;
  proper = taken.proper;
  work = λ m was. taken.work m (so m was);
}
taken-so {r = Err f} so taken = record {
  before = tt;
  err = taken.err;
  grid = taken.grid;
  proper = taken.proper;
  work = λ m was. taken.work m (so m was);
}

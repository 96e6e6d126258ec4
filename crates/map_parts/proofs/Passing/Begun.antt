-- One string, or two, added loose before the first change of an edit.
use Rattle.std.proofs.Common.{◌≡◌, ◌≢◌, refl, ap, ◌∙◌, [], ◌∷◌, Bool, true, false, ◌||◌, nat_eq}
use Rattle.std.specs.List.{IsDistinct}
use Rattle.std.proofs.lemmas.Bool.{false_from_ne_true, eqb-true}
use Rattle.std.proofs.lemmas.Cmp.{nat_eq_equiv}
use Rattle.cad_rows.specs.declared.rows.StringRow.{StringRow}
use Rattle.cad_map.specs.Map.{Map}
use Rattle.half_table.specs.declared.half.Half.{Half}
use Rattle.half_table.specs.Half.{half_of}
use Rattle.half_table.specs.Rows.{HalfRows, IsLinked, next, has_halves}
use Rattle.half_table.specs.Surgery.{AddsLoose}
use Rattle.half_paths.proofs.Added.{adds-none, adds-more, new-kept, numbers-first}
use Rattle.half_paths.specs.Loose.{AreNew, AddsStrings, AreLoose, numbers_of}
use Rattle.key_lists.specs.Held.{Held, IsSame}
use Rattle.cad_map.specs.declared.map_rows.MapRows.{MapRows}
use Rattle.map_parts.specs.declared.stars.Spoke.{Spoke}
use Rattle.map_parts.specs.Parts.{HasHalves}
use Rattle.cad_map.specs.MapRows.{map_in}
use Rattle.map_parts.specs.Splitting.{FitMap}
use Rattle.map_parts.proofs.HiddenStrings.{added-halves, added-loose}
use Rattle.map_parts.proofs.RoomMade.{added-fit, fit-grown, fit-seen}

-- ---- One string

module _ (s : StringRow) (table new : HalfRows) where
  pub adds-one : AddsLoose s.number s.from s.to table new → AddsStrings (s ∷ []) table new
  adds-one one = adds-more s [] table new new tt one (adds-none new)

  pub loose-one : AddsStrings (s ∷ []) table new → (f : Bool) → AreLoose (next new) (half_of s.number f ∷ [])
  loose-one adds f =
      (added-loose (s ∷ []) table new adds (half_of s.number f) (ap (λ (b : Bool). b || false) (nat_eq_equiv.refl s.number)), tt)

-- ---- Two strings, one after the other

module _ (s t : StringRow) (differ : s.number ≢ t.number) (table : HalfRows) where
  two-differ : IsDistinct nat_eq (numbers_of (s ∷ t ∷ []))
  unfolding IsDistinct
  two-differ =
      ((false_from_ne_true (nat_eq s.number t.number) (λ h. differ (eqb-true s.number t.number h)), tt), (tt, tt))

  pub second-free : (mid : HalfRows) → AreNew table (s ∷ t ∷ []) → AddsLoose s.number s.from s.to table mid
      → has_halves mid t.number ≡ false
  second-free mid fresh one =
      (new-kept s (t ∷ []) table mid (numbers-first s (t ∷ []) two-differ) one fresh.1).0

  pub adds-two : (mid new : HalfRows) → AddsLoose s.number s.from s.to table mid
      → AddsLoose t.number t.from t.to mid new → AddsStrings (s ∷ t ∷ []) table new
  adds-two mid new one other =
      adds-more s (t ∷ []) table mid new (numbers-first s (t ∷ []) two-differ) one (adds-one t mid new other)

-- both are loose, each seen from either end
pub loose-two : (s t : StringRow) (table new : HalfRows) → AddsStrings (s ∷ t ∷ []) table new
    → (f g : Bool) → AreLoose (next new) (half_of s.number f ∷ half_of t.number g ∷ [])
loose-two s t table new adds f g = (
  added-loose (s ∷ t ∷ []) table new adds (half_of s.number f)
      (ap (λ (b : Bool). b || (nat_eq s.number t.number || false)) (nat_eq_equiv.refl s.number)),
  (
    added-loose (s ∷ t ∷ []) table new adds (half_of t.number g)
        (ap (λ (b : Bool). nat_eq t.number s.number || (b || false)) (nat_eq_equiv.refl t.number) ∙ either (nat_eq t.number s.number)),
    tt,
  ),
)
  where
    either : (b : Bool) → (b || true) ≡ true
    either true = refl
    either false = refl

-- ---- At hand

-- The parts are those of the map, and the string is in the table, loose.
pub record IsStringReady (m : Map) (row : StringRow) (rows : MapRows) (table : HalfRows) (held : Held Half) (stars : Held Spoke) : Type 0 where
  pub fits : FitMap m rows table held stars
  pub there : HasHalves table row
  pub loose : AreLoose (next table) (half_of row.number true ∷ [])

pub string-ready : {m : Map} {row : StringRow} {rows more : MapRows} {table new : HalfRows} {held : Held Half} {stars : Held Spoke} → FitMap m rows table held stars → AreNew table (row ∷ [])
    → map_in more ≡ map_in rows → AddsStrings (row ∷ []) table new → IsLinked new → IsStringReady m row more new held stars
string-ready {m} {row} {table = table} {new = new} fits fresh same adds linked = record {
  fits = added-fit m (fit-grown m fits same (λ n. refl)) (row ∷ []) new fresh adds linked;
  there = (added-halves (row ∷ []) table new adds).0;
  loose = loose-one row table new adds true;
}

-- So are the two strings of a path through a point, each seen from either end.
pub record IsPathReady (m : Map) (first second : StringRow) (f g : Bool) (rows : MapRows) (table : HalfRows) (held : Held Half) (stars : Held Spoke) : Type 0 where
  pub fits : FitMap m rows table held stars
  pub first_there : HasHalves table first
  pub second_there : HasHalves table second
  pub loose : AreLoose (next table) (half_of first.number f ∷ half_of second.number g ∷ [])

pub path-ready : {m : Map} {first second : StringRow} (f g : Bool) {rows more : MapRows} {table new : HalfRows} {held : Held Half} {stars wide : Held Spoke} → FitMap m rows table held stars
    → AreNew table (first ∷ second ∷ []) → map_in more ≡ map_in rows → IsSame stars wide → AddsStrings (first ∷ second ∷ []) table new → IsLinked new
    → IsPathReady m first second f g more new held wide
path-ready {m} {first} {second} f g {table = table} {new = new} fits fresh same alike adds linked = record {
  fits = added-fit m (fit-seen m fits (record { same_rows = same; same_kept = λ n. refl; same_stars = alike })) (first ∷ second ∷ []) new fresh adds linked;
  first_there = (added-halves (first ∷ second ∷ []) table new adds).0;
  second_there = (added-halves (first ∷ second ∷ []) table new adds).1.0;
  loose = loose-two first second table new adds f g;
}

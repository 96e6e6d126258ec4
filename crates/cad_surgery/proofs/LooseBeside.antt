-- Loose strings beside a map's own in a table that goes with it: no look at the map sees them, and
-- when they are out the table is at rest.
use Rattle.std.proofs.Common.{◌≡◌, ◌∙◌, refl, sym, ap, subst, List, Bool, true, false, ◌||◌, if◌then◌else◌, true≢false}
use Rattle.std.specs.Prelude.{nat_eq}
use Rattle.std.proofs.lemmas.Cmp.{nat_eq_equiv}
use Rattle.cad_map.specs.Map.{Map, has_string}
use Rattle.cad_map.specs.Rings.{HasWholeRings}
use Rattle.cad_map.proofs.CallerLemmas.{All-from_each, Contains-map, list_any-Contains}
use Rattle.cell_grid.specs.Grid.{Grid}
use Rattle.half_table.specs.declared.half.Half.{Half}
use Rattle.half_table.specs.Rows.{HalfRows, Table, has, next}
use Rattle.half_paths.specs.Path.{AreIn, AreDifferent, strings_of}
use Rattle.half_paths.specs.Loose.{is_of, AreLoose, DropsStrings}
use Rattle.key_lists.specs.Held.{Held}
use Rattle.cad_laws.specs.Local.{IsShown}
use Rattle.cad_map.specs.declared.map_rows.MapRows.{MapRows}
use Rattle.map_parts.specs.declared.stars.Spoke.{Spoke}
use Rattle.map_parts.specs.Parts.{Parts, FitTogether, map_of, kept_at}
use Rattle.map_parts.specs.Paths.{HasStringsMore}
use Rattle.cad_surgery.specs.Proper.{IsProper}
use Rattle.cad_surgery.proofs.DraftFits.{settled}
use Rattle.cad_surgery.proofs.FitParts.{parts, GoWith, stand-for, still-whole}

-- what is asked of loose strings that are to go from the table
pub record AreHidden (path : List Half) (d : Parts) : Type 0 where
  pub whole : HasWholeRings (map_of d)
  pub within : AreIn d.table.rows path
  pub different : AreDifferent path
  pub loose : AreLoose (next d.table.rows) path
  pub hidden : (g : Half) → IsShown (map_of d) g → is_of (strings_of path) g ≡ false

-- what comes and goes again leaves what there was
pub come-and-gone : (b has : Bool) → (has ≡ true → b ≡ false) → (if b then false else (if b then true else has)) ≡ has
come-and-gone true true none = absurd (true≢false (none refl))
come-and-gone true false none = refl
come-and-gone false has none = refl

pub either : (b has : Bool) → (if b then true else has) ≡ (b || has)
either true has = refl
either false has = refl

-- a table with a map's strings alone has those that it has more than another one beside that one's
pub more-beside : {m now : Map} {path : List Half} → HasStringsMore m now path → (rows : HalfRows) → ((g : Half) → has rows g ≡ has_string now g.string)
    → (g : Half) → has rows g ≡ (if is_of (strings_of path) g then true else has_string m g.string)
more-beside {m} {path = path} more rows own g = own g ∙ more.all g ∙ sym (either (is_of (strings_of path) g) (has_string m g.string))

module _ (path : List Half) {m : Map} {rows : MapRows} {table : Table} {held : Held Half} {stars : Held Spoke} (it : GoWith m rows table held stars)
    (halves : (g : Half) → has table.rows g ≡ (if is_of (strings_of path) g then true else has_string m g.string)) where
  -- the table has them
  pub hidden-in : AreIn table.rows path
  hidden-in = All-from_each (λ h. has table.rows h ≡ true) path (λ h among.
      halves h ∙ ap (λ (b : Bool). if b then true else has_string m h.string)
      (list_any-Contains (nat_eq h.string) (strings_of path) h.string (Contains-map (λ (h : Half). h.string) path h among) (nat_eq_equiv.refl h.string)))

  module _ (new : (g : Half) → IsShown m g → is_of (strings_of path) g ≡ false) (grid : Grid) where
    -- no half of the map is theirs
    pub hidden-off : (g : Half) → IsShown (map_of (parts rows table held stars grid)) g → is_of (strings_of path) g ≡ false
    hidden-off g shown = new g (subst (λ (q : Map). IsShown q g) (stand-for grid it) shown)

    pub hidden-now : AreDifferent path → AreLoose (next table.rows) path → AreHidden path (parts rows table held stars grid)
    hidden-now different loose = record { whole = still-whole grid it; within = hidden-in; different = different; loose = loose; hidden = hidden-off }

    pub hidden-gone : (p : Parts) → FitTogether p → map_of p ≡ map_of (parts rows table held stars grid) → DropsStrings path table.rows p.table.rows
        → IsProper (map_of p) p.table.rows (kept_at p)
    hidden-gone p fit same drops =
        settled p m fit (same ∙ stand-for grid it) it.whole (λ g.
        drops.has g ∙ ap (λ (b : Bool). if is_of (strings_of path) g then false else b) (halves g)
        ∙ come-and-gone (is_of (strings_of path) g) (has_string m g.string) (new g))

-- what is asked of strings that are to go, beside that the table has them, loose
pub record AreUnseen (path : List Half) (d : Parts) : Type 0 where
  pub whole : HasWholeRings (map_of d)
  pub different : AreDifferent path
  pub hidden : (g : Half) → IsShown (map_of d) g → is_of (strings_of path) g ≡ false

-- they are no strings of the map that the parts stand for
pub no-strings : (grid : Grid) {m : Map} {rows : MapRows} {table : Table} {held : Held Half} {stars : Held Spoke} → GoWith m rows table held stars → {path own : List Half} → path ≡ own
    → AreDifferent own → ((g : Half) → IsShown m g → is_of (strings_of own) g ≡ false) → AreUnseen path (parts rows table held stars grid)
no-strings grid {m} {rows} {table} {held} {stars} it {own = own} is different hidden =
    subst (λ (l : List Half). AreUnseen l (parts rows table held stars grid)) (sym is) (record {
      whole = still-whole grid it;
      different = different;
      hidden = λ g shown. hidden g (subst (λ (q : Map). IsShown q g) (stand-for grid it) shown);
    })

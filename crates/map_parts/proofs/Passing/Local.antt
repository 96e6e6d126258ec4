-- A table in which other halves follow than before, half by half.
use Rattle.std.proofs.Common.{◌≡◌, ◌≢◌, ℕ, refl, sym, ap, subst, ◌∙◌, Bool, true, false}
use Rattle.std.specs.List.{AllByRecursion, Contains}
use Rattle.cad_rows.specs.declared.rows.StringRow.{StringRow}
use Rattle.cad_rings.specs.Cycle.{Side, opposite}
use Rattle.cad_map.specs.Map.{Map, side_of, all_sides}
use Rattle.cad_map.specs.Rings.{HasWholeRings}
use Rattle.cad_map.specs.Views.{ComesAfter}
use Rattle.cad_map.proofs.CallerLemmas.{All-at_each}
use Rattle.cad_laws.proofs.CallerLemmas.{apart-halves, string-sides}
use Rattle.half_table.specs.declared.half.Half.{Half}
use Rattle.half_table.specs.Half.{twin, half_of, forward_of, backward_of}
use Rattle.half_table.specs.Rows.{HalfRows, IsLinked, has, next, origin_of}
use Rattle.half_table.specs.Surgery.{KeepsHalves}
use Rattle.half_table.proofs.Halves.{twin-twin}
use Rattle.cad_laws.specs.Local.{IsShown, IsLocal, side_by}
use Rattle.map_parts.specs.Parts.{HasHalves}
use Rattle.map_parts.proofs.PartsRings.{found-row}
use Rattle.map_parts.proofs.Passing.OneHand.{no-return}
use Rattle.map_parts.proofs.WholeStrings.{two-ends}

-- the half of a string has a side of the map's rings
pub string-half_side : (m : Map) → HasWholeRings m → (rows : HalfRows) (row : StringRow)
    → Contains m.strings row → HasHalves rows row → (h : Half) → row.number ≡ h.string
    → Contains (all_sides m) (side_by rows h)
string-half_side m whole rows row there e h number = by h.forward refl
  where
    sides : Contains (all_sides m) (side_of row) × Contains (all_sides m) (opposite (side_of row))
    sides = string-sides m whole row there

    by : (t : Bool) → h.forward ≡ t → Contains (all_sides m) (side_by rows h)
    by true is =
        let same : h ≡ forward_of row.number = λ i. half_of (sym number i) (is i) in
        subst (Contains (all_sides m)) (sym (ap (side_by rows) same ∙ (λ i. (e.from i, e.to i)))) sides.0
    by false is =
        let same : h ≡ backward_of row.number = λ i. half_of (sym number i) (is i) in
        subst (Contains (all_sides m)) (sym (ap (side_by rows) same ∙ (λ i. (e.to i, e.from i)))) sides.1

-- the half of a string that is there
pub string-half_in : (rows : HalfRows) (row : StringRow) → HasHalves rows row → (h : Half)
    → row.number ≡ h.string → has rows h ≡ true
string-half_in rows row e h number = by h.forward refl
  where
    by : (t : Bool) → h.forward ≡ t → has rows h ≡ true
    by true is = ap (has rows) (λ i. half_of (sym number i) (is i)) ∙ e.there
    by false is = ap (has rows) (λ i. half_of (sym number i) (is i)) ∙ e.back

-- a half isn't followed by its twin
pub never-twin : (rows : HalfRows) (m : Map) → HasWholeRings m → IsLocal m rows → (h : Half) → IsShown m h → next rows h ≢ twin h
never-twin rows m whole local h shown e =
    no-return m whole (side_by rows h)
    (subst (ComesAfter m (side_by rows h)) (ap (λ (q : Half). origin_of rows (twin q)) e ∙ ap (origin_of rows) (twin-twin h)) (local.corners h shown))

module _ (rows new : HalfRows) (keeps : KeepsHalves rows new) where
  pub same-side : (g : Half) → side_by new g ≡ side_by rows g
  same-side g = λ i. (keeps.origin g i, keeps.origin (twin g) i)

  module _ (m : Map) where
    -- what a half goes on to in the new table is in order
    pub record GoesOn (h : Half) : Type 0 where
      pub inside : IsShown m (next new h)
      pub meets : origin_of new (next new h) ≡ origin_of new (twin h)
      pub corner : ComesAfter m (side_by new h) (origin_of new (twin (next new h)))

    pub goes-on : (h n : Half) → next new h ≡ n → IsShown m n
        → origin_of rows n ≡ origin_of rows (twin h)
        → ComesAfter m (side_by rows h) (origin_of rows (twin n)) → GoesOn h
    goes-on h n on shown at corner =
        let past = ap (λ (q : Half). origin_of new (twin q)) on ∙ keeps.origin (twin n) in
        record {
          inside = subst (IsShown m) (sym on) shown;
          meets = ap (origin_of new) on ∙ keeps.origin n ∙ at ∙ sym (keeps.origin (twin h));
          corner =
              subst (λ (s : Side). ComesAfter m s (origin_of new (twin (next new h))))
              (sym (same-side h)) (subst (λ (w : ℕ). ComesAfter m (side_by rows h) w) (sym past) corner);
        }

    module _ (whole : HasWholeRings m) (linked : IsLinked new)
        (ends : AllByRecursion (HasHalves new) m.strings)
        (each : (h : Half) → IsShown m h → GoesOn h) where
      there : (h : Half) → IsShown m h → has new h ≡ true
      there h shown =
          let row = found-row m.strings h.string shown in
          string-half_in new row.0 (All-at_each (HasHalves new) m.strings row.0 ends row.1) h row.2

      pub local-from : IsLocal m new
      local-from = record {
        linked = linked;
        there = there;
        inside = λ h shown. (each h shown).inside;
        meets = λ h shown. (each h shown).meets;
        corners = λ h shown. (each h shown).corner;
        apart =
            apart-halves m new (two-ends m whole) whole
            (λ s among. let e = All-at_each (HasHalves new) m.strings s ends among in (e.from, e.to));
      }

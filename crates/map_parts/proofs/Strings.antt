-- The halves of a map's strings in a table that is being joined to its rings.
use Rattle.std.proofs.Common.{◌≡◌, [], refl, sym, ◌∙◌, subst, inl, inr, Option, Some, None, nat_eq}
use Rattle.std.specs.Prelude.{IsSome, IfSome}
use Rattle.std.specs.List.{Contains, IsDistinct}
use Rattle.cad_rings.specs.Cycle.{Side}
use Rattle.cad_map.specs.Map.{Map, all_sides}
use Rattle.cad_map.specs.Rings.{HasWholeRings}
use Rattle.cad_map.proofs.CallerLemmas.{All-at_each, All-from_each}
use Rattle.cad_laws.proofs.CallerLemmas.{side-string}
use Rattle.map_parts.proofs.WholeStrings.{two-ends, strings-once}
use Rattle.half_table.specs.declared.half.Half.{Half}
use Rattle.half_table.specs.Half.{forward_of, backward_of}
use Rattle.half_table.specs.Rows.{HalfRows, strings, has, origin_of}
use Rattle.map_parts.specs.declared.stars.Spoke.{Spoke}
use Rattle.key_lists.specs.Held.{Held}
use Rattle.cell_grid.specs.Grid.{empty_grid}
use Rattle.cad_laws.specs.Local.{IsShown, side_by}
use Rattle.map_parts.specs.Parts.{Parts, HasHalves, rows_of}
use Rattle.map_parts.specs.Stars.{half_by_ends}
use Rattle.map_parts.specs.Labels.{IsAlong}
use Rattle.map_parts.specs.Building.{parts_of, HoldsStrings}
use Rattle.map_parts.proofs.PartsRings.{row-there}
use Rattle.map_parts.proofs.ToHalves.{halves-apart}
use Rattle.map_parts.proofs.StarHalves.{by_ends-some, told-by_ends}

-- a map's rows with a table and stars alone
abbrev pub with_stars : Map → HalfRows → Held Spoke → Parts
with_stars m rows held = parts_of m (record { rows = rows; work = 0 }) [] held empty_grid

module _ (m : Map) (whole : HasWholeRings m) (rows : HalfRows) (held : Held Spoke) (st : HoldsStrings m rows held) where
  abbrev d : Parts
  d = with_stars m rows held

  -- the half along a side of the map
  pub side-shown : (s : Side) → Contains (all_sides m) s → (h : Half) × IsShown m h × (side_by rows h ≡ s)
  side-shown s there =
      let found = side-string m whole s there in
      let t = found.string in
      let e = All-at_each (HasHalves rows) m.strings t st.ends found.there in
      elim found.is [
        | inl is ↦ (forward_of t.number, row-there m.strings t found.there, (λ i. (e.from i, e.to i)) ∙ sym is)
        | inr is ↦ (backward_of t.number, row-there m.strings t found.there, (λ i. (e.to i, e.from i)) ∙ sym is)
      ]

  pub sides-apart : (g h : Half) → IsShown m g → IsShown m h → side_by rows g ≡ side_by rows h → g ≡ h
  sides-apart g h one two same = halves-apart d st.ends (two-ends m whole) (strings-once m whole) g h one two same

  pub told-some : (s : Side) → Contains (all_sides m) s → (o : Option Half) → o ≡ half_by_ends held s → IsSome o
  told-some s there (Some h) told = refl
  told-some s there None told =
      let it = side-shown s there in
      absurd (told-by_ends d st.ends (two-ends m whole) st.stars s it.0 it.1 it.2 (sym told))

  -- a half that is told of a side: in the table, and along the side
  pub told-is : (s : Side) (o : Option Half) (h : Half) → o ≡ half_by_ends held s → o ≡ Some h → IsAlong m rows s h
  told-is s o h told is =
      let along = subst (λ (p : Option Half). IfSome p (IsAlong (rows_of d) d.table.rows s)) is (by_ends-some d st.ends (two-ends m whole) st.stars s o told) in
      record { there = along.there; shown = along.shown; side = along.side }

  -- after halves were linked anew
  pub strings-kept : (new : HalfRows) → ((g : Half) → has new g ≡ has rows g) → ((g : Half) → origin_of new g ≡ origin_of rows g) → strings new ≡ strings rows → HoldsStrings m new held
  strings-kept new has_same origin_same same = record {
    distinct = subst (IsDistinct nat_eq) (sym same) st.distinct;
    has = λ h. has_same h ∙ st.has h;
    ends = All-from_each (HasHalves new) m.strings (λ t there.
        let e = All-at_each (HasHalves rows) m.strings t st.ends there in
        record { there = has_same (forward_of t.number) ∙ e.there; back = has_same (backward_of t.number) ∙ e.back; from = origin_same (forward_of t.number) ∙ e.from; to = origin_same (backward_of t.number) ∙ e.to });
    stars = st.stars;
  }

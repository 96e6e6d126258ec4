-- A merger that is taken back from its record, along a chain or round an island: the parts of the map
-- after it, and of the map before.
use Rattle.std.proofs.Common.{◌≡◌, ◌≤◌, ◌+◌, ◌*◌, ℕ, refl, sym, ap, subst, ◌∙◌, List, [], ◌∷◌, map, length, Bool, true, false, true≢false, if◌then◌else◌, arith}
use Rattle.std.specs.Prelude.{IsPermutation, nat_eq}
use Rattle.std.specs.List.{Contains}
use Rattle.std.proofs.lemmas.Cmp.{nat_eq_equiv}
use Rattle.std.proofs.lemmas.List.{length-map}
use Rattle.std.proofs.lemmas.List.Sorted.{length_permutation}
use Rattle.cad_rows.specs.declared.edits.Edit.{Edit}
use Rattle.cad_rows.specs.declared.edits.Edit.TheVariants.{Merge}
use Rattle.cad_rows.specs.declared.names.Face.{Face}
use Rattle.cad_rows.specs.declared.names.Face.TheVariants.{Parcel}
use Rattle.cad_rows.specs.declared.rows.StringRow.{StringRow}
use Rattle.cad_rings.specs.Surgery.{sides_of_chain}
use Rattle.cell_grid.specs.Grid.{Grid}
use Rattle.cad_map.specs.Costs.{work_bound}
use Rattle.cad_map.specs.Effects.{after}
use Rattle.cad_map.specs.Map.{Map, has_string}
use Rattle.cad_map.specs.Rings.{HasWholeRings}
use Rattle.cad_map.proofs.CallerLemmas.{All-from_each, Contains-map, list_any-Contains}
use Rattle.half_table.specs.declared.half.Half.{Half}
use Rattle.half_table.specs.Count.{greatest, ticked}
use Rattle.half_table.specs.Half.{forward_of}
use Rattle.half_table.specs.Rows.{HalfRows, Table, has, has_halves}
use Rattle.half_table.proofs.Strings.{has-string}
use Rattle.half_paths.specs.Path.{strings_of}
use Rattle.half_paths.specs.Loose.{AreNew, is_of, numbers_of}
use Rattle.half_paths.proofs.Along.{ticked-add}
use Rattle.key_lists.specs.Held.{Held}
use Rattle.cad_laws.specs.Counts.{shared_strings, sides_of_face}
use Rattle.cad_laws.specs.Tried.{IsTried}
use Rattle.edit_records.specs.declared.record.ChainString.{ChainString}
use Rattle.edit_records.specs.HeldChains.{rows_along}
use Rattle.cad_surgery.specs.ToldMergers.{halves_of}
use Rattle.cad_surgery.specs.Proper.{IsProper}
use Rattle.cad_surgery.specs.Work.{TakesWork}
use Rattle.map_parts.specs.declared.edits.placed_strings.PlacedString.{PlacedString}
use Rattle.cad_map.specs.declared.map_rows.MapRows.{MapRows}
use Rattle.map_parts.specs.declared.stars.Spoke.{Spoke}
use Rattle.map_parts.specs.Merging.{rows_gone, sides_led}
use Rattle.map_parts.specs.Parts.{Parts, FitTogether, map_of, kept_at}
use Rattle.map_parts.specs.Paths.{HasStringsMore}
use Rattle.map_parts.specs.PlacedStrings.{numbers_placed}
use Rattle.map_parts.specs.Splitting.{FitMap}
use Rattle.map_parts.proofs.MergedRows as rows_of
use Rattle.map_parts.proofs.UnmergingBegun.{placed-numbers}
use Rattle.cad_surgery.proofs.LooseBeside.{either}
use Rattle.cad_surgery.proofs.DraftFits.{draft-fits, draft-all, draft-work}
use Rattle.cad_surgery.proofs.FitParts.{parts, GoWith, at-rest}
use Rattle.cad_surgery.proofs.HeldMergers.{between}
use Rattle.cad_surgery.proofs.WorkTaken.{work-allowed, ticks-just}

-- rows along a chain lead along its sides
pub led-rows : (strings : List ChainString) (chain : List ℕ) → length chain ≡ length strings + 1 → sides_led (halves_of strings) (rows_along strings chain) ≡ sides_of_chain chain
led-rows [] [] many = absurd (omega (arith, many))
led-rows [] (a ∷ []) many = refl
led-rows [] (a ∷ b ∷ chain) many = absurd (omega (arith, many))
led-rows (s ∷ strings) [] many = absurd (omega (arith, many))
led-rows (s ∷ strings) (a ∷ []) many = absurd (omega (arith, many))
led-rows (s ∷ strings) (a ∷ b ∷ chain) many = λ i. between s a b i ∷ led-rows strings (b ∷ chain) (omega (arith, many)) i

-- The parts are at rest, for the map after a merger that was tried, and these rows of strings went,
-- which are the path's.
pub record IsMerged (rows : MapRows) (table : Table) (held : Held Half) (stars : Held Spoke) (grid : Grid) (v : Parts)
    (m : Map) (kept : Face) (number : ℕ) (path : List Half) (gone : List PlacedString) : Type 0 where
  pub view : parts rows table held stars grid ≡ v
  pub fit : FitTogether (parts rows table held stars grid)
  pub rest : IsProper (map_of v) v.table.rows (kept_at v)
  pub tried : IsTried m (Merge kept (Parcel number))
  pub shared : IsPermutation (numbers_of (shared_strings m kept (Parcel number))) (strings_of path)
  pub is : map_of v ≡ after m (Merge kept (Parcel number))
  pub numbers : numbers_of (rows_gone gone) ≡ strings_of path

module _ {rows : MapRows} {table : Table} {held : Held Half} {stars : Held Spoke} {grid : Grid} {v : Parts}
    {m : Map} {kept : Face} {number : ℕ} {path : List Half} {gone : List PlacedString}
    (it : IsMerged rows table held stars grid v m kept number path gone) where
  abbrev edit : Edit
  edit = Merge kept (Parcel number)

  abbrev now : Map
  now = after m edit

  whole_old : HasWholeRings m
  whole_old = rows_of.whole m kept number path it.tried it.shared

  whole_now : HasWholeRings now
  whole_now = rows_of.parts m kept number path it.tried it.shared

  pub fits : FitMap now rows table.rows held stars
  fits =
      subst (λ (q : Map). FitMap q rows table.rows held stars) it.is
      (draft-fits rows table held stars grid v it.view it.fit (subst HasWholeRings (sym it.is) whole_now))

  all : (h : Half) → has table.rows h ≡ has_string now h.string
  all h = draft-all rows table held stars grid v it.view it.rest h ∙ ap (λ (q : Map). has_string q h.string) it.is

  more : HasStringsMore now m path
  more = rows_of.more m kept number path it.tried it.shared

  pub numbers_are : numbers_placed gone ≡ strings_of path
  numbers_are = sym (placed-numbers gone) ∙ it.numbers

  pub new : AreNew table.rows (rows_gone gone)
  new = All-from_each (λ (s : StringRow). has_halves table.rows s.number ≡ false) (rows_gone gone) (λ s among.
      by s (list_any-Contains (nat_eq s.number) (strings_of path) s.number (subst (λ (l : List ℕ). Contains l s.number) it.numbers (Contains-map (λ (s : StringRow). s.number) (rows_gone gone) s among)) (nat_eq_equiv.refl s.number))
      (has_string now s.number) refl)
    where
      by : (s : StringRow) → is_of (strings_of path) (forward_of s.number) ≡ true → (b : Bool) → has_string now s.number ≡ b → has_halves table.rows s.number ≡ false
      by s on false is = sym (has-string table.rows (forward_of s.number)) ∙ all (forward_of s.number) ∙ is
      by s on true is = absurd (true≢false (sym on ∙ more.new (forward_of s.number) is))

  gone-long : length gone ≡ length path
  gone-long =
      sym (length-map gone (λ (g : PlacedString). g.row.number)) ∙ ap length numbers_are
      ∙ length-map path (λ (h : Half). h.string)

  back-work : 16 * (length path + 2) + 4 * sides_of_face (Parcel number) m ≤ work_bound m now
  back-work =
      let w = work-allowed m edit it.tried in
      let a = length_permutation (map (λ (s : StringRow). s.number) (shared_strings m kept (Parcel number))) (strings_of path) it.shared in
      let b = length-map path (λ (h : Half). h.string) in
      let c = length-map (shared_strings m kept (Parcel number)) (λ (s : StringRow). s.number) in
      omega (arith, w, a, b, c)

  module _ (at : MapRows) (u : Table) (put : Held Half) (wide : Held Spoke) where
    -- ticks, after one for each string that comes back
    ticks-work : table.work ≤ greatest → (k n : ℕ) → k ≤ length gone + length gone → n ≤ 4 * (length path + 2) + sides_of_face (Parcel number) m
        → u.work ≡ ticked n (ticked k table.work) → TakesWork v.table u (work_bound m (map_of v))
    ticks-work within k n few most work =
        let bound = back-work in
        let long = gone-long in
        subst (λ (q : Map). TakesWork v.table u (work_bound m q)) (sym it.is)
        (draft-work rows table held stars grid v it.view u (k + n) (work_bound m now) within (omega (arith, few, most, bound, long))
        (ticks-just table u (k + n) (work ∙ sym (ticked-add k n table.work))))

    -- where memory ran out
    module _ (stay : FitMap now at u.rows put wide) where
      pub stays : GoWith now at u put wide
      stays = record { whole = whole_now; fits = stay }

      pub stays-rest : u.rows ≡ table.rows → IsProper (map_of (parts at u put wide grid)) u.rows (kept_at (parts at u put wide grid))
      stays-rest same = at-rest grid stays (λ h. ap (λ (l : HalfRows). has l h) same ∙ all h)

    pub stay-work : table.work ≤ greatest → (count : ℕ) × (count ≤ length gone) × (u.work ≡ ticked count (ticked count table.work)) → TakesWork v.table u (work_bound m (map_of v))
    stay-work within left =
        let few = left.1 in
        let long = gone-long in
        ticks-work within left.0 left.0 (omega (arith, few)) (omega (arith, few, long)) left.2

    -- where it is taken back
    module _ (back : FitMap m at u.rows put wide) where
      pub gone-back : GoWith m at u put wide
      gone-back = record { whole = whole_old; fits = back }

      pub back-rest : ((h : Half) → has u.rows h ≡ (if is_of (numbers_placed gone) h then true else has table.rows h)) → IsProper (map_of (parts at u put wide grid)) u.rows (kept_at (parts at u put wide grid))
      back-rest some =
          at-rest grid gone-back (λ h.
          some h ∙ (λ i. if is_of (numbers_are i) h then true else all h i) ∙ either (is_of (strings_of path) h) (has_string now h.string) ∙ sym (more.all h))

    pub in-work : table.work ≤ greatest → (n : ℕ) → n ≤ 4 * (length path + 2) + sides_of_face (Parcel number) m
        → u.work ≡ ticked n (ticked (length gone) table.work) → TakesWork v.table u (work_bound m (map_of v))
    in-work within n most work = ticks-work within (length gone) n (omega arith) most work

-- A merger along a chain that a record tells, in a table that goes with the map.
use Rattle.std.proofs.Common.{◌≡◌, ℕ, ◌+◌, inl, inr, Bool, true, false, refl, sym, subst, ◌∙◌, List, [], ◌∷◌, length, arith}
use Rattle.std.specs.Prelude.{IsPermutation}
use Rattle.std.specs.List.{AllByRecursion, Contains}
use Rattle.std.proofs.lemmas.List.Sorted.{Contains-permutation, IsPermutation-map, IsPermutation-sym}
use Rattle.cad_rows.specs.declared.edits.Edit.TheVariants.{Merge}
use Rattle.cad_rows.specs.declared.names.Face.{Face}
use Rattle.cad_rows.specs.declared.names.Face.TheVariants.{Parcel}
use Rattle.cad_rows.specs.declared.rows.ParcelRow.{ParcelRow}
use Rattle.cad_rows.specs.declared.rows.StringRow.{StringRow}
use Rattle.cad_rings.specs.Cycle.{Side}
use Rattle.cad_rings.specs.Surgery.{both_ways, sides_of_chain}
use Rattle.cad_map.specs.Chain.{leaving}
use Rattle.cad_map.specs.Map.{Map}
use Rattle.cad_map.specs.Merger.{is_shared}
use Rattle.cad_map.proofs.CallerLemmas.{All-at_each, map-Contains, Contains-cases, Contains-first, Contains-later, filter-Contains}
use Rattle.half_table.specs.declared.half.Half.{Half}
use Rattle.half_table.specs.Rows.{HalfRows}
use Rattle.half_paths.specs.Path.{AreIn, strings_of}
use Rattle.half_paths.specs.Loose.{numbers_of}
use Rattle.cad_laws.specs.Counts.{shared_strings}
use Rattle.cad_laws.specs.Local.{side_by}
use Rattle.cad_laws.specs.Tried.{IsTried}
use Rattle.edit_records.specs.declared.record.ChainString.{ChainString}
use Rattle.edit_records.specs.HeldChains.{HeldChain, HeldMerged, rows_along, row_between, side_along}
use Rattle.edit_records.specs.Record.{HeldMergedAlong}
use Rattle.cad_surgery.specs.Mergers.{HasSharedPath}
use Rattle.cad_surgery.specs.ToldMergers.{halves_of}
use Rattle.map_parts.specs.Islands.{AreOfRings}
use Rattle.map_parts.specs.Labels.{IsAlong}
use Rattle.map_parts.specs.Merging.{IsMerging, merged, shared_chain, first_corner, last_corner, rings_past}
use Rattle.map_parts.specs.Parts.{HasHalves}
use Rattle.map_parts.specs.Paths.{AreAlong}
use Rattle.map_parts.proofs.MergedChain.{merged-chain}
use Rattle.cad_surgery.proofs.HeldPaths as paths
use Rattle.cad_surgery.proofs.HeldPaths.{HasRowsBoth}
use Rattle.cad_surgery.proofs.NamedRings.{row-side}

-- the numbers of the rows along a chain are those of its strings
pub numbers-along : (strings : List ChainString) (chain : List ℕ) → length chain ≡ length strings + 1 → numbers_of (rows_along strings chain) ≡ strings_of (halves_of strings)
numbers-along [] [] many = refl
numbers-along [] (a ∷ chain) many = refl
numbers-along (s ∷ strings) [] many = absurd (omega (arith, many))
numbers-along (s ∷ strings) (a ∷ []) many = absurd (omega (arith, many))
numbers-along (s ∷ strings) (a ∷ b ∷ chain) many = λ i. s.half.string ∷ numbers-along strings (b ∷ chain) (omega (arith, many)) i

-- a string between two neighbours leads from the one to the other
pub between : (s : ChainString) (a b : ℕ) → side_along (row_between s a b) s.half ≡ (a, b)
between s a b = by s.half.forward
  where
    by : (f : Bool) → side_along (row_between (record s { half = record s.half { forward = f } }) a b) (record s.half { forward = f }) ≡ (a, b)
    by true = refl
    by false = refl

-- where a map has the rows along a chain, the halves lead along its sides
pub along-rows : (m : Map) (rows : HalfRows) (ends : AllByRecursion (HasHalves rows) m.strings) (strings : List ChainString) (chain : List ℕ) → length chain ≡ length strings + 1
    → ((row : StringRow) → Contains (rows_along strings chain) row → Contains m.strings row) → AreAlong rows (halves_of strings) (sides_of_chain chain)
along-rows m rows ends [] [] many there = refl
along-rows m rows ends [] (a ∷ []) many there = refl
along-rows m rows ends [] (a ∷ b ∷ chain) many there = absurd (omega (arith, many))
along-rows m rows ends (s ∷ strings) [] many there = absurd (omega (arith, many))
along-rows m rows ends (s ∷ strings) (a ∷ []) many there = absurd (omega (arith, many))
along-rows m rows ends (s ∷ strings) (a ∷ b ∷ chain) many there =
    let row = row_between s a b in
    let among = there row (Contains-first row (rows_along strings (b ∷ chain))) in
    let own : side_by rows s.half ≡ (a, b) = row-side m rows ends row s.half refl (All-at_each (HasHalves rows) m.strings row ends among) ∙ between s a b in
    let rest = along-rows m rows ends strings (b ∷ chain) (omega (arith, many)) (λ r h. there r (Contains-later row (rows_along strings (b ∷ chain)) r h)) in
    λ i. own i ∷ rest i

-- a half of a row along a chain leads along one of its sides, or back
pub rows-both : (strings : List ChainString) (chain : List ℕ) (r : StringRow) → Contains (rows_along strings chain) r → (h : Half) → Contains (both_ways (sides_of_chain chain)) (side_along r h)
rows-both [] chain r among h = let low = among.1 in absurd (omega arith)
rows-both (s ∷ strings) [] r among h = let low = among.1 in absurd (omega arith)
rows-both (s ∷ strings) (a ∷ []) r among h = let low = among.1 in absurd (omega arith)
rows-both (s ∷ strings) (a ∷ b ∷ chain) r among h = elim (Contains-cases (row_between s a b) (rows_along strings (b ∷ chain)) r among) [
  | inl same ↦ subst (λ (q : StringRow). Contains (both_ways sides) (side_along q h)) same (by s.half.forward h.forward)
  | inr later ↦ Contains-later (a, b) ((b, a) ∷ both_ways (sides_of_chain (b ∷ chain))) (side_along r h) (Contains-later (b, a) (both_ways (sides_of_chain (b ∷ chain))) (side_along r h) (rows-both strings (b ∷ chain) r later h))
]
  where
    sides : List Side
    sides = sides_of_chain (a ∷ b ∷ chain)

    first : Contains (both_ways (sides_of_chain (a ∷ b ∷ chain))) (a, b)
    first = Contains-first (a, b) ((b, a) ∷ both_ways (sides_of_chain (b ∷ chain)))

    back : Contains (both_ways (sides_of_chain (a ∷ b ∷ chain))) (b, a)
    back = Contains-later (a, b) ((b, a) ∷ both_ways (sides_of_chain (b ∷ chain))) (b, a) (Contains-first (b, a) (both_ways (sides_of_chain (b ∷ chain))))

    by : (f k : Bool) → Contains (both_ways (sides_of_chain (a ∷ b ∷ chain))) (side_along (row_between (record s { half = record s.half { forward = f } }) a b) (record h { forward = k }))
    by true true = first
    by true false = back
    by false true = back
    by false false = first

-- the strings that went are those that the two shared
pub shared-names : {m : Map} {kept : Face} {row : ParcelRow} {place : ℕ} {strings : List ChainString} {chain : List ℕ} → HeldMerged m kept row place strings chain
    → IsPermutation (numbers_of (shared_strings m kept (Parcel row.number))) (strings_of (halves_of strings))
shared-names {m} {kept} {row} {place} {strings} {chain} gone =
    subst (IsPermutation (numbers_of (shared_strings m kept (Parcel row.number)))) (numbers-along strings chain gone.as_many)
    (IsPermutation-sym (numbers_of (rows_along strings chain)) (numbers_of (shared_strings m kept (Parcel row.number)))
    (IsPermutation-map (λ (s : StringRow). s.number) (rows_along strings chain) (shared_strings m kept (Parcel row.number)) gone.shared))

-- and they were there
pub rows-there : {m : Map} {kept : Face} {row : ParcelRow} {place : ℕ} {strings : List ChainString} {chain : List ℕ} → HeldMerged m kept row place strings chain
    → (r : StringRow) → Contains (rows_along strings chain) r → Contains m.strings r
rows-there {m} {kept} {row} {place} {strings} {chain} gone r among =
    (filter-Contains (is_shared m kept (Parcel row.number)) m.strings r (Contains-permutation (rows_along strings chain) (shared_strings m kept (Parcel row.number)) r gone.shared among)).0

-- each of them has a row, which leads along the chain, or back
pub rows-led : {m : Map} {kept : Face} {row : ParcelRow} {place : ℕ} {strings : List ChainString} {chain : List ℕ} → HeldMerged m kept row place strings chain
    → HasRowsBoth m (halves_of strings) (sides_of_chain chain)
rows-led {strings = strings} {chain = chain} gone n among =
    let at = map-Contains (λ (r : StringRow). r.number) (rows_along strings chain) n (subst (λ (l : List ℕ). Contains l n) (sym (numbers-along strings chain gone.as_many)) among) in
    (at.0, rows-there gone at.0 at.1, at.2, λ h. rows-both strings chain at.0 at.1 h)

module _ (m : Map) (kept : Face) (row : ParcelRow) (place : ℕ) (chain : List ℕ) (strings : List ChainString) (start end : Half) (moved : List Half)
    (tried : IsTried m (Merge kept (Parcel row.number))) (it : HeldMergedAlong m kept row place chain strings start end moved) where
  abbrev pub path : List Half
  path = halves_of strings

  abbrev pub inner : Face
  inner = Parcel row.number

  abbrev pub is_it : IsMerging m kept row.number path
  is_it = record {
    tried = tried;
    sides = it.shared.sides;
    kept_ring = it.shared.kept_ring;
    kept_place = it.shared.kept_place;
    ended_ring = it.shared.ended_ring;
    ended_place = it.shared.ended_place;
    there = it.shared.there;
    taken = merged-chain m kept inner it.shared.sides it.shared.kept_ring it.shared.kept_place it.shared.ended_ring it.shared.ended_place tried it.shared.there;
    shared = shared-names it.gone;
  }

  abbrev c : List ℕ
  c = shared_chain is_it

  both : HasRowsBoth m path (sides_of_chain c)
  both = subst (λ (l : List ℕ). HasRowsBoth m path (sides_of_chain l)) it.shared.is (rows-led it.gone)

  held : HeldChain m inner c start end moved
  held = subst (λ (l : List ℕ). HeldChain m inner l start end moved) it.shared.is it.held

  -- ---- In a table of the map after it

  module _ (rows : HalfRows) (ends : AllByRecursion (HasHalves rows) (merged is_it).strings) where
    pub start_on : IsAlong (merged is_it) rows (leaving (first_corner is_it)) start
    start_on = paths.start_on m kept row.number path is_it start end moved held both rows ends

    pub end_on : IsAlong (merged is_it) rows (leaving (last_corner is_it)) end
    end_on = paths.end_on m kept row.number path is_it start end moved held both rows ends

    pub moved_in : AreIn rows moved
    moved_in = paths.moved_in m kept row.number path is_it start end moved held both rows ends

    pub moved_are : AreOfRings m rows moved inner (rings_past is_it)
    moved_are = paths.moved_are m kept row.number path is_it start end moved held both rows ends

  -- ---- In a table of the map before it

  -- what the record tells is at hand
  pub shared-path : (rows : HalfRows) → AllByRecursion (HasHalves rows) m.strings → HasSharedPath m rows kept row.number path start end moved
  shared-path rows ends =
      paths.path-at-hand m kept row.number path is_it start end moved held both rows ends
      (subst (λ (l : List ℕ). AreAlong rows path (sides_of_chain l)) it.shared.is (along-rows m rows ends strings chain it.gone.as_many (rows-there it.gone)))

-- Halves that begin at the ends of a map's strings: where no side stands twice, no two have one
-- side.
use Rattle.std.proofs.Common.{◌≡◌, ◌≢◌, ◌⊎◌, inl, inr, refl, sym, ap, subst, ◌∙◌, List, [], ◌∷◌, Bool, true, false, true≢false, Option, Some, None, is_some, ◌==◌, arith}
use Rattle.std.proofs.lemmas.List.Sorted.{IsPermutation-sym}
use Rattle.std.specs.Prelude.{flat_map}
use Rattle.std.specs.List.{AllByRecursion, Contains}
use Rattle.cad_rows.specs.declared.rows.StringRow.{StringRow}
use Rattle.cad_rings.specs.Cycle.{Side, is_side, opposite}
use Rattle.cad_map.specs.Map.{Map, string_of, side_of, string_sides, all_sides}
use Rattle.cad_map.specs.Rings.{HasWholeRings}
use Rattle.cad_map.specs.Valid.{EachPair, HasTwoEnds}
use Rattle.cad_map.proofs.CallerLemmas.{Contains-cases, Contains-first, Contains-later, Contains-flat_map, All-at_each, find-Contains, both, found-number, pairs-IsPermutation, is_side-is, EachPair-append}
use Rattle.half_table.specs.declared.half.Half.{Half}
use Rattle.half_table.specs.Half.{half_of, forward_of, backward_of}
use Rattle.half_table.specs.Rows.{HalfRows, origin_of}
use Rattle.cad_laws.specs.Local.{IsShown, side_by, BeginAtEnds}

-- a side that two strings have is of one
one-string : (strings : List StringRow) → EachPair (λ a b. a ≢ b) (flat_map both strings)
    → (r q : StringRow) → Contains strings r → Contains strings q → (u : Side)
    → Contains (both r) u → Contains (both q) u → r ≡ q
one-string [] once r q h k u has too = let low = h.1 in absurd (omega arith)
one-string (s ∷ strings) once r q h k u has too =
    let parts = EachPair-append (λ (a b : Side). a ≢ b) (both s) (flat_map both strings) once in
    let twice : Contains (both s) u → Contains (flat_map both strings) u → ⊥ =
    λ here later.
    All-at_each (λ y. u ≢ y) (flat_map both strings) u
    (All-at_each (λ x. AllByRecursion (λ y. x ≢ y) (flat_map both strings))
    (both s) u parts.2 here) later refl in
    elim (Contains-cases s strings r h) [
      | inl e ↦ elim (Contains-cases s strings q k) [
        | inl d ↦ sym e ∙ d
        | inr later ↦
            absurd (twice (subst (λ (t : StringRow). Contains (both t) u) (sym e) has)
            (Contains-flat_map both strings q u later too))
      ]
      | inr later ↦ elim (Contains-cases s strings q k) [
        | inl d ↦
            absurd (twice (subst (λ (t : StringRow). Contains (both t) u) (sym d) too)
            (Contains-flat_map both strings r u later has))
        | inr last ↦ one-string strings parts.1 r q later last u has too
      ]
    ]

module _ (m : Map) (rows : HalfRows) (two : HasTwoEnds m) (whole : HasWholeRings m)
    (begin : BeginAtEnds m rows) where
  -- the string of a half, and which way the half goes along it
  record IsOf (h : Half) : Type 0 where
    pub string : StringRow
    pub there : Contains m.strings string
    pub way : ((h ≡ forward_of string.number) × (side_by rows h ≡ side_of string))
        ⊎ ((h ≡ backward_of string.number) × (side_by rows h ≡ opposite (side_of string)))

  of : (h : Half) → IsShown m h → IsOf h
  of h shown = by (string_of m h.string) refl
    where
      by : (o : Option StringRow) → string_of m h.string ≡ o → IsOf h
      by None none =
          absurd (true≢false (sym shown ∙ ap (λ (o : Option StringRow). is_some o) none))
      by (Some row) is =
          let there =
          (find-Contains (λ (r : StringRow). r.number == h.string) m.strings row is).0 in
          let number = found-number (λ (r : StringRow). r.number) h.string m.strings row is in
          let ends = begin row there in
          record { string = row; there = there; way = either h.forward refl row number ends }
        where
          either : (b : Bool) → h.forward ≡ b → (row : StringRow) → row.number ≡ h.string
              → (origin_of rows (forward_of row.number) ≡ row.from)
              × (origin_of rows (backward_of row.number) ≡ row.to)
              → ((h ≡ forward_of row.number) × (side_by rows h ≡ side_of row))
              ⊎ ((h ≡ backward_of row.number) × (side_by rows h ≡ opposite (side_of row)))
          either true e row number ends =
              let same : h ≡ forward_of row.number = λ i. half_of (sym number i) (e i) in
              inl (same, ap (side_by rows) same ∙ (λ i. (ends.0 i, ends.1 i)))
          either false e row number ends =
              let same : h ≡ backward_of row.number = λ i. half_of (sym number i) (e i) in
              inr (same, ap (side_by rows) same ∙ (λ i. (ends.1 i, ends.0 i)))

  has : (h : Half) (k : IsOf h) → Contains (both k.string) (side_by rows h)
  has h k = elim k.way [
    | inl w ↦
        subst (Contains (both k.string)) (sym w.1)
        (Contains-first (side_of k.string) (opposite (side_of k.string) ∷ []))
    | inr w ↦
        subst (Contains (both k.string)) (sym w.1)
        (Contains-later (side_of k.string) (opposite (side_of k.string) ∷ [])
        (opposite (side_of k.string)) (Contains-first (opposite (side_of k.string)) []))
  ]

  pub apart-halves : (g h : Half) → IsShown m g → IsShown m h → side_by rows g ≡ side_by rows h
      → g ≡ h
  apart-halves g h shown also same =
      let k = of g shown in
      let l = of h also in
      let once =
      pairs-IsPermutation is_side is_side-is (all_sides m) (string_sides m)
      (IsPermutation-sym (string_sides m) (all_sides m) whole.v5.once) whole.once in
      let one : k.string ≡ l.string =
      one-string m.strings once k.string l.string k.there l.there (side_by rows g) (has g k)
      (subst (Contains (both l.string)) (sym same) (has h l)) in
      let differ : k.string.from ≢ k.string.to =
      All-at_each (λ (s : StringRow). s.from ≢ s.to) m.strings k.string two k.there in
      elim k.way [
        | inl w ↦ elim l.way [
          | inl v ↦ w.0 ∙ ap (λ (s : StringRow). forward_of s.number) one ∙ sym v.0
          | inr v ↦
              absurd (differ
              (ap (λ (s : Side). s.0) (sym w.1 ∙ same ∙ v.1)
              ∙ ap (λ (s : StringRow). s.to) (sym one)))
        ]
        | inr w ↦ elim l.way [
          | inl v ↦
              absurd (differ
              (sym (ap (λ (s : Side). s.0) (sym w.1 ∙ same ∙ v.1)
              ∙ ap (λ (s : StringRow). s.from) (sym one))))
          | inr v ↦ w.0 ∙ ap (λ (s : StringRow). backward_of s.number) one ∙ sym v.0
        ]
      ]

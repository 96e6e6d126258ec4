-- The strings of a point, by its star.
use Rattle.std.proofs.Common.{◌≡◌, inl, inr, arith, ℕ, ◌==◌, Bool, true, false, List, [], ◌∷◌, map, filter, refl, sym, ap, ◌∙◌, subst, Option, Some, None, true≢false, slice_get}
use Rattle.std.specs.Prelude.{IsPermutation, is_some, unwrap_or, option_map}
use Rattle.std.specs.List.{Contains}
use Rattle.std.proofs.lemmas.Bool.{eqb-true}
use Rattle.std.proofs.lemmas.List.Sorted.{IsPermutation-map, IsPermutation-sym, Contains-permutation}
use Rattle.std.proofs.lemmas.Option.{slice_get-map}
use Rattle.cad_rows.specs.declared.rows.StringRow.{StringRow}
use Rattle.cad_map.specs.declared.span.Span.{Span}
use Rattle.cad_map.specs.Map.{far_end, is_end, string_of, strings_at}
use Rattle.cad_map.specs.Spans.{span_of}
use Rattle.cad_map.proofs.CallerLemmas.{Contains-cases, Contains-first, Contains-later, Contains-at, row-found}
use Rattle.half_table.specs.declared.half.Half.{Half}
use Rattle.key_lists.specs.Held.{items_at}
use Rattle.map_parts.specs.declared.stars.Spoke.{Spoke}
use Rattle.half_table.specs.Half.{forward_of, backward_of}
use Rattle.map_parts.specs.Stars.{spoke, spokes_at}
use Rattle.map_parts.specs.Parts.{Parts, FitTogether, rows_of, map_of}
use Rattle.map_parts.specs.Views.{string_row, view_strings}
use Rattle.map_parts.proofs.StarHalves.{spoke-is}
use Rattle.cad_surgery.specs.Spans.{span_along}

module _ (d : Parts) (fit : FitTogether d) where
  abbrev row_of : Spoke → StringRow
  row_of x = string_row d x.half.string

  row-is : (s : StringRow) → Contains d.strings s → string_row d s.number ≡ s
  row-is s there = ap (λ (o : Option StringRow). unwrap_or o (record { number = s.number; from = 0; to = 0; sources = [] })) (row-found d.strings s fit.numbers there)

  star-rows : (p : ℕ) (ss : List StringRow) → ((s : StringRow) → Contains ss s → Contains d.strings s) → map row_of (spokes_at p ss) ≡ filter (λ s. is_end s p) ss
  star-rows p [] sub = refl
  star-rows p (s ∷ ss) sub = by (s.from == p) (s.to == p) refl refl (star-rows p ss (λ t later. sub t (Contains-later s ss t later)))
    where
      by : (t u : Bool) → (s.from == p) ≡ t → (s.to == p) ≡ u → map row_of (spokes_at p ss) ≡ filter (λ s. is_end s p) ss → map row_of (spokes_at p (s ∷ ss)) ≡ filter (λ s. is_end s p) (s ∷ ss)
      by true u is is_to rest = rw is (λ i. row-is s (sub s (Contains-first s ss)) i ∷ rest i)
      by false true is is_to rest = rw (is, is_to) (λ i. row-is s (sub s (Contains-first s ss)) i ∷ rest i)
      by false false is is_to rest = rw (is, is_to) rest

  -- the strings that are told are those of the point, each once
  pub strings-each : (p : ℕ) → IsPermutation (strings_at (map_of d) p) (view_strings d p)
  strings-each p =
      subst (λ (l : List StringRow). IsPermutation l (view_strings d p)) (star-rows p d.strings (λ s there. there))
      (IsPermutation-map row_of (spokes_at p d.strings) (items_at d.stars p) (fit.stars p))

  -- the half at a place of the star, and the row of its string
  abbrev half_at : ℕ → ℕ → Option Half
  half_at p place = option_map (λ (x : Spoke). x.half) (slice_get (items_at d.stars p) place)

  pub string-told : (p place : ℕ) (h : Half) → half_at p place ≡ Some h → string_of (rows_of d) h.string ≡ slice_get (view_strings d p) place
  string-told p place h at = by (slice_get (items_at d.stars p) place) refl at
    where
      row : (x : Spoke) → Contains (items_at d.stars p) x → (o : Option StringRow) → string_of (rows_of d) x.half.string ≡ o → string_of (rows_of d) x.half.string ≡ Some (row_of x)
      row x among None none = absurd (true≢false (sym (spoke-is d fit.ends fit.two_ends fit.stars p x among).shown ∙ ap is_some none))
      row x among (Some r) is = is ∙ ap (λ (o : Option StringRow). Some (unwrap_or o (record { number = x.half.string; from = 0; to = 0; sources = [] }))) (sym is)

      by : (o : Option Spoke) → slice_get (items_at d.stars p) place ≡ o → option_map (λ (x : Spoke). x.half) o ≡ Some h → string_of (rows_of d) h.string ≡ slice_get (view_strings d p) place
      by None is none = cc
      by (Some x) is some =
          let same : x.half ≡ h = cc in
          ap (λ (k : Half). string_of (rows_of d) k.string) (sym same)
          ∙ row x (Contains-at (items_at d.stars p) place x is) (string_of (rows_of d) x.half.string) refl
          ∙ sym (slice_get-map row_of (items_at d.stars p) place ∙ ap (option_map row_of) is)

  pub none-told : (p place : ℕ) → half_at p place ≡ None → slice_get (view_strings d p) place ≡ None
  none-told p place none = slice_get-map row_of (items_at d.stars p) place ∙ ap (option_map row_of) (by (slice_get (items_at d.stars p) place) none)
    where
      by : (o : Option Spoke) → option_map (λ (x : Spoke). x.half) o ≡ None → o ≡ None
      by None e = refl
      by (Some x) e = cc

  -- a half's far end is the other end of its string
  far-spoke : (p : ℕ) (ss : List StringRow) → ((s : StringRow) → Contains ss s → Contains d.strings s) → (x : Spoke) → Contains (spokes_at p ss) x → far_end (row_of x) p ≡ x.far
  far-spoke p [] sub x there = let none = there.1 in absurd (omega arith)
  far-spoke p (s ∷ ss) sub x there = by (s.from == p) (s.to == p) refl refl there (λ later. far-spoke p ss (λ t rest. sub t (Contains-later s ss t rest)) x later)
    where
      row : string_row d s.number ≡ s
      row = row-is s (sub s (Contains-first s ss))

      first : (y : Spoke) → far_end (row_of y) p ≡ y.far → Contains (y ∷ spokes_at p ss) x → (Contains (spokes_at p ss) x → far_end (row_of x) p ≡ x.far) → far_end (row_of x) p ≡ x.far
      first y told among rest = elim (Contains-cases y (spokes_at p ss) x among) [ inl same ↦ subst (λ (z : Spoke). far_end (row_of z) p ≡ z.far) same told | inr later ↦ rest later ]

      by : (t u : Bool) → (s.from == p) ≡ t → (s.to == p) ≡ u → Contains (spokes_at p (s ∷ ss)) x → (Contains (spokes_at p ss) x → far_end (row_of x) p ≡ x.far) → far_end (row_of x) p ≡ x.far
      by true u is is_to among rest = first (spoke (forward_of s.number) s.to) (ap (λ (r : StringRow). far_end r p) row ∙ rw is refl) (rw is at among) rest
      by false true is is_to among rest = first (spoke (backward_of s.number) s.from) (ap (λ (r : StringRow). far_end r p) row ∙ rw is refl) (rw (is, is_to) at among) rest
      by false false is is_to among rest = rest (rw (is, is_to) at among)

  -- a half leads between its string's ends
  span-spoke : (p : ℕ) (ss : List StringRow) → ((s : StringRow) → Contains ss s → Contains d.strings s) → (x : Spoke) → Contains (spokes_at p ss) x → span_of (row_of x) ≡ span_along p x
  span-spoke p [] sub x there = let none = there.1 in absurd (omega arith)
  span-spoke p (s ∷ ss) sub x there = by (s.from == p) (s.to == p) refl refl there (λ later. span-spoke p ss (λ t rest. sub t (Contains-later s ss t rest)) x later)
    where
      row : string_row d s.number ≡ s
      row = row-is s (sub s (Contains-first s ss))

      leading : ℕ → ℕ → Span
      leading from to = record { string = s.number; from = from; to = to }

      first : (y : Spoke) → span_of (row_of y) ≡ span_along p y → Contains (y ∷ spokes_at p ss) x → (Contains (spokes_at p ss) x → span_of (row_of x) ≡ span_along p x) → span_of (row_of x) ≡ span_along p x
      first y told among rest = elim (Contains-cases y (spokes_at p ss) x among) [ inl same ↦ subst (λ (z : Spoke). span_of (row_of z) ≡ span_along p z) same told | inr later ↦ rest later ]

      by : (t u : Bool) → (s.from == p) ≡ t → (s.to == p) ≡ u → Contains (spokes_at p (s ∷ ss)) x → (Contains (spokes_at p ss) x → span_of (row_of x) ≡ span_along p x) → span_of (row_of x) ≡ span_along p x
      by true u is is_to among rest = first (spoke (forward_of s.number) s.to) (ap span_of row ∙ ap (λ (q : ℕ). leading q s.to) (eqb-true s.from p is)) (rw is at among) rest
      by false true is is_to among rest = first (spoke (backward_of s.number) s.from) (ap span_of row ∙ ap (λ (q : ℕ). leading s.from q) (eqb-true s.to p is_to)) (rw (is, is_to) at among) rest
      by false false is is_to among rest = rest (rw (is, is_to) at among)

  -- what is one of each half and its string is one of what is told at a place
  told-alike : {X : Type 0} (f : Spoke → X) (h : StringRow → X) (p place : ℕ) → ((x : Spoke) → Contains (spokes_at p d.strings) x → h (row_of x) ≡ f x)
      → option_map f (slice_get (items_at d.stars p) place) ≡ option_map h (slice_get (view_strings d p) place)
  told-alike {X} f h p place alike = by (slice_get (items_at d.stars p) place) refl ∙ ap (option_map h) (sym (slice_get-map row_of (items_at d.stars p) place))
    where
      by : (o : Option Spoke) → slice_get (items_at d.stars p) place ≡ o → option_map f (slice_get (items_at d.stars p) place) ≡ option_map h (option_map row_of (slice_get (items_at d.stars p) place))
      by None is = rw is refl
      by (Some x) is =
          let among = Contains-permutation (items_at d.stars p) (spokes_at p d.strings) x (IsPermutation-sym (spokes_at p d.strings) (items_at d.stars p) (fit.stars p)) (Contains-at (items_at d.stars p) place x is) in
          rw is (ap Some (sym (alike x among)))

  -- the far end of the half at a place is that of the string that is told there
  pub far-told : (p place : ℕ) → option_map (λ (x : Spoke). x.far) (slice_get (items_at d.stars p) place) ≡ option_map (λ s. far_end s p) (slice_get (view_strings d p) place)
  far-told p place = told-alike (λ (x : Spoke). x.far) (λ s. far_end s p) p place (far-spoke p d.strings (λ s there. there))

  -- and the string along it is that one
  pub span-told : (p place : ℕ) → option_map (span_along p) (slice_get (items_at d.stars p) place) ≡ option_map span_of (slice_get (view_strings d p) place)
  span-told p place = told-alike (span_along p) span_of p place (span-spoke p d.strings (λ s there. there))

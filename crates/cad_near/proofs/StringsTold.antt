-- Strings that are told of a point, by their numbers.
use Rattle.std.proofs.Common.{◌≡◌, ℕ, List, refl, sym, ap, ◌∙◌}
use Rattle.std.specs.Prelude.{IsTrue, Option, Some, slice_get, option_map, IsPermutation, true}
use Rattle.std.specs.List.{Contains}
use Rattle.std.proofs.lemmas.List.Sorted.{IsPermutation-sym, Contains-permutation}
use Rattle.cad_rows.specs.declared.rows.StringRow.{StringRow}
use Rattle.cad_map.specs.declared.span.Span.{Span}
use Rattle.cad_map.specs.Map.{Map, is_end, string_of, strings_at}
use Rattle.cad_map.specs.Spans.{span_of}
use Rattle.cad_map.specs.Valid.{HasSoundRows}
use Rattle.cad_map.proofs.CallerLemmas.{Contains-at, filter-Contains, told-is}
use Rattle.cad_near.specs.Near.{OfString}
use Rattle.cad_near.proofs.RowsByNumber.{of_string, row-is}

module _ (m : Map) (sound : HasSoundRows m) (p : ℕ) where
  -- the string with the number of one at the point is that one, which has an end there
  of-string_at : (s : StringRow) (n : ℕ) → Contains (strings_at m p) s → s.number ≡ n → OfString m (λ r. IsTrue (is_end r p)) n
  of-string_at s n there same =
      let at = filter-Contains (λ (r : StringRow). is_end r p) m.strings s there in
      let found = ap (string_of m) (sym same) ∙ row-is (λ (r : StringRow). r.number) m.strings s sound.strings.distinct at.0 in
      (of_string m sound (λ r. IsTrue (is_end r p)) n s found true ((λ t. at.1), (λ e. refl))).0 refl

  -- also where it is told at a place
  pub of-string_told : (strings : List StringRow) → IsPermutation (strings_at m p) strings → (place : ℕ) (o : Option Span) (span : Span) → o ≡ option_map span_of (slice_get strings place) → o ≡ Some span
      → (n : ℕ) → span.string ≡ n → OfString m (λ r. IsTrue (is_end r p)) n
  of-string_told strings each place o span told is n same =
      let s = told-is span_of o span strings place told is in
      of-string_at s.0 n
      (Contains-permutation strings (strings_at m p) s.0 (IsPermutation-sym (strings_at m p) strings each) (Contains-at strings place s.0 s.1))
      (ap (λ (x : Span). x.string) s.2 ∙ same)

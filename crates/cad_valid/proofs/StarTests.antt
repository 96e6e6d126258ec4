-- Tests of the strings of a point, as a view tells them one after another.
use Rattle.std.proofs.Common.{◌≡◌, ◌+◌, ◌<◌, ◌≤◌, ℕ, refl, arith, sym, ap, ◌∙◌, Bool, true, ◌&&◌, List, [], ◌∷◌, length, take, slice_get, Bor, Option, Some, option_copied}
use Rattle.std.specs.Prelude.{IsPermutation}
use Rattle.std.specs.List.{Contains, list_all}
use Rattle.std.proofs.lemmas.List.Folds.{list_all-append}
use Rattle.std.proofs.lemmas.List.Sorted.{Contains-permutation, IsPermutation-sym}
use Rattle.cad_rows.specs.declared.rows.StringRow.{StringRow}
use Rattle.cad_map.specs.Map.{Map, is_end, strings_at}
use Rattle.cad_map.proofs.CallerLemmas.{all-told, lent-is, Contains-at, filter-Contains, Contains-filter, list_all-at, take-more}

-- Those so far have passed, and once a string was told they are the point's.
pub record HavePassed (m : Map) (p : ℕ) (test : StringRow → Bool) (strings : List StringRow) (place : ℕ) : Type 0 where
  pub passed : list_all test (take place strings) ≡ true
  pub each : 0 < place → IsPermutation (strings_at m p) strings

module _ (m : Map) (p : ℕ) (test : StringRow → Bool) (strings : List StringRow) (place : ℕ) where
  -- a string that is told is one of the map's, and ends there
  pub told-there : (s : StringRow) → slice_get strings place ≡ Some s → IsPermutation (strings_at m p) strings → Contains m.strings s × (is_end s p ≡ true)
  told-there s at each =
      filter-Contains (λ s. is_end s p) m.strings s
      (Contains-permutation strings (strings_at m p) s (IsPermutation-sym (strings_at m p) strings each) (Contains-at strings place s at))

  -- and so is one that it lends
  pub lent-there : (o : Option (Bor StringRow)) (r : Bor StringRow) → option_copied o ≡ slice_get strings place → o ≡ Some r → IsPermutation (strings_at m p) strings → Contains m.strings r.now × (is_end r.now p ≡ true)
  lent-there o r is at each = told-there r.now (lent-is o r strings place is at) each

  -- before the first, none has to have passed
  pub none-passed : HavePassed m p test strings 0
  none-passed = record { passed = refl; each = λ more. absurd (omega (arith, more)) }

  -- one more
  pub passed-more : HavePassed m p test strings place → (s : StringRow) → slice_get strings place ≡ Some s → IsPermutation (strings_at m p) strings → test s ≡ true
      → HavePassed m p test strings (place + 1)
  passed-more so_far s at each passes = record {
    passed =
        ap (list_all test) (sym (take-more strings place s at)) ∙ list_all-append test (take place strings) (s ∷ [])
        ∙ (λ i. so_far.passed i && (passes i && true));
    each = λ _. each;
  }

  -- past the last, all have
  pub passed-all : HavePassed m p test strings place → length (strings_at m p) ≤ place → (s : StringRow) → Contains m.strings s → is_end s p ≡ true → test s ≡ true
  passed-all so_far past s there end =
      list_all-at test (take place strings) s so_far.passed
      (Contains-permutation (strings_at m p) (take place strings) s (all-told m p strings place past so_far.each) (Contains-filter (λ s. is_end s p) m.strings s there end))

-- before the first string is told
pub ruleset star_begun = (none-passed)

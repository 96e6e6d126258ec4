-- A split that is tried puts a point between the ends of a string.
use Rattle.std.proofs.Common.{◌≡◌, ◌≢◌, ℕ, ℤ, refl, sym, ap, subst, ◌∙◌, List, [], ◌∷◌, ◌++◌, map, Bool, true, false, ◌==◌, Option, Some, None, nat_eq}
use Rattle.std.specs.Prelude.{IsPermutation, option_map, unwrap_or}
use Rattle.std.specs.List.{AllByRecursion, Contains, IsDistinct}
use Rattle.std.proofs.lemmas.Bool.{eqb-true, false_from_ne_true}
use Rattle.std.proofs.lemmas.List.Sorted.{IsPermutation-refl, IsPermutation-cons, IsPermutation-trans, IsPermutation-middle, IsPermutation-append_comm}
use Rattle.cad_rows.specs.declared.edits.Edit.TheVariants.{Split}
use Rattle.cad_rows.specs.declared.rows.StringRow.{StringRow}
use Rattle.cad_map.specs.Changes.{split}
use Rattle.cad_map.specs.Effects.{after}
use Rattle.cad_map.specs.Map.{Map, string_of}
use Rattle.numbered_rows.specs.Rows.{row_with, without_row}
use Rattle.cad_map.specs.Valid.{EachPair}
use Rattle.cad_map.proofs.CallerLemmas.{allowed, free-split, halves-differ, find-Contains, found-number, whole_valid}
use Rattle.half_table.specs.Half.{forward_of}
use Rattle.half_paths.specs.Path.{AreDifferent}
use Rattle.cad_laws.specs.Tried.{IsTried}
use Rattle.cad_laws.proofs.CallerLemmas.{split-between, whole-after}
use Rattle.map_parts.specs.Passing.{HasBetween, path_of}

-- ---- Rows with one at the front

module _ {R : Type 0} (number : R → ℕ) where
  pub without-none : (n : ℕ) (rows : List R) → AllByRecursion (λ k. n ≢ k) (map number rows)
      → without_row number n rows ≡ rows
  without-none n [] all = refl
  without-none n (r ∷ rows) all =
      rw (false_from_ne_true (nat_eq (number r) n) (λ h. all.0 (sym (eqb-true (number r) n h))))
      (ap (λ (rs : List R). r ∷ rs) (without-none n rows all.1))

  -- a row, and the rows without it
  pub row-first : (n : ℕ) (row : R) (rows : List R) → EachPair (λ a b. a ≢ b) (map number rows)
      → row_with number n rows ≡ Some row → IsPermutation rows (row ∷ without_row number n rows)
  row-first n row [] each found = cc
  row-first n row (r ∷ rows) each found = by (nat_eq (number r) n) refl (λ h. row-first n row rows each.1 h)
    where
      by : (b : Bool) → nat_eq (number r) n ≡ b
          → (row_with number n rows ≡ Some row → IsPermutation rows (row ∷ without_row number n rows))
          → IsPermutation (r ∷ rows) (row ∷ without_row number n (r ∷ rows))
      by true is again =
          let here : Some r ≡ Some row = rw is at found in
          let same : r ≡ row = cc in
          let none =
          without-none n rows
          (subst (λ (k : ℕ). AllByRecursion (λ a. k ≢ a) (map number rows)) (eqb-true (number r) n is) each.0) in
          rw is (subst (λ (l : List R). IsPermutation (r ∷ rows) l) (λ i. same i ∷ sym none i) (IsPermutation-refl (r ∷ rows)))
      by false is again =
          let rest = again (rw is at found) in
          let left = without_row number n rows in
          rw is (IsPermutation-trans (r ∷ rows) (r ∷ row ∷ left) (row ∷ r ∷ left)
          (IsPermutation-cons r rows (row ∷ left) rest) (IsPermutation-middle (r ∷ []) row left))

-- numbers of which one has a row and the others have none
pub number-other : (m : Map) (s n : ℕ) (row : StringRow) → string_of m s ≡ Some row → string_of m n ≡ None
    → nat_eq s n ≡ false
number-other m s n row found none = by (nat_eq s n) refl
  where
    by : (t : Bool) → nat_eq s n ≡ t → t ≡ false
    by false e = refl
    by true e = let same : Some row ≡ None = sym found ∙ ap (string_of m) (eqb-true s n e) ∙ none in cc

module _ (m : Map) (s p : ℕ) (x y : ℤ) (first second : ℕ) (row : StringRow)
    (tried : IsTried m (Split s p x y first second)) (found : string_of m s ≡ Some row) where
  abbrev pub one : StringRow
  one = record { number = first; from = row.from; to = p; sources = row.sources }

  abbrev pub other : StringRow
  other = record { number = second; from = p; to = row.to; sources = row.sources }

  abbrev pub left : List StringRow
  left = without_row (λ (r : StringRow). r.number) s m.strings

  pub split-number : row.number ≡ s
  split-number = found-number (λ (r : StringRow). r.number) s m.strings row found

  pub split-there : Contains m.strings row
  split-there = (find-Contains (λ (r : StringRow). r.number == s) m.strings row found).0

  pub split-free : (string_of m first ≡ None) × (string_of m second ≡ None)
  split-free =
      let free = free-split m s p x y first second (allowed m (Split s p x y first second) tried.allowed).taken in
      (free.1, free.2)

  pub split-two : first ≢ second
  split-two = halves-differ s p x y first second (allowed m (Split s p x y first second) tried.allowed).bad_chain

  -- the rows after it
  pub split-strings : (after m (Split s p x y first second)).strings ≡ left ++ one ∷ other ∷ []
  unfolding after
  split-strings =
      ap (λ (o : Option StringRow). (unwrap_or (option_map (λ row. split m row p x y first second) o) m).strings) found
      ∙ ap (λ (n : ℕ). without_row (λ (r : StringRow). r.number) n m.strings ++ one ∷ other ∷ []) split-number

  pub split-parcels : m.parcels ≡ (after m (Split s p x y first second)).parcels
  unfolding after
  split-parcels =
      sym (ap (λ (o : Option StringRow). (unwrap_or (option_map (λ row. split m row p x y first second) o) m).parcels) found)

  pub split-before : IsPermutation m.strings (row ∷ left)
  split-before =
      row-first (λ (r : StringRow). r.number) s row m.strings tried.valid.sound.v1.strings.distinct found

  pub split-after : IsPermutation (after m (Split s p x y first second)).strings (one ∷ other ∷ left)
  split-after =
      subst (λ (l : List StringRow). IsPermutation l (one ∷ other ∷ left)) (sym split-strings)
      (IsPermutation-append_comm left (one ∷ other ∷ []))

  pub different : AreDifferent (forward_of s ∷ forward_of first ∷ forward_of second ∷ [])
  unfolding IsDistinct
  different =
      let a = number-other m s first row found split-free.0 in
      let b = number-other m s second row found split-free.1 in
      let c : nat_eq first second ≡ false = false_from_ne_true (nat_eq first second) (λ h. split-two (eqb-true first second h)) in
      ((a, (b, tt)), ((c, tt), (tt, tt)))

  abbrev pub split-has_between : HasBetween (after m (Split s p x y first second)) m p row.from row.to (path_of s first second)
  split-has_between =
      let law = split-between m s p x y first second row tried.valid tried.given tried.allowed found in
      record {
        joined = law.0;
        look = law.1;
        rings = whole-after m (Split s p x y first second) tried.valid tried.given tried.allowed tt;
        rings_past = whole_valid m tried.valid;
        parcels = split-parcels;
        first_row = one;
        second_row = other;
        whole_row = row;
        others = left;
        first_along = record { string = refl; side = refl };
        second_along = record { string = refl; side = refl };
        whole_along = record { string = sym split-number; side = refl };
        different = different;
        strings = split-after;
        strings_past = split-before;
      }

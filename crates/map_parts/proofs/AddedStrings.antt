-- A map with some strings more, and the halves that lead along them.
use Rattle.std.proofs.Common.{◌≡◌, ◌≢◌, ℕ, Bool, true, false, ◌||◌, nat_eq, true≢false, refl, sym, ap, subst, ◌∙◌, List, [], ◌∷◌, ◌++◌, map, None}
use Rattle.std.specs.Prelude.{is_some, IsSome}
use Rattle.std.specs.List.{AllByRecursion, Contains, IsDistinct, list_any}
use Rattle.std.proofs.lemmas.Bool.{eqb-true, false_from_ne_true}
use Rattle.std.proofs.lemmas.Cmp.{nat_eq_equiv}
use Rattle.cad_rows.specs.declared.rows.StringRow.{StringRow}
use Rattle.cad_map.specs.Map.{Map, string_of, side_of}
use Rattle.numbered_rows.specs.Rows.{row_with}
use Rattle.cad_map.specs.Valid.{EachPair}
use Rattle.cad_map.proofs.CallerLemmas.{All-from_each, list_any-Contains}
use Rattle.half_table.specs.declared.half.Half.{Half}
use Rattle.half_table.specs.Half.{forward_of}
use Rattle.half_table.specs.Rows.{HalfRows}
use Rattle.half_paths.specs.Path.{strings_of, AreIn, AreDifferent}
use Rattle.half_paths.specs.Loose.{is_of, numbers_of}
use Rattle.cad_laws.specs.Local.{IsShown, side_by}
use Rattle.map_parts.specs.Parts.{HasHalves}
use Rattle.map_parts.specs.Paths.{HasStringsMore}

-- the halves of these strings, each from the first point to the second
abbrev pub forward_path : List ℕ → List Half
forward_path numbers = map forward_of numbers

pub strings-path : (numbers : List ℕ) → strings_of (forward_path numbers) ≡ numbers
strings-path [] = refl
strings-path (n ∷ numbers) = ap (λ (l : List ℕ). n ∷ l) (strings-path numbers)

-- a number stands among these rows where it is one of theirs
found-last : (n : ℕ) (rows : List StringRow)
    → is_some (row_with (λ (r : StringRow). r.number) n rows) ≡ list_any (nat_eq n) (numbers_of rows)
found-last n [] = refl
found-last n (r ∷ rows) = by (nat_eq r.number n) refl (found-last n rows)
  where
    by : (b : Bool) → nat_eq r.number n ≡ b
        → is_some (row_with (λ (r : StringRow). r.number) n rows) ≡ list_any (nat_eq n) (numbers_of rows)
        → is_some (row_with (λ (r : StringRow). r.number) n (r ∷ rows)) ≡ list_any (nat_eq n) (numbers_of (r ∷ rows))
    by true is rest = let back : nat_eq n r.number ≡ true = nat_eq_equiv.symm n r.number ∙ is in rw (is, back) refl
    by false is rest = let back : nat_eq n r.number ≡ false = nat_eq_equiv.symm n r.number ∙ is in rw (is, back) rest

found-either : (n : ℕ) (rows added : List StringRow)
    → is_some (row_with (λ (r : StringRow). r.number) n (rows ++ added))
    ≡ (list_any (nat_eq n) (numbers_of added) || is_some (row_with (λ (r : StringRow). r.number) n rows))
found-either n [] added = found-last n added ∙ sym (none (list_any (nat_eq n) (numbers_of added)))
  where
    none : (b : Bool) → (b || false) ≡ b
    none true = refl
    none false = refl
found-either n (r ∷ rows) added = by (nat_eq r.number n) refl (found-either n rows added)
  where
    always : (b : Bool) → (b || true) ≡ true
    always true = refl
    always false = refl

    by : (b : Bool) → nat_eq r.number n ≡ b
        → is_some (row_with (λ (r : StringRow). r.number) n (rows ++ added))
        ≡ (list_any (nat_eq n) (numbers_of added) || is_some (row_with (λ (r : StringRow). r.number) n rows))
        → is_some (row_with (λ (r : StringRow). r.number) n (r ∷ rows ++ added))
        ≡ (list_any (nat_eq n) (numbers_of added) || is_some (row_with (λ (r : StringRow). r.number) n (r ∷ rows)))
    by true is rest = rw is (sym (always (list_any (nat_eq n) (numbers_of added))))
    by false is rest = rw is rest

-- no half of the map is of a number that has no row
pub of-none : (m : Map) (numbers : List ℕ) → AllByRecursion (λ n. string_of m n ≡ None) numbers
    → (h : Half) → IsShown m h → is_of numbers h ≡ false
of-none m [] none h shown = refl
of-none m (n ∷ numbers) none h shown =
    λ i. false_from_ne_true (nat_eq h.string n) (λ e.
    true≢false (sym shown ∙ ap is_some (ap (string_of m) (eqb-true h.string n e) ∙ none.0))) i || of-none m numbers none.1 h shown i

module _ (m now : Map) (numbers : List ℕ) (added : List StringRow) (numbered : numbers_of added ≡ numbers)
    (new : AllByRecursion (λ n. string_of m n ≡ None) numbers) (are : now.strings ≡ m.strings ++ added) where
  -- the second map has the strings of the path more
  pub strings-more : HasStringsMore m now (forward_path numbers)
  strings-more = record {
    all = λ h.
        ap (λ (l : List StringRow). is_some (row_with (λ (r : StringRow). r.number) h.string l)) are
        ∙ found-either h.string m.strings added
        ∙ ap (λ (l : List ℕ). list_any (nat_eq h.string) l || is_some (string_of m h.string)) (numbered ∙ sym (strings-path numbers));
    new = λ h shown.
        ap (λ (l : List ℕ). is_of l h) (strings-path numbers) ∙ of-none m numbers new h shown;
  }

  -- and rows for their numbers
  pub added-there : AllByRecursion (λ n. IsSome (string_of now n)) numbers
  added-there =
      All-from_each (λ n. IsSome (string_of now n)) numbers (λ n among.
      ap (λ (l : List StringRow). is_some (row_with (λ (r : StringRow). r.number) n l)) are
      ∙ found-either n m.strings added
      ∙ ap (λ (b : Bool). b || is_some (string_of m n))
      (list_any-Contains (nat_eq n) (numbers_of added) n (subst (λ (l : List ℕ). Contains l n) (sym numbered) among) (nat_eq_equiv.refl n)))

pub numbers-distinct : (numbers : List ℕ) → EachPair (λ a b. a ≢ b) numbers → IsDistinct nat_eq numbers
unfolding IsDistinct
numbers-distinct [] each = tt
numbers-distinct (n ∷ numbers) each = (others numbers each.0, numbers-distinct numbers each.1)
  where
    others : (ns : List ℕ) → AllByRecursion (λ k. n ≢ k) ns → AllByRecursion (λ k. nat_eq n k ≡ false) ns
    others [] all = tt
    others (k ∷ ns) all = (false_from_ne_true (nat_eq n k) (λ e. all.0 (eqb-true n k e)), others ns all.1)

-- no string is passed twice
pub path-different : (numbers : List ℕ) → EachPair (λ a b. a ≢ b) numbers → AreDifferent (forward_path numbers)
path-different numbers each = subst (IsDistinct nat_eq) (sym (strings-path numbers)) (numbers-distinct numbers each)

module _ (rows : HalfRows) where
  -- where the halves begin at the strings' ends, they lead along their sides
  pub path-along : (added : List StringRow) → AllByRecursion (HasHalves rows) added
      → map (side_by rows) (forward_path (numbers_of added)) ≡ map side_of added
  path-along [] ends = refl
  path-along (s ∷ added) ends = λ i. (ends.0.from i, ends.0.to i) ∷ path-along added ends.1 i

  pub path-in : (added : List StringRow) → AllByRecursion (HasHalves rows) added → AreIn rows (forward_path (numbers_of added))
  path-in [] ends = tt
  path-in (s ∷ added) ends = (ends.0.there, path-in added ends.1)

-- Rows by their numbers.
use Rattle.std.proofs.Common.{◌≡◌, ◌≢◌, ℕ, refl, sym, ap, subst, ◌∙◌, List, [], ◌∷◌, map, Option, Some, None, Bool, true, false, not, true≢false, eqb-true, eq-eqb, arith, ◌⊎◌, inl, inr}
use Rattle.std.proofs.lemmas.Bool.{false_from_ne_true}
use Rattle.std.specs.Prelude.{IsTrue, ◌↔◌, is_some, ◌==◌}
use Rattle.std.specs.List.{Contains}
use Rattle.geo_exact.specs.Position.{Position}
use Rattle.cad_rows.specs.declared.rows.PointRow.{PointRow}
use Rattle.cad_rows.specs.declared.rows.StringRow.{StringRow}
use Rattle.cad_map.specs.Crossings.{HasPlacedRows, HasTwoPoints}
use Rattle.cad_map.specs.Map.{Map, has_point, position_of, point_of, string_of}
use Rattle.numbered_rows.specs.Rows.{row_with}
use Rattle.cad_map.specs.Valid.{EachPair, HasSoundRows, is_same_position}
use Rattle.cad_map.proofs.CallerLemmas.{Contains-cases, Contains-first, Contains-later, All-at_each, All-from_each, Contains-map, find-Contains, all-placed}
use Rattle.cad_near.specs.Near.{OfPoint, OfString}
use Rattle.cad_valid.proofs.CallerLemmas.{same_position}

-- it holds of the row with this number, if there is one
abbrev pub OfRow : {R : Type 0} → (R → ℕ) → List R → (R → Type 0) → ℕ → Type 0
OfRow {R} number rows P n = (r : R) → Contains rows r → number r ≡ n → P r

module _ {R : Type 0} (number : R → ℕ) where
  -- a row of a table without repeated numbers is the one that its number finds
  pub row-is : (rows : List R) (row : R) → EachPair (λ a b. a ≢ b) (map number rows) → Contains rows row → row_with number (number row) rows ≡ Some row
  row-is [] row apart h = let low = h.1 in absurd (omega arith)
  row-is (r ∷ rows) row apart h = by (number r == number row) refl (Contains-cases r rows row h) (λ later. row-is rows row apart.1 later)
    where
      by : (b : Bool) → (number r == number row) ≡ b → (r ≡ row) ⊎ Contains rows row → (Contains rows row → row_with number (number row) rows ≡ Some row) → row_with number (number row) (r ∷ rows) ≡ Some row
      by true is (inl same) again = rw is (ap Some same)
      by true is (inr later) again = absurd (All-at_each (λ b. number r ≢ b) (map number rows) (number row) apart.0 (Contains-map number rows row later) (eqb-true (number r) (number row) is))
      by false is (inl same) again = absurd (true≢false (sym (eq-eqb (number r) (number row) (ap number same)) ∙ is))
      by false is (inr later) again = rw is (again later)

  -- and one that a number finds is a row of the table, with that number
  pub row-found_is : (rows : List R) (n : ℕ) (row : R) → row_with number n rows ≡ Some row → Contains rows row × (number row ≡ n)
  row-found_is rows n row is = let f = find-Contains (λ (r : R). number r == n) rows row is in (f.0, eqb-true (number row) n f.1)

  module _ (rows : List R) (apart : EachPair (λ a b. a ≢ b) (map number rows)) (P : R → Type 0) (n : ℕ) where
    -- the number finds each row with it
    row-at : (r : R) → Contains rows r → number r ≡ n → row_with number n rows ≡ Some r
    row-at r h same = ap (λ (k : ℕ). row_with number k rows) (sym same) ∙ row-is rows r apart h

    -- what holds of the row that a number finds holds of each with that number
    pub of-row : (row : R) → row_with number n rows ≡ Some row → (b : Bool) → IsTrue b ↔ P row → IsTrue b ↔ OfRow number rows P n
    of-row row found b is = (
      (λ t r h same. let e : Some r ≡ Some row = sym (row-at r h same) ∙ found in let one : r ≡ row = cc in subst P (sym one) (is.0 t)),
      (λ each. is.1 (each row (row-found_is rows n row found).0 (row-found_is rows n row found).1)),
    )

    -- and where it finds none, anything does
    pub of-none : row_with number n rows ≡ None → IsTrue true ↔ OfRow number rows P n
    of-none none = (
      (λ t r h same. let e : Some r ≡ None = sym (row-at r h same) ∙ none in absurd (cc)),
      (λ each. refl),
    )

  -- what holds of any two rows with different numbers holds of each pair
  pub pairs-from : (P : R → R → Type 0) (rows : List R) → EachPair (λ a b. a ≢ b) (map number rows) → ((r s : R) → Contains rows r → Contains rows s → number r ≢ number s → P r s) → EachPair P rows
  pairs-from P [] apart each = tt
  pairs-from P (r ∷ rows) apart each = (
    All-from_each (P r) rows (λ s h. each r s (Contains-first r rows) (Contains-later r rows s h) (All-at_each (λ b. number r ≢ b) (map number rows) (number s) apart.0 (Contains-map number rows s h))),
    pairs-from P rows apart.1 (λ s t h k. each s t (Contains-later r rows s h) (Contains-later r rows t k)),
  )

-- ---- Points and strings of a map

module _ (m : Map) (sound : HasSoundRows m) where
  pub of_point : (P : PointRow → Type 0) (n : ℕ) (row : PointRow) → point_of m n ≡ Some row → (b : Bool) → IsTrue b ↔ P row → IsTrue b ↔ OfPoint m P n
  unfolding OfPoint
  of_point P n = of-row (λ (r : PointRow). r.number) m.points sound.points.distinct P n

  pub of_no_point : (P : PointRow → Type 0) (n : ℕ) → point_of m n ≡ None → IsTrue true ↔ OfPoint m P n
  unfolding OfPoint
  of_no_point P n = of-none (λ (r : PointRow). r.number) m.points sound.points.distinct P n

  pub of_string : (P : StringRow → Type 0) (n : ℕ) (row : StringRow) → string_of m n ≡ Some row → (b : Bool) → IsTrue b ↔ P row → IsTrue b ↔ OfString m P n
  unfolding OfString
  of_string P n = of-row (λ (r : StringRow). r.number) m.strings sound.strings.distinct P n

  pub of_no_string : (P : StringRow → Type 0) (n : ℕ) → string_of m n ≡ None → IsTrue true ↔ OfString m P n
  unfolding OfString
  of_no_string P n = of-none (λ (r : StringRow). r.number) m.strings sound.strings.distinct P n

  pub point-is : (r : PointRow) → Contains m.points r → point_of m r.number ≡ Some r
  point-is r h = row-is (λ (q : PointRow). q.number) m.points r sound.points.distinct h

  pub point-position : (r : PointRow) → Contains m.points r → position_of m r.number ≡ r.position
  point-position r h = rw (point-is r h) refl

  pub point-there : (r : PointRow) → Contains m.points r → IsTrue (has_point m r.number)
  point-there r h = rw (point-is r h) refl

-- both ends of a string that a number finds are points
pub string-ends : (m : Map) → HasSoundRows m → (n : ℕ) (row : StringRow) → string_of m n ≡ Some row → IsTrue (has_point m row.from) × IsTrue (has_point m row.to)
string-ends m sound n row found =
    All-at_each (λ s. IsTrue (has_point m s.from) × IsTrue (has_point m s.to)) m.strings row sound.ends (row-found_is (λ (r : StringRow). r.number) m.strings n row found).0

pub string-placed : (m : Map) → HasPlacedRows m → (n : ℕ) (row : StringRow) → string_of m n ≡ Some row → HasTwoPoints m row
string-placed m rows n row found = All-at_each (HasTwoPoints m) m.strings row (all-placed m rows) (row-found_is (λ (r : StringRow). r.number) m.strings n row found).0

pub record RowOf (m : Map) (p : ℕ) : Type 0 where
  pub row : PointRow
  pub there : Contains m.points row
  pub number : row.number ≡ p
  pub position : row.position ≡ position_of m p

pub row-of : (m : Map) (p : ℕ) → IsTrue (has_point m p) → RowOf m p
row-of m p some = by (point_of m p) refl
  where
    by : (o : Option PointRow) → point_of m p ≡ o → RowOf m p
    by None is = absurd (true≢false (sym some ∙ ap is_some is))
    by (Some r) is = let f = row-found_is (λ (q : PointRow). q.number) m.points p r is in record { row = r; there = f.0; number = f.1; position = rw is refl }

-- ---- Positions

pub other-position : (a b : Position) → ¬ (a ≡ b) → not (is_same_position a b) ≡ true
other-position a b ne = ap not (false_from_ne_true (is_same_position a b) (λ t. ne (same_position a b t)))

-- what is told of a row that a number finds, and where it finds none
pub ruleset rows_found = (of_point, of_no_point, of_string, of_no_string)

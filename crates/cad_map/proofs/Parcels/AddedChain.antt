-- Strings along a chain of known points, and points that no string has.
use Rattle.std.proofs.Common.{◌≡◌, ◌≢◌, ℕ, ◌+◌, ◌≤◌, inl, inr, sym, ap, subst, ◌∙◌, List, [], ◌∷◌, length, map, true, false, None, arith}
use Rattle.std.specs.Prelude.{IsTrue, ◌==◌}
use Rattle.std.specs.List.{AllByRecursion, Contains}
use Rattle.std.proofs.lemmas.List.{length-map}
use Rattle.std.proofs.lemmas.Bool.Decides.{nat_tests}
use Rattle.cad_rows.specs.Limits.{IsNumber, IsLabel, row_limit, string_limit}
use Rattle.cad_rows.specs.declared.rows.StringRow.{StringRow}
use Rattle.cad_rings.specs.Cycle.{Side}
use Rattle.cad_rings.specs.Surgery.{sides_of_chain}
use Rattle.cad_map.specs.Map.{Map, string_of, parcel_of, has_point, has_source, is_retired, side_of, is_end, is_free, strings_at, all_sides}
use Rattle.cad_map.specs.Chain.{are_distinct, strings_along}
use Rattle.cad_map.specs.Valid.{AreSources, IsValid}
use Rattle.cad_map.proofs.Lists.Elements.{All-from_each}
use Rattle.cad_map.proofs.Lists.ElementFacts.{Contains-filter}
use Rattle.cad_map.proofs.Boundaries.FacesBeside.{of_string}
use Rattle.cad_map.proofs.Ends.Meetings.{is_end-of}
use Rattle.cad_map.proofs.Parcels.ChainFacts.{HasNoOpposites, pairs-from_distinct, ends-chain, sides-strings_along, numbers-strings_along, sources-strings_along}
use Rattle.cad_map.proofs.Parcels.AddedRows.{CanBeAdded, one_source}

-- ---- Strings along a chain can be added

-- what speaks for new strings and a new parcel
pub record CanAddRows (m : Map) (strings : List ℕ) (parcel : ℕ) (label : List ℕ) (source : ℕ) : Type 0 where
  pub source_there : has_source m source ≡ true
  pub strings_new : AllByRecursion (λ s. string_of m s ≡ None) strings
  pub parcel_new : parcel_of m parcel ≡ None
  pub not_retired : is_retired m parcel ≡ false
  pub strings_distinct : are_distinct strings ≡ true
  pub few_strings : length m.strings + length strings ≤ string_limit
  pub few_parcels : length m.parcels + 1 ≤ row_limit
  pub string_numbers : AllByRecursion IsNumber strings
  pub parcel_number : IsNumber parcel
  pub is_label : IsLabel label

-- and for such strings along a chain
pub record CanAddAlong (m : Map) (chain strings : List ℕ) (parcel : ℕ) (label : List ℕ) (source : ℕ) : Type 0 where
  pub rows : CanAddRows m strings parcel label source
  pub points_there : AllByRecursion (λ p. IsTrue (has_point m p)) chain
  pub as_many : length strings + 1 ≡ length chain
  pub no_opposites : HasNoOpposites (sides_of_chain chain)

-- a fact of what comes of each element is one of each element
pub All-of_map : {X Y : Type 0} (P : Y → Type 0) (f : X → Y) (xs : List X) → AllByRecursion P (map f xs) → AllByRecursion (λ x. P (f x)) xs
All-of_map P f [] all = tt
All-of_map P f (x ∷ xs) all = (all.0, All-of_map P f xs all.1)

-- a side that is its own opposite would have its opposite beside it
two_ends : (sides : List Side) → HasNoOpposites sides → AllByRecursion (λ (s : Side). s.0 ≢ s.1) sides
two_ends sides apart = All-from_each (λ (s : Side). s.0 ≢ s.1) sides (λ s h same. apart.none s h (subst (Contains sides) (λ i. (same i, sym same i)) h))

pub along-can_be_added : (m : Map) (chain strings : List ℕ) (parcel : ℕ) (label : List ℕ) (source : ℕ) → CanAddAlong m chain strings parcel label source → CanBeAdded m (strings_along (source ∷ []) strings chain) parcel label source
along-can_be_added m chain strings parcel label source can =
    let rows = strings_along (source ∷ []) strings chain in
    let along = sides-strings_along (source ∷ []) strings chain can.as_many in
    let numbered = numbers-strings_along (source ∷ []) strings chain can.as_many in
    let ended : AllByRecursion (λ (s : Side). IsTrue (has_point m s.0) × IsTrue (has_point m s.1)) (sides_of_chain chain) = ends-chain (λ p. IsTrue (has_point m p)) chain can.points_there in
    record {
      source_there = can.rows.source_there;
      numbers = rw numbered (record { in_range = can.rows.string_numbers; distinct = pairs-from_distinct strings can.rows.strings_distinct });
      new = rw numbered can.rows.strings_new;
      ends = All-of_map (λ (s : Side). IsTrue (has_point m s.0) × IsTrue (has_point m s.1)) side_of rows (rw along ended);
      two = All-of_map (λ (s : Side). s.0 ≢ s.1) side_of rows (rw along (two_ends (sides_of_chain chain) can.no_opposites));
      sources = sources-strings_along (source ∷ []) (AreSources m.sources) (one_source m source can.rows.source_there) strings chain;
      few_strings = let e = sym (length-map rows (λ (r : StringRow). r.number)) ∙ ap length numbered in omega (arith, e, can.rows.few_strings);
      parcel_number = can.rows.parcel_number;
      parcel_new = can.rows.parcel_new;
      not_retired = can.rows.not_retired;
      is_label = can.rows.is_label;
      few_parcels = can.rows.few_parcels;
    }

-- ---- Points that no string has

-- a string of the map that joins the two ends of a side
pub record IsJoined (m : Map) (s : Side) : Type 0 where
  pub string : StringRow
  pub there : Contains m.strings string
  pub at_start : is_end string s.0 ≡ true
  pub at_end : is_end string s.1 ≡ true

module _ (m : Map) (valid : IsValid m) where
  -- the ends of a side of a ring are joined by a string
  pub joined-in : (s : Side) → Contains (all_sides m) s → IsJoined m s
  joined-in s h =
      let of = of_string m valid s h in
      let t = of.string in
      record {
        string = t;
        there = of.there;
        at_start = elim of.is [ inl is ↦ is_end-of t s.0 (inl (ap (λ (u : Side). u.0) (sym is))) | inr is ↦ is_end-of t s.0 (inr (ap (λ (u : Side). u.0) (sym is))) ];
        at_end = elim of.is [ inl is ↦ is_end-of t s.1 (inr (ap (λ (u : Side). u.1) (sym is))) | inr is ↦ is_end-of t s.1 (inl (ap (λ (u : Side). u.1) (sym is))) ];
      }

  -- a free point is the end of no string
  no_end-free : (p : ℕ) → is_free m p ≡ true → (t : StringRow) → Contains m.strings t → is_end t p ≡ true → ⊥
  no_end-free p free t there end = by (strings_at m p) free (Contains-filter (λ s. is_end s p) m.strings t there end)
    where
      by : (ts : List StringRow) → (length ts == 0) ≡ true → Contains ts t → ⊥
      by [] none has = let low = has.1 in omega arith
      by (u ∷ ts) none has = grind (arith, nat_tests, none)

  -- so no ring has a side from it or to it
  pub no_side-free : (s : Side) → is_free m s.0 ≡ true → Contains (all_sides m) s → ⊥
  no_side-free s free h = let k = joined-in s h in no_end-free s.0 free k.string k.there k.at_start

  pub no_side_to-free : (s : Side) → is_free m s.1 ≡ true → Contains (all_sides m) s → ⊥
  no_side_to-free s free h = let k = joined-in s h in no_end-free s.1 free k.string k.there k.at_end

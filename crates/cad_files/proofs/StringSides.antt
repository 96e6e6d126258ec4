-- The sides of strings in their order, and the strings that spokes are of.
use Rattle.std.proofs.Common.{◌≡◌, ◌∙◌, sym, ap, refl, ℕ, zero, suc, ◌+◌, ◌*◌, ◌<◌, ◌==◌, ◌⊎◌, inl, inr, List, [], ◌∷◌, ◌++◌, append_assoc, map, drop, get_or, Bool, true, false, ◌||◌, Option, Some, None, option_map, slice_get, length, arith}
use Rattle.std.specs.Prelude.{flat_map}
use Rattle.std.specs.List.{Contains}
use Rattle.std.proofs.lemmas.Bool.{eqb-true}
use Rattle.std.proofs.lemmas.List.{map-append, drop_more}
use Rattle.std.proofs.lemmas.Option.{slice_get-map}
use Rattle.cad_rows.specs.declared.rows.StringRow.{StringRow}
use Rattle.cad_rings.specs.Cycle.{Side, opposite}
use Rattle.cad_map.specs.Map.{Map, side_of, is_end, far_end}
use Rattle.cad_map.proofs.CallerLemmas.{All-at_each, filter-Contains, IsSpoke, IsSpoke-all}
use Rattle.cad_map.specs.Stars.{star, spokes_of}
use Rattle.cad_files.specs.Follower.{followers, LabelledSide, labelled_sides}
use Rattle.cad_files.specs.Corners.{labelled, IsStop, IsSpokeOf}
use Rattle.cad_files.specs.declared.sides.PlanSide.{PlanSide}
use Rattle.cad_map.specs.declared.stars.Spoke.{Spoke}
use Rattle.cad_files.specs.declared.rows.PlanString.{PlanString}

-- ---- Two sides a string

module _ {A B : Type 0} (f g : A → B) where
  first-at : (xs : List A) (k : ℕ) (x : A) → slice_get xs k ≡ Some x → slice_get (flat_map (λ x. f x ∷ g x ∷ []) xs) (2 * k) ≡ Some (f x)
  first-at [] k x at = cc
  first-at (y ∷ xs) zero x at = let same : y ≡ x = cc in ap (λ (z : A). Some (f z)) same
  first-at (y ∷ xs) (suc k) x at = let e : 2 * suc k ≡ suc (suc (2 * k)) = omega arith in rw e (first-at xs k x at)

  second-at : (xs : List A) (k : ℕ) (x : A) → slice_get xs k ≡ Some x → slice_get (flat_map (λ x. f x ∷ g x ∷ []) xs) (2 * k + 1) ≡ Some (g x)
  second-at [] k x at = cc
  second-at (y ∷ xs) zero x at = let same : y ≡ x = cc in ap (λ (z : A). Some (g z)) same
  second-at (y ∷ xs) (suc k) x at = let e : 2 * suc k + 1 ≡ suc (suc (2 * k + 1)) = omega arith in rw e (second-at xs k x at)

abbrev left_of_string : PlanString → LabelledSide
left_of_string s = record { side = side_of s.row; string = s.row.number; face = s.left }

abbrev right_of_string : PlanString → LabelledSide
right_of_string s = record { side = opposite (side_of s.row); string = s.row.number; face = s.right }

module _ (strings : List PlanString) (spoke : Spoke) (is : IsSpokeOf strings spoke) where
  abbrev sides : List Side
  sides = map (λ l. l.side) (labelled_sides strings)

  pub along-first : is.string.row.from ≡ spoke.at → slice_get sides (2 * spoke.place) ≡ Some (spoke.at, spoke.far)
  along-first from =
      slice_get-map (λ (l : LabelledSide). l.side) (labelled_sides strings) (2 * spoke.place)
      ∙ ap (option_map (λ (l : LabelledSide). l.side)) (first-at left_of_string right_of_string strings spoke.place is.string is.there)
      ∙ ap (λ (s : Side). Some s) (by is.ends)
    where
      by : ((is.string.row.from ≡ spoke.at) × (is.string.row.to ≡ spoke.far)) ⊎ ((is.string.row.from ≡ spoke.far) × (is.string.row.to ≡ spoke.at)) → ◌≡◌ {A = Side} (is.string.row.from, is.string.row.to) (spoke.at, spoke.far)
      by (inl e) = λ i. (e.0 i, e.1 i)
      by (inr e) = let to : is.string.row.to ≡ spoke.far = e.1 ∙ sym from ∙ e.0 in λ i. (from i, to i)

  pub along-second : (is.string.row.from ≡ spoke.at → ⊥) → slice_get sides (2 * spoke.place + 1) ≡ Some (spoke.at, spoke.far)
  along-second other =
      slice_get-map (λ (l : LabelledSide). l.side) (labelled_sides strings) (2 * spoke.place + 1)
      ∙ ap (option_map (λ (l : LabelledSide). l.side)) (second-at left_of_string right_of_string strings spoke.place is.string is.there)
      ∙ ap (λ (s : Side). Some s) (by is.ends)
    where
      by : ((is.string.row.from ≡ spoke.at) × (is.string.row.to ≡ spoke.far)) ⊎ ((is.string.row.from ≡ spoke.far) × (is.string.row.to ≡ spoke.at)) → ◌≡◌ {A = Side} (is.string.row.to, is.string.row.from) (spoke.at, spoke.far)
      by (inl e) = absurd (other e.0)
      by (inr e) = λ i. (e.1 i, e.0 i)

-- ---- Spokes of a map

module _ (m : Map) (strings : List PlanString) (rows : m.strings ≡ map (λ s. s.row) strings) (p : ℕ) (spoke : Spoke) (there : Contains (star p (spokes_of m)) spoke) where
  parts : Contains (spokes_of m) spoke × ((spoke.at == p) ≡ true)
  parts = filter-Contains (λ s. s.at == p) (spokes_of m) spoke there

  is_spoke : IsSpoke m spoke
  is_spoke = All-at_each (IsSpoke m) (spokes_of m) spoke (IsSpoke-all m) parts.0

  pub spoke-at : spoke.at ≡ p
  spoke-at = eqb-true spoke.at p parts.1

  pub spoke-of : IsSpokeOf strings spoke
  spoke-of = by (slice_get strings spoke.place) refl
    where
      of_row : option_map (λ (s : PlanString). s.row) (slice_get strings spoke.place) ≡ Some is_spoke.row
      of_row =
          sym (slice_get-map (λ (s : PlanString). s.row) strings spoke.place)
          ∙ ap (λ (l : List StringRow). slice_get l spoke.place) (sym rows) ∙ is_spoke.found

      ends : (t : StringRow) → is_end t spoke.at ≡ true → far_end t spoke.at ≡ spoke.far
          → ((t.from ≡ spoke.at) × (t.to ≡ spoke.far)) ⊎ ((t.from ≡ spoke.far) × (t.to ≡ spoke.at))
      ends t end far = either (t.from == spoke.at) refl end far
        where
          either : (b : Bool) → (t.from == spoke.at) ≡ b → (b || (t.to == spoke.at)) ≡ true → far_end t spoke.at ≡ spoke.far
              → ((t.from ≡ spoke.at) × (t.to ≡ spoke.far)) ⊎ ((t.from ≡ spoke.far) × (t.to ≡ spoke.at))
          either true is end far = inl (eqb-true t.from spoke.at is, rw is at far)
          either false is end far = inr (rw is at far, eqb-true t.to spoke.at end)

      by : (o : Option PlanString) → slice_get strings spoke.place ≡ o → IsSpokeOf strings spoke
      by None is = let none : None ≡ Some is_spoke.row = sym (ap (option_map (λ (s : PlanString). s.row)) is) ∙ of_row in cc
      by (Some string) is =
          let some : Some string.row ≡ Some is_spoke.row = sym (ap (option_map (λ (s : PlanString). s.row)) is) ∙ of_row in
          let same : string.row ≡ is_spoke.row = cc in
          record {
            string = string;
            there = is;
            ends = ends string.row (ap (λ (t : StringRow). is_end t spoke.at) same ∙ is_spoke.is_end) (ap (λ (t : StringRow). far_end t spoke.at) same ∙ is_spoke.far);
          }

-- ---- One string after another

module _ (m : Map) (strings : List PlanString) (i : ℕ) (string : PlanString) (within : i < length strings) (at : string ≡ get_or strings i string) (passed : List PlanSide) (sides_at : map labelled passed ++ labelled_sides (drop i strings) ≡ labelled_sides strings) where
  abbrev later : List LabelledSide
  later = labelled_sides (drop (i + 1) strings)

  parted : map labelled passed ++ left_of_string string ∷ right_of_string string ∷ later ≡ labelled_sides strings
  parted = ap (λ (ss : List PlanString). map labelled passed ++ labelled_sides ss) (ap (λ (s : PlanString). s ∷ drop (i + 1) strings) at ∙ sym (drop_more strings i string within)) ∙ sides_at

  pub stop-left : (length (followers m (side_of string.row)) == 1) ≡ false → IsStop m strings passed string.row.to
  stop-left bad = record { side = left_of_string string; rest = right_of_string string ∷ later; are = parted; ends = refl; bad = bad }

  module _ (left : PlanSide) (is_left : labelled left ≡ left_of_string string) where
    parted_two : map labelled (passed ++ left ∷ []) ++ right_of_string string ∷ later ≡ labelled_sides strings
    parted_two =
        ap (λ (l : List LabelledSide). l ++ right_of_string string ∷ later) (map-append labelled passed (left ∷ []))
        ∙ append_assoc (map labelled passed) (labelled left ∷ []) (right_of_string string ∷ later)
        ∙ ap (λ (l : LabelledSide). map labelled passed ++ l ∷ right_of_string string ∷ later) is_left ∙ parted

    pub stop-right : (length (followers m (opposite (side_of string.row))) == 1) ≡ false → IsStop m strings (passed ++ left ∷ []) string.row.from
    stop-right bad = record { side = right_of_string string; rest = later; are = parted_two; ends = refl; bad = bad }

    pub both-passed : (right : PlanSide) → labelled right ≡ right_of_string string → map labelled ((passed ++ left ∷ []) ++ right ∷ []) ++ later ≡ labelled_sides strings
    both-passed right is_right =
        ap (λ (l : List LabelledSide). l ++ later) (map-append labelled (passed ++ left ∷ []) (right ∷ []))
        ∙ append_assoc (map labelled (passed ++ left ∷ [])) (labelled right ∷ []) later
        ∙ ap (λ (l : LabelledSide). map labelled (passed ++ left ∷ []) ++ l ∷ later) is_right ∙ parted_two

-- The halves of two maps of which one has a point between two others.
use Rattle.std.proofs.Common.{◌≡◌, ◌≢◌, ℕ, ◌⊎◌, inl, inr, refl, sym, ap, subst, ◌∙◌, ◌∷◌, Bool, true, false, true≢false, map, nat_eq, not}
use Rattle.std.specs.Prelude.{IsTrue, ◌↔◌}
use Rattle.std.specs.List.{AllByRecursion, Contains, IsDistinct}
use Rattle.std.proofs.lemmas.Bool.Decides.{Decides-eqb}
use Rattle.std.proofs.lemmas.List.Sorted.{IsPermutation-sym, IsPermutation-map, Contains-permutation}
use Rattle.cad_rows.specs.declared.rows.StringRow.{StringRow}
use Rattle.cad_rings.specs.Cycle.{Side, opposite}
use Rattle.cad_map.specs.Map.{Map, side_of}
use Rattle.cad_map.specs.Valid.{EachPair}
use Rattle.cad_map.proofs.CallerLemmas.{Contains-cases, Contains-first, Contains-later, Contains-map, All-at_each, pairs-IsPermutation}
use Rattle.half_table.specs.declared.half.Half.{Half}
use Rattle.half_table.specs.Half.{twin, is_half, half_of, forward_of, backward_of}
use Rattle.half_table.specs.Rows.{HalfRows, has, origin_of}
use Rattle.half_table.proofs.Halves.{twin-twin, is_half-other}
use Rattle.cad_laws.specs.Local.{IsShown, side_by}
use Rattle.map_parts.specs.Parts.{HasHalves}
use Rattle.map_parts.specs.Passing.{IsHalfAlong, HasBetween}
use Rattle.map_parts.specs.declared.edits.passing.Passing.{Passing}
use Rattle.map_parts.proofs.PartsRings.{found-row, row-there}
use Rattle.map_parts.proofs.WholeStrings.{two-ends}

-- ---- Two halves of one string

same_way : (a b : Bool) → (a ≡ b) ⊎ (a ≡ not b)
same_way true true = inl refl
same_way false false = inl refl
same_way true false = inr refl
same_way false true = inr refl

pub half-or_twin : (g h : Half) → g.string ≡ h.string → (g ≡ h) ⊎ (g ≡ twin h)
half-or_twin g h same = elim (same_way g.forward h.forward) [
  | inl e ↦ inl (λ i. half_of (same i) (e i))
  | inr e ↦ inr (λ i. half_of (same i) (e i))
]

pub other-half : (g h : Half) → g.string ≢ h.string → is_half g h ≡ false
other-half g h apart = is_half-other g h (λ e. apart (ap (λ (x : Half). x.string) e))

pub twin-side : (rows : HalfRows) (h : Half) → side_by rows (twin h) ≡ opposite (side_by rows h)
twin-side rows h = λ i. (origin_of rows (twin h), origin_of rows (twin-twin h i))

-- the half of a string whose halves are there
pub along-side : (rows : HalfRows) (row : StringRow) (h : Half) (s : Side) → HasHalves rows row
    → IsHalfAlong row h s → (has rows h ≡ true) × (side_by rows h ≡ s)
along-side rows row h s there along = by h.forward refl
  where
    by : (t : Bool) → h.forward ≡ t → (has rows h ≡ true) × (side_by rows h ≡ s)
    by true e =
        let is : h ≡ forward_of row.number = λ i. half_of (along.string i) (e i) in
        let side : side_of row ≡ s = rw e at along.side in (
          ap (has rows) is ∙ there.there,
          ap (side_by rows) is ∙ (λ i. (there.from i, there.to i)) ∙ side,
        )
    by false e =
        let is : h ≡ backward_of row.number = λ i. half_of (along.string i) (e i) in
        let side : opposite (side_of row) ≡ s = rw e at along.side in (
          ap (has rows) is ∙ there.back,
          ap (side_by rows) is ∙ (λ i. (there.to i, there.from i)) ∙ side,
        )

-- the ends of its side differ
pub along-two : (row : StringRow) (h : Half) (s : Side) → row.from ≢ row.to → IsHalfAlong row h s
    → s.0 ≢ s.1
along-two row h s two along same = by h.forward refl
  where
    by : (t : Bool) → h.forward ≡ t → ⊥
    by true e =
        let side : side_of row ≡ s = rw e at along.side in
        two (ap (λ (u : Side). u.0) side ∙ same ∙ sym (ap (λ (u : Side). u.1) side))
    by false e =
        let side : opposite (side_of row) ≡ s = rw e at along.side in
        two (ap (λ (u : Side). u.1) side ∙ sym same ∙ sym (ap (λ (u : Side). u.0) side))

-- numbers that differ are other numbers
pub nat-other : (a b : ℕ) → nat_eq a b ≡ false → a ≢ b
nat-other a b e same = true≢false (sym ((Decides-eqb a b).1 same) ∙ e)

nat_eq-is : (a b : ℕ) → IsTrue (nat_eq a b) ↔ (a ≡ b)
nat_eq-is a b = ((Decides-eqb a b).0, (Decides-eqb a b).1)

-- the sides along which the three halves lead, and back
pub record LeadBetween (rows : HalfRows) (p a b : ℕ) (passing : Passing) : Type 0 where
  pub first : side_by rows passing.first ≡ (a, p)
  pub second : side_by rows passing.second ≡ (p, b)
  pub whole : side_by rows passing.whole ≡ (a, b)
  pub first_back : side_by rows (twin passing.first) ≡ (p, a)
  pub second_back : side_by rows (twin passing.second) ≡ (b, p)
  pub whole_back : side_by rows (twin passing.whole) ≡ (b, a)

module _ {through past : Map} {p a b : ℕ} {passing : Passing}
    (it : HasBetween through past p a b passing) where
  -- ---- The strings differ

  different : (nat_eq passing.whole.string passing.first.string ≡ false) × (nat_eq passing.whole.string passing.second.string ≡ false) × (nat_eq passing.first.string passing.second.string ≡ false)
  unfolding IsDistinct
  different = let d = it.different in (d.0.0, d.0.1.0, d.1.0.0)

  pub zx : passing.whole.string ≢ passing.first.string
  zx = nat-other passing.whole.string passing.first.string different.0

  pub zy : passing.whole.string ≢ passing.second.string
  zy = nat-other passing.whole.string passing.second.string different.1

  pub xy : passing.first.string ≢ passing.second.string
  xy = nat-other passing.first.string passing.second.string different.2

  -- ---- Whose halves they are

  -- a half of a string that both maps have
  pub record IsOther (h : Half) : Type 0 where
    pub row : StringRow
    pub there : Contains it.others row
    pub number : row.number ≡ h.string

  numbers-through : EachPair (λ i j. i ≢ j) (map (λ (s : StringRow). s.number) (it.first_row ∷ it.second_row ∷ it.others))
  numbers-through =
      pairs-IsPermutation nat_eq nat_eq-is _ _ (IsPermutation-map (λ (s : StringRow). s.number) _ _ it.strings)
      it.rings.v1.strings.distinct

  numbers-past : EachPair (λ i j. i ≢ j) (map (λ (s : StringRow). s.number) (it.whole_row ∷ it.others))
  numbers-past =
      pairs-IsPermutation nat_eq nat_eq-is _ _
      (IsPermutation-map (λ (s : StringRow). s.number) _ _ it.strings_past)
      it.rings_past.v1.strings.distinct

  apart-from : (n : ℕ) → AllByRecursion (λ k. n ≢ k) (map (λ (s : StringRow). s.number) it.others)
      → (h : Half) → IsOther h → h.string ≢ n
  apart-from n all h k same =
      All-at_each (λ k. n ≢ k) (map (λ (s : StringRow). s.number) it.others) k.row.number all
      (Contains-map (λ (s : StringRow). s.number) it.others k.row k.there) (sym same ∙ sym k.number)

  pub not-first : (h : Half) → IsOther h → h.string ≢ passing.first.string
  not-first h k same = apart-from it.first_row.number numbers-through.0.1 h k (same ∙ it.first_along.string)

  pub not-second : (h : Half) → IsOther h → h.string ≢ passing.second.string
  not-second h k same = apart-from it.second_row.number numbers-through.1.0 h k (same ∙ it.second_along.string)

  pub not-whole : (h : Half) → IsOther h → h.string ≢ passing.whole.string
  not-whole h k same = apart-from it.whole_row.number numbers-past.0 h k (same ∙ it.whole_along.string)

  in-through : (s : StringRow) → Contains (it.first_row ∷ it.second_row ∷ it.others) s → Contains through.strings s
  in-through s h = Contains-permutation _ _ s (IsPermutation-sym _ _ it.strings) h

  in-past : (s : StringRow) → Contains (it.whole_row ∷ it.others) s → Contains past.strings s
  in-past s h = Contains-permutation _ _ s (IsPermutation-sym _ _ it.strings_past) h

  pub first-in : Contains through.strings it.first_row
  first-in = in-through it.first_row (Contains-first it.first_row (it.second_row ∷ it.others))

  pub second-in : Contains through.strings it.second_row
  second-in = in-through it.second_row (Contains-later it.first_row (it.second_row ∷ it.others) it.second_row (Contains-first it.second_row it.others))

  pub whole-in : Contains past.strings it.whole_row
  whole-in = in-past it.whole_row (Contains-first it.whole_row it.others)

  pub other-in_through : (s : StringRow) → Contains it.others s → Contains through.strings s
  other-in_through s h = in-through s (Contains-later it.first_row (it.second_row ∷ it.others) s (Contains-later it.second_row it.others s h))

  pub other-in_past : (s : StringRow) → Contains it.others s → Contains past.strings s
  other-in_past s h = in-past s (Contains-later it.whole_row it.others s h)

  shown-row : (m : Map) (h : Half) (s : StringRow) → Contains m.strings s → s.number ≡ h.string → IsShown m h
  shown-row m h s there number =
      subst (λ (n : ℕ). IsShown m (half_of n h.forward)) number (row-there m.strings s there)

  pub first-shown : (h : Half) → h.string ≡ passing.first.string → IsShown through h
  first-shown h same = shown-row through h it.first_row first-in (sym it.first_along.string ∙ sym same)

  pub second-shown : (h : Half) → h.string ≡ passing.second.string → IsShown through h
  second-shown h same = shown-row through h it.second_row second-in (sym it.second_along.string ∙ sym same)

  pub whole-shown : (h : Half) → h.string ≡ passing.whole.string → IsShown past h
  whole-shown h same = shown-row past h it.whole_row whole-in (sym it.whole_along.string ∙ sym same)

  pub other-through : (h : Half) → IsOther h → IsShown through h
  other-through h k = shown-row through h k.row (other-in_through k.row k.there) k.number

  pub other-past : (h : Half) → IsOther h → IsShown past h
  other-past h k = shown-row past h k.row (other-in_past k.row k.there) k.number

  -- a half of the map with the point
  pub data IsThrough (h : Half) : Type 0 where
    is_first : h ≡ passing.first → IsThrough h
    is_first_back : h ≡ twin passing.first → IsThrough h
    is_second : h ≡ passing.second → IsThrough h
    is_second_back : h ≡ twin passing.second → IsThrough h
    is_other : IsOther h → IsThrough h

  -- and of the one without it
  pub data IsPast (h : Half) : Type 0 where
    is_whole : h ≡ passing.whole → IsPast h
    is_whole_back : h ≡ twin passing.whole → IsPast h
    is_elsewhere : IsOther h → IsPast h

  pub through-half : (h : Half) → IsShown through h → IsThrough h
  through-half h shown =
      let row = found-row through.strings h.string shown in
      elim (Contains-cases it.first_row (it.second_row ∷ it.others) row.0 (Contains-permutation _ _ row.0 it.strings row.1)) [
        | inl e ↦ elim (half-or_twin h passing.first (sym row.2 ∙ ap (λ (s : StringRow). s.number) (sym e) ∙ sym it.first_along.string)) [
          | inl same ↦ is_first same
          | inr back ↦ is_first_back back
        ]
        | inr later ↦ elim (Contains-cases it.second_row it.others row.0 later) [
          | inl e ↦ elim (half-or_twin h passing.second (sym row.2 ∙ ap (λ (s : StringRow). s.number) (sym e) ∙ sym it.second_along.string)) [
            | inl same ↦ is_second same
            | inr back ↦ is_second_back back
          ]
          | inr last ↦ is_other (record { row = row.0; there = last; number = row.2 })
        ]
      ]

  pub past-half : (h : Half) → IsShown past h → IsPast h
  past-half h shown =
      let row = found-row past.strings h.string shown in
      elim (Contains-cases it.whole_row it.others row.0 (Contains-permutation _ _ row.0 it.strings_past row.1)) [
        | inl e ↦ elim (half-or_twin h passing.whole (sym row.2 ∙ ap (λ (s : StringRow). s.number) (sym e) ∙ sym it.whole_along.string)) [
          | inl same ↦ is_whole same
          | inr back ↦ is_whole_back back
        ]
        | inr later ↦ is_elsewhere (record { row = row.0; there = later; number = row.2 })
      ]

  -- ---- The three points differ

  pub a-p : a ≢ p
  a-p = along-two it.first_row passing.first (a, p) (All-at_each (λ (s : StringRow). s.from ≢ s.to) through.strings it.first_row (two-ends through it.rings) first-in) it.first_along

  pub b-p : b ≢ p
  b-p same = along-two it.second_row passing.second (p, b) (All-at_each (λ (s : StringRow). s.from ≢ s.to) through.strings it.second_row (two-ends through it.rings) second-in) it.second_along (sym same)

  -- ---- In a table that has all three strings

  module _ (rows : HalfRows) (first_there : HasHalves rows it.first_row) (second_there : HasHalves rows it.second_row) (whole_there : HasHalves rows it.whole_row) where
    pub ways : LeadBetween rows p a b passing
    ways =
        let first = (along-side rows it.first_row passing.first (a, p) first_there it.first_along).1 in
        let second = (along-side rows it.second_row passing.second (p, b) second_there it.second_along).1 in
        let whole = (along-side rows it.whole_row passing.whole (a, b) whole_there it.whole_along).1 in
        record {
          first = first;
          second = second;
          whole = whole;
          first_back = twin-side rows passing.first ∙ ap opposite first;
          second_back = twin-side rows passing.second ∙ ap opposite second;
          whole_back = twin-side rows passing.whole ∙ ap opposite whole;
        }

    pub x-in : has rows passing.first ≡ true
    x-in = (along-side rows it.first_row passing.first (a, p) first_there it.first_along).0

    pub y-in : has rows passing.second ≡ true
    y-in = (along-side rows it.second_row passing.second (p, b) second_there it.second_along).0

    pub z-in : has rows passing.whole ≡ true
    z-in = (along-side rows it.whole_row passing.whole (a, b) whole_there it.whole_along).0

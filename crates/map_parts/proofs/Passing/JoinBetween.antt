-- A join that is tried takes a point out from between the far ends of its two strings.
use Rattle.std.proofs.Common.{◌≡◌, ◌≢◌, ℕ, refl, sym, ap, subst, ◌∙◌, List, [], ◌∷◌, ◌++◌, filter, Bool, true, false, true≢false, if◌then◌else◌, ◌==◌, not, Some, None, nat_eq, inl, inr, ◌⊎◌}
use Rattle.std.specs.Prelude.{IsPermutation, is_some}
use Rattle.std.specs.List.{Contains, IsDistinct}
use Rattle.std.proofs.lemmas.Bool.{eqb-true, eq-eqb, false_from_ne_true}
use Rattle.std.proofs.lemmas.List.Sorted.{IsPermutation-trans, IsPermutation-append_left, IsPermutation-append_comm, IsPermutation-filter_both}
use Rattle.cad_rows.specs.declared.edits.Edit.TheVariants.{Join}
use Rattle.cad_rows.specs.declared.names.Name.TheVariants as name
use Rattle.cad_rows.specs.declared.rows.StringRow.{StringRow}
use Rattle.cad_rings.specs.Cycle.{opposite}
use Rattle.cad_map.specs.Changes.{by_number, string_joining, joined_sources}
use Rattle.cad_map.specs.Effects.{after}
use Rattle.cad_map.specs.Map.{Map, point_of, string_of, side_of, strings_at, far_end, is_end}
use Rattle.cad_map.proofs.CallerLemmas.{allowed, there-one, free-join, two-joined, meet-at, at-first, at-second, differ, row-found, whole_valid, ends}
use Rattle.half_table.specs.Half.{half_of, forward_of}
use Rattle.half_paths.specs.Path.{AreDifferent}
use Rattle.cad_laws.specs.Joining.{FarEndsAreApart}
use Rattle.cad_laws.specs.Tried.{IsTried}
use Rattle.cad_laws.proofs.CallerLemmas.{join-at, whole-after}
use Rattle.map_parts.specs.Passing.{IsHalfAlong, HasBetween, path_at}

-- the half of a string that ends at the point leads to it from the far end
pub half-to : (s : StringRow) (p : ℕ) → is_end s p ≡ true
    → IsHalfAlong s (half_of s.number (not (s.from == p))) (far_end s p, p)
half-to s p end = record { string = refl; side = by (s.from == p) refl (ends s p end) }
  where
    by : (t : Bool) → (s.from == p) ≡ t
        → ((s.from ≡ p) × (s.to ≡ far_end s p)) ⊎ ((s.to ≡ p) × (s.from ≡ far_end s p))
        → (if not (s.from == p) then side_of s else opposite (side_of s)) ≡ (far_end s p, p)
    by true e which =
        let from = eqb-true s.from p e in
        (λ i. if not (e i) then side_of s else opposite (side_of s)) ∙ (λ i. (far i, from i))
      where
        far : s.to ≡ far_end s p
        far = (λ i. if sym e i then s.to else s.from)
    by false e which =
        let to : s.to ≡ p = elim which [ inl w ↦ absurd (apart w.0) | inr w ↦ w.0 ] in
        (λ i. if not (e i) then side_of s else opposite (side_of s)) ∙ (λ i. (far i, to i))
      where
        far : s.from ≡ far_end s p
        far = (λ i. if sym e i then s.to else s.from)

        apart : s.from ≡ p → ⊥
        apart same = true≢false (sym (eq-eqb s.from p same) ∙ e)

-- and the other one from it
pub half-from : (s : StringRow) (p : ℕ) → is_end s p ≡ true
    → IsHalfAlong s (half_of s.number (s.from == p)) (p, far_end s p)
half-from s p end = record { string = refl; side = by (s.from == p) refl (half-to s p end) }
  where
    by : (t : Bool) → (s.from == p) ≡ t → IsHalfAlong s (half_of s.number (not (s.from == p))) (far_end s p, p)
        → (if s.from == p then side_of s else opposite (side_of s)) ≡ (p, far_end s p)
    by true e along =
        let side : opposite (side_of s) ≡ (far_end s p, p) =
        (λ i. if not (sym e i) then side_of s else opposite (side_of s)) ∙ along.side in
        (λ i. if e i then side_of s else opposite (side_of s)) ∙ ap opposite side
    by false e along =
        let side : side_of s ≡ (far_end s p, p) =
        (λ i. if not (sym e i) then side_of s else opposite (side_of s)) ∙ along.side in
        (λ i. if e i then side_of s else opposite (side_of s)) ∙ ap opposite side

module _ (m : Map) (p new : ℕ) (s t : StringRow) (tried : IsTried m (Join p new))
    (are : by_number (strings_at m p) ≡ s ∷ t ∷ []) (apart : FarEndsAreApart m (Join p new)) where
  abbrev pub made : StringRow
  made = record { number = new; from = far_end s p; to = far_end t p; sources = joined_sources (s ∷ t ∷ []) }

  abbrev pub others : List StringRow
  others = filter (λ r. not (is_end r p)) m.strings

  pub join-at_point : IsPermutation (strings_at m p) (s ∷ t ∷ [])
  join-at_point =
      let two = meet-at m p (two-joined m p new (allowed m (Join p new) tried.allowed).not_degree_two) in
      let same : two.first ∷ two.second ∷ [] ≡ s ∷ t ∷ [] = sym two.are ∙ are in
      subst (IsPermutation (strings_at m p)) same two.at

  pub join-first : Contains m.strings s × (is_end s p ≡ true)
  join-first = at-first m tried.valid p s t join-at_point

  pub join-second : Contains m.strings t × (is_end t p ≡ true)
  join-second = at-second m tried.valid p s t join-at_point

  pub join-before : IsPermutation m.strings (s ∷ t ∷ others)
  join-before =
      IsPermutation-trans m.strings (strings_at m p ++ others) (s ∷ t ∷ others)
      (IsPermutation-filter_both (λ r. is_end r p) (λ r. not (is_end r p)) (λ r. refl) m.strings)
      (IsPermutation-append_left others (strings_at m p) (s ∷ t ∷ []) join-at_point)

  pub join-strings : (after m (Join p new)).strings ≡ others ++ made ∷ []
  unfolding after
  join-strings = ap (λ (l : List StringRow). others ++ string_joining p new l) are

  pub join-after : IsPermutation (after m (Join p new)).strings (made ∷ others)
  join-after =
      subst (λ (l : List StringRow). IsPermutation l (made ∷ others)) (sym join-strings)
      (IsPermutation-append_comm others (made ∷ []))

  pub join-parcels : (after m (Join p new)).parcels ≡ m.parcels
  unfolding after
  join-parcels = refl

  pub join-point_there : is_some (point_of m p) ≡ true
  join-point_there = there-one m (name.Point p) (allowed m (Join p new) tried.allowed).unknown

  pub join-free : string_of m new ≡ None
  join-free = free-join m p new (allowed m (Join p new) tried.allowed).taken

  pub join-found_first : string_of m s.number ≡ Some s
  join-found_first = row-found m.strings s tried.valid.sound.v1.strings.distinct join-first.0

  pub join-found_second : string_of m t.number ≡ Some t
  join-found_second = row-found m.strings t tried.valid.sound.v1.strings.distinct join-second.0

  -- the two strings have different numbers, as their far ends differ
  pub join-differ : s.number ≢ t.number
  join-differ e =
      let same : Some s ≡ Some t = sym join-found_first ∙ ap (string_of m) e ∙ join-found_second in
      let one : s ≡ t = cc in
      differ m tried.valid p s t join-at_point (ap (λ (r : StringRow). far_end r p) one)

  pub different : AreDifferent (forward_of new ∷ half_of s.number (not (s.from == p)) ∷ half_of t.number (t.from == p) ∷ [])
  unfolding IsDistinct
  different =
      let a : nat_eq new s.number ≡ false =
      false_from_ne_true (nat_eq new s.number) (λ h. none-some s (sym join-free ∙ ap (string_of m) (eqb-true new s.number h) ∙ join-found_first)) in
      let b : nat_eq new t.number ≡ false =
      false_from_ne_true (nat_eq new t.number) (λ h. none-some t (sym join-free ∙ ap (string_of m) (eqb-true new t.number h) ∙ join-found_second)) in
      let c : nat_eq s.number t.number ≡ false =
      false_from_ne_true (nat_eq s.number t.number) (λ h. join-differ (eqb-true s.number t.number h)) in
      ((a, (b, tt)), ((c, tt), (tt, tt)))
    where
      none-some : (r : StringRow) → None ≡ Some r → ⊥
      none-some r e = cc

  abbrev pub join-has_between : HasBetween m (after m (Join p new)) p (far_end s p) (far_end t p) (path_at p s t new)
  join-has_between = record {
    joined = join-at m p new s t tried.valid tried.allowed are;
    look = apart s t are;
    rings = whole_valid m tried.valid;
    rings_past = whole-after m (Join p new) tried.valid tried.given tried.allowed apart;
    parcels = join-parcels;
    first_row = s;
    second_row = t;
    whole_row = made;
    others = others;
    first_along = half-to s p join-first.1;
    second_along = half-from t p join-second.1;
    whole_along = record { string = refl; side = refl };
    different = different;
    strings = join-before;
    strings_past = join-after;
  }

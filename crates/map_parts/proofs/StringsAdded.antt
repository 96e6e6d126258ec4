-- A table with one string more.
use Rattle.std.proofs.Common.{◌≡◌, ◌≢◌, ℕ, ◌+◌, ◌==◌, Bool, true, false, List, [], ◌∷◌, ◌++◌, take, refl, sym, ap, ◌∙◌, subst, Some, None, true≢false, nat_eq, slice_get}
use Rattle.std.specs.Prelude.{is_some, if◌then◌else◌}
use Rattle.std.specs.List.{AllByRecursion}
use Rattle.std.proofs.lemmas.Bool.{eqb-true}
use Rattle.std.proofs.lemmas.Cmp.{nat_eq_equiv}
use Rattle.std.proofs.lemmas.List.{take_more, append_assoc}
use Rattle.std.proofs.lemmas.Option.{get_or_from_slice_get, slice_get_within}
use Rattle.cad_rows.specs.declared.rows.StringRow.{StringRow}
use Rattle.cad_map.specs.Map.{Map}
use Rattle.numbered_rows.specs.Rows.{row_with}
use Rattle.cad_map.specs.Rings.{HasWholeRings}
use Rattle.cad_map.proofs.CallerLemmas.{All-at_each, All-from_each, row_with-earlier}
use Rattle.half_table.specs.Half.{forward_of, backward_of, half_of}
use Rattle.half_table.specs.Rows.{HalfRows, IsLinked, has, has_halves}
use Rattle.half_table.specs.Surgery.{AddsLoose}
use Rattle.half_table.proofs.Strings.{has-string}
use Rattle.map_parts.specs.declared.stars.Spoke.{Spoke}
use Rattle.key_lists.specs.Held.{Held}
use Rattle.map_parts.specs.Stars.{spokes_of, spokes_at, AddsSpokes}
use Rattle.map_parts.proofs.WholeStrings.{two-ends}
use Rattle.map_parts.specs.Parts.{HasHalves}
use Rattle.map_parts.specs.Building.{HoldsStringsUpTo}

number : StringRow → ℕ
number s = s.number

row-snoc : (k : ℕ) (xs : List StringRow) (r : StringRow) → is_some (row_with (λ (s : StringRow). s.number) k (xs ++ r ∷ [])) ≡ (if nat_eq k r.number then true else is_some (row_with (λ (s : StringRow). s.number) k xs))
row-snoc k [] r = by (nat_eq k r.number) refl
  where
    by : (t : Bool) → nat_eq k r.number ≡ t → is_some (row_with (λ (s : StringRow). s.number) k (r ∷ [])) ≡ (if nat_eq k r.number then true else false)
    by true is = let back : (r.number == k) ≡ true = sym (nat_eq_equiv.symm k r.number) ∙ is in rw (is, back) refl
    by false is = let back : (r.number == k) ≡ false = sym (nat_eq_equiv.symm k r.number) ∙ is in rw (is, back) refl
row-snoc k (x ∷ xs) r = by (x.number == k) refl (row-snoc k xs r)
  where
    both : (t : Bool) → true ≡ (if t then true else true)
    both true = refl
    both false = refl

    by : (t : Bool) → (x.number == k) ≡ t → is_some (row_with (λ (s : StringRow). s.number) k (xs ++ r ∷ [])) ≡ (if nat_eq k r.number then true else is_some (row_with (λ (s : StringRow). s.number) k xs))
        → is_some (row_with (λ (s : StringRow). s.number) k (x ∷ xs ++ r ∷ [])) ≡ (if nat_eq k r.number then true else is_some (row_with (λ (s : StringRow). s.number) k (x ∷ xs)))
    by true is rest = rw is (both (nat_eq k r.number))
    by false is rest = rw is rest

spokes-snoc : (p : ℕ) (xs : List StringRow) (r : StringRow) → spokes_at p (xs ++ r ∷ []) ≡ spokes_at p xs ++ spokes_of p r
spokes-snoc p [] r = append-none (spokes_of p r)
  where
    append-none : (l : List Spoke) → l ++ [] ≡ l
    append-none [] = refl
    append-none (c ∷ l) = ap (λ (k : List Spoke). c ∷ k) (append-none l)
spokes-snoc p (x ∷ xs) r = ap (λ (l : List Spoke). spokes_of p x ++ l) (spokes-snoc p xs r) ∙ sym (append_assoc (spokes_of p x) (spokes_at p xs) (spokes_of p r))

All-snoc : {X : Type 0} (P : X → Type 0) (xs : List X) (x : X) → AllByRecursion P xs → P x → AllByRecursion P (xs ++ x ∷ [])
All-snoc P [] x all h = (h, tt)
All-snoc P (y ∷ xs) x all h = (all.0, All-snoc P xs x all.1 h)

module _ (m : Map) (whole : HasWholeRings m) (n : ℕ) (old : HalfRows) (held : Held Spoke) (st : HoldsStringsUpTo m n old held) (row : StringRow) (at : slice_get m.strings n ≡ Some row) where
  none : row_with (λ (s : StringRow). s.number) row.number (take n m.strings) ≡ None
  none = row_with-earlier (λ (s : StringRow). s.number) m.strings n row whole.v1.strings.distinct at

  absent : (f : Bool) → has old (half_of row.number f) ≡ false
  absent f = st.has (half_of row.number f) ∙ ap is_some none

  -- the next string isn't in the table
  pub next-free : has_halves old row.number ≡ false
  next-free = sym (has-string old (forward_of row.number)) ∙ absent true

  pub next-ends : row.from ≢ row.to
  next-ends = All-at_each (λ (s : StringRow). s.from ≢ s.to) m.strings row (two-ends m whole) (n, slice_get_within m.strings n row at, get_or_from_slice_get m.strings n row row at)

  module _ (new : HalfRows) (stars : Held Spoke) (adds : AddsLoose row.number row.from row.to old new) (linked : IsLinked new) (spokes : AddsSpokes row held stars) where
    more : take (n + 1) m.strings ≡ take n m.strings ++ row ∷ []
    more = take_more m.strings n row (slice_get_within m.strings n row at) ∙ ap (λ (r : StringRow). take n m.strings ++ r ∷ []) (get_or_from_slice_get m.strings n row row at)

    self : nat_eq row.number row.number ≡ true
    self = nat_eq_equiv.refl row.number

    row-ends : HasHalves new row
    row-ends = record {
      there = adds.has (forward_of row.number) ∙ rw self refl;
      back = adds.has (backward_of row.number) ∙ rw self refl;
      from = adds.origin (forward_of row.number) ∙ rw self refl;
      to = adds.origin (backward_of row.number) ∙ rw self refl;
    }

    other-string : (t : StringRow) → HasHalves old t → nat_eq t.number row.number ≡ false
    other-string t e = by (nat_eq t.number row.number) refl
      where
        by : (b : Bool) → nat_eq t.number row.number ≡ b → b ≡ false
        by false is = refl
        by true is = absurd (true≢false (sym e.there ∙ ap (λ (k : ℕ). has old (forward_of k)) (eqb-true t.number row.number is) ∙ absent true))

    old-ends : (t : StringRow) → HasHalves old t → HasHalves new t
    old-ends t e =
        let other = other-string t e in
        record {
          there = adds.has (forward_of t.number) ∙ rw other e.there;
          back = adds.has (backward_of t.number) ∙ rw other e.back;
          from = adds.origin (forward_of t.number) ∙ rw other e.from;
          to = adds.origin (backward_of t.number) ∙ rw other e.to;
        }

    pub strings-more : HoldsStringsUpTo m (n + 1) new stars
    strings-more = record {
      linked = linked;
      has = λ h. adds.has h ∙ ap (λ (b : Bool). if nat_eq h.string row.number then true else b) (st.has h) ∙ sym (ap (λ (l : List StringRow). is_some (row_with (λ (s : StringRow). s.number) h.string l)) more ∙ row-snoc h.string (take n m.strings) row);
      ends = subst (AllByRecursion (HasHalves new)) (sym more) (All-snoc (HasHalves new) (take n m.strings) row (All-from_each (HasHalves new) (take n m.strings) (λ t there. old-ends t (All-at_each (HasHalves old) (take n m.strings) t st.ends there))) row-ends);
      stars = λ p. spokes p ∙ ap (λ (l : List Spoke). l ++ spokes_of p row) (st.stars p) ∙ sym (ap (spokes_at p) more ∙ spokes-snoc p (take n m.strings) row);
    }

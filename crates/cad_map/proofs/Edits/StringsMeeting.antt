-- The two strings at a point where no third ends: what a join takes out.
use Rattle.std.proofs.Common.{◌≡◌, ℕ, ◌+◌, ◌≤◌, inl, inr, refl, sym, ap, subst, ◌∙◌, List, [], ◌∷◌, length, filter, Bool, true, false, not, ◌==◌, ◌&&◌, true≢false, arith}
use Rattle.std.specs.Prelude.{IsPermutation, nat_lt, if◌then◌else◌}
use Rattle.std.specs.List.{AllByRecursion, Contains}
use Rattle.std.proofs.lemmas.Bool.{eqb-true, eq-eqb, false_from_ne_true}
use Rattle.std.proofs.lemmas.Option.{same_Some}
use Rattle.std.proofs.lemmas.List.Sorted.{IsPermutation-refl}
use Rattle.cad_rows.specs.Limits.{source_limit}
use Rattle.cad_rows.specs.declared.rows.StringRow.{StringRow}
use Rattle.cad_rings.specs.Cycle.{times_through}
use Rattle.cad_map.specs.Map.{Map, is_end, strings_at}
use Rattle.numbered_rows.specs.Rows.{row_with, without_row}
use Rattle.cad_map.specs.Valid.{AreSources, IsValid}
use Rattle.cad_map.specs.Changes.{by_number}
use Rattle.cad_map.proofs.Lists.Elements.{Contains-first, Contains-later, All-at_each, All-from_each}
use Rattle.cad_map.proofs.Walks.CornersAt.{corners_at, through-corners}
use Rattle.cad_map.proofs.Edits.JoinedStrings as joined
use Rattle.cad_map.proofs.Boundaries.FacesBeside.{row-found}

-- two rows in the order of their numbers are the two rows
pub two-meet : (m : Map) (p : ℕ) (s t : StringRow) → by_number (strings_at m p) ≡ s ∷ t ∷ [] → IsPermutation (strings_at m p) (s ∷ t ∷ [])
two-meet m p s t are = by (strings_at m p) are
  where
    by : (rows : List StringRow) → by_number rows ≡ s ∷ t ∷ [] → IsPermutation rows (s ∷ t ∷ [])
    by [] are = cc
    by (x ∷ []) are = cc
    by (x ∷ y ∷ []) are = order (nat_lt y.number x.number) refl
      where
        order : (b : Bool) → nat_lt y.number x.number ≡ b → IsPermutation (x ∷ y ∷ []) (s ∷ t ∷ [])
        order true it = subst (IsPermutation (x ∷ y ∷ [])) (rw it at are) (record { moves = (0, 1) ∷ []; below = omega arith; is = refl })
        order false it = subst (IsPermutation (x ∷ y ∷ [])) (rw it at are) (IsPermutation-refl (x ∷ y ∷ []))
    by (x ∷ y ∷ z ∷ rows) are = order (nat_lt y.number x.number) refl
      where
        order : (b : Bool) → nat_lt y.number x.number ≡ b → IsPermutation (x ∷ y ∷ z ∷ rows) (s ∷ t ∷ [])
        order true it = absurd (let e = ap (λ (l : List StringRow). length l) (rw it at are) in omega (arith, e))
        order false it = absurd (let e = ap (λ (l : List StringRow). length l) (rw it at are) in omega (arith, e))

filter-filter : {X : Type 0} (p q : X → Bool) (xs : List X) → filter q (filter p xs) ≡ filter (λ x. p x && q x) xs
filter-filter p q [] = refl
filter-filter p q (x ∷ xs) = by (p x) refl (filter-filter p q xs)
  where
    by : (b : Bool) → p x ≡ b → filter q (filter p xs) ≡ filter (λ x. p x && q x) xs → filter q (filter p (x ∷ xs)) ≡ filter (λ x. p x && q x) (x ∷ xs)
    by false is rest = rw is rest
    by true is rest = rw is (more (q x) rest)
      where
        more : (c : Bool) → filter q (filter p xs) ≡ filter (λ x. p x && q x) xs → (if c then x ∷ filter q (filter p xs) else filter q (filter p xs)) ≡ (if c then x ∷ filter (λ x. p x && q x) xs else filter (λ x. p x && q x) xs)
        more true rest = ap (λ (l : List _). x ∷ l) rest
        more false rest = rest

filter-same : {X : Type 0} (p q : X → Bool) (xs : List X) → ((x : X) → Contains xs x → p x ≡ q x) → filter p xs ≡ filter q xs
filter-same p q [] same = refl
filter-same p q (x ∷ xs) same = by (q x) (same x (Contains-first x xs)) refl (filter-same p q xs (λ y h. same y (Contains-later x xs y h)))
  where
    by : (b : Bool) → p x ≡ q x → q x ≡ b → filter p xs ≡ filter q xs → filter p (x ∷ xs) ≡ filter q (x ∷ xs)
    by true e is rest = rw (e, is) (ap (λ (l : List _). x ∷ l) rest)
    by false e is rest = rw (e, is) rest

module _ (m : Map) (valid : IsValid m) (p : ℕ) (s t : StringRow) (are : by_number (strings_at m p) ≡ s ∷ t ∷ []) where
  at : IsPermutation (strings_at m p) (s ∷ t ∷ [])
  at = two-meet m p s t are

  -- a row with the number of one that is there is that one
  same-row : (r q : StringRow) → Contains m.strings r → Contains m.strings q → r.number ≡ q.number → r ≡ q
  same-row r q here there e =
      same_Some r q (sym (row-found m.strings r valid.sound.v1.strings.distinct here) ∙ ap (λ (k : ℕ). row_with (λ (r : StringRow). r.number) k m.strings) e ∙ row-found m.strings q valid.sound.v1.strings.distinct there)

  -- the strings without these two are those that don't end at the point
  pub left-is : without_row (λ r. r.number) t.number (without_row (λ r. r.number) s.number m.strings) ≡ filter (λ r. not (is_end r p)) m.strings
  left-is = filter-filter (λ (r : StringRow). not (r.number == s.number)) (λ (r : StringRow). not (r.number == t.number)) m.strings ∙ filter-same _ _ m.strings each
    where
      first : Contains m.strings s × (is_end s p ≡ true)
      first = joined.at-first m valid p s t at

      second : Contains m.strings t × (is_end t p ≡ true)
      second = joined.at-second m valid p s t at

      each : (r : StringRow) → Contains m.strings r → (not (r.number == s.number) && not (r.number == t.number)) ≡ not (is_end r p)
      each r h = by (is_end r p) refl
        where
          by : (b : Bool) → is_end r p ≡ b → (not (r.number == s.number) && not (r.number == t.number)) ≡ not (is_end r p)
          by true is = elim (joined.one-of m valid p s t at r h is) [
            | inl e ↦ rw (is, eq-eqb r.number s.number (ap (λ (q : StringRow). q.number) e)) refl
            | inr e ↦ rw (is, eq-eqb r.number t.number (ap (λ (q : StringRow). q.number) e)) (either (r.number == s.number))
          ]
            where
              either : (c : Bool) → (not c && false) ≡ false
              either true = refl
              either false = refl
          by false is =
              let not-first : (r.number == s.number) ≡ false = false_from_ne_true (r.number == s.number) (λ e. true≢false (sym first.1 ∙ ap (λ (q : StringRow). is_end q p) (sym (same-row r s h first.0 (eqb-true r.number s.number e))) ∙ is)) in
              let not-second : (r.number == t.number) ≡ false = false_from_ne_true (r.number == t.number) (λ e. true≢false (sym second.1 ∙ ap (λ (q : StringRow). is_end q p) (sym (same-row r t h second.0 (eqb-true r.number t.number e))) ∙ is)) in
              rw (is, not-first, not-second) refl

  -- a ring keeps two points without the point
  pub room-without : AllByRecursion (λ b. 2 + times_through p b.ring ≤ length b.ring) m.boundaries
  room-without = All-from_each (λ b. 2 + times_through p b.ring ≤ length b.ring) m.boundaries (λ b h.
      let long = All-at_each (λ b. 3 ≤ length b.ring) m.boundaries b valid.sound.v5.three h in
      let few = All-at_each (λ r. length (corners_at p r.ring) ≤ 1) m.boundaries b (joined.at-most-one m valid p s t at) h in
      let e = through-corners p b.ring (omega (arith, long)) in
      omega (arith, long, few, e))

  pub few-sources : (length s.sources ≤ source_limit) × (length t.sources ≤ source_limit)
  few-sources =
      let each = λ (r : StringRow) (h : Contains m.strings r). (All-at_each (λ (r : StringRow). AreSources m.sources r.sources) m.strings r valid.sound.v1.string_sources h).few in
      (each s (joined.at-first m valid p s t at).0, each t (joined.at-second m valid p s t at).0)

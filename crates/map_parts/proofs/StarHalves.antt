-- What stars tell of the halves that begin at their points.
use Rattle.std.proofs.Common.{◌≡◌, ◌≢◌, ℕ, ◌⊎◌, ◌==◌, Bool, true, false, cond, List, [], ◌∷◌, find, refl, sym, ap, ◌∙◌, subst, arith, inl, inr, Option, Some, None, true≢false}
use Rattle.std.specs.Prelude.{IsPermutation, IfSome, option_map}
use Rattle.std.specs.List.{AllByRecursion, Contains}
use Rattle.std.proofs.lemmas.Bool.{eqb-true}
use Rattle.std.proofs.lemmas.Cmp.{nat_eq_equiv}
use Rattle.std.proofs.lemmas.List.Sorted.{IsPermutation-sym, Contains-permutation}
use Rattle.cad_rows.specs.declared.rows.StringRow.{StringRow}
use Rattle.cad_rings.specs.Cycle.{Side, opposite}
use Rattle.cad_map.proofs.CallerLemmas.{Contains-cases, Contains-first, Contains-flat_map, Contains-in_part, All-at_each, find-Contains}
use Rattle.half_table.specs.declared.half.Half.{Half}
use Rattle.half_table.specs.Half.{twin, forward_of, backward_of, half_of}
use Rattle.half_table.specs.Rows.{HalfRows, origin_of}
use Rattle.half_table.proofs.Halves.{twin-twin}
use Rattle.map_parts.specs.declared.stars.Spoke.{Spoke}
use Rattle.key_lists.specs.Held.{items_at}
use Rattle.cad_laws.specs.Local.{IsShown, side_by}
use Rattle.map_parts.specs.Stars.{spoke, spokes_of, spokes_at, half_along, half_by_end, half_by_ends, are_fewer_there}
use Rattle.map_parts.specs.Parts.{Parts, HasHalves, rows_of}
use Rattle.map_parts.specs.Labels.{IsAlong}
use Rattle.map_parts.proofs.PartsRings.{found-row, row-there, half-there}
use Rattle.cad_map.specs.Valid.{HasTwoEnds}

pub find-some : {X : Type 0} (p : X → Bool) (xs : List X) (x : X) → Contains xs x → p x ≡ true → find p xs ≡ None → ⊥
find-some p [] x h passes none = let low = h.1 in omega arith
find-some p (y ∷ xs) x h passes none = by (p y) refl none (Contains-cases y xs x h) (λ later rest. find-some p xs x later passes rest)
  where
    by : (b : Bool) → p y ≡ b → find p (y ∷ xs) ≡ None → (y ≡ x) ⊎ Contains xs x → (Contains xs x → find p xs ≡ None → ⊥) → ⊥
    by true is none where_it again = let e : Some y ≡ None = rw is at none in cc
    by false is none (inl same) again = true≢false (sym passes ∙ ap p (sym same) ∙ is)
    by false is none (inr later) again = again later (rw is at none)

module _ (d : Parts) (ends : AllByRecursion (HasHalves d.table.rows) d.strings) (two_ends : HasTwoEnds (rows_of d)) (stars : (p : ℕ) → IsPermutation (spokes_at p d.strings) (items_at d.stars p)) where
  abbrev rows : HalfRows
  rows = d.table.rows

  -- a spoke of a star is a half that begins at the point, and its far end
  pub record IsSpoke (p : ℕ) (x : Spoke) : Type 0 where
    pub shown : IsShown (rows_of d) x.half
    pub from : origin_of rows x.half ≡ p
    pub far : origin_of rows (twin x.half) ≡ x.far

  of_string : (p : ℕ) (s : StringRow) (x : Spoke) → Contains d.strings s → Contains (spokes_of p s) x → IsSpoke p x
  of_string p s x there among = by (s.from == p) (s.to == p) refl refl
    where
      e : HasHalves d.table.rows s
      e = All-at_each (HasHalves d.table.rows) d.strings s ends there

      one : (y : Spoke) → Contains (y ∷ []) x → y ≡ x
      one y h = elim (Contains-cases y [] x h) [ inl same ↦ same | inr none ↦ let low = none.1 in absurd (omega arith) ]

      by : (t u : Bool) → (s.from == p) ≡ t → (s.to == p) ≡ u → IsSpoke p x
      by true u is_from is_to =
          let same = one (spoke (forward_of s.number) s.to) (rw is_from at among) in
          subst (IsSpoke p) same (record { shown = row-there d.strings s there; from = e.from ∙ eqb-true s.from p is_from; far = e.to })
      by false true is_from is_to =
          let same = one (spoke (backward_of s.number) s.from) (rw (is_from, is_to) at among) in
          subst (IsSpoke p) same (record { shown = row-there d.strings s there; from = e.to ∙ eqb-true s.to p is_to; far = e.from })
      by false false is_from is_to = let none : Contains [] x = rw (is_from, is_to) at among in let low = none.1 in absurd (omega arith)

  pub spoke-is : (p : ℕ) (x : Spoke) → Contains (items_at d.stars p) x → IsSpoke p x
  spoke-is p x among =
      let part = Contains-in_part (spokes_of p) d.strings x (Contains-permutation (items_at d.stars p) (spokes_at p d.strings) x (IsPermutation-sym (spokes_at p d.strings) (items_at d.stars p) (stars p)) among) in
      of_string p part.0 x part.1 part.2

  -- a half is in the star of its point
  string-spoke : (s : StringRow) → Contains d.strings s → (f : Bool) → Contains (spokes_of (origin_of rows (half_of s.number f)) s) (spoke (half_of s.number f) (origin_of rows (twin (half_of s.number f))))
  string-spoke s there true = let e = All-at_each (HasHalves d.table.rows) d.strings s ends there in at (origin_of rows (forward_of s.number)) (origin_of rows (backward_of s.number)) e.from e.to
    where
      at : (p q : ℕ) → p ≡ s.from → q ≡ s.to → Contains (spokes_of p s) (spoke (forward_of s.number) q)
      at p q from to =
          let is_from : (s.from == p) ≡ true = ap (λ (x : ℕ). s.from == x) from ∙ nat_eq_equiv.refl s.from in
          rw is_from (subst (λ (x : ℕ). Contains (spoke (forward_of s.number) s.to ∷ []) (spoke (forward_of s.number) x)) (sym to) (Contains-first (spoke (forward_of s.number) s.to) []))
  string-spoke s there false = let e = All-at_each (HasHalves d.table.rows) d.strings s ends there in at (origin_of rows (backward_of s.number)) (origin_of rows (forward_of s.number)) e.to e.from
    where
      no : (b : Bool) → (b ≡ true → ⊥) → b ≡ false
      no true never = absurd (never refl)
      no false never = refl

      at : (p q : ℕ) → p ≡ s.to → q ≡ s.from → Contains (spokes_of p s) (spoke (backward_of s.number) q)
      at p q to from =
          let two = All-at_each (λ (s : StringRow). s.from ≢ s.to) d.strings s two_ends there in
          let is_from : (s.from == p) ≡ false = no (s.from == p) (λ h. two (eqb-true s.from p h ∙ to)) in
          let is_to : (s.to == p) ≡ true = ap (λ (x : ℕ). s.to == x) to ∙ nat_eq_equiv.refl s.to in
          rw (is_from, is_to) (subst (λ (x : ℕ). Contains (spoke (backward_of s.number) s.from ∷ []) (spoke (backward_of s.number) x)) (sym from) (Contains-first (spoke (backward_of s.number) s.from) []))

  half-spoke : (h : Half) → IsShown (rows_of d) h → Contains (items_at d.stars (origin_of rows h)) (spoke h (origin_of rows (twin h)))
  half-spoke h shown =
      let row = found-row d.strings h.string shown in
      let all : (g : Half) → Contains (spokes_of (origin_of rows g) row.0) (spoke g (origin_of rows (twin g))) → Contains (items_at d.stars (origin_of rows g)) (spoke g (origin_of rows (twin g))) = λ g k.
      Contains-permutation (spokes_at (origin_of rows g) d.strings) (items_at d.stars (origin_of rows g)) _ (stars (origin_of rows g)) (Contains-flat_map (spokes_of (origin_of rows g)) d.strings row.0 _ row.1 k) in
      subst (λ (g : Half). Contains (items_at d.stars (origin_of rows g)) (spoke g (origin_of rows (twin g)))) (λ i. half_of (row.2 i) h.forward) (all (half_of row.0.number h.forward) (string-spoke row.0 row.1 h.forward))

  along-some : (s : Side) (o : Option Half) → o ≡ half_along d.stars s → IfSome o (IsAlong (rows_of d) d.table.rows s)
  along-some s o told = by (find (λ (x : Spoke). x.far == s.1) (items_at d.stars s.0)) refl o told
    where
      by : (f : Option Spoke) → find (λ (x : Spoke). x.far == s.1) (items_at d.stars s.0) ≡ f → (o : Option Half) → o ≡ half_along d.stars s → IfSome o (IsAlong (rows_of d) d.table.rows s)
      by f found None told = tt
      by None found (Some h) told = let e : Some h ≡ None = told ∙ ap (option_map (λ (x : Spoke). x.half)) found in cc
      by (Some x) found (Some h) told =
          let e : Some h ≡ Some x.half = told ∙ ap (option_map (λ (x : Spoke). x.half)) found in
          let same : x.half ≡ h = cc in
          let at = find-Contains (λ (x : Spoke). x.far == s.1) (items_at d.stars s.0) x found in
          let it = spoke-is s.0 x at.0 in
          subst (IsAlong (rows_of d) d.table.rows s) same (record {
            there = half-there d ends x.half it.shown;
            shown = it.shown;
            side = let far = it.far ∙ eqb-true x.far s.1 at.1 in λ i. (it.from i, far i);
          })

  -- the twin of a half along the opposite side is along the side
  twin-along : (s : Side) (k : Half) → IsAlong (rows_of d) rows (opposite s) k → IsAlong (rows_of d) rows s (twin k)
  twin-along s k back = record {
    there = half-there d ends (twin k) back.shown;
    shown = back.shown;
    side =
        let to = ap (λ (t : Side). t.0) back.side in
        let from = ap (λ (t : Side). t.1) back.side in
        λ i. (from i, (ap (origin_of rows) (twin-twin k) ∙ to) i);
  }

  -- a half that is told by the star of the side's end is along the side
  by_end-some : (s : Side) (o : Option Half) → o ≡ half_by_end d.stars s → IfSome o (IsAlong (rows_of d) d.table.rows s)
  by_end-some s o told = by (half_along d.stars (opposite s)) refl o told
    where
      by : (f : Option Half) → half_along d.stars (opposite s) ≡ f → (o : Option Half) → o ≡ option_map twin f → IfSome o (IsAlong (rows_of d) d.table.rows s)
      by f found None told = tt
      by None found (Some h) told = cc
      by (Some k) found (Some h) told =
          let same : twin k ≡ h = cc in
          let back = along-some (opposite s) (Some k) (sym found) in
          subst (IsAlong (rows_of d) d.table.rows s) same (twin-along s k back)

  -- so is one that is told by whichever star
  pub by_ends-some : (s : Side) (o : Option Half) → o ≡ half_by_ends d.stars s → IfSome o (IsAlong (rows_of d) d.table.rows s)
  by_ends-some s o told = by (are_fewer_there d.stars s.1 s.0) told
    where
      by : (b : Bool) → o ≡ cond b (half_along d.stars s) (half_by_end d.stars s) → IfSome o (IsAlong (rows_of d) d.table.rows s)
      by true told = along-some s o told
      by false told = by_end-some s o told

  -- a half of the map's strings is told
  half-told : (s : Side) (h : Half) → IsShown (rows_of d) h → side_by rows h ≡ s → (o : Option Half) → o ≡ half_along d.stars s → o ≡ None → ⊥
  half-told s h shown side o told none =
      let there = half-spoke h shown in
      let mine : Contains (items_at d.stars s.0) (spoke h s.1) = subst (λ (t : Side). Contains (items_at d.stars t.0) (spoke h t.1)) side there in
      find-some (λ (x : Spoke). x.far == s.1) (items_at d.stars s.0) (spoke h s.1) mine (nat_eq_equiv.refl s.1) (not_found (find (λ (x : Spoke). x.far == s.1) (items_at d.stars s.0)) (sym none ∙ told))
    where
      not_found : (f : Option Spoke) → None ≡ option_map (λ (x : Spoke). x.half) f → f ≡ None
      not_found None e = refl
      not_found (Some x) e = cc

  -- whichever star is asked
  pub told-by_ends : (s : Side) (h : Half) → IsShown (rows_of d) h → side_by rows h ≡ s → half_by_ends d.stars s ≡ None → ⊥
  told-by_ends s h shown side none = by (are_fewer_there d.stars s.1 s.0) none
    where
      nothing : (f : Option Half) → option_map twin f ≡ None → f ≡ None
      nothing None told = refl
      nothing (Some k) told = cc

      back : side_by rows (twin h) ≡ opposite s
      back =
          let from = ap (λ (t : Side). t.0) side in
          let to = ap (λ (t : Side). t.1) side in
          λ i. (to i, (ap (origin_of rows) (twin-twin h) ∙ from) i)

      by : (b : Bool) → cond b (half_along d.stars s) (half_by_end d.stars s) ≡ None → ⊥
      by true none = half-told s h shown side None (sym none) refl
      by false none = half-told (opposite s) (twin h) shown back None (sym (nothing (half_along d.stars (opposite s)) none)) refl

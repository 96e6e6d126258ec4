-- What the tests of strings with the positions of their ends say of the map.
use Rattle.std.proofs.Common.{◌≡◌, ℕ, refl, sym, ap, subst, ◌∙◌, Bool, true, false, not, eqb, inl, inr, true≢false}
use Rattle.std.specs.Prelude.{◌↔◌, ◌&&◌, ◌||◌, IsTrue, if◌then◌else◌}
use Rattle.std.proofs.lemmas.Bool.{eqb-true, eqb-false, and_parts, and_from}
use Rattle.geo_exact.specs.Position.{Position}
use Rattle.geo_exact.specs.Segment.{HaveCommonLocation}
use Rattle.geo_exact.proofs.CallerLemmas.{passes_signs-is}
use Rattle.cad_rows.specs.declared.rows.PointRow.{PointRow}
use Rattle.cad_rows.specs.declared.rows.StringRow.{StringRow}
use Rattle.cad_map.specs.Map.{Map, position_of, is_end, far_end}
use Rattle.cad_map.specs.Valid.{MeetAtEnds, LiesOnlyAsEnd}
use Rattle.cad_map.specs.Crossings.{HasPlacedRows, HasTwoPoints, IsEndOfBoth, HaveOnlyStart}
use Rattle.cad_map.proofs.CallerLemmas.{only_start-is, ends, is_end-from, is_end-of, far_end-away, meet-at_end, meet-no_end}
use Rattle.cad_valid.specs.declared.placed.Placed.{Placed}
use Rattle.cad_valid.specs.Placed.{placed_string, placed_point, near_position, far_position, have_common, meets_only_at, meets_at_ends, is_only_end}
use Rattle.cad_valid.proofs.Decisions.{not-iff, iff-trans}

-- ---- Common locations

pub have_common-is : (a b c d : Position) → (have_common a b c d ≡ true) ↔ HaveCommonLocation a b c d
unfolding have_common
have_common-is a b c d = passes_signs-is a b c d

-- two tests of one statement answer the same
pub same_answer : (b c : Bool) (P : Type 0) → IsTrue b ↔ P → (c ≡ true) ↔ P → b ≡ c
same_answer true true P h k = refl
same_answer false false P h k = refl
same_answer true false P h k = sym (k.1 (h.0 refl))
same_answer false true P h k = h.1 (k.0 refl)

pub meets-same : (answer : Bool) (a b c d : Position) → IsTrue answer ↔ HaveCommonLocation a b c d → answer ≡ have_common a b c d
meets-same answer a b c d is = same_answer answer (have_common a b c d) (HaveCommonLocation a b c d) is (have_common-is a b c d)

and-iff : (b c : Bool) (P Q : Type 0) → IsTrue b ↔ P → IsTrue c ↔ Q → IsTrue (b && c) ↔ (P × Q)
and-iff b c P Q h k = (
  (λ t. let both = and_parts b c t in (h.0 both.0, k.0 both.1)),
  (λ both. and_from b c (h.1 both.0) (k.1 both.1)),
)

-- neither of two segments from one position has the other's end exactly where they have only the start in common
pub only_start : (start a b : Position) → ¬ (a ≡ start) → ¬ (b ≡ start) → IsTrue (not (have_common start a b b) && not (have_common start b a a)) ↔ HaveOnlyStart start a b
only_start start a b a_away b_away =
    let is = only_start-is start a b a_away b_away in
    iff-trans
    (and-iff (not (have_common start a b b)) (not (have_common start b a a)) _ _
    (not-iff _ _ (have_common-is start a b b)) (not-iff _ _ (have_common-is start b a a)))
    (is.1, is.0)

-- ---- Strings of a map

module _ (m : Map) (s : StringRow) (p : ℕ) where
  near-is : is_end s p ≡ true → near_position (placed_string m s) p ≡ position_of m p
  near-is end = by (eqb s.from p) refl end
    where
      by : (b : Bool) → eqb s.from p ≡ b → (b || eqb s.to p) ≡ true → (if b then position_of m s.from else position_of m s.to) ≡ position_of m p
      by true is end = ap (position_of m) (eqb-true s.from p is)
      by false is end = ap (position_of m) (eqb-true s.to p end)

  far-is : far_position (placed_string m s) p ≡ position_of m (far_end s p)
  far-is = by (eqb s.from p)
    where
      by : (b : Bool) → (if b then position_of m s.to else position_of m s.from) ≡ position_of m (if b then s.to else s.from)
      by true = refl
      by false = refl

module _ (m : Map) (rows : HasPlacedRows m) (s t : StringRow) (s_placed : HasTwoPoints m s) (t_placed : HasTwoPoints m t) where
  at_shared : (p : ℕ) → IsEndOfBoth s t p → IsTrue (meets_only_at (placed_string m s) (placed_string m t) p) ↔ MeetAtEnds m s t
  at_shared p both =
      let s_away = far_end-away m rows s s_placed p both.of_first in
      let t_away = far_end-away m rows t t_placed p both.of_second in
      let at : (near_position (placed_string m s) p, far_position (placed_string m s) p, far_position (placed_string m t) p) ≡ (position_of m p, position_of m (far_end s p), position_of m (far_end t p)) =
      λ i. (near-is m s p both.of_first i, far-is m s p i, far-is m t p i) in
      iff-trans
      (subst (λ (at : Position × Position × Position). IsTrue (not (have_common at.0 at.1 at.2 at.2) && not (have_common at.0 at.2 at.1 at.1)) ↔ HaveOnlyStart (position_of m p) (position_of m (far_end s p)) (position_of m (far_end t p))) (sym at)
      (only_start (position_of m p) (position_of m (far_end s p)) (position_of m (far_end t p)) s_away t_away))
      (meet-at_end m s t p both (λ same. s_away (sym same)))

  -- the test of two strings tells whether they meet at ends alone
  pub meets_at_ends-is : IsTrue (meets_at_ends (placed_string m s) (placed_string m t)) ↔ MeetAtEnds m s t
  meets_at_ends-is = by (is_end t s.from) (is_end t s.to) refl refl
    where
      by : (b c : Bool) → is_end t s.from ≡ b → is_end t s.to ≡ c
          → IsTrue (if b then meets_only_at (placed_string m s) (placed_string m t) s.from
          else (if c then meets_only_at (placed_string m s) (placed_string m t) s.to
          else not (have_common (position_of m s.from) (position_of m s.to) (position_of m t.from) (position_of m t.to))))
          ↔ MeetAtEnds m s t
      by true c from to = at_shared s.from (record { of_first = is_end-from s; of_second = from })
      by false true from to = at_shared s.to (record { of_first = is_end-of s s.to (inr refl); of_second = to })
      by false false from to =
          iff-trans
          (not-iff _ _ (have_common-is (position_of m s.from) (position_of m s.to) (position_of m t.from) (position_of m t.to)))
          (meet-no_end m s t (λ p both. elim (ends s p both.of_first) [
            | inl e ↦ true≢false (sym (subst (λ (q : ℕ). is_end t q ≡ true) (sym e.0) both.of_second) ∙ from)
            | inr e ↦ true≢false (sym (subst (λ (q : ℕ). is_end t q ≡ true) (sym e.0) both.of_second) ∙ to)
          ]))

  -- so it does where these are the two strings
  pub meets-by : (b : Bool) (f g : Placed) → f ≡ placed_string m s → g ≡ placed_string m t → b ≡ meets_at_ends f g → IsTrue b ↔ MeetAtEnds m s t
  meets-by b f g is_s is_t is = subst (λ (b : Bool). IsTrue b ↔ MeetAtEnds m s t) (sym (is ∙ (λ i. meets_at_ends (is_s i) (is_t i)))) meets_at_ends-is

-- the test of a point and a string tells whether it lies there only as an end
pub is_only_end-is : (m : Map) (p : PointRow) (s : StringRow) → IsTrue (is_only_end (placed_point p) (placed_string m s)) ↔ LiesOnlyAsEnd m p s
is_only_end-is m p s = by (eqb s.from p.number) (eqb s.to p.number) refl refl
  where
    by : (b c : Bool) → eqb s.from p.number ≡ b → eqb s.to p.number ≡ c → IsTrue ((b || c) || not (have_common (position_of m s.from) (position_of m s.to) p.position p.position)) ↔ LiesOnlyAsEnd m p s
    by true c from to = ((λ t common. inl (eqb-true s.from p.number from)), (λ lies. refl))
    by false true from to = ((λ t common. inr (eqb-true s.to p.number to)), (λ lies. refl))
    by false false from to =
        let is = not-iff _ _ (have_common-is (position_of m s.from) (position_of m s.to) p.position p.position) in (
          (λ t common. absurd (is.0 t common)),
          (λ lies. is.1 (λ common. elim (lies common) [ inl e ↦ eqb-false s.from p.number from e | inr e ↦ eqb-false s.to p.number to e ])),
        )

pub lies-by : (m : Map) (p : PointRow) (s : StringRow) (b : Bool) (f g : Placed) → f ≡ placed_point p → g ≡ placed_string m s → b ≡ is_only_end f g → IsTrue b ↔ LiesOnlyAsEnd m p s
lies-by m p s b f g is_p is_s is = subst (λ (b : Bool). IsTrue b ↔ LiesOnlyAsEnd m p s) (sym (is ∙ (λ i. is_only_end (is_p i) (is_s i)))) (is_only_end-is m p s)

-- Sides that tell the place of the side after them.
use Rattle.std.proofs.Common.{◌≡◌, ◌≢◌, ◌<◌, ℕ, ◌⊎◌, inl, inr, refl, sym, ap, ◌∙◌, List, [], ◌∷◌, length, map, Bool, true, false, Option, Some, None, option_map, slice_get, drop, find, cond, ◌+◌, arith}
use Rattle.std.specs.Prelude.{◌&&◌}
use Rattle.std.proofs.lemmas.Bool.{cases_Bool}
use Rattle.std.proofs.lemmas.Option.{slice_get-map, slice_get_within}
use Rattle.std.specs.List.{Contains}
use Rattle.cad_rings.specs.Cycle.{Side, is_side}
use Rattle.cad_rings.proofs.CallerLemmas.{is_side-same}
use Rattle.cad_map.specs.Boundaries.{is_face}
use Rattle.cad_map.specs.Valid.{EachPair}
use Rattle.cad_map.proofs.CallerLemmas.{drop-at, All-at_each, Contains-at, Contains-cases, Contains-map, list_any-Contains, list_any-none, is_side-refl}
use Rattle.cad_files.specs.Cycles.{side_of_followed, side_behind, plan_side_of, followed_side, AreLinked}
use Rattle.cad_files.specs.Corners.{keeps_face_among}
use Rattle.cad_files.specs.declared.sides.PlanSide.{PlanSide}

pub same-sides : (sides : List PlanSide) → map side_of_followed (map followed_side sides) ≡ map plan_side_of sides
same-sides [] = refl
same-sides (s ∷ sides) = ap (λ (l : List Side). plan_side_of s ∷ l) (same-sides sides)

-- of sides of which none stands twice, two that lead from one point to one other are one
pub once-same : (sides : List PlanSide) (s t : PlanSide) → EachPair (λ a b. a ≢ b) (map plan_side_of sides) → Contains sides s → Contains sides t → plan_side_of s ≡ plan_side_of t → s ≡ t
once-same [] s t once h k same = let low = h.1 in absurd (omega (arith, low))
once-same (u ∷ sides) s t once h k same = by (Contains-cases u sides s h) (Contains-cases u sides t k) (λ a b. once-same sides s t once.1 a b same)
  where
    other : (v : PlanSide) → Contains sides v → plan_side_of u ≢ plan_side_of v
    other v there = All-at_each (λ a. plan_side_of u ≢ a) (map plan_side_of sides) (plan_side_of v) once.0 (Contains-map plan_side_of sides v there)

    by : (u ≡ s) ⊎ Contains sides s → (u ≡ t) ⊎ Contains sides t → (Contains sides s → Contains sides t → s ≡ t) → s ≡ t
    by (inl a) (inl b) rest = sym a ∙ b
    by (inl a) (inr b) rest = absurd (other t b (ap plan_side_of a ∙ same))
    by (inr a) (inl b) rest = absurd (other s a (ap plan_side_of b ∙ sym same))
    by (inr a) (inr b) rest = rest a b

-- the side at the place that a side tells
pub record HasNextAt (sides : List PlanSide) (s : PlanSide) : Type 0 where
  pub next : PlanSide
  pub at : slice_get sides s.next ≡ Some next
  pub behind : plan_side_of next ≡ side_behind (followed_side s)

pub next-side : (sides : List PlanSide) → AreLinked sides → (s : PlanSide) → Contains sides s → HasNextAt sides s
next-side sides are s there = by (slice_get sides s.next) refl
  where
    linked : option_map plan_side_of (slice_get sides s.next) ≡ Some (side_behind (followed_side s))
    linked = sym (slice_get-map plan_side_of sides s.next) ∙ All-at_each (λ s. slice_get (map plan_side_of sides) s.next ≡ Some (s.to, s.after)) sides s are there

    by : (o : Option PlanSide) → slice_get sides s.next ≡ o → HasNextAt sides s
    by None is = let no : None ≡ Some (side_behind (followed_side s)) = sym (ap (option_map plan_side_of) is) ∙ linked in cc
    by (Some t) is = let same : Some (plan_side_of t) ≡ Some (side_behind (followed_side s)) = sym (ap (option_map plan_side_of) is) ∙ linked in record { next = t; at = is; behind = cc }

pub next-within : (sides : List PlanSide) → AreLinked sides → (s : PlanSide) → Contains sides s → s.next < length sides
next-within sides are s there = let n = next-side sides are s there in slice_get_within sides s.next n.next n.at

-- of sides of which none stands twice, one has the face of the side after it where that at its place has it
module _ (sides : List PlanSide) (once : EachPair (λ a b. a ≢ b) (map plan_side_of sides)) (are : AreLinked sides) (s t : PlanSide) (there : Contains sides s) (at : slice_get sides s.next ≡ Some t) where
  behind : plan_side_of t ≡ side_behind (followed_side s)
  behind =
      let n = next-side sides are s there in
      let same : Some n.next ≡ Some t = sym n.at ∙ at in
      let is : t ≡ n.next = cc in
      ap plan_side_of is ∙ n.behind

  keeps : (b : Bool) → is_face s.face t.face ≡ b → keeps_face_among sides s ≡ b
  keeps true is =
      list_any-Contains (λ t. is_side (s.to, s.after) (plan_side_of t) && is_face s.face t.face) sides t (Contains-at sides s.next t at)
      (ap (λ (r : Side). is_side r (plan_side_of t) && is_face s.face t.face) (sym behind) ∙ ap (λ (b : Bool). b && is_face s.face t.face) (is_side-refl (plan_side_of t)) ∙ is)
  keeps false is = list_any-none (λ t. is_side (s.to, s.after) (plan_side_of t) && is_face s.face t.face) sides other
    where
      other : (u : PlanSide) → Contains sides u → (is_side (s.to, s.after) (plan_side_of u) && is_face s.face u.face) ≡ false
      other u k = elim (cases_Bool (is_side (s.to, s.after) (plan_side_of u))) [
        | inl same ↦
            let one : u ≡ t = once-same sides u t once k (Contains-at sides s.next t at) (sym (is_side-same (s.to, s.after) (plan_side_of u) same) ∙ sym behind) in
            rw (same, ap (λ (v : PlanSide). is_face s.face v.face) one) is
        | inr apart ↦ rw apart refl
      ]

  pub keeps-next : keeps_face_among sides s ≡ is_face s.face t.face
  keeps-next = keeps (is_face s.face t.face) refl

-- ---- The first that fails

module _ (p : PlanSide → Bool) (sides : List PlanSide) (i : ℕ) (s : PlanSide) (at : slice_get sides i ≡ Some s) where
  pub find-here : p s ≡ true → find p (drop i sides) ≡ Some s
  find-here is = ap (find p) (drop-at sides i s at) ∙ ap (λ (b : Bool). cond b (Some s) (find p (drop (i + 1) sides))) is

  pub find-later : p s ≡ false → find p (drop i sides) ≡ find p (drop (i + 1) sides)
  find-later is = ap (find p) (drop-at sides i s at) ∙ ap (λ (b : Bool). cond b (Some s) (find p (drop (i + 1) sides))) is

-- Whether a number stands twice: as the first repeated place tells it, and as a list is told it.
use Rattle.std.proofs.Common.{◌≡◌, ◌≢◌, ◌∙◌, ℕ, ◌<◌, List, [], get_or, ap, sym, refl, true, false, true≢false, Bool, not, is_some, Option, Some, None, arith}
use Rattle.std.specs.Prelude.{IfSome, IfNone, IsTrue, ◌↔◌}
use Rattle.std.specs.List.{AllPairs}
use Rattle.std.proofs.lemmas.List.{get_or-take, get_or_default, length-take}
use Rattle.sweep.specs.Repeats.{AreDistinct, IsFirstRepeat}
use Rattle.cad_map.specs.Valid.{EachPair}
use Rattle.cad_map.proofs.CallerLemmas.{EachPair-from_AllPairs, AllPairs-from_EachPair}
use Rattle.cad_files.specs.Fields.{repeated}
use Rattle.cad_files.proofs.AgainFacts.{distinct-once}
use Rattle.cad_files.proofs.ValidFacts.{distinct}

not_distinct : (list : List ℕ) (place : ℕ) → IsFirstRepeat list place → EachPair (λ a b. a ≢ b) list → ⊥
not_distinct list place first each =
    let x = get_or list place 0 in
    let earlier = first.repeats in
    let short = simp length-take at earlier.1 in
    let before : earlier.0 < place = omega arith in
    let same : get_or list earlier.0 x ≡ get_or list place x =
    sym (get_or-take place list earlier.0 x before) ∙ earlier.2 ∙ get_or_default list place 0 x first.within in
    AllPairs-from_EachPair (λ (a b : ℕ). a ≢ b) list each earlier.0 place x before first.within same

pub repeated-told : (list : List ℕ) (told : Option ℕ) → IfSome told (IsFirstRepeat list) → IfNone told (AreDistinct list)
    → is_some told ≡ is_some (repeated [] list)
repeated-told list None some none =
    ap is_some (sym (distinct-once list (EachPair-from_AllPairs (λ (a b : ℕ). a ≢ b) list none)))
repeated-told list (Some place) some none = go (repeated [] list) refl
  where
    go : (r : Option ℕ) → repeated [] list ≡ r → true ≡ is_some (repeated [] list)
    go (Some n) is = ap is_some (sym is)
    go None is = absurd (not_distinct list place some (distinct list is))

is-none : (r : Option ℕ) → not (is_some r) ≡ true → r ≡ None
is-none None h = refl
is-none (Some n) h = absurd (true≢false (sym h))

-- what a list may be told
pub unrepeated : (list : List ℕ) → IsTrue (not (is_some (repeated [] list))) ↔ AllPairs (λ x y. x ≢ y) list
unrepeated list = (
  λ h. AllPairs-from_EachPair (λ (x y : ℕ). x ≢ y) list (distinct list (is-none (repeated [] list) h)),
  λ each. ap (λ r. not (is_some r)) (distinct-once list (EachPair-from_AllPairs (λ (x y : ℕ). x ≢ y) list each)),
)

-- what a list was told
pub told-repeated : (list : List ℕ) (told : Bool) → (IsTrue told ↔ AllPairs (λ x y. x ≢ y) list)
    → not told ≡ is_some (repeated [] list)
told-repeated list told is = by told (is_some (repeated [] list)) is (unrepeated list)
  where
    by : (told again : Bool) → (IsTrue told ↔ AllPairs (λ x y. x ≢ y) list)
        → (IsTrue (not again) ↔ AllPairs (λ x y. x ≢ y) list) → not told ≡ again
    by true true t a = a.1 (t.0 refl)
    by true false t a = refl
    by false true t a = refl
    by false false t a = sym (t.1 (a.0 refl))

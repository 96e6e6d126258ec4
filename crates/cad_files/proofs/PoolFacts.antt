-- Sides that are taken out of a pool one by one.
use Rattle.std.proofs.Common.{◌≡◌, ◌≢◌, ℕ, ◌+◌, ◌<◌, ◌≤◌, zero, suc, refl, sym, ap, subst, ◌∙◌, List, [], ◌∷◌, length, map, Bool, true, false, Some, option_map, slice_get, get_or, set, replicate, ◌⊎◌, inl, inr, arith}
use Rattle.std.proofs.lemmas.Bool.{cases_lt}
use Rattle.std.proofs.lemmas.List.{length-set}
use Rattle.std.proofs.lemmas.Option.{slice_get-map, slice_get_read}
use Rattle.std.proofs.lemmas.List.Sorted.{IsPermutation-refl, IsPermutation-cons, IsPermutation-trans, IsPermutation-middle}
use Rattle.std.specs.Prelude.{IsPermutation}
use Rattle.std.specs.List.{AllByRecursion, Contains}
use Rattle.cad_rings.specs.Cycle.{Side}
use Rattle.cad_map.specs.Valid.{EachPair}
use Rattle.cad_map.proofs.CallerLemmas.{All-follows, All-at_each, Contains-at}
use Rattle.cad_files.specs.Cycles.{FollowedSide, side_of_followed, side_behind, plan_side_of, followed_side}
use Rattle.cad_files.specs.Pool.{Pool, untaken_sides, IsPool}
use Rattle.cad_files.specs.declared.sides.PlanSide.{PlanSide}
use Rattle.cad_files.proofs.NextSides.{next-side}

-- a side whose flag is set is out of those that are left
pub taken : (sides : List PlanSide) (flags : List Bool) (k : ℕ) (s : PlanSide) → slice_get sides k ≡ Some s → slice_get flags k ≡ Some false
    → IsPermutation (untaken_sides sides flags) (followed_side s ∷ untaken_sides sides (set flags k true))
taken [] flags k s at unset = cc
taken (t ∷ sides) [] k s at unset = cc
taken (t ∷ sides) (true ∷ flags) zero s at unset = cc
taken (t ∷ sides) (false ∷ flags) zero s at unset =
    let same : t ≡ s = cc in
    subst (λ (u : PlanSide). IsPermutation (followed_side t ∷ untaken_sides sides flags) (followed_side u ∷ untaken_sides sides flags)) same (IsPermutation-refl (followed_side t ∷ untaken_sides sides flags))
taken (t ∷ sides) (true ∷ flags) (suc k) s at unset = taken sides flags k s at unset
taken (t ∷ sides) (false ∷ flags) (suc k) s at unset =
    let rest = untaken_sides sides (set flags k true) in
    IsPermutation-trans (followed_side t ∷ untaken_sides sides flags) (followed_side t ∷ followed_side s ∷ rest) (followed_side s ∷ followed_side t ∷ rest)
    (IsPermutation-cons (followed_side t) (untaken_sides sides flags) (followed_side s ∷ rest) (taken sides flags k s at unset))
    (IsPermutation-middle (followed_side t ∷ []) (followed_side s) rest)

-- what each side has, those that are left have
left-have : (P : _ → Type 0) (sides : List PlanSide) (flags : List Bool) → AllByRecursion P (map plan_side_of sides) → AllByRecursion (λ f. P (side_of_followed f)) (untaken_sides sides flags)
left-have P [] flags all = tt
left-have P (s ∷ sides) [] all = tt
left-have P (s ∷ sides) (true ∷ flags) all = left-have P sides flags all.1
left-have P (s ∷ sides) (false ∷ flags) all = (all.0, left-have P sides flags all.1)

-- a side at a place is none of those before it
differs : (sides : List PlanSide) (s t : PlanSide) (k : ℕ) → AllByRecursion (λ a. plan_side_of s ≢ a) (map plan_side_of sides) → slice_get sides k ≡ Some t → plan_side_of s ≢ plan_side_of t
differs sides s t k all at =
    All-at_each (λ a. plan_side_of s ≢ a) (map plan_side_of sides) (plan_side_of t) all
    (Contains-at (map plan_side_of sides) k (plan_side_of t) (slice_get-map plan_side_of sides k ∙ ap (option_map plan_side_of) at))

-- a side whose flag is set is none of those that are left
pub gone : (sides : List PlanSide) (flags : List Bool) (k : ℕ) (t : PlanSide) → EachPair (λ a b. a ≢ b) (map plan_side_of sides) → slice_get sides k ≡ Some t → slice_get flags k ≡ Some true
    → AllByRecursion (λ f. side_of_followed f ≢ plan_side_of t) (untaken_sides sides flags)
gone [] flags k t once at is_set = cc
gone (s ∷ sides) [] k t once at is_set = tt
gone (s ∷ sides) (false ∷ flags) zero t once at is_set = cc
gone (s ∷ sides) (true ∷ flags) zero t once at is_set =
    let same : s ≡ t = cc in
    left-have (λ a. a ≢ plan_side_of t) sides flags
    (All-follows (λ a. plan_side_of s ≢ a) (λ a. a ≢ plan_side_of t) (λ a apart is. apart (ap plan_side_of same ∙ sym is)) (map plan_side_of sides) once.0)
gone (s ∷ sides) (true ∷ flags) (suc k) t once at is_set = gone sides flags k t once.1 at is_set
gone (s ∷ sides) (false ∷ flags) (suc k) t once at is_set = (differs sides s t k once.0 at, gone sides flags k t once.1 at is_set)

-- where each flag is set, none is left
pub none-left : (sides : List PlanSide) (flags : List Bool) → ((k : ℕ) → k < length flags → slice_get flags k ≡ Some true) → untaken_sides sides flags ≡ []
none-left [] flags all = refl
none-left (s ∷ sides) [] all = refl
none-left (s ∷ sides) (false ∷ flags) all = let first : Some false ≡ Some true = all 0 (omega arith) in cc
none-left (s ∷ sides) (true ∷ flags) all = none-left sides flags (λ k below. all (suc k) (omega arith))

-- where no flag is set, each is left
pub all-left : (sides : List PlanSide) → untaken_sides sides (replicate (length sides) false) ≡ map followed_side sides
all-left [] = refl
all-left (s ∷ sides) = ap (λ (l : List FollowedSide). followed_side s ∷ l) (all-left sides)

-- a flag that is set stays so
pub stays-set : (flags : List Bool) (k j : ℕ) → slice_get flags j ≡ Some true → slice_get (set flags k true) j ≡ Some true
stays-set [] k j is_set = is_set
stays-set (b ∷ flags) zero zero is_set = refl
stays-set (b ∷ flags) zero (suc j) is_set = is_set
stays-set (b ∷ flags) (suc k) zero is_set = is_set
stays-set (b ∷ flags) (suc k) (suc j) is_set = stays-set flags k j is_set

pub now-set : (flags : List Bool) (k : ℕ) → k < length flags → slice_get (set flags k true) k ≡ Some true
now-set [] k below = absurd (omega (arith, below))
now-set (b ∷ flags) zero below = refl
now-set (b ∷ flags) (suc k) below = now-set flags k (omega (arith, below))

-- ---- The pool

-- the sides of a pool are those that it was made of
pub viewed : (sides : List PlanSide) (flags : List Bool) (p : Pool) → record { all = sides; left = untaken_sides sides flags } ≡ p
    → (s : PlanSide) → Contains p.all s → Contains sides s
viewed sides flags p is s there = subst (λ (q : Pool). Contains q.all s) (sym is) there

module _ (sides : List PlanSide) (flags : List Bool) (first : ℕ) (pool : IsPool sides flags first) where
  pub next-behind : (s t : PlanSide) → Contains sides s → slice_get sides s.next ≡ Some t → plan_side_of t ≡ side_behind (followed_side s)
  next-behind s t there at =
      let n = next-side sides pool.linked s there in
      let same : Some n.next ≡ Some t = sym n.at ∙ at in
      let is : t ≡ n.next = cc in
      ap plan_side_of is ∙ n.behind

  pub next-gone : (s : PlanSide) → Contains sides s → slice_get flags s.next ≡ Some true → AllByRecursion (λ f. side_of_followed f ≢ side_behind (followed_side s)) (untaken_sides sides flags)
  next-gone s there is_set =
      let n = next-side sides pool.linked s there in
      subst (λ (k : Side). AllByRecursion (λ f. side_of_followed f ≢ k) (untaken_sides sides flags)) n.behind (gone sides flags s.next n.next pool.once n.at is_set)

  -- one more flag that is set
  pub pool-set : (k : ℕ) → IsPool sides (set flags k true) first
  pool-set k = record {
    flagged = length-set flags k true ∙ pool.flagged;
    once = pool.once;
    linked = pool.linked;
    begun = pool.begun;
    before = λ j below. stays-set flags k j (pool.before j below);
  }

  -- the first that wasn't set, and each before it is
  pub pool-first : (k : ℕ) → k < length sides → ((j : ℕ) → first ≤ j → j < k → slice_get flags j ≡ Some true) → IsPool sides (set flags k true) (k + 1)
  pool-first k within between = record {
    flagged = length-set flags k true ∙ pool.flagged;
    once = pool.once;
    linked = pool.linked;
    begun = omega arith;
    before = λ j below. by j below (cases_lt j k);
  }
    where
      by : (j : ℕ) → j < k + 1 → (j < k) ⊎ (k ≤ j) → slice_get (set flags k true) j ≡ Some true
      by j below (inl less) = stays-set flags k j (early (cases_lt j first))
        where
          early : (j < first) ⊎ (first ≤ j) → slice_get flags j ≡ Some true
          early (inl before) = pool.before j before
          early (inr from) = between j from less
      by j below (inr past) =
          let same : k ≡ j = omega arith in
          let count = pool.flagged in
          subst (λ (i : ℕ). slice_get (set flags k true) i ≡ Some true) same (now-set flags k (omega arith))

  pub pool-empty : ((j : ℕ) → first ≤ j → j < length flags → slice_get flags j ≡ Some true) → untaken_sides sides flags ≡ []
  pool-empty rest = none-left sides flags (λ k below. by k below (cases_lt k first))
    where
      by : (k : ℕ) → k < length flags → (k < first) ⊎ (first ≤ k) → slice_get flags k ≡ Some true
      by k below (inl before) = pool.before k before
      by k below (inr from) = rest k from below

  -- what a pool's user sees of a side that is taken
  module _ (p : Pool) (is : record { all = sides; left = untaken_sides sides flags } ≡ p) (k : ℕ) (s : PlanSide) (within : k < length sides) (at : s ≡ get_or sides k s) where
    pub taken-among : Contains p.all s
    taken-among = subst (λ (q : Pool). Contains q.all s) is (k, within, sym at)

    pub taken-out : slice_get flags k ≡ Some false → IsPermutation p.left (followed_side s ∷ untaken_sides sides (set flags k true))
    taken-out unset =
        subst (λ (q : Pool). IsPermutation q.left (followed_side s ∷ untaken_sides sides (set flags k true))) is
        (taken sides flags k s (slice_get_read sides (length sides) k s refl within at) unset)

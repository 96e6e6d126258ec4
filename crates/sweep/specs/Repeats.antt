-- Values that stand again in a list.
use Rattle.std.specs.Prelude.{◌≡◌, ◌≢◌, ℕ, ◌+◌, ◌<◌, ◌≤◌, List, length, map, take, slice_index}
use Rattle.std.specs.Prelude.{slice_index_or, Option, MatchOption}
use Rattle.std.specs.List.{AllPairs, Contains, range_with_len}
use Rattle.sweep.specs.declared.repeats.Keyed.{Keyed}

-- no two are equal
abbrev pub AreDistinct : List ℕ → Type 0
AreDistinct keys = AllPairs (λ a b. a ≢ b) keys

-- the value at the place stands before it, and no two before it are equal
pub record IsFirstRepeat (keys : List ℕ) (place : ℕ) : Type 0 where
  pub within : place < length keys
  pub repeats : Contains (take place keys) (slice_index keys place)
  pub before : AreDistinct (take place keys)

-- each key with its place
abbrev pub keyed_of : List ℕ → List Keyed
keyed_of keys =
    map (λ i. record { key = slice_index keys i; place = i }) (range_with_len 0 (length keys))

-- the element at k and the next one have one key
abbrev pub AreEqual : List Keyed → ℕ → Type 0
AreEqual keyed k = (d : Keyed) → (slice_index_or keyed k d).key ≡ (slice_index_or keyed (k + 1) d).key

-- the place is that of an element right behind one with its key
pub record FollowsEqual (keyed : List Keyed) (place : ℕ) : Type 0 where
  pub at : ℕ
  pub within : at + 1 < length keyed
  pub equal : AreEqual keyed at
  pub is : (d : Keyed) → (slice_index_or keyed (at + 1) d).place ≡ place

-- the place is no later than that of any of the first so many right behind one with its key
abbrev pub PrecedesWithin : List Keyed → ℕ → Option ℕ → Type 0
PrecedesWithin keyed n least = (k : ℕ) (d : Keyed) → k + 1 < n → AreEqual keyed k
    → MatchOption least ⊥ (λ place. place ≤ (slice_index_or keyed (k + 1) d).place)

-- A path put in and cut out at its two ends, and a ring closed and opened.
use Rattle.std.specs.Prelude.{◌≡◌, false, List, [], ◌∷◌}
use Rattle.half_table.specs.declared.half.Half.{Half}
use Rattle.half_table.specs.Half.{twin, is_half}

-- ---- Put in and cut out

-- after `before` comes the path, then what followed `beyond`; after `beyond` the way back, then what followed `before`
abbrev pub put : (before beyond first last : Half) → (Half → Half) → List (Half × Half)
put before beyond first last next =
    (twin first, next before) ∷ (before, first) ∷ (beyond, twin last) ∷ (last, next beyond) ∷ []

-- both ends of the path are free, and it can be put in at two other halves
pub record CanPut (before beyond first last : Half) (next : Half → Half) : Type 0 where
  pub first_free : next (twin first) ≡ first
  pub last_free : next last ≡ twin last
  pub two : is_half beyond before ≡ false
  pub beyond_first : is_half beyond (twin first) ≡ false
  pub last_before : is_half last before ≡ false
  pub last_first : is_half last (twin first) ≡ false

-- what comes before the path goes on to what comes after it on the way back, and the path's ends lead back
abbrev pub cut : (before beyond first last : Half) → (Half → Half) → List (Half × Half)
cut before beyond first last next =
    (beyond, next last) ∷ (last, twin last) ∷ (twin first, first) ∷ (before, next (twin first)) ∷ []

-- the path doesn't turn back into itself, and neither it nor its way back is a ring
pub record CanCut (first last : Half) (next : Half → Half) : Type 0 where
  pub two : is_half first (twin last) ≡ false
  pub no_ring : is_half (next last) first ≡ false
  pub no_ring_back : is_half (next (twin first)) (twin last) ≡ false

-- the path comes after `before`, and its way back after `beyond`
pub record IsPut (before beyond first last : Half) (next : Half → Half) : Type 0 where
  pub enters : next before ≡ first
  pub returns : next beyond ≡ twin last

-- ---- A ring

-- the last half leads on to the first, and back
abbrev pub closed : (first last : Half) → List (Half × Half)
closed first last = (twin first, twin last) ∷ (last, first) ∷ []

-- both ends lead back
abbrev pub opened : (first last : Half) → List (Half × Half)
opened first last = (twin first, first) ∷ (last, twin last) ∷ []

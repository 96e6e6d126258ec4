-- Marks of 0 and 1, and the sums of blocks of them.
use Rattle.std.specs.Prelude.{◌≡◌, ℕ, ◌+◌, ◌*◌, ◌≤◌, zero, suc, List, [], ◌∷◌, length, slice_index}

-- the sum of the first i numbers of xs
unfoldable pub total_before : ℕ → List ℕ → ℕ
total_before zero xs = 0
total_before (suc n) [] = 0
total_before (suc n) (x ∷ xs) = x + total_before n xs

-- no number of xs is above 1
abbrev pub AreMarks : List ℕ → Type 0
AreMarks xs = (k : ℕ) → slice_index xs k ≤ 1

-- each number of sums is the total of 64 numbers of xs, and the sums reach over all of xs
pub record AreBlockSums (xs sums : List ℕ) : Type 0 where
  pub each : (j : ℕ)
      → total_before (j * 64) xs + slice_index sums j ≡ total_before (j * 64 + 64) xs
  pub room : length xs ≤ length sums * 64

-- a sum stands for each 64 marks, and a total for each 64 of these sums
pub record IsTallied (marks sums totals : List ℕ) : Type 0 where
  pub ones : AreMarks marks
  pub sums_right : AreBlockSums marks sums
  pub totals_right : AreBlockSums sums totals

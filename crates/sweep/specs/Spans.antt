-- Spans on a line, and what is to hold of each two that overlap.
use Rattle.std.specs.Prelude.{◌≡◌, ◌≢◌, ℕ, ◌≤◌, ◌<◌, Bool, true, false, ⊤, List, [], ◌∷◌, ◌⊎◌}
use Rattle.std.specs.List.{AllByRecursion, Contains}
use Rattle.sweep.specs.declared.span.Span.{Span}

-- the relation holds between each element and each later one
abbrev pub EachTwo : {X : Type 0} → (X → X → Type 0) → List X → Type 0
EachTwo R [] = ⊤
EachTwo R (x ∷ xs) = AllByRecursion (R x) xs × EachTwo R xs

-- in order of their beginnings
abbrev pub IsRising : List Span → Type 0
IsRising spans = EachTwo (λ a b. a.low ≤ b.low) spans

-- where they are of two things, and the second begins before the first ends, the two pass the test
abbrev pub PassIfMet : (ℕ → ℕ → Bool) → Span → Span → Type 0
PassIfMet test a b = a.place ≢ b.place → b.low ≤ a.high → test a.place b.place ≡ true

-- two places pass the test in one of the two orders
abbrev pub PassEitherWay : (ℕ → ℕ → Bool) → ℕ → ℕ → Type 0
PassEitherWay test i j = (test i j ≡ true) ⊎ (test j i ≡ true)

-- each two of these spans that are of two things and overlap pass the test
abbrev pub AllThatMeetPass : (ℕ → ℕ → Bool) → List Span → Type 0
AllThatMeetPass test spans =
    (a b : Span) → Contains spans a → Contains spans b → a.place ≢ b.place
    → a.low ≤ b.high → b.low ≤ a.high → PassEitherWay test a.place b.place

-- two of these that are of two things don't pass the test
pub record HasFailed (test : ℕ → ℕ → Bool) (spans : List Span) : Type 0 where
  pub first : Span
  pub second : Span
  pub first_in : Contains spans first
  pub second_in : Contains spans second
  pub apart : first.place ≢ second.place
  pub fails : test first.place second.place ≡ false

-- one of these doesn't pass the test with a span of another thing
abbrev pub HasFailedWith : (ℕ → ℕ → Bool) → List Span → Span → Type 0
HasFailedWith test spans first =
    (s : Span) × Contains spans s × (first.place ≢ s.place) × (test first.place s.place ≡ false)

-- they are of things before this place
abbrev pub HavePlacesBelow : List Span → ℕ → Type 0
HavePlacesBelow spans n = (s : Span) → Contains spans s → s.place < n

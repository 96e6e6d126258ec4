-- Spans in order of their beginnings: those after the first that begins past an end begin past it too.
use Rattle.std.proofs.Common.{◌≡◌, ℕ, suc, ◌+◌, ◌<◌, ◌≤◌, List, [], ◌∷◌, Bool, drop, length, get_or, subst, sym, arith}
use Rattle.std.specs.List.Sorted.{IsNonDecreasingBy}
use Rattle.std.proofs.Math.Seq.{drop-cons}
use Rattle.std.specs.List.{AllByRecursion}
use Rattle.sweep.specs.declared.span.Span.{Span}
use Rattle.sweep.specs.Spans.{IsRising, PassIfMet}

past-all : (test : ℕ → ℕ → Bool) (first : Span) (n : ℕ) → first.high < n → (xs : List Span) → AllByRecursion (λ b. n ≤ b.low) xs → AllByRecursion (PassIfMet test first) xs
past-all test first n past [] all = tt
past-all test first n past (x ∷ xs) all = ((λ apart met. let here = all.0 in absurd (omega arith)), past-all test first n past xs all.1)

none_met : (test : ℕ → ℕ → Bool) (first x : Span) (xs : List Span) → first.high < x.low → IsRising (x ∷ xs) → AllByRecursion (PassIfMet test first) (x ∷ xs)
none_met test first x xs past rising = ((λ apart met. absurd (omega arith)), past-all test first x.low past xs rising.0)

-- where the span at a place begins past the end of the first, none from there on meets it
pub none_met-from : (test : ℕ → ℕ → Bool) (first : Span) (spans : List Span) (i : ℕ) (d : Span) → i < length spans → first.high < (get_or spans i d).low → IsRising (drop i spans) → AllByRecursion (PassIfMet test first) (drop i spans)
none_met-from test first spans i d within past rising =
    let cut = drop-cons spans i d within in
    subst (λ (l : List Span). AllByRecursion (PassIfMet test first) l) (sym cut) (none_met test first (get_or spans i d) _ past (subst IsRising cut rising))

-- those after the first of some that rise
pub rising-next : (spans : List Span) (i : ℕ) (d : Span) → i < length spans → IsRising (drop i spans) → IsRising (drop (i + 1) spans)
rising-next spans i d within rising =
    let next : suc i ≡ i + 1 = omega arith in
    subst (λ (n : ℕ). IsRising (drop n spans)) next ((subst IsRising (drop-cons spans i d within) rising).1)

-- ---- From a sort

all-from : (n : ℕ) (d : Span) (xs : List Span) → ((i : ℕ) → i < length xs → n ≤ (get_or xs i d).low) → AllByRecursion (λ b. n ≤ b.low) xs
all-from n d [] each = tt
all-from n d (x ∷ xs) each = (each 0 (omega arith), all-from n d xs (λ i within. each (suc i) (omega arith)))

pub rising-from : (xs : List Span) → IsNonDecreasingBy (λ s. s.low) xs → IsRising xs
rising-from [] up = tt
rising-from (x ∷ xs) up = (all-from x.low x xs (λ i within. up 0 (suc i) x (omega arith) (omega arith)), rising-from xs (λ i j d le within. up (suc i) (suc j) d (omega arith) (omega arith)))

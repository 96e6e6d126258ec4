use Rattle.std.proofs.Common.{◌≡◌, ◌<◌, ◌≤◌, ◌+◌, ◌/◌, ℕ, List, get_or, set, length, arith, sym, length-append, subst, [], ◌∷◌, ◌++◌}
use Rattle.entry_list.specs.Totals.{IsTallied}
use Rattle.entry_list.specs.declared.marks.Marks.TheInside.{Inside}
use Rattle.entry_list.proofs.Totals.{more_sums, more_totals, push_tallied, sum-read, total-read, sum-read-small, total-read-small}
use Rattle.entry_list.proofs.marks.Marks.push.Goals as goal
use Rattle.entry_list.proofs.marks.Marks.push.Goals.{then-whole-len+in_ok-push, else-whole-len}
use Rattle.entry_list.proofs.marks.Marks.push.Goals.{then-block-len+in_ok-push-2, else-block-len}
use Rattle.entry_list.proofs.marks.Marks.push.Goals.{After-index}

-- there is a total for the block of a further mark
abbrev HasTotal : List ℕ → List ℕ → List ℕ → ℕ → Type 0
HasTotal m s t n = IsTallied m s t × (n / 64 / 64 < length t) × (n ≡ length m)

-- and a sum
abbrev IsReady : List ℕ → List ℕ → List ℕ → ℕ → Type 0
IsReady m s t n = IsTallied m s t × (n / 64 < length s) × (n ≡ length m)

total_grown : (m s t u : List ℕ) (n : ℕ) → u ≡ t ++ 0 ∷ [] → IsTallied m s t → n ≡ length m
    → n / 64 / 64 ≡ length t → HasTotal m s u n
total_grown m s t u n e h l b =
    rw e (more_totals m s t h, omega (arith, length-append t (0 ∷ [])), l)

total_kept : (m s t : List ℕ) (n : ℕ) → IsTallied m s t → n ≡ length m
    → (n / 64 / 64 ≡ length t → ⊥) → HasTotal m s t n
total_kept m s t n h l ne = (h, omega (arith, h.sums_right.room, h.totals_right.room), l)

sum_grown : (m s t u : List ℕ) (n : ℕ) → u ≡ s ++ 0 ∷ [] → HasTotal m s t n → n / 64 ≡ length s
    → IsReady m u t n
sum_grown m s t u n e h b =
    rw e (
      more_sums m s t h.0 (omega (arith, h.1, b)),
      omega (arith, length-append s (0 ∷ [])),
      h.2,
    )

sum_kept : (m s t : List ℕ) (n : ℕ) → HasTotal m s t n → (n / 64 ≡ length s → ⊥) → IsReady m s t n
sum_kept m s t n h ne = (h.0, omega (arith, h.0.sums_right.room, h.2), h.2)

pushed : (m s t v : List ℕ) (n x y z w : ℕ) → v ≡ m ++ y ∷ [] → IsReady m s t n
    → x ≡ get_or s (n / 64) 0 → z ≡ get_or t (n / 64 / 64) 0 → w ≡ y → y ≤ 1
    → IsTallied v (set s (n / 64) (x + y)) (set t (n / 64 / 64) (z + w))
pushed m s t v n x y z w e r sx tz wy u =
    rw (e, wy, sx, tz, r.2)
    (push_tallied y m s t r.0 (subst (λ (k : ℕ). k / 64 < length s) r.2 r.1) u)

-- once there is room for a block's total
has_total : (c : goal.After-index)
    → HasTotal c.if-whole-len.self-inside.marks.items c.if-whole-len.self-inside.sums.items
    c.if-whole-len.self-inside.totals.items c.len-block.result
has_total c =
    let n = c.len-block.result in
    elim c.if-whole-len.branch [
      | then-whole-len+in_ok-push w ↦
          subst (λ (x : Inside). HasTotal x.marks.items x.sums.items x.totals.items n)
          (sym w.self-inside-is)
          (total_grown c.self.inside.marks.items c.self.inside.sums.items
          c.self.inside.totals.items _ n w.in_ok-push.ensures.items c.self.invariant (omega arith)
          (omega (arith, w.if-whole-len.true)))
      | else-whole-len w ↦
          subst (λ (x : Inside). HasTotal x.marks.items x.sums.items x.totals.items n)
          (sym w.self-inside-is)
          (total_kept c.self.inside.marks.items c.self.inside.sums.items
          c.self.inside.totals.items n c.self.invariant (omega arith)
          (λ e. w.if-whole-len.false (omega arith)))
    ]

-- and for its sum
ready : (c : goal.After-index)
    → IsReady c.if-block-len.self-inside.marks.items c.if-block-len.self-inside.sums.items
    c.if-block-len.self-inside.totals.items c.len-block.result
ready c =
    let n = c.len-block.result in
    let before = c.if-whole-len.self-inside in
    elim c.if-block-len.branch [
      | then-block-len+in_ok-push-2 w ↦
          subst (λ (x : Inside). IsReady x.marks.items x.sums.items x.totals.items n)
          (sym w.self-inside-is)
          (sum_grown before.marks.items before.sums.items before.totals.items _ n
          w.in_ok-push-2.ensures.items (has_total c) (omega (arith, w.if-block-len.true)))
      | else-block-len w ↦
          subst (λ (x : Inside). IsReady x.marks.items x.sums.items x.totals.items n)
          (sym w.self-inside-is)
          (sum_kept before.marks.items before.sums.items before.totals.items n (has_total c)
          (λ e. w.if-block-len.false (omega arith)))
    ]

pub overflow_add-sum : goal.overflow_add-sum
overflow_add-sum c =
    let r = ready (goal.at.overflow_add-sum c).After-index in
    omega (arith, sum-read-small c.len-block.result r.0 r.1 c.index.ensures)

pub overflow_add-total : goal.overflow_add-total
overflow_add-total c =
    let r = ready (goal.at.overflow_add-total c).After-index in
    omega (arith, total-read-small c.len-block.result r.0 r.1 c.index-2.ensures)

pub invariant_of-self-in_err-push-3 : goal.invariant_of-self-in_err-push-3
invariant_of-self-in_err-push-3 c =
    let r = ready (goal.at.invariant_of-self-in_err-push-3 c).After-index in
    rw c.in_err-push-3.ensures.items r.0

pub invariant_of-self-2 : goal.invariant_of-self-2
invariant_of-self-2 c =
    let r = ready (goal.at.invariant_of-self-2 c).After-index in
    pushed c.if-block-len.self-inside.marks.items c.if-block-len.self-inside.sums.items
    c.if-block-len.self-inside.totals.items _ c.len-block.result c.index.result.now c.args.mark
    c.index-2.result.now c.from.result c.in_ok-push-3.ensures.items r
    (sum-read _ r.0 r.1 c.index.ensures) (total-read _ r.0 r.1 c.index-2.ensures) c.from.ensures c.requires.mark

use Rattle.std.proofs.Common.{◌≡◌, ◌+◌, ◌*◌, ◌/◌, ℕ, List, get_or, length, arith, sym, ap}
use Rattle.std.proofs.lemmas.List.{get_or_read}
use Rattle.entry_list.specs.Totals.{total_before, IsTallied}
use Rattle.entry_list.proofs.Totals.{total-zero, total-more, blocks, whole-small, total-small}
use Rattle.entry_list.proofs.marks.Marks.count_before.Goals.{After-index, After-sum_between-marks}
use Rattle.entry_list.proofs.marks.Marks.count_before.Goals as goal

-- the total that was read
total_read : (c : goal.After-index)
    → c.index.result.now ≡ get_or c.self.inside.totals.items c.loop-j.j 0
total_read c =
    get_or_read c.self.inside.totals.items c.loop-j.j c.index.result.now
    (omega (
      arith,
      c.loop-j-test.true,
      c.requires,
      c.self.invariant.sums_right.room,
      c.self.invariant.totals_right.room,
      ap length c.self.view_is,
    )) c.index.ensures 0

-- the totals, the sums behind them and the marks behind these are of all marks before the place
all_before : (m s t d e : List ℕ) (place j count sums marks : ℕ) → IsTallied m s t → d ≡ s → e ≡ m
    → j ≡ place / 64 / 64 → count ≡ total_before j t
    → total_before (place / 64 / 64 * 64) d + sums ≡ total_before (place / 64) d
    → total_before (place / 64 * 64) e + marks ≡ total_before place e
    → count + sums + marks ≡ total_before place m
all_before m s t d e place j count sums marks tallied ds em at_whole counted summed marked =
    omega (
      arith,
      counted,
      summed,
      marked,
      ap (λ (k : ℕ). total_before k t) at_whole,
      ap (λ (x : List ℕ). total_before (place / 64 / 64 * 64) x) ds,
      ap (λ (x : List ℕ). total_before (place / 64) x) ds,
      ap (λ (x : List ℕ). total_before (place / 64 * 64) x) em,
      ap (λ (x : List ℕ). total_before place x) em,
      blocks (place / 64 / 64) s t tallied.totals_right,
      blocks (place / 64) m s tallied.sums_right,
    )

counted_all : (c : goal.After-sum_between-marks)
    → c.loop-j.count + c.sum_between-sums.result + c.sum_between-marks.result
    ≡ total_before c.args.place c.self.inside.marks.items
counted_all c =
    all_before c.self.inside.marks.items c.self.inside.sums.items c.self.inside.totals.items
    c.deref.result.now c.deref-2.result.now c.args.place c.loop-j.j c.loop-j.count
    c.sum_between-sums.result c.sum_between-marks.result c.self.invariant c.deref.ensures.value
    c.deref-2.ensures.value (omega arith) c.loop-j.invariant c.sum_between-sums.ensures
    c.sum_between-marks.ensures

pub loop-j-init : goal.loop-j-init
loop-j-init c = sym (total-zero _)

pub overflow_add-count : goal.overflow_add-count
overflow_add-count c =
    let m = c.self.inside.marks.items in
    let s = c.self.inside.sums.items in
    let t = c.self.inside.totals.items in
    omega (
      arith,
      total_read (goal.at.overflow_add-count c).After-index,
      c.loop-j.invariant,
      whole-small c.loop-j.j m s t c.self.invariant,
      blocks c.loop-j.j s t c.self.invariant.totals_right,
      blocks (c.loop-j.j * 64) m s c.self.invariant.sums_right,
      total-small (c.loop-j.j * 64 * 64) m c.self.invariant.ones,
    )

pub loop-j-preserved : goal.loop-j-preserved
loop-j-preserved c =
    omega (
      arith,
      total_read (goal.at.loop-j-preserved c).After-index,
      total-more c.loop-j.j c.self.inside.totals.items,
    )

pub overflow_add-result : goal.overflow_add-result
overflow_add-result c =
    omega (
      arith,
      counted_all (goal.at.overflow_add-result c).After-sum_between-marks,
      total-small c.args.place c.self.inside.marks.items c.self.invariant.ones,
    )

pub overflow_add-result-2 : goal.overflow_add-result-2
overflow_add-result-2 c =
    omega (
      arith,
      counted_all (goal.at.overflow_add-result-2 c).After-sum_between-marks,
      total-small c.args.place c.self.inside.marks.items c.self.invariant.ones,
    )

pub returns-clause-value : goal.returns-clause-value
returns-clause-value c =
    omega (
      arith,
      counted_all (goal.at.returns-clause-value c).After-sum_between-marks,
      ap (total_before c.args.place) c.self.view_is,
    )

pub returns-clause-small : goal.returns-clause-small
returns-clause-small c =
    omega (
      arith,
      counted_all (goal.at.returns-clause-small c).After-sum_between-marks,
      total-small c.args.place c.self.inside.marks.items c.self.invariant.ones,
    )

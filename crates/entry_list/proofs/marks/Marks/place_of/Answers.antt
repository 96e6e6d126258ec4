use Rattle.std.proofs.Common.{get_or, ◌≡◌, ◌<◌, ◌+◌, ◌*◌, ℕ, length, arith, sym, ap, subst, List}
use Rattle.std.proofs.lemmas.List.{get_or_read}
use Rattle.entry_list.specs.Totals.{total_before, AreMarks, IsTallied}
use Rattle.entry_list.proofs.Totals.{total-zero, total-more, blocks, all-sums, all-totals, mark_within}
use Rattle.entry_list.proofs.marks.Marks.place_of.Goals.{At-loop-left, After-index}
use Rattle.entry_list.proofs.marks.Marks.place_of.Goals.{After-place_past-block}
use Rattle.entry_list.proofs.marks.Marks.place_of.Goals as goal

-- fewer marks are asked for than there are
enough : (m n : List ℕ) (count : ℕ) → m ≡ n → count < total_before (length n) n
    → count < total_before (length m) m
enough m n count e all = subst (λ (x : List ℕ). count < total_before (length x) x) (sym e) all

-- so the total that is looked at is one
total_there : (m s t : List ℕ) (whole count left : ℕ) → IsTallied m s t
    → count < total_before (length m) m → left + total_before whole t ≡ count → whole < length t
total_there m s t whole count left h some here =
    mark_within whole count t (omega (arith, here)) (omega (arith, some, all-totals m s t h))

whole_there : (c : goal.At-loop-left) → c.loop-left.whole < length c.self.inside.totals.items
whole_there c =
    total_there c.self.inside.marks.items c.self.inside.sums.items c.self.inside.totals.items
    c.loop-left.whole c.args.count c.loop-left.left c.self.invariant
    (enough _ _ _ c.self.view_is c.requires) c.loop-left.invariant

-- so it is with the sums
sums_left : (m s t d : List ℕ) (whole count left : ℕ) → IsTallied m s t → d ≡ s
    → count < total_before (length m) m → left + total_before whole t ≡ count
    → total_before (whole * 64) d + left < total_before (length d) d
sums_left m s t d whole count left h e some here =
    rw e (omega (arith, some, here, blocks whole s t h.totals_right, all-sums m s t h))

-- what is left at a block is of its marks
block_left : (m s t d : List ℕ) (whole block count left rest : ℕ) → IsTallied m s t → d ≡ s
    → left + total_before whole t ≡ count
    → total_before block d + rest ≡ total_before (whole * 64) d + left
    → total_before (block * 64) m + rest ≡ count
block_left m s t d whole block count left rest h e here there =
    omega (
      arith,
      here,
      there,
      ap (λ (x : List ℕ). total_before block x) e,
      ap (λ (x : List ℕ). total_before (whole * 64) x) e,
      blocks whole s t h.totals_right,
      blocks block m s h.sums_right,
    )

left_at : (c : goal.After-place_past-block)
    → total_before (c.place_past-block.result.0 * 64) c.self.inside.marks.items
    + c.place_past-block.result.1
    ≡ c.args.count
left_at c =
    block_left c.self.inside.marks.items c.self.inside.sums.items c.self.inside.totals.items
    c.deref.result.now c.loop-left.whole c.place_past-block.result.0 c.args.count c.loop-left.left
    c.place_past-block.result.1 c.self.invariant c.deref.ensures.value c.loop-left.invariant
    c.place_past-block.ensures.left

-- and the marks before the place that was found are as many as asked for
found : (m d : List ℕ) (place block rest over count : ℕ) → AreMarks m → d ≡ m
    → over < get_or d place 0
    → total_before place d + over ≡ total_before (block * 64) d + rest
    → total_before (block * 64) m + rest ≡ count → total_before place m ≡ count
found m d place block rest over count ones e past there here =
    omega (
      arith,
      past,
      there,
      here,
      ones place,
      ap (λ (x : List ℕ). get_or x place 0) e,
      ap (λ (x : List ℕ). total_before place x) e,
      ap (λ (x : List ℕ). total_before (block * 64) x) e,
    )

total_read : (c : goal.After-index) → c.loop-left.whole < length c.self.inside.totals.items
    → c.index.result.now ≡ get_or c.self.inside.totals.items c.loop-left.whole 0
total_read c there =
    get_or_read c.self.inside.totals.items c.loop-left.whole _ there c.index.ensures 0

pub loop-left-init : goal.loop-left-init
loop-left-init c = omega (arith, total-zero c.self.inside.totals.items)

pub index-requires : goal.index-requires
index-requires c = omega (arith, whole_there (goal.at.index-requires c).At-loop-left)

pub index-requires-in-loop-left : goal.index-requires-in-loop-left
index-requires-in-loop-left c =
    omega (arith, whole_there (goal.at.index-requires-in-loop-left c).At-loop-left)

pub overflow_sub-left : goal.overflow_sub-left
overflow_sub-left c =
    let t = c.self.inside.totals.items in
    let at = goal.at.overflow_sub-left c in
    let w = whole_there at.At-loop-left in
    let p = total_read at.After-index w in
    let q = get_or_read t c.loop-left.whole _ w c.index-in-loop-left.ensures 0 in
    omega (arith, p, q, c.loop-left-test.true)

pub overflow_add-whole : goal.overflow_add-whole
overflow_add-whole c =
    omega (
      arith,
      whole_there (goal.at.overflow_add-whole c).At-loop-left,
      c.self.inside.totals.small,
    )

pub loop-left-smaller : goal.loop-left-smaller
loop-left-smaller c = omega (arith, whole_there (goal.at.loop-left-smaller c).At-loop-left)

pub loop-left-preserved : goal.loop-left-preserved
loop-left-preserved c =
    let t = c.self.inside.totals.items in
    let at = goal.at.loop-left-preserved c in
    let w = whole_there at.At-loop-left in
    let p = total_read at.After-index w in
    let q = get_or_read t c.loop-left.whole _ w c.index-in-loop-left.ensures 0 in
    omega (
      arith,
      p,
      q,
      c.loop-left.invariant,
      c.loop-left-test.true,
      total-more c.loop-left.whole t,
    )

pub overflow_mul-whole : goal.overflow_mul-whole
overflow_mul-whole c =
    let w = whole_there (goal.at.overflow_mul-whole c).At-loop-left in
    let s = c.self.inside.sums.items in
    let some = enough _ _ _ c.self.view_is c.requires in
    let within : c.loop-left.whole * 64 < length s =
    mark_within (c.loop-left.whole * 64) c.args.count s
    (omega (
      arith,
      c.loop-left.invariant,
      blocks c.loop-left.whole s _ c.self.invariant.totals_right,
    )) (omega (arith, some, all-sums _ _ _ c.self.invariant)) in
    omega (arith, within, c.self.inside.sums.small)

pub place_past-block-requires : goal.place_past-block-requires
place_past-block-requires c =
    sums_left c.self.inside.marks.items c.self.inside.sums.items c.self.inside.totals.items
    c.deref.result.now c.loop-left.whole c.args.count c.loop-left.left c.self.invariant
    c.deref.ensures.value (enough _ _ _ c.self.view_is c.requires) c.loop-left.invariant

pub overflow_mul-block : goal.overflow_mul-block
overflow_mul-block c =
    let m = c.self.inside.marks.items in
    let here = left_at (goal.at.overflow_mul-block c).After-place_past-block in
    let within : c.place_past-block.result.0 * 64 < length m =
    mark_within (c.place_past-block.result.0 * 64) c.args.count m (omega (arith, here))
    (enough _ _ _ c.self.view_is c.requires) in
    omega (arith, within, c.self.inside.marks.small)

pub place_past-place-requires : goal.place_past-place-requires
place_past-place-requires c =
    let here = left_at (goal.at.place_past-place-requires c).After-place_past-block in
    rw c.deref-2.ensures.value
    (omega (arith, here, enough _ _ _ c.self.view_is c.requires))

pub returns-clause-before : goal.returns-clause-before
returns-clause-before c =
    rw (← c.self.view_is)
    (found c.self.inside.marks.items c.deref-2.result.now c.place_past-place.result.0
    c.place_past-block.result.0 c.place_past-block.result.1 c.place_past-place.result.1
    c.args.count c.self.invariant.ones c.deref-2.ensures.value c.place_past-place.ensures.past
    c.place_past-place.ensures.left
    (left_at (goal.at.returns-clause-before c).After-place_past-block))

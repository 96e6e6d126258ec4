use Rattle.std.proofs.Common.{◌≡◌, ◌∙◌, ◌<◌, sym, subst, length, get_or, arith}
use Rattle.entry_list.specs.Slots.{rows_of, marks_of, rows_before}
use Rattle.entry_list.proofs.Rows.{all-full, count-all}
use Rattle.entry_list.proofs.list.EntryList.slot_at.Goals as goal

pub place_of-requires : goal.place_of-requires
place_of-requires g c =
    let within : c.args.place < length (rows_of c.self.inside.slots) = rw c.self.view_is c.requires in
    omega (arith, within, count-all c.self.inside.slots c.self.inside.live c.self.invariant.0.0)

-- no slot is empty
full : (g : _) (c : goal.Then-self-len g) → (rows_before c.args.place c.args.self.now ≡ c.args.place) × (get_or (marks_of c.args.self.now) c.args.place 0 ≡ 1)
full g c =
    let es = c.self.inside.slots in
    let count : length (rows_of es) ≡ length es = sym c.self.invariant.0.1 ∙ c.if-self-len.true ∙ c.len.ensures.len in
    let within : c.args.place < length (rows_of es) = rw c.self.view_is c.requires in
    rw (← c.self.view_is) (all-full es c.args.place count (subst (λ n. c.args.place < n) count within))

pub returns-then-self-len-clause-marked : goal.returns-then-self-len-clause-marked
returns-then-self-len-clause-marked g c = (full g c).1

pub returns-then-self-len-clause-before : goal.returns-then-self-len-clause-before
returns-then-self-len-clause-before g c = (full g c).0

use Rattle.std.proofs.Common.{rules, ◌∙◌}
use Rattle.entry_list.proofs.EmptySlots.{KeepsRows, swap-unmarked}
use Rattle.entry_list.proofs.list.EntryList.swap_empty.Goals as goal

pub invariant_of-self : goal.invariant_of-self
invariant_of-self g c =
    let es = c.self.inside.slots in
    let k : KeepsRows es c.swap.new.self c.args.other c.args.number =
    rw c.swap.ensures.rows (swap-unmarked c.args.own c.args.other c.args.number es
    (rw c.self.view_is c.requires.own) (rw c.self.view_is c.requires.other)
    (rw c.self.view_is c.requires.unmarked)) in
    ((rw k.marks c.self.invariant.0.0, rw k.rows c.self.invariant.0.1), λ n more. c.swap.ensures.same n ∙ c.self.invariant.1 n more)

pub returns : goal.returns
returns g c =
    let r = c.requires in
    let es = c.args.self.now in
    let k : KeepsRows es c.swap.new.self c.args.other c.args.number =
    rw (c.swap.ensures.rows, c.self.view_is) (swap-unmarked c.args.own _ _ es r.own r.other r.unmarked) in
    record {
      rows = k.rows;
      marks = k.marks;
      slots = search rules;
      empty = k.empty;
    }

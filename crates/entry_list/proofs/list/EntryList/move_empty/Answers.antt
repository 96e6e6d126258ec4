use Rattle.std.proofs.Common.{◌∙◌, ◌<◌, sym, ap, arith, length, rules}
use Rattle.entry_list.specs.Slots.{IsEmptySlot}
use Rattle.entry_list.proofs.Rows.{length-marks}
use Rattle.entry_list.proofs.EmptySlots.{MovesEmpty, move-empty, empty-within}
use Rattle.entry_list.proofs.list.EntryList.move_empty.Goals as goal

pub move_row-requires-clause-from_within : goal.move_row-requires-clause-from_within
move_row-requires-clause-from_within g c =
    empty-within c.args.from c.args.number c.self.inside.slots
    (rw c.self.view_is c.requires.own)

pub mark_between-requires : goal.mark_between-requires
mark_between-requires g c =
    let es = c.self.inside.slots in
    let from = c.args.from in
    let to = c.args.to in
    let n = c.args.number in
    let h : IsEmptySlot es from n = rw c.self.view_is c.requires.own in
    let inside : to < length es = rw c.self.view_is c.requires.to in
    let k : MovesEmpty es c.move_row.new.self from to n
    = rw c.move_row.ensures.rows (move-empty from to n es h inside) in
    record {
      size = ap length c.self.invariant.0.0 ∙ (length-marks es ∙ sym k.long);
      within = omega (arith, empty-within from n es h, inside, k.long);
      before = λ i l. rw c.self.invariant.0.0 (k.before i (omega (arith, l)) (omega (arith, l)));
      behind = λ i l. rw c.self.invariant.0.0 (k.behind i (omega (arith, l)) (omega (arith, l)));
    }

pub invariant_of-self : goal.invariant_of-self
invariant_of-self g c =
    let es = c.self.inside.slots in
    let h : IsEmptySlot es c.args.from c.args.number = rw c.self.view_is c.requires.own in
    let k : MovesEmpty es c.move_row.new.self c.args.from c.args.to c.args.number
    = rw c.move_row.ensures.rows (move-empty _ _ _ es h (rw c.self.view_is c.requires.to)) in
    ((c.mark_between.ensures, rw k.rows c.self.invariant.0.1), λ n more. c.move_row.ensures.same n ∙ c.self.invariant.1 n more)

pub returns : goal.returns
returns g c =
    let es = c.self.inside.slots in
    let h : IsEmptySlot es c.args.from c.args.number = rw c.self.view_is c.requires.own in
    let k : MovesEmpty es c.move_row.new.self c.args.from c.args.to c.args.number
    = rw c.move_row.ensures.rows (move-empty _ _ _ es h (rw c.self.view_is c.requires.to)) in
    record {
      rows = rw (← c.self.view_is) k.rows;
      slots = search rules;
      empty = k.empty;
      later = λ le. rw (← c.self.view_is) (k.later le);
      earlier = λ le. rw (← c.self.view_is) (k.earlier le);
    }

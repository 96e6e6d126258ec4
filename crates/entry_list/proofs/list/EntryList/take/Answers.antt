use Rattle.std.proofs.Common.{None, sym, ◌∙◌, ap, arith, rules}
use Rattle.indexmap.specs.Layout.{set_value_at}
use Rattle.entry_list.specs.Totals.{total_before}
use Rattle.entry_list.specs.Slots.{rows_of, IsRowSlot}
use Rattle.entry_list.proofs.Above.{above-set}
use Rattle.entry_list.proofs.Rows.{marks-set, emptied-length}
use Rattle.entry_list.proofs.Numbers.{without-none}
use Rattle.entry_list.proofs.OneSlot.{Takes, takes}
use Rattle.entry_list.proofs.list.EntryList.take.Goals as goal

pub overflow_sub-self : goal.overflow_sub-self
overflow_sub-self g c =
    let es = c.self.inside.slots in
    let i = c.in_ok-slot.slot in
    let r : IsRowSlot es i c.args.number = rw c.self.view_is c.in_ok-slot.ensures.found in
    omega (arith, c.self.invariant.0.1, emptied-length c.args.number i es r)

pub invariant_of-self : goal.invariant_of-self
invariant_of-self g c =
    let es = c.self.inside.slots in
    let i = c.in_ok-slot.slot in
    let r : IsRowSlot es i c.args.number = rw c.self.view_is c.in_ok-slot.ensures.found in
    let less = emptied-length c.args.number i es r in (
      (
        rw (c.set.ensures, c.self.invariant.0.0, c.replace.ensures.after) (sym (marks-set i es None)),
        rw c.replace.ensures.after (omega (arith, c.self.invariant.0.1, less)),
      ),
      above-set c.self.inside.greatest i es c.replace.new.dest c.self.invariant.1,
    )

pub returns-in_err-slot-clause-without : goal.returns-in_err-slot-clause-without
returns-in_err-slot-clause-without g c =
    sym (without-none c.args.number (rows_of c.args.self.now) c.in_err-slot.ensures.absent)

pub returns : goal.returns
returns g c =
    let es = c.self.inside.slots in
    let i = c.in_ok-slot.slot in
    let n = c.args.number in
    let p = c.count_before-place.result in
    let row = c.unwrap-row.result in
    let r : IsRowSlot es i n = rw c.self.view_is c.in_ok-slot.ensures.found in
    let here = sym c.value_at-cell.ensures.value in
    let value = sym c.replace.ensures.value ∙ c.unwrap-row.ensures in
    let place = c.count_before-place.ensures.value ∙ ap (total_before i) c.self.invariant.0.0 in
    let once = c.value_at-cell.ensures.distinct in
    let k : Takes c.args.self.now (set_value_at es i c.replace.new.dest) n p row =
    rw (← c.self.view_is, c.replace.ensures.after)
    (takes n i p es c.value_at-cell.result.now row r here value place once) in
    record {
      row = k.stands;
      rows = k.rows;
      without = k.without;
      back = k.back;
      absent = search rules;
      none = search rules;
      gone = k.gone;
      slots = k.slots;
      slot = k.slot;
    }

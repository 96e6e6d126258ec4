use Rattle.std.proofs.Common.{sym, ◌∙◌}
use Rattle.indexmap.specs.Layout.{set_value_at}
use Rattle.entry_list.specs.Slots.{IsRowSlot}
use Rattle.entry_list.proofs.Above.{above-set}
use Rattle.entry_list.proofs.OneSlot.{Replaces, replaces}
use Rattle.entry_list.proofs.list.EntryList.replace.Goals.{After-unwrap}
use Rattle.entry_list.proofs.list.EntryList.replace.Goals as goal

-- the row gives way to the other in its slot
replaced : (g : _) (c : goal.After-unwrap g) → Replaces c.self.inside.slots (set_value_at c.self.inside.slots c.unwrap-slot.result c.replace.new.dest) c.args.number c.unwrap.result c.args.row
replaced g c =
    let es = c.self.inside.slots in
    let i = c.unwrap-slot.result in
    let n = c.args.number in
    let found = rw c.unwrap-slot.ensures at c.slot_of.ensures.found in
    let r : IsRowSlot es i n = rw c.self.view_is found in
    let here = sym c.value_at-cell.ensures.value in
    let value = sym c.replace.ensures.value ∙ c.unwrap.ensures in
    rw c.replace.ensures.after
    (replaces n i es c.value_at-cell.result.now c.unwrap.result c.args.row r here value c.value_at-cell.ensures.distinct)

pub invariant_of-self : goal.invariant_of-self
invariant_of-self g c =
    let k = replaced g (goal.at.invariant_of-self g c).After-unwrap in
    let i = c.unwrap-slot.result in
    ((rw k.marks c.self.invariant.0.0, rw k.long c.self.invariant.0.1), above-set c.self.inside.greatest i c.self.inside.slots c.replace.new.dest c.self.invariant.1)

pub returns : goal.returns
returns g c =
    let es = c.self.inside.slots in
    let k : Replaces c.args.self.now (set_value_at es c.unwrap-slot.result c.replace.new.dest) c.args.number c.unwrap.result c.args.row =
    rw (← c.self.view_is) (replaced g (goal.at.returns g c).After-unwrap) in
    record {
      old = k.stood;
      new = k.stands;
      with = k.with;
      rows = k.rows;
      back = k.back;
      slots = k.slots;
    }

use Rattle.std.proofs.Common.{◌≡◌, ◌∙◌, sym, [], ◌∷◌, ◌++◌, arith}
use Rattle.std.proofs.lemmas.Bool.{ne_eqb}
use Rattle.entry_list.proofs.Rows.{marks-push, rows-push, length-push, rows-le}
use Rattle.entry_list.proofs.list.EntryList.add_slot.Goals.{In-Ok}
use Rattle.entry_list.proofs.list.EntryList.add_slot.Goals as goal

-- the number's slot comes last
slots_are : (g : _) (c : goal.In-Ok g) → c.push-2.new.self ≡ c.self.inside.slots ++ (c.args.number, c.args.row) ∷ []
slots_are g c =
    let es = c.self.inside.slots in
    let n = c.args.number in
    c.in-Ok.ensures.rows

pub overflow_add-self : goal.overflow_add-self
overflow_add-self g c = omega (arith, c.self.invariant.0.1, rows-le c.self.inside.slots)

pub invariant_of-self-in-Ok : goal.invariant_of-self-in-Ok
invariant_of-self-in-Ok g c =
    let es = c.self.inside.slots in
    let n = c.args.number in
    let e = slots_are g (goal.at.invariant_of-self-in-Ok g c).In-Ok in (
      (
        rw (e, c.in_ok-push.ensures.ok, c.self.invariant.0.0, c.mark_of-mark.ensures.mark)
            (sym (marks-push es n c.args.row)),
        rw (e, c.self.invariant.0.1, c.mark_of-mark.ensures.mark) (sym (length-push es n c.args.row)),
      ),
      λ q more. (rw (ne_eqb n q (λ same. absurd (omega (arith, same, more)))) at (c.in-Ok.ensures.updates q)) ∙ c.self.invariant.1 q (omega (arith, more)),
    )

pub returns-in-Ok-clause-added : goal.returns-in-Ok-clause-added
returns-in-Ok-clause-added g c =
    rw (← c.self.view_is) (slots_are g (goal.at.returns-in-Ok-clause-added g c).In-Ok)

pub returns-in-Ok-clause-rows : goal.returns-in-Ok-clause-rows
returns-in-Ok-clause-rows g c =
    rw (slots_are g (goal.at.returns-in-Ok-clause-rows g c).In-Ok, ← c.self.view_is)
    (rows-push c.self.inside.slots c.args.number c.args.row)

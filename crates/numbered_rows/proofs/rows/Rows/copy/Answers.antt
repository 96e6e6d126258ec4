use Rattle.std.proofs.Common.{◌∙◌, sym, ap, slice_get}
use Rattle.entry_list.specs.Slots.{rows_of}
use Rattle.numbered_rows.specs.Rows.{rows_in}
use Rattle.numbered_rows.proofs.Entries.{row_with-before, take-more}
use Rattle.numbered_rows.proofs.rows.Rows.copy.Goals as goal

pub push-requires : goal.push-requires
push-requires g c =
    let at = rw c.unwrap-row.ensures at c.at.ensures in
    rw (c.loop-place.invariant, c.in_ok-copied-2.ensures, ← c.self.view_is)
    (row_with-before g.R.Numbered.number_of (rows_of c.self.inside.list) c.loop-place.place _ c.self.invariant c.len.ensures.distinct (ap (λ slots. slice_get (rows_in slots) c.loop-place.place) c.self.view_is ∙ sym at))

pub loop-place-preserved : goal.loop-place-preserved
loop-place-preserved g c =
    let at = rw c.unwrap-row.ensures at c.at.ensures in
    rw (c.in_ok-push.ensures.ok, c.loop-place.invariant, c.in_ok-copied-2.ensures) (take-more (rows_in c.args.self.now) c.loop-place.place _ (sym at))

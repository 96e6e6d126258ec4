use Rattle.cad_near.specs.Near.{touched_of}
use Rattle.std.proofs.lemmas.Bool.{OnTrue_at}
use Rattle.cad_near.proofs.ManyStrings.{uncrossed-many}
use Rattle.cad_near.proofs.many.are_many_uncrossed.Goals as goal

pub returns-in-Some-pass_in_groups : goal.returns-in-Some-pass_in_groups
returns-in-Some-pass_in_groups g c t =
    let m = g.M.MapView.map c.args.map.now in
    let pass = OnTrue_at t c.in-Some-pass_in_groups.ensures in
    let near = c.in-Some.ensures in
    uncrossed-many m c.requires.rows (touched_of c.args.touched.now) c.in-Some.items.items near (rw c.as_slice-2.ensures.value at pass)

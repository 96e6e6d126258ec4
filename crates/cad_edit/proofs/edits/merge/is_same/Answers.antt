use Rattle.std.proofs.Common.{◌≡◌, ◌<◌, sym, length, arith}
use Rattle.std.proofs.lemmas.Grind.{same_number_lists}
use Rattle.std.proofs.lemmas.Slice.Eq.{bytes_eq-Decides}
use Rattle.cad_edit.proofs.edits.merge.is_same.Goals as goal

pub returns : goal.returns
returns c =
    let long : length c.args.a.now ≡ length c.args.b.now = omega (arith, c.if-len.false, c.len.ensures.value, c.len-2.ensures.value) in
    let past = c.loop-place-test.false in
    let end = c.len-place-end.ensures.value in
    sym ((bytes_eq-Decides c.args.a.now c.args.b.now).1 (same_number_lists c.args.a.now c.args.b.now long (λ p within. let h : p < c.loop-place.place = omega (arith, within, past, end) in c.loop-place.invariant p h)))

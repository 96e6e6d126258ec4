use Rattle.std.proofs.Common.{◌≡◌, ◌-◌, drop, take}
use Rattle.std.proofs.lemmas.List.{append_assoc, take_min, drop_min, take_rest}
use Rattle.cad_rings.proofs.InMemory.{dropped}
use Rattle.cad_rings.proofs.ring.surgery.append_all_but.Goals as goal

pub returns : goal.returns
returns c =
    let ring = c.args.ring.now in
    let before : c.split_at.result.0.now ≡ take c.args.place ring = let e = take_min c.args.place ring in cc in
    let after : c.split_at.result.1.now ≡ drop c.args.place ring = let e = drop_min c.args.place ring in cc in
    let whole = dropped c.args.m (drop c.args.place ring) (take c.args.place ring) in
    let first = rw take_rest at c.in_ok-extend_from_slice.ensures.items in
    let second = rw take_rest at c.in_ok-extend_from_slice-2.ensures.items in
    let parts = append_assoc c.args.points.now.items (drop c.min-in_after.result c.split_at.result.1.now) (drop (c.args.m - c.min-in_after.result) c.split_at.result.0.now) in
    cc (first, second, parts)

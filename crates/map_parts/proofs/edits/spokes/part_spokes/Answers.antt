use Rattle.std.proofs.Common.{◌∷◌, ℕ, sym, ap, List, length, arith}
use Rattle.std.proofs.lemmas.List.Sorted.{IsPermutation-refl}
use Rattle.key_lists.specs.Held.{HasRoomAt}
use Rattle.map_parts.specs.declared.stars.Spoke.{Spoke}
use Rattle.map_parts.proofs.Passing.StarsChanged.{star-from, star-to, stars-without, stars-with, room-after_take, room-after_put, connects-two, room-ends, length-spokes_at, connects-elsewhere}
use Rattle.map_parts.proofs.edits.spokes.part_spokes.Goals as goal

pub take_spokes-requires : goal.take_spokes-requires
take_spokes-requires c = record {
  two = c.requires.two;
  from = star-from c.requires.strings c.args.stars.now c.requires.are c.args.whole.now c.requires.there;
  to = star-to c.requires.strings c.args.stars.now c.requires.are c.args.whole.now c.requires.two c.requires.there;
}

pub put_spokes-requires : goal.put_spokes-requires
put_spokes-requires c =
    let whole = c.args.whole.now in
    let point : ℕ = c.requires.point in
    let room = c.requires.room in
    let at_point : HasRoomAt c.take_spokes.new.stars point 1 =
    room-after_take whole c.args.stars.now c.take_spokes.new.stars point 1 c.take_spokes.ensures.takes
    (c.take_spokes.ensures.capacity point) (omega (arith, room)) in
    let both =
    room-ends c.args.first.now c.args.whole.now.from point c.take_spokes.new.stars c.requires.before
    c.take_spokes.ensures.room_from at_point in
    record {
      two = connects-two c.args.first.now c.args.whole.now.from point c.requires.from_apart c.requires.before;
      from = both.0;
      to = both.1;
    }

pub put_spokes-requires-2 : goal.put_spokes-requires-2
put_spokes-requires-2 c =
    let first = c.args.first.now in
    let start : ℕ = c.args.whole.now.from in
    let end : ℕ = c.args.whole.now.to in
    let point : ℕ = c.requires.point in
    let mid = c.take_spokes.new.stars in
    let next = c.put_spokes.new.stars in
    let one = length-spokes_at first start point c.requires.from_apart c.requires.before in
    let none =
    ap (λ (l : List Spoke). length l)
    (connects-elsewhere first start point end c.requires.before (λ e. c.requires.two (sym e)) c.requires.to_apart) in
    let room : HasRoomAt mid point 2 =
    room-after_take c.args.whole.now c.args.stars.now mid point 2 c.take_spokes.ensures.takes
    (c.take_spokes.ensures.capacity point) c.requires.room in
    let room_to = c.take_spokes.ensures.room_to in
    let at_point : HasRoomAt next point 1 =
    room-after_put first mid next point 1 c.put_spokes.ensures.adds (c.put_spokes.ensures.capacity point)
    (omega (arith, room, one)) in
    let at_end : HasRoomAt next end 1 =
    room-after_put first mid next end 1 c.put_spokes.ensures.adds (c.put_spokes.ensures.capacity end)
    (omega (arith, room_to, none)) in
    let both = room-ends c.args.second.now end point next c.requires.behind at_end at_point in
    record {
      two = connects-two c.args.second.now end point c.requires.to_apart c.requires.behind;
      from = both.0;
      to = both.1;
    }

pub returns : goal.returns
returns c = λ strings left are parts.
    let first = c.args.first.now in
    let second = c.args.second.now in
    let mid = c.take_spokes.new.stars in
    let next = c.put_spokes.new.stars in
    stars-with (second ∷ first ∷ left) (first ∷ left) second next c.put_spokes-2.new.stars
    (stars-with (first ∷ left) left first mid next
    (stars-without strings left c.args.whole.now c.args.stars.now mid are parts c.take_spokes.ensures.takes)
    (IsPermutation-refl (first ∷ left)) c.put_spokes.ensures.adds)
    (IsPermutation-refl (second ∷ first ∷ left)) c.put_spokes-2.ensures.adds

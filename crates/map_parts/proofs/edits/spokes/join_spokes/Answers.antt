use Rattle.std.proofs.Common.{◌∷◌, ℕ}
use Rattle.std.proofs.lemmas.List.Sorted.{IsPermutation-refl, IsPermutation-sym, Contains-permutation}
use Rattle.cad_map.proofs.CallerLemmas.{Contains-first}
use Rattle.map_parts.proofs.Passing.StarsChanged.{star-from, star-to, stars-without, stars-with, room-after_take, connects-two, room-points, room-after_both}
use Rattle.map_parts.proofs.edits.spokes.join_spokes.Goals as goal

pub take_spokes-requires : goal.take_spokes-requires
take_spokes-requires c =
    let first = c.args.first.now in
    let two = connects-two first c.args.whole.now.from c.requires.point c.requires.from_apart c.requires.before in
    let there =
    Contains-permutation (first ∷ c.args.second.now ∷ c.requires.left) c.requires.strings first
    (IsPermutation-sym c.requires.strings (first ∷ c.args.second.now ∷ c.requires.left) c.requires.parts)
    (Contains-first first (c.args.second.now ∷ c.requires.left)) in
    record {
      two = two;
      from = star-from c.requires.strings c.args.stars.now c.requires.are first there;
      to = star-to c.requires.strings c.args.stars.now c.requires.are first two there;
    }

pub take_spokes-requires-2 : goal.take_spokes-requires-2
take_spokes-requires-2 c =
    let second = c.args.second.now in
    let two = connects-two second c.args.whole.now.to c.requires.point c.requires.to_apart c.requires.behind in
    let are =
    stars-without c.requires.strings (second ∷ c.requires.left) c.args.first.now c.args.stars.now c.take_spokes.new.stars
    c.requires.are c.requires.parts c.take_spokes.ensures.takes in
    let there = Contains-first second c.requires.left in
    record {
      two = two;
      from = star-from (second ∷ c.requires.left) c.take_spokes.new.stars are second there;
      to = star-to (second ∷ c.requires.left) c.take_spokes.new.stars are second two there;
    }

pub put_spokes-requires : goal.put_spokes-requires
put_spokes-requires c =
    let start : ℕ = c.args.whole.now.from in
    let end : ℕ = c.args.whole.now.to in
    let mid = c.take_spokes.new.stars in
    let bare = c.take_spokes-2.new.stars in
    let at_start =
    room-points c.args.first.now start c.requires.point mid c.requires.before c.take_spokes.ensures.room_from c.take_spokes.ensures.room_to in
    let at_end =
    room-points c.args.second.now end c.requires.point bare c.requires.behind c.take_spokes-2.ensures.room_from c.take_spokes-2.ensures.room_to in
    record {
      two = c.requires.two;
      from =
          room-after_take c.args.second.now mid bare start 1 c.take_spokes-2.ensures.takes
          (c.take_spokes-2.ensures.capacity start) at_start.0;
      to = at_end.0;
    }

pub returns-clause-stars : goal.returns-clause-stars
returns-clause-stars c = λ strings left are parts.
    let first = c.args.first.now in
    let second = c.args.second.now in
    let whole = c.args.whole.now in
    let mid = c.take_spokes.new.stars in
    let bare = c.take_spokes-2.new.stars in
    stars-with (whole ∷ left) left whole bare c.put_spokes.new.stars
    (stars-without (second ∷ left) left second mid bare
    (stars-without strings (second ∷ left) first c.args.stars.now mid are parts c.take_spokes.ensures.takes)
    (IsPermutation-refl (second ∷ left)) c.take_spokes-2.ensures.takes)
    (IsPermutation-refl (whole ∷ left)) c.put_spokes.ensures.adds

pub returns-clause-room : goal.returns-clause-room
returns-clause-room c = λ can.
    let mid = c.take_spokes.new.stars in
    let bare = c.take_spokes-2.new.stars in
    let whole = c.args.whole.now in
    let at =
    room-points c.args.first.now whole.from can.point mid can.before c.take_spokes.ensures.room_from c.take_spokes.ensures.room_to in
    room-after_both c.args.second.now whole mid bare c.put_spokes.new.stars whole.to can.point can.to_apart can.behind
    c.take_spokes-2.ensures.takes (c.take_spokes-2.ensures.capacity can.point) at.1 c.put_spokes.ensures.adds
    (c.put_spokes.ensures.capacity can.point) can.from_apart can.to_apart

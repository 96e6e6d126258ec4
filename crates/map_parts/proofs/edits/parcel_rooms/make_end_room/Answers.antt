use Rattle.std.proofs.Common.{◌≡◌, ◌∷◌, [], ◌++◌, ◌+◌, ℕ, take, refl, sym, ap, subst, ◌∙◌, arith}
use Rattle.std.specs.List.{AllByRecursion}
use Rattle.std.proofs.lemmas.List.{take_more, take_all}
use Rattle.cad_rows.specs.declared.rows.StringRow.{StringRow}
use Rattle.cad_map.proofs.CallerLemmas.{All-follows, All-push}
use Rattle.key_lists.specs.Held.{Held, HasRoomAt}
use Rattle.map_parts.specs.declared.stars.Spoke.{Spoke}
use Rattle.map_parts.specs.Adding.{HasRoomAtEnds}
use Rattle.map_parts.proofs.IslandRoom.{room-stays}
use Rattle.map_parts.proofs.edits.parcel_rooms.make_end_room.Goals as goal

pub loop-string-init : goal.loop-string-init
loop-string-init c = record { same = λ p. refl; room = tt }

pub loop-string-preserved : goal.loop-string-preserved
loop-string-preserved c =
    let i = c.loop-string.string-index in
    let s : StringRow = c.string-item.result in
    let was = c.loop-string.invariant in
    let old : Held Spoke = c.loop-string.stars in
    let mid : Held Spoke = c.reserve.new.self in
    let new : Held Spoke = c.reserve-in-loop-string.new.self in
    let next : take (i + 1) c.args.strings.now ≡ take i c.args.strings.now ++ s ∷ [] =
    take_more c.args.strings.now i s c.loop-string-test.true ∙ ap (λ (r : StringRow). take i c.args.strings.now ++ r ∷ []) (sym c.string-item.is) in
    let from : c.from.result ≡ s.from = c.from.ensures ∙ c.get.ensures.value in
    let to : c.from-in-loop-string.result ≡ s.to = c.from-in-loop-string.ensures ∙ c.get-in-loop-string.ensures.value in
    let at_from : HasRoomAt mid c.from.result 2 = c.in_ok-reserve.ensures.room in
    let at_to : HasRoomAt new c.from-in-loop-string.result 2 = c.in_ok-reserve-2.ensures.room in
    let stays : (p : ℕ) → HasRoomAt mid p 2 → HasRoomAt new p 2 = λ p room. room-stays c.from-in-loop-string.result mid new c.reserve-in-loop-string.ensures.others at_to p room in
    let both : (p : ℕ) → HasRoomAt old p 2 → HasRoomAt new p 2 = λ p room. stays p (room-stays c.from.result old mid c.reserve.ensures.others at_from p room) in
    record {
      same = λ p. c.reserve-in-loop-string.ensures.same p ∙ c.reserve.ensures.same p ∙ was.same p;
      room = subst (AllByRecursion (HasRoomAtEnds new)) (sym next)
          (All-push (HasRoomAtEnds new) (take i c.args.strings.now) s
          (All-follows (HasRoomAtEnds old) (HasRoomAtEnds new) (λ t room. (both t.from room.0, both t.to room.1)) (take i c.args.strings.now) was.room)
          (stays s.from (subst (λ (n : ℕ). HasRoomAt mid n 2) from at_from), subst (λ (n : ℕ). HasRoomAt new n 2) to at_to));
    }

pub returns : goal.returns
returns c =
    let all : take c.loop-string.string-index c.args.strings.now ≡ c.args.strings.now =
    take_all c.loop-string.string-index c.args.strings.now (omega (arith, c.loop-string-test.false)) in
    record {
      same = c.loop-string.invariant.same;
      room = subst (AllByRecursion (HasRoomAtEnds c.loop-string.stars)) all c.loop-string.invariant.room;
    }

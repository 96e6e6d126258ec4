use Rattle.std.proofs.Common.{take}
use Rattle.std.specs.List.{AllByRecursion}
use Rattle.key_lists.specs.Held.{IsSame}
use Rattle.map_parts.specs.Adding.{HasRoomAtEnds}
use Rattle.map_parts.proofs.edits.parcel_rooms.make_end_room.Given as goal

-- the ends so far have room
abbrev pub invariant-loop-string : goal.invariant-loop-string
invariant-loop-string l = record {
  same : IsSame l.initial.stars l.stars;
  room : AllByRecursion (HasRoomAtEnds l.stars) (take l.string-index l.strings);
}

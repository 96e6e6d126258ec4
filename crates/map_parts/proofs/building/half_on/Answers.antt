use Rattle.map_parts.proofs.Rounds.{first-among}
use Rattle.map_parts.proofs.building.half_on.Goals as goal

pub side_half-requires-clause-side : goal.side_half-requires-clause-side
side_half-requires-clause-side c =
    rw (c.turned_at-from.ensures, c.turned_at-to.ensures)
    (first-among c.args.map.now c.requires.whole c.args.boundary.now c.requires.there c.args.place)

pub returns : goal.returns
returns c = rw (c.turned_at-from.ensures, c.turned_at-to.ensures) at c.side_half.ensures

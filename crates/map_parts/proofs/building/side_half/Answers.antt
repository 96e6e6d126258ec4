use Rattle.map_parts.proofs.Strings.{told-some, told-is}
use Rattle.map_parts.proofs.building.side_half.Goals as goal

pub unwrap-requires : goal.unwrap-requires
unwrap-requires c =
    let stars = c.requires.stars in
    told-some c.args.map.now c.requires.whole stars.0 c.args.stars.now stars.1 (c.args.from, c.args.to)
    c.requires.side c.find_half_by_ends.result c.find_half_by_ends.ensures

pub returns : goal.returns
returns c rows strings =
    told-is c.args.map.now c.requires.whole rows c.args.stars.now strings (c.args.from, c.args.to)
    c.find_half_by_ends.result c.unwrap.result c.find_half_by_ends.ensures c.unwrap.ensures

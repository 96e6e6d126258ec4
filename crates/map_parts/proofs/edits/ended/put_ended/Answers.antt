use Rattle.cad_map.specs.MapRows.{map_in}
use Rattle.map_parts.proofs.EndedRows as it
use Rattle.map_parts.proofs.edits.ended.put_ended.Goals as goal

pub put_placed-requires : goal.put_placed-requires
put_placed-requires c = it.put-can c.requires

pub unretire-requires : goal.unretire-requires
unretire-requires c =
    let can = c.requires in
    let left = it.put-can can in
    let mid = map_in c.put_placed.new.rows in
    let mid_is = c.put_placed.ensures.rows can.before.strings left.differ left.stood left.left in
    record {
      absent = it.mid-absent can mid mid_is;
      place = it.mid-place can mid mid_is;
      slot = c.put_placed.ensures.keeps.parcels c.args.row.number can.room.slot;
      gone = it.mid-retired can mid mid_is;
    }

pub returns-clause-rows : goal.returns-clause-rows
returns-clause-rows c = λ can.
    let left = it.put-can can in
    it.all-back can (map_in c.put_placed.new.rows) (c.put_placed.ensures.rows can.before.strings left.differ left.stood left.left)
    (map_in c.unretire.new.rows) c.unretire.ensures.rows

pub returns-clause-stars : goal.returns-clause-stars
returns-clause-stars c = λ can.
    let left = it.put-can can in
    it.stars-back can (map_in c.put_placed.new.rows) (c.put_placed.ensures.rows can.before.strings left.differ left.stood left.left)
    c.put_placed.new.stars c.put_placed.ensures.stars

use Rattle.std.proofs.Common.{◌∷◌}
use Rattle.map_parts.proofs.MergedRows as rows_of
use Rattle.map_parts.proofs.Merging as it
use Rattle.map_parts.proofs.edits.merging.unmerge_along.Goals as goal

pub bring_across-requires : goal.bring_across-requires
bring_across-requires g c = it.back-can c.requires

pub put_ended-requires : goal.put_ended-requires
put_ended-requires g c =
    let can = c.requires in
    rows_of.back-come can.map c.args.keeper.now (c.args.first.now ∷ c.args.rest.now) can.is.tried can.is.shared can.went can.fits can.room

pub returns-clause-fits : goal.returns-clause-fits
returns-clause-fits g c = λ can.
    let wide = c.bring_across.new.table.rows in
    let put = c.bring_across.new.kept in
    let back = rows_of.back-come can.map c.args.keeper.now (c.args.first.now ∷ c.args.rest.now) can.is.tried can.is.shared can.went can.fits can.room in
    rows_of.back-fits can.map c.args.keeper.now (c.args.first.now ∷ c.args.rest.now) can.is.tried can.is.shared can.went can.fits can.room c.put_ended.new.rows wide put c.put_ended.new.stars
    (it.back-table can wide put c.bring_across.ensures.chain) (c.put_ended.ensures.rows back) (c.put_ended.ensures.stars back)

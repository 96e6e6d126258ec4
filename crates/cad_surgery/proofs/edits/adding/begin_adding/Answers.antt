use Rattle.std.proofs.Common.{◌<◌, List, length}
use Rattle.cad_rows.specs.declared.rows.ParcelRow.{ParcelRow}
use Rattle.cad_rows.specs.declared.rows.StringRow.{StringRow}
use Rattle.cad_map.specs.Map.{Map}
use Rattle.half_table.specs.declared.half.Half.{Half}
use Rattle.half_table.specs.Rows.{HalfRows}
use Rattle.cad_laws.specs.Tried.{IsTried}
use Rattle.cad_surgery.specs.declared.edits.given.NewParcel.{NewParcel}
use Rattle.cad_surgery.specs.declared.edits.merging.Way.{Way}
use Rattle.cad_surgery.specs.declared.edits.merging.Way.TheVariants as way
use Rattle.cad_surgery.specs.NewParcels.{Comes, edit_by}
use Rattle.cad_surgery.proofs.DividedBack.{path-some}
use Rattle.cad_surgery.proofs.DividedDraft as along
use Rattle.cad_surgery.proofs.EnclosedDraft as round
use Rattle.cad_surgery.proofs.ParcelsTried.{new-as, begins-as}
use Rattle.cad_surgery.proofs.edits.adding.begin_adding.Goals as goal

-- the path has a first half
some : (w : Way) (m : Map) (rows : HalfRows) (d : NewParcel) (added : List StringRow) (row : ParcelRow) (path moved : List Half) → IsTried m (edit_by w d) → Comes w m rows d added row path moved
    → 0 < length path
some (way.Along start end) m rows d added row path moved tried it = path-some d tried it.path_is
some way.Round m rows d added row path moved tried it = round.path-some d tried it.path_is

pub first_and_rest-requires : goal.first_and_rest-requires
first_and_rest-requires g c =
    some c.args.course.now.way c.requires.0 c.args.table.now.rows c.args.new.now c.args.strings.items c.args.parcel c.args.course.now.path.now c.args.course.now.moved.now
    c.requires.1.tried c.requires.1.comes

pub begin_divide-requires : goal.begin_divide-requires
begin_divide-requires g c = along.begins (new-as c.in-Along.is c.first_and_rest.ensures c.requires.1)

pub begin_enclose-requires : goal.begin_enclose-requires
begin_enclose-requires g c = round.begins (new-as c.in-Round.is c.first_and_rest.ensures c.requires.1)

pub returns-in-Along : goal.returns-in-Along
returns-in-Along g c = λ m on.
    let e = c.begin_divide.ensures in
    begins-as c.in-Along.is c.first_and_rest.ensures (along.begun (new-as c.in-Along.is c.first_and_rest.ensures on) c.is_work_in_range.ensures e.fits e.err e.err_table e.moved e.inner_room e.outer_room e.has
    e.origin e.work e.err_work)

pub returns-in-Round : goal.returns-in-Round
returns-in-Round g c = λ m on.
    let e = c.begin_enclose.ensures in
    begins-as c.in-Round.is c.first_and_rest.ensures (round.begun (new-as c.in-Round.is c.first_and_rest.ensures on) c.is_work_in_range.ensures e.fits e.err e.err_table e.moved e.inner_room e.outer_room e.has
    e.origin e.work e.err_work)

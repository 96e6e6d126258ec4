use Rattle.std.proofs.Common.{◌≡◌, refl, sym, subst, arith}
use Rattle.std.proofs.lemmas.Result.{IfOk-weaker}
use Rattle.cad_rows.specs.declared.edits.Edit.{Edit}
use Rattle.cad_rows.specs.declared.edits.Edit.TheVariants as edit
use Rattle.cad_map.proofs.CallerLemmas.{allowed, can-divide, can-enclose}
use Rattle.edit_records.specs.GridEdits.{come_by}
use Rattle.edit_records.specs.GridLists.{AreEntries, IsBeside}
use Rattle.cad_laws.proofs.CallerLemmas.{found-at}
use Rattle.edit_records.proofs.GridEdits.{quiet}
use Rattle.edit_records.proofs.GridRecords.{brings-nothing, off-bringing}
use Rattle.edit_records.proofs.grid_records.what_comes.Goals as goal

pub returns-in-AddPoint : goal.returns-in-AddPoint
returns-in-AddPoint g c = rw c.in-AddPoint.is (IfOk-weaker c.lone_point.result _ _ (λ l f b beside holds. f b) c.lone_point.ensures.comes)

pub returns-in-Split : goal.returns-in-Split
returns-in-Split g c =
    let it = c.in-Split in
    rw it.is (IfOk-weaker c.two_strings.result _ _
    (λ l f b beside holds. f b it.row beside (found-at (λ r. r.number) b.strings it.place it.row beside.tried.valid.sound.v1.strings.distinct holds) refl refl refl refl)
    c.two_strings.ensures.splits)

pub returns-in-Join : goal.returns-in-Join
returns-in-Join g c =
    let it = c.in-Join in
    rw it.is (IfOk-weaker c.lone_string.result _ _
    (λ l f b beside holds. f b it.first it.second beside holds.strings c.far_end-from.ensures c.far_end-to.ensures)
    c.lone_string.ensures.joins)

pub strings_of_chain-requires : goal.strings_of_chain-requires
strings_of_chain-requires g c =
    let it = c.in-Divide in
    let b = c.requires.0 in
    let e = edit.Divide it.face it.chain it.strings it.parcel it.label it.source in
    let beside : IsBeside (g.M.MapView.map c.args.map.now) b e = rw it.is at c.requires.1 in
    let many = (can-divide b it.face it.chain it.strings it.parcel it.label it.source beside.tried.given (allowed b e beside.tried.allowed)).as_many in
    rw (c.as_slice-numbers.ensures, c.as_slice-points.ensures) (omega (arith, many))

pub returns-in-Divide : goal.returns-in-Divide
returns-in-Divide g c =
    let m = g.M.MapView.map c.args.map.now in
    let it = c.in-Divide in
    let same : edit.Divide it.face c.as_slice-points.result.now c.as_slice-numbers.result.now it.parcel it.label it.source
    ≡ edit.Divide it.face it.chain it.strings it.parcel it.label it.source =
    λ i. edit.Divide it.face (c.as_slice-points.ensures i) (c.as_slice-numbers.ensures i) it.parcel it.label it.source in
    rw it.is (IfOk-weaker c.strings_of_chain.result _ _
    (λ l f b beside holds. subst (λ (d : Edit). AreEntries (come_by b d) l) same (f b it.face it.parcel it.label it.source (subst (IsBeside m b) (sym same) beside)))
    c.strings_of_chain.ensures.divides)

pub returns-in-Move : goal.returns-in-Move
returns-in-Move g c = rw c.in-Move.is (IfOk-weaker c.point_with_strings.result _ _ (λ l f b beside holds. f b beside) c.point_with_strings.ensures.comes)

pub strings_of_chain-requires-in-Enclose : goal.strings_of_chain-requires-in-Enclose
strings_of_chain-requires-in-Enclose g c =
    let it = c.in-Enclose in
    let b = c.requires.0 in
    let e = edit.Enclose it.face it.points it.strings it.parcel it.label it.source in
    let beside : IsBeside (g.M.MapView.map c.args.map.now) b e = rw it.is at c.requires.1 in
    let many = (can-enclose b it.face it.points it.strings it.parcel it.label it.source beside.tried.given (allowed b e beside.tried.allowed)).as_many in
    rw (c.as_slice-numbers-in-Enclose.ensures, c.as_slice-round.ensures) (omega (arith, many))

pub returns-in-Enclose : goal.returns-in-Enclose
returns-in-Enclose g c =
    let m = g.M.MapView.map c.args.map.now in
    let it = c.in-Enclose in
    let same : edit.Enclose it.face c.as_slice-round.result.now c.as_slice-numbers-in-Enclose.result.now it.parcel it.label it.source
    ≡ edit.Enclose it.face it.points it.strings it.parcel it.label it.source =
    λ i. edit.Enclose it.face (c.as_slice-round.ensures i) (c.as_slice-numbers-in-Enclose.ensures i) it.parcel it.label it.source in
    rw it.is (IfOk-weaker c.strings_of_chain-in-Enclose.result _ _
    (λ l f b beside holds. subst (λ (d : Edit). AreEntries (come_by b d) l) same (f b it.face it.parcel it.label it.source (subst (IsBeside m b) (sym same) beside)))
    c.strings_of_chain-in-Enclose.ensures.encloses)

pub returns-in_default : goal.returns-in_default
returns-in_default g c b beside holds =
    let it = c.in_default in
    let no = off-bringing c.args.change.now it.not-AddPoint it.not-Split it.not-Join it.not-Divide it.not-Move it.not-Enclose in
    quiet (come_by b _) c.new.result (brings-nothing b c.args.change.now no) c.new.ensures

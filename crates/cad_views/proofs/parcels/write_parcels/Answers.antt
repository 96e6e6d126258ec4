use Rattle.std.proofs.Common.{◌≤◌, sym, subst, List, [], ◌∷◌, ◌++◌, length, take, append-nil}
use Rattle.std.proofs.lemmas.List.{take_all}
use Rattle.cad_rows.specs.declared.rows.ParcelRow.{ParcelRow}
use Rattle.cad_map.proofs.CallerLemmas.{take-more}
use Rattle.cad_views.specs.Tables.{AreTold, TellsParcel}
use Rattle.cad_views.proofs.JoinFacts.{appended-record}
use Rattle.cad_views.proofs.ToldFacts.{told-push}
use Rattle.cad_views.proofs.parcels.write_parcels.Goals as goal

pub loop-place-init : goal.loop-place-init
loop-place-init c = ([], tt, λ text w. rw (append-nil text) w)

pub loop-place-preserved : goal.loop-place-preserved
loop-place-preserved c =
    let m = c.args.map.now in
    let place = c.loop-place.place in
    let row = c.unwrap.result.now in
    let at = rw c.unwrap.ensures at c.parcel_at.ensures in
    let before = c.loop-place.invariant in
    let one = c.in_ok-write_parcel.ensures in
    let told = told-push (TellsParcel m) (take place m.parcels) before.0 row one.0 before.1 one.1 in
    (before.0 ++ one.0 ∷ [], subst (λ (rows : List ParcelRow). AreTold (TellsParcel m) rows (before.0 ++ one.0 ∷ [])) (take-more m.parcels place row (sym at)) told, appended-record before.0 one.0 before.2 one.2)

pub returns : goal.returns
returns c =
    let m = c.args.map.now in
    let past : length m.parcels ≤ c.loop-place.place = rw c.counts-place-end.ensures at c.loop-place-test.false in
    let all = c.loop-place.invariant in
    (all.0, subst (λ (rows : List ParcelRow). AreTold (TellsParcel m) rows all.0) (take_all c.loop-place.place m.parcels past) all.1, all.2)

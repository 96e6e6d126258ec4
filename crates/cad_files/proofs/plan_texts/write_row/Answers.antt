use Rattle.std.proofs.Common.{sym, ap, ◌∙◌, map, Some}
use Rattle.cad_map.proofs.CallerLemmas.{Contains-at}
use Rattle.cad_files.specs.Building.{plan_string_of}
use Rattle.cad_files.specs.Texts.{source_record, point_record, parcel_record, string_record, retired_record}
use Rattle.cad_files.proofs.Faces.{is_told, as_told}
use Rattle.cad_files.proofs.TextFacts.{made_at}
use Rattle.cad_files.proofs.plan_texts.write_row.Goals as goal

pub returns-in-Sources : goal.returns-in-Sources
returns-in-Sources g c = rw (c.in-Sources.is, made_at source_record _ c.args.place _ (rw c.unwrap.ensures at c.source_at.ensures)) c.write_source.ensures

pub returns-in-Points : goal.returns-in-Points
returns-in-Points g c = rw (c.in-Points.is, made_at point_record _ c.args.place _ (rw c.unwrap-in-Points.ensures at c.point_at.ensures)) c.write_point.ensures

pub returns-in-Parcels : goal.returns-in-Parcels
returns-in-Parcels g c = rw (c.in-Parcels.is, made_at parcel_record _ c.args.place _ (rw c.unwrap-in-Parcels.ensures at c.parcel_at.ensures)) c.write_parcel.ensures

pub returns-in-Retired : goal.returns-in-Retired
returns-in-Retired g c = rw (c.in-Retired.is, made_at retired_record _ c.args.place _ (rw c.unwrap-in-Retired.ensures at c.retired_at.ensures)) c.write_retired_number.ensures

pub unwrap-left-requires : goal.unwrap-left-requires
unwrap-left-requires g c =
    let m = g.M.MapView.map c.args.view.now in
    let row = c.unwrap-row.result.now in
    let there = Contains-at m.strings c.args.place row (sym (rw c.unwrap-row.ensures at c.string_at.ensures)) in
    is_told m c.requires.valid row there c.left_right.result c.left_right.ensures.none

pub returns-in-Strings : goal.returns-in-Strings
returns-in-Strings g c =
    let m = g.M.MapView.map c.args.view.now in
    let row = c.unwrap-row.result.now in
    let at = rw c.unwrap-row.ensures at c.string_at.ensures in
    let there = Contains-at m.strings c.args.place row (sym at) in
    let told = rw c.unwrap-left.ensures at c.left_right.ensures.some in
    let string = as_told m c.requires.valid row there c.unwrap-left.result.0 c.unwrap-left.result.1 told in
    let found = made_at (plan_string_of m) m.strings c.args.place row at ∙ ap (λ s. Some s) string in
    rw (c.in-Strings.is, made_at string_record (map (plan_string_of m) m.strings) c.args.place _ (sym found)) c.write_string.ensures

use Rattle.std.proofs.Common.{◌≡◌, ◌∙◌, sym, ap, None, Some}
use Rattle.cad_files.specs.Building.{missing_name, points_name, parcels_name, strings_name}
use Rattle.cad_files.specs.Rows.{Rows}
use Rattle.cad_files.proofs.NameFacts.{first_some-second, first_some-third}
use Rattle.cad_files.proofs.naming.missing_row.Goals as goal

pub returns-in-Some-missing_among : goal.returns-in-Some-missing_among
unfolding points_name parcels_name
returns-in-Some-missing_among c =
    let m = c.args.plain.now in
    let points = ap (λ (r : Rows). r.points) c.rows.view_is in
    let parcels = ap (λ (r : Rows). r.parcels) c.rows.view_is in
    let first : missing_name m (points_name c.args.rows.now.points) ≡ None =
    rw (c.as_slice.ensures.value, points) at (sym c.missing_among.ensures ∙ c.in_default.is) in
    let second : missing_name m (parcels_name c.args.rows.now.parcels) ≡ Some c.in-Some-missing_among.name =
    rw (c.as_slice-2.ensures.value, parcels) at (sym c.missing_among-2.ensures ∙ c.in-Some-missing_among.is) in
    first_some-second _ _ _ _ first second

pub returns : goal.returns
unfolding points_name parcels_name strings_name
returns c =
    let m = c.args.plain.now in
    let points = ap (λ (r : Rows). r.points) c.rows.view_is in
    let parcels = ap (λ (r : Rows). r.parcels) c.rows.view_is in
    let strings = ap (λ (r : Rows). r.strings) c.rows.view_is in
    let first : missing_name m (points_name c.args.rows.now.points) ≡ None =
    rw (c.as_slice.ensures.value, points) at (sym c.missing_among.ensures ∙ c.in_default.is) in
    let second : missing_name m (parcels_name c.args.rows.now.parcels) ≡ None =
    rw (c.as_slice-2.ensures.value, parcels) at (sym c.missing_among-2.ensures ∙ c.in_default-missing_among.is) in
    let third : c.missing_among-3.result ≡ missing_name m (strings_name c.args.rows.now.strings) =
    rw (c.as_slice-3.ensures.value, strings) at c.missing_among-3.ensures in
    third ∙ first_some-third _ _ _ first second

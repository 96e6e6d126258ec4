use Rattle.std.proofs.Common.{sym, ◌∙◌, [], ◌∷◌}
use Rattle.cad_rows.specs.declared.names.Name.TheVariants as NameOf
use Rattle.cad_rows.specs.declared.refusals.Refusal.TheVariants.{Taken}
use Rattle.cad_map.specs.Refusals.{is_there, strings_named}
use Rattle.cad_edit.proofs.FirstNamed.{told-first, told-second, told-one}
use Rattle.cad_edit.proofs.naming.taken_for_parcel.Goals as goal

pub returns-in-Some : goal.returns-in-Some
returns-in-Some g c =
    told-first (is_there (g.M.MapView.map c.args.map.now)) Taken (strings_named c.args.strings.now) (NameOf.Parcel c.args.parcel ∷ []) c.in-Some.refusal c.in-Some.ensures

pub returns : goal.returns
returns g c =
    let test = is_there (g.M.MapView.map c.args.map.now) in
    let parcel = NameOf.Parcel c.args.parcel in
    c.refusal_if_taken.ensures ∙ sym (told-second test Taken (strings_named c.args.strings.now) (parcel ∷ []) c.in_default.ensures ∙ told-one test Taken parcel)

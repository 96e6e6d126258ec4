use Rattle.std.proofs.Common.{refl, sym, ◌∙◌, [], ◌∷◌, ◌++◌, not, Bool}
use Rattle.cad_rows.specs.declared.names.Name.{Name}
use Rattle.cad_rows.specs.declared.names.Name.TheVariants as NameOf
use Rattle.cad_rows.specs.declared.refusals.Refusal.TheVariants.{Unknown}
use Rattle.cad_map.specs.Refusals.{is_there, face_named, points_named}
use Rattle.cad_edit.proofs.FirstNamed.{told-first, told-second, told-unless}
use Rattle.cad_edit.proofs.naming.unknown_for_parcel.Goals as goal

pub returns-in-Some : goal.returns-in-Some
returns-in-Some g c =
    let m = g.M.MapView.map c.args.map.now in
    let test : Name → Bool = λ n. not (is_there m n) in
    let face = face_named c.args.face.now in
    let points = points_named c.args.points.now in
    told-first test Unknown (face ++ points) (NameOf.Source c.args.source ∷ []) c.in-Some.refusal (told-first test Unknown face points c.in-Some.refusal c.in-Some.ensures)

pub returns-in-Some-refusal_unless_known_points : goal.returns-in-Some-refusal_unless_known_points
returns-in-Some-refusal_unless_known_points g c =
    let m = g.M.MapView.map c.args.map.now in
    let test : Name → Bool = λ n. not (is_there m n) in
    let face = face_named c.args.face.now in
    let points = points_named c.args.points.now in
    told-first test Unknown (face ++ points) (NameOf.Source c.args.source ∷ []) c.in-Some-refusal_unless_known_points.refusal
    (c.in-Some-refusal_unless_known_points.ensures ∙ sym (told-second test Unknown face points c.in_default.ensures))

pub returns : goal.returns
returns g c =
    let m = g.M.MapView.map c.args.map.now in
    let test : Name → Bool = λ n. not (is_there m n) in
    let face = face_named c.args.face.now in
    let points = points_named c.args.points.now in
    let source = NameOf.Source c.args.source in
    let none = c.in_default-refusal_unless_known_points.ensures ∙ sym (told-second test Unknown face points c.in_default.ensures) in
    c.refusal_unless_known.ensures ∙ sym (told-second test Unknown (face ++ points) (source ∷ []) none ∙ told-unless test Unknown source (is_there m source) refl)

-- What the records of a script mean.
use Rattle.std.specs.Prelude.{ℕ, List, codes, Option, Some, None, option_map, option_and_then, if◌then◌else◌}
use Rattle.cad_rows.specs.declared.edits.Edit.{Edit}
use Rattle.cad_rows.specs.declared.edits.Edit.TheVariants as edits
use Rattle.cad_history.specs.declared.commands.Command.TheVariants as commands
use Rattle.cad_files.specs.Record.{Seven, seven_of}
use Rattle.cad_files.specs.Fields.{number_of, coordinate_of, text_of, item_of, face_of, numbers_of, is_record, number_and_text_of}
use Rattle.cad_files.specs.declared.edit_lines.PlacedPoint.{PlacedPoint}
use Rattle.cad_files.specs.declared.edit_lines.Attachment.{Attachment}
use Rattle.cad_files.specs.declared.edit_lines.NewParcel.{NewParcel}
use Rattle.cad_files.specs.declared.line.Line.{Line}
use Rattle.cad_files.specs.declared.line.Line.TheVariants as lines

-- ---- What several edits name

-- a point's number, and a position
unfoldable pub placed_point_of : Seven → Option PlacedPoint
placed_point_of r =
    option_and_then (λ p. option_and_then (λ x. option_map (λ y.
    record { point = p; x = x; y = y })
    (coordinate_of r.c)) (coordinate_of r.b)) (number_of r.a)

-- an item, and a source's number
unfoldable pub attachment_of : Seven → Option Attachment
attachment_of r =
    option_and_then (λ i. option_map (λ s. record { item = i; source = s }) (number_of r.c))
    (item_of r.a r.b)

-- a face, the points of a chain, the strings along it, and the new parcel's number, label and source
unfoldable pub new_parcel_of : Seven → Option NewParcel
new_parcel_of r =
    option_and_then (λ face. option_and_then (λ points. option_and_then (λ strings.
    option_and_then (λ parcel. option_and_then (λ label. option_map (λ source. record {
      face = face;
      points = points;
      strings = strings;
      parcel = parcel;
      label = label;
      source = source;
    })
    (number_of r.f)) (text_of r.e)) (number_of r.d)) (numbers_of r.c)) (numbers_of r.b))
    (face_of r.a)

-- ---- Edits

-- a string, a new point and its position, and the numbers of the string's two halves
unfoldable pub split_of_fields : Seven → Option Edit
split_of_fields r =
    option_and_then (λ s. option_and_then (λ p. option_and_then (λ x. option_and_then (λ y.
    option_and_then (λ first. option_map (λ second. edits.Split s p x y first second)
    (number_of r.f)) (number_of r.e)) (coordinate_of r.d)) (coordinate_of r.c)) (number_of r.b))
    (number_of r.a)

-- the face divided along the chain
abbrev pub division_of : NewParcel → Edit
division_of n = edits.Divide n.face n.points n.strings n.parcel n.label n.source

-- the closed chain made an island in the face
abbrev pub enclosure_of : NewParcel → Edit
enclosure_of n = edits.Enclose n.face n.points n.strings n.parcel n.label n.source

-- an edit by numbers, faces and items alone
unfoldable pub numbers_edit_of : Seven → Option Edit
numbers_edit_of r =
    if is_record r (codes "add-point") 3 then
    option_map (λ (p : PlacedPoint). edits.AddPoint p.point p.x p.y) (placed_point_of r)
    else if is_record r (codes "drop-point") 1 then
    option_map (λ n. edits.DropPoint n) (number_of r.a)
    else if is_record r (codes "split") 6 then split_of_fields r
    else if is_record r (codes "join") 2 then
    option_and_then (λ p. option_map (λ s. edits.Join p s) (number_of r.b)) (number_of r.a)
    else if is_record r (codes "merge") 2 then
    option_and_then (λ kept. option_map (λ ended. edits.Merge kept ended) (face_of r.b))
    (face_of r.a)
    else if is_record r (codes "move") 3 then
    option_map (λ (p : PlacedPoint). edits.Move p.point p.x p.y) (placed_point_of r)
    else if is_record r (codes "attach") 3 then
    option_map (λ (a : Attachment). edits.Attach a.item a.source) (attachment_of r)
    else if is_record r (codes "detach") 3 then
    option_map (λ (a : Attachment). edits.Detach a.item a.source) (attachment_of r)
    else None

-- the edit that a record asks for, where it asks for one
unfoldable pub edit_of_fields : Seven → Option Edit
edit_of_fields r =
    if is_record r (codes "add-source") 2 then
    option_map (λ s. edits.AddSource s.0 s.1) (number_and_text_of r)
    else if is_record r (codes "rename") 2 then
    option_map (λ p. edits.Rename p.0 p.1) (number_and_text_of r)
    else if is_record r (codes "divide") 6 then
    option_map division_of (new_parcel_of r)
    else if is_record r (codes "enclose") 6 then
    option_map enclosure_of (new_parcel_of r)
    else numbers_edit_of r

-- ---- Lines

-- what seven fields ask for
unfoldable pub line_of_fields : Seven → Option Line
line_of_fields r =
    if is_record r (codes "undo") 0 then Some (lines.Command commands.Undo)
    else if is_record r (codes "redo") 0 then Some (lines.Command commands.Redo)
    else if is_record r (codes "areas") 0 then Some lines.Areas
    else if is_record r (codes "outline") 1 then option_map (λ f. lines.Outline f) (face_of r.a)
    else if is_record r (codes "print") 0 then Some lines.Print
    else option_map (λ e. lines.Command (commands.Edit e)) (edit_of_fields r)

-- what a record of a script asks for, where it is one
abbrev pub line_of : List (List ℕ) → Option Line
line_of fields = option_and_then line_of_fields (seven_of fields)

-- The faces that an edit cuts, or makes one.
use Rattle.std.specs.Prelude.{Option, Some, None}
use Rattle.cad_rows.specs.declared.edits.Edit.{Edit}
use Rattle.cad_rows.specs.declared.edits.Edit.TheVariants.{Divide, Merge, Enclose}
use Rattle.cad_rows.specs.declared.names.Face.{Face}
use Rattle.cad_rows.specs.declared.names.Face.TheVariants.{Parcel}

-- the two faces that a division or an enclosure makes of one, or that a merger makes one of
abbrev pub recut : Edit → Option (Face × Face)
recut (Divide face chain strings parcel label source) = Some (face, Parcel parcel)
recut (Enclose face points strings parcel label source) = Some (face, Parcel parcel)
recut (Merge kept ended) = Some (kept, ended)
recut _ = None

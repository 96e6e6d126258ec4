-- What is known of the values in an edit.
use Rattle.std.specs.Prelude.{⊤}
use Rattle.std.specs.List.{AllByRecursion}
use Rattle.cad_rows.specs.Limits.{IsNumber, IsLabel}
use Rattle.cad_rows.specs.declared.edits.Edit.{Edit}
use Rattle.cad_rows.specs.declared.edits.Edit.TheVariants.{AddSource, AddPoint, Split, Join, Divide, Rename, Enclose}

-- the numbers and texts that an edit gives are in range
abbrev pub GivesInRange : Edit → Type 0
GivesInRange (AddSource s text) = IsNumber s × IsLabel text
GivesInRange (AddPoint p x y) = IsNumber p
GivesInRange (Split s p x y first second) = IsNumber p × IsNumber first × IsNumber second
GivesInRange (Join p s) = IsNumber s
GivesInRange (Rename p label) = IsLabel label
GivesInRange (Divide face chain strings parcel label source) = AllByRecursion IsNumber strings × IsNumber parcel × IsLabel label
GivesInRange (Enclose face points strings parcel label source) = AllByRecursion IsNumber strings × IsNumber parcel × IsLabel label
GivesInRange _ = ⊤

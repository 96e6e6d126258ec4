-- What the program writes of the plans that it read.
use Rattle.std.specs.Prelude.{◌≡◌, ◌⊎◌, ⊤, ℕ, List}
use Rattle.clap.specs.Words.{Text}
use Rattle.clap.specs.declared.error.kind.ErrorKind.{ErrorKind}
use Rattle.cad_map.specs.Map.{Map}
use Rattle.cad_files.specs.Rows.{Rows}
use Rattle.cad_files.specs.Building.{IsBuilt}
use Rattle.cad_files.specs.Texts.{Record, text_of}
use Rattle.cad_views.specs.Tables.{IsParcelTable, point_table, retired_table, source_table, string_table}
use Rattle.cad_views.specs.Differences.{differences}
use Rattle.cadview.specs.declared.args.Layer.{Layer}
use Rattle.cadview.specs.declared.args.Layer.TheVariants.{Parcels, Strings, Points, Sources, Retired}
use Rattle.cadview.specs.declared.args.View.{View}
use Rattle.cadview.specs.declared.args.View.TheVariants.{Svg, Table, Diff}
use Rattle.cadview.specs.declared.faults.ViewFault.{ViewFault}
use Rattle.cadview.specs.Arguments.{AsksFor, IsRefused}
use Rattle.command_line.specs.Statuses.{status_of_kind}
use Rattle.cadview.specs.Told.{status_of}

-- the text is the table of a map's rows of one kind
abbrev pub IsTable : Layer → Map → List ℕ → Type 0
IsTable Parcels m text = (told : List Record) × IsParcelTable m told × (text ≡ text_of told)
IsTable Strings m text = text ≡ text_of (string_table m)
IsTable Points m text = text ≡ text_of (point_table m)
IsTable Sources m text = text ≡ text_of (source_table m)
IsTable Retired m text = text ≡ text_of (retired_table m)

-- a plan was built, and its map is so
abbrev pub OfPlan : (Map → Type 0) → Type 0
OfPlan holds = (rows : Rows) × (m : Map) × IsBuilt rows m × holds m

-- the text tells what differs between two maps
abbrev pub IsDifference : Map → Map → List ℕ → Type 0
IsDifference old new text = text ≡ text_of (differences old new)

-- the text is what a view shows of the plans that were built for it; of a drawing nothing is said
abbrev pub IsTextOf : View → List ℕ → Type 0
IsTextOf (Svg plan since title) text = ⊤
IsTextOf (Table plan layer) text = OfPlan (λ m. IsTable layer m text)
IsTextOf (Diff old new) text = OfPlan (λ m. OfPlan (λ m'. IsDifference m m' text))

-- the status after a view: 0 where it was written, else that of a fault
abbrev pub IsStatusOfView : ℕ → Type 0
IsStatusOfView status = (status ≡ 0) ⊎ ((fault : ViewFault) × (status ≡ status_of fault))

-- the status after these words: that of the view that they ask for, or of their refusal
abbrev pub IsStatusOfWords : List Text → ℕ → Type 0
IsStatusOfWords words status = ((view : View) × AsksFor words view × IsStatusOfView status)
    ⊎ ((kind : ErrorKind) × IsRefused words kind × (status ≡ status_of_kind kind))

use Rattle.std.proofs.Common.{List, take}
use Rattle.cad_files.specs.Texts.{Record, HasAppended, text_of}
use Rattle.cad_views.specs.Tables.{AreTold, TellsParcel}
use Rattle.cad_views.proofs.parcels.write_parcels.Given as goal

-- the parcels up to the place are told
abbrev pub invariant-loop-place : goal.invariant-loop-place
invariant-loop-place l = (told : List Record) × AreTold (TellsParcel l.map) (take l.place l.map.parcels) told × HasAppended (text_of told) l.fn.out l.out

use Rattle.std.proofs.Common.{◌++◌, ℕ, List, map, take}
use Rattle.cad_files.specs.Texts.{HasWritten, text_of}
use Rattle.cad_files.specs.Reports.{ring_record}
use Rattle.cad_files.proofs.outline_texts.write_rings.Given as goal

-- the rings up to the place are told
abbrev pub invariant-loop-place : goal.invariant-loop-place
invariant-loop-place l = (text : List ℕ) → HasWritten text l.fn.writer → HasWritten (text ++ text_of (map (ring_record l.face l.kind) (take l.place l.rings))) l.writer

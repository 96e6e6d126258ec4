use Rattle.std.proofs.Common.{take, map}
use Rattle.cad_files.specs.Texts.{HasAppended, text_of}
use Rattle.cad_views.specs.Tables.{string_row}
use Rattle.cad_views.proofs.tables.write_strings.Given as goal

-- the strings up to the place are told
abbrev pub invariant-loop-place : goal.invariant-loop-place
invariant-loop-place l = HasAppended (text_of (map (string_row l.map) (take l.place l.strings))) l.fn.out l.out

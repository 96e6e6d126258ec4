use Rattle.std.proofs.Common.{take, map}
use Rattle.cad_files.specs.Texts.{HasAppended, text_of}
use Rattle.cad_views.specs.Tables.{source_row}
use Rattle.cad_views.proofs.numbers.write_sources.Given as goal

-- the rows up to the place are written
abbrev pub invariant-loop-place : goal.invariant-loop-place
invariant-loop-place l = HasAppended (text_of (map source_row (take l.place l.map.sources))) l.fn.out l.out

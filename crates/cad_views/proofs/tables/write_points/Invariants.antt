use Rattle.std.proofs.Common.{take, map}
use Rattle.cad_files.specs.Texts.{HasAppended, text_of}
use Rattle.cad_views.specs.Tables.{point_row}
use Rattle.cad_views.proofs.tables.write_points.Given as goal

-- the points up to the place are told
abbrev pub invariant-loop-place : goal.invariant-loop-place
invariant-loop-place l = HasAppended (text_of (map point_row (take l.place l.map.points))) l.fn.out l.out

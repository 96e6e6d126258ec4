use Rattle.std.proofs.Common.{take, map}
use Rattle.cad_files.specs.Texts.{HasAppended, text_of}
use Rattle.cad_views.specs.Differences.{difference_record}
use Rattle.cad_views.proofs.differences.write_differences.Given as goal

-- the names up to the place are told
abbrev pub invariant-loop-place : goal.invariant-loop-place
invariant-loop-place l = HasAppended (text_of (map (difference_record l.old l.new) (take l.place l.names))) l.fn.out l.out

use Rattle.std.proofs.Common.{take}
use Rattle.cad_files.specs.Texts.{HasAppended, text_of, records_of}
use Rattle.cad_files.proofs.plan_texts.write_rows.Given as goal

-- the records up to the place are written
abbrev pub invariant-loop-place : goal.invariant-loop-place
invariant-loop-place g l = HasAppended (text_of (take l.place (records_of (g.M.MapView.map l.view) l.kind))) l.fn.writer l.writer

use Rattle.std.proofs.Common.{◌≡◌, take}
use Rattle.cad_files.specs.Texts.{list_field}
use Rattle.cad_files.proofs.list_texts.list_text.Given as goal

-- the numbers up to the place stand in the text
abbrev pub invariant-loop-i : goal.invariant-loop-i
invariant-loop-i g l = l.text.items ≡ list_field (take l.i l.numbers)

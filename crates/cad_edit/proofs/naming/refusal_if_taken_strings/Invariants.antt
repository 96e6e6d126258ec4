use Rattle.std.proofs.Common.{◌≡◌, find, drop}
use Rattle.cad_map.specs.Refusals.{is_there, strings_named}
use Rattle.cad_edit.proofs.naming.refusal_if_taken_strings.Given as goal

-- the first string that is there is ahead
abbrev pub invariant-loop-string : goal.invariant-loop-string
invariant-loop-string g l =
    find (is_there (g.M.MapView.map l.fn.map)) (strings_named l.fn.strings) ≡ find (is_there (g.M.MapView.map l.fn.map)) (strings_named (drop l.string-index l.fn.strings))

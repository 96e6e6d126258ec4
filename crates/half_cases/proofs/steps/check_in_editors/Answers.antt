use Rattle.std.proofs.Common.{sym, subst}
use Rattle.cad_map.specs.Valid.{IsValid}
use Rattle.half_cases.proofs.steps.check_in_editors.Goals as goal

pub check_in_editor-requires : goal.check_in_editor-requires
check_in_editor-requires g c = subst IsValid (sym c.in_ok-halves.ensures.is) c.requires

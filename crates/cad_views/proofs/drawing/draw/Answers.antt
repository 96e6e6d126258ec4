use Rattle.cad_views.proofs.drawing.draw.Goals as goal

pub push_changes-requires-clause-old_valid : goal.push_changes-requires-clause-old_valid
push_changes-requires-clause-old_valid c = c.requires.old_valid c.in-Some.old c.in-Some.is

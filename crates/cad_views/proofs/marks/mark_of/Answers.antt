use Rattle.cad_views.proofs.marks.mark_of.Goals as goal

pub is_same-requires-clause-old_valid : goal.is_same-requires-clause-old_valid
is_same-requires-clause-old_valid c = c.requires.old_valid c.in-Some.old c.in-Some.is

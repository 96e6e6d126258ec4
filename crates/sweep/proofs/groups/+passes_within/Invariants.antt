use Rattle.sweep.proofs.groups.+passes_within.Given as goal

abbrev pub decreases-passes_within : goal.decreases-passes_within
decreases-passes_within g l = l.levels

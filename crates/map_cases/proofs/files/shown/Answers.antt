use Rattle.map_cases.proofs.files.shown.Goals as goal

pub plan_text-requires : goal.plan_text-requires
plan_text-requires g c = c.map.ensures.valid c.in_ok-opened.ensures.stands

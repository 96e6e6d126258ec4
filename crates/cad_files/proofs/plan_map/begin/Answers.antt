use Rattle.cad_files.specs.Building.{at_once}
use Rattle.cad_files.proofs.BuiltMap.{some-first}
use Rattle.cad_files.proofs.plan_map.begin.Goals as goal

pub returns-in-Err-clause-err : goal.returns-in-Err-clause-err
returns-in-Err-clause-err c = λ nm. at_once (some-first _ _ _ (c.in-Err.ensures.err nm))

pub returns-in-Err-find_sides-clause-err : goal.returns-in-Err-find_sides-clause-err
returns-in-Err-find_sides-clause-err c = λ nm. at_once (c.in-Err-find_sides.ensures.err nm)

pub returns-clause-ok : goal.returns-clause-ok
returns-clause-ok c = record {
  in_range = c.are_in_range.ensures;
  faultless = c.in-Ok-find_sides.ensures.faultless;
  map_is = c.in-Ok.ensures.ok;
  sides_are = rw c.in-Ok.ensures.ok at c.in-Ok-find_sides.ensures.sides;
  linked = c.in-Ok-find_sides.ensures.linked;
}

use Rattle.std.proofs.Common.{◌≡◌}
use Rattle.cad_map.specs.Boundaries.{canonical_order}
use Rattle.cad_files.specs.Begun.{IsBegun}
use Rattle.cad_files.specs.Building.{breaking}
use Rattle.cad_files.specs.Rows.{Rows}
use Rattle.cad_files.proofs.ValidFacts.{with_rings}
use Rattle.cad_files.proofs.BuiltMap.{are, is_map, tested, corners, built}
use Rattle.cad_files.proofs.plan_map.finish.Goals.{After-set_boundaries}
use Rattle.cad_files.proofs.plan_map.finish.Goals as goal

-- with the rings it is the map of the rows with them
made : (c : goal.After-set_boundaries) (rows : Rows) → IsBegun rows c.args.begun → c.set_boundaries.new.self ≡ with_rings rows (canonical_order c.in_ok-rings.rings.items)
made c rows begun = rw begun.map_is at c.set_boundaries.ensures

pub rings_of-requires : goal.rings_of-requires
rings_of-requires c =
    let rows = c.requires.0 in
    let begun = c.requires.1 in
    record {
      linked = begun.linked;
      followed = are rows begun.in_range begun.faultless _ begun.sides_are;
    }

pub first_broken_swept-requires : goal.first_broken_swept-requires
first_broken_swept-requires c =
    let at = goal.at.first_broken_swept-requires c in
    let rows = c.requires.0 in
    let begun = c.requires.1 in
    let bs = c.in_ok-rings.rings.items in
    rw (made at.After-set_boundaries rows begun) (record {
      tested = tested rows begun.in_range begun.faultless _ begun.sides_are bs c.in_ok-rings.ensures.two c.in_ok-rings.ensures.rings;
      corners = λ v3 v4. corners rows begun.in_range begun.faultless _ begun.sides_are bs c.in_ok-rings.ensures.two c.in_ok-rings.ensures.rings;
    })

pub returns-in-Some-clause-err : goal.returns-in-Some-clause-err
returns-in-Some-clause-err c = λ nm rows begun.
    let at = goal.at.returns-in-Some-clause-err c in
    breaking begun.faultless (is_map rows begun.in_range begun.faultless _ begun.sides_are c.in_ok-rings.rings.items c.in_ok-rings.ensures.two c.in_ok-rings.ensures.rings)
    (rw (c.in-Some.is, made at.After-set_boundaries rows begun) at c.in_ok-rule.ensures.broken)

pub returns-clause-ok : goal.returns-clause-ok
returns-clause-ok c = λ rows begun.
    let at = goal.at.returns-clause-ok c in
    rw (made at.After-set_boundaries rows begun)
    (built rows begun.in_range begun.faultless _ begun.sides_are c.in_ok-rings.rings.items c.in_ok-rings.ensures.two c.in_ok-rings.ensures.rings
    (rw (c.in_default.is, made at.After-set_boundaries rows begun) at c.in_ok-rule.ensures.kept))

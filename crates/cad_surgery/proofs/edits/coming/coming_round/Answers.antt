use Rattle.std.proofs.Common.{refl, subst, arith}
use Rattle.std.proofs.lemmas.Result.{IfOk-weaker}
use Rattle.cad_rings.specs.Cycle.{Ring}
use Rattle.cad_map.proofs.CallerLemmas.{whole_valid}
use Rattle.map_parts.specs.Parts.{map_of}
use Rattle.map_parts.specs.Placed.{AreOfHoles}
use Rattle.cad_surgery.proofs.ComingParcels.{same-edit, comes-so}
use Rattle.cad_surgery.proofs.EnclosedDraft.{enclosure-long, enclosure-many}
use Rattle.cad_surgery.proofs.edits.coming.coming_round.Goals as goal

pub rows_round-requires-clause-long : goal.rows_round-requires-clause-long
rows_round-requires-clause-long g c =
    let long = enclosure-long (map_of c.args.draft.now) c.args.new.now c.requires in
    omega (arith, long)

pub rows_round-requires-clause-as_many : goal.rows_round-requires-clause-as_many
rows_round-requires-clause-as_many g c = enclosure-many (map_of c.args.draft.now) c.args.new.now c.requires

pub from_points-requires : goal.from_points-requires
from_points-requires g c =
    let long = enclosure-long (map_of c.args.draft.now) c.args.new.now c.requires in
    omega (arith, long)

pub moved_halves-requires : goal.moved_halves-requires
moved_halves-requires g c = whole_valid (map_of c.args.draft.now) c.requires.valid

pub returns-clause-edit : goal.returns-clause-edit
returns-clause-edit g c = IfOk-weaker c.coming_with.result _ _ (λ k it. same-edit it) c.coming_with.ensures

pub returns-clause-comes : goal.returns-clause-comes
returns-clause-comes g c = IfOk-weaker c.coming_with.result _ _ (λ k it. comes-so it (map_of c.args.draft.now) c.args.draft.now.table.rows (record {
  strings_are = c.in_ok-strings.ensures;
  parcel_is = refl;
  path_is = refl;
  holes = subst (λ (r : Ring). AreOfHoles (map_of c.args.draft.now) c.args.draft.now.table.rows c.args.new.now.face r c.in_ok-moved.moved.items)
      c.in_ok-ring.ensures c.in_ok-moved.ensures.holes;
})) c.coming_with.ensures

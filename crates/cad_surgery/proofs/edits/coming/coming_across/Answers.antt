use Rattle.std.proofs.Common.{refl}
use Rattle.std.proofs.lemmas.Result.{IfOk-weaker}
use Rattle.map_parts.specs.Parts.{map_of}
use Rattle.cad_surgery.proofs.ComingParcels.{same-edit, comes-so}
use Rattle.cad_surgery.proofs.CrossedRing.{can-be}
use Rattle.cad_surgery.proofs.edits.coming.coming_across.Goals as goal

pub rows_along-requires : goal.rows_along-requires
rows_along-requires g c = (can-be (map_of c.args.draft.now) c.args.new.now c.requires.tried).as_many

pub returns-clause-edit : goal.returns-clause-edit
returns-clause-edit g c = IfOk-weaker c.coming_with.result _ _ (λ k it. same-edit it) c.coming_with.ensures

pub returns-clause-comes : goal.returns-clause-comes
returns-clause-comes g c = IfOk-weaker c.coming_with.result _ _ (λ k it. comes-so it (map_of c.args.draft.now) c.args.draft.now.table.rows (record {
  strings_are = c.in_ok-strings.ensures;
  parcel_is = refl;
  path_is = refl;
  crossing = c.in_ok-start.ensures;
})) c.coming_with.ensures

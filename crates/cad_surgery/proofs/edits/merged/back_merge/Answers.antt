use Rattle.std.proofs.Common.{◌∙◌}
use Rattle.map_parts.specs.Parts.{map_of}
use Rattle.cad_surgery.proofs.ToldMergers.{as-many, by-record, points-some}
use Rattle.cad_surgery.proofs.Trials.{stays-whole, taken-so}
use Rattle.cad_surgery.proofs.edits.merged.back_merge.Goals as goal

pub ended_by-requires-clause-some : goal.ended_by-requires-clause-some
ended_by-requires-clause-some g c =
    points-some c.args.change.now c.merger_of-told.result c.merger_of-told.ensures c.requires.given c.requires.beside.made.0 (map_of c.args.draft.now) c.requires.beside.made.1

pub ended_by-requires-clause-as_many : goal.ended_by-requires-clause-as_many
ended_by-requires-clause-as_many g c =
    as-many c.args.change.now c.merger_of-told.result c.merger_of-told.ensures c.requires.given c.requires.beside.made.0 (map_of c.args.draft.now) c.requires.beside.made.1

pub unmerge_with-requires-clause-path : goal.unmerge_with-requires-clause-path
unmerge_with-requires-clause-path g c = c.as_slice.ensures.value ∙ c.in_ok-path.ensures

pub unmerge_with-requires-clause-beside : goal.unmerge_with-requires-clause-beside
unmerge_with-requires-clause-beside g c = record {
  made = (
    c.requires.beside.made.0,
    by-record c.args.change.now c.merger_of-told.result c.merger_of-told.ensures c.requires.given
        c.requires.beside.made.0 (map_of c.args.draft.now) c.requires.beside.made.1,
  );
  proper = c.requires.beside.proper;
}

pub returns-in_err-path : goal.returns-in_err-path
returns-in_err-path g c = stays-whole _ _ _ c.from_residual.ensures.0 c.requires.beside.proper

pub returns-in_err-gone : goal.returns-in_err-gone
returns-in_err-gone g c = stays-whole _ _ _ c.from_residual-in_err-gone.ensures.0 c.requires.beside.proper

pub returns : goal.returns
returns g c =
    taken-so (λ m belongs. by-record c.args.change.now c.merger_of-told.result c.merger_of-told.ensures c.requires.given
    m (map_of c.args.draft.now) belongs) c.unmerge_with.ensures

use Rattle.std.proofs.Common.{◌∙◌, List, sym, ap, subst}
use Rattle.cad_rows.specs.declared.edits.Edit.{Edit}
use Rattle.half_table.specs.declared.half.Half.{Half}
use Rattle.half_paths.specs.Path.{strings_of}
use Rattle.map_parts.specs.Parts.{map_of}
use Rattle.cad_surgery.specs.Merging.{HasShared}
use Rattle.cad_surgery.specs.Trials.{IsMade}
use Rattle.cad_surgery.proofs.Trials.{is-idle}
use Rattle.cad_surgery.proofs.ToldMergers.{again, by-record, same}
use Rattle.cad_surgery.proofs.edits.merged.forward_merge.Goals as goal

pub merge_again-requires-clause-shared : goal.merge_again-requires-clause-shared
merge_again-requires-clause-shared g c =
    let told = c.merger_of-told.result in
    subst (λ (l : List Half). HasShared told.way (map_of c.args.draft.now) c.args.draft.now.table.rows told.kept told.row.now.number l told.moved.now)
    (sym (c.as_slice-2.ensures.value ∙ c.in_ok-path.ensures))
    (again c.draft.inside c.draft.view_is c.draft.invariant (by-record c.args.change.now c.merger_of-told.result c.merger_of-told.ensures c.requires.given
    (map_of c.args.draft.now) c.requires.beside.made.0 c.requires.beside.made.1))

pub merge_again-requires-clause-strings : goal.merge_again-requires-clause-strings
merge_again-requires-clause-strings g c =
    c.as_slice-3.ensures.value ∙ c.in_ok-strings.ensures
    ∙ ap strings_of (c.as_slice.ensures.value ∙ sym c.as_slice-2.ensures.value)

pub returns-in_err-path : goal.returns-in_err-path
returns-in_err-path g c = is-idle c.from_residual.ensures.0 c.requires.beside.proper

pub returns-in_err-strings : goal.returns-in_err-strings
returns-in_err-strings g c = is-idle c.from_residual-in_err-strings.ensures.0 c.requires.beside.proper

pub returns : goal.returns
returns g c =
    subst (λ (e : Edit). IsMade e c.args.draft.now c.merge_again.new.draft c.merge_again.result)
    (sym (same c.args.change.now c.merger_of-told.result c.merger_of-told.ensures)) c.merge_again.ensures

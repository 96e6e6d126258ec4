use Rattle.std.proofs.Common.{sym, ◌∙◌}
use Rattle.std.proofs.lemmas.List.Folds.{list_all-map, list_all_at}
use Rattle.cad_files.specs.Fields.{is_blank}
use Rattle.cad_files.proofs.fields.are_blank.Goals as goal

pub returns-then-not-is_empty : goal.returns-then-not-is_empty
returns-then-not-is_empty c =
    let full = sym c.is_empty.ensures ∙ c.if-not-is_empty.true in
    sym (list_all-map is_blank (λ f. f.now) c.args.fields.now ∙ list_all_at (λ f. is_blank f.now) c.args.fields.now c.loop-field.field-index _ c.loop-field-test.true full)

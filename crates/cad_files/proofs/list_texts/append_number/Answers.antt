use Rattle.std.proofs.Common.{◌≡◌, ◌∙◌, ◌++◌, ap, List, ℕ, decimal}
use Rattle.cad_files.proofs.TextFacts.{list_field-first, list_field-more}
use Rattle.cad_files.proofs.list_texts.append_number.Goals.{then-place-gt0+in_ok-push, else-place-gt0}
use Rattle.cad_files.proofs.list_texts.append_number.Goals as goal

pub returns : goal.returns
returns c = λ ns d within is before.
    let digits : c.as_bytes.result.now ≡ decimal c.args.number = c.as_bytes.ensures.value ∙ c.format.ensures.text in
    c.in_ok-extend_from_slice.ensures.items ∙ ap (λ (l : List ℕ). c.if-place-gt0.text.items ++ l) digits ∙ elim c.if-place-gt0.branch [
      | then-place-gt0+in_ok-push w ↦ rw (w.text-is, w.in_ok-push.ensures.items, before) (list_field-more ns c.args.place c.args.number d w.if-place-gt0.true within is)
      | else-place-gt0 w ↦ rw (w.text-is, before) (list_field-first ns c.args.place c.args.number d w.if-place-gt0.false within is)
    ]

use Rattle.std.proofs.Common.{◌∙◌, ◌-◌, ap, take}
use Rattle.csv.specs.Records.{fields_of}
use Rattle.map_session.proofs.LineFacts.{line_of_text}
use Rattle.map_session.proofs.lines.line_of_row.Goals as goal

pub returns : goal.returns
returns c = line_of_text c.in_ok-text.text.items c.in_ok-from_slice.field-0 (fields_of c.args.row.now) c.in_ok-text.ensures (c.in_ok-from_slice.ensures ∙ c.as_slice.ensures.value ∙ c.pop.ensures.rest ∙ ap (λ n. take (n - 1) c.in_ok-text.text.items) c.in_ok-text.text.ok.0)

use Rattle.csv.specs.Writing.{fields_text, is_blank}
use Rattle.cad_files.specs.Texts.{record_text}
use Rattle.cad_files.proofs.answers.nothing_text.Goals as goal

pub returns : goal.returns
unfolding record_text fields_text is_blank
returns c = c.in_ok-from_slice.ensures.items

use Rattle.std.proofs.Common.{sym, ◌∙◌}
use Rattle.std.proofs.lemmas.Slice.Eq.{bytes_eq-Decides}
use Rattle.csv.specs.Writing.{fields_text, is_blank}
use Rattle.cad_files.specs.Texts.{record_text}
use Rattle.map_session.specs.Session.{done_text}
use Rattle.map_session.proofs.taking.is_done.Goals as goal

pub returns : goal.returns
unfolding record_text fields_text is_blank
returns c =
    let (same, equal) = bytes_eq-Decides c.args.answer.now done_text in
    (λ told. same (sym c.eq.ensures ∙ told), λ is. c.eq.ensures ∙ equal is)

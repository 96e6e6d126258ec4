use Rattle.cad_session.proofs.PlainFacts.{found-whole}
use Rattle.cad_session.proofs.plain.plain_row.Goals as goal

pub returns : goal.returns
returns c = found-whole c.args.text.now c.cut_line.result c.if-text.false c.cut_line.ensures

use Rattle.cad_valid.proofs.CallerLemmas.{meets-same}
use Rattle.cad_near.proofs.sight.have_common.Goals as goal

pub returns : goal.returns
returns c = meets-same c.meets.result c.args.a c.args.b c.args.c c.args.d c.meets.ensures

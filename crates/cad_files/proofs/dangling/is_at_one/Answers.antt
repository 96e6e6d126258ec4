use Rattle.std.proofs.Common.{◌∙◌, ap, length, ◌==◌, ℕ}
use Rattle.cad_map.proofs.CallerLemmas.{length-star}
use Rattle.cad_files.proofs.dangling.is_at_one.Goals as goal

pub returns : goal.returns
returns c = λ m are. ap (λ (n : ℕ). n == 1) (ap length (c.ends.ensures ∙ are c.args.point) ∙ length-star m c.args.point)

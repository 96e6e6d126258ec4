use Rattle.std.proofs.Common.{◌∙◌, ap}
use Rattle.half_paths.specs.Redirect.{redirect}
use Rattle.half_paths.specs.Strung.{strung}
use Rattle.half_paths.proofs.Redirected.{changed-back}
use Rattle.half_paths.proofs.Along.{along-strung, unstrung-back}
use Rattle.half_paths.proofs.Apart.{path-of, first-strung, last-strung}
use Rattle.half_paths.proofs.path.string_up.Goals as goal

pub returns-clause-next : goal.returns-clause-next
returns-clause-next g c = λ h.
    ap (λ f. f h) (c.splice_along.ensures.next ∙ along-strung _ _ _ (path-of _ _ c.requires.different) c.requires.unstrung)

pub returns-clause-first_end : goal.returns-clause-first_end
returns-clause-first_end g c = returns-clause-next g c _ ∙ first-strung _ _ _ c.requires.different

pub returns-clause-last_end : goal.returns-clause-last_end
returns-clause-last_end g c = returns-clause-next g c _ ∙ last-strung _ _ _ c.requires.different

pub returns-clause-back : goal.returns-clause-back
returns-clause-back g c = λ before was same.
    changed-back (redirect (strung c.args.first c.args.rest.now)) (returns-clause-next g c) same (unstrung-back before _ _ was)

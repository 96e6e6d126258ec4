use Rattle.std.proofs.Common.{ap, ap₂, codes, ◌≡◌, ◌∙◌}
use Rattle.std.proofs.lemmas.Result.{IfOk-weaker}
use Rattle.clap.specs.Words.{app_of, new_app, with_rule}
use Rattle.clap.specs.Simple.{app_of_fields}
use Rattle.cad_job.specs.Arguments.{with_version}
use Rattle.cad_job.proofs.args.command_line.Goals as goal

pub returns : goal.returns
returns c =
    let told : app_of c.after_help.result ≡ with_version (new_app (codes "cadedit")) =
    ap app_of_fields c.after_help.ensures ∙ ap app_of_fields c.about.ensures ∙ ap app_of_fields c.version.ensures ∙ ap with_version c.new.ensures.app in
    let with_depth = c.in_ok-arg.ensures.shape c.depth_arg.ensures.local ∙ ap₂ with_rule told c.depth_arg.ensures.rule in
    let with_stop = c.in_ok-arg-2.ensures.shape c.stop_arg.ensures.local ∙ ap₂ with_rule with_depth c.stop_arg.ensures.rule in
    IfOk-weaker c.arg-3.result _ _ (λ r added. added.shape c.file_arg.ensures.local ∙ ap₂ with_rule with_stop c.file_arg.ensures.rule) c.arg-3.ensures

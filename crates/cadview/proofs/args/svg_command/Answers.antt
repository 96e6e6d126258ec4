use Rattle.std.proofs.Common.{rules, ap, ap₂, codes, ◌≡◌, ◌∙◌}
use Rattle.std.proofs.lemmas.Result.{IfOk-weaker}
use Rattle.clap.specs.Words.{app_of, new_app, rule_of, with_rule}
use Rattle.clap.specs.Simple.{app_of_fields}
use Rattle.cadview.specs.Arguments.{since_rule, title_rule}
use Rattle.cadview.proofs.args.svg_command.Goals as goal

pub returns : goal.returns
returns c =
    let since_is : rule_of c.help-since.result ≡ since_rule = search rules in
    let title_is : rule_of c.help-title.result ≡ title_rule = search rules in
    let told : app_of c.about.result ≡ new_app (codes "svg") = ap app_of_fields c.about.ensures ∙ c.new-3.ensures.app in
    let with_plan = c.in_ok-arg.ensures.shape c.plan_arg.ensures.local ∙ ap₂ with_rule told c.plan_arg.ensures.rule in
    let with_since = c.in_ok-arg-2.ensures.shape (search rules) ∙ ap₂ with_rule with_plan since_is in
    IfOk-weaker c.arg-3.result _ _ (λ r added. added.shape (search rules) ∙ ap₂ with_rule with_since title_is) c.arg-3.ensures

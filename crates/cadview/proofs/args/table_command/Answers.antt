use Rattle.std.proofs.Common.{rules, ap, ap₂, codes, Some, ◌≡◌, ◌∙◌}
use Rattle.std.proofs.lemmas.Result.{IfOk-weaker}
use Rattle.clap.specs.Words.{app_of, new_app, rule_of, with_rule}
use Rattle.clap.specs.Simple.{app_of_fields}
use Rattle.clap.specs.declared.builder.value_parser.ValueParser.TheVariants as parsers
use Rattle.cadview.specs.Arguments.{NamesLayers, layer_rule}
use Rattle.cadview.proofs.args.table_command.Goals as goal

pub returns : goal.returns
returns c =
    let names = c.as_slice.result in
    let given = c.value_parser.ensures.given in
    let parser_is : c.value_parser.result.value_parser ≡ Some (parsers.Names names) = given.1 ∙ ap (λ q. Some q) given.2 in
    let layer_is : rule_of c.help-layer.result ≡ layer_rule names = search rules in
    let layers : NamesLayers names = search rules in
    let told : app_of c.about.result ≡ new_app (codes "table") = ap app_of_fields c.about.ensures ∙ c.new-2.ensures.app in
    let with_plan = c.in_ok-arg.ensures.shape c.plan_arg.ensures.local ∙ ap₂ with_rule told c.plan_arg.ensures.rule in
    IfOk-weaker c.arg-2.result _ _
    (λ r added. record { names = names; layers = layers; same = added.shape (search rules) ∙ ap₂ with_rule with_plan layer_is })
    c.arg-2.ensures

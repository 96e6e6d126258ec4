use Rattle.std.proofs.Common.{rules, ap, Some, ◌≡◌, ◌∙◌}
use Rattle.std.specs.Prelude.{pos}
use Rattle.clap.specs.declared.builder.value_parser.ValueParser.TheVariants as parsers
use Rattle.cad_job.proofs.args.depth_arg.Goals as goal

pub returns-clause-rule : goal.returns-clause-rule
returns-clause-rule c =
    let given = c.value_parser-2.ensures.given in
    let made : c.range.result ≡ parsers.Signed (pos 1) (pos 1000) = rw (c.value_parser.ensures, c.new-2.ensures.start, c.new-2.ensures.end) at c.range.ensures in
    let parser_is : c.value_parser-2.result.value_parser ≡ Some (parsers.Signed (pos 1) (pos 1000)) = given.1 ∙ ap (λ q. Some q) (given.2 ∙ made) in
    search rules

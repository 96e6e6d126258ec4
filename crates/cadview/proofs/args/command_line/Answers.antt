use Rattle.std.proofs.Common.{ap, ap₂, Bool, false, true, not, refl, ◌≡◌, ◌∙◌, ◌&&◌}
use Rattle.std.proofs.lemmas.Result.{IfOk-weaker}
use Rattle.clap.specs.Words.{App, app_of, with_subcommand}
use Rattle.cadview.specs.Arguments.{IsTable, svg, table, diff}
use Rattle.cadview.proofs.args.command_line.Goals as goal

third_is_false : (a b g r : Bool) → (a && (b && (not g && r))) ≡ true → g ≡ false
third_is_false true true false r h = refl
third_is_false true true true r h = cc
third_is_false true false g r h = cc
third_is_false false b g r h = cc

pub returns : goal.returns
returns c =
    let svg_is : app_of c.in_ok-svg_command.field-0 ≡ svg = c.in_ok-svg_command.ensures in
    let asked : IsTable (app_of c.in_ok-table_command.field-0) = c.in_ok-table_command.ensures in
    let table_is : app_of c.in_ok-table_command.field-0 ≡ table asked.names = asked.same in
    let diff_is : app_of c.in_ok-diff_command.field-0 ≡ diff = c.in_ok-diff_command.ensures in
    let with_svg = c.in_ok-command.ensures.shape (third_is_false _ _ _ _ (ap (λ (a : App). a.top.is_plain) svg_is))
    ∙ ap₂ with_subcommand c.described.ensures (ap (λ (a : App). a.top) svg_is) in
    let with_table = c.in_ok-command-2.ensures.shape (third_is_false _ _ _ _ (ap (λ (a : App). a.top.is_plain) table_is))
    ∙ ap₂ with_subcommand with_svg (ap (λ (a : App). a.top) table_is) in
    IfOk-weaker c.subcommand-3.result _ _ (λ r added. record {
      names = asked.names;
      layers = asked.layers;
      same = added.shape (third_is_false _ _ _ _ (ap (λ (a : App). a.top.is_plain) diff_is))
          ∙ ap₂ with_subcommand with_table (ap (λ (a : App). a.top) diff_is);
    }) c.subcommand-3.ensures

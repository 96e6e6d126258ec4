use Rattle.std.proofs.Common.{rules, ◌≡◌, ◌∙◌, sym}
use Rattle.half_table.specs.Half.{half_of}
use Rattle.half_table.specs.Rows.{has_halves}
use Rattle.half_table.proofs.Strings.{has-string}
use Rattle.half_table.proofs.table.HalfTable.has_string.Goals as goal

pub returns-clause-halves : goal.returns-clause-halves
returns-clause-halves g c =
    let is : c.is_some.result ≡ has_halves c.args.self.now.rows c.args.string = search rules in
    λ forward. has-string c.args.self.now.rows (half_of c.args.string forward) ∙ sym is

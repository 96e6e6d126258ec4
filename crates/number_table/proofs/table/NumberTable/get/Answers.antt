use Rattle.std.proofs.Common.{◌≡◌, sym, subst, ℕ, Some, nat_eq}
use Rattle.std.specs.Map.{lookup}
use Rattle.number_table.specs.Rows.{HasNumberAt}
use Rattle.number_table.proofs.Found.{same-number}
use Rattle.number_table.proofs.table.NumberTable.get.Goals as goal

pub returns : goal.returns
returns g c =
    let rows = c.self.inside.rows.entries in
    let place = c.in_ok-place.place in
    let number = c.in_ok-value.field-0-0.now in
    let value = c.in_ok-value.value.now in
    let there : HasNumberAt rows place c.args.number = rw c.self.view_is c.in_ok-place.ensures.there in
    let same = same-number rows place c.args.number (number, value) there (sym c.in_ok-value.ensures.entry) in
    rw (← c.self.view_is) (sym (subst (λ (n : ℕ). lookup (nat_eq n) rows ≡ Some value) same c.in_ok-value.ensures.value))

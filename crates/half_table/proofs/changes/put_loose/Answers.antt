use Rattle.std.proofs.Common.{◌≡◌, ◌∷◌, ◌++◌, [], ap, Some, nat_eq, cond, ◌∙◌}
use Rattle.std.specs.Map.{lookup}
use Rattle.std.proofs.lemmas.List.{map_push}
use Rattle.std.proofs.Common.{ℕ}
use Rattle.half_table.specs.declared.links.Ends.{Ends}
use Rattle.half_table.specs.Rows.{strings, IsLinked}
use Rattle.half_table.specs.Surgery.{AddsLoose, loose_ends}
use Rattle.half_table.proofs.Strings.{none-found}
use Rattle.half_table.proofs.Loose.{added, added-linked}
use Rattle.half_table.proofs.LooseCycles.{added-cycle}
use Rattle.half_table.proofs.changes.put_loose.Goals as goal

ends_are : (c : goal.In_ok-push) → record { forward = c.lone_links-forward.result; backward = c.lone_links-backward.result } ≡ loose_ends c.args.string.now c.args.from.now c.args.to.now
ends_are c = λ i. record { forward = c.lone_links-forward.ensures i; backward = c.lone_links-backward.ensures i }

adds : (c : goal.In_ok-push) → AddsLoose c.args.string.now c.args.from.now c.args.to.now c.args.rows.now c.push.new.self
adds c =
    let none = none-found (lookup (nat_eq c.args.string.now) c.args.rows.now) c.requires.fresh in
    let held : strings c.push.new.self ≡ strings c.args.rows.now ++ c.args.string.now ∷ [] =
    ap strings c.in_ok-push.ensures.rows ∙ map_push (λ (e : ℕ × Ends). e.0) c.args.rows.now (c.number_of.result, _) ∙ ap (λ (n : ℕ). strings c.args.rows.now ++ n ∷ []) c.number_of.ensures in
    let put = rw c.number_of.ensures at c.in_ok-push.ensures.updates in
    added c.args.rows.now c.push.new.self c.args.string.now c.args.from.now c.args.to.now held
    (λ q. put q ∙ ap (λ (e : Ends). cond (nat_eq c.args.string.now q) (Some e) (lookup (nat_eq q) c.args.rows.now)) (ends_are c))

linked : (c : goal.In_ok-push) → IsLinked c.push.new.self
linked c =
    added-linked c.args.rows.now c.push.new.self c.args.string.now c.args.from.now c.args.to.now c.requires.linked c.in_ok-push.ensures.distinct
    (none-found (lookup (nat_eq c.args.string.now) c.args.rows.now) c.requires.fresh) (adds c)

pub returns-clause-adds : goal.returns-clause-adds
returns-clause-adds c = adds c

pub returns-clause-linked : goal.returns-clause-linked
returns-clause-linked c = linked c

pub returns-clause-cycle : goal.returns-clause-cycle
returns-clause-cycle c = added-cycle c.args.rows.now c.push.new.self c.args.string.now c.args.from.now c.args.to.now (linked c) c.requires.fresh (adds c)

pub returns-clause-entry : goal.returns-clause-entry
returns-clause-entry c =
    c.in_ok-push.ensures.rows
    ∙ (λ i. c.args.rows.now ++ (c.number_of.ensures i, ends_are c i) ∷ [])

use Rattle.std.proofs.Common.{◌≡◌, ◌∷◌, ◌∙◌, ℕ, length, false, ap, sym, subst}
use Rattle.half_table.specs.declared.half.Half.{Half}
use Rattle.half_table.specs.Half.{is_half}
use Rattle.half_table.specs.Cycle.{IsRun, orbit}
use Rattle.half_table.specs.Rows.{HalfRows, next, halves}
use Rattle.half_table.proofs.Closed.{ahead-more}
use Rattle.half_table.proofs.walk.half_after.Goals as goal

going : (rows : HalfRows) (start at after : Half) (n : ℕ) → IsRun (next rows) start (next rows at) (orbit (next rows) n start (next rows at))
    → after ≡ next rows at → is_half after start ≡ false
    → (at ∷ orbit (next rows) n start (next rows at) ≡ at ∷ after ∷ orbit (next rows) n start (next rows after)) × IsRun (next rows) start (next rows after) (orbit (next rows) n start (next rows after))
going rows start at after n run is other =
    let run_here = subst (λ z. IsRun (next rows) start z (orbit (next rows) n start z)) (sym is) run in
    let m = ahead-more (next rows) start n after run_here other in
    (ap (λ l. at ∷ l) (ap (orbit (next rows) n start) (sym is) ∙ m.0), m.1)

pub returns-else-is_same-clause-ahead : goal.returns-else-is_same-clause-ahead
returns-else-is_same-clause-ahead c = (going c.args.rows.now c.args.start.now c.args.at.now c.next_half-after.result (length (halves c.args.rows.now)) c.requires c.next_half-after.ensures (sym c.is_same.ensures ∙ c.if-is_same.false)).0

pub returns-else-is_same-clause-walking : goal.returns-else-is_same-clause-walking
returns-else-is_same-clause-walking c = (going c.args.rows.now c.args.start.now c.args.at.now c.next_half-after.result (length (halves c.args.rows.now)) c.requires c.next_half-after.ensures (sym c.is_same.ensures ∙ c.if-is_same.false)).1

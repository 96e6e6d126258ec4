use Rattle.std.proofs.Common.{ℕ, ◌-◌, sym, ap, ◌∙◌, subst, arith}
use Rattle.std.specs.Prelude.{slice_index}
use Rattle.std.specs.List.{Contains}
use Rattle.cad_rings.specs.Cycle.{corners_of, turned}
use Rattle.cad_rings.specs.Surgery.{corner}
use Rattle.cad_map.proofs.Boundaries.LooksBefore.{before-some, before-none, place-within}
use Rattle.cad_map.proofs.look.before_in.Goals as goal

pub turned_at-requires-clause-start : goal.turned_at-requires-clause-start
turned_at-requires-clause-start c =
    let inside = place-within c.args.ring.now (c.args.from, c.args.to) c.in_ok-place.place (sym c.in_ok-place.ensures) in
    omega (arith, inside)

pub returns-clause-some : goal.returns-clause-some
returns-clause-some c =
    let ring = c.args.ring.now in
    let place = c.in_ok-place.place in
    let two = c.len.ensures.at_least_two in
    let long = c.len.ensures.value in
    let before = c.turned_at.ensures ∙ ap (λ (n : ℕ). slice_index (turned place ring) (n - 1)) long in
    subst (λ (u : ℕ). Contains (corners_of ring) (corner u c.args.from c.args.to)) (sym before)
    (before-some ring (c.args.from, c.args.to) place (omega (arith, two, long)) (sym c.in_ok-place.ensures))

pub returns-in_err-place-clause-none : goal.returns-in_err-place-clause-none
returns-in_err-place-clause-none c =
    rw c.from_residual.ensures (before-none (c.args.from, c.args.to) _ (sym c.place_of.ensures ∙ c.in_err-place.was))

use Rattle.std.proofs.Common.{ap, sym, ◌∙◌, ◌≡◌, ◌≤◌, Some, None, subst, length, slice_get}
use Rattle.std.specs.Prelude.{option_map, option_and_then}
use Rattle.std.specs.List.{AllByRecursion}
use Rattle.cad_map.specs.Map.{rings_at}
use Rattle.cad_map.specs.Walk.{first_side}
use Rattle.cad_laws.specs.Local.{side_by}
use Rattle.map_parts.specs.Parts.{Parts, rings_kept}
use Rattle.map_parts.proofs.PartsRings.{rings-two}
use Rattle.cad_surgery.proofs.PartsFaces.{ring-told, kept-there}
use Rattle.cad_surgery.proofs.draft.DraftMapView.ring_side.Goals as goal

pub returns-in_err-half-clause-side : goal.returns-in_err-half-clause-side
returns-in_err-half-clause-side g c =
    c.from_residual.ensures
    ∙ sym (subst (λ (d : Parts). option_and_then first_side (slice_get (rings_at c.args.face (rings_kept d)) c.args.place) ≡ None) c.self.view_is
    (ring-told _ c.self.invariant c.args.face c.args.place ∙ ap (option_map (side_by c.self.inside.table.rows)) (sym c.kept_half.ensures ∙ c.in_err-half.was)))

pub returns-in_err-half-clause-two : goal.returns-in_err-half-clause-two
returns-in_err-half-clause-two g c = subst (λ (d : Parts). AllByRecursion (λ b. 2 ≤ length b.ring) (rings_kept d)) c.self.view_is (rings-two _ c.self.invariant)

pub returns-clause-two : goal.returns-clause-two
returns-clause-two g c = subst (λ (d : Parts). AllByRecursion (λ b. 2 ≤ length b.ring) (rings_kept d)) c.self.view_is (rings-two _ c.self.invariant)

pub side-requires : goal.side-requires
side-requires g c = kept-there _ c.self.invariant c.args.face c.args.place c.in_ok-half.half (sym c.in_ok-half.ensures)

pub returns-clause-side : goal.returns-clause-side
returns-clause-side g c =
    ap Some c.side.ensures
    ∙ sym (subst (λ (d : Parts). option_and_then first_side (slice_get (rings_at c.args.face (rings_kept d)) c.args.place) ≡ Some (side_by c.self.inside.table.rows c.in_ok-half.half)) c.self.view_is
    (ring-told _ c.self.invariant c.args.face c.args.place ∙ ap (option_map (side_by c.self.inside.table.rows)) (sym c.in_ok-half.ensures)))

use Rattle.std.proofs.Common.{◌≡◌, ◌∙◌, sym, ap, subst, Some, None, slice_get}
use Rattle.std.specs.Prelude.{IsPermutation, option_map}
use Rattle.half_table.specs.Half.{twin}
use Rattle.cad_map.specs.Map.{far_end, strings_at}
use Rattle.cad_map.specs.Views.{HasSide}
use Rattle.map_parts.specs.declared.stars.Spoke.{Spoke}
use Rattle.map_parts.specs.Parts.{Parts, map_of}
use Rattle.map_parts.specs.Views.{view_strings}
use Rattle.map_parts.proofs.PartsRings.{in_table}
use Rattle.cad_surgery.proofs.StarStrings.{none-told, strings-each}
use Rattle.cad_surgery.proofs.PartsBeyond.{spoke-told}
use Rattle.cad_surgery.proofs.draft.DraftMapView.side_to.Goals as goal

pub face-requires : goal.face-requires
face-requires g c =
    let x = c.in_ok-spoke.spoke in
    let it = spoke-told _ c.self.invariant c.args.point c.args.place x (sym c.in_ok-spoke.ensures) in
    rw c.twin.ensures.is (in_table _ c.self.invariant (twin x.half) it.shown)

pub returns-clause-far : goal.returns-clause-far
returns-clause-far g c =
    let x = c.in_ok-spoke.spoke in
    subst (λ (d : Parts). option_map (λ s. far_end s c.args.point) (slice_get (view_strings d c.args.point) c.args.place) ≡ Some x.far) c.self.view_is
    (spoke-told _ c.self.invariant c.args.point c.args.place x (sym c.in_ok-spoke.ensures)).far

pub returns-clause-some : goal.returns-clause-some
returns-clause-some g c =
    let x = c.in_ok-spoke.spoke in
    let it = spoke-told _ c.self.invariant c.args.point c.args.place x (sym c.in_ok-spoke.ensures) in
    subst (λ (d : Parts). HasSide (map_of d) c.face.result (x.far, c.args.point)) c.self.view_is
    (rw (c.face.ensures, c.twin.ensures.is) it.side)

pub returns-in_err-spoke-clause-none : goal.returns-in_err-spoke-clause-none
returns-in_err-spoke-clause-none g c =
    let none = subst (λ (d : Parts). slice_get (view_strings d c.args.point) c.args.place ≡ None) c.self.view_is
    (none-told _ c.self.invariant c.args.point c.args.place (ap (option_map (λ (y : Spoke). y.half)) (sym c.spoke_at.ensures ∙ c.in_err-spoke.was))) in
    rw c.from_residual.ensures (λ s there. let e : Some s ≡ None = sym there ∙ none in cc)

pub returns-in_err-spoke-clause-each : goal.returns-in_err-spoke-clause-each
returns-in_err-spoke-clause-each g c =
    subst (λ (d : Parts). IsPermutation (strings_at (map_of d) c.args.point) (view_strings d c.args.point)) c.self.view_is
    (strings-each _ c.self.invariant c.args.point)

pub returns-clause-each : goal.returns-clause-each
returns-clause-each g c =
    subst (λ (d : Parts). IsPermutation (strings_at (map_of d) c.args.point) (view_strings d c.args.point)) c.self.view_is
    (strings-each _ c.self.invariant c.args.point)

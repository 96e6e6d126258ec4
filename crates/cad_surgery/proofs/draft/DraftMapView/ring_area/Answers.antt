use Rattle.std.proofs.Common.{◌<◌, sym, ap, subst, ◌∙◌, length, arith}
use Rattle.std.proofs.lemmas.Int.{ints}
use Rattle.std.specs.Prelude.{IsSome}
use Rattle.geo_exact.specs.Measure.{doubled_area}
use Rattle.cad_map.specs.Map.{rings_at, sum_of_ring}
use Rattle.cad_map.specs.Rings.{HasWholeRings, ring_at}
use Rattle.map_parts.specs.Building.{parts_of}
use Rattle.cad_map.specs.MapRows.{map_in}
use Rattle.map_parts.specs.Parts.{Parts, map_of, rings_kept}
use Rattle.cad_surgery.proofs.PartsFaces.{half-kept, kept-there, ring-is, ring-short}
use Rattle.cad_surgery.proofs.draft.DraftMapView.ring_area.Goals as goal

pub unwrap-half-requires : goal.unwrap-half-requires
unwrap-half-requires g c =
    subst IsSome (sym c.kept_half.ensures)
    (half-kept _ c.self.invariant c.args.face c.args.place
    (subst (λ (d : Parts). c.args.place < length (rings_at c.args.face (rings_kept d))) (sym c.self.view_is) c.requires.there))

pub area_along-requires-clause-there : goal.area_along-requires-clause-there
area_along-requires-clause-there g c =
    kept-there _ c.self.invariant c.args.face c.args.place c.unwrap-half.result (sym c.kept_half.ensures ∙ c.unwrap-half.ensures)

pub area_along-requires-clause-few : goal.area_along-requires-clause-few
area_along-requires-clause-few g c =
    let within = subst (λ (d : Parts). c.args.place < length (rings_at c.args.face (rings_kept d))) (sym c.self.view_is) c.requires.there in
    ring-short _ c.self.invariant (subst (λ (d : Parts). HasWholeRings (map_of d)) (sym c.self.view_is) c.requires.whole)
    c.args.face c.args.place within c.unwrap-half.result (sym c.kept_half.ensures ∙ c.unwrap-half.ensures)

pub returns : goal.returns
returns g c =
    let within = subst (λ (d : Parts). c.args.place < length (rings_at c.args.face (rings_kept d))) (sym c.self.view_is) c.requires.there in
    let same = ring-is _ c.self.invariant c.args.face c.args.place within c.unwrap-half.result (sym c.kept_half.ensures ∙ c.unwrap-half.ensures) in
    let area = c.area_along.ensures ∙ ap (sum_of_ring doubled_area (map_of (parts_of (map_in c.self.inside.rows) c.self.inside.table c.self.inside.kept c.self.inside.stars c.self.inside.grid))) same
    ∙ ap (λ (d : Parts). sum_of_ring doubled_area (map_of d) (ring_at (rings_kept d) c.args.face c.args.place)) c.self.view_is in
    omega (arith, ints, area)

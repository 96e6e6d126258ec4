use Rattle.std.proofs.Common.{ap, subst, ◌+◌, ℕ}
use Rattle.cad_map.specs.Boundaries.{face_place, IsFirstFrom}
use Rattle.cad_map.proofs.Lists.Runs.{AreBounds, bounds_rise}
use Rattle.cad_map.proofs.Boundaries.FaceRuns.{place_of, rings-run, up-to}
use Rattle.cad_map.proofs.look.places_of.Goals as goal

pub returns : goal.returns
returns c =
    let bs = c.args.boundaries.now in
    let n = face_place c.args.face.now in
    let place = c.face_place-place.ensures.place in
    let next = ap (λ k. k + 1) c.face_place-place.ensures.place in
    let first = c.first_from-first.result in
    let end = c.first_from-end.result in
    let bounds : AreBounds place_of bs n first end = record {
      low_within = c.first_from-first.ensures.within;
      high_within = c.first_from-end.ensures.within;
      below = subst (λ (k : ℕ). IsFirstFrom bs k first) place c.first_from-first.ensures.first;
      up_to = up-to bs n end (subst (λ (k : ℕ). IsFirstFrom bs k end) next c.first_from-end.ensures.first);
    } in
    record {
      rise = bounds_rise place_of bs n first end bounds;
      within = c.first_from-end.ensures.within;
      rings = rings-run c.args.face.now bs first end bounds;
    }

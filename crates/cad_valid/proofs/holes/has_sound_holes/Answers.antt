use Rattle.std.proofs.Common.{ℕ, ◌<◌, ◌∙◌, sym, subst}
use Rattle.std.specs.Prelude.{◌&&◌}
use Rattle.cad_map.specs.Map.{rings_at}
use Rattle.cad_valid.proofs.FacesOfMap.{inside-canonical_order, apart-canonical_order}
use Rattle.cad_valid.proofs.Sweeping.{sound-alone}
use Rattle.cad_valid.proofs.holes.has_sound_holes.Goals as goal

pub returns-then-ring_count-lt2 : goal.returns-then-ring_count-lt2
returns-then-ring_count-lt2 g c =
    let m = g.M.MapView.map c.args.map.now in
    let bs = g.M.MapView.rings c.args.map.now in
    let f = c.args.face.now in
    let told = c.ring_count.ensures in
    let few = subst (λ (n : ℕ). n < 2) told.count c.if-ring_count-lt2.true in
    sym (sym (λ i. inside-canonical_order m f bs told.canonical_order i && apart-canonical_order m f bs told.canonical_order i)
    ∙ sound-alone m (rings_at f bs) few)

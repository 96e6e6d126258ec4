use Rattle.std.proofs.Common.{◌≡◌, ℕ, sym, ap, subst, ◌∙◌, length, map}
use Rattle.std.proofs.lemmas.List.{length-map}
use Rattle.cad_rows.specs.declared.names.Face.{Face}
use Rattle.cad_map.specs.Map.{rings_at}
use Rattle.key_lists.specs.Held.{items_at}
use Rattle.half_table.specs.Rows.{origin_of, cycle}
use Rattle.map_parts.specs.Parts.{Parts, FitTogether, kept_at, rings_kept}
use Rattle.cad_surgery.proofs.PartsFaces.{rings-face}
use Rattle.cad_surgery.proofs.draft.DraftMapView.ring_count.Goals as goal

-- a face has as many rings as halves are kept for it
rings-count : (d : Parts) → FitTogether d → (f : Face) → length (kept_at d f) ≡ length (rings_at f (rings_kept d))
rings-count d is f = sym (ap length (rings-face d is f) ∙ length-map (kept_at d f) (λ h. map (origin_of d.table.rows) (cycle d.table.rows h)))

pub returns-clause-count : goal.returns-clause-count
returns-clause-count g c =
    ap length c.at.ensures
    ∙ subst (λ (d : Parts). length (items_at c.self.inside.kept c.face_place.result) ≡ length (rings_at c.args.face (rings_kept d))) c.self.view_is
    (ap (λ (n : ℕ). length (items_at c.self.inside.kept n)) c.face_place.ensures.place ∙ rings-count _ c.self.invariant c.args.face)

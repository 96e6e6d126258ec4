use Rattle.std.proofs.Common.{◌≡◌, ℕ, refl, sym, ap, ◌∙◌, Option, Some, None, slice_get}
use Rattle.std.specs.Prelude.{option_map}
use Rattle.cad_rows.specs.declared.rows.StringRow.{StringRow}
use Rattle.cad_map.specs.Map.{far_end}
use Rattle.cad_map.specs.Spans.{far_of, span_of}
use Rattle.cad_map.proofs.span.far_with.Goals as goal

-- the far end of a row is that of its number and ends
far-of-span : (p : ℕ) (o : Option StringRow) → option_map (λ s. far_of s p) (option_map span_of o) ≡ option_map (λ s. far_end s p) o
far-of-span p None = refl
far-of-span p (Some s) = refl

pub returns-clause-far : goal.returns-clause-far
returns-clause-far g c =
    ap Some c.far_of.ensures
    ∙ ap (option_map (λ s. far_of s c.args.point)) (sym c.in_ok-span.was ∙ c.span_with.ensures.span)
    ∙ far-of-span c.args.point (slice_get (g.M.MapView.view_strings c.args.map.now c.args.point) c.args.place)

pub returns-in_err-span-clause-far : goal.returns-in_err-span-clause-far
returns-in_err-span-clause-far g c =
    c.from_residual.ensures
    ∙ ap (option_map (λ s. far_of s c.args.point)) (sym c.in_err-span.was ∙ c.span_with.ensures.span)
    ∙ far-of-span c.args.point (slice_get (g.M.MapView.view_strings c.args.map.now c.args.point) c.args.place)

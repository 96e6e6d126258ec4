use Rattle.std.proofs.Common.{◌≡◌, ◌∙◌, subst, slice_get}
use Rattle.std.specs.Prelude.{IsPermutation, option_map}
use Rattle.cad_map.specs.Map.{strings_at}
use Rattle.cad_map.specs.Spans.{span_of}
use Rattle.map_parts.specs.Parts.{Parts, map_of}
use Rattle.map_parts.specs.Views.{view_strings}
use Rattle.cad_surgery.proofs.StarStrings.{span-told, strings-each}
use Rattle.cad_surgery.proofs.draft.DraftMapView.span_with.Goals as goal

pub returns-clause-span : goal.returns-clause-span
returns-clause-span g c =
    subst (λ (d : Parts). c.span_at.result ≡ option_map span_of (slice_get (view_strings d c.args.point) c.args.place)) c.self.view_is
    (c.span_at.ensures ∙ span-told _ c.self.invariant c.args.point c.args.place)

pub returns-clause-each : goal.returns-clause-each
returns-clause-each g c =
    subst (λ (d : Parts). IsPermutation (strings_at (map_of d) c.args.point) (view_strings d c.args.point)) c.self.view_is
    (strings-each _ c.self.invariant c.args.point)

use Rattle.std.proofs.Common.{◌∙◌, ◌==◌, not, filter}
use Rattle.cad_map.specs.MapRows.{map_in}
use Rattle.map_parts.proofs.RowsUndone.{same-sources}
use Rattle.map_parts.proofs.edits.sources.detach.Goals as goal

pub returns-clause-ok : goal.returns-clause-ok
returns-clause-ok c =
    c.set_sources.ensures
    ∙ same-sources (map_in c.args.rows.now) c.args.item.now (λ sources. filter (λ s. not (s == c.args.source)) sources) c.in_ok-place.left c.in_ok-place.ensures.left

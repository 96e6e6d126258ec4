use Rattle.std.proofs.Common.{◌∙◌, [], ◌∷◌, ◌++◌}
use Rattle.cad_rows.specs.declared.names.Face.TheVariants.{Parcel}
use Rattle.cad_map.specs.Boundaries.{canonical_order}
use Rattle.numbered_rows.specs.Rows.{without_row}
use Rattle.cad_map.specs.Merger.{shared_chains, is_shared}
use Rattle.cad_map.specs.Changes.{merge_at}
use Rattle.cad_edit.proofs.StringRows.{taken-filtered}
use Rattle.cad_edit.proofs.edits.merge.merge.Goals as goal

pub merged_boundaries-requires-clause-shared : goal.merged_boundaries-requires-clause-shared
merged_boundaries-requires-clause-shared c = rw c.in-Parcel.is at c.requires.shared

pub returns : goal.returns
returns c =
    let m = c.args.map.now in
    let ended = Parcel c.in-Parcel.number in
    let shared = c.as_slice.ensures.value ∙ c.in_ok-shared.ensures in
    rw (c.in-Parcel.is, c.set_boundaries.ensures, c.in_ok-put_retired.ensures.ok, c.take_parcel.ensures, c.take_strings.ensures, shared, c.in_ok-boundaries.ensures)
    (λ i. record m {
      parcels = without_row (λ r. r.number) c.in-Parcel.number m.parcels;
      strings = taken-filtered (is_shared m c.args.kept ended) m.strings c.requires.valid.sound.v1.strings.distinct i;
      retired = m.retired ++ c.in-Parcel.number ∷ [];
      boundaries = canonical_order (merge_at m c.args.kept ended (shared_chains m c.args.kept ended));
    })

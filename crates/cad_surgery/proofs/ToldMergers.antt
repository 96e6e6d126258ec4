-- Mergers that a record tells, along a chain or round an island.
use Rattle.std.proofs.Common.{◌≡◌, ◌<◌, ◌≤◌, ◌+◌, ℕ, sym, ap, subst, ◌∙◌, List, [], ◌∷◌, length, length-append, arith}
use Rattle.std.specs.List.{AllByRecursion}
use Rattle.std.proofs.lemmas.List.{length-map}
use Rattle.cad_rows.specs.declared.edits.Edit.TheVariants.{Merge}
use Rattle.cad_rows.specs.declared.names.Face.{Face}
use Rattle.cad_rows.specs.declared.names.Face.TheVariants.{Parcel}
use Rattle.cad_rows.specs.declared.rows.ParcelRow.{ParcelRow}
use Rattle.cad_map.specs.Asked.{GivesInRange}
use Rattle.cad_map.specs.Chain.{start_of}
use Rattle.cad_map.specs.Effects.{after}
use Rattle.cad_map.specs.Map.{Map}
use Rattle.cad_map.specs.Refusals.{first_refusal}
use Rattle.cad_map.proofs.CallerLemmas.{whole_valid}
use Rattle.half_table.specs.declared.half.Half.{Half}
use Rattle.half_table.specs.Rows.{HalfRows}
use Rattle.cad_laws.specs.Tried.{IsTried}
use Rattle.edit_records.specs.declared.record.ChainString.{ChainString}
use Rattle.edit_records.specs.declared.record.SmallRecord.{SmallRecord}
use Rattle.edit_records.specs.HeldChains.{HeldMerged}
use Rattle.edit_records.specs.Record.{edit_of, Holds, Belongs}
use Rattle.cad_surgery.specs.declared.draft.Draft.TheInside.{Inside}
use Rattle.cad_surgery.specs.declared.edits.merged.Merged.{Merged}
use Rattle.cad_surgery.specs.declared.edits.merging.Way.{Way}
use Rattle.cad_surgery.specs.declared.edits.merging.Way.TheVariants as way
use Rattle.cad_surgery.specs.Merging.{HasShared}
use Rattle.cad_surgery.specs.ToldMergers.{HeldMerger, IsMergedBy, TellsMerged, chain_told, halves_of}
use Rattle.map_parts.specs.Parts.{Parts, FitTogether, HasHalves, map_of}
use Rattle.map_parts.proofs.Merging as merging
use Rattle.cad_surgery.proofs.DraftFits.{draft-fits}
use Rattle.cad_surgery.proofs.FitParts.{parts-in}
use Rattle.cad_surgery.proofs.HeldIslandMergers as round
use Rattle.cad_surgery.proofs.RecordedMergers.{merger-edit, merger-held}
use Rattle.cad_surgery.proofs.HeldMergers as along

-- the chain has the points
chain-longer : (w : Way) (points : List ℕ) → length points ≤ length (chain_told w points)
chain-longer (way.Along start end) points = omega arith
chain-longer way.Round points = let closing = length-append points (start_of points ∷ []) in omega (arith, closing)

module _ (m : Map) (kept : Face) (row : ParcelRow) (place : ℕ) (points : List ℕ) (strings : List ChainString) (moved : List Half) where
  -- what went is told in the same way
  pub gone-by : (w : Way) → HeldMerger w m kept row place points strings moved → HeldMerged m kept row place strings (chain_told w points)
  gone-by (way.Along start end) it = it.gone
  gone-by way.Round it = it.gone

  module _ (tried : IsTried m (Merge kept (Parcel row.number))) where
    -- there are two points or more
    pub long-by : (w : Way) → HeldMerger w m kept row place points strings moved → 2 ≤ length points
    long-by (way.Along start end) it =
        let whole_chain = merging.chain-open m kept row.number (halves_of strings) (along.is_it m kept row place points strings start end moved tried it) in
        let long = whole_chain.long in
        let same = ap length it.shared.is in
        omega (arith, long, same)
    long-by way.Round it = round.long m kept row place points strings moved tried it

    -- the path has a first half
    pub halves-some : (w : Way) → HeldMerger w m kept row place points strings moved → 0 < length (halves_of strings)
    halves-some w it =
        let long = long-by w it in
        let longer = chain-longer w points in
        let many = (gone-by w it).as_many in
        let halves = length-map strings (λ (s : ChainString). s.half) in
        omega (arith, long, longer, many, halves)

    -- in a table that goes with the map, what the record tells is at hand
    pub shared-by : (w : Way) → HeldMerger w m kept row place points strings moved → (rows : HalfRows) → AllByRecursion (HasHalves rows) m.strings
        → HasShared w m rows kept row.number (halves_of strings) moved
    shared-by (way.Along start end) it rows ends = along.shared-path m kept row place points strings start end moved tried it rows ends
    shared-by way.Round it rows ends = round.shared-ring m kept row place points strings moved tried it rows ends

-- ---- By the record

module _ (r : SmallRecord) (t : Merged) (tells : TellsMerged r t) where
  -- it is of the merger that it tells
  pub same : edit_of r ≡ Merge t.kept (Parcel t.row.now.number)
  same = ap edit_of tells.4 ∙ merger-edit t.way t.kept t.row.now t.place t.points.now tells.0 tells.1

  -- and what it tells was so
  pub told : (m : Map) → Holds r m → HeldMerger t.way m t.kept t.row.now t.place t.points.now t.strings.now t.moved.now
  told m holds =
      subst (λ (q : List ChainString × List Half). HeldMerger t.way m t.kept t.row.now t.place t.points.now q.0 q.1) (λ i. (tells.2 i, tells.3 i))
      (merger-held t.way t.kept t.row.now t.place t.points.now tells.0 tells.1 m (subst (λ (q : SmallRecord). Holds q m) tells.4 holds))

module _ (r : SmallRecord) (t : Merged) (tells : TellsMerged r t) (given : GivesInRange (edit_of r)) (m now : Map) (it : Belongs r m now) where
  -- the record leads from the map to the one after the merger that it tells
  pub by-record : IsMergedBy m now t
  by-record = record {
    tried = record {
      valid = it.valid;
      given = subst GivesInRange (same r t tells) given;
      allowed = ap (first_refusal m) (sym (same r t tells)) ∙ it.leads.allowed;
    };
    is = it.leads.is ∙ ap (after m) (same r t tells);
    held = told r t tells m it.holds;
  }

  pub points-some : 0 < length t.points.now
  points-some = let long = long-by m t.kept t.row.now t.place t.points.now t.strings.now t.moved.now by-record.tried t.way by-record.held in omega (arith, long)

  pub as-many : length (chain_told t.way t.points.now) ≡ length t.strings.now + 1
  as-many = (gone-by m t.kept t.row.now t.place t.points.now t.strings.now t.moved.now t.way by-record.held).as_many

-- on a draft of the map before it
module _ {T : Type 0} (inside : Inside T) {v : Parts} (view : parts-in inside ≡ v) (fit : FitTogether (parts-in inside)) {t : Merged} {now : Map} (it : IsMergedBy (map_of v) now t) where
  pub again : HasShared t.way (map_of v) v.table.rows t.kept t.row.now.number (halves_of t.strings.now) t.moved.now
  again =
      subst (λ (q : Parts). HasShared t.way (map_of v) q.table.rows t.kept t.row.now.number (halves_of t.strings.now) t.moved.now) view
      (shared-by (map_of v) t.kept t.row.now t.place t.points.now t.strings.now t.moved.now it.tried t.way it.held inside.table.rows
      (draft-fits inside.rows inside.table inside.kept inside.stars inside.grid v view fit (whole_valid (map_of v) it.tried.valid)).fits.ends)

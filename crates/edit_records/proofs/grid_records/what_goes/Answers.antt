use Rattle.std.proofs.Common.{◌≡◌, ◌∙◌, ◌∷◌, [], List, refl, ap, sym, subst, arith}
use Rattle.std.specs.Prelude.{IsPermutation}
use Rattle.std.proofs.lemmas.Result.{IfOk-weaker}
use Rattle.cad_rows.specs.declared.edits.Edit.{Edit}
use Rattle.cad_rows.specs.declared.edits.Edit.TheVariants as edit
use Rattle.cad_rows.specs.declared.names.Face.TheVariants.{Parcel}
use Rattle.cad_rows.specs.declared.rows.StringRow.{StringRow}
use Rattle.cad_map.specs.declared.span.Span.{Span}
use Rattle.cad_map.specs.Chain.{start_of}
use Rattle.cad_map.specs.Map.{point_of, string_of}
use Rattle.cad_laws.specs.Counts.{shared_strings}
use Rattle.edit_records.specs.GridEdits.{gone_by}
use Rattle.edit_records.specs.GridLists.{AreEntries, IsBeside}
use Rattle.edit_records.specs.HeldChains.{closed, rows_along}
use Rattle.edit_records.proofs.ChainSpans.{rows-more}
use Rattle.edit_records.proofs.ChainWeights.{closed-long}
use Rattle.cad_laws.proofs.CallerLemmas.{found-at}
use Rattle.edit_records.proofs.GridEdits.{quiet}
use Rattle.edit_records.proofs.GridRecords.{takes-nothing, off-taking}
use Rattle.edit_records.proofs.GridRows.{row-at}
use Rattle.edit_records.proofs.grid_records.what_goes.Goals as goal

pub returns-in-DropPoint : goal.returns-in-DropPoint
returns-in-DropPoint g c =
    let it = c.in-DropPoint in
    rw it.is (IfOk-weaker c.lone_point.result _ _
    (λ l f b beside holds. f b it.row beside.tried.valid (found-at (λ r. r.number) b.points it.place it.row beside.tried.valid.sound.v1.points.distinct holds) refl)
    c.lone_point.ensures.goes)

pub returns-in-Split : goal.returns-in-Split
returns-in-Split g c =
    let m = g.M.MapView.map c.args.map.now in
    let it = c.in-Split in
    let number = ap (λ (s : Span). s.string) c.span_of.ensures in
    let same : edit.Split c.span_of.result.string it.point it.position.x it.position.y it.first it.second
    ≡ edit.Split it.row.number it.point it.position.x it.position.y it.first it.second =
    λ i. edit.Split (number i) it.point it.position.x it.position.y it.first it.second in
    rw it.is (IfOk-weaker c.lone_string.result _ _
    (λ l f b beside holds.
    let found = found-at (λ r. r.number) b.strings it.place it.row beside.tried.valid.sound.v1.strings.distinct holds in
    subst (λ (d : Edit). AreEntries (gone_by b d) l) same
    (f b it.row it.first it.second (subst (IsBeside m b) (sym same) beside) (ap (string_of b) number ∙ found) c.span_of.ensures))
    c.lone_string.ensures.splits)

pub returns-in-Join : goal.returns-in-Join
returns-in-Join g c =
    let it = c.in-Join in
    rw it.is (IfOk-weaker c.two_strings.result _ _
    (λ l f b beside holds. f b it.row it.first it.second it.string beside holds.strings c.span_of-one.ensures c.span_of-other.ensures
    (found-at (λ r. r.number) b.points it.place it.row beside.tried.valid.sound.v1.points.distinct holds.point) refl)
    c.two_strings.ensures.joins)

pub strings_between-requires : goal.strings_between-requires
strings_between-requires g c =
    let it = c.in-MergeAlong in
    let holds = rw it.is at c.requires.2 in
    let long = holds.gone.as_many in
    rw (c.as_slice-gone.ensures.value, c.as_slice-points.ensures) (omega (arith, long))

pub returns-in-MergeAlong : goal.returns-in-MergeAlong
returns-in-MergeAlong g c =
    let it = c.in-MergeAlong in
    rw it.is (IfOk-weaker c.strings_between.result _ _
    (λ l f b beside holds.
    let rows = (λ i. rows_along (c.as_slice-gone.ensures.value i) (closed (c.as_slice-points.ensures i))) ∙ rows-more it.strings.items it.chain (start_of it.chain ∷ []) holds.gone.as_many in
    f b it.kept (Parcel it.row.number) beside
    (subst (λ (r : List StringRow). IsPermutation r (shared_strings b it.kept (Parcel it.row.number))) (sym rows) holds.gone.shared))
    c.strings_between.ensures)

pub strings_between-requires-in-MergeIsland : goal.strings_between-requires-in-MergeIsland
strings_between-requires-in-MergeIsland g c =
    let it = c.in-MergeIsland in
    let holds = rw it.is at c.requires.2 in
    let long = holds.gone.as_many in
    let round = closed-long it.points in
    rw (c.as_slice-gone-in-MergeIsland.ensures.value, c.as_slice-round.ensures) (omega (arith, long, round))

pub returns-in-MergeIsland : goal.returns-in-MergeIsland
returns-in-MergeIsland g c =
    let it = c.in-MergeIsland in
    rw it.is (IfOk-weaker c.strings_between-in-MergeIsland.result _ _
    (λ l f b beside holds.
    let rows : rows_along c.as_slice-gone-in-MergeIsland.result.now (closed c.as_slice-round.result.now) ≡ rows_along it.strings.items (closed it.points) =
    λ i. rows_along (c.as_slice-gone-in-MergeIsland.ensures.value i) (closed (c.as_slice-round.ensures i)) in
    f b it.kept (Parcel it.row.number) beside
    (subst (λ (r : List StringRow). IsPermutation r (shared_strings b it.kept (Parcel it.row.number))) (sym rows) holds.gone.shared))
    c.strings_between-in-MergeIsland.ensures)

pub returns-in-Move : goal.returns-in-Move
returns-in-Move g c =
    let it = c.in-Move in
    rw it.is (IfOk-weaker c.point_with_strings.result _ _
    (λ l f b beside holds. let at = row-at (point_of b it.point) it.from holds in f b at.row it.to beside at.is at.position)
    c.point_with_strings.ensures.goes)

pub returns-in_default : goal.returns-in_default
returns-in_default g c b beside holds =
    let it = c.in_default in
    let no = off-taking c.args.change.now it.not-DropPoint it.not-Split it.not-Join it.not-MergeAlong it.not-MergeIsland it.not-Move in
    quiet (gone_by b _) c.new.result (takes-nothing b c.args.change.now no) c.new.ensures

use Rattle.std.proofs.Common.{◌∙◌, ℕ, List, Option, ap, sym, subst, refl}
use Rattle.std.specs.Prelude.{IsSome, is_some}
use Rattle.cad_rows.specs.declared.rows.PointRow.{PointRow}
use Rattle.numbered_rows.specs.Rows.{row_with, with_row}
use Rattle.cad_map.proofs.CallerLemmas.{found-number}
use Rattle.cad_laws.proofs.CallerLemmas.{found-changed, with-again}
use Rattle.cad_map.specs.MapRows.{map_in}
use Rattle.numbered_rows.specs.Rows.{rows_in}
use Rattle.map_parts.proofs.RowsUndone.{point-is}
use Rattle.map_parts.proofs.edits.points.move_point.Goals as goal

abbrev number : PointRow → ℕ
number r = r.number

pub replace-requires : goal.replace-requires
replace-requires c =
    let rows = (map_in c.args.rows.now).points in
    let was = c.replace-row.ensures.old in
    let row : PointRow = record { number = c.args.point; position = c.args.position.now; sources = c.new-sources.result } in
    let there = ap (λ (o : Option PointRow). is_some o) was in
    subst (λ (n : ℕ). IsSome (row_with number n (rows_in c.replace-row.new.self))) (sym (found-number number c.args.point rows c.replace-row.result was))
    (subst (λ (l : List PointRow). IsSome (row_with number c.args.point l)) (sym c.replace-row.ensures.rows)
    (subst (λ (o : Option PointRow). IsSome o) (sym (found-changed number row rows there)) refl))

pub returns-clause-rows : goal.returns-clause-rows
returns-clause-rows c =
    let m = map_in c.args.rows.now in
    let was = c.replace-row.ensures.old in
    let blank : PointRow = record { number = c.args.point; position = c.args.position.now; sources = c.new-sources.result } in
    let row : PointRow = record c.replace-row.result { position = c.args.position.now } in
    let named = found-number number c.args.point m.points c.replace-row.result was in
    ap (λ (l : List PointRow). record m { points = l })
    (c.replace.ensures.rows ∙ ap (with_row number row) c.replace-row.ensures.rows ∙ with-again number blank row m.points (sym named))
    ∙ sym (point-is m c.args.point (λ r. record r { position = c.args.position.now }) c.replace-row.result was)

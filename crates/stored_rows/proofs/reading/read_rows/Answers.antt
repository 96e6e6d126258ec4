use Rattle.std.proofs.Common.{rules, ◌≡◌, ◌+◌, [], ◌∷◌, ◌++◌, length, map, refl, sym, ap, ◌∙◌, arith, length-append}
use Rattle.std.proofs.lemmas.Option.{same_Some}
use Rattle.std.proofs.lemmas.List.{map_push, length-map}
use Rattle.stored_rows.proofs.TableLemmas.{from_no_key}
use Rattle.stored_rows.specs.Tables.{placed, placed_from}
use Rattle.stored_rows.proofs.TableLemmas.{rows_push}
use Rattle.stored_rows.proofs.reading.read_rows.Goals as goal

pub rows-init : goal.rows-init
rows-init g c =
    let sought = rw (c.new-row.ensures, from_no_key) at c.in-Ok.ensures.ok in
    (rw c.new-items.ensures.items refl, c.in-Ok.ensures.live, λ clean. rw (sought clean) refl, c.seek.ensures.quiet, λ clean. (_, ap (λ v. v.cursors 0) (sought clean), rw c.new-items.ensures.items refl))

pub rows-preserved : goal.rows-preserved
rows-preserved g c = (
  rw c.in-Ok-push.ensures.items (omega (arith, length-append c.rows.items.items (c.in_ok-item.item ∷ []), c.rows.invariant.0)),
  search rules,
  search rules,
  search rules,
  λ clean.
      let was = c.rows.invariant.4 (omega (arith, c.next.ensures.quiet.clean)) in
      let step = rw c.in-Ok-true.field-0-test at (c.in-Ok-true.ensures.ok clean) in
      let row = c.next.new.row in
      let left : was.0 ≡ row ∷ step.0 = same_Some _ _ (sym was.1 ∙ step.1) in
      let fields = g.L.Layout.fields c.args.layout.now in
      let item = c.in_ok-item.item in
      let done = c.rows.items.items in
      let it : row ≡ placed (1 + length (map fields done)) (fields item) = c.in_ok-item.ensures ∙ ap (λ n. placed n (fields item)) (c.rows.invariant.0 ∙ ap (λ n. 1 + n) (sym (length-map done fields))) in
      (step.0, ap (λ v. v.cursors 0) step.2, rw c.in-Ok-push.ensures.items (rw left at was.2 ∙ ap (λ r. placed_from 1 (map fields done) ++ r ∷ step.0) it ∙ sym (rows_push 1 (map fields done) (fields item) step.0) ∙ ap (λ rs. placed_from 1 rs ++ step.0) (sym (map_push fields done item)))),
)

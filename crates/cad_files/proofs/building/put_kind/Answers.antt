use Rattle.std.proofs.Common.{◌<◌, ◌≤◌, length, ◌∙◌, sym, ap, refl}
use Rattle.std.specs.Prelude.{option_map}
use Rattle.cad_files.specs.Kinds.{numbers_of, taken_before, name_of, taken_of}
use Rattle.cad_files.specs.declared.faults.PlanFault.TheVariants as faults
use Rattle.cad_files.proofs.ListFacts.{repeated-more, repeated-found, repeated-end}
use Rattle.cad_files.proofs.RowFacts.{taken-among}
use Rattle.cad_files.proofs.building.put_kind.Goals as goal

pub returns-then-is_taken-clause-err : goal.returns-then-is_taken-clause-err
unfolding taken_of
returns-then-is_taken-clause-err c = λ nm.
    let rows = c.args.rows.now in
    let kind = c.args.kind in
    let within : c.loop-place.place < length (numbers_of rows kind) = rw c.count_of-place-end.ensures at c.loop-place-test.true in
    let taken = rw (c.loop-place.invariant.put, c.name_at-name.ensures, taken-among rows kind) at (sym c.is_taken.ensures ∙ c.if-is_taken.true) in
    rw c.name_at-name.ensures
    (ap (λ o. option_map (λ n. faults.Taken n) (option_map (λ n. name_of kind n) o))
    (sym c.loop-place.invariant.free ∙ repeated-found (taken_before rows kind) (numbers_of rows kind) c.loop-place.place _ 0 within refl taken))

pub loop-place-preserved : goal.loop-place-preserved
loop-place-preserved c =
    let rows = c.args.rows.now in
    let kind = c.args.kind in
    let within : c.loop-place.place < length (numbers_of rows kind) = rw c.count_of-place-end.ensures at c.loop-place-test.true in
    let free = rw (c.loop-place.invariant.put, c.name_at-name.ensures, taken-among rows kind) at (sym c.is_taken.ensures ∙ c.if-is_taken.false) in
    record {
      put = c.in_ok-put_row.ensures;
      free = repeated-more (taken_before rows kind) (numbers_of rows kind) c.loop-place.place _ 0 within refl free ∙ c.loop-place.invariant.free;
    }

pub returns-clause-free : goal.returns-clause-free
unfolding taken_of
returns-clause-free c =
    let rows = c.args.rows.now in
    let kind = c.args.kind in
    let past : length (numbers_of rows kind) ≤ c.loop-place.place = rw c.count_of-place-end.ensures at c.loop-place-test.false in
    ap (option_map (λ n. name_of kind n)) (sym c.loop-place.invariant.free ∙ repeated-end (taken_before rows kind) (numbers_of rows kind) c.loop-place.place past)

use Rattle.std.proofs.Common.{◌≡◌, ◌≢◌, ◌+◌, ◌∙◌, ap, sym, subst, List, [], ◌∷◌, ◌++◌, map, drop, take, append_assoc}
use Rattle.std.specs.Prelude.{None}
use Rattle.std.specs.List.{AllByRecursion}
use Rattle.cad_rows.specs.declared.rows.StringRow.{StringRow}
use Rattle.cad_map.specs.Map.{string_of}
use Rattle.cad_map.specs.Valid.{EachPair}
use Rattle.cad_edit.proofs.StringRows.{drop-next, take-next, still-free}
use Rattle.cad_edit.proofs.parcels.put_strings.Goals as goal

pub loop-place-preserved : goal.loop-place-preserved
loop-place-preserved c =
    let rows = c.args.rows.now in
    let i = c.loop-place.place in
    let row = c.index-rows-place.result in
    let left : drop i rows ≡ row ∷ drop (i + 1) rows = drop-next rows i row c.loop-place-test.true (sym c.index-rows-place.is) in
    let here = subst (λ (l : List StringRow). AllByRecursion (λ r. string_of c.loop-place.map r.number ≡ None) l) left c.loop-place.invariant.new in
    let differ = subst (λ (l : List StringRow). EachPair (λ a b. a ≢ b) (map (λ r. r.number) l)) left c.loop-place.invariant.distinct in
    let put = rw c.in_ok-copy.ensures at c.in_ok-put_string.ensures.ok in
    record {
      put = put ∙ rw c.loop-place.invariant.put (λ j. record c.args.map.now { strings = (append_assoc c.args.map.now.strings (take i rows) (row ∷ []) ∙ ap (λ (l : List StringRow). c.args.map.now.strings ++ l) (sym (take-next rows i row c.loop-place-test.true (sym c.index-rows-place.is)))) j });
      new = rw put (still-free c.loop-place.map.strings row (drop (i + 1) rows) differ.0 here.1);
      distinct = differ.1;
    }

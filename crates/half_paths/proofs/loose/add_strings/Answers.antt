use Rattle.std.proofs.Common.{◌≡◌, ◌+◌, ◌++◌, ◌∷◌, [], drop, take, sym, ap, ◌∙◌, subst, nat_eq}
use Rattle.std.proofs.lemmas.List.{drop_more, take_more}
use Rattle.std.specs.List.{IsDistinct}
use Rattle.cad_rows.specs.declared.rows.StringRow.{StringRow}
use Rattle.half_table.specs.Count.{one_more}
use Rattle.half_table.specs.Surgery.{AddsLoose}
use Rattle.half_paths.specs.Loose.{numbers_of, AreNew, AddsStrings}
use Rattle.half_paths.proofs.Added.{adds-more, new-kept, rows-more, numbers-first, numbers-rest, ticked-more}
use Rattle.half_paths.proofs.loose.add_strings.Goals as goal

pub loop-place-preserved : goal.loop-place-preserved
loop-place-preserved g c =
    let strings = c.args.strings.now in
    let i = c.loop-place.place in
    let s : StringRow = c.index-strings-place.result in
    let first = c.args.table.now.rows in
    let old = c.loop-place.table.rows in
    let new = c.add_loose.new.self.rows in
    let tail = drop (i + 1) strings in
    let item : drop i strings ≡ s ∷ tail = drop_more strings i s c.loop-place-test.true ∙ ap (λ x. x ∷ tail) (sym c.index-strings-place.is) in
    let front : take (i + 1) strings ≡ take i strings ++ s ∷ [] = take_more strings i s c.loop-place-test.true ∙ ap (λ x. take i strings ++ x ∷ []) (sym c.index-strings-place.is) in
    let differ : IsDistinct nat_eq (numbers_of (s ∷ tail)) = subst (λ l. IsDistinct nat_eq (numbers_of l)) item c.loop-place.invariant.different in
    let here : AreNew old (s ∷ tail) = subst (AreNew old) item c.loop-place.invariant.new in
    let apart = numbers-first s tail differ in
    let one : AddsLoose s.number s.from s.to old new = c.in_default.ensures.adds in
    record {
      rows = rows-more new old first (take i strings) (take (i + 1) strings) s c.in_default.ensures.entry c.loop-place.invariant.rows front;
      adds = λ last a. c.loop-place.invariant.adds last (subst (λ l. AddsStrings l old last) (sym item) (adds-more s tail old new last apart one a));
      new = new-kept s tail old new apart one here.1;
      different = numbers-rest s tail differ;
      linked = c.in_default.ensures.linked;
      work = c.in_default.ensures.work ∙ ap one_more c.loop-place.invariant.work ∙ sym (ticked-more i c.args.table.now.work);
    }

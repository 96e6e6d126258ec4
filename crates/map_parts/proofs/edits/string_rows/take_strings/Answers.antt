use Rattle.std.proofs.Common.{◌≡◌, [], ℕ, ◌+◌, List, drop, refl, sym, ap, subst, ◌∙◌, arith}
use Rattle.std.proofs.lemmas.List.{drop_all}
use Rattle.cad_map.specs.Map.{Map}
use Rattle.cad_map.specs.declared.map_rows.MapRows.{MapRows}
use Rattle.cad_map.specs.MapRows.{map_in}
use Rattle.numbered_rows.specs.Rows.{rows_in}
use Rattle.map_parts.specs.StringRows.{CanTakeStrings, without_rows}
use Rattle.map_parts.proofs.StringRowsPut.{keeps-none, keeps-then, take-one, next-of}
use Rattle.map_parts.proofs.edits.string_rows.take_strings.Goals as goal

pub loop-string-init : goal.loop-string-init
loop-string-init c = record {
  can = c.requires;
  whole = refl;
  keeps = keeps-none;
}

pub take_string-requires : goal.take_string-requires
take_string-requires c =
    take-one c.string-item.result _ c.loop-string.rows c.loop-string.stars
    (subst (λ (l : List ℕ). CanTakeStrings l c.loop-string.rows c.loop-string.stars)
    (next-of c.args.strings.now c.loop-string.string-index c.string-item.result c.loop-string-test.true c.string-item.is) c.loop-string.invariant.can)

pub loop-string-preserved : goal.loop-string-preserved
loop-string-preserved c =
    let was = c.loop-string.invariant in
    let tail = drop (c.loop-string.string-index + 1) c.args.strings.now in
    let old : MapRows = c.loop-string.rows in
    let next = next-of c.args.strings.now c.loop-string.string-index c.string-item.result c.loop-string-test.true c.string-item.is in
    record {
      can = c.take_string.ensures.others tail (subst (λ (l : List ℕ). CanTakeStrings l old c.loop-string.stars) next was.can);
      whole =
          ap (λ (m : Map). record m { strings = without_rows tail m.strings }) c.take_string.ensures.rows
          ∙ ap (λ (l : List ℕ). record (map_in old) { strings = without_rows l (rows_in old.strings) }) (sym next) ∙ was.whole;
      keeps = keeps-then was.keeps c.take_string.ensures.keeps;
    }

pub returns : goal.returns
returns c =
    let was = c.loop-string.invariant in
    let old : MapRows = c.loop-string.rows in
    let none : drop c.loop-string.string-index c.args.strings.now ≡ [] =
    drop_all c.loop-string.string-index c.args.strings.now (omega (arith, c.loop-string-test.false)) in
    record {
      rows = ap (λ (l : List ℕ). record (map_in old) { strings = without_rows l (rows_in old.strings) }) (sym none) ∙ was.whole;
      stars = was.can.are;
      keeps = was.keeps;
    }

use Rattle.std.proofs.Common.{◌≡◌, ◌∷◌, [], ◌++◌, List, length, refl, sym, ap, subst, ◌∙◌, append_assoc, append-nil, arith}
use Rattle.std.specs.Vec.Iter.{into_iter_items}
use Rattle.cad_rows.specs.declared.rows.StringRow.{StringRow}
use Rattle.cad_map.specs.declared.map_rows.MapRows.{MapRows}
use Rattle.cad_map.specs.MapRows.{map_in}
use Rattle.numbered_rows.specs.Rows.{rows_in}
use Rattle.map_parts.specs.StringRows.{CanPutStrings}
use Rattle.map_parts.proofs.StringRowsPut.{keeps-none, keeps-then}
use Rattle.map_parts.proofs.StringRowsPut as put
use Rattle.map_parts.proofs.Handed.{nothing-left}
use Rattle.map_parts.proofs.edits.string_rows.put_strings.Goals as goal

pub loop-string-init : goal.loop-string-init
loop-string-init c =
    let gives = c.into_iter-string-iterator.ensures.into_iter_gives in
    record {
      can = subst (λ (l : List StringRow). CanPutStrings l c.args.rows.now c.args.stars.now) (sym gives.0) c.requires;
      whole = refl;
      stars = λ h. h;
      keeps = keeps-none;
      len = gives.1 ∙ c.args.strings.ok.0 ∙ ap length (sym gives.0);
    }

pub put_spokes-requires : goal.put_spokes-requires
put_spokes-requires c =
    let s = c.in-Some.string in
    let rest = into_iter_items c.next.new.self in
    let can =
    subst (λ (l : List StringRow). CanPutStrings l c.loop-string.rows c.loop-string.stars) c.in-Some.ensures.steps.0
    c.loop-string.invariant.can in
    record {
      two = can.two.0;
      from = put.put-from s rest c.loop-string.rows c.loop-string.stars can;
      to = put.put-to s rest c.loop-string.rows c.loop-string.stars can;
    }

pub put_last-requires : goal.put_last-requires
put_last-requires c =
    let can =
    subst (λ (l : List StringRow). CanPutStrings l c.loop-string.rows c.loop-string.stars) c.in-Some.ensures.steps.0
    c.loop-string.invariant.can in
    record { slot = can.slots.0; absent = can.absent.0 }

pub loop-string-preserved : goal.loop-string-preserved
loop-string-preserved c =
    let s = c.in-Some.string in
    let rest = into_iter_items c.next.new.self in
    let was = c.loop-string.invariant in
    let old : MapRows = c.loop-string.rows in
    let new : MapRows = record old { strings = c.put_last.new.self } in
    let wide = c.put_spokes.new.stars in
    let steps : into_iter_items c.loop-string.string-iterator ≡ s ∷ rest = c.in-Some.ensures.steps.0 in
    let can = subst (λ (l : List StringRow). CanPutStrings l old c.loop-string.stars) steps was.can in
    let more : rows_in new.strings ≡ rows_in old.strings ++ s ∷ [] = c.put_last.ensures.rows in
    record {
      can = put.can-rest s rest old c.loop-string.stars can new wide more c.put_last.ensures.slots c.put_spokes.ensures.adds
          c.put_spokes.ensures.capacity;
      whole =
          ap (λ (l : List StringRow). record (map_in old) { strings = l })
          (ap (λ (l : List StringRow). l ++ rest) more ∙ append_assoc (rows_in old.strings) (s ∷ []) rest
          ∙ ap (λ (l : List StringRow). rows_in old.strings ++ l) (sym steps)) ∙ was.whole;
      stars = λ before. put.put-stars s rest old c.loop-string.stars can new wide more c.put_spokes.ensures.adds (was.stars before);
      keeps = keeps-then was.keeps (record { strings = c.put_last.ensures.slots; parcels = λ n h. h; capacity = c.put_spokes.ensures.capacity });
      len =
          let len = was.len in
          let gone = c.in-Some.ensures.steps.1 in
          let short = ap length steps in
          omega arith;
    }

pub returns : goal.returns
returns c =
    let was = c.loop-string.invariant in
    let old : MapRows = c.loop-string.rows in
    let len = was.len in
    let none = c.in-None.ensures.steps in
    let none_left = none.0 in
    let empty : into_iter_items c.loop-string.string-iterator ≡ [] = nothing-left _ (omega (arith, len, none_left)) in
    record {
      rows =
          ap (λ (l : List StringRow). record (map_in old) { strings = l })
          (sym (append-nil (rows_in old.strings)) ∙ ap (λ (l : List StringRow). rows_in old.strings ++ l) (sym empty)) ∙ was.whole
          ∙ ap (λ (l : List StringRow). record (map_in c.args.rows.now) { strings = rows_in c.args.rows.now.strings ++ l })
          c.into_iter-string-iterator.ensures.into_iter_gives.0;
      stars = was.stars;
      keeps = was.keeps;
    }

use Rattle.std.proofs.Common.{◌≡◌, [], ◌∷◌, ◌++◌, List, refl, ap, subst, ◌∙◌, arith, insert}
use Rattle.cad_rows.specs.declared.rows.StringRow.{StringRow}
use Rattle.cad_map.specs.Map.{Map}
use Rattle.map_parts.specs.declared.edits.placed_strings.PlacedString.{PlacedString}
use Rattle.cad_map.specs.declared.map_rows.MapRows.{MapRows}
use Rattle.map_parts.specs.PlacedStrings.{CanPutPlaced, numbers_placed, StoodIn}
use Rattle.cad_map.specs.MapRows.{map_in}
use Rattle.numbered_rows.specs.Rows.{rows_in}
use Rattle.map_parts.specs.StringRows.{without_rows}
use Rattle.map_parts.proofs.StringRowsPut.{keeps-none, keeps-then}
use Rattle.map_parts.proofs.Handed.{nothing-left}
use Rattle.map_parts.proofs.StringsPlaced as placed
use Rattle.map_parts.proofs.edits.placed_strings.put_placed.Goals.{After-take_last-last}
use Rattle.map_parts.proofs.edits.placed_strings.put_placed.Goals as goal

pub loop-step-init : goal.loop-step-init
loop-step-init c = record {
  can = c.requires;
  back = λ b differ stood left. (stood, left);
  beside = refl;
  stars = λ h. h;
  keeps = keeps-none;
  left = let len = c.len-count.ensures in omega (arith, len);
}

pub take_last-last-requires : goal.take_last-last-requires
take_last-last-requires c =
    let left = c.loop-step.invariant.left in
    let test = c.loop-step-test.true in
    omega (arith, left, test)

can : (c : goal.After-take_last-last) → CanPutPlaced (c.take_last-last.new.self.items ++ c.take_last-last.result ∷ []) c.loop-step.rows c.loop-step.stars
can c = subst (λ (l : List PlacedString). CanPutPlaced l c.loop-step.rows c.loop-step.stars) c.take_last-last.ensures.items c.loop-step.invariant.can

pub put_spokes-requires : goal.put_spokes-requires
put_spokes-requires c =
    let g : PlacedString = c.take_last-last.result in
    let gone = c.take_last-last.new.self.items in
    let can = can (goal.at.put_spokes-requires c).After-take_last-last in
    record {
      two = placed.put-two gone g c.loop-step.rows c.loop-step.stars can;
      from = placed.put-from gone g c.loop-step.rows c.loop-step.stars can;
      to = placed.put-to gone g c.loop-step.rows c.loop-step.stars can;
    }

pub put_at-requires : goal.put_at-requires
put_at-requires c =
    let gone = c.take_last-last.new.self.items in
    let g : PlacedString = c.take_last-last.result in
    let can = can (goal.at.put_at-requires c).After-take_last-last in
    record {
      slot = placed.put-slot gone g c.loop-step.rows c.loop-step.stars can;
      absent = placed.last-absent gone g can.before (rows_in c.loop-step.rows.strings) can.differ can.stood can.left;
      place = placed.last-place gone g can.before (rows_in c.loop-step.rows.strings) can.differ can.stood can.left;
    }

pub loop-step-preserved : goal.loop-step-preserved
loop-step-preserved c =
    let was = c.loop-step.invariant in
    let old : MapRows = c.loop-step.rows in
    let new : MapRows = record old { strings = c.put_at.new.self } in
    let wide = c.put_spokes.new.stars in
    let g : PlacedString = c.take_last-last.result in
    let gone = c.take_last-last.new.self.items in
    let items = c.take_last-last.ensures.items in
    let can = can (goal.at.loop-step-preserved c).After-take_last-last in
    let is : rows_in new.strings ≡ insert (rows_in old.strings) g.place g.row = c.put_at.ensures.rows in
    record {
      can = placed.put-rest gone g old c.loop-step.stars can new wide is c.put_at.ensures.slots c.put_spokes.ensures.adds c.put_spokes.ensures.capacity;
      back = λ b differ stood left.
          let now = was.back b differ stood left in
          let stood_now = subst (λ (l : List PlacedString). StoodIn b l) items now.0 in
          let left_now = now.1 ∙ ap (λ (l : List PlacedString). without_rows (numbers_placed l) b) items in (
            placed.others-stood gone g b (rows_in old.strings) differ stood_now left_now,
            is ∙ placed.last-back gone g b (rows_in old.strings) differ stood_now left_now,
          );
      beside = ap (λ (m : Map). record m { strings = rows_in new.strings }) was.beside;
      stars = λ before. placed.put-stars gone g old c.loop-step.stars can new wide is c.put_spokes.ensures.adds (was.stars before);
      keeps = keeps-then was.keeps (record { strings = c.put_at.ensures.slots; parcels = λ n h. h; capacity = c.put_spokes.ensures.capacity });
      left =
          let left = was.left in
          let len = c.take_last-last.ensures.len in
          omega (arith, left, len);
    }

pub returns : goal.returns
returns c =
    let was = c.loop-step.invariant in
    let left = was.left in
    let all = c.loop-step-test.false in
    let len = c.loop-step.gone.ok.0 in
    let none : c.loop-step.gone.items ≡ [] = nothing-left _ (omega (arith, left, all, len)) in
    record {
      rows = λ b differ stood left.
          let now = was.back b differ stood left in
          was.beside
          ∙ ap (λ (l : List StringRow). record (map_in c.args.rows.now) { strings = l })
          (now.1 ∙ ap (λ (l : List PlacedString). without_rows (numbers_placed l) b) none);
      stars = was.stars;
      keeps = was.keeps;
    }

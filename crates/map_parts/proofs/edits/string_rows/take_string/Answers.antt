use Rattle.std.proofs.Common.{◌≡◌, [], ℕ, List, Some, sym, ap, subst, ◌∙◌}
use Rattle.std.specs.Prelude.{IsSome}
use Rattle.cad_rows.specs.declared.rows.StringRow.{StringRow}
use Rattle.cad_map.specs.Map.{string_of}
use Rattle.numbered_rows.specs.Rows.{without_row}
use Rattle.cad_map.specs.declared.map_rows.MapRows.{MapRows}
use Rattle.cad_map.specs.MapRows.{map_in}
use Rattle.numbered_rows.specs.Rows.{rows_in}
use Rattle.map_parts.proofs.StringRowsPut as put
use Rattle.map_parts.proofs.edits.string_rows.take_string.Goals.{After-take_there-taken}
use Rattle.map_parts.proofs.edits.string_rows.take_string.Goals as goal

found : (c : goal.After-take_there-taken) → string_of (map_in c.args.rows.now) c.args.string ≡ Some c.take_there-taken.result.1
found c =
    subst (λ (n : ℕ). string_of (map_in c.args.rows.now) n ≡ Some c.take_there-taken.result.1) c.get.ensures.value c.take_there-taken.ensures.found

left : (c : goal.After-take_there-taken) → rows_in c.take_there-taken.new.self ≡ without_row (λ (r : StringRow). r.number) c.args.string (rows_in c.args.rows.now.strings)
left c =
    c.take_there-taken.ensures.rows ∙ ap (λ (n : ℕ). without_row (λ (r : StringRow). r.number) n (rows_in c.args.rows.now.strings)) c.get.ensures.value

pub take_there-taken-requires : goal.take_there-taken-requires
take_there-taken-requires c = subst (λ (n : ℕ). IsSome (string_of (map_in c.args.rows.now) n)) (sym c.get.ensures.value) c.requires.there.0

pub take_spokes-requires : goal.take_spokes-requires
take_spokes-requires c =
    let row : StringRow = c.take_there-taken.result.1 in
    let found_is = found (goal.at.take_spokes-requires c).After-take_there-taken in
    record {
      two = put.take-two c.args.string [] c.args.rows.now c.args.stars.now c.requires row found_is;
      from = put.take-from c.args.string [] c.args.rows.now c.args.stars.now c.requires row found_is;
      to = put.take-to c.args.string [] c.args.rows.now c.args.stars.now c.requires row found_is;
    }

pub returns : goal.returns
returns c =
    let at = (goal.at.returns c).After-take_there-taken in
    let old : MapRows = c.args.rows.now in
    let left_is = left at in
    record {
      row = c.take_there-taken.ensures.row;
      number = c.take_there-taken.ensures.number ∙ c.get.ensures.value;
      rows = ap (λ (l : List StringRow). record (map_in old) { strings = l }) left_is;
      others = λ others can.
          put.take-rest c.args.string others old c.args.stars.now can c.take_there-taken.result.1 (found at)
          (record old { strings = c.take_there-taken.new.self }) c.take_spokes.new.stars left_is c.take_spokes.ensures.takes;
      takes = c.take_spokes.ensures.takes;
      room_from = c.take_spokes.ensures.room_from;
      room_to = c.take_spokes.ensures.room_to;
      slot = c.take_there-taken.ensures.slot;
      keeps = record { strings = c.take_there-taken.ensures.slots; parcels = λ n h. h; capacity = c.take_spokes.ensures.capacity };
    }

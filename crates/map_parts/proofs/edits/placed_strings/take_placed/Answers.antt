use Rattle.std.proofs.Common.{◌≡◌, ◌∷◌, [], ◌++◌, ℕ, ◌+◌, List, drop, Some, refl, sym, ap, subst, ◌∙◌, append-nil, length, map, slice_get, arith}
use Rattle.std.specs.List.{AllByRecursion}
use Rattle.std.proofs.lemmas.List.{drop_all}
use Rattle.cad_rows.specs.declared.rows.StringRow.{StringRow}
use Rattle.cad_map.specs.Map.{Map}
use Rattle.numbered_rows.specs.Rows.{without_row}
use Rattle.cad_map.proofs.CallerLemmas.{All-follows, All-push}
use Rattle.entry_list.specs.Slots.{HasSlot}
use Rattle.map_parts.specs.declared.edits.placed_strings.PlacedString.{PlacedString}
use Rattle.cad_map.specs.declared.map_rows.MapRows.{MapRows}
use Rattle.map_parts.specs.PlacedStrings.{numbers_placed, StoodIn}
use Rattle.cad_map.specs.MapRows.{map_in}
use Rattle.numbered_rows.specs.Rows.{rows_in}
use Rattle.map_parts.specs.StringRows.{CanTakeStrings, HasRoomFor, without_rows}
use Rattle.map_parts.proofs.StringRowsPut.{keeps-none, keeps-then, take-one, next-of}
use Rattle.map_parts.proofs.StringsPlaced.{without-last_of, stood-more, numbers-more, room-placed}
use Rattle.map_parts.proofs.edits.placed_strings.take_placed.Goals.{After-string-item}
use Rattle.map_parts.proofs.edits.placed_strings.take_placed.Goals as goal

pub loop-string-init : goal.loop-string-init
loop-string-init c =
    let none = c.requires.none in
    record {
      can = c.requires.can;
      rows_are = ap (λ (l : List PlacedString). without_rows (numbers_placed l) (rows_in c.args.rows.now.strings)) (sym none);
      beside = refl;
      keeps = keeps-none;
      star_room = subst (λ (l : List PlacedString). HasRoomFor (map (λ (q : PlacedString). q.row) l) c.args.stars.now) (sym none) (λ p some. absurd (omega (arith, some)));
      numbers = ap (λ (l : List PlacedString). numbers_placed l ++ c.args.strings.now) none;
      stood = subst (λ (l : List PlacedString). StoodIn (rows_in c.args.rows.now.strings) l) (sym none) tt;
      kept = subst (AllByRecursion (λ (q : PlacedString). HasSlot c.args.rows.now.strings q.row.number)) (sym none) tt;
      room = c.requires.room;
    }

next : (c : goal.After-string-item) → drop c.loop-string.string-index c.args.strings.now ≡ c.string-item.result ∷ drop (c.loop-string.string-index + 1) c.args.strings.now
next c = next-of c.args.strings.now c.loop-string.string-index c.string-item.result c.loop-string-test.true c.string-item.is

pub take_string-place-requires : goal.take_string-place-requires
take_string-place-requires c =
    take-one c.string-item.result _ c.loop-string.rows c.loop-string.stars
    (subst (λ (l : List ℕ). CanTakeStrings l c.loop-string.rows c.loop-string.stars) (next (goal.at.take_string-place-requires c).After-string-item) c.loop-string.invariant.can)

pub push_reserved-requires : goal.push_reserved-requires
push_reserved-requires c =
    let room = c.loop-string.invariant.room in
    let long = ap length (next (goal.at.push_reserved-requires c).After-string-item) in
    omega (arith, room, long)

pub loop-string-preserved : goal.loop-string-preserved
loop-string-preserved c =
    let n : ℕ = c.string-item.result in
    let tail = drop (c.loop-string.string-index + 1) c.args.strings.now in
    let item = next (goal.at.loop-string-preserved c).After-string-item in
    let was = c.loop-string.invariant in
    let old : MapRows = c.loop-string.rows in
    let new : MapRows = c.take_string-place.new.rows in
    let first : List StringRow = rows_in c.args.rows.now.strings in
    let made = c.take_string-place.ensures in
    let g : PlacedString = record { row = c.take_string-place.result.1; place = c.take_string-place.result.0 } in
    let gone = c.loop-string.gone.items in
    let pushed = c.push_reserved.ensures.items in
    record {
      can = made.others tail (subst (λ (l : List ℕ). CanTakeStrings l old c.loop-string.stars) item was.can);
      rows_are =
          ap (λ (m : Map). m.strings) made.rows ∙ ap (without_row (λ (r : StringRow). r.number) n) was.rows_are
          ∙ sym (without-last_of gone n g first made.number)
          ∙ ap (λ (l : List PlacedString). without_rows (numbers_placed l) first) (sym pushed);
      beside = made.rows ∙ ap (λ (m : Map). record m { strings = without_row (λ (r : StringRow). r.number) n (rows_in old.strings) }) was.beside
          ∙ ap (λ (l : List StringRow). record (map_in c.args.rows.now) { strings = l }) (sym (ap (λ (m : Map). m.strings) made.rows));
      keeps = keeps-then was.keeps made.keeps;
      star_room =
          subst (λ (l : List PlacedString). HasRoomFor (map (λ (q : PlacedString). q.row) l) c.take_string-place.new.stars) (sym pushed)
          (room-placed gone g c.loop-string.stars c.take_string-place.new.stars made.takes made.keeps.capacity made.room_from made.room_to was.star_room);
      numbers =
          ap (λ (l : List PlacedString). numbers_placed l ++ tail) pushed ∙ numbers-more gone g tail
          ∙ ap (λ (k : ℕ). numbers_placed gone ++ k ∷ tail) made.number
          ∙ ap (λ (l : List ℕ). numbers_placed gone ++ l) (sym item) ∙ was.numbers;
      stood =
          subst (λ (l : List PlacedString). StoodIn first l) (sym pushed)
          (stood-more first gone g was.stood (subst (λ (l : List StringRow). slice_get l g.place ≡ Some g.row) was.rows_are made.row));
      kept =
          subst (AllByRecursion (λ (q : PlacedString). HasSlot new.strings q.row.number)) (sym pushed)
          (All-push (λ (q : PlacedString). HasSlot new.strings q.row.number) gone g
          (All-follows (λ (q : PlacedString). HasSlot old.strings q.row.number) (λ (q : PlacedString). HasSlot new.strings q.row.number)
          (λ q h. made.keeps.strings q.row.number h) gone was.kept) made.slot);
      room =
          let room = was.room in
          let long = ap length item in
          let len = c.push_reserved.ensures.len in
          let cap = c.push_reserved.ensures.capacity in
          omega (arith, room, long, len, cap);
    }

pub returns : goal.returns
returns c =
    let was = c.loop-string.invariant in
    let none : drop c.loop-string.string-index c.args.strings.now ≡ [] =
    drop_all c.loop-string.string-index c.args.strings.now (omega (arith, c.loop-string-test.false)) in
    let all : numbers_placed c.loop-string.gone.items ≡ c.args.strings.now =
    sym (append-nil (numbers_placed c.loop-string.gone.items))
    ∙ ap (λ (l : List ℕ). numbers_placed c.loop-string.gone.items ++ l) (sym none) ∙ was.numbers in
    record {
      rows =
          was.beside
          ∙ ap (λ (l : List StringRow). record (map_in c.args.rows.now) { strings = l })
          (was.rows_are ∙ ap (λ (l : List ℕ). without_rows l (rows_in c.args.rows.now.strings)) all);
      stars = was.can.are;
      keeps = was.keeps;
      room = was.star_room;
      numbers = all;
      stood = was.stood;
      kept = was.kept;
    }

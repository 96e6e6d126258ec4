use Rattle.std.proofs.Common.{◌≡◌, ◌∷◌, [], ◌++◌, ◌+◌, List, take, refl, sym, ap, subst, ◌∙◌}
use Rattle.std.specs.List.{AllByRecursion}
use Rattle.std.proofs.lemmas.List.{take_more}
use Rattle.cad_rows.specs.declared.rows.StringRow.{StringRow}
use Rattle.cad_map.proofs.CallerLemmas.{All-follows, All-push}
use Rattle.entry_list.specs.Slots.{HasSlot}
use Rattle.cad_map.specs.declared.map_rows.MapRows.{MapRows}
use Rattle.cad_map.specs.MapRows.{map_in}
use Rattle.map_parts.proofs.edits.parcel_rooms.keep_slots.Goals as goal

pub loop-string-init : goal.loop-string-init
loop-string-init c = record { rows = refl; strings = λ n h. h; parcels = λ n h. h; slots = tt }

pub loop-string-preserved : goal.loop-string-preserved
loop-string-preserved c =
    let i = c.loop-string.string-index in
    let s : StringRow = c.string-item.result in
    let was = c.loop-string.invariant in
    let old : MapRows = c.loop-string.rows in
    let next : take (i + 1) c.args.strings.now ≡ take i c.args.strings.now ++ s ∷ [] =
    take_more c.args.strings.now i s c.loop-string-test.true ∙ ap (λ (r : StringRow). take i c.args.strings.now ++ r ∷ []) (sym c.string-item.is) in
    let has = λ (t : StringRow). HasSlot c.keep_slot.new.self t.number in
    record {
      rows = ap (λ (l : List StringRow). record (map_in old) { strings = l }) c.keep_slot.ensures.rows ∙ was.rows;
      strings = λ n h. c.keep_slot.ensures.slots n (was.strings n h);
      parcels = was.parcels;
      slots = subst (AllByRecursion has) (sym next)
          (All-push has (take i c.args.strings.now) s
          (All-follows (λ (t : StringRow). HasSlot old.strings t.number) has (λ t h. c.keep_slot.ensures.slots t.number h) (take i c.args.strings.now) was.slots)
          (subst (HasSlot c.keep_slot.new.self) c.get.ensures.value c.in_ok-keep_slot.ensures.ok));
    }

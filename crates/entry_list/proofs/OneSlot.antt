-- What a change of one slot makes of the rows and their numbers.
use Rattle.std.proofs.Common.{◌≡◌, ℕ, length, set, remove, slice_get, Option, None, Some, nat_eq, sym, ◌∙◌}
use Rattle.std.proofs.lemmas.List.{length-set}
use Rattle.std.specs.List.{IsDistinct}
use Rattle.std.specs.Map.{keys_of, values_of}
use Rattle.std.proofs.lemmas.Map.Entries.{lookup_from_place}
use Rattle.std.proofs.lemmas.Cmp.{nat_eq_equiv}
use Rattle.indexmap.specs.Layout.{set_value_at}
use Rattle.entry_list.specs.Slots.{Slots, rows_of, row_at, marks_of, rows_before, HasSlot, KeepsSlots, IsRowSlot, StandsAt, PutsIn, ReplacesRow, without_number, with_number}
use Rattle.entry_list.proofs.Lists.{insert-back}
use Rattle.entry_list.proofs.Rows.{place-row, take-row, replace-marks, replace-row}
use Rattle.entry_list.proofs.Found.{gone, keys-set, read-slot, set-at, slot-full, slots-set, slot-of-row}
use Rattle.entry_list.proofs.Numbers.{rows-distinct, with-at, with-back, without-at}

module _ {V : Type 0} where
  -- the row of the number is taken out of its slot
  pub record Takes (old new : Slots V) (n place : ℕ) (row : V) : Type 0 where
    pub stands : StandsAt old place n row
    pub rows : rows_of new ≡ remove (rows_of old) place
    pub without : rows_of new ≡ without_number n (rows_of old)
    pub back : PutsIn new old place n row
    pub gone : row_at n new ≡ None
    pub slots : KeepsSlots old new
    pub slot : HasSlot new n

  pub takes : (n i p : ℕ) (es : Slots V) (o : Option V) (v : V) → IsRowSlot es i n
      → Some o ≡ slice_get (values_of es) i → o ≡ Some v → p ≡ rows_before i es
      → IsDistinct nat_eq (keys_of es) → Takes es (set_value_at es i None) n p v
  takes n i p es o v r h e t d =
      let s : slice_get es i ≡ Some (n, Some v) = read-slot n i es o v r h e in
      let q : StandsAt es p n v = rw t (place-row i es n v s) in
      let m : rows_of (set_value_at es i None) ≡ remove (rows_of es) p =
      rw t (take-row i es n v s) in
      record {
        stands = q;
        rows = m;
        without = m ∙ sym (without-at n p (rows_of es) v q (rows-distinct es d));
        back = rw m (sym (insert-back p (rows_of es) (n, v) q));
        gone = gone n i es r d;
        slots = λ k l. slots-set i es None k l;
        slot = slots-set i es None n (slot-of-row n i es r);
      }

  -- the row of the number gives way to another in its slot
  pub record Replaces (old new : Slots V) (n : ℕ) (before row : V) : Type 0 where
    pub marks : marks_of new ≡ marks_of old
    pub long : length (rows_of new) ≡ length (rows_of old)
    pub stood : row_at n old ≡ Some before
    pub stands : row_at n new ≡ Some row
    pub with : rows_of new ≡ with_number n row (rows_of old)
    pub rows : ReplacesRow (rows_of old) (rows_of new) n before row
    pub back : with_number n before (rows_of new) ≡ rows_of old
    pub slots : KeepsSlots old new

  pub replaces : (n i : ℕ) (es : Slots V) (o : Option V) (v w : V) → IsRowSlot es i n
      → Some o ≡ slice_get (values_of es) i → o ≡ Some v → IsDistinct nat_eq (keys_of es)
      → Replaces es (set_value_at es i (Some w)) n v w
  replaces n i es o v w r h e d =
      let new : Slots V = set_value_at es i (Some w) in
      let p = rows_before i es in
      let s : slice_get es i ≡ Some (n, Some v) = read-slot n i es o v r h e in
      let f : IsDistinct nat_eq (keys_of new) = rw (keys-set i es (Some w)) d in
      let q : StandsAt es p n v = place-row i es n v s in
      let m : rows_of new ≡ set (rows_of es) p (n, w) = replace-row i es n v w s in
      let l = rows-distinct es d in
      record {
        marks = replace-marks i es n v w s;
        long = rw m (length-set (rows_of es) p (n, w));
        stood = slot-full n es v (lookup_from_place nat_eq_equiv es i n (Some v) d s);
        stands = slot-full n new w
            (lookup_from_place nat_eq_equiv new i n (Some w) f (set-at i es n (Some v) (Some w) s));
        with = m ∙ sym (with-at n p (rows_of es) v w q l);
        rows = (p, q, m);
        back = rw m (with-back n p (rows_of es) v w q l);
        slots = λ k u. slots-set i es (Some w) k u;
      }

-- The rows and marks of slots, and what a change of one slot makes of them.
use Rattle.std.proofs.Common.{◌≡◌, ℕ, zero, suc, ◌+◌, ◌<◌, ◌≤◌, List, [], ◌∷◌, ◌++◌, length, get_or, set, insert, remove, slice_get, Option, None, Some, true, refl, sym, ap, arith, ◌∙◌, is_some}
use Rattle.std.specs.Map.{keys_of, values_of}
use Rattle.std.proofs.Math.Nat.{zero-add}
use Rattle.std.proofs.lemmas.Option.{slice_get_within}
use Rattle.std.proofs.lemmas.List.{length-append}
use Rattle.std.proofs.lemmas.List.Edits.{length-remove}
use Rattle.std.proofs.Math.Seq.{set-append_seam}
use Rattle.indexmap.specs.Layout.{set_value_at}
use Rattle.entry_list.specs.Totals.{total_before, AreMarks}
use Rattle.entry_list.specs.Slots.{Slots, row_of, rows_of, marks_of, mark_of, IsRowSlot}
use Rattle.entry_list.proofs.Totals.{total-le-ones, total-more, total-small}
use Rattle.entry_list.proofs.Lists.{entry-keys, entry-values, slice_get-seam, remove-seam, insert-seam, slice_get-keys, slice_get-values, some-pair}

module _ {V : Type 0} where
  -- the rows before and behind a slot, which stay where the slot gets another row, or none
  record AreAround (es : Slots V) (i k : ℕ) (o : Option V)
      (before after : List (ℕ × V)) : Type 0 where
    pub count : total_before i (marks_of es) ≡ length before
    pub rows : rows_of es ≡ before ++ (row_of k o ++ after)
    pub changed : (p : Option V) → rows_of (set_value_at es i p) ≡ before ++ (row_of k p ++ after)

  around : (i : ℕ) (es : Slots V) (k : ℕ) (o : Option V) → slice_get es i ≡ Some (k, o)
      → (r : List (ℕ × V) × List (ℕ × V)) × AreAround es i k o r.0 r.1
  unfolding total_before
  around i [] k o h = absurd (cc)
  around zero ((j, q) ∷ es) k o h =
      let a : j ≡ k = entry-keys j k q o h in
      let b : q ≡ o = entry-values j k q o h in
      (([], rows_of es), rw (a, b) (record { count = refl; rows = refl; changed = λ p. refl }))
  around (suc i) ((j, None) ∷ es) k o h =
      let a = around i es k o h in
      (a.0, record { count = rw zero-add a.1.count; rows = a.1.rows; changed = a.1.changed })
  around (suc i) ((j, Some w) ∷ es) k o h =
      let a = around i es k o h in
      let more : List (ℕ × V) → List (ℕ × V) = λ xs. (j, w) ∷ xs in (
        (more a.0.0, a.0.1),
        record {
          count = omega (arith, a.1.count);
          rows = ap more a.1.rows;
          changed = λ p. ap more (a.1.changed p);
        },
      )

  -- a row stands behind as many rows as there are marks before its slot
  pub place-row : (i : ℕ) (es : Slots V) (k : ℕ) (v : V) → slice_get es i ≡ Some (k, Some v)
      → slice_get (rows_of es) (total_before i (marks_of es)) ≡ Some (k, v)
  place-row i es k v h =
      let a = around i es k (Some v) h in
      rw (a.1.count, a.1.rows) (slice_get-seam a.0.0 (k, v) a.0.1)

  -- emptying a slot removes its row
  pub take-row : (i : ℕ) (es : Slots V) (k : ℕ) (v : V) → slice_get es i ≡ Some (k, Some v)
      → rows_of (set_value_at es i None) ≡ remove (rows_of es) (total_before i (marks_of es))
  take-row i es k v h =
      let a = around i es k (Some v) h in
      rw (a.1.count, a.1.rows, a.1.changed None) (sym (remove-seam a.0.0 (k, v) a.0.1))

  -- filling a slot inserts a row
  pub put-row : (i : ℕ) (es : Slots V) (k : ℕ) (v : V) → slice_get es i ≡ Some (k, None)
      → rows_of (set_value_at es i (Some v))
      ≡ insert (rows_of es) (total_before i (marks_of es)) (k, v)
  put-row i es k v h =
      let a = around i es k None h in
      rw (a.1.count, a.1.rows, a.1.changed (Some v)) (sym (insert-seam a.0.0 (k, v) a.0.1))

  pub marks-set : (i : ℕ) (es : Slots V) (o : Option V)
      → marks_of (set_value_at es i o) ≡ set (marks_of es) i (mark_of o)
  marks-set i [] o = refl
  marks-set zero (e ∷ es) o = refl
  marks-set (suc i) (e ∷ es) o = ap (λ xs. mark_of e.1 ∷ xs) (marks-set i es o)

  pub length-marks : (es : Slots V) → length (marks_of es) ≡ length es
  length-marks [] = refl
  length-marks (e ∷ es) = ap suc (length-marks es)

  -- there are as many rows as marks
  pub length-rows : (es : Slots V) → length (rows_of es) ≡ total_before (length es) (marks_of es)
  unfolding total_before
  length-rows [] = refl
  length-rows ((j, None) ∷ es) = omega (arith, length-rows es)
  length-rows ((j, Some w) ∷ es) = omega (arith, length-rows es)

  pub mark-row : (i : ℕ) (es : Slots V) (k : ℕ) (o : Option V) → slice_get es i ≡ Some (k, o)
      → get_or (marks_of es) i 0 ≡ mark_of o
  mark-row i [] k o h = cc
  mark-row zero (e ∷ es) k o h =
      let g : e ≡ (k, o) = some-pair e (k, o) h in
      ap (λ (x : ℕ × Option V). mark_of x.1) g
  mark-row (suc i) (e ∷ es) k o h = mark-row i es k o h

  -- all rows stand before the last slot, but its own, if it has one
  pub before-last : (i : ℕ) (es : Slots V) (k : ℕ) (o : Option V) → slice_get es i ≡ Some (k, o)
      → i + 1 ≡ length es → total_before i (marks_of es) + mark_of o ≡ length (rows_of es)
  before-last i es k o h last =
      rw (← mark-row i es k o h, length-rows es, ← last) (sym (total-more i (marks_of es)))

  -- the row at the slot of a number stands at the count of the marks before it
  pub number-place : (n i : ℕ) (es : Slots V) → IsRowSlot es i n
      → slice_get (keys_of (rows_of es)) (total_before i (marks_of es)) ≡ Some n
  number-place n i es r =
      slice_get-keys (total_before i (marks_of es)) (rows_of es) n r.0 (place-row i es n r.0 r.1)

  marks-small : (es : Slots V) → AreMarks (marks_of es)
  marks-small [] k = omega arith
  marks-small ((j, None) ∷ es) zero = omega arith
  marks-small ((j, Some w) ∷ es) zero = omega arith
  marks-small (e ∷ es) (suc k) = marks-small es k

  -- where no slot is empty, each row stands at the place of its slot
  pub all-full : (es : Slots V) (place : ℕ) → length (rows_of es) ≡ length es → place < length es
      → (total_before place (marks_of es) ≡ place) × (get_or (marks_of es) place 0 ≡ 1)
  all-full es place full within =
      let marks = marks_of es in
      let ones : AreMarks marks = marks-small es in
      let few = total-le-ones (place + 1) (length es) marks ones (omega arith) in
      let one = total-more place marks in
      let small = total-small place marks ones in (
        omega (arith, full, within, length-rows es, few, one, small, ones place),
        omega (arith, full, within, length-rows es, few, one, small, ones place),
      )

  pub count-all : (es : Slots V) (live : List ℕ) → live ≡ marks_of es
      → length (rows_of es) ≡ total_before (length live) live
  count-all es live e = rw (e, length-marks es) (length-rows es)

  pub full-marked : (i : ℕ) (es : Slots V) (k : ℕ) (o : Option V) → get_or (marks_of es) i 0 ≡ 1
      → Some (k, o) ≡ slice_get es i → is_some o ≡ true
  full-marked i es k o m h = by o (sym (mark-row i es k o (sym h)) ∙ m)
    where
      by : (o : Option V) → mark_of o ≡ 1 → is_some o ≡ true
      by None e = absurd (omega arith)
      by (Some v) e = refl

  pub row-at : (p i : ℕ) (es : Slots V) (k : ℕ) (o : Option V) (v : V)
      → total_before i (marks_of es) ≡ p → Some (k, o) ≡ slice_get es i → Some v ≡ o
      → ◌≡◌ {A = Option (ℕ × V)} (Some (k, v)) (slice_get (rows_of es) p)
  row-at p i es k o v t h e = rw (← t) (sym (place-row i es k v (rw e (sym h))))

  -- what a row that is taken out was, from the value that was read at its slot
  pub taken-row : (n i p : ℕ) (es : Slots V) (o : Option V) (v : V) → IsRowSlot es i n
      → Some o ≡ slice_get (values_of es) i → o ≡ Some v → p ≡ total_before i (marks_of es)
      → ◌≡◌ {A = Option (ℕ × V)} (slice_get (rows_of es) p) (Some (n, v))
  taken-row n i p es o v r h e t =
      let a : Some o ≡ Some (Some r.0) = h ∙ slice_get-values i es n (Some r.0) r.1 in
      let b : Some r.0 ≡ Some v = cc in
      let d : r.0 ≡ v = cc in
      rw (t, ← d) (place-row i es n r.0 r.1)

  pub emptied-length : (n i : ℕ) (es : Slots V) → IsRowSlot es i n
      → length (rows_of (set_value_at es i None)) + 1 ≡ length (rows_of es)
  emptied-length n i es r =
      let t : ℕ = total_before i (marks_of es) in
      let lt : t < length (rows_of es)
      = slice_get_within (rows_of es) t (n, r.0) (place-row i es n r.0 r.1) in
      rw (take-row i es n r.0 r.1) (length-remove (rows_of es) t lt)

  pub marks-push : (es : Slots V) (n : ℕ) (o : Option V)
      → marks_of (es ++ (n, o) ∷ []) ≡ marks_of es ++ mark_of o ∷ []
  marks-push [] n o = refl
  marks-push (e ∷ es) n o = ap (λ xs. mark_of e.1 ∷ xs) (marks-push es n o)

  -- a slot behind all others adds its row, if it has one, behind all others
  pub rows-push : (es : Slots V) (n : ℕ) (o : Option V)
      → rows_of (es ++ (n, o) ∷ []) ≡ rows_of es ++ row_of n o
  rows-push [] n None = refl
  rows-push [] n (Some v) = refl
  rows-push ((k, None) ∷ es) n o = rows-push es n o
  rows-push ((k, Some w) ∷ es) n o = ap (λ xs. (k, w) ∷ xs) (rows-push es n o)

  -- and counts by its mark
  pub length-push : (es : Slots V) (n : ℕ) (o : Option V)
      → length (rows_of (es ++ (n, o) ∷ [])) ≡ length (rows_of es) + mark_of o
  length-push [] n None = refl
  length-push [] n (Some v) = refl
  length-push ((k, None) ∷ es) n o = length-push es n o
  length-push ((k, Some w) ∷ es) n o = omega (arith, length-push es n o)

  pub filled-length : (n i : ℕ) (es : Slots V) (v : V) → slice_get es i ≡ Some (n, None)
      → length (rows_of (set_value_at es i (Some v))) ≡ length (rows_of es) + 1
  filled-length n i es v h =
      let a = around i es n None h in
      rw (a.1.rows, a.1.changed (Some v))
      (omega (arith, length-append a.0.0 ((n, v) ∷ a.0.1), length-append a.0.0 a.0.1))

  length-rows-le : (es : Slots V) → length (rows_of es) ≤ length es
  length-rows-le [] = omega arith
  length-rows-le ((k, None) ∷ es) = omega (arith, length-rows-le es)
  length-rows-le ((k, Some v) ∷ es) = omega (arith, length-rows-le es)

  pub rows-le : (es : Slots V) → length (rows_of es) ≤ length es
  rows-le = length-rows-le

  -- another row in a slot is another row at its place
  pub replace-row : (i : ℕ) (es : Slots V) (k : ℕ) (v w : V) → slice_get es i ≡ Some (k, Some v)
      → rows_of (set_value_at es i (Some w))
      ≡ set (rows_of es) (total_before i (marks_of es)) (k, w)
  replace-row i es k v w h =
      let a = around i es k (Some v) h in
      rw (a.1.count, a.1.rows, a.1.changed (Some w))
      (sym (set-append_seam a.0.0 (k, v) a.0.1 (k, w)))

  pub replace-marks : (i : ℕ) (es : Slots V) (k : ℕ) (v w : V)
      → slice_get es i ≡ Some (k, Some v) → marks_of (set_value_at es i (Some w)) ≡ marks_of es
  replace-marks i [] k v w h = cc
  replace-marks zero ((j, None) ∷ es) k v w h =
      let e : None ≡ Some v = entry-values j k None (Some v) h in
      cc
  replace-marks zero ((j, Some u) ∷ es) k v w h = refl
  replace-marks (suc i) (e ∷ es) k v w h =
      ap (λ xs. mark_of e.1 ∷ xs) (replace-marks i es k v w h)

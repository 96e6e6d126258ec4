-- Empty slots that change their places.
use Rattle.std.proofs.Common.{◌≡◌, ℕ, zero, suc, ◌+◌, ◌<◌, ◌≤◌, [], ◌∷◌, ◌++◌, length, get_or, set, insert, remove, slice_get, Option, None, Some, refl, sym, ap, arith, add-one, ◌∙◌, swap}
use Rattle.std.proofs.lemmas.Option.{slice_get_within}
use Rattle.std.proofs.lemmas.List.Edits.{length-remove, length-insert, get_or-insert_below, get_or-insert_above, get_or-remove_below, get_or-remove_above}
use Rattle.std.proofs.Math.ListN.{get_or-map}
use Rattle.indexmap.specs.IndexMap.{move_index}
use Rattle.entry_list.specs.Totals.{total_before}
use Rattle.entry_list.specs.Slots.{Slots, row_of, rows_of, marks_of, mark_of}
use Rattle.entry_list.proofs.Lists.{entry-values, get-from}

module _ {V : Type 0} where
  pub unmarked-empty : (i : ℕ) (es : Slots V) → i < length es → get_or (marks_of es) i 0 ≡ 0
      → (k : ℕ) × (slice_get es i ≡ Some (k, None))
  unmarked-empty i [] l h = absurd (omega arith)
  unmarked-empty zero ((k, None) ∷ es) l h = (k, refl)
  unmarked-empty zero ((k, Some v) ∷ es) l h = absurd (omega arith)
  unmarked-empty (suc i) (e ∷ es) l h = unmarked-empty i es (omega arith) h

  pub empty-within : (i n : ℕ) (es : Slots V) → slice_get es i ≡ Some (n, None) → i < length es
  empty-within i n es h = slice_get_within es i (n, None) h

  -- an empty slot in the place of an empty slot changes no rows and no marks
  set-empty : (i : ℕ) (es : Slots V) (m k : ℕ) → slice_get es i ≡ Some (m, None)
      → (rows_of (set es i (k, None)) ≡ rows_of es) × (marks_of (set es i (k, None)) ≡ marks_of es)
  set-empty i [] m k h = absurd (cc)
  set-empty zero ((j, None) ∷ es) m k h = (refl, refl)
  set-empty zero ((j, Some w) ∷ es) m k h =
      let e : Some w ≡ None = entry-values j m (Some w) None h in
      absurd (cc)
  set-empty (suc i) ((j, o) ∷ es) m k h =
      let same = set-empty i es m k h in
      (ap (λ xs. row_of j o ++ xs) same.0, ap (λ xs. mark_of o ∷ xs) same.1)

  set-empty-stays : (i j : ℕ) (es : Slots V) (m k : ℕ) → slice_get es j ≡ Some (m, None)
      → (q : ℕ) × (slice_get (set es i (k, None)) j ≡ Some (q, None))
  set-empty-stays i j [] m k h = (m, h)
  set-empty-stays zero zero (e ∷ es) m k h = (k, refl)
  set-empty-stays zero (suc j) (e ∷ es) m k h = (m, h)
  set-empty-stays (suc i) zero (e ∷ es) m k h = (m, h)
  set-empty-stays (suc i) (suc j) (e ∷ es) m k h = set-empty-stays i j es m k h

  set-empty-at : (i : ℕ) (es : Slots V) (m k : ℕ) → slice_get es i ≡ Some (m, None)
      → slice_get (set es i (k, None)) i ≡ Some (k, None)
  set-empty-at i [] m k h = cc
  set-empty-at zero (e ∷ es) m k h = refl
  set-empty-at (suc i) (e ∷ es) m k h = set-empty-at i es m k h

  pub record KeepsRows (old new : Slots V) (i n : ℕ) : Type 0 where
    pub rows : rows_of new ≡ rows_of old
    pub marks : marks_of new ≡ marks_of old
    pub empty : slice_get new i ≡ Some (n, None)

  pub swap-empty : (a b n m : ℕ) (es : Slots V) → slice_get es a ≡ Some (n, None)
      → slice_get es b ≡ Some (m, None) → KeepsRows es (swap es a b) b n
  swap-empty a b n m [] h l = cc
  swap-empty a b n m (e ∷ es) h l =
      let p : get_or (e ∷ es) a e ≡ (n, None) = get-from a (e ∷ es) e (n, None) h in
      let q : get_or (e ∷ es) b e ≡ (m, None) = get-from b (e ∷ es) e (m, None) l in
      let s = set-empty-stays a b (e ∷ es) m m l in
      let first = set-empty a (e ∷ es) n m h in
      let second = set-empty b (set (e ∷ es) a (m, None)) s.0 n s.1 in
      record {
        rows = rw (p, q) (second.0 ∙ first.0);
        marks = rw (p, q) (second.1 ∙ first.1);
        empty = rw (p, q) (set-empty-at b (set (e ∷ es) a (m, None)) s.0 n s.1);
      }

  -- an empty slot that goes or comes changes no rows
  remove-empty-rows : (i : ℕ) (es : Slots V) (n : ℕ) → slice_get es i ≡ Some (n, None)
      → rows_of (remove es i) ≡ rows_of es
  remove-empty-rows i [] n h = cc
  remove-empty-rows zero ((j, None) ∷ es) n h = refl
  remove-empty-rows zero ((j, Some w) ∷ es) n h =
      let e : Some w ≡ None = entry-values j n (Some w) None h in
      cc
  remove-empty-rows (suc i) ((j, o) ∷ es) n h =
      ap (λ xs. row_of j o ++ xs) (remove-empty-rows i es n h)

  insert-empty-rows : (i : ℕ) (es : Slots V) (n : ℕ)
      → rows_of (insert es i (n, None)) ≡ rows_of es
  insert-empty-rows zero es n = refl
  insert-empty-rows (suc i) [] n = refl
  insert-empty-rows (suc i) ((j, o) ∷ es) n =
      ap (λ xs. row_of j o ++ xs) (insert-empty-rows i es n)

  insert-at : (i : ℕ) (es : Slots V) (e : ℕ × Option V) → i ≤ length es
      → slice_get (insert es i e) i ≡ Some e
  insert-at zero es e l = refl
  insert-at (suc i) [] e l = absurd (omega arith)
  insert-at (suc i) (x ∷ es) e l = insert-at i es e (omega arith)

  insert-before : (i : ℕ) (es : Slots V) (e : ℕ × Option V) → i ≤ length es
      → total_before i (marks_of (insert es i e)) ≡ total_before i (marks_of es)
  unfolding total_before
  insert-before zero es e l = refl
  insert-before (suc i) [] e l = absurd (omega arith)
  insert-before (suc i) (x ∷ es) e l =
      ap (λ n. mark_of x.1 + n) (insert-before i es e (omega arith))

  remove-before : (t i : ℕ) (es : Slots V) → t ≤ i
      → total_before t (marks_of (remove es i)) ≡ total_before t (marks_of es)
  unfolding total_before
  remove-before zero i es l = refl
  remove-before (suc t) zero [] l = absurd (omega arith)
  remove-before (suc t) (suc i) [] l = refl
  remove-before (suc t) zero (x ∷ es) l = absurd (omega arith)
  remove-before (suc t) (suc i) (x ∷ es) l =
      ap (λ n. mark_of x.1 + n) (remove-before t i es (omega arith))

  remove-after : (t i n : ℕ) (es : Slots V) → slice_get es i ≡ Some (n, None) → i ≤ t
      → total_before t (marks_of (remove es i)) ≡ total_before (suc t) (marks_of es)
  unfolding total_before
  remove-after t i n [] h l = cc
  remove-after t zero n ((j, None) ∷ es) h l = omega arith
  remove-after t zero n ((j, Some w) ∷ es) h l =
      let e : Some w ≡ None = entry-values j n (Some w) None h in
      cc
  remove-after zero (suc i) n (x ∷ es) h l = absurd (omega arith)
  remove-after (suc t) (suc i) n (x ∷ es) h l =
      ap (λ m. mark_of x.1 + m) (remove-after t i n es h (omega arith))

  -- marks before and behind both places stay where a slot goes from one to the other
  moved-before : (from to k : ℕ) (es : Slots V) (e d : ℕ × Option V) → from < length es
      → to < length es → k < from → k < to
      → get_or (insert (remove es from) to e) k d ≡ get_or es k d
  moved-before from to k es e d f t u w =
      let r : length (remove es from) + 1 ≡ length es = length-remove es from f in
      get_or-insert_below (remove es from) to e d k w (omega arith)
      ∙ get_or-remove_below es from d k u f

  moved-behind : (from to k : ℕ) (es : Slots V) (e d : ℕ × Option V) → from < length es
      → to < length es → from < k → to < k
      → get_or (insert (remove es from) to e) k d ≡ get_or es k d
  moved-behind from to zero es e d f t u w = absurd (omega arith)
  moved-behind from to (suc k) es e d f t u w =
      let r : length (remove es from) + 1 ≡ length es = length-remove es from f in
      let n : suc k ≡ k + 1 = omega arith in
      rw n
      (get_or-insert_above (remove es from) to e d k (omega arith) (omega arith)
      ∙ get_or-remove_above es from d k (omega arith) f)

  same-marks : (k : ℕ) (old new : Slots V) → get_or new k (0, None) ≡ get_or old k (0, None)
      → get_or (marks_of old) k 0 ≡ get_or (marks_of new) k 0
  same-marks k old new h =
      let none : ℕ × Option V = (0, None) in
      get_or-map (λ e. mark_of e.1) old k none
      ∙ (ap (λ e. mark_of e.1) (sym h) ∙ sym (get_or-map (λ e. mark_of e.1) new k none))

  -- an empty slot exchanged with an unmarked one
  pub swap-unmarked : (a b n : ℕ) (es : Slots V) → slice_get es a ≡ Some (n, None) → b < length es
      → get_or (marks_of es) b 0 ≡ 0 → KeepsRows es (swap es a b) b n
  swap-unmarked a b n es h w unmarked =
      let other = unmarked-empty b es w unmarked in
      swap-empty a b n other.0 es h other.1

  -- an empty slot that goes from one place to another
  pub record MovesEmpty (old new : Slots V) (from to n : ℕ) : Type 0 where
    pub rows : rows_of new ≡ rows_of old
    pub empty : slice_get new to ≡ Some (n, None)
    pub long : length new ≡ length old
    pub later : from ≤ to → total_before to (marks_of new) ≡ total_before (to + 1) (marks_of old)
    pub earlier : to ≤ from → total_before to (marks_of new) ≡ total_before to (marks_of old)
    pub before : (k : ℕ) → k < from → k < to
        → get_or (marks_of old) k 0 ≡ get_or (marks_of new) k 0
    pub behind : (k : ℕ) → from < k → to < k
        → get_or (marks_of old) k 0 ≡ get_or (marks_of new) k 0

  pub move-empty : (from to n : ℕ) (es : Slots V) → slice_get es from ≡ Some (n, None)
      → to < length es → MovesEmpty es (move_index es from to) from to n
  move-empty from to n es h l =
      let w : from < length es = empty-within from n es h in
      let r : length (remove es from) + 1 ≡ length es = length-remove es from w in
      let u : to ≤ length (remove es from) = omega arith in
      let e : ℕ × Option V = (n, None) in
      let d : ℕ × Option V = (0, None) in
      let m : Slots V = insert (remove es from) to e in
      record {
        rows = rw h (insert-empty-rows to (remove es from) n ∙ remove-empty-rows from es n h);
        empty = rw h (insert-at to (remove es from) (n, None) u);
        long = rw h (length-insert (remove es from) to (n, None) u ∙ r);
        later =
            λ x. rw h (insert-before to (remove es from) (n, None) u
            ∙ rw add-one (remove-after to from n es h x));
        earlier =
            λ x. rw h (insert-before to (remove es from) (n, None) u ∙ remove-before to from es x);
        before = λ k a b. rw h (same-marks k es m (moved-before from to k es e d w l a b));
        behind = λ k a b. rw h (same-marks k es m (moved-behind from to k es e d w l a b));
      }

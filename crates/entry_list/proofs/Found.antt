-- Slots found by their numbers.
use Rattle.std.proofs.Common.{◌≡◌, ℕ, zero, suc, [], ◌∷◌, length, arith, slice_get, Option, None, Some, Bool, true, false, cond, nat_eq, refl, sym, ap, ◌∙◌, IsSome, is_some, true≢false, position}
use Rattle.std.proofs.lemmas.Bool.{eqb-true, eq-eqb}
use Rattle.std.specs.List.{IsDistinct, AllByRecursion}
use Rattle.std.specs.Map.{lookup, keys_of, values_of}
use Rattle.std.proofs.lemmas.Map.Entries.{lookup_from_place}
use Rattle.std.proofs.lemmas.Cmp.{nat_eq_equiv}
use Rattle.std.proofs.lemmas.Map.Made.{lookup_key_passes}
use Rattle.indexmap.proofs.MapLemmas.{Found-position}
use Rattle.indexmap.specs.Layout.{set_value_at}
use Rattle.number_table.specs.Rows.{HasNumberAt}
use Rattle.number_table.proofs.Found.{same-number}
use Rattle.entry_list.specs.Slots.{Slots, rows_of, row_at, HasSlot, IsRowSlot}
use Rattle.entry_list.proofs.Rows.{rows-le}
use Rattle.entry_list.proofs.Lists.{entry-keys, slice_get-keys, slice_get-values}

module _ {V : Type 0} where
  skips : (b : Bool) (y : Option (Option V)) → cond b (Some None) y ≡ None → y ≡ None
  skips true y h =
      let z : Option (Option V) = None in
      let o : Option V = None in absurd (not-none o h)
    where
      not-none : (o : Option V) → Some o ≡ None → ⊥
      not-none o h = cc
  skips false y h = h

  pub both : (b : Bool) (v : V) (y : Option (Option V)) (z : Option V)
      → cond b (Some (Some v)) y ≡ None → (y ≡ None → z ≡ None) → cond b (Some v) z ≡ None
  both true v y z h f = cc
  both false v y z h f = f h

  -- a number with no slot has no row
  pub no-slot : (n : ℕ) (es : Slots V) → lookup (nat_eq n) es ≡ None
      → lookup (nat_eq n) (rows_of es) ≡ None
  no-slot n [] h = refl
  no-slot n ((k, None) ∷ es) h = no-slot n es (skips (nat_eq n k) (lookup (nat_eq n) es) h)
  no-slot n ((k, Some v) ∷ es) h =
      both (nat_eq n k) v (lookup (nat_eq n) es) (lookup (nat_eq n) (rows_of es)) h (no-slot n es)

  -- where no slot is empty, a number without a row has no slot
  pub no-empty : (n : ℕ) (es : Slots V) → length (rows_of es) ≡ length es → lookup (nat_eq n) (rows_of es) ≡ None → HasSlot es n → ⊥
  no-empty n [] full none slot = cc
  no-empty n ((k, None) ∷ es) full none slot = absurd (omega (arith, full, rows-le es))
  no-empty n ((k, Some v) ∷ es) full none slot = by (nat_eq n k) refl none slot (λ later. no-empty n es (omega (arith, full)) later)
    where
      by : (b : Bool) → nat_eq n k ≡ b → cond b (Some v) (lookup (nat_eq n) (rows_of es)) ≡ None → IsSome (cond b (Some (Some v)) (lookup (nat_eq n) es))
          → (lookup (nat_eq n) (rows_of es) ≡ None → HasSlot es n → ⊥) → ⊥
      by true is gone there rest = cc
      by false is gone there rest = rest gone there

  -- the row of a number is what its slot has
  at-empty : (b : Bool) (o z : Option V) (y : Option (Option V)) → cond b (Some None) y ≡ Some o
      → (b ≡ true → z ≡ None) → (y ≡ Some o → z ≡ o) → z ≡ o
  at-empty true o z y h f g = let e : None ≡ o = some-inj None o h in f refl ∙ e
    where
      some-inj : (p q : Option V) → Some p ≡ Some q → p ≡ q
      some-inj p q h = cc
  at-empty false o z y h f g = g h

  at-full : (b : Bool) (v : V) (o z : Option V) (y : Option (Option V))
      → cond b (Some (Some v)) y ≡ Some o → (y ≡ Some o → z ≡ o) → cond b (Some v) z ≡ o
  at-full true v o z y h g = cc
  at-full false v o z y h g = g h

  none-by : (k : ℕ) (es : Slots V) → AllByRecursion (λ y. nat_eq k y ≡ false) (keys_of es)
      → lookup (nat_eq k) es ≡ None
  none-by k [] h = refl
  none-by k (e ∷ es) h = rw h.0 (none-by k es h.1)

  pub slot-row : (n : ℕ) (es : Slots V) (o : Option V) → lookup (nat_eq n) es ≡ Some o
      → IsDistinct nat_eq (keys_of es) → lookup (nat_eq n) (rows_of es) ≡ o
  unfolding IsDistinct
  slot-row n [] o h d = cc
  slot-row n ((k, None) ∷ es) o h d =
      at-empty (nat_eq n k) o (lookup (nat_eq n) (rows_of es)) (lookup (nat_eq n) es) h
      (λ t. let e : n ≡ k = eqb-true n k t in rw e (no-slot k es (none-by k es d.0)))
      (λ g. slot-row n es o g d.1)
  slot-row n ((k, Some v) ∷ es) o h d =
      at-full (nat_eq n k) v o (lookup (nat_eq n) (rows_of es)) (lookup (nat_eq n) es) h
      (λ g. slot-row n es o g d.1)

  -- a slot that is filled or emptied stays
  stays : (b : Bool) (o q : Option V) (y z : Option (Option V)) → (IsSome y → IsSome z)
      → IsSome (cond b (Some o) y) → IsSome (cond b (Some q) z)
  stays true o q y z f h = h
  stays false o q y z f h = f h

  pub slots-set : (i : ℕ) (es : Slots V) (o : Option V) (n : ℕ) → HasSlot es n
      → HasSlot (set_value_at es i o) n
  slots-set i [] o n h = h
  slots-set zero (e ∷ es) o n h =
      stays (nat_eq n e.0) e.1 o (lookup (nat_eq n) es) (lookup (nat_eq n) es) (λ x. x) h
  slots-set (suc i) (e ∷ es) o n h =
      stays (nat_eq n e.0) e.1 e.1 (lookup (nat_eq n) es)
      (lookup (nat_eq n) (set_value_at es i o)) (slots-set i es o n) h

  -- the slot at the position of a number has that number
  pub found-key : (n i : ℕ) (es : Slots V) (k : ℕ) (o : Option V)
      → Some i ≡ position (nat_eq n) (keys_of es) → Some (k, o) ≡ slice_get es i → n ≡ k
  found-key n i es k o p h =
      let f = Found-position (nat_eq n) es i (sym p) in
      eqb-true n k (lookup_key_passes (nat_eq n) es k (f.key ∙ slice_get-keys i es k o (sym h)))

  is-full : (n i : ℕ) (es : Slots V) (o : Option V) → slice_get es i ≡ Some (n, o)
      → is_some o ≡ true → IsRowSlot es i n
  is-full n i es None h t = absurd (true≢false (sym t))
  is-full n i es (Some v) h t = (v, h)

  pub found-slot : (n i : ℕ) (es : Slots V) (k : ℕ) (o : Option V)
      → Some i ≡ position (nat_eq n) (keys_of es) → Some (k, o) ≡ slice_get es i
      → is_some o ≡ true → IsRowSlot es i n
  found-slot n i es k o p h t =
      let e : n ≡ k = found-key n i es k o p h in
      is-full n i es o (rw e (sym h)) t

  is-empty : (o : Option V) → is_some o ≡ false → o ≡ None
  is-empty None t = refl
  is-empty (Some v) t = absurd (true≢false t)

  pub absent-slot : (n i : ℕ) (es : Slots V) (k : ℕ) (o : Option V)
      → Some i ≡ position (nat_eq n) (keys_of es) → Some (k, o) ≡ slice_get es i
      → lookup (nat_eq k) es ≡ Some o → IsDistinct nat_eq (keys_of es) → is_some o ≡ false
      → row_at n es ≡ None
  absent-slot n i es k o p h l d t =
      let e : n ≡ k = found-key n i es k o p h in
      let z : lookup (nat_eq n) es ≡ Some o = rw e l in
      slot-row n es o z d ∙ is-empty o t

  pub none-slot : (n : ℕ) (es : Slots V) → false ≡ is_some (lookup (nat_eq n) es)
      → row_at n es ≡ None
  none-slot n es h = no-slot n es (by (lookup (nat_eq n) es) h)
    where
      by : (x : Option (Option V)) → false ≡ is_some x → x ≡ None
      by None h = refl
      by (Some y) h = absurd (true≢false (sym h))

  full-skip : (b : Bool) (v : V) (z : Option V) (y : Option (Option V))
      → cond b (Some None) y ≡ Some (Some v) → (y ≡ Some (Some v) → z ≡ Some v) → z ≡ Some v
  full-skip true v z y h g = absurd (apart None v h)
    where
      apart : (o : Option V) (v : V) → Some None ≡ Some (Some v) → ⊥
      apart o v h = cc
  full-skip false v z y h g = g h

  pub slot-full : (n : ℕ) (es : Slots V) (v : V) → lookup (nat_eq n) es ≡ Some (Some v)
      → row_at n es ≡ Some v
  slot-full n [] v h = cc
  slot-full n ((k, None) ∷ es) v h =
      full-skip (nat_eq n k) v (lookup (nat_eq n) (rows_of es)) (lookup (nat_eq n) es) h
      (slot-full n es v)
  slot-full n ((k, Some w) ∷ es) v h =
      at-full (nat_eq n k) w (Some v) (lookup (nat_eq n) (rows_of es)) (lookup (nat_eq n) es) h
      (slot-full n es v)

  -- the row that a look-up at the slot reads
  pub read-row : (n i : ℕ) (es : Slots V) (k : ℕ) (o : Option V) (v : V) → IsRowSlot es i n
      → Some (k, o) ≡ slice_get es i → lookup (nat_eq k) es ≡ Some o → o ≡ Some v
      → Some v ≡ row_at n es
  read-row n i es k o v r h l t =
      let a : k ≡ n = entry-keys k n o (Some r.0) (h ∙ r.1) in
      let z : lookup (nat_eq n) es ≡ Some (Some v) = rw (← a, ← t) l in
      sym (slot-full n es v z)

  pub slot-of-row : (n i : ℕ) (es : Slots V) → IsRowSlot es i n → HasSlot es n
  slot-of-row n zero [] r = absurd (apart r.0 n r.1)
    where
      apart : (v : V) (n : ℕ) → ◌≡◌ {A = Option (ℕ × Option V)} None (Some (n, Some v)) → ⊥
      apart v n h = cc
  slot-of-row n (suc i) [] r = absurd (apart r.0 n r.1)
    where
      apart : (v : V) (n : ℕ) → ◌≡◌ {A = Option (ℕ × Option V)} None (Some (n, Some v)) → ⊥
      apart v n h = cc
  slot-of-row n zero ((k, o) ∷ es) r =
      let e : k ≡ n = entry-keys k n o (Some r.0) r.1 in
      rw (e, eq-eqb n n refl) refl
  slot-of-row n (suc i) (e ∷ es) r =
      by (nat_eq n e.0) (lookup (nat_eq n) es) (slot-of-row n i es (r.0, r.1))
    where
      by : (b : Bool) (y : Option (Option V)) → IsSome y → IsSome (cond b (Some e.1) y)
      by true y h = refl
      by false y h = h

  pub none-from : (x : Option (Option V)) → is_some x ≡ false → x ≡ None
  none-from None h = refl
  none-from (Some y) h = absurd (true≢false h)

  pub not-there : (x : Option (Option V)) → (IsSome x → ⊥) → x ≡ None
  not-there None h = refl
  not-there (Some y) h = absurd (h refl)

  entry-at : (i : ℕ) (es : Slots V) (o : Option V) → slice_get (values_of es) i ≡ Some o
      → (k : ℕ) × (slice_get es i ≡ Some (k, o))
  entry-at i [] o h = absurd (apart o h)
    where
      apart : (o : Option V) → ◌≡◌ {A = Option (Option V)} None (Some o) → ⊥
      apart o h = cc
  entry-at zero ((k, q) ∷ es) o h = let e : q ≡ o = inj q o h in (k, rw e refl)
    where
      inj : (q o : Option V) → Some q ≡ Some o → q ≡ o
      inj q o h = cc
  entry-at (suc i) (e ∷ es) o h = entry-at i es o h

  slot-empty : (n : ℕ) (es : Slots V) (x : Option (Option V)) → lookup (nat_eq n) es ≡ x
      → IsSome x → row_at n es ≡ None → x ≡ Some None
  slot-empty n es None l s r = absurd (true≢false (sym s))
  slot-empty n es (Some None) l s r = refl
  slot-empty n es (Some (Some v)) l s r = let e : row_at n es ≡ Some v = slot-full n es v l in cc

  -- the slot of a number that has one and has no row
  pub empty-slot : (n i : ℕ) (es : Slots V) → Some i ≡ position (nat_eq n) (keys_of es)
      → slice_get (values_of es) i ≡ lookup (nat_eq n) es → HasSlot es n → row_at n es ≡ None
      → slice_get es i ≡ Some (n, None)
  empty-slot n i es p v s r =
      let z : lookup (nat_eq n) es ≡ Some None
      = slot-empty n es (lookup (nat_eq n) es) refl s r in
      let k = entry-at i es None (v ∙ z) in
      let e : n ≡ k.0 = found-key n i es k.0 None p (sym k.1) in
      rw e k.1

  pub set-at : (i : ℕ) (es : Slots V) (k : ℕ) (q o : Option V) → slice_get es i ≡ Some (k, q)
      → slice_get (set_value_at es i o) i ≡ Some (k, o)
  set-at i [] k q o h = cc
  set-at zero ((j, p) ∷ es) k q o h = let e : j ≡ k = entry-keys j k p q h in rw e refl
  set-at (suc i) (e ∷ es) k q o h = set-at i es k q o h

  pub keys-set : (i : ℕ) (es : Slots V) (o : Option V)
      → keys_of (set_value_at es i o) ≡ keys_of es
  keys-set i [] o = refl
  keys-set zero (e ∷ es) o = refl
  keys-set (suc i) (e ∷ es) o = ap (λ xs. e.0 ∷ xs) (keys-set i es o)

  pub gone : (n i : ℕ) (es : Slots V) → IsRowSlot es i n → IsDistinct nat_eq (keys_of es)
      → row_at n (set_value_at es i None) ≡ None
  gone n i es r d =
      let f : IsDistinct nat_eq (keys_of (set_value_at es i None)) = rw (keys-set i es None) d in
      let l : lookup (nat_eq n) (set_value_at es i None) ≡ Some None
      = lookup_from_place nat_eq_equiv (set_value_at es i None) i n None f
      (set-at i es n (Some r.0) None r.1) in
      slot-row n (set_value_at es i None) None l f

  -- what a row that is replaced was, from the value that was read at its slot
  pub read-slot : (n i : ℕ) (es : Slots V) (o : Option V) (v : V) → IsRowSlot es i n
      → Some o ≡ slice_get (values_of es) i → o ≡ Some v → slice_get es i ≡ Some (n, Some v)
  read-slot n i es o v r h e =
      let a : Some o ≡ Some (Some r.0) = h ∙ slice_get-values i es n (Some r.0) r.1 in
      let b : o ≡ Some r.0 = inj o (Some r.0) a in
      let d : Some v ≡ Some r.0 = sym e ∙ b in
      rw d r.1
    where
      inj : (p q : Option V) → Some p ≡ Some q → p ≡ q
      inj p q h = cc

  -- the slot at the place of a number, and what stands there
  pub placed-slot : (n i : ℕ) (es : Slots V) (k : ℕ) (o : Option V) → HasNumberAt es i n → Some (k, o) ≡ slice_get es i
      → is_some o ≡ true → IsRowSlot es i n
  placed-slot n i es k o has h t =
      let e : k ≡ n = same-number es i n (k, o) has (sym h) in
      is-full n i es o (rw (← e) (sym h)) t

  pub absent-placed : (n i : ℕ) (es : Slots V) (k : ℕ) (o : Option V) → HasNumberAt es i n → Some (k, o) ≡ slice_get es i
      → lookup (nat_eq k) es ≡ Some o → IsDistinct nat_eq (keys_of es) → is_some o ≡ false → row_at n es ≡ None
  absent-placed n i es k o has h l d t =
      let e : k ≡ n = same-number es i n (k, o) has (sym h) in
      let z : lookup (nat_eq n) es ≡ Some o = rw (← e) l in
      slot-row n es o z d ∙ is-empty o t

  pub empty-placed : (n i : ℕ) (es : Slots V) → HasNumberAt es i n → slice_get (values_of es) i ≡ lookup (nat_eq n) es
      → HasSlot es n → row_at n es ≡ None → slice_get es i ≡ Some (n, None)
  empty-placed n i es has v s r =
      let z : lookup (nat_eq n) es ≡ Some None = slot-empty n es (lookup (nat_eq n) es) refl s r in
      let k = entry-at i es None (v ∙ z) in
      let e : k.0 ≡ n = same-number es i n (k.0, None) has k.1 in
      rw (← e) k.1

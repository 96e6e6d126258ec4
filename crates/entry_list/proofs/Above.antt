-- Numbers above all that have slots.
use Rattle.std.proofs.Common.{◌≡◌, ℕ, zero, suc, [], ◌∷◌, Option, None, Some, Bool, true, false, cond, nat_eq}
use Rattle.std.specs.Map.{lookup}
use Rattle.indexmap.specs.Layout.{set_value_at}
use Rattle.entry_list.specs.Slots.{Slots, NoneAbove}

module _ {V : Type 0} where
  skips : (b : Bool) (o p : Option V) (y z : Option (Option V)) → (y ≡ None → z ≡ None)
      → cond b (Some o) y ≡ None → cond b (Some p) z ≡ None
  skips true o p y z f h = cc
  skips false o p y z f h = f h

  -- a number without a slot has none after a slot is filled or emptied
  pub none-set : (i : ℕ) (es : Slots V) (o : Option V) (n : ℕ) → lookup (nat_eq n) es ≡ None
      → lookup (nat_eq n) (set_value_at es i o) ≡ None
  none-set i [] o n h = h
  none-set zero (e ∷ es) o n h =
      skips (nat_eq n e.0) e.1 o (lookup (nat_eq n) es) (lookup (nat_eq n) es) (λ x. x) h
  none-set (suc i) (e ∷ es) o n h =
      skips (nat_eq n e.0) e.1 e.1 (lookup (nat_eq n) es) (lookup (nat_eq n) (set_value_at es i o))
      (none-set i es o n) h

  pub above-set : (greatest i : ℕ) (es : Slots V) (o : Option V) → NoneAbove greatest es
      → NoneAbove greatest (set_value_at es i o)
  above-set greatest i es o above = λ n more. none-set i es o n (above n more)

-- The first of some names that passes a test, and what is told of it.
use Rattle.std.proofs.Common.{◌≡◌, refl, List, [], ◌∷◌, ◌++◌, Bool, true, false, cond, not, Option, Some, None, option_map}
use Rattle.std.specs.Prelude.{find, if◌then◌else◌}
use Rattle.cad_rows.specs.declared.names.Name.{Name}
use Rattle.cad_rows.specs.declared.refusals.Refusal.{Refusal}

module _ (test : Name → Bool) (say : Name → Refusal) where
  abbrev pub told : List Name → Option Refusal
  told names = option_map say (find test names)

  -- of two lists of names the first one's is told
  pub told-first : (xs ys : List Name) (r : Refusal) → Some r ≡ told xs → Some r ≡ told (xs ++ ys)
  told-first [] ys r some = cc
  told-first (x ∷ xs) ys r some = by (test x) (λ later. told-first xs ys r later) some
    where
      by : (b : Bool) → (Some r ≡ told xs → Some r ≡ told (xs ++ ys)) → Some r ≡ option_map say (cond b (Some x) (find test xs)) → Some r ≡ option_map say (cond b (Some x) (find test (xs ++ ys)))
      by true later some = some
      by false later some = later some

  -- and the second one's where the first has none
  pub told-second : (xs ys : List Name) → None ≡ told xs → told (xs ++ ys) ≡ told ys
  told-second [] ys none = refl
  told-second (x ∷ xs) ys none = by (test x) (λ later. told-second xs ys later) none
    where
      by : (b : Bool) → (None ≡ told xs → told (xs ++ ys) ≡ told ys) → None ≡ option_map say (cond b (Some x) (find test xs)) → option_map say (cond b (Some x) (find test (xs ++ ys))) ≡ told ys
      by true later none = cc
      by false later none = later none

  -- of one name
  pub told-one : (x : Name) → told (x ∷ []) ≡ (if test x then Some (say x) else None)
  told-one x = by (test x)
    where
      by : (b : Bool) → option_map say (cond b (Some x) None) ≡ (if b then Some (say x) else None)
      by true = refl
      by false = refl

  -- and of one name for which the test asks the opposite
  pub told-unless : (x : Name) (there : Bool) → test x ≡ not there → told (x ∷ []) ≡ (if there then None else Some (say x))
  told-unless x true is = rw is refl
  told-unless x false is = rw is refl

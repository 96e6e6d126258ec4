-- What a call that may fail leaves of a list.
use Rattle.std.proofs.Common.{◌≡◌, List, Option, Some, None, Result, Ok, Err, sym, ◌∙◌}
use Rattle.std.specs.Prelude.{if◌then◌else◌}
use Rattle.std.specs.Result.{is_ok, result_ok}

-- what a call leaves of a list where it goes well, if it did
pub where_ok : {X T E : Type 0} (r : Result T E) (o : Option T) (u : T) (old more new : List X)
    → o ≡ Some u → o ≡ result_ok r → new ≡ (if is_ok r then more else old) → new ≡ more
where_ok (Ok v) o u old more new some is left = left
where_ok (Err e) o u old more new some is left = let none : None ≡ Some u = sym is ∙ some in absurd (cc)

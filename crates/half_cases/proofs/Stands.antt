-- What follows from a result.
use Rattle.std.specs.Prelude.{Result, Ok, Err, IfOk, OnOk}

-- what follows from what is known of each value
pub on_ok : {T E Q : Type 0} (r : Result T E) (P : T → Type 0) → ((x : T) → P x → Q) → IfOk r P → OnOk r Q
on_ok (Ok x) P f p = f x p
on_ok (Err e) P f p = tt

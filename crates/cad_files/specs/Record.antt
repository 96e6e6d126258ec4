-- The records of a job.
use Rattle.std.specs.Prelude.{ℕ, List, [], ◌∷◌, Option, Some, None}

-- a record of seven fields: its kind, and six more
pub record Seven : Type 0 where
  pub kind : List ℕ
  pub a : List ℕ
  pub b : List ℕ
  pub c : List ℕ
  pub d : List ℕ
  pub e : List ℕ
  pub f : List ℕ

-- the fields of a record, where they are seven
abbrev pub seven_of : List (List ℕ) → Option Seven
seven_of (kind ∷ a ∷ b ∷ c ∷ d ∷ e ∷ f ∷ []) =
    Some (record { kind = kind; a = a; b = b; c = c; d = d; e = e; f = f })
seven_of _ = None

-- Millimetres, told as metres with three decimals.
use Rattle.std.specs.Prelude.{ℕ, Bool, ◌/◌, ◌%◌, ◌==◌, List, [], ◌∷◌, ◌++◌, length, drop, codes, decimal, Option, None, option_map, if◌then◌else◌, ℤ, pos, neg_ℤ, unsigned_abs, slice_index_or}
use Rattle.std.specs.List.{slice_split}
use Rattle.cad_files.specs.Fields.{digits_from}
use Rattle.cad_files.specs.Reports.{sign_field}

-- a number below 1000, in three digits
abbrev pub three_digits : ℕ → List ℕ
three_digits n = decimal (n / 100) ++ (decimal (n / 10 % 10) ++ decimal (n % 10))

-- so many millimetres, in metres
unfoldable pub metres_field : ℤ → List ℕ
metres_field z =
    sign_field z ++ (decimal (unsigned_abs z / 1000)
    ++ (codes "." ++ three_digits (unsigned_abs z % 1000)))

abbrev pub is_dot : ℕ → Bool
is_dot b = b == 46

-- the thousandths that the digits before a dot and three after it stand for
unfoldable pub thousandths_of : List (List ℕ) → Option ℕ
thousandths_of (whole ∷ decimals ∷ []) =
    if length decimals == 3 then digits_from 0 (whole ++ decimals) else None
thousandths_of _ = None

-- the millimetres that a decimal text stands for, where it tells metres with three decimals
unfoldable pub millimetres_of : List ℕ → Option ℤ
millimetres_of text =
    if slice_index_or text 0 0 == 45
    then option_map (λ n. neg_ℤ (pos n)) (thousandths_of (slice_split is_dot (drop 1 text)))
    else option_map (λ n. pos n) (thousandths_of (slice_split is_dot text))

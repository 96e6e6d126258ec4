-- The diagonal of the square can divide it, and a ring round the island can be enclosed.
use Rattle.std.proofs.Common.{ℕ, ◌≤◌, refl, [], ◌∷◌, arith}
use Rattle.cad_rows.specs.declared.names.Face.TheVariants.{Parcel}
use Rattle.cad_rows.specs.Limits.{IsLabel, IsNumber, greatest_number}
use Rattle.cad_map.proofs.Worked.Plans.{square, label_c}
use Rattle.cad_map.proofs.Worked.WorkedRows.{round_it}
use Rattle.cad_map.proofs.Parcels.Divided.{CanDivide}
use Rattle.cad_map.proofs.Parcels.Enclosed.{CanEnclose}

-- ---- Nothing speaks against either

number : (n : ℕ) → 1 ≤ n → n ≤ greatest_number → IsNumber n
number n some within = record { some = some; within = within }

its_label : IsLabel label_c
unfolding lib.Utf8.encode
its_label = record { some = omega arith; within = omega arith; text = (label_c, (refl, refl)) }

diagonal : CanDivide square (Parcel 1) (1 ∷ 3 ∷ []) (21 ∷ []) 2 label_c 1
diagonal = record {
  rows = record {
    source_there = refl;
    strings_new = (refl, tt);
    parcel_new = refl;
    not_retired = refl;
    strings_distinct = refl;
    few_strings = omega arith;
    few_parcels = omega arith;
    string_numbers = (number 21 (omega arith) (omega arith), tt);
    parcel_number = number 2 (omega arith) (omega arith);
    is_label = its_label;
  };
  face_there = refl;
  points_there = (refl, (refl, tt));
  inner_free = tt;
  long = omega arith;
  as_many = refl;
  points_distinct = refl;
  first = record { before = 4; at = 1; after = 2 };
  at_first = refl;
  last = record { before = 2; at = 3; after = 4 };
  at_last = refl;
  one_ring = refl;
}

ring_round : CanEnclose round_it (Parcel 1) (9 ∷ 10 ∷ 11 ∷ 12 ∷ []) (41 ∷ 42 ∷ 43 ∷ 44 ∷ []) 3 label_c 1
ring_round = record {
  rows = record {
    source_there = refl;
    strings_new = (refl, (refl, (refl, (refl, tt))));
    parcel_new = refl;
    not_retired = refl;
    strings_distinct = refl;
    few_strings = omega arith;
    few_parcels = omega arith;
    string_numbers = (number 41 (omega arith) (omega arith), (number 42 (omega arith) (omega arith), (number 43 (omega arith) (omega arith), (number 44 (omega arith) (omega arith), tt))));
    parcel_number = number 3 (omega arith) (omega arith);
    is_label = its_label;
  };
  face_there = refl;
  points_there = (refl, (refl, (refl, (refl, tt))));
  free = (refl, (refl, (refl, (refl, tt))));
  long = omega arith;
  as_many = refl;
  points_distinct = refl;
}

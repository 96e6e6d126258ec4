-- One path put in the place of another.
use Rattle.std.specs.Prelude.{◌≡◌, false, List, [], ◌∷◌, ◌++◌}
use Rattle.half_table.specs.declared.half.Half.{Half}
use Rattle.half_table.specs.Half.{twin, is_half}
use Rattle.half_paths.specs.Path.{last_of}
use Rattle.half_paths.specs.Strung.{strung, unstrung, IsStrung}
use Rattle.half_paths.specs.Loose.{AreLoose}

-- what came before and after the old path, there and back, comes before and after the new one; the old one's ends lead back
abbrev pub exchanged_ends : (before beyond old_first old_last first last : Half) → (Half → Half) → List (Half × Half)
exchanged_ends before beyond old_first old_last first last next =
    (before, first) ∷ (last, next old_last) ∷ (beyond, twin last)
    ∷ (old_last, twin old_last) ∷ (twin old_first, old_first) ∷ (twin first, next (twin old_first)) ∷ []

-- the new path is tied together, the old one taken apart, and their ends are exchanged
abbrev pub rerouted : (before beyond old_first : Half) → List Half → Half → List Half → (Half → Half) → List (Half × Half)
rerouted before beyond old_first old_rest first rest next =
    strung first rest ++ (unstrung old_first old_rest
    ++ exchanged_ends before beyond old_first (last_of old_first old_rest) first (last_of first rest) next)

-- neither end of the path is free, and neither it nor its way back is a ring
pub record LeadsOn (first last : Half) (next : Half → Half) : Type 0 where
  pub goes_on : is_half (next last) (twin last) ≡ false
  pub no_ring : is_half (next last) first ≡ false
  pub goes_back : is_half (next (twin first)) first ≡ false
  pub no_ring_back : is_half (next (twin first)) (twin last) ≡ false

-- the old path is tied together and leads on to other halves, and the new one's strings are loose
pub record CanReroute (old_first : Half) (old_rest : List Half) (first : Half) (rest : List Half) (next : Half → Half) : Type 0 where
  pub strung : IsStrung next old_first old_rest
  pub leads_on : LeadsOn old_first (last_of old_first old_rest) next
  pub loose : AreLoose next (first ∷ rest)

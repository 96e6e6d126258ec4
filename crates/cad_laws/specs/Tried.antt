-- An edit of a valid map that is tried: nothing speaks against it at once.
use Rattle.std.specs.Prelude.{◌≡◌, ℕ, List, Some, None}
use Rattle.cad_rows.specs.declared.edits.Edit.{Edit}
use Rattle.cad_rows.specs.declared.names.Face.{Face}
use Rattle.cad_rings.specs.Cycle.{Corner}
use Rattle.cad_map.specs.Asked.{GivesInRange}
use Rattle.cad_map.specs.Chain.{start_of, next_of, end_of, last_but_one, chosen_corner}
use Rattle.cad_map.specs.Map.{Map}
use Rattle.cad_map.specs.Refusals.{first_refusal}
use Rattle.cad_map.specs.Valid.{IsValid}

-- The map is valid and the edit isn't refused at once. The map after it may still break a rule.
pub record IsTried (m : Map) (e : Edit) : Type 0 where
  pub valid : IsValid m
  pub given : GivesInRange e
  pub allowed : first_refusal m e ≡ None

-- the chain leaves the face's one corner inside the face, and comes to the other inside it
pub record AreChosen (m : Map) (face : Face) (chain : List ℕ) (first last : Corner) : Type 0 where
  pub first_is : chosen_corner m face (start_of chain) (next_of chain) ≡ Some first
  pub last_is : chosen_corner m face (end_of chain) (last_but_one chain) ≡ Some last

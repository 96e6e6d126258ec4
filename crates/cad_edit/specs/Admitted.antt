-- What the early check of an edit finds.
use Rattle.std.specs.Prelude.{◌≡◌, ⊤, ℕ, List, [], ◌∷◌, map, Option, Some, None}
use Rattle.cad_rows.specs.declared.names.Face.{Face}
use Rattle.cad_rows.specs.declared.edits.Edit.{Edit}
use Rattle.cad_rows.specs.declared.edits.Edit.TheVariants.{Join, Divide, Merge}
use Rattle.cad_rings.specs.Cycle.{Corner}
use Rattle.cad_map.specs.declared.shared_chain.SharedChain.{SharedChain}
use Rattle.cad_map.specs.Chain.{start_of, next_of, end_of, last_but_one, chosen_corner}
use Rattle.cad_map.specs.Changes.{by_number}
use Rattle.cad_map.specs.Map.{Map, strings_at}
use Rattle.cad_map.specs.SharedChains.{IsSharedChain}

-- the corners of the face that are chosen at the two ends of the chain
abbrev pub AreCorners : Map → Face → List ℕ → Option (Corner × Corner) → Type 0
AreCorners m face chain None = ⊥
AreCorners m face chain (Some corners) =
    (chosen_corner m face (start_of chain) (next_of chain) ≡ Some corners.0) × (chosen_corner m face (end_of chain) (last_but_one chain) ≡ Some corners.1)

-- of a division they are found
abbrev pub HasCorners : Map → Edit → Option (Corner × Corner) → Type 0
HasCorners m (Divide face chain strings parcel label source) corners = AreCorners m face chain corners
HasCorners m _ corners = ⊤

-- what the two faces share
abbrev pub IsBetween : Map → Face → Face → Option SharedChain → Type 0
IsBetween m kept ended None = ⊥
IsBetween m kept ended (Some chain) = IsSharedChain m kept ended chain

-- of a merger it is found
abbrev pub HasChain : Map → Edit → Option SharedChain → Type 0
HasChain m (Merge kept ended) chain = IsBetween m kept ended chain
HasChain m _ chain = ⊤

-- the numbers of the two strings at the point, the lower first
abbrev pub AreStrings : Map → ℕ → Option (ℕ × ℕ) → Type 0
AreStrings m point None = ⊥
AreStrings m point (Some strings) = map (λ s. s.number) (by_number (strings_at m point)) ≡ strings.0 ∷ strings.1 ∷ []

-- of a join they are found
abbrev pub HasStrings : Map → Edit → Option (ℕ × ℕ) → Type 0
HasStrings m (Join point string) strings = AreStrings m point strings
HasStrings m _ strings = ⊤

-- Spokes in the order in which a turn about their point meets them.
use Rattle.std.specs.Prelude.{◌≡◌, true, List}
use Rattle.std.specs.List.{All, AllPairs}
use Rattle.geo_exact.specs.Position.{Position}
use Rattle.geo_exact.specs.Turning.{is_met_first}
use Rattle.cad_map.specs.declared.stars.Spoke.{Spoke}

-- a turn counterclockwise about v, begun in the east, meets these in their order, and no two at once
pub record AreMetInTurn (v : Position) (spokes : List Spoke) : Type 0 where
  pub away : All (λ s. ¬ (s.position ≡ v)) spokes
  pub turn : AllPairs (λ a b. is_met_first v a.position b.position ≡ true) spokes

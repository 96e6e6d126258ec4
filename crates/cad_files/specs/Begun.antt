-- A plan's map before its rings are put in.
use Rattle.std.specs.Prelude.{◌≡◌, None, map}
use Rattle.cad_files.specs.declared.plan_map.Begun.{Begun}
use Rattle.cad_files.specs.Rows.{Rows, AreInRange}
use Rattle.cad_files.specs.Building.{first_fault, map_of}
use Rattle.cad_files.specs.Cycles.{AreSidesOf, AreLinked, followed_side}

-- the map has the rows, which have no fault, and the sides are its strings', each with its follower
pub record IsBegun (rows : Rows) (begun : Begun) : Type 0 where
  pub in_range : AreInRange rows
  pub faultless : first_fault rows ≡ None
  pub map_is : begun.plain ≡ map_of rows
  pub sides_are : AreSidesOf (map_of rows) rows.strings (map followed_side begun.sides.items)
  pub linked : AreLinked begun.sides.items

-- Parts with another grid.
use Rattle.cell_grid.specs.Grid.{Grid}
use Rattle.half_table.specs.declared.half.Half.{Half}
use Rattle.map_parts.specs.Parts.{Parts, FitTogether, IsOnKeptCycle}

on-cycle : (d : Parts) (g : Grid) (h : Half) → IsOnKeptCycle d h → IsOnKeptCycle (record d { grid = g }) h
on-cycle d g h home = record { kept = home.kept; there = home.there; on = home.on }

pub grid-fit : (d : Parts) (g : Grid) → FitTogether d → FitTogether (record d { grid = g })
grid-fit d g fit = record {
  linked = fit.linked;
  numbers = fit.numbers;
  parcel_numbers = fit.parcel_numbers;
  two_ends = fit.two_ends;
  ends = fit.ends;
  inside = fit.inside;
  meets = fit.meets;
  shown = fit.shown;
  faces = fit.faces;
  homes = λ h shown. on-cycle d g h (fit.homes h shown);
  no_face = fit.no_face;
  stars = fit.stars;
}

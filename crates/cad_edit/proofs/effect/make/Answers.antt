use Rattle.std.proofs.Common.{to_z, of_z, to_z-of_z, ℤ, FitsSigned, w64, arith}
use Rattle.std.proofs.lemmas.Int.{ints}
use Rattle.geo_exact.specs.Position.{InRange, OnTheMap}
use Rattle.cad_rows.specs.declared.edits.Edit.TheVariants.{AddSource, AddPoint, Split, Join, Move}
use Rattle.cad_map.specs.Effects.{after}
use Rattle.cad_map.proofs.CallerLemmas.{allowed, free-source, free-point, free-split, free-join, halves-differ, two-joined, position-in_range}
use Rattle.cad_edit.proofs.effect.make.Goals as goal

coordinate_fits : (z : ℤ) → InRange z → FitsSigned w64 z
coordinate_fits z h = let low = h.low in let high = h.high in omega (arith, ints)

-- coordinates that are in range stay as they are
as_numbers : (x y : ℤ) → OnTheMap (record { x = x; y = y }) → OnTheMap (record { x = to_z w64 (of_z w64 x); y = to_z w64 (of_z w64 y) })
as_numbers x y on = let x_fits = coordinate_fits x on.x_in_range in let y_fits = coordinate_fits y on.y_in_range in rw (to_z-of_z x_fits, to_z-of_z y_fits) on

pub add_source-requires : goal.add_source-requires
add_source-requires c =
    let e = c.in-AddSource in
    free-source c.args.map.now e.source e.text (allowed c.args.map.now (AddSource e.source e.text) (rw e.is at c.requires.allowed)).taken

pub at-requires : goal.at-requires
at-requires c =
    let e = c.in-AddPoint in
    as_numbers e.x e.y (position-in_range e.x e.y (allowed c.args.map.now (AddPoint e.point e.x e.y) (rw e.is at c.requires.allowed)).range)

pub add_point-requires : goal.add_point-requires
add_point-requires c =
    let e = c.in-AddPoint in
    free-point c.args.map.now e.point e.x e.y (allowed c.args.map.now (AddPoint e.point e.x e.y) (rw e.is at c.requires.allowed)).taken

pub at-requires-in-Split : goal.at-requires-in-Split
at-requires-in-Split c =
    let e = c.in-Split in
    as_numbers e.x e.y (position-in_range e.x e.y (allowed c.args.map.now (Split e.string e.point e.x e.y e.first e.second) (rw e.is at c.requires.allowed)).range)

pub split-requires-clause-point : goal.split-requires-clause-point
split-requires-clause-point c =
    let e = c.in-Split in
    (free-split c.args.map.now e.string e.point e.x e.y e.first e.second (allowed c.args.map.now (Split e.string e.point e.x e.y e.first e.second) (rw e.is at c.requires.allowed)).taken).0

pub split-requires-clause-first : goal.split-requires-clause-first
split-requires-clause-first c =
    let e = c.in-Split in
    (free-split c.args.map.now e.string e.point e.x e.y e.first e.second (allowed c.args.map.now (Split e.string e.point e.x e.y e.first e.second) (rw e.is at c.requires.allowed)).taken).1

pub split-requires-clause-second : goal.split-requires-clause-second
split-requires-clause-second c =
    let e = c.in-Split in
    (free-split c.args.map.now e.string e.point e.x e.y e.first e.second (allowed c.args.map.now (Split e.string e.point e.x e.y e.first e.second) (rw e.is at c.requires.allowed)).taken).2

pub split-requires-clause-two : goal.split-requires-clause-two
split-requires-clause-two c =
    let e = c.in-Split in
    halves-differ e.string e.point e.x e.y e.first e.second (allowed c.args.map.now (Split e.string e.point e.x e.y e.first e.second) (rw e.is at c.requires.allowed)).bad_chain

pub join-requires-clause-two : goal.join-requires-clause-two
join-requires-clause-two c =
    let e = c.in-Join in
    two-joined c.args.map.now e.point e.string (allowed c.args.map.now (Join e.point e.string) (rw e.is at c.requires.allowed)).not_degree_two

pub join-requires-clause-new : goal.join-requires-clause-new
join-requires-clause-new c =
    let e = c.in-Join in
    free-join c.args.map.now e.point e.string (allowed c.args.map.now (Join e.point e.string) (rw e.is at c.requires.allowed)).taken

pub at-requires-in-Move : goal.at-requires-in-Move
at-requires-in-Move c =
    let e = c.in-Move in
    as_numbers e.x e.y (position-in_range e.x e.y (allowed c.args.map.now (Move e.point e.x e.y) (rw e.is at c.requires.allowed)).range)

pub returns-in-Detach : goal.returns-in-Detach
unfolding after
returns-in-Detach c = rw c.in-Detach.is c.change_sources-in-Detach.ensures

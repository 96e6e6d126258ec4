use Rattle.std.proofs.Common.{arith}
use Rattle.cad_laws.proofs.CountedEdits.{counted}
use Rattle.cad_laws.proofs.CountedRings.{rings-counted_by}
use Rattle.cad_laws.proofs.CountedShared.{shared-counted}
use Rattle.cad_laws.proofs.CountedSides.{sides-counted}
use Rattle.cad_laws.proofs.laws.counts.Goals as goal

pub returns-clause-rows : goal.returns-clause-rows
returns-clause-rows c m e t = (counted m e t.valid t.given t.allowed).rows_are

pub returns-clause-sources : goal.returns-clause-sources
returns-clause-sources c m e t = (counted m e t.valid t.given t.allowed).sources_are

pub returns-clause-sides : goal.returns-clause-sides
returns-clause-sides c m e t = sides-counted m e t.valid t.given t.allowed

pub returns-clause-rings : goal.returns-clause-rings
returns-clause-rings c m e t = rings-counted_by m e t.valid t.given t.allowed

pub returns-clause-shared : goal.returns-clause-shared
returns-clause-shared c m kept ended t = shared-counted m kept ended t.valid t.allowed

pub returns-clause-weight : goal.returns-clause-weight
returns-clause-weight c m e t =
    let rows = (counted m e t.valid t.given t.allowed).rows_are in
    let sources = (counted m e t.valid t.given t.allowed).sources_are in
    let rings = rings-counted_by m e t.valid t.given t.allowed in
    omega (arith, rows, sources, rings)

pub returns-clause-work : goal.returns-clause-work
returns-clause-work c m e t =
    let rows = (counted m e t.valid t.given t.allowed).rows_are in
    let sides = sides-counted m e t.valid t.given t.allowed in
    omega (arith, rows, sides)

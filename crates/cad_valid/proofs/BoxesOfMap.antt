-- Segments on the map with a common location have boxes that overlap.
use Rattle.std.proofs.Common.{◌≡◌, ◌≤◌, min, max, ℤ, arith, true}
use Rattle.std.proofs.lemmas.Int.{ints, clamps}
use Rattle.std.proofs.lemmas.Bool.{and_parts}
use Rattle.geo_exact.specs.Position.{InRange, OnTheMap}
use Rattle.geo_exact.specs.Segment.{HaveCommonLocation}
use Rattle.geo_exact.specs.SignTest.{overlaps}
use Rattle.geo_exact.proofs.CallerLemmas.{boxes_overlap-HaveCommonLocation, overlaps-shared}
use Rattle.sweep.specs.Extents.{Overlap}
use Rattle.cad_valid.specs.declared.placed.Placed.{Placed}
use Rattle.cad_valid.specs.Boxes.{from_least, box_of}

-- both ends are on the map
pub record IsOnMap (f : Placed) : Type 0 where
  pub a : OnTheMap f.a
  pub b : OnTheMap f.b

-- two stretches that overlap do so as counted
counted_overlap : (a b c d : ℤ) → InRange a → InRange b → InRange c → InRange d → overlaps a b c d ≡ true
    → (min (from_least a) (from_least b) ≤ max (from_least c) (from_least d)) × (min (from_least c) (from_least d) ≤ max (from_least a) (from_least b))
counted_overlap a b c d in_a in_b in_c in_d met =
    let shared = overlaps-shared a b c d met in
    let m = shared.0 in
    let s = shared.1 in
    let a_low = in_a.low in
    let b_low = in_b.low in
    let c_low = in_c.low in
    let d_low = in_d.low in
    let l1 = s.low_first in
    let h1 = s.high_first in
    let l2 = s.low_second in
    let h2 = s.high_second in
    (omega (arith, ints, clamps), omega (arith, ints, clamps))

pub overlap-common : (f g : Placed) → IsOnMap f → IsOnMap g → HaveCommonLocation f.a f.b g.a g.b → Overlap (box_of f) (box_of g)
overlap-common f g f_on g_on common =
    let met = and_parts (overlaps f.a.x f.b.x g.a.x g.b.x) (overlaps f.a.y f.b.y g.a.y g.b.y) (boxes_overlap-HaveCommonLocation f.a f.b g.a g.b common) in
    let across = counted_overlap f.a.x f.b.x g.a.x g.b.x f_on.a.x_in_range f_on.b.x_in_range g_on.a.x_in_range g_on.b.x_in_range met.0 in
    let up = counted_overlap f.a.y f.b.y g.a.y g.b.y f_on.a.y_in_range f_on.b.y_in_range g_on.a.y_in_range g_on.b.y_in_range met.1 in
    record { a_left = across.0; b_left = across.1; a_bottom = up.0; b_bottom = up.1 }

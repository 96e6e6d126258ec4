-- A map that an edit made of a valid one, touching nothing, keeps all rules.
use Rattle.std.specs.Prelude.{[], None}
use Rattle.cad_map.specs.Map.{Map}
use Rattle.cad_map.specs.Touched.{IsTouched}
use Rattle.cad_map.specs.Valid.{IsValid, KeepsAll, CanBeTested}
use Rattle.cad_near.proofs.NearPoints.{near-points}
use Rattle.cad_near.proofs.NearStrings.{near-strings}
use Rattle.cad_near.proofs.NearCorners.{near-corners}
use Rattle.cad_near.proofs.NearFaces.{near-outlines, near-holes}
use Rattle.cad_valid.proofs.CallerLemmas.{whole}

pub kept-untouched : (old new : Map) → IsValid old → CanBeTested new
    → IsTouched old new (record { points = []; strings = []; faces = []; moved = None; joined = None }) → KeepsAll new
kept-untouched old new valid tested touched =
    let v3 = (near-points old new _ valid tested.v1 tested.v2 touched).0 tt in
    let v4 = (near-strings old new _ valid tested.v1 touched).0 (tt, tt) in
    let rings = whole new tested v3 v4 in
    record {
      v3 = v3;
      v4 = v4;
      v6 = (near-corners old new _ valid rings touched).0 (tt, tt);
      v7 = (near-outlines old new _ valid tested.v1 touched).0 tt;
      v8 = (near-holes old new _ valid tested.v1 touched).0 tt;
    }

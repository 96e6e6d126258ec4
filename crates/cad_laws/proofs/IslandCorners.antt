-- A ring and its reverse among other rings: the corners of an island.
use Rattle.std.proofs.Common.{◌≤◌, inl, inr, subst, List, ◌++◌, length, map}
use Rattle.std.proofs.lemmas.List.Elements.{Contains-append_cases, Contains-append_left, Contains-append_right}
use Rattle.std.proofs.lemmas.List.Sorted.{IsPermutation-sym, Contains-permutation}
use Rattle.std.specs.Prelude.{IsPermutation}
use Rattle.std.specs.List.{Contains}
use Rattle.cad_rings.specs.Cycle.{Ring, sides_of, Corner, corner_back, corners_of}
use Rattle.cad_map.specs.Map.{Map, all_corners}
use Rattle.cad_map.proofs.CallerLemmas.{Contains-map, map-Contains, corner-sides, in_both_ways, side_before}
use Rattle.cad_laws.specs.Parting.{IsOn, HasIsland}

module _ (ring : Ring) (two : 2 ≤ length ring) (back rest : List Corner)
    (reversed : IsPermutation (map corner_back (corners_of ring)) back) (w p : Map)
    (first_map : IsPermutation rest (all_corners w))
    (second_map : IsPermutation (corners_of ring ++ (back ++ rest)) (all_corners p))
    (off : (c : Corner) → Contains (all_corners w) c → IsOn (sides_of ring) c → ⊥) where
  abbrev R : List Corner
  R = corners_of ring

  in-parted : (c : Corner) → Contains (R ++ (back ++ rest)) c → Contains (all_corners p) c
  in-parted c h = Contains-permutation (R ++ (back ++ rest)) (all_corners p) c second_map h

  on : (c : Corner) → Contains R c → IsOn (sides_of ring) c × IsOn (sides_of ring) (corner_back c)
  on c h =
      let both = in_both_ways (sides_of ring) (side_before c) (corner-sides ring two c h).0 in
      (inl both.0, inr both.1)

  pub has_island : HasIsland w p ring
  has_island = record {
    along = λ c h. in-parted c (Contains-append_left R (back ++ rest) c h);
    back = λ c h.
        in-parted (corner_back c)
        (Contains-append_right R (back ++ rest) (corner_back c)
        (Contains-append_left back rest (corner_back c)
        (Contains-permutation (map corner_back R) back (corner_back c) reversed
        (Contains-map corner_back R c h))));
    stays = λ c h.
        in-parted c
        (Contains-append_right R (back ++ rest) c
        (Contains-append_right back rest c
        (Contains-permutation (all_corners w) rest c
        (IsPermutation-sym rest (all_corners w) first_map) h)));
    joins = λ c h away.
        elim (Contains-append_cases R (back ++ rest) c
        (Contains-permutation (all_corners p) (R ++ (back ++ rest)) c
        (IsPermutation-sym (R ++ (back ++ rest)) (all_corners p) second_map) h)) [
          | inl here ↦ absurd (away (on c here).0)
          | inr later ↦ elim (Contains-append_cases back rest c later) [
            | inl turned ↦
                let d = map-Contains corner_back R c
                (Contains-permutation back (map corner_back R) c
                (IsPermutation-sym (map corner_back R) back reversed) turned) in
                absurd (away (subst (IsOn (sides_of ring)) d.2 (on d.0 d.1).1))
            | inr other ↦ Contains-permutation rest (all_corners w) c first_map other
          ]
        ];
    free = off;
  }

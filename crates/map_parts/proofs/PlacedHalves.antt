-- Halves of the holes that pass to a new face.
use Rattle.std.proofs.Common.{◌≡◌, Bool, true, false, true≢false, refl, sym, ap, subst, ◌∙◌, List, map, filter, if◌then◌else◌}
use Rattle.std.specs.List.{Contains}
use Rattle.std.proofs.lemmas.List.Sorted.{Contains-permutation, IsPermutation-sym}
use Rattle.cad_rows.specs.declared.names.Face.{Face}
use Rattle.cad_rings.specs.Cycle.{Ring, sides_of}
use Rattle.cad_map.specs.declared.boundary.Boundary.{Boundary}
use Rattle.cad_map.specs.Boundaries.{bounding}
use Rattle.cad_map.specs.Division.{hole_placed}
use Rattle.cad_map.specs.Map.{Map, has_face}
use Rattle.cad_map.specs.Rings.{HasWholeRings}
use Rattle.cad_map.proofs.CallerLemmas.{All-at_each, All-from_each, Contains-map, map-Contains, Contains-filter, filter-Contains, ring-hole_placed}
use Rattle.half_table.specs.declared.half.Half.{Half}
use Rattle.half_table.specs.Rows.{HalfRows}
use Rattle.cad_laws.specs.Local.{IsShown, side_by}
use Rattle.map_parts.specs.Handing.{home_of}
use Rattle.map_parts.specs.Islands.{AreOfRings}
use Rattle.map_parts.specs.Labels.{IsOnRing}
use Rattle.map_parts.specs.Placed.{moves_in, AreOfHoles}

module _ (m now : Map) (whole : HasWholeRings m) (face new : Face) (ring : Ring) (none : has_face m new ≡ false)
    (shown : (h : Half) → IsShown m h → IsShown now h) (old rows : HalfRows)
    (sides : (h : Half) → IsShown m h → side_by rows h ≡ side_by old h) where
  abbrev placed : Boundary → Boundary
  placed = hole_placed m face new ring

  pub placed-face : (b : Boundary) → moves_in m face ring b ≡ true → (placed b).face ≡ new
  placed-face b moves = ap (λ (t : Bool). (if t then bounding new b.ring else b).face) moves

  stays-face : (b : Boundary) → moves_in m face ring b ≡ false → (placed b).face ≡ b.face
  stays-face b stays = ap (λ (t : Bool). (if t then bounding new b.ring else b).face) stays

  pub on-placed : (b : Boundary) (h : Half) → IsOnRing m old b h → IsOnRing now rows (placed b) h
  on-placed b h on = record {
    shown = shown h on.shown;
    side =
        subst (λ (r : Ring). Contains (sides_of r) (side_by rows h)) (sym (ring-hole_placed m face new ring b))
        (subst (Contains (sides_of b.ring)) (sym (sides h on.shown)) on.side);
  }

  -- the halves are of the rings that are the new face's
  pub holes-placed : (halves : List Half) → AreOfHoles m old face ring halves
      → AreOfRings now rows halves new (map placed m.boundaries)
  holes-placed halves of = record {
    each = All-from_each (λ h. (b : Boundary) × Contains (map placed m.boundaries) b × IsOnRing now rows b h × (b.face ≡ new)) halves (λ h among.
        let b = home_of m old h in
        let at = filter-Contains (moves_in m face ring) m.boundaries b
        (Contains-permutation (map (home_of m old) halves) (filter (moves_in m face ring) m.boundaries) b of.all (Contains-map (home_of m old) halves h among)) in
        (placed b, Contains-map placed m.boundaries b at.0, on-placed b h (All-at_each (λ h. IsOnRing m old (home_of m old h) h) halves h of.on among), placed-face b at.1));
    all = λ b there is.
        let from = map-Contains placed m.boundaries b there in
        by from.0 from.1 b from.2 is (moves_in m face ring from.0) refl;
  }
    where
      by : (b : Boundary) → Contains m.boundaries b → (c : Boundary) → placed b ≡ c
          → c.face ≡ new → (t : Bool) → moves_in m face ring b ≡ t → (h : Half) × Contains halves h × IsOnRing now rows c h
      by b there c same is true moves =
          let among = Contains-permutation (filter (moves_in m face ring) m.boundaries) (map (home_of m old) halves) b
          (IsPermutation-sym (map (home_of m old) halves) (filter (moves_in m face ring) m.boundaries) of.all)
          (Contains-filter (moves_in m face ring) m.boundaries b there moves) in
          let at = map-Contains (home_of m old) halves b among in (
            at.0,
            at.1,
            subst (λ (d : Boundary). IsOnRing now rows d at.0) same
                (on-placed b at.0 (subst (λ (d : Boundary). IsOnRing m old d at.0) at.2 (All-at_each (λ h. IsOnRing m old (home_of m old h) h) halves at.0 of.on at.1))),
          )
      by b there c same is false stays =
          absurd (true≢false (sym (All-at_each (λ b. has_face m b.face ≡ true) m.boundaries b whole.v1.faces_of_rings there)
          ∙ ap (has_face m) (sym (stays-face b stays) ∙ ap (λ (d : Boundary). d.face) same ∙ is) ∙ none))

-- Rings that are handed from one face to another, and the halves that are kept of them.
use Rattle.std.proofs.Common.{◌≡◌, ◌≢◌, ◌≤◌, Bool, true, false, List, [], ◌∷◌, map, find, length, refl, sym, ap, ◌∙◌, subst, Option, Some, None, true≢false, if◌then◌else◌}
use Rattle.std.specs.Prelude.{IsPermutation, unwrap_or}
use Rattle.std.specs.List.{Contains}
use Rattle.std.specs.Str.{bytes_eq}
use Rattle.std.proofs.lemmas.Slice.Eq.{bytes_eq-Decides}
use Rattle.std.proofs.lemmas.List.Sorted.{IsPermutation-map}
use Rattle.cad_rows.specs.declared.names.Face.{Face}
use Rattle.cad_rings.specs.Cycle.{Ring, sides_of}
use Rattle.cad_map.specs.declared.boundary.Boundary.{Boundary}
use Rattle.cad_map.specs.Boundaries.{is_face, bounding}
use Rattle.cad_map.specs.Map.{Map, all_sides}
use Rattle.cad_map.specs.Merger.{handed_over}
use Rattle.cad_map.specs.Rings.{HasWholeRings}
use Rattle.cad_map.proofs.CallerLemmas.{All-at_each, is_face-same, is_face-refl, find-Contains, once-from_pairs}
use Rattle.half_table.specs.declared.half.Half.{Half}
use Rattle.half_table.specs.Rows.{HalfRows}
use Rattle.map_parts.specs.Handing.{home_of}
use Rattle.map_parts.proofs.ToHalves.{one_part}
use Rattle.map_parts.proofs.StarHalves.{find-some}
use Rattle.map_parts.proofs.CycleRings.{map-map}
use Rattle.map_parts.proofs.KeptEach.{map-cong}
use Rattle.map_parts.proofs.RingsOnce.{first-side}
use Rattle.map_parts.proofs.IslandFaces.{handed-stays, handed-ring}

module _ (outer inner : Face) where
  -- a ring of the inner face goes to the outer one, and every other stays
  pub handed-face : (b : Boundary) → (b.face ≡ inner → (handed_over outer inner b).face ≡ outer) × (b.face ≢ inner → handed_over outer inner b ≡ b)
  handed-face b = (
    (λ is. ap (λ (t : Bool). (if t then bounding outer b.ring else b).face) (ap (is_face inner) is ∙ is_face-refl inner)),
    (λ differ. by differ (is_face inner b.face) refl),
  )
    where
      by : b.face ≢ inner → (t : Bool) → is_face inner b.face ≡ t → handed_over outer inner b ≡ b
      by differ true is = absurd (differ (sym (is_face-same inner b.face is)))
      by differ false is = handed-stays outer inner b is

  -- so none is the inner face's then
  pub inner-never : outer ≢ inner → (b : Boundary) → (handed_over outer inner b).face ≢ inner
  inner-never differ b is = by (is_face inner b.face) refl
    where
      by : (t : Bool) → is_face inner b.face ≡ t → ⊥
      by true same = differ (sym ((handed-face b).0 (sym (is_face-same inner b.face same))) ∙ is)
      by false other = true≢false (sym (is_face-refl inner) ∙ ap (is_face inner) (sym is ∙ ap (λ (x : Boundary). x.face) (handed-stays outer inner b other)) ∙ other)

module _ (parted : Map) (parts : HasWholeRings parted) (outer inner : Face) (others : List Boundary) (there : (c : Boundary) → Contains others c → Contains parted.boundaries c) where
  -- the other ring with the same points
  abbrev pub back : Boundary → Boundary
  back b = unwrap_or (find (λ c. bytes_eq c.ring b.ring) others) b

  abbrev handed : Boundary → Boundary
  handed = handed_over outer inner

  pub back-handed : (c : Boundary) → Contains others c → back (handed c) ≡ c
  back-handed c among = by (find (λ b. bytes_eq b.ring (handed c).ring) others) refl
    where
      by : (o : Option Boundary) → find (λ b. bytes_eq b.ring (handed c).ring) others ≡ o → back (handed c) ≡ c
      by None none = absurd (find-some (λ b. bytes_eq b.ring (handed c).ring) others c among ((bytes_eq-Decides c.ring (handed c).ring).1 (sym (handed-ring outer inner c))) none)
      by (Some b) is =
          let found = find-Contains (λ b. bytes_eq b.ring (handed c).ring) others b is in
          let same : b.ring ≡ c.ring = (bytes_eq-Decides b.ring (handed c).ring).0 found.1 ∙ handed-ring outer inner c in
          let long = All-at_each (λ b. 3 ≤ length b.ring) parted.boundaries c parts.v5.three (there c among) in
          let side = first-side c.ring long in
          ap (λ (o : Option Boundary). unwrap_or o (handed c)) is
          ∙ one_part (λ (b : Boundary). sides_of b.ring) side.0 parted.boundaries b c (once-from_pairs (all_sides parted) parts.once side.0) (there b found.0) (there c among)
          (subst (λ (r : Ring). Contains (sides_of r) side.0) (sym same) side.1) side.1

  -- halves whose rings in the one map are the others, handed over, have the others as rings in the other map
  pub homes-back : (whole : Map) (old new : HalfRows) (halves : List Half) → ((h : Half) → Contains halves h → (c : Boundary) × Contains others c × (home_of parted new h ≡ c) × (home_of whole old h ≡ handed c))
      → IsPermutation (map (home_of whole old) halves) (map handed others) → IsPermutation (map (home_of parted new) halves) others
  homes-back whole old new halves each all =
      let both = IsPermutation-map back (map (home_of whole old) halves) (map handed others) all in
      let first : map back (map (home_of whole old) halves) ≡ map (home_of parted new) halves =
      map-map back (home_of whole old) halves
      ∙ map-cong (λ h. back (home_of whole old h)) (home_of parted new) halves (λ h among. let at = each h among in ap back at.3 ∙ back-handed at.0 at.1 ∙ sym at.2) in
      let second : map back (map handed others) ≡ others = map-map back handed others ∙ map-cong (λ c. back (handed c)) (λ c. c) others back-handed ∙ map-same others in
      subst (λ (l : List Boundary). IsPermutation l others) first (subst (IsPermutation (map back (map (home_of whole old) halves))) second both)
    where
      map-same : (bs : List Boundary) → map (λ c. c) bs ≡ bs
      map-same [] = refl
      map-same (b ∷ bs) = ap (λ (l : List Boundary). b ∷ l) (map-same bs)

  -- and the other way
  pub homes-handed : (whole : Map) (old new : HalfRows) (halves : List Half) → ((h : Half) → Contains halves h → (c : Boundary) × Contains others c × (home_of parted old h ≡ c) × (home_of whole new h ≡ handed c))
      → IsPermutation (map (home_of parted old) halves) others → IsPermutation (map (home_of whole new) halves) (map handed others)
  homes-handed whole old new halves each all =
      let both = IsPermutation-map handed (map (home_of parted old) halves) others all in
      let first : map handed (map (home_of parted old) halves) ≡ map (home_of whole new) halves =
      map-map handed (home_of parted old) halves
      ∙ map-cong (λ h. handed (home_of parted old h)) (home_of whole new) halves (λ h among. let at = each h among in ap handed at.2 ∙ sym at.3) in
      subst (λ (l : List Boundary). IsPermutation l (map handed others)) first both

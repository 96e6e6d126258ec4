-- The rings of a face, as a view gives one after the other.
use Rattle.std.proofs.Common.{◌≡◌, ℕ, ◌<◌, ◌≤◌, ap, ◌∙◌, List, [], length, map, filter, take, arith}
use Rattle.std.specs.List.{AllByRecursion}
use Rattle.std.proofs.lemmas.List.{take_all}
use Rattle.std.proofs.lemmas.List.Elements.{Contains-get_or}
use Rattle.geo_exact.specs.Position.{Position}
use Rattle.cad_rows.specs.declared.names.Face.{Face}
use Rattle.cad_rings.specs.Cycle.{Ring}
use Rattle.cad_rings.proofs.CallerLemmas.{length-sides_of}
use Rattle.cad_map.specs.declared.boundary.Boundary.{Boundary}
use Rattle.cad_map.specs.Boundaries.{canonical_order, is_face}
use Rattle.cad_map.specs.Map.{Map, rings_at}
use Rattle.cad_map.specs.Rings.{HasWholeRings, ring_at}
use Rattle.cad_map.proofs.CallerLemmas.{filter-Contains, map-Contains, ring-sides-few}
use Rattle.cad_valid.specs.Shapes.{shape_of, ToldApart, told_apart}

-- the ring at a place of a face, as a view keeps the rings
pub ring_at-few : (m : Map) (bs : List Boundary) → HasWholeRings m → canonical_order bs ≡ m.boundaries → AllByRecursion (λ b. 2 ≤ length b.ring) bs
    → (f : Face) (place : ℕ) → place < length (rings_at f bs) → length (ring_at bs f place) ≤ 400000
ring_at-few m bs whole is two f place within =
    let b = map-Contains (λ (b : Boundary). b.ring) (filter (λ b. is_face f b.face) bs) (ring_at bs f place) (Contains-get_or (rings_at f bs) place [] within) in
    let there = filter-Contains (λ b. is_face f b.face) bs b.0 b.1 in
    let sides = ring-sides-few m bs whole is two b.0 there.0 in
    let long = length-sides_of b.0.ring in
    let same = ap length b.2 in
    let most = whole.v1.few_strings in
    omega arith

-- when all rings were told apart, those of the face are
pub told-all : (position : ℕ → Position) (rings : List Ring) (place : ℕ) (told : ToldApart) → length rings ≤ place
    → told ≡ told_apart (map (shape_of position) (take place rings)) → told ≡ told_apart (map (shape_of position) rings)
told-all position rings place told past so_far = so_far ∙ ap (λ (rs : List Ring). told_apart (map (shape_of position) rs)) (take_all place rings past)

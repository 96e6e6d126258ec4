-- The rings of a face as they lie tell what the rules ask of them.
use Rattle.std.proofs.Common.{◌≡◌, ℕ, ◌+◌, ◌<◌, refl, sym, ap, ◌∙◌, List, [], ◌∷◌, ◌++◌, length, map, filter, take, get_or, Bool, true, false, ◌≤◌, nat_eq, arith}
use Rattle.std.proofs.lemmas.List.{map_more, length-map}
use Rattle.std.proofs.lemmas.List.Folds.{list_all-map}
use Rattle.std.proofs.lemmas.List.Sums.{length-filter}
use Rattle.std.specs.Prelude.{◌&&◌, ◌||◌, ◌==◌}
use Rattle.std.specs.List.{list_all}
use Rattle.geo_exact.specs.Position.{Position}
use Rattle.geo_exact.specs.Inside.{is_inside}
use Rattle.cad_rings.specs.Cycle.{Ring, anchor_of, sides_of}
use Rattle.cad_rings.proofs.CallerLemmas.{length-sides_of}
use Rattle.cad_map.specs.Map.{Map, position_of, is_positive, is_negative}
use Rattle.cad_map.specs.Valid.{each_pair, has_outlines, are_holes_inside, are_holes_apart, has_sound_holes}
use Rattle.cad_map.proofs.CallerLemmas.{list_all-same}
use Rattle.cad_valid.specs.Shapes.{Shape, shape_of, AreShapes, are_shapes_apart, is_outline, is_hole, ToldApart, told_apart, are_sound}

-- ---- Ring after ring

pub told-next : (position : ℕ → Position) (rings : List Ring) (place : ℕ) (told new : ToldApart) (placed : Shape) → place < length rings
    → told ≡ told_apart (map (shape_of position) (take place rings)) → placed ≡ shape_of position (get_or rings place [])
    → ((shapes : List Shape) → told ≡ told_apart shapes → new ≡ told_apart (shapes ++ placed ∷ []))
    → new ≡ told_apart (map (shape_of position) (take (place + 1) rings))
told-next position rings place told new placed within so_far is added =
    added (map (shape_of position) (take place rings)) so_far
    ∙ ap told_apart (ap (λ (s : Shape). map (shape_of position) (take place rings) ++ s ∷ []) is ∙ sym (map_more (shape_of position) rings place [] within))

-- a ring with no more points than a map's strings have sides has no more sides
pub placed-few : (position : ℕ → Position) (ring : Ring) (placed : Shape) → placed ≡ shape_of position ring → length ring ≤ 400000 → length placed.sides ≤ 400000
placed-few position ring placed is few =
    let many = ap (λ (s : Shape). length s.sides) is ∙ length-map (sides_of ring) (λ s. (position s.0, position s.1)) ∙ length-sides_of ring in
    omega arith

-- ---- The rules of a face, of its rings in the plane

filter-map : {X Y : Type 0} (test : Y → Bool) (f : X → Y) (xs : List X) → filter test (map f xs) ≡ map f (filter (λ x. test (f x)) xs)
filter-map test f [] = refl
filter-map test f (x ∷ xs) = by (test (f x)) refl (filter-map test f xs)
  where
    by : (b : Bool) → test (f x) ≡ b → filter test (map f xs) ≡ map f (filter (λ x. test (f x)) xs) → filter test (map f (x ∷ xs)) ≡ map f (filter (λ x. test (f x)) (x ∷ xs))
    by true is rest = rw is (ap (λ l. f x ∷ l) rest)
    by false is rest = rw is rest

pairs-map : {X Y : Type 0} (f : X → Y) (test : Y → Y → Bool) (xs : List X) → each_pair test (map f xs) ≡ each_pair (λ x y. test (f x) (f y)) xs
pairs-map f test [] = refl
pairs-map f test (x ∷ xs) = λ i. list_all-map (test (f x)) f xs i && pairs-map f test xs i

module _ (m : Map) (rings : List Ring) (told : ToldApart) (is : told ≡ told_apart (map (shape_of (position_of m)) rings)) where
  abbrev shapes_where : (Ring → Bool) → List Shape
  shapes_where picked = map (shape_of (position_of m)) (filter picked rings)

  outlines-are : told.outlines ≡ shapes_where (is_positive m)
  outlines-are = ap (λ (t : ToldApart). t.outlines) is ∙ filter-map is_outline (shape_of (position_of m)) rings

  holes-are : told.holes ≡ shapes_where (is_negative m)
  holes-are = ap (λ (t : ToldApart). t.holes) is ∙ filter-map is_hole (shape_of (position_of m)) rings

  -- its holes are rings
  pub holes-shapes : AreShapes told.holes
  holes-shapes = record { position = position_of m; rings = filter (is_negative m) rings; are = holes-are }

  inside-told : list_all (λ hole. list_all (λ outline. is_inside outline.sides hole.anchor) told.outlines) told.holes ≡ are_holes_inside m rings
  inside-told =
      (λ i. list_all (λ (hole : Shape). list_all (λ (outline : Shape). is_inside outline.sides hole.anchor) (outlines-are i)) (holes-are i))
      ∙ list_all-map (λ (hole : Shape). list_all (λ (outline : Shape). is_inside outline.sides hole.anchor) (shapes_where (is_positive m))) (shape_of (position_of m)) (filter (is_negative m) rings)
      ∙ list_all-same _ _ (filter (is_negative m) rings)
      (λ hole _. list_all-map (λ (outline : Shape). is_inside outline.sides (position_of m (anchor_of hole))) (shape_of (position_of m)) (filter (is_positive m) rings))

  apart-told : each_pair are_shapes_apart told.holes ≡ are_holes_apart m rings
  apart-told = ap (each_pair are_shapes_apart) holes-are ∙ pairs-map (shape_of (position_of m)) are_shapes_apart (filter (is_negative m) rings)

  -- V8
  pub sound-told : are_sound told ≡ has_sound_holes m rings
  sound-told = λ i. inside-told i && apart-told i

  -- V7
  pub outlines-told : (n : ℕ) → ((length told.outlines == n) && told.have_areas) ≡ has_outlines n m rings
  outlines-told n =
      let many = ap length outlines-are ∙ length-map (filter (is_positive m) rings) (shape_of (position_of m)) ∙ length-filter (is_positive m) rings in
      let all = ap (λ (t : ToldApart). t.have_areas) is ∙ list_all-map (λ s. is_outline s || is_hole s) (shape_of (position_of m)) rings in
      λ i. nat_eq (many i) n && all i

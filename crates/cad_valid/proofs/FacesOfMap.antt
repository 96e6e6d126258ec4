-- The rules of a face's rings answer the same of the rings as they are kept and in canonical order.
use Rattle.std.proofs.Common.{◌≡◌, ℕ, refl, sym, ap, subst, ◌∙◌, List, filter, Bool, true, false, not, nat_eq, ℤ, pos}
use Rattle.std.specs.Prelude.{◌&&◌, ◌||◌, count_by, int_lt}
use Rattle.std.specs.List.{list_all}
use Rattle.geo_exact.specs.Measure.{doubled_area}
use Rattle.cad_rows.specs.declared.names.Face.{Face}
use Rattle.cad_rings.specs.Cycle.{Ring, sides_of, anchor_of}
use Rattle.cad_rings.proofs.CallerLemmas.{sides_of-same, ring_sum-same_ring, anchor_of-same}
use Rattle.cad_map.specs.declared.boundary.Boundary.{Boundary}
use Rattle.cad_map.specs.Boundaries.{canonical_order}
use Rattle.cad_map.specs.Map.{Map, position_of, rings_at, rings_of, is_positive, is_negative, is_in_ring}
use Rattle.cad_map.specs.Valid.{each_pair, has_outlines, are_holes_inside, are_holes_apart}
use Rattle.cad_map.proofs.CallerLemmas.{list_all-same, IsOfRing, IsOfTwoRings, TestAlike, rings_at-canonical_order, list_all-filter, list_all-none, each_pair-filter}
use Rattle.cad_valid.specs.Outlines.{is_either}
use Rattle.cad_valid.specs.Holes.{has_inside_if_outline, is_inside_if_hole, are_apart, is_apart_if_hole, is_apart_from_holes, are_apart_if_holes}
use Rattle.cad_valid.proofs.InsideBox.{inside-permuted}

module _ (m : Map) where
  -- ---- Where a ring is written from doesn't matter

  positive-of_ring : IsOfRing (is_positive m)
  positive-of_ring r s same = ap (int_lt (pos 0)) (ring_sum-same_ring doubled_area (position_of m) r s same)

  negative-of_ring : IsOfRing (is_negative m)
  negative-of_ring r s same = ap (λ (z : ℤ). int_lt z (pos 0)) (ring_sum-same_ring doubled_area (position_of m) r s same)

  inside-of_ring : (p : ℕ) → IsOfRing (λ r. is_in_ring m r p)
  inside-of_ring p r s same = inside-permuted (position_of m) (position_of m p) (sides_of r) (sides_of s) (sides_of-same r s same)

  outline-of_ring : (p : ℕ) → IsOfRing (has_inside_if_outline m p)
  outline-of_ring p r s same = λ i. not (positive-of_ring r s same i) || inside-of_ring p r s same i

  hole-of_ring : (rings : List Ring) → IsOfRing (is_inside_if_hole m rings)
  hole-of_ring rings r s same =
      λ i. not (negative-of_ring r s same i) || list_all (λ outline. is_in_ring m outline (anchor_of-same r s same i)) (filter (is_positive m) rings)

  apart-first : (t : Ring) → IsOfRing (λ r. are_apart m r t)
  apart-first t r s same = λ i. not (inside-of_ring (anchor_of t) r s same i) && not (is_in_ring m t (anchor_of-same r s same i))

  and_exchanged : (a b : Bool) → (a && b) ≡ (b && a)
  and_exchanged true true = refl
  and_exchanged true false = refl
  and_exchanged false true = refl
  and_exchanged false false = refl

  apart-either_way : (r s : Ring) → are_apart m r s ≡ are_apart m s r
  apart-either_way r s = and_exchanged (not (is_in_ring m r (anchor_of s))) (not (is_in_ring m s (anchor_of r)))

  apart-of_rings : IsOfTwoRings (are_apart_if_holes m)
  apart-of_rings = record {
    first = λ t r s same. λ i. not (negative-of_ring r s same i && is_negative m t) || apart-first t r s same i;
    second = λ t r s same. λ i. not (is_negative m t && negative-of_ring r s same i) || (apart-either_way t r ∙ apart-first t r s same ∙ apart-either_way s t) i;
    either_way = λ r s. λ i. not (and_exchanged (is_negative m r) (is_negative m s) i) || apart-either_way r s i;
  }

  -- ---- The rules, ring by ring

  pub inside-by_rings : (rings : List Ring) → are_holes_inside m rings ≡ list_all (is_inside_if_hole m rings) rings
  inside-by_rings rings = list_all-filter (is_negative m) (λ hole. list_all (λ outline. is_in_ring m outline (anchor_of hole)) (filter (is_positive m) rings)) rings

  pub outlines-by_rings : (p : ℕ) (rings : List Ring) → list_all (λ outline. is_in_ring m outline p) (filter (is_positive m) rings) ≡ list_all (has_inside_if_outline m p) rings
  outlines-by_rings p rings = list_all-filter (is_positive m) (λ outline. is_in_ring m outline p) rings

  pub apart-by_rings : (rings : List Ring) → are_holes_apart m rings ≡ each_pair (are_apart_if_holes m) rings
  apart-by_rings rings = each_pair-filter (is_negative m) (are_apart m) rings

  -- what one ring has to do with the later ones
  pub apart-from_one : (ring : Ring) (others : List Ring) → list_all (are_apart_if_holes m ring) others ≡ is_apart_from_holes m ring others
  apart-from_one ring others = by (is_negative m ring) refl
    where
      by : (b : Bool) → is_negative m ring ≡ b → list_all (are_apart_if_holes m ring) others ≡ is_apart_from_holes m ring others
      by true is = list_all-same (are_apart_if_holes m ring) (is_apart_if_hole m ring) others (λ other _. ap (λ (b : Bool). not (b && is_negative m other) || are_apart m ring other) is) ∙ sym (ap (λ (b : Bool). not b || list_all (is_apart_if_hole m ring) others) is)
      by false is = rw is (list_all-same (are_apart_if_holes m ring) (λ (other : Ring). true) others (λ other _. rw is refl) ∙ list_all-none (is_negative m) others)

  -- a ring without area, and a count of outlines among rings that have one
  pub outlines-wrong : (n : ℕ) (rings : List Ring) → list_all (is_either m) rings ≡ false → has_outlines n m rings ≡ false
  outlines-wrong n rings wrong = ap (λ (b : Bool). nat_eq (count_by (is_positive m) rings) n && b) wrong ∙ and_exchanged (nat_eq (count_by (is_positive m) rings) n) false

  pub outlines-counted : (n k : ℕ) (rings : List Ring) → count_by (is_positive m) rings ≡ k → list_all (is_either m) rings ≡ true → has_outlines n m rings ≡ nat_eq k n
  outlines-counted n k rings count all = (λ i. nat_eq (count i) n && all i) ∙ and_exchanged (nat_eq k n) true

  -- ---- As the rings are kept, and in canonical order

  module _ (f : Face) (bs : List Boundary) (is : canonical_order bs ≡ m.boundaries) where
    alike : TestAlike (rings_at f bs) (rings_of m f)
    alike = subst (λ (l : List Boundary). TestAlike (rings_at f bs) (rings_at f l)) is (rings_at-canonical_order f bs)

    pub outlines-canonical_order : (n : ℕ) → has_outlines n m (rings_at f bs) ≡ has_outlines n m (rings_of m f)
    outlines-canonical_order n =
        λ i. nat_eq (alike.count (is_positive m) positive-of_ring i) n && alike.all (λ r. is_positive m r || is_negative m r) (λ r s same. λ j. positive-of_ring r s same j || negative-of_ring r s same j) i

    pub inside-canonical_order : are_holes_inside m (rings_at f bs) ≡ are_holes_inside m (rings_of m f)
    inside-canonical_order =
        let kept = rings_at f bs in
        let canonical_form = rings_of m f in
        inside-by_rings kept
        ∙ list_all-same (is_inside_if_hole m kept) (is_inside_if_hole m canonical_form) kept
        (λ hole _. ap (λ (b : Bool). not (is_negative m hole) || b) (outlines-by_rings (anchor_of hole) kept ∙ alike.all (has_inside_if_outline m (anchor_of hole)) (outline-of_ring (anchor_of hole)) ∙ sym (outlines-by_rings (anchor_of hole) canonical_form)))
        ∙ alike.all (is_inside_if_hole m canonical_form) (hole-of_ring canonical_form) ∙ sym (inside-by_rings canonical_form)

    pub apart-canonical_order : are_holes_apart m (rings_at f bs) ≡ are_holes_apart m (rings_of m f)
    apart-canonical_order = apart-by_rings (rings_at f bs) ∙ alike.pairs (are_apart_if_holes m) apart-of_rings ∙ sym (apart-by_rings (rings_of m f))

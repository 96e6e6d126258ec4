-- What listing boundaries keeps: the sides and corners of their rings, and whatever exchanges and rotations keep.
use Rattle.std.proofs.Common.{subst, List, [], ◌∷◌, ◌++◌, append_assoc, Bool, true, false}
use Rattle.std.proofs.lemmas.List.Sorted.{IsPermutation-refl, IsPermutation-trans, IsPermutation-append_left, IsPermutation-append_right, IsPermutation-append_comm}
use Rattle.std.specs.Prelude.{IsPermutation, if◌then◌else◌, flat_map}
use Rattle.cad_rings.specs.Cycle.{sides_of, corners_of}
use Rattle.cad_rings.proofs.CallerLemmas.{sides_of-least_rotation, corners_of-same, IsSameRing-least_rotation}
use Rattle.cad_map.specs.declared.boundary.Boundary.{Boundary}
use Rattle.cad_map.specs.Boundaries.{canonical_form, boundary_comes_first, put_in_canonical_order, canonical_order, sides_in, corners_in}

-- a relation between lists of boundaries that stands exchanges, and rings written in canonical form
pub record StandsListing (E : List Boundary → List Boundary → Type 0) : Type 0 where
  pub same : (bs : List Boundary) → E bs bs
  pub through : (bs cs ds : List Boundary) → E bs cs → E cs ds → E bs ds
  pub more : (b : Boundary) (bs cs : List Boundary) → E bs cs → E (b ∷ bs) (b ∷ cs)
  pub exchanged : (a b : Boundary) (bs : List Boundary) → E (a ∷ b ∷ bs) (b ∷ a ∷ bs)
  pub as_canonical : (b : Boundary) (bs : List Boundary) → E (b ∷ bs) (canonical_form b ∷ bs)

module _ (E : List Boundary → List Boundary → Type 0) (stands : StandsListing E) where
  put : (a : Boundary) (bs : List Boundary) → E (a ∷ bs) (put_in_canonical_order a bs)
  put a [] = stands.same (a ∷ [])
  put a (b ∷ bs) = by (boundary_comes_first a b) (put a bs)
    where
      by : (t : Bool) → E (a ∷ bs) (put_in_canonical_order a bs) → E (a ∷ b ∷ bs) (if t then a ∷ b ∷ bs else b ∷ put_in_canonical_order a bs)
      by true rest = stands.same (a ∷ b ∷ bs)
      by false rest = stands.through (a ∷ b ∷ bs) (b ∷ a ∷ bs) (b ∷ put_in_canonical_order a bs) (stands.exchanged a b bs) (stands.more b (a ∷ bs) (put_in_canonical_order a bs) rest)

  -- such a relation holds between boundaries and the same in canonical order
  pub canonical_order-related : (bs : List Boundary) → E bs (canonical_order bs)
  canonical_order-related [] = stands.same []
  canonical_order-related (b ∷ bs) =
      stands.through (b ∷ bs) (canonical_form b ∷ bs) (canonical_order (b ∷ bs)) (stands.as_canonical b bs)
      (stands.through (canonical_form b ∷ bs) (canonical_form b ∷ canonical_order bs) (canonical_order (b ∷ bs)) (stands.more (canonical_form b) bs (canonical_order bs) (canonical_order-related bs)) (put (canonical_form b) (canonical_order bs)))

-- two lists before a third may change places
pub front_exchanged : {A : Type 0} (xs ys zs : List A) → IsPermutation (xs ++ (ys ++ zs)) (ys ++ (xs ++ zs))
front_exchanged {A = A} xs ys zs =
    subst (λ (l : List A). IsPermutation l (ys ++ (xs ++ zs))) (append_assoc xs ys zs)
    (subst (λ (l : List A). IsPermutation ((xs ++ ys) ++ zs) l) (append_assoc ys xs zs)
    (IsPermutation-append_left zs (xs ++ ys) (ys ++ xs) (IsPermutation-append_comm xs ys)))

module _ {A : Type 0} (parts : Boundary → List A) (kept : (b : Boundary) → IsPermutation (parts b) (parts (canonical_form b))) where
  -- what rings have wherever they are written from, they have in canonical order
  pub parts-canonical_order : (bs : List Boundary) → IsPermutation (flat_map parts bs) (flat_map parts (canonical_order bs))
  parts-canonical_order bs = canonical_order-related (λ bs cs. IsPermutation (flat_map parts bs) (flat_map parts cs)) stands bs
    where
      stands : StandsListing (λ bs cs. IsPermutation (flat_map parts bs) (flat_map parts cs))
      stands = record {
        same = λ bs. IsPermutation-refl (flat_map parts bs);
        through = λ bs cs ds. IsPermutation-trans (flat_map parts bs) (flat_map parts cs) (flat_map parts ds);
        more = λ b bs cs. IsPermutation-append_right (parts b) (flat_map parts bs) (flat_map parts cs);
        exchanged = λ a b bs. front_exchanged (parts a) (parts b) (flat_map parts bs);
        as_canonical = λ b bs. IsPermutation-append_left (flat_map parts bs) (parts b) (parts (canonical_form b)) (kept b);
      }

pub sides_in-canonical_order : (bs : List Boundary) → IsPermutation (sides_in bs) (sides_in (canonical_order bs))
sides_in-canonical_order bs = parts-canonical_order (λ b. sides_of b.ring) (λ b. sides_of-least_rotation b.ring) bs

pub corners_in-canonical_order : (bs : List Boundary) → IsPermutation (corners_in bs) (corners_in (canonical_order bs))
corners_in-canonical_order bs = parts-canonical_order (λ b. corners_of b.ring) (λ b. corners_of-same b.ring (canonical_form b).ring (IsSameRing-least_rotation b.ring)) bs

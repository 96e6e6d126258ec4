-- The least rotation is the one form of a ring: it is a rotation, it comes before all others, and two lists are the same ring exactly where it is the same.
use Rattle.std.proofs.Common.{◌≡◌, ℕ, refl, sym, ◌∙◌, ap, subst, List, [], ◌∷◌, ◌++◌, take, drop, append_assoc, Bool, true, false}
use Rattle.std.proofs.lemmas.List.{append-nil, take-append-drop}
use Rattle.std.specs.Prelude.{if◌then◌else◌}
use Rattle.std.specs.List.{AllByRecursion}
use Rattle.cad_rings.specs.Cycle.{Ring, turned, IsSameRing}
use Rattle.cad_rings.specs.Canonical.{comes_first, rotations_from, rotations, least, least_rotation}
use Rattle.cad_rings.proofs.Order.{comes_first-refl, comes_first-total, comes_first-trans}
use Rattle.cad_rings.proofs.Least.{least_rotation-moved}
use Rattle.cad_rings.proofs.Turned.{IsSameRing-append, IsSameRing-refl, IsSameRing-sym, IsSameRing-trans, IsSameRing-turned}

-- ---- It is a rotation

-- what holds of each candidate holds of the least
pub least-holds : (P : List ℕ → Type 0) (best : List ℕ) (xs : List (List ℕ)) → P best → AllByRecursion P xs → P (least best xs)
least-holds P best [] h hs = h
least-holds P best (x ∷ xs) h hs = least-holds P (if comes_first best x then best else x) xs (one (comes_first best x)) hs.1
  where
    one : (t : Bool) → P (if t then best else x)
    one true = h
    one false = hs.0

all_rotations : (front back : List ℕ) (ring : Ring) → front ++ back ≡ ring → AllByRecursion (λ q. IsSameRing ring q) (rotations_from front back)
all_rotations front [] ring e = tt
all_rotations front (x ∷ back) ring e = (
  subst (λ (l : List ℕ). IsSameRing l (x ∷ back ++ front)) e (IsSameRing-append front (x ∷ back)),
  all_rotations (front ++ x ∷ []) back ring (append_assoc front (x ∷ []) back ∙ e),
)

pub IsSameRing-least_rotation : (ring : Ring) → IsSameRing ring (least_rotation ring)
IsSameRing-least_rotation ring = least-holds (λ q. IsSameRing ring q) ring (rotations ring) (IsSameRing-refl ring) (all_rotations [] ring ring refl)

-- ---- It comes before all others

-- the least comes before best, and before each of the lists
pub record IsLeast (best : List ℕ) (xs : List (List ℕ)) : Type 0 where
  pub before_best : comes_first (least best xs) best ≡ true
  pub before_each : AllByRecursion (λ x. comes_first (least best xs) x ≡ true) xs

lower_left : (a b : List ℕ) (t : Bool) → comes_first a b ≡ t → comes_first (if t then a else b) a ≡ true
lower_left a b true h = comes_first-refl a
lower_left a b false h = comes_first-total a b h

lower_right : (a b : List ℕ) (t : Bool) → comes_first a b ≡ t → comes_first (if t then a else b) b ≡ true
lower_right a b true h = h
lower_right a b false h = comes_first-refl b

pub least-is_least : (best : List ℕ) (xs : List (List ℕ)) → IsLeast best xs
least-is_least best [] = record { before_best = comes_first-refl best; before_each = tt }
least-is_least best (x ∷ xs) =
    let b = if comes_first best x then best else x in
    let rest = least-is_least b xs in
    record {
      before_best = comes_first-trans (least b xs) b best rest.before_best (lower_left best x (comes_first best x) refl);
      before_each = (comes_first-trans (least b xs) b x rest.before_best (lower_right best x (comes_first best x) refl), rest.before_each);
    }

-- one of the rotations
rotation_holds : (P : List ℕ → Type 0) (front passed back : List ℕ) → P (front ++ (passed ++ back)) → AllByRecursion P (rotations_from front (passed ++ back)) → P (back ++ (front ++ passed))
rotation_holds P front passed [] h hs = subst P (ap (λ (l : List ℕ). front ++ l) (append-nil passed)) h
rotation_holds P front [] (x ∷ back) h hs = subst (λ (l : List ℕ). P (x ∷ back ++ l)) (sym (append-nil front)) hs.0
rotation_holds P front (y ∷ passed) (x ∷ back) h hs =
    subst (λ (l : List ℕ). P (x ∷ back ++ l)) (append_assoc front (y ∷ []) passed)
    (rotation_holds P (front ++ y ∷ []) passed (x ∷ back) (subst P (sym (append_assoc front (y ∷ []) (passed ++ x ∷ back))) h) hs.1)

pub least_rotation-comes_first : (ring : Ring) (k : ℕ) → comes_first (least_rotation ring) (turned k ring) ≡ true
least_rotation-comes_first ring k =
    let P : List ℕ → Type 0 = λ q. comes_first (least_rotation ring) q ≡ true in
    let all = least-is_least ring (rotations ring) in
    let e = take-append-drop k ring in
    rotation_holds P [] (take k ring) (drop k ring) (subst P (sym e) all.before_best) (subst (λ (l : List ℕ). AllByRecursion P (rotations_from [] l)) (sym e) all.before_each)

-- ---- It is the same for the same ring, and for no other

pub least_rotation-same : (r s : Ring) → IsSameRing r s → least_rotation r ≡ least_rotation s
least_rotation-same r s h =
    ap least_rotation (sym (take-append-drop h.place r)) ∙ least_rotation-moved (take h.place r) (drop h.place r) ∙ ap least_rotation (sym h.is)

pub IsSameRing-from_least_rotation : (r s : Ring) → least_rotation r ≡ least_rotation s → IsSameRing r s
IsSameRing-from_least_rotation r s e =
    IsSameRing-trans r (least_rotation r) s (IsSameRing-least_rotation r)
    (subst (λ (l : List ℕ). IsSameRing l s) (sym e) (IsSameRing-sym s (least_rotation s) (IsSameRing-least_rotation s)))

pub least_rotation-least_rotation : (ring : Ring) → least_rotation (least_rotation ring) ≡ least_rotation ring
least_rotation-least_rotation ring = sym (least_rotation-same ring (least_rotation ring) (IsSameRing-least_rotation ring))

pub least_rotation-turned : (k : ℕ) (ring : Ring) → least_rotation (turned k ring) ≡ least_rotation ring
least_rotation-turned k ring = sym (least_rotation-same ring (turned k ring) (IsSameRing-turned k ring))

-- The least rotation is that of the cyclic list: the same wherever the ring is written from.
use Rattle.std.proofs.Common.{◌≡◌, ℕ, refl, sym, ◌∙◌, ap, List, [], ◌∷◌, ◌++◌, append_assoc, Bool, true, false}
use Rattle.std.proofs.lemmas.List.{append-nil}
use Rattle.std.specs.Prelude.{if◌then◌else◌}
use Rattle.cad_rings.specs.Cycle.{Ring}
use Rattle.cad_rings.specs.Canonical.{comes_first, rotations_from, rotations, least, least_rotation}
use Rattle.cad_rings.proofs.Order.{comes_first-total, comes_first-antisym, comes_first-trans}

-- the one of two that comes first
abbrev lower : List ℕ → List ℕ → List ℕ
lower a b = if comes_first a b then a else b

lower_same : (a : List ℕ) → lower a a ≡ a
lower_same a = go (comes_first a a)
  where
    go : (t : Bool) → (if t then a else a) ≡ a
    go true = refl
    go false = refl

lower_comm : (a b : List ℕ) → lower a b ≡ lower b a
lower_comm a b = go (comes_first a b) (comes_first b a) refl refl
  where
    go : (t u : Bool) → comes_first a b ≡ t → comes_first b a ≡ u → lower a b ≡ lower b a
    go true true h k = simp (h, k) (comes_first-antisym a b h k)
    go true false h k = simp (h, k)
    go false true h k = simp (h, k)
    go false false h k = let e = comes_first-total a b h in cc

lower_assoc : (a b c : List ℕ) → lower (lower a b) c ≡ lower a (lower b c)
lower_assoc a b c = go (comes_first a b) (comes_first b c) (comes_first a c) refl refl refl
  where
    go : (t u v : Bool) → comes_first a b ≡ t → comes_first b c ≡ u → comes_first a c ≡ v → lower (lower a b) c ≡ lower a (lower b c)
    go true true true h k l = simp (h, k, l)
    go true true false h k l = let e = comes_first-trans a b c h k in cc
    go true false true h k l = simp (h, k, l)
    go true false false h k l = simp (h, k, l)
    go false true v h k l = simp (h, k)
    go false false true h k l = let e = comes_first-total a b h in let f = comes_first-trans b a c e l in cc
    go false false false h k l = simp (h, k, l)

least-append : (best : List ℕ) (xs ys : List (List ℕ)) → least best (xs ++ ys) ≡ least (least best xs) ys
least-append best [] ys = refl
least-append best (x ∷ xs) ys = least-append (lower best x) xs ys

least-lower : (a b : List ℕ) (xs : List (List ℕ)) → least (lower a b) xs ≡ lower a (least b xs)
least-lower a b [] = refl
least-lower a b (x ∷ xs) = ap (λ (l : List ℕ). least l xs) (lower_assoc a b x) ∙ least-lower a (lower b x) xs

-- of two lists, one after the other, in either order
least_both : (u v : List ℕ) (us vs : List (List ℕ)) → least u (us ++ v ∷ vs) ≡ lower (least u us) (least v vs)
least_both u v us vs = least-append u us (v ∷ vs) ∙ least-lower (least u us) v vs

least_swap : (u v : List ℕ) (us vs : List (List ℕ)) → least u (us ++ v ∷ vs) ≡ least v (vs ++ u ∷ us)
least_swap u v us vs = least_both u v us vs ∙ lower_comm (least u us) (least v vs) ∙ sym (least_both v u vs us)

-- the rotations that begin in back, of front ++ back ++ tail
abbrev rotations_within : List ℕ → List ℕ → List ℕ → List Ring
rotations_within front [] tail = []
rotations_within front (x ∷ back) tail = (x ∷ back ++ (tail ++ front)) ∷ rotations_within (front ++ x ∷ []) back tail

all_within : (front back : List ℕ) → rotations_from front back ≡ rotations_within front back []
all_within front [] = refl
all_within front (x ∷ back) = ap (λ (l : List Ring). (x ∷ back ++ front) ∷ l) (all_within (front ++ x ∷ []) back)

within-append : (front xs ys tail : List ℕ) → rotations_within front (xs ++ ys) tail ≡ rotations_within front xs (ys ++ tail) ++ rotations_within (front ++ xs) ys tail
within-append front [] ys tail = ap (λ (l : List ℕ). rotations_within l ys tail) (sym (append-nil front))
within-append front (x ∷ xs) ys tail =
    let head : x ∷ (xs ++ ys) ++ (tail ++ front) ≡ x ∷ xs ++ ((ys ++ tail) ++ front) = simp append_assoc in
    let e : front ++ x ∷ [] ++ xs ≡ front ++ x ∷ xs = append_assoc front (x ∷ []) xs in
    (λ i. head i ∷ within-append (front ++ x ∷ []) xs ys tail i)
    ∙ ap (λ (l : List ℕ). (x ∷ xs ++ ((ys ++ tail) ++ front)) ∷ (rotations_within (front ++ x ∷ []) xs (ys ++ tail) ++ rotations_within l ys tail)) e

-- what is in front may as well be behind
within_moved : (g front ys tail : List ℕ) → rotations_within (g ++ front) ys tail ≡ rotations_within front ys (tail ++ g)
within_moved g front [] tail = refl
within_moved g front (y ∷ ys) tail =
    let head : y ∷ ys ++ (tail ++ (g ++ front)) ≡ y ∷ ys ++ ((tail ++ g) ++ front) = simp append_assoc in
    let e : (g ++ front) ++ y ∷ [] ≡ g ++ (front ++ y ∷ []) = append_assoc g front (y ∷ []) in
    (λ i. head i ∷ rotations_within (e i) ys tail) ∙ ap (λ (l : List Ring). (y ∷ ys ++ ((tail ++ g) ++ front)) ∷ l) (within_moved g (front ++ y ∷ []) ys tail)

within_front : (g ys tail : List ℕ) → rotations_within g ys tail ≡ rotations_within [] ys (tail ++ g)
within_front g ys tail = ap (λ (l : List ℕ). rotations_within l ys tail) (sym (append-nil g)) ∙ within_moved g [] ys tail

-- the rotations of two pieces, in two runs
rotations-append : (xs ys : List ℕ) → rotations (xs ++ ys) ≡ rotations_within [] xs ys ++ rotations_within [] ys xs
rotations-append xs ys =
    all_within [] (xs ++ ys) ∙ within-append [] xs ys []
    ∙ (λ i. rotations_within [] xs (append-nil ys i) ++ within_front xs ys [] i)

least_rotation_is : (a : ℕ) (xs : List ℕ) (b : ℕ) (ys : List ℕ) → least_rotation (a ∷ xs ++ b ∷ ys) ≡ least (a ∷ xs ++ b ∷ ys) (rotations_within [] (a ∷ xs) (b ∷ ys) ++ rotations_within [] (b ∷ ys) (a ∷ xs))
least_rotation_is a xs b ys = ap (least (a ∷ xs ++ b ∷ ys)) (rotations-append (a ∷ xs) (b ∷ ys))

first_of_itself : (r u : List ℕ) (rest : List (List ℕ)) → r ≡ u → least r (u ∷ rest) ≡ least u rest
first_of_itself r u rest e = ap (λ (x : List ℕ). least (lower x u) rest) e ∙ ap (λ (x : List ℕ). least x rest) (lower_same u)

-- the ring from its first point on, and the others that begin in the same piece
abbrev head_of : ℕ → List ℕ → List ℕ → List ℕ
head_of a xs ys = a ∷ xs ++ (ys ++ [])

abbrev rest_of : ℕ → List ℕ → List ℕ → List Ring
rest_of a xs ys = rotations_within (a ∷ []) xs ys

from_first : (a : ℕ) (xs : List ℕ) (b : ℕ) (ys : List ℕ) → least_rotation (a ∷ xs ++ b ∷ ys) ≡ least (head_of a xs (b ∷ ys)) (rest_of a xs (b ∷ ys) ++ head_of b ys (a ∷ xs) ∷ rest_of b ys (a ∷ xs))
from_first a xs b ys =
    least_rotation_is a xs b ys
    ∙ first_of_itself (a ∷ xs ++ b ∷ ys) (head_of a xs (b ∷ ys)) (rest_of a xs (b ∷ ys) ++ head_of b ys (a ∷ xs) ∷ rest_of b ys (a ∷ xs))
    (ap (λ (l : List ℕ). a ∷ xs ++ l) (sym (append-nil (b ∷ ys))))

two_pieces : (a : ℕ) (xs : List ℕ) (b : ℕ) (ys : List ℕ) → least_rotation (a ∷ xs ++ b ∷ ys) ≡ least_rotation (b ∷ ys ++ a ∷ xs)
two_pieces a xs b ys =
    from_first a xs b ys ∙ least_swap (head_of a xs (b ∷ ys)) (head_of b ys (a ∷ xs)) (rest_of a xs (b ∷ ys)) (rest_of b ys (a ∷ xs)) ∙ sym (from_first b ys a xs)

-- The ring written from another point on has the same least rotation.
pub least_rotation-moved : (front back : List ℕ) → least_rotation (front ++ back) ≡ least_rotation (back ++ front)
least_rotation-moved [] back = ap least_rotation (sym (append-nil back))
least_rotation-moved (a ∷ front) [] = ap least_rotation (append-nil (a ∷ front))
least_rotation-moved (a ∷ front) (b ∷ back) = two_pieces a front b back

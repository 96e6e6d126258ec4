-- One more ring placed, and one that is left out.
use Rattle.std.proofs.Common.{◌≡◌, ℕ, ◌+◌, ◌<◌, sym, ap, subst, ◌∙◌, List, [], ◌∷◌, ◌++◌, length, take, map, filter, get_or, add-one, Bool, true, false, cond}
use Rattle.std.proofs.Math.Seq.{take-suc}
use Rattle.std.proofs.lemmas.List.{map-append, append-nil}
use Rattle.std.proofs.lemmas.List.Elements.{filter-append}
use Rattle.cad_map.specs.declared.boundary.Boundary.{Boundary}

-- the boundary at a place of a list that was lent
module _ (lent bs : List Boundary) (same : lent ≡ bs) (i : ℕ) (b : Boundary) (within : i < length lent) (is : b ≡ get_or lent i b) where
  one_more : take (i + 1) bs ≡ take i bs ++ b ∷ []
  one_more =
      ap (λ (n : ℕ). take n bs) (add-one i) ∙ take-suc bs i b (subst (λ (l : List Boundary). i < length l) same within)
      ∙ ap (λ (c : Boundary). take i bs ++ c ∷ []) (sym (subst (λ (l : List Boundary). b ≡ get_or l i b) same is))

  pub placed-more : (place : Boundary → Boundary) → map place (take (i + 1) bs) ≡ map place (take i bs) ++ place b ∷ []
  placed-more place = ap (map place) one_more ∙ map-append place (take i bs) (b ∷ [])

  module _ (test : Boundary → Bool) where
    kept : filter test (take (i + 1) bs) ≡ filter test (take i bs) ++ cond (test b) (b ∷ []) []
    kept = ap (filter test) one_more ∙ filter-append test (take i bs) (b ∷ [])

    pub placed-kept : (place : Boundary → Boundary) → test b ≡ true → map place (filter test (take (i + 1) bs)) ≡ map place (filter test (take i bs)) ++ place b ∷ []
    placed-kept place passes = ap (map place) (kept ∙ ap (λ (t : Bool). filter test (take i bs) ++ cond t (b ∷ []) []) passes) ∙ map-append place (filter test (take i bs)) (b ∷ [])

    pub placed-left_out : (place : Boundary → Boundary) → test b ≡ false → map place (filter test (take (i + 1) bs)) ≡ map place (filter test (take i bs))
    placed-left_out place fails = ap (map place) (kept ∙ ap (λ (t : Bool). filter test (take i bs) ++ cond t (b ∷ []) []) fails ∙ append-nil (filter test (take i bs)))

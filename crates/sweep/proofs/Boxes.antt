-- A list of boxes, as it grows.
use Rattle.std.proofs.Common.{◌≡◌, ℕ, ◌++◌, List, [], ◌∷◌, get_or, subst, arith, inl, inr}
use Rattle.std.specs.List.{Contains}
use Rattle.std.proofs.lemmas.List.Elements.{Contains-append_cases}
use Rattle.sweep.specs.declared.extent.Extent.{Extent}
use Rattle.sweep.specs.Extents.{IsExtent, HasExtents}

-- the only element of a list of one
pub is_of_one : {X : Type 0} (x s : X) → Contains (x ∷ []) s → x ≡ s
is_of_one x s has =
    let first : has.0 ≡ 0 = omega (arith, has.1) in
    subst (λ (k : ℕ). get_or (x ∷ []) k s ≡ s) first has.2

pub HasExtents-none : HasExtents []
HasExtents-none = record { each = λ e has. absurd (omega (arith, has.1)) }

-- one more box
pub HasExtents-push : (xs : List Extent) (x : Extent) → HasExtents xs → IsExtent x → HasExtents (xs ++ x ∷ [])
HasExtents-push xs x boxes is =
    record {
      each = λ e has. elim (Contains-append_cases xs (x ∷ []) e has) [
        | inl before ↦ boxes.each e before
        | inr now ↦ subst IsExtent (is_of_one x e now) is
      ];
    }

-- The spokes of marked points, of lists behind one another.
use Rattle.std.proofs.Common.{◌≡◌, ◌++◌, [], ℕ, Bool, true, false, refl, sym, List}
use Rattle.std.proofs.lemmas.List.Elements.{filter-append}
use Rattle.std.specs.Prelude.{◌==◌}
use Rattle.cad_map.specs.declared.stars.Spoke.{Spoke}
use Rattle.cad_map.specs.Stars.{is_marked, marked_star}

module _ (marks : List Bool) (p : ℕ) where
  -- a marked point's spokes of two lists are those of the first, and then those of the second
  pub marked_append : (first second : List Spoke) → marked_star marks p first ++ marked_star marks p second ≡ marked_star marks p (first ++ second)
  marked_append first second = by (is_marked marks p) refl
    where
      by : (b : Bool) → is_marked marks p ≡ b → marked_star marks p first ++ marked_star marks p second ≡ marked_star marks p (first ++ second)
      by true is = rw is (sym (filter-append (λ s. s.at == p) first second))
      by false is = rw is refl

  -- of no spokes none are a point's
  pub marked_none : marked_star marks p [] ≡ []
  marked_none = by (is_marked marks p) refl
    where
      by : (b : Bool) → is_marked marks p ≡ b → marked_star marks p [] ≡ []
      by true is = rw is refl
      by false is = rw is refl

-- What was gathered of an edit, and what is seen of it.
use Rattle.std.proofs.Common.{◌≡◌, ◌≢◌, ℕ, List, [], ◌∷◌, ◌++◌, map, take, Some, None, refl, subst, true, ◌+◌}
use Rattle.std.specs.Prelude.{slice_get}
use Rattle.std.specs.List.{AllByRecursion, Contains}
use Rattle.std.proofs.lemmas.List.Elements.{Contains-append_left, Contains-push}
use Rattle.geo_exact.specs.Position.{Position}
use Rattle.numbered_rows.specs.Rows.{row_with}
use Rattle.cad_map.specs.Valid.{EachPair}
use Rattle.cad_map.proofs.CallerLemmas.{All-follows, All-push, take-more}
use Rattle.cad_near.specs.declared.seen.Lying.{Lying}
use Rattle.cad_near.specs.declared.seen.Reach.{Reach}
use Rattle.cad_near.specs.Seen.{IsInReach, HasInReach}
use Rattle.cad_near.proofs.RowsByNumber.{OfRow, of-row, of-none}

-- what lies in a box lies in a wider one
pub wider_of : (r s : Reach) → ((q : Position) → IsInReach r q → IsInReach s q) → (f : Lying) → HasInReach r f → HasInReach s f
wider_of r s wider f h = record { a = wider f.a h.a; b = wider f.b h.b }

-- and all that does
pub in_wider : (r s : Reach) → ((q : Position) → IsInReach r q → IsInReach s q) → (items : List Lying) → AllByRecursion (HasInReach r) items → AllByRecursion (HasInReach s) items
in_wider r s wider items all = All-follows (HasInReach r) (HasInReach s) (λ f h. wider_of r s wider f h) items all

-- one element more of a list passes
pub one_more : {X : Type 0} (P : X → Type 0) (xs : List X) (k : ℕ) (x : X) → slice_get xs k ≡ Some x → AllByRecursion P (take k xs) → P x → AllByRecursion P (take (k + 1) xs)
one_more P xs k x at all here = subst (AllByRecursion P) (take-more xs k x at) (All-push P (take k xs) x all here)

module _ {R : Type 0} (number : R → ℕ) (rows : List R) (apart : EachPair (λ a b. a ≢ b) (map number rows)) (numbers : List ℕ) (k n : ℕ) (at : slice_get numbers k ≡ Some n) where
  -- what holds of the rows of those numbers so far, where it goes on to hold and does so of the row of the next number, if there is one
  module _ (P Q : R → Type 0) (kept : (r : R) → P r → Q r) (all : AllByRecursion (OfRow number rows P) (take k numbers)) where
    kept-so_far : AllByRecursion (OfRow number rows Q) (take k numbers)
    kept-so_far = All-follows (OfRow number rows P) (OfRow number rows Q) (λ j is r h same. kept r (is r h same)) (take k numbers) all

    pub row-more : (row : R) → row_with number n rows ≡ Some row → Q row → AllByRecursion (OfRow number rows Q) (take (k + 1) numbers)
    row-more row found here = one_more (OfRow number rows Q) numbers k n at kept-so_far ((of-row number rows apart Q n row found true ((λ _. here), (λ _. refl))).0 refl)

    -- and where there is none
    pub no_row-more : row_with number n rows ≡ None → AllByRecursion (OfRow number rows Q) (take (k + 1) numbers)
    no_row-more none = one_more (OfRow number rows Q) numbers k n at kept-so_far ((of-none number rows apart Q n none).0 refl)

  -- what stands for each row of a number, among what was gathered before
  module _ {X : Type 0} (as_item : R → X) (before : List X) where
    abbrev IsIn : List X → R → Type 0
    IsIn items r = Contains items (as_item r)

    -- the row with the next number was gathered
    pub row-gathered : (items : List X) (row : R) → row_with number n rows ≡ Some row → items ≡ before ++ as_item row ∷ []
        → AllByRecursion (OfRow number rows (IsIn before)) (take k numbers) → AllByRecursion (OfRow number rows (IsIn items)) (take (k + 1) numbers)
    row-gathered items row found put all =
        rw put (row-more (IsIn before) (IsIn (before ++ as_item row ∷ [])) (λ r h. Contains-append_left before (as_item row ∷ []) (as_item r) h) all row found (Contains-push before (as_item row)))

    -- there was none with it
    pub no_row-gathered : (items : List X) → row_with number n rows ≡ None → items ≡ before
        → AllByRecursion (OfRow number rows (IsIn before)) (take k numbers) → AllByRecursion (OfRow number rows (IsIn items)) (take (k + 1) numbers)
    no_row-gathered items none same all = rw same (no_row-more (IsIn before) (IsIn before) (λ r h. h) all none)

-- The map of a plan's rows and rings, where no fault was found.
use Rattle.std.proofs.Common.{◌≡◌, ◌≤◌, ◌∷◌, [], ◌∙◌, refl, List, length, Option, Some, None}
use Rattle.std.specs.Prelude.{IsPermutation}
use Rattle.std.specs.List.{AllByRecursion}
use Rattle.cad_rows.specs.declared.refusals.Rule.TheVariants.{V6}
use Rattle.cad_map.specs.declared.boundary.Boundary.{Boundary}
use Rattle.cad_map.specs.Boundaries.{canonical_order}
use Rattle.cad_map.specs.Valid.{HasSoundRows, HasTwoEnds, HasCompleteRings, CanBeTested, Keeps, KeepsAll}
use Rattle.cad_map.proofs.CallerLemmas.{valid-from_kept, All-follows, canonical_order-canonical_order}
use Rattle.cad_files.specs.Rows.{Rows, AreInRange}
use Rattle.cad_files.specs.Building.{map_of, first_fault, first_some, IsMapOf, IsBuilt}
use Rattle.cad_files.specs.Follower.{HasRingsOf, followers}
use Rattle.cad_files.specs.Cycles.{FollowedSide, AreSidesOf, AreFollowed, followed_in, side_of_followed}
use Rattle.cad_files.proofs.NoCornerMet.{corners-empty}
use Rattle.cad_files.proofs.CycleSides.{are-followed}
use Rattle.cad_files.proofs.CycleRings.{has-rings, followers-same, two-canonical_order}
use Rattle.cad_files.proofs.CycleRules.{complete-rings, points-known}
use Rattle.cad_files.proofs.CycleRules.{faces-known as ring-faces-known}
use Rattle.cad_files.proofs.ValidFacts.{faultless, with_rings, ends-differ, faces-differ, row-ends-known, faces-known, sound_rows, two_ends}

-- the first of several, where it is there
pub some-first : {X : Type 0} (o : Option X) (rest : List (Option X)) (x : X) → o ≡ Some x → first_some (o ∷ rest) ≡ Some x
some-first o rest x is = rw is refl

module _ (rows : Rows) (range : AreInRange rows) (none : first_fault rows ≡ None) (sides : List FollowedSide) (of : AreSidesOf (map_of rows) rows.strings sides) where
  -- the sides lead to one another
  pub are : AreFollowed sides
  are = are-followed (map_of rows) rows.strings sides of (ends-differ rows range none) (faultless rows none).corner (faultless rows none).label

  module _ (bs : List Boundary) (two : AllByRecursion (λ b. 2 ≤ length b.ring) bs) (rings : IsPermutation sides (followed_in bs)) where
    of_m : AreSidesOf (with_rings rows (canonical_order bs)) rows.strings sides
    of_m = record {
      labels = of.labels;
      followers = All-follows (λ s. followers (map_of rows) (side_of_followed s) ≡ s.after ∷ []) (λ s. followers (with_rings rows (canonical_order bs)) (side_of_followed s) ≡ s.after ∷ []) (λ s is. followers-same (with_rings rows (canonical_order bs)) (map_of rows) refl refl (side_of_followed s) ∙ is) sides of.followers;
    }

    has : HasRingsOf (with_rings rows (canonical_order bs)) rows.strings
    has = has-rings (with_rings rows (canonical_order bs)) rows.strings sides bs refl refl of_m are two rings

    sound : HasSoundRows (with_rings rows (canonical_order bs))
    sound =
        sound_rows rows range none (canonical_order bs) (points-known (with_rings rows (canonical_order bs)) rows.strings has (row-ends-known rows range none))
        (ring-faces-known (with_rings rows (canonical_order bs)) rows.strings sides bs refl of_m two rings (faces-known rows range none)) (canonical_order-canonical_order bs)

    ends : HasTwoEnds (with_rings rows (canonical_order bs))
    ends = two_ends rows range none (canonical_order bs)

    complete : HasCompleteRings (with_rings rows (canonical_order bs))
    complete = complete-rings (with_rings rows (canonical_order bs)) rows.strings has (two-canonical_order bs two) (faces-differ rows range none)

    -- its rows are the plan's, and its rings those of the plan's strings
    pub is_map : IsMapOf rows (with_rings rows (canonical_order bs))
    is_map = record { sources = refl; points = refl; parcels = refl; retired = refl; rings = has }

    -- it can be asked of it what rule it breaks first
    pub tested : CanBeTested (with_rings rows (canonical_order bs))
    tested = record { v1 = sound; v2 = ends; v5 = λ v3 v4. complete }

    -- its corners are empty, since each is that of a side and its follower
    pub corners : Keeps (with_rings rows (canonical_order bs)) V6
    corners = corners-empty (with_rings rows (canonical_order bs)) has.followers

    -- where it breaks none, it is built
    pub built : KeepsAll (with_rings rows (canonical_order bs)) → IsBuilt rows (with_rings rows (canonical_order bs))
    built keeps = record { faultless = none; is = is_map; valid = valid-from_kept (with_rings rows (canonical_order bs)) tested keeps }

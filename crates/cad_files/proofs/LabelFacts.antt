-- Sides whose followers have their faces.
use Rattle.std.proofs.Common.{◌≡◌, ◌≢◌, ◌∙◌, sym, ap, refl, subst, List, [], ◌∷◌, map, Bool, true, false, not, ◌&&◌, ◌||◌, None, Some, find}
use Rattle.std.specs.Prelude.{option_map, if◌then◌else◌}
use Rattle.std.specs.List.{list_any, AllByRecursion}
use Rattle.cad_rings.specs.Cycle.{Side, is_side}
use Rattle.cad_map.specs.Boundaries.{is_face}
use Rattle.cad_map.specs.Map.{Map}
use Rattle.cad_map.specs.Valid.{EachPair}
use Rattle.cad_map.proofs.CallerLemmas.{All-map}
use Rattle.cad_files.specs.Follower.{followers, LabelledSide, labelled_sides}
use Rattle.cad_files.specs.Building.{keeps_face, other_label, bad_corner}
use Rattle.cad_files.specs.Cycles.{side_of_followed, side_and_face, labelled_side_and_face, AreSidesOf, plan_side_of, followed_side}
use Rattle.cad_files.specs.Corners.{labelled, HasFollower, keeps_face_among}
use Rattle.cad_files.specs.declared.sides.PlanSide.{PlanSide}
use Rattle.cad_files.specs.declared.rows.PlanString.{PlanString}
use Rattle.cad_files.proofs.CycleSides.{sides-once}

or-false : (a : Bool) → (a || false) ≡ a
or-false true = refl
or-false false = refl

module _ (m : Map) (all : List PlanSide) where
  keeps-is : (s : PlanSide) → HasFollower m s → keeps_face m (map labelled all) (labelled s) ≡ keeps_face_among all s
  keeps-is s one = rw one (each all)
    where
      each : (ts : List PlanSide) → list_any (λ t. (is_side (s.to, s.after) t.side || false) && is_face s.face t.face) (map labelled ts) ≡ keeps_face_among ts s
      each [] = refl
      each (t ∷ ts) =
          ap (λ (b : Bool). (b && is_face s.face t.face) || list_any (λ t. (is_side (s.to, s.after) t.side || false) && is_face s.face t.face) (map labelled ts)) (or-false (is_side (s.to, s.after) (plan_side_of t)))
          ∙ ap (λ (b : Bool). (is_side (s.to, s.after) (plan_side_of t) && is_face s.face t.face) || b) (each ts)

  first-is : (ss : List PlanSide) → AllByRecursion (HasFollower m) ss
      → option_map (λ s. s.string) (find (λ s. not (keeps_face_among all s)) ss) ≡ option_map (λ s. s.string) (find (λ s. not (keeps_face m (map labelled all) s)) (map labelled ss))
  first-is [] has = refl
  first-is (s ∷ ss) has = next (keeps_face m (map labelled all) (labelled s)) (keeps_face_among all s) (keeps-is s has.0) (first-is ss has.1)
    where
      next : (a b : Bool) → a ≡ b
          → option_map (λ s. s.string) (find (λ s. not (keeps_face_among all s)) ss) ≡ option_map (λ s. s.string) (find (λ s. not (keeps_face m (map labelled all) s)) (map labelled ss))
          → option_map (λ s. s.string) (if not b then Some s else find (λ s. not (keeps_face_among all s)) ss)
          ≡ option_map (λ s. s.string) (if not a then Some (labelled s) else find (λ s. not (keeps_face m (map labelled all) s)) (map labelled ss))
      next true true is rest = rest
      next false false is rest = refl
      next true false is rest = cc
      next false true is rest = cc

-- what is found of the sides with their followers is what the definition tells
pub other_label-is : (m : Map) (strings : List PlanString) (sides : List PlanSide) → AllByRecursion (HasFollower m) sides → map labelled sides ≡ labelled_sides strings
    → option_map (λ s. s.string) (find (λ s. not (keeps_face_among sides s)) sides) ≡ other_label m strings
unfolding other_label
other_label-is m strings sides has same =
    first-is m sides sides has ∙ ap (λ (ss : List LabelledSide). option_map (λ s. s.string) (find (λ s. not (keeps_face m ss s)) ss)) same

-- ---- Without their strings

pub sides-of : (m : Map) (strings : List PlanString) (sides : List PlanSide) → AllByRecursion (HasFollower m) sides → map labelled sides ≡ labelled_sides strings → AreSidesOf m strings (map followed_side sides)
sides-of m strings sides has same = record {
  labels = each sides ∙ ap (map labelled_side_and_face) same;
  followers = All-map (λ s. followers m (side_of_followed s) ≡ s.after ∷ []) followed_side sides has;
}
  where
    each : (ss : List PlanSide) → map side_and_face (map followed_side ss) ≡ map labelled_side_and_face (map labelled ss)
    each [] = refl
    each (s ∷ ss) = ap (λ l. side_and_face (followed_side s) ∷ l) (each ss)

-- where there is no bad corner, no side stands twice
pub none-twice : (m : Map) (strings : List PlanString) (sides : List PlanSide) → map labelled sides ≡ labelled_sides strings → bad_corner m strings ≡ None → EachPair (λ a b. a ≢ b) (map plan_side_of sides)
none-twice m strings sides same none = subst (λ (l : List Side). EachPair (λ a b. a ≢ b) l) (ap (map (λ l. l.side)) (sym same) ∙ sym (each sides)) (sides-once m strings none)
  where
    each : (ss : List PlanSide) → map plan_side_of ss ≡ map (λ l. l.side) (map labelled ss)
    each [] = refl
    each (s ∷ ss) = ap (λ (l : List Side). plan_side_of s ∷ l) (each ss)

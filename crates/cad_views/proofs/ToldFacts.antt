-- Rows and what is told of them, one after another.
use Rattle.std.proofs.Common.{◌≡◌, ◌∙◌, ap, refl, List, [], ◌∷◌, ◌++◌, map, Some}
use Rattle.std.specs.Prelude.{unwrap_or}
use Rattle.std.specs.List.{AllByRecursion}
use Rattle.cad_rows.specs.declared.names.Face.TheVariants.{Outside}
use Rattle.cad_map.specs.Map.{Map, left_face, right_face}
use Rattle.cad_files.specs.Building.{IsBuilt, plan_string_of}
use Rattle.cad_files.specs.Rows.{Rows}
use Rattle.cad_files.specs.declared.rows.PlanString.{PlanString}
use Rattle.cad_views.specs.Tables.{AreTold}

-- one more of each
pub told-push : {X Y : Type 0} (R : X → Y → Type 0) (xs : List X) (ys : List Y) (x : X) (y : Y) → AreTold R xs ys → R x y → AreTold R (xs ++ x ∷ []) (ys ++ y ∷ [])
told-push R [] [] x y told one = (one, tt)
told-push R [] (z ∷ ys) x y told one = absurd told
told-push R (w ∷ xs) [] x y told one = absurd told
told-push R (w ∷ xs) (z ∷ ys) x y told one = (told.0, told-push R xs ys x y told.1 one)

faces-told : (m : Map) (strings : List PlanString) → AllByRecursion (λ s. left_face m s.row ≡ Some s.left) strings → AllByRecursion (λ s. right_face m s.row ≡ Some s.right) strings
    → map (plan_string_of m) (map (λ (s : PlanString). s.row) strings) ≡ strings
faces-told m [] left right = refl
faces-told m (s ∷ strings) left right = (λ i. record { row = s.row; left = unwrap_or (left.0 i) Outside; right = unwrap_or (right.0 i) Outside } ∷ faces-told m strings left.1 right.1 i)

-- the strings of a plan are those of its map, with their present faces
pub strings-told : (rows : Rows) (m : Map) → IsBuilt rows m → map (plan_string_of m) m.strings ≡ rows.strings
strings-told rows m built = ap (map (plan_string_of m)) built.is.rings.rows ∙ faces-told m rows.strings built.is.rings.left built.is.rings.right

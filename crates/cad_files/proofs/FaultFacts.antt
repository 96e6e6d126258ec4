-- The first fault of several.
use Rattle.std.proofs.Common.{◌≡◌, refl, List, [], ◌∷◌, ℕ, Option, Some, None}
use Rattle.std.specs.Prelude.{option_map}
use Rattle.cad_rows.specs.declared.names.Name.{Name}
use Rattle.cad_files.specs.Building.{first_some}
use Rattle.cad_files.specs.declared.faults.PlanFault.TheVariants as faults

pub none-parts : {X : Type 0} (o : Option X) (rest : List (Option X)) → first_some (o ∷ rest) ≡ None → (o ≡ None) × (first_some rest ≡ None)
none-parts None rest none = (refl, none)
none-parts (Some x) rest none = cc none

pub map-none : {X Y : Type 0} (f : X → Y) (o : Option X) → option_map f o ≡ None → o ≡ None
map-none f None none = refl
map-none f (Some x) none = cc none

first_some-one : {X : Type 0} (o : Option X) → first_some (o ∷ []) ≡ o
first_some-one None = refl
first_some-one (Some x) = refl

-- where nothing else is found, what is found of labels
pub labels-left : (t u : Option Name) (d b l : Option ℕ) → t ≡ None → u ≡ None → d ≡ None → b ≡ None
    → first_some (option_map (λ n. faults.Taken n) t ∷ option_map (λ n. faults.Unknown n) u ∷ option_map (λ n. faults.Dangling n) d ∷ option_map (λ n. faults.Corner n) b ∷ option_map (λ n. faults.Labels n) l ∷ []) ≡ option_map (λ n. faults.Labels n) l
labels-left t u d b l tn un dn bn = rw (tn, un, dn, bn) (first_some-one (option_map (λ n. faults.Labels n) l))

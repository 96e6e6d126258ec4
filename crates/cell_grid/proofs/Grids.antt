-- What a grid holds, by the entries that it keeps.
use Rattle.std.proofs.Common.{◌≡◌, zero, suc, List, [], ◌∷◌, map, refl, sym, ap, subst, ◌∙◌, arith, ◌⊎◌, inl, inr}
use Rattle.geo_exact.specs.SignTest.{boxes_overlap}
use Rattle.std.specs.Prelude.{IsTrue, ◌↔◌, Result, Ok, Err, OnOk, OnErr}
use Rattle.std.specs.List.{Contains, AllByRecursion}
use Rattle.geo_exact.specs.Position.{Position}
use Rattle.cell_grid.specs.declared.entry.Entry.{Entry}
use Rattle.cell_grid.specs.declared.segments.Segments.{Segments}
use Rattle.cell_grid.specs.Kept.{kept, AreSpread, IsHeld}
use Rattle.cell_grid.proofs.Levels.{held-sound}
use Rattle.cell_grid.specs.declared.entry.HeldString.{HeldString}
use Rattle.cell_grid.specs.declared.entry.HeldPoint.{HeldPoint}
use Rattle.cell_grid.specs.Grid.{entry_of, held_string, held_point, IsNumbered}

all_from : {X : Type 0} (P : X → Type 0) (xs : List X) → ((x : X) → Contains xs x → P x)
    → AllByRecursion P xs
all_from P [] each = tt
all_from P (x ∷ xs) each = (
  each x (0, omega arith, refl),
  all_from P xs (λ y h. each y (suc h.0, omega (arith, h.1), h.2)),
)

-- what a list of entries is read as has what one of them is read as, and no more
module _ {X : Type 0} (read : Entry → X) where
  pub read-has : (xs : List Entry) (e : Entry) → Contains xs e → Contains (map read xs) (read e)
  read-has [] e h = absurd (omega (arith, h.1))
  read-has (x ∷ xs) e (zero, within, is) = (0, omega arith, ap read is)
  read-has (x ∷ xs) e (suc k, within, is) =
      let later = read-has xs e (k, omega arith, is) in (suc later.0, omega (arith, later.1), later.2)

  pub read-from : (xs : List Entry) (y : X) → Contains (map read xs) y
      → (e : Entry) × Contains xs e × (read e ≡ y)
  read-from [] y h = absurd (omega (arith, h.1))
  read-from (x ∷ xs) y (zero, within, is) = (x, (0, omega arith, refl), is)
  read-from (x ∷ xs) y (suc k, within, is) =
      let later = read-from xs y (k, omega arith, is) in
      (later.0, (suc later.1.0, omega (arith, later.1.1), later.1.2), later.2)

-- entries that were given near a segment
module _ (s : Segments) (spread : AreSpread s)
    (a b : Position) (xs : List Entry) (held : (e : Entry) → Contains xs e
    → IsHeld (kept s) e × IsTrue (boxes_overlap a b e.from e.to)) where
  pub numbers_given : AllByRecursion IsNumbered xs
  numbers_given = all_from IsNumbered xs (λ e h. (held-sound s spread e (held e h).0).number)

  pub strings_given : (t : HeldString) → Contains (map held_string xs) t
      → IsHeld (kept s) (entry_of t.string t.from t.to) × IsTrue (boxes_overlap a b t.from t.to)
  strings_given t h =
      let f = read-from held_string xs t h in
      subst (λ (y : HeldString). IsHeld (kept s) (entry_of y.string y.from y.to)
      × IsTrue (boxes_overlap a b y.from y.to)) f.2 (held f.0 f.1)

  pub points_given : ((e : Entry) → IsHeld (kept s) e → e.from ≡ e.to) → (p : HeldPoint)
      → Contains (map held_point xs) p
      → IsHeld (kept s) (entry_of p.point p.position p.position)
      × IsTrue (boxes_overlap a b p.position p.position)
  points_given spots p h =
      let f = read-from held_point xs p h in
      let there = held f.0 f.1 in
      let one = sym (spots f.0 there.0) in
      let spot : IsHeld (kept s) (entry_of f.0.number f.0.from f.0.from)
      × IsTrue (boxes_overlap a b f.0.from f.0.from) =
      subst (λ (d : Position). IsHeld (kept s) (entry_of f.0.number f.0.from d)
      × IsTrue (boxes_overlap a b f.0.from d)) one there in
      subst (λ (y : HeldPoint). IsHeld (kept s) (entry_of y.point y.position y.position)
      × IsTrue (boxes_overlap a b y.position y.position)) f.2 spot

-- the entries of points are single positions
module _ (old new : Entry → Type 0) (spots : (e : Entry) → old e → e.from ≡ e.to) where
  pub spots_put : {T E : Type 0} → (x : Entry) → x.from ≡ x.to → (r : Result T E)
      → OnOk r ((e : Entry) → new e ↔ (old e ⊎ (e ≡ x))) → OnErr r ((e : Entry) → new e ↔ old e)
      → (e : Entry) → new e → e.from ≡ e.to
  spots_put x one (Ok t) ok err e h = of ((ok e).0 h)
    where
      of : old e ⊎ (e ≡ x) → e.from ≡ e.to
      of (inl there) = spots e there
      of (inr same) = ap (λ (y : Entry). y.from) same ∙ one ∙ sym (ap (λ (y : Entry). y.to) same)
  spots_put x one (Err t) ok err e h = spots e ((err e).0 h)

  pub spots_take : (x : Entry) → ((e : Entry) → new e ↔ (old e × ¬ (e ≡ x))) → (e : Entry) → new e
      → e.from ≡ e.to
  spots_take x taken e h = spots e ((taken e).0 h).0

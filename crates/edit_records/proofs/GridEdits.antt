-- What is listed of an edit beside the map before it, where the edit is tried.
use Rattle.std.proofs.Common.{◌≡◌, ℕ, inl, refl, sym, ap, subst, ◌∙◌, [], ◌∷◌, true, false, Option, None, Some, to_z, of_z, to_z-of_z, ℤ, FitsSigned, w64, arith}
use Rattle.std.proofs.lemmas.Int.{ints}
use Rattle.std.proofs.lemmas.List.Sorted.{IsPermutation-refl}
use Rattle.std.specs.Borrow.{Bor}
use Rattle.std.specs.Option.{option_copied}
use Rattle.std.specs.Prelude.{IsSome, IfOk, Result, Ok, Err, nat_lt}
use Rattle.geo_exact.specs.Position.{Position, InRange, OnTheMap}
use Rattle.cad_rows.specs.declared.edits.Edit.{Edit}
use Rattle.cad_rows.specs.declared.edits.Edit.TheVariants.{AddPoint, DropPoint, Split, Join, Move}
use Rattle.cad_rows.specs.declared.names.Name.TheVariants as name
use Rattle.cad_rows.specs.declared.rows.PointRow.{PointRow}
use Rattle.cad_rows.specs.declared.rows.StringRow.{StringRow}
use Rattle.cad_map.specs.Changes.{by_number}
use Rattle.cad_map.specs.Map.{Map, point_of, string_of, position_of, far_end}
use Rattle.cad_map.proofs.CallerLemmas.{allowed, there-one, position-in_range}
use Rattle.cad_laws.specs.Tried.{IsTried}
use Rattle.cell_grid.specs.Together.{Listed}
use Rattle.edit_records.specs.GridEdits.{gone_by, come_by}
use Rattle.edit_records.specs.GridLists.{AreEntries, IsBeside}
use Rattle.edit_records.proofs.EditExchanges.{some-from, placed}

pub if-ok : {T E : Type 0} {P Q : T → Type 0} (r : Result T E) → ((x : T) → P x → Q x) → IfOk r P → IfOk r Q
if-ok (Ok x) each held = each x held
if-ok (Err e) each held = tt

pub lent-found : {X : Type 0} (o : Option (Bor X)) (x : X) → option_copied o ≡ Some x → IsSome o
lent-found None x is = cc
lent-found (Some r) x is = refl

-- the map itself is one of the edit's two
pub beside : (m : Map) (e : Edit) → IsTried m e → IsBeside m m e
beside m e tried = record { tried = tried; is = inl refl }

-- ---- Edits that put nothing in, or take nothing out

abbrev pub nothing : Listed
nothing = record { strings = []; points = [] }

pub quiet : (of l : Listed) → of ≡ nothing → l ≡ nothing → AreEntries of l
quiet of l none is = subst (λ (k : Listed). AreEntries k l) (sym none) (subst (AreEntries nothing) (sym is) (record { strings = IsPermutation-refl []; points = IsPermutation-refl [] }))

pub quiet-gone : (m : Map) (e d : Edit) (l : Listed) → l ≡ nothing → gone_by m d ≡ nothing → e ≡ d → AreEntries (gone_by m e) l
quiet-gone m e d l is none same = subst (λ (f : Edit). AreEntries (gone_by m f) l) (sym same) (quiet (gone_by m d) l none is)

pub quiet-come : (m : Map) (e d : Edit) (l : Listed) → l ≡ nothing → come_by m d ≡ nothing → e ≡ d → AreEntries (come_by m e) l
quiet-come m e d l is none same = subst (λ (f : Edit). AreEntries (come_by m f) l) (sym same) (quiet (come_by m d) l none is)

-- ---- Rows that are there

pub dropped-there : (m : Map) (p : ℕ) → IsTried m (DropPoint p) → (row : PointRow) × (point_of m p ≡ Some row)
dropped-there m p t = some-from (point_of m p) (there-one m (name.Point p) (allowed m (DropPoint p) t.allowed).unknown)

pub joined-there : (m : Map) (p new : ℕ) → IsTried m (Join p new) → (row : PointRow) × (point_of m p ≡ Some row)
joined-there m p new t = some-from (point_of m p) (there-one m (name.Point p) (allowed m (Join p new) t.allowed).unknown)

pub split-there : (m : Map) (s p : ℕ) (x y : ℤ) (first second : ℕ) → IsTried m (Split s p x y first second) → (row : StringRow) × (string_of m s ≡ Some row)
split-there m s p x y first second t = some-from (string_of m s) (there-one m (name.String s) (allowed m (Split s p x y first second) t.allowed).unknown)

pub lies-there : (m : Map) (p : ℕ) (row : PointRow) (at : Position) → point_of m p ≡ Some row → at ≡ position_of m p → row.position ≡ at
lies-there m p row at is there = sym (there ∙ ap placed is)

-- ---- Coordinates

coordinate_fits : (z : ℤ) → InRange z → FitsSigned w64 z
coordinate_fits z h = let low = h.low in let high = h.high in omega (arith, ints)

-- coordinates that are in range stay as they are
pub same_numbers : (x y : ℤ) → OnTheMap (record { x = x; y = y }) → ◌≡◌ {A = Position} (record { x = to_z w64 (of_z w64 x); y = to_z w64 (of_z w64 y) }) (record { x = x; y = y })
same_numbers x y on = λ i. record { x = to_z-of_z (coordinate_fits x on.x_in_range) i; y = to_z-of_z (coordinate_fits y on.y_in_range) i }

pub on_map : (x y : ℤ) → OnTheMap (record { x = x; y = y }) → OnTheMap (record { x = to_z w64 (of_z w64 x); y = to_z w64 (of_z w64 y) })
on_map x y on = subst OnTheMap (sym (same_numbers x y on)) on

pub added-on : (m : Map) (p : ℕ) (x y : ℤ) → IsTried m (AddPoint p x y) → OnTheMap (record { x = x; y = y })
added-on m p x y t = position-in_range x y (allowed m (AddPoint p x y) t.allowed).range

pub split-on : (m : Map) (s p : ℕ) (x y : ℤ) (first second : ℕ) → IsTried m (Split s p x y first second) → OnTheMap (record { x = x; y = y })
split-on m s p x y first second t = position-in_range x y (allowed m (Split s p x y first second) t.allowed).range

pub moved-on : (m : Map) (p : ℕ) (x y : ℤ) → IsTried m (Move p x y) → OnTheMap (record { x = x; y = y })
moved-on m p x y t = position-in_range x y (allowed m (Move p x y) t.allowed).range

-- ---- Two strings by their numbers

-- two strings that are the same as two others have the same far ends
same-far : (p : ℕ) (f g s t : StringRow) → f ∷ g ∷ [] ≡ s ∷ t ∷ [] → ◌≡◌ {A = ℕ × ℕ} (far_end f p, far_end g p) (far_end s p, far_end t p)
same-far p f g s t are =
    let a : f ≡ s = cc in
    let b : g ≡ t = cc in
    λ i. (far_end (a i) p, far_end (b i) p)

pub lower-second : (p : ℕ) (f g s t : StringRow) → by_number (f ∷ g ∷ []) ≡ s ∷ t ∷ [] → nat_lt g.number f.number ≡ true → ◌≡◌ {A = ℕ × ℕ} (far_end g p, far_end f p) (far_end s p, far_end t p)
lower-second p f g s t are low = same-far p g f s t (rw low at are)

pub lower-first : (p : ℕ) (f g s t : StringRow) → by_number (f ∷ g ∷ []) ≡ s ∷ t ∷ [] → nat_lt g.number f.number ≡ false → ◌≡◌ {A = ℕ × ℕ} (far_end f p, far_end g p) (far_end s p, far_end t p)
lower-first p f g s t are low = same-far p f g s t (rw low at are)

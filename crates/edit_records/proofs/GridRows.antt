-- Rows that are put into a grid one after another.
use Rattle.std.proofs.Common.{◌≡◌, ◌≢◌, ℕ, ◌+◌, ◌≤◌, List, [], ◌∷◌, ◌++◌, length, map, take, slice_get, Option, Some, None, inl, inr, refl, sym, ap, ◌∙◌, subst, arith}
use Rattle.std.specs.Prelude.{option_map}
use Rattle.std.specs.List.{Contains}
use Rattle.std.proofs.lemmas.List.{take_all}
use Rattle.std.proofs.lemmas.List.Elements.{Contains-push, Contains-push_cases, Contains-append_left}
use Rattle.geo_exact.specs.Position.{Position}
use Rattle.cad_rows.specs.declared.rows.PointRow.{PointRow}
use Rattle.cad_rows.specs.declared.rows.StringRow.{StringRow}
use Rattle.cad_map.specs.Map.{Map, position_of}
use Rattle.cad_map.specs.Valid.{EachPair}
use Rattle.cad_map.proofs.CallerLemmas.{All-at_each, Contains-map, map-Contains, others-from_none, row_with-earlier, take-more}
use Rattle.cell_grid.specs.declared.entry.Entry.{Entry}
use Rattle.cell_grid.specs.Kept.{Kept, IsHeld, HoldsNone, HoldsSame, HoldsOneMore}
use Rattle.cell_grid.specs.Grid.{Grid, HoldsString, HoldsPoint}
use Rattle.cad_near.specs.Near.{HoldsMap}
use Rattle.edit_records.specs.Gridded.{HoldsJust, IsGridOf, string_entry, point_entry, string_entries, point_entries}

-- what stayed in two changes stayed
pub same-still : (old between new : Kept) → HoldsSame old between → HoldsSame between new → HoldsSame old new
same-still old between new first second = λ e. ((λ h. (first e).0 ((second e).0 h)), (λ h. (second e).1 ((first e).1 h)))

none-in : {X : Type 0} (x : X) → ¬ Contains [] x
none-in x h = let low = h.1 in omega arith

pub map-last : {X Y : Type 0} (f : X → Y) (xs : List X) (x : X) → map f (xs ++ x ∷ []) ≡ map f xs ++ f x ∷ []
map-last f [] x = refl
map-last f (y ∷ xs) x = ap (λ (l : List _). f y ∷ l) (map-last f xs x)

module _ {R : Type 0} (number : R → ℕ) (entry : R → Entry) (rows : List R) where
  -- a grid with nothing holds none of the rows
  pub just-none : (k : Kept) → HoldsNone k → HoldsJust (map entry (take 0 rows)) k
  just-none k none e = ((λ held. absurd (none e held)), (λ there. absurd (none-in e there)))

  -- all of the rows are held past the last
  pub just-all : (i : ℕ) (k : Kept) → length rows ≤ i → HoldsJust (map entry (take i rows)) k → HoldsJust (map entry rows) k
  just-all i k past just = subst (λ (rs : List R). HoldsJust (map entry rs) k) (take_all i rows past) just

  module _ (numbered : (r : R) → (entry r).number ≡ number r) (apart : EachPair (λ a b. a ≢ b) (map number rows)) (i : ℕ) (row : R) (at : slice_get rows i ≡ Some row) (k : Kept)
      (just : HoldsJust (map entry (take i rows)) k) where
    -- the next row isn't held, since its number is another
    pub not-yet : ¬ IsHeld k (entry row)
    not-yet held =
        let same = map-Contains entry (take i rows) (entry row) ((just (entry row)).0 held) in
        let others = others-from_none number (number row) (take i rows) (row_with-earlier number rows i row apart at) in
        All-at_each (λ n. n ≢ number row) (map number (take i rows)) (number same.0) others (Contains-map number (take i rows) same.0 same.1)
        (sym (numbered same.0) ∙ ap (λ (e : Entry). e.number) same.2 ∙ numbered row)

    -- it is held with those before it
    pub just-more : (new : Kept) → HoldsOneMore k (entry row) new → HoldsJust (map entry (take (i + 1) rows)) new
    just-more new more = subst (λ (es : List Entry). HoldsJust es new) (sym (map-last entry (take i rows) row) ∙ ap (map entry) (take-more rows i row at)) (λ e. (
      (λ held. elim ((more e).0 held) [
        | inl before ↦ Contains-append_left (map entry (take i rows)) (entry row ∷ []) e ((just e).0 before)
        | inr same ↦ subst (λ (f : Entry). Contains (map entry (take i rows) ++ entry row ∷ []) f) (sym same) (Contains-push (map entry (take i rows)) (entry row))
      ]),
      (λ there. (more e).1 (elim (Contains-push_cases (map entry (take i rows)) (entry row) e there) [
        | inl before ↦ inl ((just e).1 before)
        | inr same ↦ inr (sym same)
      ])),
    ))

-- a grid that holds a map's entries holds the map
module _ (g : Grid) (m : Map) where
  pub held-strings : ((e : Entry) → Contains (string_entries m) e → IsHeld g.strings e) → (s : StringRow) → Contains m.strings s
      → HoldsString g s.number (position_of m s.from) (position_of m s.to)
  held-strings each s there = each (string_entry m s) (Contains-map (string_entry m) m.strings s there)

  pub held-points : ((e : Entry) → Contains (point_entries m) e → IsHeld g.points e) → (p : PointRow) → Contains m.points p → HoldsPoint g p.number p.position
  held-points each p there = each (point_entry p) (Contains-map point_entry m.points p there)

  pub holds-map : IsGridOf g m → HoldsMap g m
  holds-map is = record {
    strings = held-strings (λ e there. (is.strings e).1 there);
    points = held-points (λ e there. (is.points e).1 there);
  }

-- the row of a point that lay at a position
pub record IsRowAt (o : Option PointRow) (at : Position) : Type 0 where
  pub row : PointRow
  pub is : o ≡ Some row
  pub position : row.position ≡ at

pub row-at : (o : Option PointRow) (at : Position) → option_map (λ r. r.position) o ≡ Some at → IsRowAt o at
row-at None at is = cc
row-at (Some r) at is = record { row = r; is = refl; position = cc }

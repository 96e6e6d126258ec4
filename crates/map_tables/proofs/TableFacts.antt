-- Rows put in turn.
use Rattle.std.proofs.Common.{◌≡◌, ◌≢◌, ◌∙◌, ◌++◌, ℕ, List, [], ◌∷◌, map, refl, sym, ap, subst, arith, append_assoc, append-nil, Result, Ok, Err, OnOk}
use Rattle.cad_rows.specs.declared.rows.PointRow.{PointRow}
use Rattle.cad_rows.specs.declared.rows.SourceRow.{SourceRow}
use Rattle.cad_rows.specs.declared.rows.ParcelRow.{ParcelRow}
use Rattle.cad_files.specs.Rows.{Rows, with_row, no_rows}
use Rattle.cad_files.specs.declared.rows.PlanRow.{PlanRow}
use Rattle.cad_files.specs.declared.rows.PlanRow.TheVariants as row
use Rattle.cad_files.specs.declared.rows.PlanString.{PlanString}
use Rattle.std.proofs.lemmas.List.{map_push}
use Rattle.sqlite_trees.specs.Tree.{Trees}
use Rattle.sqlite_trees.specs.View.{View, OnlyWrites}
use Rattle.stored_rows.specs.Tables.{PutsRows, placed_from}
use Rattle.map_tables.specs.Fields.{source_fields, point_fields, parcel_fields, string_fields, retired_fields}
use Rattle.map_tables.specs.Tables.{HasRows, PutsPlan, with_rows}

-- more rows behind others
pub with_more : (rows : Rows) (front back : List PlanRow) → with_rows rows (front ++ back) ≡ with_rows (with_rows rows front) back
with_more rows [] back = refl
with_more rows (r ∷ front) back = with_more (with_row rows r) front back

with_sources : (rows : Rows) (xs : List SourceRow) → with_rows rows (map (λ r. row.Source r) xs) ≡ record rows { sources = rows.sources ++ xs }
with_sources rows [] = ap {A = List SourceRow} (λ l. record rows { sources = l }) (sym (append-nil rows.sources))
with_sources rows (x ∷ xs) = with_sources (with_row rows (row.Source x)) xs ∙ ap {A = List SourceRow} (λ l. record rows { sources = l }) (append_assoc rows.sources (x ∷ []) xs)

with_points : (rows : Rows) (xs : List PointRow) → with_rows rows (map (λ r. row.Point r) xs) ≡ record rows { points = rows.points ++ xs }
with_points rows [] = ap {A = List PointRow} (λ l. record rows { points = l }) (sym (append-nil rows.points))
with_points rows (x ∷ xs) = with_points (with_row rows (row.Point x)) xs ∙ ap {A = List PointRow} (λ l. record rows { points = l }) (append_assoc rows.points (x ∷ []) xs)

with_parcels : (rows : Rows) (xs : List ParcelRow) → with_rows rows (map (λ r. row.Parcel r) xs) ≡ record rows { parcels = rows.parcels ++ xs }
with_parcels rows [] = ap {A = List ParcelRow} (λ l. record rows { parcels = l }) (sym (append-nil rows.parcels))
with_parcels rows (x ∷ xs) = with_parcels (with_row rows (row.Parcel x)) xs ∙ ap {A = List ParcelRow} (λ l. record rows { parcels = l }) (append_assoc rows.parcels (x ∷ []) xs)

with_strings : (rows : Rows) (xs : List PlanString) → with_rows rows (map (λ s. row.String s) xs) ≡ record rows { strings = rows.strings ++ xs }
with_strings rows [] = ap {A = List PlanString} (λ l. record rows { strings = l }) (sym (append-nil rows.strings))
with_strings rows (x ∷ xs) = with_strings (with_row rows (row.String x)) xs ∙ ap {A = List PlanString} (λ l. record rows { strings = l }) (append_assoc rows.strings (x ∷ []) xs)

with_retired : (rows : Rows) (xs : List ℕ) → with_rows rows (map (λ n. row.Retired n) xs) ≡ record rows { retired = rows.retired ++ xs }
with_retired rows [] = ap {A = List ℕ} (λ l. record rows { retired = l }) (sym (append-nil rows.retired))
with_retired rows (x ∷ xs) = with_retired (with_row rows (row.Retired x)) xs ∙ ap {A = List ℕ} (λ l. record rows { retired = l }) (append_assoc rows.retired (x ∷ []) xs)

-- what follows of a call that succeeds
pub on_ok : {X E : Type 0} (P Q : Type 0) (r : Result X E) → OnOk r P → (P → Q) → OnOk r Q
on_ok P Q (Ok x) holds follows = follows holds
on_ok P Q (Err e) holds follows = tt

-- ---- Tables filled in turn

overwritten : (first old new : View) → OnlyWrites first old → OnlyWrites old new → OnlyWrites first new
overwritten first old new was is = is ∙ ap {A = View} (λ v. record v { trees = new.trees; cursors = new.cursors }) was

pub filled : (v w x y z end : View) (rows : Rows) → PutsRows v 1 (map source_fields rows.sources) w → PutsRows w 2 (map point_fields rows.points) x
    → PutsRows x 3 (map parcel_fields rows.parcels) y → PutsRows y 4 (map string_fields rows.strings) z → PutsRows z 5 (map retired_fields rows.retired) end → PutsPlan v rows end
filled v w x y z end rows a b c d e = record {
  has = record {
    sources = e.has.others 1 (λ is. omega (arith, is)) ∙ d.has.others 1 (λ is. omega (arith, is)) ∙ c.has.others 1 (λ is. omega (arith, is)) ∙ b.has.others 1 (λ is. omega (arith, is)) ∙ a.has.table;
    points = e.has.others 2 (λ is. omega (arith, is)) ∙ d.has.others 2 (λ is. omega (arith, is)) ∙ c.has.others 2 (λ is. omega (arith, is)) ∙ b.has.table;
    parcels = e.has.others 3 (λ is. omega (arith, is)) ∙ d.has.others 3 (λ is. omega (arith, is)) ∙ c.has.table;
    strings = e.has.others 4 (λ is. omega (arith, is)) ∙ d.has.table;
    retired = e.has.table;
  };
  journal = others 0 (λ is. omega (arith, is)) (λ is. omega (arith, is)) (λ is. omega (arith, is)) (λ is. omega (arith, is)) (λ is. omega (arith, is));
  others = λ t past. others t (λ is. omega (arith, is, past)) (λ is. omega (arith, is, past)) (λ is. omega (arith, is, past)) (λ is. omega (arith, is, past)) (λ is. omega (arith, is, past));
  is = overwritten v z end (overwritten v y z (overwritten v x y (overwritten v w x a.is b.is) c.is) d.is) e.is;
}
  where
    others : (t : ℕ) → t ≢ 1 → t ≢ 2 → t ≢ 3 → t ≢ 4 → t ≢ 5 → end.trees t ≡ v.trees t
    others t n1 n2 n3 n4 n5 = e.has.others t n5 ∙ d.has.others t n4 ∙ c.has.others t n3 ∙ b.has.others t n2 ∙ a.has.others t n1

-- one row more, after others
pub with_one_more : {T : Type 0} (f : T → PlanRow) (rows old new : Rows) (xs : List T) (x : T) (made : PlanRow) → old ≡ with_rows rows (map f xs) → new ≡ with_row old made → made ≡ f x
    → new ≡ with_rows rows (map f (xs ++ x ∷ []))
with_one_more f rows old new xs x made was is same =
    is ∙ ap (with_row old) same ∙ ap (λ r. with_row r (f x)) was ∙ sym (with_more rows (map f xs) (f x ∷ [])) ∙ ap (with_rows rows) (sym (map_push f xs x))

-- ---- Tables read in turn

pub gathered : (db : Trees) (first second third fourth fifth : Rows) (a : List SourceRow) (b : List PointRow) (c : List ParcelRow) (d : List PlanString) (e : List ℕ)
    → (db 1 ≡ placed_from 1 (map source_fields a)) × (first ≡ with_rows no_rows (map (λ r. row.Source r) a))
    → (db 2 ≡ placed_from 1 (map point_fields b)) × (second ≡ with_rows first (map (λ r. row.Point r) b))
    → (db 3 ≡ placed_from 1 (map parcel_fields c)) × (third ≡ with_rows second (map (λ r. row.Parcel r) c))
    → (db 4 ≡ placed_from 1 (map string_fields d)) × (fourth ≡ with_rows third (map (λ s. row.String s) d))
    → (db 5 ≡ placed_from 1 (map retired_fields e)) × (fifth ≡ with_rows fourth (map (λ n. row.Retired n) e))
    → HasRows db fifth
gathered db first second third fourth fifth a b c d e p q r s t =
    let one : first ≡ record no_rows { sources = a } = p.1 ∙ with_sources no_rows a in
    let two : second ≡ record no_rows { sources = a; points = b } =
    q.1 ∙ ap (λ l. with_rows l (map (λ r. row.Point r) b)) one ∙ with_points (record no_rows { sources = a }) b in
    let three : third ≡ record no_rows { sources = a; points = b; parcels = c } =
    r.1 ∙ ap (λ l. with_rows l (map (λ r. row.Parcel r) c)) two ∙ with_parcels (record no_rows { sources = a; points = b }) c in
    let four : fourth ≡ record no_rows { sources = a; points = b; parcels = c; strings = d } =
    s.1 ∙ ap (λ l. with_rows l (map (λ s. row.String s) d)) three ∙ with_strings (record no_rows { sources = a; points = b; parcels = c }) d in
    let five : fifth ≡ record { sources = a; points = b; parcels = c; strings = d; retired = e } =
    t.1 ∙ ap (λ l. with_rows l (map (λ n. row.Retired n) e)) four ∙ with_retired (record no_rows { sources = a; points = b; parcels = c; strings = d }) e in
    subst (HasRows db) (sym five) (record { sources = p.0; points = q.0; parcels = r.0; strings = s.0; retired = t.0 })

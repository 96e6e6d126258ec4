-- The point that a split, a join or a move is at, as the laws of areas take it, and the areas that
-- an edit leaves as they are.
use Rattle.std.proofs.Common.{◌≡◌, ℕ, ℤ, refl, sym, ap, subst, ◌∙◌, List, [], ◌∷◌, ◌++◌, Bool, true, false, true≢false, nat_eq, ◌==◌, cond, Option, None, Some, is_some, arith}
use Rattle.std.proofs.lemmas.Bool.{eq-eqb}
use Rattle.std.specs.Prelude.{option_map, unwrap_or}
use Rattle.std.specs.List.{Contains}
use Rattle.geo_exact.specs.Measure.{doubled_area}
use Rattle.geo_exact.specs.Position.{Position}
use Rattle.cad_rows.specs.declared.edits.Edit.{Edit}
use Rattle.cad_rows.specs.declared.edits.Edit.TheVariants.{Split, Join, Move}
use Rattle.cad_rows.specs.declared.names.Face.{Face}
use Rattle.cad_rows.specs.declared.names.Name.TheVariants as name
use Rattle.cad_rows.specs.declared.rows.PointRow.{PointRow}
use Rattle.cad_rows.specs.declared.rows.StringRow.{StringRow}
use Rattle.cad_map.specs.Changes.{by_number, with_point}
use Rattle.cad_map.specs.Effects.{after}
use Rattle.cad_map.specs.Map.{Map, point_of, string_of, position_of, origin, far_end, strings_at, sum_of_face}
use Rattle.numbered_rows.specs.Rows.{row_with}
use Rattle.cad_map.specs.Touched.{GoesStraight}
use Rattle.cad_map.specs.Valid.{IsValid}
use Rattle.cad_map.proofs.CallerLemmas.{allowed, find-Contains, found-number, free-split, meet-at, there-one, two-joined}
use Rattle.cad_laws.specs.Areas.{ended_by, HasPointAt}
use Rattle.cad_laws.specs.Touching.{touched_by}
use Rattle.cad_laws.specs.Tried.{IsTried}
use Rattle.cad_laws.proofs.ChangedRows.{found-own}
use Rattle.cad_laws.proofs.Elsewhere.{own-with_row}
use Rattle.cad_laws.proofs.JoinedCorners.{join-at}
use Rattle.cad_laws.proofs.SplitAt.{split-between}
use Rattle.cad_laws.proofs.StandingAreas.{sums-stand}
use Rattle.cad_laws.proofs.TouchedAfter.{touched-after}
use Rattle.cad_laws.proofs.TouchedPoints.{straight-split, straight-join, lies-elsewhere}
use Rattle.cad_laws.proofs.WholeAfter.{whole-after}

-- the position in a row, and of none the origin
abbrev lying : Option PointRow → Position
lying o = unwrap_or (option_map (λ (r : PointRow). r.position) o) origin

-- ---- A split and a join

-- a row that comes last, under a number that no other has, is found
last-pushed : {R : Type 0} (number : R → ℕ) (rows : List R) (row : R)
    → row_with number (number row) rows ≡ None
    → row_with number (number row) (rows ++ row ∷ []) ≡ Some row
last-pushed number [] row none =
    let own : nat_eq (number row) (number row) ≡ true =
    eq-eqb (number row) (number row) refl in
    rw own refl
last-pushed {R} number (r ∷ rows) row none =
    by (nat_eq (number r) (number row)) refl (λ h. last-pushed number rows row h) none
  where
    by : (b : Bool) → nat_eq (number r) (number row) ≡ b
        → (row_with number (number row) rows ≡ None
        → row_with number (number row) (rows ++ row ∷ []) ≡ Some row)
        → cond b (Some r) (row_with number (number row) rows) ≡ None
        → row_with number (number row) ((r ∷ rows) ++ row ∷ []) ≡ Some row
    by true is again h = absurd (true≢false (ap (λ (o : Option R). is_some o) h))
    by false is again h = rw is (again h)

-- The map after a split goes round by the new point, and the one before it goes straight.
pub split-straight : (m : Map) (s p : ℕ) (x y : ℤ) (first second : ℕ) (row : StringRow)
    → IsTried m (Split s p x y first second) → string_of m s ≡ Some row
    → GoesStraight (after m (Split s p x y first second)) m p row.from row.to
unfolding after
split-straight m s p x y first second row tried found =
    let free = allowed m (Split s p x y first second) tried.allowed in
    let new = (free-split m s p x y first second free.taken).0 in
    let there = (find-Contains (λ (r : StringRow). r.number == s) m.strings row found).0 in
    let it =
    (split-between m s p x y first second row tried.valid tried.given tried.allowed found).0 in
    let rings =
    whole-after m (Split s p x y first second) tried.valid tried.given tried.allowed tt in
    let goes =
    straight-split m tried.valid row there p x y first second new
    (rw found at it) (rw found at rings) in
    rw found goes

-- The new point lies where the split says.
pub split-lies : (m : Map) (s p : ℕ) (x y : ℤ) (first second : ℕ) (row : StringRow)
    → IsTried m (Split s p x y first second) → string_of m s ≡ Some row
    → position_of (after m (Split s p x y first second)) p ≡ record { x = x; y = y }
unfolding after
split-lies m s p x y first second row tried found =
    let free = allowed m (Split s p x y first second) tried.allowed in
    let new = (free-split m s p x y first second free.taken).0 in
    let lies =
    ap lying (last-pushed (λ (r : PointRow). r.number) m.points
    (record { number = p; position = record { x = x; y = y }; sources = [] }) new) in
    rw found lies

-- The map before a join goes round by the point, and the one after it goes straight.
pub join-straight : (m : Map) (p new : ℕ) (s t : StringRow) → IsTried m (Join p new)
    → by_number (strings_at m p) ≡ s ∷ t ∷ []
    → GoesStraight m (after m (Join p new)) p (far_end s p) (far_end t p)
unfolding after
join-straight m p new s t tried are =
    let free = allowed m (Join p new) tried.allowed in
    let two = meet-at m p (two-joined m p new free.not_degree_two) in
    straight-join m tried.valid p new two (far_end s p) (far_end t p)
    (join-at m p new s t tried.valid tried.allowed are)

-- ---- A move

-- the point has a row
moved-row : (m : Map) (p : ℕ) (x y : ℤ) → IsTried m (Move p x y)
    → (row : PointRow) × (point_of m p ≡ Some row)
moved-row m p x y tried = by (point_of m p) refl
  where
    by : (o : Option PointRow) → point_of m p ≡ o → (row : PointRow) × (point_of m p ≡ Some row)
    by (Some row) is = (row, is)
    by None is =
        absurd (true≢false (sym (there-one m (name.Point p)
        (allowed m (Move p x y) tried.allowed).unknown)
        ∙ ap (λ (o : Option PointRow). is_some o) is))

-- with the row at the new position, the point lies there
moved-at : (m : Map) (p : ℕ) (x y : ℤ) (row : PointRow) → IsValid m → point_of m p ≡ Some row
    → HasPointAt m (with_point m (record row { position = record { x = x; y = y } })) p
    (record { x = x; y = y })
moved-at m p x y row valid is = record {
  here =
      ap (position_of (with_point m moved)) (sym (found-number number p m.points row is))
      ∙ ap lying (own-with_row number moved m.points
      (ap (λ (o : Option PointRow). is_some o) (found-own number p m.points row is)));
  elsewhere = lies-elsewhere m valid p x y row is;
  boundaries = refl;
}
  where
    number : PointRow → ℕ
    number r = r.number

    moved : PointRow
    moved = record row { position = record { x = x; y = y } }

-- Before it is moved the point lies where it lies.
pub move-from : (m : Map) (p : ℕ) → HasPointAt m m p (position_of m p)
move-from m p = record { here = refl; elsewhere = λ q off. refl; boundaries = refl }

-- After a move the point lies where the edit says, and all others where they lay.
pub move-to : (m : Map) (p : ℕ) (x y : ℤ) → IsTried m (Move p x y)
    → HasPointAt m (after m (Move p x y)) p (record { x = x; y = y })
unfolding after
move-to m p x y tried =
    let known = moved-row m p x y tried in
    let at = moved-at m p x y known.0 tried.valid known.1 in
    rw known.1 at

-- Seen from the map after the move, the point lay where it was before.
pub move-from_after : (m : Map) (p : ℕ) (x y : ℤ) → IsTried m (Move p x y)
    → HasPointAt (after m (Move p x y)) m p (position_of m p)
move-from_after m p x y tried =
    let it = move-to m p x y tried in
    record {
      here = refl;
      elsewhere = λ q off. sym (it.elsewhere q off);
      boundaries = sym it.boundaries;
    }

-- And it lies where the edit says.
pub move-to_after : (m : Map) (p : ℕ) (x y : ℤ) → IsTried m (Move p x y)
    → HasPointAt (after m (Move p x y)) (after m (Move p x y)) p (record { x = x; y = y })
move-to_after m p x y tried =
    record {
      here = (move-to m p x y tried).here;
      elsewhere = λ q off. refl;
      boundaries = refl;
    }

-- ---- Areas that stay

-- An edit leaves the area of each face but those that it recuts, bends or ends.
pub areas-of_others : (m : Map) (e : Edit) (f : Face) (t : List Face) → IsTried m e
    → ((g : Face) → Contains (touched_by m e).faces g → Contains t g)
    → ((g : Face) → Contains (ended_by e) g → Contains t g) → ¬ Contains t f
    → sum_of_face doubled_area (after m e) f ≡ sum_of_face doubled_area m f
areas-of_others m e f t tried faces ended off =
    sums-stand doubled_area m e (touched_by m e) f tried
    (touched-after m e tried.valid tried.given tried.allowed)
    (λ h. off (faces f h)) (λ h. off (ended f h))

-- One that recuts, bends and ends none leaves every area.
pub areas-of_rows : (m : Map) (e : Edit) (f : Face) → IsTried m e
    → (touched_by m e).faces ≡ [] → ended_by e ≡ []
    → sum_of_face doubled_area (after m e) f ≡ sum_of_face doubled_area m f
areas-of_rows m e f tried faces ended =
    areas-of_others m e f [] tried
    (λ g h. subst (λ (l : List Face). Contains l g) faces h)
    (λ g h. subst (λ (l : List Face). Contains l g) ended h)
    (λ h. let low = h.1 in absurd (omega arith))

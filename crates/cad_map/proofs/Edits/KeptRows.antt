-- What rows put, left out and changed keep of the rules for rows.
use Rattle.std.proofs.Common.{◌≡◌, ◌≢◌, ℕ, ◌+◌, ◌≤◌, List, [], ◌∷◌, ◌++◌, length, Bool, true, false, cond, nat_eq, nat_le, map, Some, None, is_some, refl, sym, ap, ◌∙◌, true≢false, arith, subst, ◌||◌, filter}
use Rattle.std.specs.Prelude.{IsTrue, ◌==◌, IsPermutation}
use Rattle.std.specs.List.{AllByRecursion, list_any, flat_map}
use Rattle.std.proofs.lemmas.Bool.Decides.{nat_tests}
use Rattle.std.proofs.lemmas.Cmp.{nat_eq_equiv}
use Rattle.geo_exact.specs.Position.{OnTheMap}
use Rattle.cad_rows.specs.Limits.{row_limit, string_limit, source_limit, IsNumber, IsLabel}
use Rattle.cad_rows.specs.declared.edits.Edit.TheVariants.{AddSource}
use Rattle.cad_rows.specs.declared.rows.PointRow.{PointRow}
use Rattle.cad_rows.specs.declared.rows.ParcelRow.{ParcelRow}
use Rattle.cad_rows.specs.declared.rows.StringRow.{StringRow}
use Rattle.cad_rows.specs.declared.rows.SourceRow.{SourceRow}
use Rattle.cad_rows.specs.declared.names.Face.{Face}
use Rattle.cad_rows.specs.declared.names.Face.TheVariants.{Outside, Parcel}
use Rattle.cad_rings.specs.Cycle.{Ring, Side, opposite, sides_of, sides_along, turned}
use Rattle.cad_rings.proofs.CallerLemmas.{IsSameRing-least_rotation, round_permuted}
use Rattle.cad_map.specs.declared.boundary.Boundary.{Boundary}
use Rattle.cad_map.specs.Boundaries.{canonical_form, canonical_order}
use Rattle.cad_map.specs.Map.{Map, point_of, string_of, has_point, has_parcel, has_face, is_end, is_free, side_of, string_sides, all_sides}
use Rattle.numbered_rows.specs.Rows.{row_with, with_row, without_row}
use Rattle.cad_map.specs.Valid.{AreNumbers, AreSources, HasSoundRows, HasCompleteRings, IsSound}
use Rattle.cad_map.specs.Changes.{with_point, with_parcel, with_string, with_boundaries}
use Rattle.cad_map.proofs.Edits.Allowed.{IsAllowed, not-when, free-source, room}
use Rattle.cad_map.proofs.Parcels.ChainFacts.{others-attached}
use Rattle.numbered_rows.proofs.Removed.{others-from_none}
use Rattle.cad_map.proofs.Lists.EachElement.{All-push, All-filter, All-follows, EachPair-push, EachPair-filter-map, All-filter-map, map-push, found-push, found-with_row, found-without, map-with_row, length-with_row, All-with_row, length-without_row, All-map, All-permuted, All-flat_map}
use Rattle.cad_map.proofs.Boundaries.CanonicalOrder.{canonical_order-canonical_order, IsPermutation-canonical_order}

-- ---- Numbers and sources

pub AreNumbers-push : (numbers : List ℕ) (n : ℕ) → AreNumbers numbers → IsNumber n → AllByRecursion (λ k. k ≢ n) numbers → AreNumbers (numbers ++ n ∷ [])
AreNumbers-push numbers n are is others = record { in_range = All-push IsNumber numbers n are.in_range is; distinct = EachPair-push (λ a b. a ≢ b) numbers n are.distinct others }

-- the sources of an item are known among more sources too
pub AreSources-push : (rows : List SourceRow) (row : SourceRow) (sources : List ℕ) → AreSources rows sources → AreSources (rows ++ row ∷ []) sources
AreSources-push rows row sources are =
    record {
      distinct = are.distinct;
      few = are.few;
      known = All-follows (λ s. IsTrue (is_some (row_with (λ (r : SourceRow). r.number) s rows))) (λ s. IsTrue (is_some (row_with (λ (r : SourceRow). r.number) s (rows ++ row ∷ []))))
          (λ s found. found-push (λ (r : SourceRow). r.number) s rows row found) sources are.known;
    }

pub length-push : {X : Type 0} (xs : List X) (x : X) → length (xs ++ x ∷ []) ≡ length xs + 1
length-push [] x = refl
length-push (y ∷ xs) x = let e = length-push xs x in omega (arith, e)

pub AreSources-attach : (rows : List SourceRow) (sources : List ℕ) (s : ℕ) → AreSources rows sources → IsTrue (is_some (row_with (λ (r : SourceRow). r.number) s rows)) → list_any (λ t. t == s) sources ≡ false
    → nat_le source_limit (length sources) ≡ false → AreSources rows (sources ++ s ∷ [])
AreSources-attach rows sources s are there new few =
    record {
      known = All-push (λ t. IsTrue (is_some (row_with (λ (r : SourceRow). r.number) t rows))) sources s are.known there;
      distinct = EachPair-push (λ a b. a ≢ b) sources s are.distinct (others-attached s sources new);
      few = let fits = room source_limit (length sources) few in let e = length-push sources s in omega (arith, e, fits);
    }

-- a fact of each row is one of the row that is found
pub All-found : {R : Type 0} (number : R → ℕ) (P : R → Type 0) (n : ℕ) (rows : List R) (row : R) → AllByRecursion P rows → row_with number n rows ≡ Some row → P row
All-found number P n [] row all found = cc
All-found {R} number P n (r ∷ rows) row all found = by (λ rest. All-found number P n rows row all.1 rest) (nat_eq (number r) n) refl
  where
    by : (row_with number n rows ≡ Some row → P row) → (b : Bool) → nat_eq (number r) n ≡ b → P row
    by again true is = let here : Some r ≡ Some row = sym (ap (λ (b : Bool). cond b (Some r) (row_with number n rows)) is) ∙ found in let same : r ≡ row = cc in subst P same all.0
    by again false is = again (sym (ap (λ (b : Bool). cond b (Some r) (row_with number n rows)) is) ∙ found)

-- ---- Points that strings and rings name

-- where more points are known, so are the ends of strings
pub ends-follow : (m : Map) (there : ℕ → Bool) → ((n : ℕ) → IsTrue (has_point m n) → IsTrue (there n)) → (strings : List StringRow)
    → AllByRecursion (λ s. IsTrue (has_point m s.from) × IsTrue (has_point m s.to)) strings → AllByRecursion (λ s. IsTrue (there s.from) × IsTrue (there s.to)) strings
ends-follow m there more strings ends = All-follows (λ s. IsTrue (has_point m s.from) × IsTrue (has_point m s.to)) (λ s. IsTrue (there s.from) × IsTrue (there s.to)) (λ s both. (more s.from both.0, more s.to both.1)) strings ends

-- ---- Sources and points added

pub kept-source : (m : Map) (s : ℕ) (text : List ℕ) → HasSoundRows m → IsNumber s → IsLabel text → IsAllowed m (AddSource s text) → HasSoundRows (record m { sources = m.sources ++ record { number = s; text = text } ∷ [] })
kept-source m s text v number label free =
    let row : SourceRow = record { number = s; text = text } in
    record {
      points = v.points;
      parcels = v.parcels;
      strings = v.strings;
      retired = v.retired;
      retired_for_good = v.retired_for_good;
      labels = v.labels;
      positions = v.positions;
      ends = v.ends;
      points_of_rings = v.points_of_rings;
      faces_of_rings = v.faces_of_rings;
      few_points = v.few_points;
      few_parcels = v.few_parcels;
      few_strings = v.few_strings;
      few_retired = v.few_retired;
      canonical = v.canonical;
      sources = rw (map-push (λ (r : SourceRow). r.number) m.sources row) (AreNumbers-push (map (λ (r : SourceRow). r.number) m.sources) s v.sources number (others-from_none (λ (r : SourceRow). r.number) s m.sources (free-source m s text free.taken)));
      point_sources = All-follows (λ (r : PointRow). AreSources m.sources r.sources) (λ (r : PointRow). AreSources (m.sources ++ row ∷ []) r.sources) (λ r are. AreSources-push m.sources row r.sources are) m.points v.point_sources;
      parcel_sources = All-follows (λ (r : ParcelRow). AreSources m.sources r.sources) (λ (r : ParcelRow). AreSources (m.sources ++ row ∷ []) r.sources) (λ r are. AreSources-push m.sources row r.sources are) m.parcels v.parcel_sources;
      string_sources = All-follows (λ (r : StringRow). AreSources m.sources r.sources) (λ (r : StringRow). AreSources (m.sources ++ row ∷ []) r.sources) (λ r are. AreSources-push m.sources row r.sources are) m.strings v.string_sources;
      texts = All-push (λ (r : SourceRow). IsLabel r.text) m.sources row v.texts label;
      few_sources = let fits = room row_limit (length m.sources) (not-when _ _ free.full) in let e = length-push m.sources row in omega (arith, e, fits);
    }

-- the points of rings are known where more points are
pub rings-follow : (m : Map) (there : ℕ → Bool) → ((n : ℕ) → IsTrue (has_point m n) → IsTrue (there n)) → AllByRecursion (λ b. AllByRecursion (λ p. IsTrue (has_point m p)) b.ring) m.boundaries
    → AllByRecursion (λ b. AllByRecursion (λ p. IsTrue (there p)) b.ring) m.boundaries
rings-follow m there more rings =
    All-follows (λ b. AllByRecursion (λ p. IsTrue (has_point m p)) b.ring) (λ b. AllByRecursion (λ p. IsTrue (there p)) b.ring)
    (λ b all. All-follows (λ p. IsTrue (has_point m p)) (λ p. IsTrue (there p)) more b.ring all) m.boundaries rings

-- other points in the place of the points, where strings and rings name none that isn't among them
pub kept-points : (m : Map) (points : List PointRow) → HasSoundRows m → AreNumbers (map (λ (r : PointRow). r.number) points) → AllByRecursion (λ (r : PointRow). OnTheMap r.position) points
    → AllByRecursion (λ s. IsTrue (is_some (row_with (λ (r : PointRow). r.number) s.from points)) × IsTrue (is_some (row_with (λ (r : PointRow). r.number) s.to points))) m.strings
    → AllByRecursion (λ b. AllByRecursion (λ p. IsTrue (is_some (row_with (λ (r : PointRow). r.number) p points))) b.ring) m.boundaries
    → AllByRecursion (λ (r : PointRow). AreSources m.sources r.sources) points → length points ≤ row_limit → HasSoundRows (record m { points = points })
kept-points m points v numbers positions ends points_of_rings sources few =
    record {
      sources = v.sources;
      parcels = v.parcels;
      strings = v.strings;
      retired = v.retired;
      retired_for_good = v.retired_for_good;
      texts = v.texts;
      labels = v.labels;
      faces_of_rings = v.faces_of_rings;
      parcel_sources = v.parcel_sources;
      string_sources = v.string_sources;
      few_sources = v.few_sources;
      few_parcels = v.few_parcels;
      few_strings = v.few_strings;
      few_retired = v.few_retired;
      canonical = v.canonical;
      points = numbers;
      positions = positions;
      ends = ends;
      points_of_rings = points_of_rings;
      point_sources = sources;
      few_points = few;
    }

pub kept-point : (m : Map) (row : PointRow) → HasSoundRows m → IsNumber row.number → point_of m row.number ≡ None → OnTheMap row.position → AreSources m.sources row.sources → length m.points + 1 ≤ row_limit
    → HasSoundRows (record m { points = m.points ++ row ∷ [] })
kept-point m row v number new position sources fits =
    let there : ℕ → Bool = λ n. is_some (row_with (λ (r : PointRow). r.number) n (m.points ++ row ∷ [])) in
    let more : (n : ℕ) → IsTrue (has_point m n) → IsTrue (there n) = λ n found. found-push (λ (r : PointRow). r.number) n m.points row found in
    kept-points m (m.points ++ row ∷ []) v
    (rw (map-push (λ (r : PointRow). r.number) m.points row) (AreNumbers-push (map (λ (r : PointRow). r.number) m.points) row.number v.points number (others-from_none (λ (r : PointRow). r.number) row.number m.points new)))
    (All-push (λ (r : PointRow). OnTheMap r.position) m.points row v.positions position)
    (ends-follow m there more m.strings v.ends)
    (rings-follow m there more v.points_of_rings)
    (All-push (λ (r : PointRow). AreSources m.sources r.sources) m.points row v.point_sources sources)
    (let e = length-push m.points row in omega (arith, e, fits))

-- ---- A free point dropped

pub is_nothing : {X : Type 0} (xs : List X) → (length xs == 0) ≡ true → xs ≡ []
is_nothing [] h = refl
is_nothing (x ∷ xs) h = absurd (grind (arith, nat_tests, h))

pub or-none : (a b : Bool) → (a || b) ≡ false → (a ≡ false) × (b ≡ false)
or-none true b h = absurd (true≢false h)
or-none false b h = (refl, h)

pub differs : (a p : ℕ) → nat_eq a p ≡ false → a ≢ p
differs a p h same = true≢false (sym (ap (λ (k : ℕ). nat_eq k p) same ∙ nat_eq_equiv.refl p) ∙ h)

-- no string has a free point as an end
pub no_end : (p : ℕ) (strings : List StringRow) → filter (λ s. is_end s p) strings ≡ [] → AllByRecursion (λ s. (s.from ≢ p) × (s.to ≢ p)) strings
no_end p [] none = tt
no_end p (s ∷ strings) none = by (λ rest. no_end p strings rest) (is_end s p) refl
  where
    by : (filter (λ s. is_end s p) strings ≡ [] → AllByRecursion (λ s. (s.from ≢ p) × (s.to ≢ p)) strings) → (b : Bool) → is_end s p ≡ b → AllByRecursion (λ s. (s.from ≢ p) × (s.to ≢ p)) (s ∷ strings)
    by again true is = let some : s ∷ filter (λ s. is_end s p) strings ≡ [] = sym (ap (λ (b : Bool). cond b (s ∷ filter (λ s. is_end s p) strings) (filter (λ s. is_end s p) strings)) is) ∙ none in cc
    by again false is =
        let both = or-none (s.from == p) (s.to == p) is in
        ((differs s.from p both.0, differs s.to p both.1), again (sym (ap (λ (b : Bool). cond b (s ∷ filter (λ s. is_end s p) strings) (filter (λ s. is_end s p) strings)) is) ∙ none))

-- the sides of strings leave their ends
starts : (P : ℕ → Type 0) (strings : List StringRow) → AllByRecursion (λ s. P s.from × P s.to) strings → AllByRecursion (λ (s : Side). P s.0) (flat_map (λ s. side_of s ∷ opposite (side_of s) ∷ []) strings)
starts P [] all = tt
starts P (s ∷ strings) all = (all.0.0, (all.0.1, starts P strings all.1))

points-along : (P : ℕ → Type 0) (a : ℕ) (points : List ℕ) (z : ℕ) → AllByRecursion (λ (s : Side). P s.0) (sides_along a points z) → AllByRecursion P (a ∷ points)
points-along P a [] z all = (all.0, tt)
points-along P a (b ∷ points) z all = (all.0, points-along P b points z all.1)

-- a ring passes the points that its sides leave
points-of_sides : (P : ℕ → Type 0) (ring : Ring) → AllByRecursion (λ (s : Side). P s.0) (sides_of ring) → AllByRecursion P ring
points-of_sides P [] all = tt
points-of_sides P (a ∷ points) all = points-along P a points a all

-- so what holds of the ends of strings holds of the points of rings
pub points-of_ends : (P : ℕ → Type 0) (m : Map) → IsPermutation (string_sides m) (all_sides m) → AllByRecursion (λ s. P s.from × P s.to) m.strings → AllByRecursion (λ b. AllByRecursion P b.ring) m.boundaries
points-of_ends P m once ends =
    let sides = All-permuted (λ (s : Side). P s.0) (string_sides m) (all_sides m) once (starts P m.strings ends) in
    All-follows (λ b. AllByRecursion (λ (s : Side). P s.0) (sides_of b.ring)) (λ b. AllByRecursion P b.ring) (λ b all. points-of_sides P b.ring all) m.boundaries
    (All-flat_map (λ (s : Side). P s.0) (λ b. sides_of b.ring) m.boundaries sides)

-- and no ring passes a free point
pub rings-elsewhere : (m : Map) (p : ℕ) → HasCompleteRings m → is_free m p ≡ true → AllByRecursion (λ b. AllByRecursion (λ q. q ≢ p) b.ring) m.boundaries
rings-elsewhere m p v5 free = points-of_ends (λ q. q ≢ p) m v5.once (no_end p m.strings (is_nothing (filter (λ s. is_end s p) m.strings) free))

-- two facts of each element
pub both-of : {X : Type 0} (P Q R : X → Type 0) → ((x : X) → P x → Q x → R x) → (xs : List X) → AllByRecursion P xs → AllByRecursion Q xs → AllByRecursion R xs
both-of P Q R follows [] ps qs = tt
both-of P Q R follows (x ∷ xs) ps qs = (follows x ps.0 qs.0, both-of P Q R follows xs ps.1 qs.1)

-- a point that no string and no ring has left out
pub kept-without_point : (m : Map) (p : ℕ) → HasSoundRows m → AllByRecursion (λ s. (s.from ≢ p) × (s.to ≢ p)) m.strings → AllByRecursion (λ b. AllByRecursion (λ q. q ≢ p) b.ring) m.boundaries
    → HasSoundRows (record m { points = without_row (λ r. r.number) p m.points })
kept-without_point m p v no_string no_ring =
    let there : ℕ → Bool = λ n. is_some (row_with (λ (r : PointRow). r.number) n (without_row (λ (r : PointRow). r.number) p m.points)) in
    let stays : (n : ℕ) → IsTrue (has_point m n) → n ≢ p → IsTrue (there n) = λ n found other. found-without (λ (r : PointRow). r.number) n p m.points other found in
    kept-points m (without_row (λ (r : PointRow). r.number) p m.points) v
    (record { in_range = All-filter-map IsNumber (λ (r : PointRow). r.number) _ m.points v.points.in_range; distinct = EachPair-filter-map (λ a b. a ≢ b) (λ (r : PointRow). r.number) _ m.points v.points.distinct })
    (All-filter (λ (r : PointRow). OnTheMap r.position) _ m.points v.positions)
    (both-of (λ s. IsTrue (has_point m s.from) × IsTrue (has_point m s.to)) (λ s. (s.from ≢ p) × (s.to ≢ p)) (λ s. IsTrue (there s.from) × IsTrue (there s.to)) (λ s known other. (stays s.from known.0 other.0, stays s.to known.1 other.1)) m.strings v.ends no_string)
    (both-of (λ b. AllByRecursion (λ q. IsTrue (has_point m q)) b.ring) (λ b. AllByRecursion (λ q. q ≢ p) b.ring) (λ b. AllByRecursion (λ q. IsTrue (there q)) b.ring) (λ b known other. both-of (λ q. IsTrue (has_point m q)) (λ q. q ≢ p) (λ q. IsTrue (there q)) stays b.ring known other) m.boundaries v.points_of_rings no_ring)
    (All-filter (λ (r : PointRow). AreSources m.sources r.sources) _ m.points v.point_sources)
    (let fewer = length-without_row (λ (r : PointRow). r.number) p m.points in omega (arith, fewer, v.few_points))

pub kept-drop : (m : Map) (p : ℕ) → IsSound m → is_free m p ≡ true → HasSoundRows (record m { points = without_row (λ r. r.number) p m.points })
kept-drop m p sound free = kept-without_point m p sound.v1 (no_end p m.strings (is_nothing (filter (λ s. is_end s p) m.strings) free)) (rings-elsewhere m p sound.v5 free)

-- ---- Strings left out and put, and rings put in the place of all rings

pub length-filter : {X : Type 0} (test : X → Bool) (xs : List X) → length (filter test xs) ≤ length xs
length-filter test [] = omega arith
length-filter test (x ∷ xs) = by (test x) (length-filter test xs)
  where
    by : (b : Bool) → length (filter test xs) ≤ length xs → length (cond b (x ∷ filter test xs) (filter test xs)) ≤ length (x ∷ xs)
    by true rest = omega (arith, rest)
    by false rest = omega (arith, rest)

-- other strings of known points and sources in the place of the strings
kept-strings : (m : Map) (strings : List StringRow) → HasSoundRows m → AreNumbers (map (λ (r : StringRow). r.number) strings)
    → AllByRecursion (λ (r : StringRow). IsTrue (has_point m r.from) × IsTrue (has_point m r.to)) strings → AllByRecursion (λ (r : StringRow). AreSources m.sources r.sources) strings
    → length strings ≤ string_limit → HasSoundRows (record m { strings = strings })
kept-strings m strings v numbers ends sources few =
    record {
      sources = v.sources;
      points = v.points;
      parcels = v.parcels;
      retired = v.retired;
      retired_for_good = v.retired_for_good;
      texts = v.texts;
      labels = v.labels;
      positions = v.positions;
      points_of_rings = v.points_of_rings;
      faces_of_rings = v.faces_of_rings;
      point_sources = v.point_sources;
      parcel_sources = v.parcel_sources;
      few_sources = v.few_sources;
      few_points = v.few_points;
      few_parcels = v.few_parcels;
      few_retired = v.few_retired;
      canonical = v.canonical;
      strings = numbers;
      ends = ends;
      string_sources = sources;
      few_strings = few;
    }

pub kept-strings_left : (m : Map) (test : StringRow → Bool) → HasSoundRows m → HasSoundRows (record m { strings = filter test m.strings })
kept-strings_left m test v =
    kept-strings m (filter test m.strings) v
    (record { in_range = All-filter-map IsNumber (λ (r : StringRow). r.number) test m.strings v.strings.in_range; distinct = EachPair-filter-map (λ a b. a ≢ b) (λ (r : StringRow). r.number) test m.strings v.strings.distinct })
    (All-filter (λ (r : StringRow). IsTrue (has_point m r.from) × IsTrue (has_point m r.to)) test m.strings v.ends)
    (All-filter (λ (r : StringRow). AreSources m.sources r.sources) test m.strings v.string_sources)
    (let fewer = length-filter test m.strings in omega (arith, fewer, v.few_strings))

pub kept-string : (m : Map) (row : StringRow) → HasSoundRows m → IsNumber row.number → string_of m row.number ≡ None → IsTrue (has_point m row.from) × IsTrue (has_point m row.to) → AreSources m.sources row.sources
    → length m.strings + 1 ≤ string_limit → HasSoundRows (record m { strings = m.strings ++ row ∷ [] })
kept-string m row v number new ends sources fits =
    kept-strings m (m.strings ++ row ∷ []) v
    (rw (map-push (λ (r : StringRow). r.number) m.strings row) (AreNumbers-push (map (λ (r : StringRow). r.number) m.strings) row.number v.strings number (others-from_none (λ (r : StringRow). r.number) row.number m.strings new)))
    (All-push (λ (r : StringRow). IsTrue (has_point m r.from) × IsTrue (has_point m r.to)) m.strings row v.ends ends)
    (All-push (λ (r : StringRow). AreSources m.sources r.sources) m.strings row v.string_sources sources)
    (let e = length-push m.strings row in omega (arith, e, fits))

points-canonical_form : (P : ℕ → Type 0) (b : Boundary) → AllByRecursion P b.ring → AllByRecursion P (canonical_form b).ring
points-canonical_form P b known =
    let same = IsSameRing-least_rotation b.ring in
    subst (λ (r : Ring). AllByRecursion P r) (sym same.is) (All-permuted P b.ring (turned same.place b.ring) (round_permuted same.place b.ring) known)

-- what holds of the points of rings holds of them in canonical order
pub points-of_ring : (P : ℕ → Type 0) (bs : List Boundary) → AllByRecursion (λ b. AllByRecursion P b.ring) bs → AllByRecursion (λ b. AllByRecursion P b.ring) (canonical_order bs)
points-of_ring P bs all =
    All-permuted (λ b. AllByRecursion P b.ring) (map canonical_form bs) (canonical_order bs) (IsPermutation-canonical_order bs)
    (All-map (λ b. AllByRecursion P b.ring) canonical_form bs (All-follows (λ b. AllByRecursion P b.ring) (λ b. AllByRecursion P (canonical_form b).ring) (points-canonical_form P) bs all))

-- rings of known points and faces
pub kept-rings : (m : Map) (bs : List Boundary) → HasSoundRows m → AllByRecursion (λ b. AllByRecursion (λ p. IsTrue (has_point m p)) b.ring) bs → AllByRecursion (λ b. IsTrue (has_face m b.face)) bs → HasSoundRows (with_boundaries bs m)
kept-rings m bs v points faces =
    record {
      sources = v.sources;
      points = v.points;
      parcels = v.parcels;
      strings = v.strings;
      retired = v.retired;
      retired_for_good = v.retired_for_good;
      texts = v.texts;
      labels = v.labels;
      positions = v.positions;
      ends = v.ends;
      point_sources = v.point_sources;
      parcel_sources = v.parcel_sources;
      string_sources = v.string_sources;
      few_sources = v.few_sources;
      few_points = v.few_points;
      few_parcels = v.few_parcels;
      few_strings = v.few_strings;
      few_retired = v.few_retired;
      canonical = canonical_order-canonical_order bs;
      points_of_rings = points-of_ring (λ p. IsTrue (has_point m p)) bs points;
      faces_of_rings = All-permuted (λ b. IsTrue (has_face m b.face)) (map canonical_form bs) (canonical_order bs) (IsPermutation-canonical_order bs) (All-map (λ b. IsTrue (has_face m b.face)) canonical_form bs faces);
    }

-- ---- A row changed in its place

pub kept-point_row : (m : Map) (row : PointRow) → HasSoundRows m → OnTheMap row.position → AreSources m.sources row.sources → HasSoundRows (with_point m row)
kept-point_row m row v position sources =
    let there : ℕ → Bool = λ n. has_point (with_point m row) n in
    let more : (n : ℕ) → IsTrue (has_point m n) → IsTrue (there n) = λ n found. found-with_row (λ (r : PointRow). r.number) n row m.points ∙ found in
    kept-points m (with_row (λ (r : PointRow). r.number) row m.points) v
    (rw (map-with_row (λ (r : PointRow). r.number) row m.points) v.points)
    (All-with_row (λ (r : PointRow). r.number) (λ (r : PointRow). OnTheMap r.position) row m.points v.positions position)
    (ends-follow m there more m.strings v.ends)
    (rings-follow m there more v.points_of_rings)
    (All-with_row (λ (r : PointRow). r.number) (λ (r : PointRow). AreSources m.sources r.sources) row m.points v.point_sources sources)
    (rw (length-with_row (λ (r : PointRow). r.number) row m.points) v.few_points)

pub kept-parcel_row : (m : Map) (row : ParcelRow) → HasSoundRows m → IsLabel row.label → AreSources m.sources row.sources → HasSoundRows (with_parcel m row)
kept-parcel_row m row v label sources =
    let same : (n : ℕ) → has_parcel (with_parcel m row) n ≡ has_parcel m n = λ n. found-with_row (λ (r : ParcelRow). r.number) n row m.parcels in
    record {
      sources = v.sources;
      points = v.points;
      strings = v.strings;
      retired = v.retired;
      texts = v.texts;
      positions = v.positions;
      ends = v.ends;
      points_of_rings = v.points_of_rings;
      point_sources = v.point_sources;
      string_sources = v.string_sources;
      few_sources = v.few_sources;
      few_points = v.few_points;
      few_strings = v.few_strings;
      few_retired = v.few_retired;
      canonical = v.canonical;
      parcels = rw (map-with_row (λ (r : ParcelRow). r.number) row m.parcels) v.parcels;
      retired_for_good = All-follows (λ n. has_parcel m n ≡ false) (λ n. has_parcel (with_parcel m row) n ≡ false) (λ n none. same n ∙ none) m.retired v.retired_for_good;
      labels = All-with_row (λ (r : ParcelRow). r.number) (λ (r : ParcelRow). IsLabel r.label) row m.parcels v.labels label;
      faces_of_rings = All-follows (λ b. IsTrue (has_face m b.face)) (λ b. IsTrue (has_face (with_parcel m row) b.face)) (λ b known. face-stays b.face known) m.boundaries v.faces_of_rings;
      parcel_sources = All-with_row (λ (r : ParcelRow). r.number) (λ (r : ParcelRow). AreSources m.sources r.sources) row m.parcels v.parcel_sources sources;
      few_parcels = rw (length-with_row (λ (r : ParcelRow). r.number) row m.parcels) v.few_parcels;
    }
  where
    face-stays : (f : Face) → IsTrue (has_face m f) → IsTrue (has_face (with_parcel m row) f)
    face-stays Outside known = refl
    face-stays (Parcel n) known = found-with_row (λ (r : ParcelRow). r.number) n row m.parcels ∙ known

pub kept-string_row : (m : Map) (row : StringRow) → HasSoundRows m → IsTrue (has_point m row.from) × IsTrue (has_point m row.to) → AreSources m.sources row.sources → HasSoundRows (with_string m row)
kept-string_row m row v ends sources =
    kept-strings m (with_row (λ (r : StringRow). r.number) row m.strings) v
    (rw (map-with_row (λ (r : StringRow). r.number) row m.strings) v.strings)
    (All-with_row (λ (r : StringRow). r.number) (λ (r : StringRow). IsTrue (has_point m r.from) × IsTrue (has_point m r.to)) row m.strings v.ends ends)
    (All-with_row (λ (r : StringRow). r.number) (λ (r : StringRow). AreSources m.sources r.sources) row m.strings v.string_sources sources)
    (rw (length-with_row (λ (r : StringRow). r.number) row m.strings) v.few_strings)

-- A join on the parts of a map on half-edges, from growth to rest.
use Rattle.std.proofs.lemmas.Cmp.{nat_eq_equiv}
use Rattle.std.proofs.Common.{◌≡◌, ◌≤◌, ◌+◌, ◌*◌, ◌==◌, ◌||◌, ℕ, sym, ap, subst, ◌∙◌, [], ◌∷◌, length, not, true, false, Bool, Some, if◌then◌else◌, is_some, slice_get, arith}
use Rattle.cad_rows.specs.declared.edits.Edit.TheVariants.{Join}
use Rattle.cad_rows.specs.declared.rows.PointRow.{PointRow}
use Rattle.cad_rows.specs.declared.rows.StringRow.{StringRow}
use Rattle.cad_map.specs.Changes.{by_number}
use Rattle.cad_map.specs.Costs.{work_bound}
use Rattle.cad_map.specs.Effects.{after}
use Rattle.cad_map.specs.Map.{Map, point_of, string_of, has_string, strings_at, far_end, degree}
use Rattle.cad_map.specs.Rings.{HasWholeRings}
use Rattle.numbered_rows.specs.Rows.{without_row}
use Rattle.cad_map.proofs.CallerLemmas.{allowed, two-joined, meet-at, found-number}
use Rattle.half_table.specs.declared.half.Half.{Half}
use Rattle.half_table.specs.Half.{half_of, twin, forward_of}
use Rattle.half_table.specs.Rows.{HalfRows, has, has_halves, next, cycle}
use Rattle.half_table.proofs.Strings.{has-string}
use Rattle.half_paths.specs.Path.{AreIn, AreDifferent, strings_of}
use Rattle.half_paths.specs.Loose.{is_of, AreLoose, DropsStrings}
use Rattle.entry_list.specs.Slots.{HasSlot}
use Rattle.key_lists.specs.Held.{Held, HasRoomAt}
use Rattle.cad_laws.specs.Counts.{sides_through}
use Rattle.cad_laws.specs.Joining.{FarEndsAreApart}
use Rattle.cad_laws.specs.Local.{IsShown}
use Rattle.cad_laws.specs.Tried.{IsTried}
use Rattle.map_parts.specs.declared.edits.join.JoinedRows.{JoinedRows}
use Rattle.cad_surgery.specs.declared.edits.joining.Joining.{Joining}
use Rattle.cad_map.specs.declared.map_rows.MapRows.{MapRows}
use Rattle.map_parts.specs.declared.stars.Spoke.{Spoke}
use Rattle.map_parts.specs.Joined.{CanBeginJoin, CanUnjoin, CanBeginUnjoin}
use Rattle.cad_surgery.specs.Joinings.{joining_of}
use Rattle.map_parts.specs.Parts.{HasHalves}
use Rattle.map_parts.specs.Passing.{HasBetween, path_at}
use Rattle.edit_records.specs.Record.{HeldJoined}
use Rattle.map_parts.specs.Splitting.{FitMap}
use Rattle.map_parts.proofs.Passing.BothMaps as both
use Rattle.map_parts.proofs.Passing.JoinBetween as made
use Rattle.map_parts.proofs.Passing.Lengths.{path-length, whole-length}
use Rattle.cad_surgery.proofs.WorkTaken.{work-allowed}

-- a table with a map's strings alone has none that the map hasn't
pub table-free : (m : Map) (table : HalfRows) → ((g : Half) → has table g ≡ has_string m g.string)
    → (n : ℕ) → has_string m n ≡ false → has_halves table n ≡ false
table-free m table all n none = sym (has-string table (forward_of n)) ∙ all (forward_of n) ∙ none

-- the two strings at the point
pub strings-met : (m : Map) (p new : ℕ) → IsTried m (Join p new)
    → (s : StringRow) × (t : StringRow) × (by_number (strings_at m p) ≡ s ∷ t ∷ [])
strings-met m p new tried =
    let two = meet-at m p (two-joined m p new (allowed m (Join p new) tried.allowed).not_degree_two) in
    (two.first, two.second, two.are)

-- ---- What is found of it

module _ (m : Map) (p new : ℕ) (tried : IsTried m (Join p new)) (k : Joining)
    (told : (s t : StringRow) → by_number (strings_at m p) ≡ s ∷ t ∷ [] → k ≡ joining_of p new s t) where
  pub joining-number : k.row.number ≡ new
  joining-number =
      let met = strings-met m p new tried in ap (λ (j : Joining). j.row.number) (told met.0 met.1 met.2)

  pub joining-told : (s t : StringRow) → by_number (strings_at m p) ≡ s ∷ t ∷ [] → k ≡ joining_of p k.row.number s t
  joining-told s t are = told s t are ∙ ap (λ (i : ℕ). joining_of p i s t) (sym joining-number)

-- a point of degree two
pub join-two : (m : Map) (p new : ℕ) → IsTried m (Join p new) → degree m p ≡ 2
join-two m p new tried = two-joined m p new (allowed m (Join p new) tried.allowed).not_degree_two

-- ---- With what is at hand

module _ (m : Map) (p : ℕ) (k : Joining) (tried : IsTried m (Join p k.row.number)) (apart : FarEndsAreApart m (Join p k.row.number))
    (s t : StringRow) (are : by_number (strings_at m p) ≡ s ∷ t ∷ []) (is : k ≡ joining_of p k.row.number s t) where
  abbrev pub join-begins : (rows : MapRows) (table : HalfRows) (held : Held Half) (stars : Held Spoke) → FitMap m rows table held stars
      → ((g : Half) → has table g ≡ has_string m g.string) → CanBeginJoin p k.first k.second k.row rows table held stars
  join-begins rows table held stars fits all = record {
    map = m;
    one = s;
    other = t;
    tried = tried;
    apart = apart;
    are = are;
    first_is = sym (ap (λ (j : Joining). j.first) is);
    second_is = sym (ap (λ (j : Joining). j.second) is);
    row_is = ap (λ (j : Joining). j.row) is;
    fits = fits;
    new = (table-free m table all k.row.number (ap is_some (made.join-free m p k.row.number s t tried are apart)), tt);
  }

  -- the rows that it takes are those that it has to have
  pub joined-held : (joined : JoinedRows) → slice_get m.points joined.point_place ≡ Some joined.point
      → point_of m p ≡ Some joined.point
      → slice_get m.strings joined.first_place ≡ Some joined.first → string_of m k.first ≡ Some joined.first
      → slice_get (without_row (λ r. r.number) k.first m.strings) joined.second_place ≡ Some joined.second
      → string_of m k.second ≡ Some joined.second
      → (joined.point.number ≡ p)
      × HeldJoined m joined.point joined.point_place joined.first joined.first_place joined.second joined.second_place
  joined-held joined point point_found first first_found second second_found =
      let at : joined.point.number ≡ p = found-number (λ (r : PointRow). r.number) p m.points joined.point point_found in
      let one : s ≡ joined.first =
      same_some s joined.first
      (sym (made.join-found_first m p k.row.number s t tried are apart) ∙ ap (string_of m) (sym (ap (λ (j : Joining). j.first) is)) ∙ first_found) in
      let other : t ≡ joined.second =
      same_some t joined.second
      (sym (made.join-found_second m p k.row.number s t tried are apart) ∙ ap (string_of m) (sym (ap (λ (j : Joining). j.second) is)) ∙ second_found) in
      let number : k.first ≡ joined.first.number = ap (λ (j : Joining). j.first) is ∙ ap (λ (r : StringRow). r.number) one in (
        at,
        record {
          point = point;
          strings = ap (λ (n : ℕ). by_number (strings_at m n)) at ∙ are ∙ (λ i. one i ∷ other i ∷ []);
          first_there = first;
          second_there =
              subst (λ (n : ℕ). slice_get (without_row (λ r. r.number) n m.strings) joined.second_place ≡ Some joined.second) number second;
        },
      )
    where
      same_some : (a b : StringRow) → Some a ≡ Some b → a ≡ b
      same_some a b e = cc

-- ---- Of one map

module _ (m : Map) (p new : ℕ) (s t : StringRow) (tried : IsTried m (Join p new))
    (are : by_number (strings_at m p) ≡ s ∷ t ∷ []) (apart : FarEndsAreApart m (Join p new)) where
  abbrev n : Map
  n = after m (Join p new)

  abbrev x : Half
  x = half_of s.number (not (s.from == p))

  abbrev y : Half
  y = half_of t.number (t.from == p)

  abbrev z : Half
  z = forward_of new

  abbrev it : HasBetween m n p (far_end s p) (far_end t p) (path_at p s t new)
  it = made.join-has_between m p new s t tried are apart

  pub join-whole_after : HasWholeRings n
  join-whole_after = it.rings_past

  pub join-whole_before : HasWholeRings m
  join-whole_before = it.rings

  -- the strings that went, and the one that came
  pub join-hidden : (g : Half) → IsShown n g → is_of (strings_of (x ∷ y ∷ [])) g ≡ false
  join-hidden = both.past-hidden m n p (far_end s p) (far_end t p) (path_at p s t new) it

  pub join-different : AreDifferent (x ∷ y ∷ [])
  join-different = both.path-different m n p (far_end s p) (far_end t p) (path_at p s t new) it

  pub undo-hidden : (g : Half) → IsShown m g → is_of (strings_of (z ∷ [])) g ≡ false
  undo-hidden = both.through-hidden m n p (far_end s p) (far_end t p) (path_at p s t new) it

  pub undo-different : AreDifferent (z ∷ [])
  undo-different = both.whole-different m n p (far_end s p) (far_end t p) (path_at p s t new) it

  -- ---- The new string has come to the table

  module _ (joined : HalfRows)
      (more : (g : Half) → has joined g ≡ (if is_of (new ∷ []) g then true else has_string m g.string)) where
    pub join-in : AreIn joined (x ∷ y ∷ [])
    join-in = both.path-in m n p (far_end s p) (far_end t p) (path_at p s t new) it joined more

    -- without the two strings it has those of the map after it alone
    pub join-alone : (done : HalfRows) → DropsStrings (x ∷ y ∷ []) joined done → (g : Half) → has done g ≡ has_string n g.string
    join-alone done drops g =
        drops.has g
        ∙ ap (λ (b : Bool). if is_of (strings_of (x ∷ y ∷ [])) g then false else b) (more g)
        ∙ both.past-left m n p (far_end s p) (far_end t p) (path_at p s t new) it g

    -- where the join is taken back, and the new string goes again, it has those of the map
    pub undo-alone : (done : HalfRows) → DropsStrings (z ∷ []) joined done → (g : Half) → has done g ≡ has_string m g.string
    undo-alone done drops g =
        drops.has g
        ∙ ap (λ (b : Bool). if is_of (strings_of (z ∷ [])) g then false else b) (more g)
        ∙ both.through-again m n p (far_end s p) (far_end t p) (path_at p s t new) it g

    pub undo-in : AreIn joined (z ∷ [])
    undo-in = (more z ∙ new-there (is_of (new ∷ []) z) (own new), tt)
      where
        new-there : (b : Bool) → b ≡ true → (if b then true else has_string m new) ≡ true
        new-there b is = ap (λ (c : Bool). if c then true else has_string m new) is

        own : (k : ℕ) → is_of (k ∷ []) (forward_of k) ≡ true
        own k = ap (λ (b : Bool). b || false) (nat_eq_equiv.refl k)

  -- ---- The two strings have come to the table again

  module _ (parted : HalfRows)
      (more : (g : Half) → has parted g ≡ (if is_of (s.number ∷ t.number ∷ []) g then true else has_string n g.string)) where
    pub back-in : AreIn parted (z ∷ [])
    back-in = both.whole-in m n p (far_end s p) (far_end t p) (path_at p s t new) it parted more

    pub back-alone : (done : HalfRows) → DropsStrings (z ∷ []) parted done → (g : Half) → has done g ≡ has_string m g.string
    back-alone done drops g =
        drops.has g
        ∙ ap (λ (b : Bool). if is_of (strings_of (z ∷ [])) g then false else b) (more g)
        ∙ both.through-left m n p (far_end s p) (far_end t p) (path_at p s t new) it g

  -- they aren't there before
  pub back-new : (table : HalfRows) → ((g : Half) → has table g ≡ has_string n g.string)
      → (has_halves table s.number ≡ false) × (has_halves table t.number ≡ false)
  back-new table all = (
    table-free n table all s.number (both.first-gone m n p (far_end s p) (far_end t p) (path_at p s t new) it),
    table-free n table all t.number (both.second-gone m n p (far_end s p) (far_end t p) (path_at p s t new) it),
  )

  -- ---- Work

  pub join-few : (joined : HalfRows) (rows : MapRows) (held : Held Half) (stars : Held Spoke) → FitMap n rows joined held stars
      → length (cycle joined z) + length (cycle joined (twin z)) ≤ sides_through p m
  join-few joined rows held stars fits =
      whole-length m n p (far_end s p) (far_end t p) (path_at p s t new) it joined held fits.fits

  pub unjoin-few : (parted : HalfRows) (rows : MapRows) (held : Held Half) (stars : Held Spoke) → FitMap m rows parted held stars
      → length (cycle parted x) + length (cycle parted (twin y)) ≤ sides_through p m
  unjoin-few parted rows held stars fits =
      path-length m n p (far_end s p) (far_end t p) (path_at p s t new) it parted held fits.fits

  pub join-work : 80 + 4 * sides_through p m ≤ work_bound m n
  join-work = let w = work-allowed m (Join p new) tried in omega (arith, w)

-- ---- Taken back

module _ (m : Map) (new : ℕ) (joined : JoinedRows) (tried : IsTried m (Join joined.point.number new))
    (apart : FarEndsAreApart m (Join joined.point.number new))
    (holds : HeldJoined m joined.point joined.point_place joined.first joined.first_place joined.second joined.second_place)
    (rows : MapRows) (table : HalfRows) (held : Held Half) (stars : Held Spoke)
    (fits : FitMap (after m (Join joined.point.number new)) rows table held stars) where
  -- where it broke a rule
  abbrev pub undo-begins : HasHalves table joined.first → HasHalves table joined.second
      → AreLoose (next table) ((path_at joined.point.number joined.first joined.second new).first
      ∷ (path_at joined.point.number joined.first joined.second new).second ∷ [])
      → HasSlot rows.points joined.point.number → HasSlot rows.strings joined.first.number
      → HasSlot rows.strings joined.second.number → HasRoomAt stars joined.point.number 2
      → CanUnjoin joined new rows table held stars
  undo-begins first_there second_there loose point_slot first_slot second_slot room = record {
    map = m;
    tried = tried;
    apart = apart;
    are = holds.strings;
    point_at = holds.point;
    first_at = holds.first_there;
    second_at = holds.second_there;
    fits = fits;
    first_there = first_there;
    second_there = second_there;
    loose = loose;
    point_slot = point_slot;
    first_slot = first_slot;
    second_slot = second_slot;
    room = room;
  }

  -- where its record is taken back
  abbrev pub back-begins : ((g : Half) → has table g ≡ has_string (after m (Join joined.point.number new)) g.string)
      → CanBeginUnjoin joined new rows table held stars
  back-begins all = record {
    map = m;
    tried = tried;
    apart = apart;
    are = holds.strings;
    point_at = holds.point;
    first_at = holds.first_there;
    second_at = holds.second_there;
    fits = fits;
    new =
        (let free = back-new m joined.point.number new joined.first joined.second tried holds.strings apart table all in
        (free.0, (free.1, tt)));
  }

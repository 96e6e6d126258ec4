-- What is known of an edit that isn't refused at once.
use Rattle.std.proofs.Common.{◌≡◌, ◌≢◌, ℕ, ◌+◌, ◌≤◌, List, [], ◌∷◌, Bool, true, false, cond, not, nat_le, ◌&&◌, Option, Some, None, is_some, option_map, refl, sym, ap, ◌∙◌, arith}
use Rattle.std.proofs.lemmas.Int.{ints}
use Rattle.std.proofs.lemmas.Bool.Decides.{nat_tests}
use Rattle.std.specs.Prelude.{find, ℤ, neg_ℤ, int_le}
use Rattle.std.specs.List.{AllByRecursion}
use Rattle.std.proofs.lemmas.Bool.{eqb-true, eqb-false}
use Rattle.geo_exact.specs.Position.{in_range, coordinate_limit, InRange, OnTheMap}
use Rattle.cad_rows.specs.declared.edits.Edit.{Edit}
use Rattle.cad_rows.specs.declared.edits.Edit.TheVariants.{AddSource, AddPoint, DropPoint, Split, Join}
use Rattle.cad_rows.specs.declared.names.Item.{Item}
use Rattle.cad_rows.specs.declared.names.Name.{Name}
use Rattle.cad_rows.specs.declared.names.Name.TheVariants as name
use Rattle.cad_rows.specs.declared.refusals.Refusal.{Refusal}
use Rattle.cad_rows.specs.declared.refusals.Refusal.TheVariants as told
use Rattle.cad_rows.specs.declared.rows.SourceRow.{SourceRow}
use Rattle.cad_map.specs.Map.{Map, point_of, string_of, has_source, degree, is_free}
use Rattle.numbered_rows.specs.Rows.{row_with}
use Rattle.cad_map.specs.Refusals.{when, first_of, range, unknown, taken, retired, outside, no_change, not_free, not_degree_two, bad_chain, not_in_parcel, chain_joins_rings, same_parcel, not_neighbours, not_one_chain, already_attached, not_attached, full, first_refusal, is_there, item_named}

-- ---- None of the rows applies

pub record IsAllowed (m : Map) (e : Edit) : Type 0 where
  pub range : range e ≡ None
  pub unknown : unknown m e ≡ None
  pub taken : taken m e ≡ None
  pub retired : retired m e ≡ None
  pub outside : outside e ≡ None
  pub no_change : no_change m e ≡ None
  pub not_free : not_free m e ≡ None
  pub not_degree_two : not_degree_two m e ≡ None
  pub bad_chain : bad_chain e ≡ None
  pub not_in_parcel : not_in_parcel m e ≡ None
  pub chain_joins_rings : chain_joins_rings m e ≡ None
  pub same_parcel : same_parcel e ≡ None
  pub not_neighbours : not_neighbours m e ≡ None
  pub not_one_chain : not_one_chain m e ≡ None
  pub already_attached : already_attached m e ≡ None
  pub not_attached : not_attached m e ≡ None
  pub full : full m e ≡ None

none-first : (o : Option Refusal) (rest : List (Option Refusal)) → first_of (o ∷ rest) ≡ None → (o ≡ None) × (first_of rest ≡ None)
none-first None rest none = (refl, none)
none-first (Some r) rest none = cc

pub allowed : (m : Map) (e : Edit) → first_refusal m e ≡ None → IsAllowed m e
unfolding first_refusal
allowed m e none =
    let r1 = none-first (range e) _ none in
    let r2 = none-first (unknown m e) _ r1.1 in
    let r3 = none-first (taken m e) _ r2.1 in
    let r4 = none-first (retired m e) _ r3.1 in
    let r5 = none-first (outside e) _ r4.1 in
    let r6 = none-first (no_change m e) _ r5.1 in
    let r7 = none-first (not_free m e) _ r6.1 in
    let r8 = none-first (not_degree_two m e) _ r7.1 in
    let r9 = none-first (bad_chain e) _ r8.1 in
    let r10 = none-first (not_in_parcel m e) _ r9.1 in
    let r11 = none-first (chain_joins_rings m e) _ r10.1 in
    let r12 = none-first (same_parcel e) _ r11.1 in
    let r13 = none-first (not_neighbours m e) _ r12.1 in
    let r14 = none-first (not_one_chain m e) _ r13.1 in
    let r15 = none-first (already_attached m e) _ r14.1 in
    let r16 = none-first (not_attached m e) _ r15.1 in
    let r17 = none-first (full m e) _ r16.1 in
    record {
      range = r1.0;
      unknown = r2.0;
      taken = r3.0;
      retired = r4.0;
      outside = r5.0;
      no_change = r6.0;
      not_free = r7.0;
      not_degree_two = r8.0;
      bad_chain = r9.0;
      not_in_parcel = r10.0;
      chain_joins_rings = r11.0;
      same_parcel = r12.0;
      not_neighbours = r13.0;
      not_one_chain = r14.0;
      already_attached = r15.0;
      not_attached = r16.0;
      full = r17.0;
    }

-- ---- What each row says, where it does not apply

pub not-when : (b : Bool) (r : Refusal) → when b r ≡ None → b ≡ false
not-when true r none = cc
not-when false r none = refl

both : (a b : Bool) → not (a && b) ≡ false → (a ≡ true) × (b ≡ true)
both true true h = (refl, refl)
both true false h = cc
both false b h = cc

pub none-from_some : {X : Type 0} (o : Option X) → is_some o ≡ false → o ≡ None
none-from_some None h = refl
none-from_some (Some x) h = cc

-- a test of a first name, and of those after it
found-first : (test : Name → Bool) (said : Name → Refusal) (n : Name) (ns : List Name) → option_map said (find test (n ∷ ns)) ≡ None → (test n ≡ false) × (option_map said (find test ns) ≡ None)
found-first test said n ns none = by (test n) refl
  where
    by : (b : Bool) → test n ≡ b → (test n ≡ false) × (option_map said (find test ns) ≡ None)
    by true is = let here : Some (said n) ≡ None = sym (ap (λ (b : Bool). option_map said (cond b (Some n) (find test ns))) is) ∙ none in cc
    by false is = (is, sym (ap (λ (b : Bool). option_map said (cond b (Some n) (find test ns))) is) ∙ none)

-- a point or a source whose number is not taken isn't there
pub free-point : (m : Map) (p : ℕ) (x y : ℤ) → taken m (AddPoint p x y) ≡ None → point_of m p ≡ None
free-point m p x y none = none-from_some (point_of m p) (found-first (is_there m) told.Taken (name.Point p) [] none).0

pub free-source : (m : Map) (s : ℕ) (text : List ℕ) → taken m (AddSource s text) ≡ None → row_with (λ (r : SourceRow). r.number) s m.sources ≡ None
free-source m s text none = none-from_some (row_with (λ (r : SourceRow). r.number) s m.sources) (found-first (is_there m) told.Taken (name.Source s) [] none).0

not-not : (b : Bool) → not b ≡ false → b ≡ true
not-not true h = refl
not-not false h = cc

-- what is named alone is there
pub there-one : (m : Map) (n : Name) → option_map (λ n. told.Unknown n) (find (λ n. not (is_there m n)) (n ∷ [])) ≡ None → is_there m n ≡ true
there-one m n none = not-not _ (found-first (λ n. not (is_there m n)) told.Unknown n [] none).0

-- numbers that are given are not in use
pub free-each : (m : Map) (ns : List Name) → option_map (λ n. told.Taken n) (find (is_there m) ns) ≡ None → AllByRecursion (λ n. is_there m n ≡ false) ns
free-each m [] none = tt
free-each m (n ∷ ns) none = let a = found-first (is_there m) told.Taken n ns none in (a.0, free-each m ns a.1)

-- an item that is named is there, and so is the source
pub there-attached : (m : Map) (i : Item) (s : ℕ) → option_map (λ n. told.Unknown n) (find (λ n. not (is_there m n)) (item_named i ∷ name.Source s ∷ [])) ≡ None → (is_there m (item_named i) ≡ true) × (has_source m s ≡ true)
there-attached m i s none =
    let a = found-first (λ n. not (is_there m n)) told.Unknown (item_named i) (name.Source s ∷ []) none in
    let b = found-first (λ n. not (is_there m n)) told.Unknown (name.Source s) [] a.1 in
    (not-not _ a.0, not-not _ b.0)

and-parts : (a b : Bool) → (a && b) ≡ true → (a ≡ true) × (b ≡ true)
and-parts true true h = (refl, refl)
and-parts true false h = cc
and-parts false b h = cc

pub within-limits : (z : ℤ) → in_range z ≡ true → InRange z
within-limits z h = let parts = and-parts (int_le (neg_ℤ coordinate_limit) z) (int_le z coordinate_limit) h in record { low = grind (arith, ints); high = grind (arith, ints) }

-- a new point whose coordinates are not refused lies on the map
pub position-in_range : (x y : ℤ) → when (not (in_range x && in_range y)) told.Range ≡ None → OnTheMap (record { x = x; y = y })
position-in_range x y none =
    let parts = both (in_range x) (in_range y) (not-when _ _ none) in
    record { x_in_range = within-limits x parts.0; y_in_range = within-limits y parts.1 }

-- one more fits where the limit is not reached
pub room : (limit n : ℕ) → nat_le limit n ≡ false → n + 1 ≤ limit
room limit n h = grind (arith, nat_tests)

-- a point that is dropped is on no string
pub free-dropped : (m : Map) (p : ℕ) → not_free m (DropPoint p) ≡ None → is_free m p ≡ true
free-dropped m p none = by (is_free m p) refl
  where
    by : (b : Bool) → is_free m p ≡ b → is_free m p ≡ true
    by true is = is
    by false is = let here : Some (told.NotFree p) ≡ None = sym (ap (λ (b : Bool). option_map (λ q. told.NotFree q) (cond (not b) (Some p) None)) is) ∙ none in cc

-- the point of a join is on two strings
pub two-joined : (m : Map) (p s : ℕ) → not_degree_two m (Join p s) ≡ None → degree m p ≡ 2
two-joined m p s none = eqb-true (degree m p) 2 (not-not _ (not-when _ _ none))

-- the halves of a string have different numbers
pub halves-differ : (s p : ℕ) (x y : ℤ) (first second : ℕ) → bad_chain (Split s p x y first second) ≡ None → first ≢ second
halves-differ s p x y first second none = eqb-false first second (not-when _ _ none)

-- and neither they nor the point are there
pub free-split : (m : Map) (s p : ℕ) (x y : ℤ) (first second : ℕ) → taken m (Split s p x y first second) ≡ None → (point_of m p ≡ None) × (string_of m first ≡ None) × (string_of m second ≡ None)
free-split m s p x y first second none =
    let each = free-each m (name.Point p ∷ name.String first ∷ name.String second ∷ []) none in
    (none-from_some (point_of m p) each.0, none-from_some (string_of m first) each.1.0, none-from_some (string_of m second) each.1.1.0)

-- the number of a joined string isn't in use
pub free-join : (m : Map) (p s : ℕ) → taken m (Join p s) ≡ None → string_of m s ≡ None
free-join m p s none = none-from_some (string_of m s) (free-each m (name.String s ∷ []) none).0

-- Strings and a parcel put last into a map, with rings whose sides are those of its strings: the map stays sound.
use Rattle.std.proofs.Common.{◌≡◌, ◌≢◌, ℕ, ◌+◌, ◌≤◌, ◌⊎◌, inl, inr, refl, sym, subst, List, [], ◌∷◌, ◌++◌, length, map, Bool, true, false, true≢false, None, is_some, nat_eq, arith}
use Rattle.std.specs.Prelude.{IsTrue, IsPermutation, flat_map}
use Rattle.std.specs.List.{AllByRecursion}
use Rattle.std.proofs.lemmas.List.{length-append, map-append}
use Rattle.std.proofs.lemmas.Bool.{eqb-true}
use Rattle.std.proofs.lemmas.Cmp.{nat_eq_equiv}
use Rattle.cad_rows.specs.Limits.{IsNumber, IsLabel, row_limit, string_limit}
use Rattle.cad_rows.specs.declared.names.Face.{Face}
use Rattle.cad_rows.specs.declared.names.Face.TheVariants.{Outside, Parcel}
use Rattle.cad_rows.specs.declared.rows.ParcelRow.{ParcelRow}
use Rattle.cad_rows.specs.declared.rows.StringRow.{StringRow}
use Rattle.cad_rings.specs.Cycle.{Side, opposite, sides_of}
use Rattle.cad_map.specs.declared.boundary.Boundary.{Boundary}
use Rattle.cad_map.specs.Boundaries.{canonical_form, canonical_order, sides_in}
use Rattle.cad_map.specs.Map.{Map, string_of, parcel_of, has_point, has_parcel, has_face, has_source, is_retired, side_of, string_sides}
use Rattle.numbered_rows.specs.Rows.{row_with}
use Rattle.cad_map.specs.Valid.{EachPair, AreNumbers, AreSources, HasSoundRows, IsSound}
use Rattle.cad_map.specs.Changes.{with_boundaries, with_new_parcel}
use Rattle.numbered_rows.proofs.Removed.{others-from_none}
use Rattle.cad_map.proofs.Lists.EachElement.{All-push, All-follows, All-map, All-flat_map, All-permuted, EachPair-push, map-push, found-push}
use Rattle.cad_map.proofs.Boundaries.CanonicalOrder.{IsPermutation-canonical_order, canonical_order-canonical_order}
use Rattle.cad_map.proofs.Boundaries.TwoFaces.{AreApart, complete}
use Rattle.cad_map.proofs.Parcels.ChainFacts.{others-attached, points-round}

-- ---- One list after another

pub All-join : {X : Type 0} (P : X → Type 0) (xs ys : List X) → AllByRecursion P xs → AllByRecursion P ys → AllByRecursion P (xs ++ ys)
All-join P [] ys here there = there
All-join P (x ∷ xs) ys here there = (here.0, All-join P xs ys here.1 there)

pub EachPair-join : {X : Type 0} (R : X → X → Type 0) (xs ys : List X) → EachPair R xs → EachPair R ys → AllByRecursion (λ x. AllByRecursion (R x) ys) xs → EachPair R (xs ++ ys)
EachPair-join R [] ys here there between = there
EachPair-join R (x ∷ xs) ys here there between = (All-join (R x) xs ys here.0 between.0, EachPair-join R xs ys here.1 there between.1)

-- a fact between each two elements of two lists, told from the other list
pub All-exchanged : {X Y : Type 0} (R : X → Y → Type 0) (xs : List X) (ys : List Y) → AllByRecursion (λ y. AllByRecursion (λ x. R x y) xs) ys → AllByRecursion (λ x. AllByRecursion (R x) ys) xs
All-exchanged R [] ys all = tt
All-exchanged R (x ∷ xs) ys all =
    (All-follows (λ y. AllByRecursion (λ z. R z y) (x ∷ xs)) (R x) (λ y h. h.0) ys all, All-exchanged R xs ys (All-follows (λ y. AllByRecursion (λ z. R z y) (x ∷ xs)) (λ y. AllByRecursion (λ z. R z y) xs) (λ y h. h.1) ys all))

-- a row of another number is found for no number that none had
none-push : {R : Type 0} (number : R → ℕ) (n : ℕ) (rows : List R) (row : R) → n ≢ number row → is_some (row_with number n rows) ≡ false → is_some (row_with number n (rows ++ row ∷ [])) ≡ false
none-push number n [] row other none = by (nat_eq (number row) n) refl
  where
    by : (b : Bool) → nat_eq (number row) n ≡ b → is_some (row_with number n (row ∷ [])) ≡ false
    by true is = absurd (other (sym (eqb-true (number row) n is)))
    by false is = rw is refl
none-push number n (r ∷ rows) row other none = by (nat_eq (number r) n) refl (λ rest. none-push number n rows row other rest)
  where
    by : (b : Bool) → nat_eq (number r) n ≡ b → (is_some (row_with number n rows) ≡ false → is_some (row_with number n (rows ++ row ∷ [])) ≡ false) → is_some (row_with number n (r ∷ rows ++ row ∷ [])) ≡ false
    by true is again = absurd (true≢false (rw is at none))
    by false is again = rw is (again (rw is at none))

-- the row that is put last is found
last-found : {R : Type 0} (number : R → ℕ) (rows : List R) (row : R) → is_some (row_with number (number row) (rows ++ row ∷ [])) ≡ true
last-found number [] row = rw (nat_eq_equiv.refl (number row)) refl
last-found number (r ∷ rows) row = by (nat_eq (number r) (number row)) refl (last-found number rows row)
  where
    by : (b : Bool) → nat_eq (number r) (number row) ≡ b → is_some (row_with number (number row) (rows ++ row ∷ [])) ≡ true → is_some (row_with number (number row) (r ∷ rows ++ row ∷ [])) ≡ true
    by true is rest = rw is refl
    by false is rest = rw is rest

-- ---- Rows that can be put in

-- strings and a parcel with new numbers, between known points, of a known source
pub record CanBeAdded (m : Map) (rows : List StringRow) (parcel : ℕ) (label : List ℕ) (source : ℕ) : Type 0 where
  pub source_there : has_source m source ≡ true
  pub numbers : AreNumbers (map (λ r. r.number) rows)
  pub new : AllByRecursion (λ n. string_of m n ≡ None) (map (λ r. r.number) rows)
  pub ends : AllByRecursion (λ s. IsTrue (has_point m s.from) × IsTrue (has_point m s.to)) rows
  pub two : AllByRecursion (λ s. s.from ≢ s.to) rows
  pub sources : AllByRecursion (λ r. AreSources m.sources r.sources) rows
  pub few_strings : length m.strings + length rows ≤ string_limit
  pub parcel_number : IsNumber parcel
  pub parcel_new : parcel_of m parcel ≡ None
  pub not_retired : is_retired m parcel ≡ false
  pub is_label : IsLabel label
  pub few_parcels : length m.parcels + 1 ≤ row_limit

-- one known source
pub one_source : (m : Map) (source : ℕ) → has_source m source ≡ true → AreSources m.sources (source ∷ [])
one_source m source there = record { known = (there, tt); distinct = (tt, tt); few = omega arith }

module _ (m : Map) (rows : List StringRow) (parcel : ℕ) (label : List ℕ) (source : ℕ) (can : CanBeAdded m rows parcel label source) where
  abbrev row : ParcelRow
  row = record { number = parcel; label = label; sources = source ∷ [] }

  -- the map with the new strings and the new parcel, and the rings that it had
  abbrev grown : Map
  grown = with_new_parcel rows parcel label source m

  -- a face of the map, or the new one
  abbrev pub IsKnown : Face → Type 0
  IsKnown f = (has_face m f ≡ true) ⊎ (f ≡ Parcel parcel)

  parcel-known : has_face grown (Parcel parcel) ≡ true
  parcel-known = last-found (λ (r : ParcelRow). r.number) m.parcels row

  face-stays : (f : Face) → has_face m f ≡ true → has_face grown f ≡ true
  face-stays Outside known = refl
  face-stays (Parcel n) known = found-push (λ (r : ParcelRow). r.number) n m.parcels row known

  face-known : (f : Face) → IsKnown f → has_face grown f ≡ true
  face-known f known = elim known [ inl there ↦ face-stays f there | inr is ↦ subst (λ (g : Face). has_face grown g ≡ true) (sym is) parcel-known ]

  faces-known : (bs : List Boundary) → AllByRecursion (λ b. IsKnown b.face) bs → AllByRecursion (λ b. IsTrue (has_face grown b.face)) (canonical_order bs)
  faces-known bs known =
      All-permuted (λ b. IsTrue (has_face grown b.face)) (map canonical_form bs) (canonical_order bs) (IsPermutation-canonical_order bs)
      (All-map (λ b. IsTrue (has_face grown b.face)) canonical_form bs (All-follows (λ b. IsKnown b.face) (λ b. IsTrue (has_face grown b.face)) (λ b k. face-known b.face k) bs known))

  all-ends : HasSoundRows m → AllByRecursion (λ s. IsTrue (has_point m s.from) × IsTrue (has_point m s.to)) grown.strings
  all-ends v = All-join (λ s. IsTrue (has_point m s.from) × IsTrue (has_point m s.to)) m.strings rows v.ends can.ends

  -- each side of a string leaves a known point
  sides-known : (strings : List StringRow) → AllByRecursion (λ s. IsTrue (has_point m s.from) × IsTrue (has_point m s.to)) strings
      → AllByRecursion (λ (s : Side). IsTrue (has_point m s.0)) (flat_map (λ s. side_of s ∷ opposite (side_of s) ∷ []) strings)
  sides-known [] ends = tt
  sides-known (s ∷ strings) ends = (ends.0.0, (ends.0.1, sides-known strings ends.1))

  -- so rings with these sides have known points
  points-known : HasSoundRows m → (bs : List Boundary) → IsPermutation (string_sides grown) (sides_in bs) → AllByRecursion (λ b. AllByRecursion (λ p. IsTrue (has_point m p)) b.ring) bs
  points-known v bs once =
      All-follows (λ b. AllByRecursion (λ (s : Side). IsTrue (has_point m s.0)) (sides_of b.ring)) (λ b. AllByRecursion (λ p. IsTrue (has_point m p)) b.ring) (λ b all. points-round (λ p. IsTrue (has_point m p)) b.ring all) bs
      (All-flat_map (λ (s : Side). IsTrue (has_point m s.0)) (λ b. sides_of b.ring) bs
      (All-permuted (λ (s : Side). IsTrue (has_point m s.0)) (string_sides grown) (sides_in bs) once (sides-known grown.strings (all-ends v))))

  abbrev number : StringRow → ℕ
  number r = r.number

  numbers-grown : HasSoundRows m → AreNumbers (map number (m.strings ++ rows))
  numbers-grown v =
      let old = map number m.strings in
      let new = map number rows in
      rw (map-append number m.strings rows) (record {
        in_range = All-join IsNumber old new v.strings.in_range can.numbers.in_range;
        distinct = EachPair-join (λ a b. a ≢ b) old new v.strings.distinct can.numbers.distinct
            (All-exchanged (λ a b. a ≢ b) old new (All-follows (λ n. string_of m n ≡ None) (λ n. AllByRecursion (λ a. a ≢ n) old) (λ n none. others-from_none number n m.strings none) new can.new));
      })

  rows-grown : HasSoundRows m → (bs : List Boundary) → AllByRecursion (λ b. IsKnown b.face) bs → IsPermutation (string_sides grown) (sides_in (canonical_order bs)) → HasSoundRows (with_boundaries bs grown)
  rows-grown v bs known once =
      record {
        sources = v.sources;
        points = v.points;
        retired = v.retired;
        texts = v.texts;
        positions = v.positions;
        point_sources = v.point_sources;
        few_sources = v.few_sources;
        few_points = v.few_points;
        few_retired = v.few_retired;
        parcels = rw (map-push (λ (r : ParcelRow). r.number) m.parcels row) (record {
          in_range = All-push IsNumber (map (λ (r : ParcelRow). r.number) m.parcels) parcel v.parcels.in_range can.parcel_number;
          distinct = EachPair-push (λ a b. a ≢ b) (map (λ (r : ParcelRow). r.number) m.parcels) parcel v.parcels.distinct (others-from_none (λ (r : ParcelRow). r.number) parcel m.parcels can.parcel_new);
        });
        strings = numbers-grown v;
        retired_for_good = both m.retired v.retired_for_good (others-attached parcel m.retired can.not_retired);
        labels = All-push (λ (r : ParcelRow). IsLabel r.label) m.parcels row v.labels can.is_label;
        ends = all-ends v;
        points_of_rings = points-known v (canonical_order bs) once;
        faces_of_rings = faces-known bs known;
        parcel_sources = All-push (λ (r : ParcelRow). AreSources m.sources r.sources) m.parcels row v.parcel_sources (one_source m source can.source_there);
        string_sources = All-join (λ (r : StringRow). AreSources m.sources r.sources) m.strings rows v.string_sources can.sources;
        few_parcels = let e = length-append m.parcels (row ∷ []) in omega (arith, e, can.few_parcels);
        few_strings = let e = length-append m.strings rows in omega (arith, e, can.few_strings);
        canonical = canonical_order-canonical_order bs;
      }
    where
      both : (ns : List ℕ) → AllByRecursion (λ n. has_parcel m n ≡ false) ns → AllByRecursion (λ n. n ≢ parcel) ns → AllByRecursion (λ n. has_parcel grown n ≡ false) ns
      both [] none other = tt
      both (n ∷ ns) none other = (none-push (λ (r : ParcelRow). r.number) n m.parcels row other.0 none.0, both ns none.1 other.1)

  -- With rings whose sides are those of all strings, none of which has one face on its two hands, the map is sound.
  pub added-sound : IsSound m → (bs : List Boundary) → AllByRecursion (λ b. IsKnown b.face) bs → AllByRecursion (λ b. 3 ≤ length b.ring) bs → IsPermutation (string_sides grown) (sides_in bs) → AreApart bs
      → IsSound (with_boundaries bs grown)
  added-sound sound bs known three once apart =
      let rings = complete grown bs three once apart in
      record { v1 = rows-grown sound.v1 bs known rings.once; v2 = All-join (λ (s : StringRow). s.from ≢ s.to) m.strings rows sound.v2 can.two; v5 = rings }

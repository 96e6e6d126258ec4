-- What is known of a division, a merger and an enclosure that aren't refused at once.
use Rattle.std.proofs.Common.{◌≡◌, ℕ, ◌+◌, ◌-◌, ◌≤◌, List, [], ◌∷◌, ◌++◌, length, Bool, true, false, cond, not, nat_lt, nat_le, ◌==◌, ◌||◌, Option, Some, None, option_map, refl, sym, ap, ◌∙◌, true≢false, arith}
use Rattle.std.proofs.lemmas.Bool.{eqb-true}
use Rattle.std.proofs.lemmas.Bool.Decides.{nat_tests}
use Rattle.std.specs.Prelude.{find, IsTrue}
use Rattle.std.specs.List.{AllByRecursion}
use Rattle.cad_rows.specs.Limits.{row_limit, string_limit, IsNumber, IsLabel}
use Rattle.cad_rows.specs.declared.edits.Edit.TheVariants.{Divide, Merge, Enclose}
use Rattle.cad_rows.specs.declared.names.Face.{Face}
use Rattle.cad_rows.specs.declared.names.Face.TheVariants.{Outside, Parcel}
use Rattle.cad_rows.specs.declared.names.Name.{Name}
use Rattle.cad_rows.specs.declared.names.Name.TheVariants as name
use Rattle.cad_rows.specs.declared.refusals.Refusal.TheVariants as told
use Rattle.cad_rings.specs.Cycle.{Corner}
use Rattle.cad_map.specs.Chain.{start_of, next_of, end_of, last_but_one, inner_of, are_distinct, chosen_corner}
use Rattle.cad_map.specs.Map.{Map, has_face, has_point, parcel_of, string_of, is_free, is_retired}
use Rattle.cad_map.specs.Merger.{ChainInRings, shared_chains}
use Rattle.cad_map.specs.Refusals.{first_of, is_there, face_named, points_named, strings_named, first_not_free, corner_missing, have_one_ring, is_bad_chain}
use Rattle.cad_map.proofs.Edits.Allowed.{IsAllowed, not-when, none-from_some, free-each, room}
use Rattle.cad_map.proofs.Lists.EachElement.{All-append}
use Rattle.cad_map.proofs.Edits.KeptRows.{or-none, differs}
use Rattle.cad_map.proofs.Parcels.AddedChain.{CanAddRows}
use Rattle.cad_map.proofs.Parcels.Divided.{CanDivide}
use Rattle.cad_map.proofs.Parcels.Enclosed.{CanEnclose}
use Rattle.cad_map.proofs.Mergers.MergedRows.{CanMerge}

-- ---- What the rows say, where they don't apply

not-not : (b : Bool) → not b ≡ false → b ≡ true
not-not true h = refl
not-not false h = cc

-- all that is named is there
pub there-each : (m : Map) (ns : List Name) → option_map (λ n. told.Unknown n) (find (λ n. not (is_there m n)) ns) ≡ None → AllByRecursion (λ n. is_there m n ≡ true) ns
there-each m [] none = tt
there-each m (n ∷ ns) none = by (is_there m n) refl (λ h. there-each m ns h)
  where
    by : (b : Bool) → is_there m n ≡ b → (option_map (λ n. told.Unknown n) (find (λ n. not (is_there m n)) ns) ≡ None → AllByRecursion (λ n. is_there m n ≡ true) ns) → AllByRecursion (λ n. is_there m n ≡ true) (n ∷ ns)
    by true is again = (is, again (sym (ap (λ (b : Bool). option_map (λ n. told.Unknown n) (cond (not b) (Some n) (find (λ n. not (is_there m n)) ns))) is) ∙ none))
    by false is again = let here : Some (told.Unknown n) ≡ None = sym (ap (λ (b : Bool). option_map (λ n. told.Unknown n) (cond (not b) (Some n) (find (λ n. not (is_there m n)) ns))) is) ∙ none in cc

face-there : (m : Map) (f : Face) → AllByRecursion (λ n. is_there m n ≡ true) (face_named f) → has_face m f ≡ true
face-there m Outside all = refl
face-there m (Parcel n) all = all.0

pub points-there : (m : Map) (points : List ℕ) → AllByRecursion (λ n. is_there m n ≡ true) (points_named points) → AllByRecursion (λ p. IsTrue (has_point m p)) points
points-there m [] all = tt
points-there m (p ∷ points) all = (all.0, points-there m points all.1)

strings-new : (m : Map) (strings : List ℕ) → AllByRecursion (λ n. is_there m n ≡ false) (strings_named strings) → AllByRecursion (λ s. string_of m s ≡ None) strings
strings-new m [] all = tt
strings-new m (s ∷ strings) all = (none-from_some (string_of m s) all.0, strings-new m strings all.1)

-- all points are on no string
all-free : (m : Map) (points : List ℕ) → first_not_free m points ≡ None → AllByRecursion (λ p. is_free m p ≡ true) points
all-free m [] none = tt
all-free m (p ∷ points) none = by (is_free m p) refl (λ h. all-free m points h)
  where
    by : (b : Bool) → is_free m p ≡ b → (first_not_free m points ≡ None → AllByRecursion (λ p. is_free m p ≡ true) points) → AllByRecursion (λ p. is_free m p ≡ true) (p ∷ points)
    by true is again = (is, again (sym (ap (λ (b : Bool). option_map (λ q. told.NotFree q) (cond (not b) (Some p) (find (λ q. not (is_free m q)) points))) is) ∙ none))
    by false is again = let here : Some (told.NotFree p) ≡ None = sym (ap (λ (b : Bool). option_map (λ q. told.NotFree q) (cond (not b) (Some p) (find (λ q. not (is_free m q)) points))) is) ∙ none in cc

not-less : (limit n : ℕ) → nat_lt n limit ≡ false → limit ≤ n
not-less limit n h = grind (arith, nat_tests)

-- the lists of a chain fit, and no number stands twice
pub record IsGoodChain (points : List ℕ) (least : ℕ) (strings : List ℕ) (wanted : ℕ) : Type 0 where
  pub long : least ≤ length points
  pub as_many : length strings ≡ wanted
  pub points_distinct : are_distinct points ≡ true
  pub strings_distinct : are_distinct strings ≡ true

pub good-chain : (points : List ℕ) (least : ℕ) (strings : List ℕ) (wanted : ℕ) → is_bad_chain points least strings wanted ≡ false → IsGoodChain points least strings wanted
good-chain points least strings wanted none =
    let a = or-none (nat_lt (length points) least || not (length strings == wanted) || not (are_distinct points)) (not (are_distinct strings)) none in
    let b = or-none (nat_lt (length points) least || not (length strings == wanted)) (not (are_distinct points)) a.0 in
    let c = or-none (nat_lt (length points) least) (not (length strings == wanted)) b.0 in
    record {
      long = not-less least (length points) c.0;
      as_many = eqb-true (length strings) wanted (not-not _ c.1);
      points_distinct = not-not _ b.1;
      strings_distinct = not-not _ a.1;
    }

-- both corners are there
corners-there : (a b : Option Corner) (p q : ℕ) → first_of (corner_missing a p ∷ corner_missing b q ∷ []) ≡ None → ((c : Corner) × (a ≡ Some c)) × ((d : Corner) × (b ≡ Some d))
corners-there None b p q none = cc
corners-there (Some c) None p q none = cc
corners-there (Some c) (Some d) p q none = ((c, refl), (d, refl))

-- so many strings and one parcel more fit
fits-parcel : (strings more parcels : ℕ) → (nat_lt string_limit (strings + more) || nat_le row_limit parcels) ≡ false → (strings + more ≤ string_limit) × (parcels + 1 ≤ row_limit)
fits-parcel strings more parcels none =
    let both = or-none (nat_lt string_limit (strings + more)) (nat_le row_limit parcels) none in
    (not-less (strings + more) string_limit both.0, room row_limit parcels both.1)

-- what each new parcel asks of the map
can-add_rows : (m : Map) (strings : List ℕ) (parcel : ℕ) (label : List ℕ) (source : ℕ) → AllByRecursion IsNumber strings × IsNumber parcel × IsLabel label → is_there m (name.Source source) ≡ true
    → AllByRecursion (λ n. is_there m n ≡ false) (strings_named strings ++ name.Parcel parcel ∷ []) → is_retired m parcel ≡ false → are_distinct strings ≡ true
    → (nat_lt string_limit (length m.strings + length strings) || nat_le row_limit (length m.parcels)) ≡ false → CanAddRows m strings parcel label source
can-add_rows m strings parcel label source given there free not_retired distinct not_full =
    let new = All-append (λ n. is_there m n ≡ false) (strings_named strings) (name.Parcel parcel ∷ []) free in
    let fits = fits-parcel (length m.strings) (length strings) (length m.parcels) not_full in
    record {
      source_there = there;
      strings_new = strings-new m strings new.0;
      parcel_new = none-from_some (parcel_of m parcel) new.1.0;
      not_retired = not_retired;
      strings_distinct = distinct;
      few_strings = fits.0;
      few_parcels = fits.1;
      string_numbers = given.0;
      parcel_number = given.1;
      is_label = given.2;
    }

-- ---- The three edits

pub can-divide : (m : Map) (face : Face) (chain strings : List ℕ) (parcel : ℕ) (label : List ℕ) (source : ℕ) → AllByRecursion IsNumber strings × IsNumber parcel × IsLabel label → IsAllowed m (Divide face chain strings parcel label source)
    → CanDivide m face chain strings parcel label source
can-divide m face chain strings parcel label source given free =
    let there = All-append (λ n. is_there m n ≡ true) (face_named face ++ points_named chain) (name.Source source ∷ []) (there-each m ((face_named face ++ points_named chain) ++ name.Source source ∷ []) free.unknown) in
    let known = All-append (λ n. is_there m n ≡ true) (face_named face) (points_named chain) there.0 in
    let good = good-chain chain 2 strings (length chain - 1) (not-when _ _ free.bad_chain) in
    let long = good.long in
    let many = good.as_many in
    let corners = corners-there (chosen_corner m face (start_of chain) (next_of chain)) (chosen_corner m face (end_of chain) (last_but_one chain)) (start_of chain) (end_of chain) free.not_in_parcel in
    record {
      rows = can-add_rows m strings parcel label source given there.1.0 (free-each m (strings_named strings ++ name.Parcel parcel ∷ []) free.taken)
          (not-when _ _ free.retired) good.strings_distinct (not-when _ _ free.full);
      face_there = face-there m face known.0;
      points_there = points-there m chain known.1;
      inner_free = all-free m (inner_of chain) free.not_free;
      long = long;
      as_many = omega (arith, long, many);
      points_distinct = good.points_distinct;
      first = corners.0.0;
      at_first = corners.0.1;
      last = corners.1.0;
      at_last = corners.1.1;
      one_ring = not-not _ ((λ i. not (have_one_ring m face (sym corners.0.1 i) (sym corners.1.1 i))) ∙ not-when _ _ free.chain_joins_rings);
    }

pub can-enclose : (m : Map) (face : Face) (points strings : List ℕ) (parcel : ℕ) (label : List ℕ) (source : ℕ) → AllByRecursion IsNumber strings × IsNumber parcel × IsLabel label → IsAllowed m (Enclose face points strings parcel label source)
    → CanEnclose m face points strings parcel label source
can-enclose m face points strings parcel label source given free =
    let there = All-append (λ n. is_there m n ≡ true) (face_named face ++ points_named points) (name.Source source ∷ []) (there-each m ((face_named face ++ points_named points) ++ name.Source source ∷ []) free.unknown) in
    let known = All-append (λ n. is_there m n ≡ true) (face_named face) (points_named points) there.0 in
    let good = good-chain points 3 strings (length points) (not-when _ _ free.bad_chain) in
    record {
      rows = can-add_rows m strings parcel label source given there.1.0 (free-each m (strings_named strings ++ name.Parcel parcel ∷ []) free.taken)
          (not-when _ _ free.retired) good.strings_distinct (not-when _ _ free.full);
      face_there = face-there m face known.0;
      points_there = points-there m points known.1;
      free = all-free m points free.not_free;
      long = good.long;
      as_many = good.as_many;
      points_distinct = good.points_distinct;
    }

-- a merger names two parcels
pub record NamesParcels (kept ended : Face) : Type 0 where
  pub first : ℕ
  pub second : ℕ
  pub kept_is : kept ≡ Parcel first
  pub ended_is : ended ≡ Parcel second

pub names-parcels : (m : Map) (kept ended : Face) → IsAllowed m (Merge kept ended) → NamesParcels kept ended
names-parcels m Outside ended free = absurd (true≢false (not-when _ _ free.outside))
names-parcels m (Parcel k) Outside free = absurd (true≢false (not-when _ _ free.outside))
names-parcels m (Parcel k) (Parcel n) free = record { first = k; second = n; kept_is = refl; ended_is = refl }

some-first : (shared_chains : List ChainInRings) → (length shared_chains == 0) ≡ false → (s : ChainInRings) × (others : List ChainInRings) × (shared_chains ≡ s ∷ others)
some-first [] h = absurd (true≢false h)
some-first (s ∷ others) h = (s, others, refl)

pub can-merge : (m : Map) (kept ended : ℕ) → IsAllowed m (Merge (Parcel kept) (Parcel ended)) → CanMerge m kept ended
can-merge m kept ended free =
    let there = there-each m (name.Parcel kept ∷ name.Parcel ended ∷ []) free.unknown in
    let found = some-first (shared_chains m (Parcel kept) (Parcel ended)) (not-when _ _ free.not_one_chain) in
    record {
      kept_there = there.0;
      ended_there = there.1.0;
      two = differs kept ended (not-when _ _ free.same_parcel);
      shared_chain = found.0;
      others = found.1;
      found = found.2;
      few_retired = room row_limit (length m.retired) (not-when _ _ free.full);
    }

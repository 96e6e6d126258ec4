-- The sides of a plan without a bad corner or another label are sides that follow one another.
use Rattle.std.proofs.Common.{◌≡◌, ◌≢◌, ℕ, ◌⊎◌, inl, inr, refl, sym, ap, subst, ◌∙◌, List, [], ◌∷◌, length, map, find, Option, Some, None, option_map, Bool, true, false, cond, not, nat_eq, ◌&&◌, ◌||◌, true≢false}
use Rattle.std.proofs.lemmas.Bool.{eqb-true}
use Rattle.std.proofs.lemmas.Cmp.{nat_eq_equiv}
use Rattle.std.proofs.lemmas.Slice.Eq.{bytes_eq-Decides}
use Rattle.std.specs.Prelude.{if◌then◌else◌, ◌==◌}
use Rattle.std.specs.List.{AllByRecursion, Contains, list_any}
use Rattle.std.specs.Str.{bytes_eq as is_same_list}
use Rattle.cad_rows.specs.declared.names.Face.{Face}
use Rattle.cad_rows.specs.declared.names.Face.TheVariants.{Outside, Parcel}
use Rattle.cad_rings.specs.Cycle.{Side, is_side}
use Rattle.cad_rings.proofs.CallerLemmas.{is_side-same}
use Rattle.cad_map.specs.Boundaries.{is_face}
use Rattle.cad_map.specs.Map.{Map}
use Rattle.cad_map.specs.Valid.{EachPair}
use Rattle.cad_map.proofs.CallerLemmas.{All-map, All-follows, Contains-first, Contains-later, is_side-refl}
use Rattle.cad_files.specs.Follower.{followers, labelled_sides}
use Rattle.cad_files.specs.Building.{is_dangling, dangling, is_bad_corner, first_bad_corner, bad_corner, keeps_face, other_label}
use Rattle.cad_files.specs.Cycles.{FollowedSide, side_of_followed, side_behind, HasNext, AreFollowed, AreSidesOf, side_and_face, labelled_side_and_face}
use Rattle.cad_files.specs.declared.rows.PlanString.{PlanString}
use Rattle.cad_files.proofs.CycleRings.{sides-side_and_face, sides-labelled_side_and_face}

-- ---- Tests

or-false : (a b : Bool) → (a || b) ≡ false → (a ≡ false) × (b ≡ false)
or-false false b h = (refl, h)
or-false true b h = cc h

or-cases : (a b : Bool) → (a || b) ≡ true → (a ≡ true) ⊎ (b ≡ true)
or-cases true b h = inl refl
or-cases false b h = inr h

and-both : (a b : Bool) → (a && b) ≡ true → (a ≡ true) × (b ≡ true)
and-both true b h = (refl, h)
and-both false b h = cc h

module _ {X : Type 0} (test : X → Bool) where
  none-passes : (xs : List X) → list_any test xs ≡ false → AllByRecursion (λ x. test x ≡ false) xs
  none-passes [] none = tt
  none-passes (x ∷ xs) none = let parts = or-false (test x) (list_any test xs) none in (parts.0, none-passes xs parts.1)

  one-passes : (xs : List X) → list_any test xs ≡ true → (x : X) × Contains xs x × (test x ≡ true)
  one-passes [] some = absurd (true≢false (sym some))
  one-passes (x ∷ xs) some = by (λ later. one-passes xs later) (or-cases (test x) (list_any test xs) some)
    where
      by : (list_any test xs ≡ true → (y : X) × Contains xs y × (test y ≡ true)) → (test x ≡ true) ⊎ (list_any test xs ≡ true) → (y : X) × Contains (x ∷ xs) y × (test y ≡ true)
      by again (inl is) = (x, Contains-first x xs, is)
      by again (inr later) = let found = again later in (found.0, Contains-later x xs found.0 found.1, found.2)

  none-fails : (xs : List X) → find (λ x. not (test x)) xs ≡ None → AllByRecursion (λ x. test x ≡ true) xs
  none-fails [] none = tt
  none-fails (x ∷ xs) none = by (λ rest. none-fails xs rest) (test x) refl
    where
      here : Bool → Option X
      here b = cond (not b) (Some x) (find (λ x. not (test x)) xs)

      by : (find (λ x. not (test x)) xs ≡ None → AllByRecursion (λ x. test x ≡ true) xs) → (b : Bool) → test x ≡ b → AllByRecursion (λ x. test x ≡ true) (x ∷ xs)
      by again true is = (is, again (sym (ap here is) ∙ none))
      by again false is = let some : Some x ≡ None = sym (ap here is) ∙ none in cc

  none-found : (xs : List X) → find test xs ≡ None → AllByRecursion (λ x. test x ≡ false) xs
  none-found [] none = tt
  none-found (x ∷ xs) none = by (λ rest. none-found xs rest) (test x) refl
    where
      here : Bool → Option X
      here b = cond b (Some x) (find test xs)

      by : (find test xs ≡ None → AllByRecursion (λ x. test x ≡ false) xs) → (b : Bool) → test x ≡ b → AllByRecursion (λ x. test x ≡ false) (x ∷ xs)
      by again true is = let some : Some x ≡ None = sym (ap here is) ∙ none in cc
      by again false is = (is, again (sym (ap here is) ∙ none))

list_any-map : {X Y : Type 0} (test : Y → Bool) (f : X → Y) (xs : List X) → list_any test (map f xs) ≡ list_any (λ x. test (f x)) xs
list_any-map test f [] = refl
list_any-map test f (x ∷ xs) = ap (λ (b : Bool). test (f x) || b) (list_any-map test f xs)

unmapped : {X Y : Type 0} (P : Y → Type 0) (f : X → Y) (xs : List X) → AllByRecursion P (map f xs) → AllByRecursion (λ x. P (f x)) xs
unmapped P f [] all = tt
unmapped P f (x ∷ xs) all = (all.0, unmapped P f xs all.1)

map-none : {X Y : Type 0} (f : X → Y) (o : Option X) → option_map f o ≡ None → o ≡ None
map-none f None none = refl
map-none f (Some x) none = cc

is_face-same : (f g : Face) → is_face f g ≡ true → f ≡ g
is_face-same Outside Outside is = refl
is_face-same (Parcel m) (Parcel n) is = ap Parcel (eqb-true m n is)
is_face-same Outside (Parcel n) is = absurd (true≢false (sym is))
is_face-same (Parcel m) Outside is = absurd (true≢false (sym is))

is_face-refl : (f : Face) → is_face f f ≡ true
is_face-refl Outside = refl
is_face-refl (Parcel n) = nat_eq_equiv.refl n

is_same_list-refl : (xs : List ℕ) → is_same_list xs xs ≡ true
is_same_list-refl xs = (bytes_eq-Decides xs xs).1 refl

-- ---- No string that dangles

-- a string that doesn't dangle has two ends and two faces
not-dangling : (m : Map) (s : PlanString) → is_dangling m s ≡ false → (s.row.from ≢ s.row.to) × (s.left ≢ s.right)
not-dangling m s no_fault =
    let parts = or-false (nat_eq s.row.from s.row.to) (is_face s.left s.right) (or-false _ _ (or-false _ _ no_fault).0).0 in (
      (λ same. true≢false (sym (ap (λ (k : ℕ). nat_eq k s.row.to) same ∙ nat_eq_equiv.refl s.row.to) ∙ parts.0)),
      (λ same. true≢false (sym (ap (λ (f : Face). is_face f s.right) same ∙ is_face-refl s.right) ∙ parts.1)),
    )

each-sound : (m : Map) (strings : List PlanString) → dangling m strings ≡ None → AllByRecursion (λ s. (s.row.from ≢ s.row.to) × (s.left ≢ s.right)) strings
unfolding dangling
each-sound m strings none =
    All-follows (λ s. is_dangling m s ≡ false) (λ s. (s.row.from ≢ s.row.to) × (s.left ≢ s.right)) (not-dangling m) strings
    (none-found (is_dangling m) strings (map-none (λ s. s.row.number) _ none))

-- where no string dangles, each has two ends, and two faces
pub ends-differ : (m : Map) (strings : List PlanString) → dangling m strings ≡ None → AllByRecursion (λ s. s.row.from ≢ s.row.to) strings
ends-differ m strings none = All-follows (λ s. (s.row.from ≢ s.row.to) × (s.left ≢ s.right)) (λ s. s.row.from ≢ s.row.to) (λ s both. both.0) strings (each-sound m strings none)

pub faces-differ : (m : Map) (strings : List PlanString) → dangling m strings ≡ None → AllByRecursion (λ s. s.left ≢ s.right) strings
faces-differ m strings none = All-follows (λ s. (s.row.from ≢ s.row.to) × (s.left ≢ s.right)) (λ s. s.left ≢ s.right) (λ s both. both.1) strings (each-sound m strings none)

-- ---- No bad corner

module _ (m : Map) where
  -- each of these sides is good after those before it
  abbrev AreGood : List Side → List Side → Type 0
  AreGood earlier [] = Unit {0}
  AreGood earlier (s ∷ sides) = (is_bad_corner m earlier s ≡ false) × AreGood (s ∷ earlier) sides

  good-each : (earlier sides : List Side) → first_bad_corner m earlier sides ≡ None → AreGood earlier sides
  good-each earlier [] none = tt
  good-each earlier (s ∷ sides) none = by (λ rest. good-each (s ∷ earlier) sides rest) (is_bad_corner m earlier s) refl
    where
      here : Bool → Option ℕ
      here b = if b then Some s.1 else first_bad_corner m (s ∷ earlier) sides

      by : (first_bad_corner m (s ∷ earlier) sides ≡ None → AreGood (s ∷ earlier) sides) → (b : Bool) → is_bad_corner m earlier s ≡ b → AreGood earlier (s ∷ sides)
      by again true is = let some : Some s.1 ≡ None = sym (ap here is) ∙ none in cc
      by again false is = (is, again (sym (ap here is) ∙ none))

  good-one : (earlier : List Side) (s : Side) → is_bad_corner m earlier s ≡ false → (length (followers m s) == 1) ≡ true
  good-one earlier s good = not-false _ (or-false _ _ (or-false _ _ good).0).1
    where
      not-false : (b : Bool) → not b ≡ false → b ≡ true
      not-false true h = refl
      not-false false h = absurd (true≢false h)

  -- a good side has one follower
  good-ones : (earlier sides : List Side) → AreGood earlier sides → AllByRecursion (λ s. (length (followers m s) == 1) ≡ true) sides
  good-ones earlier [] good = tt
  good-ones earlier (s ∷ sides) good = (good-one earlier s good.0, good-ones (s ∷ earlier) sides good.1)

  -- what a good side has to each earlier one, each two sides have
  module _ (R : Side → Side → Type 0) (apart : (earlier : List Side) (s : Side) → is_bad_corner m earlier s ≡ false → AllByRecursion (λ t. R t s) earlier) where
    good-pairs : (earlier sides : List Side) → AreGood earlier sides → EachPair R sides × AllByRecursion (λ s. AllByRecursion (λ t. R t s) earlier) sides
    good-pairs earlier [] good = (tt, tt)
    good-pairs earlier (s ∷ sides) good =
        let rest = good-pairs (s ∷ earlier) sides good.1 in (
          (All-follows (λ u. AllByRecursion (λ t. R t u) (s ∷ earlier)) (R s) (λ u all. all.0) sides rest.1, rest.0),
          (apart earlier s good.0, All-follows (λ u. AllByRecursion (λ t. R t u) (s ∷ earlier)) (λ u. AllByRecursion (λ t. R t u) earlier) (λ u all. all.1) sides rest.1),
        )

  -- two sides to the same point have different followers
  abbrev Differ : Side → Side → Type 0
  Differ t s = t.1 ≡ s.1 → followers m t ≢ followers m s

  good-once : (earlier : List Side) (s : Side) → is_bad_corner m earlier s ≡ false → AllByRecursion (λ t. t ≢ s) earlier
  good-once earlier s good =
      All-follows (λ t. is_side s t ≡ false) (λ t. t ≢ s) (λ t other same. true≢false (sym (ap (is_side s) same ∙ is_side-refl s) ∙ other)) earlier
      (none-passes (is_side s) earlier (or-false _ _ (or-false _ _ good).0).0)

  good-differ : (earlier : List Side) (s : Side) → is_bad_corner m earlier s ≡ false → AllByRecursion (λ t. Differ t s) earlier
  good-differ earlier s good =
      All-follows (λ t. (nat_eq t.1 s.1 && is_same_list (followers m t) (followers m s)) ≡ false) (λ t. Differ t s)
      (λ t other to after. true≢false (sym (both _ _ (ap (λ (k : ℕ). nat_eq k s.1) to ∙ nat_eq_equiv.refl s.1) (ap (λ (l : List ℕ). is_same_list l (followers m s)) after ∙ is_same_list-refl (followers m s))) ∙ other)) earlier
      (none-passes (λ t. nat_eq t.1 s.1 && is_same_list (followers m t) (followers m s)) earlier (or-false _ _ good).1)
    where
      both : (a b : Bool) → a ≡ true → b ≡ true → (a && b) ≡ true
      both true b h k = k
      both false b h k = absurd (true≢false (sym h))

  apart-each : (sides : List FollowedSide) → EachPair Differ (map side_of_followed sides) → AllByRecursion (λ s. followers m (side_of_followed s) ≡ s.after ∷ []) sides → EachPair (λ a b. a ≢ b) (map side_behind sides)
  apart-each [] pairs all = tt
  apart-each (s ∷ sides) pairs all = (others sides pairs.0 all.1, apart-each sides pairs.1 all.1)
    where
      others : (ts : List FollowedSide) → AllByRecursion (Differ (side_of_followed s)) (map side_of_followed ts) → AllByRecursion (λ t. followers m (side_of_followed t) ≡ t.after ∷ []) ts → AllByRecursion (λ k. side_behind s ≢ k) (map side_behind ts)
      others [] differ follow = tt
      others (t ∷ ts) differ follow = (
        (λ same. differ.0 (ap (λ (v : Side). v.0) same) (all.0 ∙ ap (λ (v : Side). v.1 ∷ []) same ∙ sym follow.0)),
        others ts differ.1 follow.1,
      )

-- ---- Each side leads to one with its face

-- the test of a side by its face and by those of the others
abbrev leads_on : Map → List (Side × Face) → Side × Face → Bool
leads_on m others f = list_any (λ t. list_any (λ w. is_side (f.0.1, w) t.0) (followers m f.0) && is_face f.1 t.1) others

module _ (m : Map) (sides : List FollowedSide) where
  next-found : (s : FollowedSide) → followers m (side_of_followed s) ≡ s.after ∷ [] → leads_on m (map side_and_face sides) (side_and_face s) ≡ true → HasNext sides s
  next-found s follow leads =
      let found = one-passes (λ t. list_any (λ w. is_side (s.to, w) (side_of_followed t)) (followers m (side_of_followed s)) && is_face s.face t.face) sides (sym (list_any-map (λ t. list_any (λ w. is_side (s.to, w) t.0) (followers m (side_of_followed s)) && is_face s.face t.1) side_and_face sides) ∙ leads) in
      let t = found.0 in
      let parts = and-both _ _ found.2 in
      let behind : is_side (side_behind s) (side_of_followed t) ≡ true = elim (or-cases (is_side (side_behind s) (side_of_followed t)) false (sym (ap (λ (l : List ℕ). list_any (λ w. is_side (s.to, w) (side_of_followed t)) l) follow) ∙ parts.0)) [ inl is ↦ is | inr nothing ↦ absurd (true≢false (sym nothing)) ] in
      record { next = t; among = found.1; behind = sym (is_side-same (side_behind s) (side_of_followed t) behind); face = sym (is_face-same s.face t.face parts.1) }

  next-each : (some : List FollowedSide) → AllByRecursion (λ s. followers m (side_of_followed s) ≡ s.after ∷ []) some → AllByRecursion (λ f. leads_on m (map side_and_face sides) f ≡ true) (map side_and_face some) → AllByRecursion (HasNext sides) some
  next-each [] follow leads = tt
  next-each (s ∷ some) follow leads = (next-found s follow.0 leads.0, next-each some follow.1 leads.1)

ends-each : (strings : List PlanString) → AllByRecursion (λ s. s.row.from ≢ s.row.to) strings → AllByRecursion (λ (f : Side × Face). f.0.0 ≢ f.0.1) (map labelled_side_and_face (labelled_sides strings))
ends-each [] all = tt
ends-each (s ∷ strings) all = (all.0, ((λ same. all.0 (sym same)), ends-each strings all.1))

no-bad : (m : Map) (strings : List PlanString) → bad_corner m strings ≡ None → first_bad_corner m [] (map (λ s. s.side) (labelled_sides strings)) ≡ None
unfolding bad_corner
no-bad m strings none = none

-- where there is no bad corner, no side stands twice
pub sides-once : (m : Map) (strings : List PlanString) → bad_corner m strings ≡ None → EachPair (λ a b. a ≢ b) (map (λ s. s.side) (labelled_sides strings))
sides-once m strings none =
    let L = map (λ s. s.side) (labelled_sides strings) in
    (good-pairs m (λ a b. a ≢ b) (good-once m) [] L (good-each m [] L (no-bad m strings none))).0

-- and each has one follower
pub one-each : (m : Map) (strings : List PlanString) → bad_corner m strings ≡ None → AllByRecursion (λ s. (length (followers m s) == 1) ≡ true) (map (λ s. s.side) (labelled_sides strings))
one-each m strings none =
    let L = map (λ s. s.side) (labelled_sides strings) in
    good-ones m [] L (good-each m [] L (no-bad m strings none))

no-other : (m : Map) (strings : List PlanString) → other_label m strings ≡ None → AllByRecursion (λ s. keeps_face m (labelled_sides strings) s ≡ true) (labelled_sides strings)
unfolding other_label
no-other m strings none = none-fails (keeps_face m (labelled_sides strings)) (labelled_sides strings) (map-none (λ s. s.string) _ none)

-- sides of strings that have two ends each, no bad corner and no other label
pub are-followed : (m : Map) (strings : List PlanString) (sides : List FollowedSide) → AreSidesOf m strings sides → AllByRecursion (λ s. s.row.from ≢ s.row.to) strings → bad_corner m strings ≡ None → other_label m strings ≡ None → AreFollowed sides
are-followed m strings sides of ends corners labels =
    let L = labelled_sides strings in
    let same : map side_of_followed sides ≡ map (λ l. l.side) L = sym (sides-side_and_face sides) ∙ ap (λ (l : List (Side × Face)). map (λ (f : Side × Face). f.0) l) of.labels ∙ sides-labelled_side_and_face L in
    let good : AreGood m [] (map side_of_followed sides) = subst (λ (l : List Side). AreGood m [] l) (sym same) (good-each m [] (map (λ l. l.side) L) (no-bad m strings corners)) in
    let leads : AllByRecursion (λ f. leads_on m (map side_and_face sides) f ≡ true) (map side_and_face sides) =
    subst (λ (l : List (Side × Face)). AllByRecursion (λ f. leads_on m l f ≡ true) l) (sym of.labels)
    (All-map (λ f. leads_on m (map labelled_side_and_face L) f ≡ true) labelled_side_and_face L
    (All-follows (λ s. keeps_face m L s ≡ true) (λ s. leads_on m (map labelled_side_and_face L) (labelled_side_and_face s) ≡ true) (λ s keeps. list_any-map (λ t. list_any (λ w. is_side (s.side.1, w) t.0) (followers m s.side) && is_face s.face t.1) labelled_side_and_face L ∙ keeps) L (no-other m strings labels))) in
    record {
      once = (good-pairs m (λ a b. a ≢ b) (good-once m) [] (map side_of_followed sides) good).0;
      apart = apart-each m sides (good-pairs m (Differ m) (good-differ m) [] (map side_of_followed sides) good).0 of.followers;
      next = next-each m sides sides of.followers leads;
      ends = unmapped (λ (f : Side × Face). f.0.0 ≢ f.0.1) side_and_face sides (subst (λ (l : List (Side × Face)). AllByRecursion (λ f. f.0.0 ≢ f.0.1) l) (sym of.labels) (ends-each strings ends));
    }

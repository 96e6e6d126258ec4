-- The rings that are made from the sides of a plan are those of its strings.
use Rattle.std.proofs.Common.{◌≡◌, ◌≢◌, ℕ, ◌≤◌, ◌⊎◌, inl, inr, refl, sym, ap, subst, ◌∙◌, List, [], ◌∷◌, ◌++◌, length, map, find, Option, Some, option_map, Bool, true, false, cond, not, nat_eq, ◌&&◌, ◌||◌, true≢false, arith}
use Rattle.std.proofs.lemmas.Cmp.{nat_eq_equiv}
use Rattle.std.proofs.lemmas.List.{map-append}
use Rattle.std.proofs.lemmas.List.Folds.{list_any-append}
use Rattle.std.proofs.lemmas.List.Elements.{All-contains, filter_passes}
use Rattle.std.proofs.lemmas.List.Sorted.{IsPermutation-sym, IsPermutation-trans, IsPermutation-map, Contains-permutation, list_any-IsPermutation}
use Rattle.std.specs.Prelude.{IsPermutation, flat_map}
use Rattle.std.specs.List.{AllByRecursion, Contains}
use Rattle.cad_rows.specs.declared.names.Face.{Face}
use Rattle.cad_rows.specs.declared.rows.StringRow.{StringRow}
use Rattle.cad_rings.specs.Cycle.{Side, is_side, has_side, opposite, sides_of, Corner, corners_of}
use Rattle.cad_rings.proofs.CallerLemmas.{is_side-same, sides_of-least_rotation, IsSameRing-least_rotation, IsSameRing-length}
use Rattle.cad_map.specs.declared.boundary.Boundary.{Boundary}
use Rattle.cad_map.specs.Boundaries.{canonical_form, canonical_order, sides_in, corners_in}
use Rattle.cad_map.specs.Map.{Map, side_of as side_of_row, string_sides, all_sides, all_corners, left_face, right_face, face_at}
use Rattle.cad_map.proofs.CallerLemmas.{All-map, All-follows, All-from_Contains, All-permuted, All-Contains, All-flat_map, canonical_order-canonical_order, IsPermutation-canonical_order, sides_in-canonical_order, corners_in-canonical_order, Contains-cases, Contains-first, Contains-later, Contains-flat_map, side_before, sides-before, is_side-refl}
use Rattle.cad_files.specs.Follower.{may_follow, followers, LabelledSide, labelled_sides, HasRingsOf}
use Rattle.cad_files.specs.Cycles.{FollowedSide, side_of_followed, corner_of, side_and_face, labelled_side_and_face, AreFollowed, AreSidesOf, followed_of, followed_in}
use Rattle.cad_files.specs.declared.rows.PlanString.{PlanString}
use Rattle.cad_files.proofs.CycleFacts.{Once-same, Once-from_pairs, with_face}

-- ---- Sides that are there

has-from_Contains : (s : Side) (sides : List Side) → Contains sides s → has_side s sides ≡ true
has-from_Contains s [] h = let low = h.1 in absurd (omega arith)
has-from_Contains s (t ∷ sides) h = by (λ later. has-from_Contains s sides later) (Contains-cases t sides s h)
  where
    or-right : (a b : Bool) → b ≡ true → (a || b) ≡ true
    or-right true b is = refl
    or-right false b is = is

    by : (Contains sides s → has_side s sides ≡ true) → (t ≡ s) ⊎ Contains sides s → has_side s (t ∷ sides) ≡ true
    by again (inl is) = ap (λ (b : Bool). b || has_side s sides) (ap (is_side s) is ∙ is_side-refl s)
    by again (inr later) = or-right (is_side s t) (has_side s sides) (again later)

Contains-map : {X Y : Type 0} (f : X → Y) (xs : List X) (x : X) → Contains xs x → Contains (map f xs) (f x)
Contains-map f [] x h = let low = h.1 in absurd (omega arith)
Contains-map {Y = Y} f (z ∷ xs) x h = elim (Contains-cases z xs x h) [
  | inl is ↦ subst (λ (y : Y). Contains (f z ∷ map f xs) y) (ap f is) (Contains-first (f z) (map f xs))
  | inr later ↦ Contains-later (f z) (map f xs) (f x) (Contains-map f xs x later)
]

-- the side of one of these
has-found : (s : Side) (us : List FollowedSide) → has_side s (map side_of_followed us) ≡ true → (u : FollowedSide) × Contains us u × (s ≡ side_of_followed u)
has-found s [] has = absurd (true≢false (sym has))
has-found s (u ∷ us) has = by (λ later. has-found s us later) (is_side s (side_of_followed u)) refl
  where
    by : (has_side s (map side_of_followed us) ≡ true → (v : FollowedSide) × Contains us v × (s ≡ side_of_followed v)) → (b : Bool) → is_side s (side_of_followed u) ≡ b → (v : FollowedSide) × Contains (u ∷ us) v × (s ≡ side_of_followed v)
    by again true is = (u, Contains-first u us, is_side-same s (side_of_followed u) is)
    by again false is = let found = again (sym (ap (λ (b : Bool). b || has_side s (map side_of_followed us)) is) ∙ has) in (found.0, Contains-later u us found.0 found.1, found.2)

-- ---- What the rings have

sides-with_face : (f : Face) (cs : List Corner) → map side_of_followed (map (with_face f) cs) ≡ map side_before cs
sides-with_face f [] = refl
sides-with_face f (c ∷ cs) = ap (λ (l : List Side). side_before c ∷ l) (sides-with_face f cs)

corners-with_face : (f : Face) (cs : List Corner) → map corner_of (map (with_face f) cs) ≡ cs
corners-with_face f [] = refl
corners-with_face f (c ∷ cs) = ap (λ (l : List Corner). c ∷ l) (corners-with_face f cs)

faces-with_face : (f : Face) (cs : List Corner) → AllByRecursion (λ u. u.face ≡ f) (map (with_face f) cs)
faces-with_face f [] = tt
faces-with_face f (c ∷ cs) = (refl, faces-with_face f cs)

sides_of-followed : (b : Boundary) → 2 ≤ length b.ring → map side_of_followed (followed_of b) ≡ sides_of b.ring
sides_of-followed b two = sides-with_face b.face (corners_of b.ring) ∙ sides-before b.ring two

-- the sides and the corners of rings are those of their sides with followers
pub sides_in-followed : (bs : List Boundary) → AllByRecursion (λ b. 2 ≤ length b.ring) bs → map side_of_followed (followed_in bs) ≡ sides_in bs
sides_in-followed [] two = refl
sides_in-followed (b ∷ bs) two = map-append side_of_followed (followed_of b) (followed_in bs) ∙ (λ i. sides_of-followed b two.0 i ++ sides_in-followed bs two.1 i)

pub corners_in-followed : (bs : List Boundary) → map corner_of (followed_in bs) ≡ corners_in bs
corners_in-followed [] = refl
corners_in-followed (b ∷ bs) = map-append corner_of (followed_of b) (followed_in bs) ∙ (λ i. corners-with_face b.face (corners_of b.ring) i ++ corners_in-followed bs i)

-- ---- The face of a side

-- each of these sides that the ring goes along has the ring's face
abbrev KeepsFace : List FollowedSide → Boundary → Type 0
KeepsFace sides b = (t : FollowedSide) → Contains sides t → has_side (side_of_followed t) (sides_of b.ring) ≡ true → t.face ≡ b.face

-- where each ring keeps the faces, the first one that has a side has its face
first-face : (sides : List FollowedSide) (t : FollowedSide) → Contains sides t → (bs : List Boundary) → AllByRecursion (KeepsFace sides) bs → has_side (side_of_followed t) (sides_in bs) ≡ true
    → option_map (λ b. b.face) (find (λ b. has_side (side_of_followed t) (sides_of b.ring)) bs) ≡ Some t.face
first-face sides t there [] all has = absurd (true≢false (sym has))
first-face sides t there (b ∷ bs) all has = by (λ later. first-face sides t there bs all.1 later) (has_side (side_of_followed t) (sides_of b.ring)) refl
  where
    here : Bool → Option Face
    here u = option_map (λ b. b.face) (cond u (Some b) (find (λ b. has_side (side_of_followed t) (sides_of b.ring)) bs))

    by : (has_side (side_of_followed t) (sides_in bs) ≡ true → option_map (λ b. b.face) (find (λ b. has_side (side_of_followed t) (sides_of b.ring)) bs) ≡ Some t.face) → (u : Bool) → has_side (side_of_followed t) (sides_of b.ring) ≡ u
        → option_map (λ b. b.face) (find (λ b. has_side (side_of_followed t) (sides_of b.ring)) (b ∷ bs)) ≡ Some t.face
    by again true is = ap here is ∙ ap Some (sym (all.0 t there is))
    by again false is = ap here is ∙ again (sym (ap (λ (u : Bool). u || has_side (side_of_followed t) (sides_in bs)) is) ∙ sym (list_any-append (is_side (side_of_followed t)) (sides_of b.ring) (sides_in bs)) ∙ has)

module _ (sides : List FollowedSide) (bs : List Boundary) (are : AreFollowed sides) (two : AllByRecursion (λ b. 2 ≤ length b.ring) bs) (rings : IsPermutation sides (followed_in bs)) where
  keeps-face : (b : Boundary) → Contains bs b → KeepsFace sides b
  keeps-face b there t among has =
      let found = has-found (side_of_followed t) (followed_of b) (ap (has_side (side_of_followed t)) (sides_of-followed b (All-Contains (λ b. 2 ≤ length b.ring) bs b two there)) ∙ has) in
      let u = found.0 in
      let in_sides = Contains-permutation (followed_in bs) sides u (IsPermutation-sym sides (followed_in bs) rings) (Contains-flat_map followed_of bs b u there found.1) in
      let same : t ≡ u = Once-same side_of_followed sides (Once-from_pairs side_of_followed sides are.once) t u among in_sides found.2 in
      ap (λ (s : FollowedSide). s.face) same ∙ All-Contains (λ u. u.face ≡ b.face) (followed_of b) u (faces-with_face b.face (corners_of b.ring)) found.1

  keeps-shown : (b : Boundary) → Contains bs b → KeepsFace sides (canonical_form b)
  keeps-shown b there t among has = keeps-face b there t among (list_any-IsPermutation (is_side (side_of_followed t)) (sides_of b.ring) (sides_of (canonical_form b).ring) (sides_of-least_rotation b.ring) ∙ has)

  keep-faces : AllByRecursion (KeepsFace sides) (canonical_order bs)
  keep-faces = All-permuted (KeepsFace sides) (map canonical_form bs) (canonical_order bs) (IsPermutation-canonical_order bs) (All-map (KeepsFace sides) canonical_form bs (All-from_Contains (λ b. KeepsFace sides (canonical_form b)) bs keeps-shown))

  -- the sides of the rings in canonical order
  sides-canonical_order : IsPermutation (map side_of_followed sides) (sides_in (canonical_order bs))
  sides-canonical_order =
      IsPermutation-trans (map side_of_followed sides) (sides_in bs) (sides_in (canonical_order bs))
      (subst (λ (l : List Side). IsPermutation (map side_of_followed sides) l) (sides_in-followed bs two) (IsPermutation-map side_of_followed sides (followed_in bs) rings))
      (sides_in-canonical_order bs)

  face-found : (t : FollowedSide) → Contains sides t → option_map (λ b. b.face) (find (λ b. has_side (side_of_followed t) (sides_of b.ring)) (canonical_order bs)) ≡ Some t.face
  face-found t there =
      first-face sides t there (canonical_order bs) keep-faces
      (has-from_Contains (side_of_followed t) (sides_in (canonical_order bs)) (Contains-permutation (map side_of_followed sides) (sides_in (canonical_order bs)) (side_of_followed t) sides-canonical_order (Contains-map side_of_followed sides t there)))

-- ---- The rings of the strings

module _ (P : Side → Face → Type 0) where
  -- a fact of the sides with their faces is one of each string's two sides
  each-string : (strings : List PlanString) → AllByRecursion (λ f. P f.0 f.1) (map labelled_side_and_face (labelled_sides strings)) → AllByRecursion (λ s. P (side_of_row s.row) s.left × P (opposite (side_of_row s.row)) s.right) strings
  each-string [] all = tt
  each-string (s ∷ strings) all = ((all.0, all.1.0), each-string strings all.1.1)

  each-side_and_face : (sides : List FollowedSide) → AllByRecursion (λ s. P (side_of_followed s) s.face) sides → AllByRecursion (λ f. P f.0 f.1) (map side_and_face sides)
  each-side_and_face [] all = tt
  each-side_and_face (s ∷ sides) all = (all.0, each-side_and_face sides all.1)

abbrev both_sides : StringRow → List Side
both_sides s = side_of_row s ∷ opposite (side_of_row s) ∷ []

-- the sides of a plan's strings are those of their rows
pub sides-labelled : (strings : List PlanString) → map (λ l. l.side) (labelled_sides strings) ≡ flat_map both_sides (map (λ s. s.row) strings)
sides-labelled [] = refl
sides-labelled (s ∷ strings) = ap (λ (l : List Side). side_of_row s.row ∷ opposite (side_of_row s.row) ∷ l) (sides-labelled strings)

pub sides-side_and_face : (sides : List FollowedSide) → map (λ (f : Side × Face). f.0) (map side_and_face sides) ≡ map side_of_followed sides
sides-side_and_face [] = refl
sides-side_and_face (s ∷ sides) = ap (λ (l : List Side). side_of_followed s ∷ l) (sides-side_and_face sides)

pub sides-labelled_side_and_face : (sides : List LabelledSide) → map (λ (f : Side × Face). f.0) (map labelled_side_and_face sides) ≡ map (λ l. l.side) sides
sides-labelled_side_and_face [] = refl
sides-labelled_side_and_face (s ∷ sides) = ap (λ (l : List Side). s.side ∷ l) (sides-labelled_side_and_face sides)

-- the followers hang on nothing but strings and points
pub followers-same : (m n : Map) → m.strings ≡ n.strings → m.points ≡ n.points → (s : Side) → followers m s ≡ followers n s
unfolding followers
followers-same m n strings points s = λ i. followers (record { sources = m.sources; points = points i; parcels = m.parcels; strings = strings i; retired = m.retired; boundaries = m.boundaries }) s

-- sides of a plan are those of each map with the same strings and points
pub AreSidesOf-same : (m n : Map) (strings : List PlanString) (sides : List FollowedSide) → m.strings ≡ n.strings → m.points ≡ n.points → AreSidesOf m strings sides → AreSidesOf n strings sides
AreSidesOf-same m n strings sides same_strings same_points of = record {
  labels = of.labels;
  followers =
      All-follows (λ s. followers m (side_of_followed s) ≡ s.after ∷ []) (λ s. followers n (side_of_followed s) ≡ s.after ∷ [])
      (λ s is. sym (followers-same m n same_strings same_points (side_of_followed s)) ∙ is) sides of.followers;
}

two-shown : (b : Boundary) → 2 ≤ length b.ring → 2 ≤ length (canonical_form b).ring
two-shown b two = let e = IsSameRing-length b.ring (canonical_form b).ring (IsSameRing-least_rotation b.ring) in omega arith

pub two-canonical_order : (bs : List Boundary) → AllByRecursion (λ b. 2 ≤ length b.ring) bs → AllByRecursion (λ b. 2 ≤ length b.ring) (canonical_order bs)
two-canonical_order bs two =
    All-permuted (λ b. 2 ≤ length b.ring) (map canonical_form bs) (canonical_order bs) (IsPermutation-canonical_order bs)
    (All-map (λ b. 2 ≤ length b.ring) canonical_form bs (All-follows (λ b. 2 ≤ length b.ring) (λ b. 2 ≤ length (canonical_form b).ring) two-shown bs two))

module _ (m : Map) (strings : List PlanString) (sides : List FollowedSide) (bs : List Boundary)
    (rows : m.strings ≡ map (λ s. s.row) strings) (lists : m.boundaries ≡ canonical_order bs) (of : AreSidesOf m strings sides) (are : AreFollowed sides)
    (two : AllByRecursion (λ b. 2 ≤ length b.ring) bs) (rings : IsPermutation sides (followed_in bs)) where
  sides-of_strings : map side_of_followed sides ≡ string_sides m
  sides-of_strings =
      sym (sides-side_and_face sides) ∙ ap (λ (l : List (Side × Face)). map (λ (f : Side × Face). f.0) l) of.labels ∙ sides-labelled_side_and_face (labelled_sides strings)
      ∙ sides-labelled strings ∙ ap (λ (l : List StringRow). flat_map both_sides l) (sym rows)

  pub rings-once : IsPermutation (string_sides m) (all_sides m)
  rings-once =
      subst (λ (l : List Side). IsPermutation l (all_sides m)) sides-of_strings
      (subst (λ (l : List Boundary). IsPermutation (map side_of_followed sides) (sides_in l)) (sym lists) (sides-canonical_order sides bs are two rings))

  pub rings-canonical : canonical_order m.boundaries ≡ m.boundaries
  rings-canonical = ap canonical_order lists ∙ canonical_order-canonical_order bs ∙ sym lists

  abbrev IsFollower : Corner → Type 0
  IsFollower c = Contains (followers m (c.before, c.at)) c.after

  followers-of_sides : AllByRecursion (λ s. IsFollower (corner_of s)) sides
  followers-of_sides = All-follows (λ s. followers m (side_of_followed s) ≡ s.after ∷ []) (λ s. IsFollower (corner_of s)) (λ s is. subst (λ (l : List ℕ). Contains l s.after) (sym is) (Contains-first s.after [])) sides of.followers

  pub rings-followers : AllByRecursion IsFollower (all_corners m)
  rings-followers =
      subst (λ (l : List Boundary). AllByRecursion IsFollower (corners_in l)) (sym lists)
      (All-permuted IsFollower (corners_in bs) (corners_in (canonical_order bs)) (corners_in-canonical_order bs)
      (subst (λ (l : List Corner). AllByRecursion IsFollower l) (corners_in-followed bs)
      (All-map IsFollower corner_of (followed_in bs) (All-permuted (λ s. IsFollower (corner_of s)) sides (followed_in bs) rings followers-of_sides))))

  abbrev HasFace : Side → Face → Type 0
  HasFace s f = face_at m s ≡ Some f

  faces-of_sides : AllByRecursion (λ s. HasFace (side_of_followed s) s.face) sides
  faces-of_sides =
      All-from_Contains (λ s. HasFace (side_of_followed s) s.face) sides
      (λ t there. ap (λ (l : List Boundary). option_map (λ b. b.face) (find (λ b. has_side (side_of_followed t) (sides_of b.ring)) l)) lists ∙ face-found sides bs are two rings t there)

  rings-faces : AllByRecursion (λ s. HasFace (side_of_row s.row) s.left × HasFace (opposite (side_of_row s.row)) s.right) strings
  rings-faces = each-string HasFace strings (subst (λ (l : List (Side × Face)). AllByRecursion (λ f. HasFace f.0 f.1) l) of.labels (each-side_and_face HasFace sides faces-of_sides))

  pub rings-left : AllByRecursion (λ s. left_face m s.row ≡ Some s.left) strings
  rings-left = All-follows (λ s. HasFace (side_of_row s.row) s.left × HasFace (opposite (side_of_row s.row)) s.right) (λ s. left_face m s.row ≡ Some s.left) (λ s both. both.0) strings rings-faces

  pub rings-right : AllByRecursion (λ s. right_face m s.row ≡ Some s.right) strings
  rings-right = All-follows (λ s. HasFace (side_of_row s.row) s.left × HasFace (opposite (side_of_row s.row)) s.right) (λ s. right_face m s.row ≡ Some s.right) (λ s both. both.1) strings rings-faces

  -- the rings that are made of the strings' sides are theirs
  pub has-rings : HasRingsOf m strings
  has-rings = record { rows = rows; two = subst (λ (l : List Boundary). AllByRecursion (λ b. 2 ≤ length b.ring) l) (sym lists) (two-canonical_order bs two); once = rings-once; canonical = rings-canonical; followers = rings-followers; left = rings-left; right = rings-right }

-- ---- Rings of three points

not-and : (a b : Bool) → a ≡ true → (not a && b) ≡ false
not-and true b is = refl
not-and false b is = absurd (true≢false (sym is))

-- a side's follower isn't the point that the side comes from
pub follower-other : (m : Map) (s : Side) (w : ℕ) → Contains (followers m s) w → w ≢ s.0
unfolding followers
follower-other m s w there same =
    let passes : may_follow m s w ≡ true = All-contains (λ w. may_follow m s w ≡ true) (followers m s) w (filter_passes (may_follow m s) _) there in
    let fails : nat_eq w s.0 ≡ true = ap (λ (k : ℕ). nat_eq k s.0) same ∙ nat_eq_equiv.refl s.0 in
    absurd (true≢false (sym passes ∙ not-and (nat_eq w s.0) _ fails))

three-each : (m : Map) (bs : List Boundary) → AllByRecursion (λ b. 2 ≤ length b.ring) bs → AllByRecursion (λ b. AllByRecursion (λ c. Contains (followers m (c.before, c.at)) c.after) (corners_of b.ring)) bs
    → AllByRecursion (λ b. 3 ≤ length b.ring) bs
three-each m [] two all = tt
three-each m (b ∷ bs) two all = (by b.ring two.0 all.0, three-each m bs two.1 all.1)
  where
    by : (ring : List ℕ) → 2 ≤ length ring → AllByRecursion (λ c. Contains (followers m (c.before, c.at)) c.after) (corners_of ring) → 3 ≤ length ring
    by [] two all = omega arith
    by (u ∷ []) two all = omega arith
    by (u ∷ v ∷ []) two all = absurd (follower-other m (u, v) u all.0 refl)
    by (u ∷ v ∷ w ∷ points) two all = omega arith

-- a ring of a plan has three points or more
pub three : (m : Map) (strings : List PlanString) → HasRingsOf m strings → AllByRecursion (λ b. 2 ≤ length b.ring) m.boundaries → AllByRecursion (λ b. 3 ≤ length b.ring) m.boundaries
three m strings has two = three-each m m.boundaries two (All-flat_map (λ c. Contains (followers m (c.before, c.at)) c.after) (λ b. corners_of b.ring) m.boundaries has.followers)

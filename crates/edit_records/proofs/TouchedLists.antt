-- What is listed of an edit's touch.
use Rattle.std.proofs.Common.{◌≡◌, ◌<◌, take, get_or, ◌≤◌, ◌+◌, ◌⊎◌, inl, inr, ℕ, List, [], ◌∷◌, Bool, true, false, nat_eq, ◌==◌, map, refl, sym, ap, ◌∙◌, subst, Option, Some, None, true≢false, filter, length, ℤ, arith}
use Rattle.std.specs.Prelude.{IsTrue, IsPermutation, ◌||◌, is_some, IfNone, IfSome, flat_map, option_map, unwrap_or}
use Rattle.std.specs.List.{Contains, list_any}
use Rattle.std.proofs.lemmas.Bool.{eqb-true, eq-eqb}
use Rattle.std.proofs.lemmas.Option.{same_Some}
use Rattle.std.proofs.lemmas.Grind.{flat_map-append}
use Rattle.std.proofs.lemmas.List.Elements.{Contains-append_cases}
use Rattle.std.proofs.lemmas.List.{length-take-le, take_more}
use Rattle.std.proofs.lemmas.List.Sorted.{IsPermutation-sym, length_permutation, sum_by-IsPermutation, Contains-permutation}
use Rattle.std.proofs.lemmas.List.Sums.{sum_by-cons}
use Rattle.cad_rows.specs.declared.edits.Edit.{Edit}
use Rattle.cad_rows.specs.declared.edits.Edit.TheVariants.{AddPoint, Split, Join, Merge, Move}
use Rattle.cad_rows.specs.declared.names.Face.{Face}
use Rattle.cad_rows.specs.declared.rows.StringRow.{StringRow}
use Rattle.cad_rings.specs.Cycle.{Ring, Side, sides_of, sides_along, opposite, turned}
use Rattle.cad_rings.specs.Surgery.{chain_from, sides_of_chain}
use Rattle.cad_rings.proofs.CallerLemmas.{sides_of-least_rotation}
use Rattle.cad_map.specs.declared.boundary.Boundary.{Boundary}
use Rattle.cad_map.specs.Boundaries.{is_face, canonical_form, canonical_order}
use Rattle.cad_map.specs.Effects.{after}
use Rattle.cad_map.specs.Map.{Map, position_of, string_of, strings_at, side_of, is_end, far_end, rings_at, all_sides}
use Rattle.cad_map.specs.Merger.{ChainInRings, shared_chains, shared_sides}
use Rattle.cad_map.specs.Touched.{Touched, Moved, Joined, ComesByMove, ComesBySplit, ComesByJoin, IsTouched, StringStands, neighbours}
use Rattle.cad_map.specs.Valid.{IsValid}
use Rattle.cad_map.specs.Views.{HasFaces, HasNoFaces, HasSide, IsNoSide}
use Rattle.cad_map.proofs.CallerLemmas.{All-follows, Contains-cases, Contains-first, Contains-later, Contains-filter, Contains-flat_map, Contains-map, filter-Contains, map-Contains, both_sides, face-told, faces-told, in_all, some-faces, find-Contains, of_string, one_ring, Contains-has_side, has_side-Contains, Contains-in_part, list_any-Contains, beside, IsPermutation-canonical_order, is_face-refl, along-passed, IsFound, found}
use Rattle.cad_laws.specs.Faces.{IsMergedIn}
use Rattle.cad_laws.specs.Touching.{touching, joined_between, touched_by, touched_by_split, faces_where, goes_along, passes, points_of_shared_chain}
use Rattle.cad_laws.specs.Tried.{IsTried}
use Rattle.cad_laws.proofs.CallerLemmas.{touched-after, merged-faces, straight-turned}
use Rattle.edit_records.specs.Told.{Tells}

-- more may be named
pub more-touched : (old new : Map) (t u : Touched) → IsTouched old new t → ((p : ℕ) → Contains t.points p → Contains u.points p)
    → ((s : ℕ) → Contains t.strings s → Contains u.strings s) → ((f : Face) → Contains t.faces f → Contains u.faces f) → IfSome u.moved (λ v. ComesByMove old new v ⊎ ComesBySplit old new v) → IfSome u.joined (ComesByJoin old new) → IsTouched old new u
more-touched old new t u is points strings faces moved joined = record {
  points = λ p there. either (points p) (is.points p there);
  strings = All-follows (λ s. Contains t.strings s.number ⊎ StringStands old new s) (λ s. Contains u.strings s.number ⊎ StringStands old new s) (λ s. either (strings s.number)) new.strings is.strings;
  faces = λ f there. either (faces f) (is.faces f there);
  moved = moved;
  joined = joined;
}
  where
    either : {X Y Z : Type 0} → (X → Y) → X ⊎ Z → Y ⊎ Z
    either f (inl x) = inl (f x)
    either f (inr z) = inr z

-- from each point that a ring passes a side leads on
side-from : (p a : ℕ) (xs : List ℕ) (z : ℕ) → list_any (λ q. q == p) (a ∷ xs) ≡ true → (q : ℕ) × Contains {X = Side} (sides_along a xs z) (p, q)
side-from p a [] z has = by (nat_eq a p) refl has
  where
    by : (b : Bool) → nat_eq a p ≡ b → list_any (λ q. q == p) (a ∷ []) ≡ true → (q : ℕ) × Contains {X = Side} (sides_along a [] z) (p, q)
    by true is has = (z, subst (λ (k : ℕ). Contains {X = Side} ((a, z) ∷ []) (k, z)) (eqb-true a p is) (Contains-first (a, z) []))
    by false is has = absurd (true≢false (sym (rw is at has)))
side-from p a (x ∷ xs) z has = by (nat_eq a p) refl has (λ h. side-from p x xs z h)
  where
    by : (b : Bool) → nat_eq a p ≡ b → list_any (λ q. q == p) (a ∷ x ∷ xs) ≡ true
        → (list_any (λ q. q == p) (x ∷ xs) ≡ true → (q : ℕ) × Contains {X = Side} (sides_along x xs z) (p, q))
        → (q : ℕ) × Contains {X = Side} (sides_along a (x ∷ xs) z) (p, q)
    by true is has again = (x, subst (λ (k : ℕ). Contains {X = Side} ((a, x) ∷ sides_along x xs z) (k, x)) (eqb-true a p is) (Contains-first (a, x) (sides_along x xs z)))
    by false is has again = let rest = again (rw is at has) in (rest.0, Contains-later (a, x) (sides_along x xs z) (p, rest.0) rest.1)

side-passing : (p : ℕ) (ring : Ring) → IsTrue (passes p ring) → (q : ℕ) × Contains {X = Side} (sides_of ring) (p, q)
side-passing p [] has = absurd (true≢false (sym has))
side-passing p (a ∷ xs) has = side-from p a xs a has

-- to each point that a ring passes a side leads
side-to : (p a : ℕ) (xs : List ℕ) (z : ℕ) → (list_any (λ q. q == p) xs ≡ true) ⊎ (z ≡ p) → (q : ℕ) × Contains {X = Side} (sides_along a xs z) (q, p)
side-to p a [] z (inl has) = absurd (true≢false (sym has))
side-to p a [] z (inr last) = (a, subst (λ (k : ℕ). Contains {X = Side} ((a, z) ∷ []) (a, k)) last (Contains-first (a, z) []))
side-to p a (x ∷ xs) z has = by (nat_eq x p) refl has (λ h. side-to p x xs z h)
  where
    by : (b : Bool) → nat_eq x p ≡ b → (list_any (λ q. q == p) (x ∷ xs) ≡ true) ⊎ (z ≡ p)
        → ((list_any (λ q. q == p) xs ≡ true) ⊎ (z ≡ p) → (q : ℕ) × Contains {X = Side} (sides_along x xs z) (q, p))
        → (q : ℕ) × Contains {X = Side} (sides_along a (x ∷ xs) z) (q, p)
    by true is has again = (a, subst (λ (k : ℕ). Contains {X = Side} ((a, x) ∷ sides_along x xs z) (a, k)) (eqb-true x p is) (Contains-first (a, x) (sides_along x xs z)))
    by false is (inl has) again = let rest = again (inl (rw is at has)) in (rest.0, Contains-later (a, x) (sides_along x xs z) (rest.0, p) rest.1)
    by false is (inr last) again = let rest = again (inr last) in (rest.0, Contains-later (a, x) (sides_along x xs z) (rest.0, p) rest.1)

side-reaching : (p : ℕ) (ring : Ring) → IsTrue (passes p ring) → (q : ℕ) × Contains {X = Side} (sides_of ring) (q, p)
side-reaching p [] has = absurd (true≢false (sym has))
side-reaching p (a ∷ xs) has = by (nat_eq a p) refl has
  where
    by : (b : Bool) → nat_eq a p ≡ b → list_any (λ q. q == p) (a ∷ xs) ≡ true → (q : ℕ) × Contains {X = Side} (sides_along a xs a) (q, p)
    by true is has = side-to p a xs a (inr (eqb-true a p is))
    by false is has = side-to p a xs a (inl (rw is at has))

or-left : (a b : Bool) → a ≡ true → (a || b) ≡ true
or-left a b is = rw is refl

or-right : (a b : Bool) → b ≡ true → (a || b) ≡ true
or-right true b is = refl
or-right false b is = is

or-cases : (a b : Bool) → (a || b) ≡ true → (a ≡ true) ⊎ (b ≡ true)
or-cases true b is = inl refl
or-cases false b is = inr is

-- the far end of a string from one of its ends
far-from : (s : StringRow) (p : ℕ) → nat_eq s.from p ≡ true → far_end s p ≡ s.to
far-from s p same = rw same refl

far-to : (s : StringRow) (p : ℕ) → nat_eq s.from p ≡ false → far_end s p ≡ s.from
far-to s p other = rw other refl

to-is : (s : StringRow) (p : ℕ) → nat_eq s.from p ≡ false → IsTrue (is_end s p) → s.to ≡ p
to-is s p other end = eqb-true s.to p (rw other at end)

far-is : (s : StringRow) (p q : ℕ) → ((p, q) ≡ side_of s) ⊎ ((p, q) ≡ opposite (side_of s)) → far_end s p ≡ q
far-is s p q is = by (nat_eq s.from p) refl
  where
    by : (b : Bool) → nat_eq s.from p ≡ b → far_end s p ≡ q
    by true same =
        far-from s p same ∙ elim is [
          | inl along ↦ sym (ap (λ (t : Side). t.1) along)
          | inr back ↦ sym (ap (λ (t : Side). t.0) back) ∙ sym (eqb-true s.from p same) ∙ sym (ap (λ (t : Side). t.1) back)
        ]
    by false other =
        far-to s p other ∙ elim is [
          | inl along ↦ absurd (true≢false (sym (eq-eqb s.from p (sym (ap (λ (t : Side). t.0) along))) ∙ other))
          | inr back ↦ sym (ap (λ (t : Side). t.1) back)
        ]

module _ (m : Map) (valid : IsValid m) where
  -- a ring that passes a point comes to it along one of its strings
  pub record ComesAlong (p : ℕ) (ring : Ring) : Type 0 where
    pub string : StringRow
    pub there : Contains (strings_at m p) string
    pub in_ring : Contains {X = Side} (sides_of ring) (far_end string p, p)

  pub comes-along : (p : ℕ) (b : Boundary) → Contains m.boundaries b → IsTrue (passes p b.ring) → ComesAlong p b.ring
  comes-along p b among has =
      let side = side-reaching p b.ring has in
      let s = of_string m valid (side.0, p) (Contains-flat_map (λ (c : Boundary). sides_of c.ring) m.boundaries b (side.0, p) among side.1) in
      let turned : ((p, side.0) ≡ side_of s.string) ⊎ ((p, side.0) ≡ opposite (side_of s.string)) = elim s.is [ inl is ↦ inr (ap opposite is) | inr is ↦ inl (ap opposite is) ] in
      record {
        string = s.string;
        there = Contains-filter (λ r. is_end r p) m.strings s.string s.there (elim s.is [
          | inl is ↦ or-right _ _ (eq-eqb s.string.to p (sym (ap (λ (t : Side). t.1) is)))
          | inr is ↦ or-left _ _ (eq-eqb s.string.from p (sym (ap (λ (t : Side). t.1) is)))
        ]);
        in_ring = subst (λ (q : ℕ). Contains {X = Side} (sides_of b.ring) (q, p)) (sym (far-is s.string p side.0 turned)) side.1;
      }

  -- the side to a point along one of its strings is in a ring
  side-in : (p : ℕ) (s : StringRow) → Contains (strings_at m p) s → Contains {X = Side} (all_sides m) (far_end s p, p)
  side-in p s there = by (nat_eq s.from p) refl
    where
      at : Contains m.strings s × IsTrue (is_end s p)
      at = filter-Contains (λ t. is_end t p) m.strings s there

      by : (b : Bool) → nat_eq s.from p ≡ b → Contains {X = Side} (all_sides m) (far_end s p, p)
      by true same = subst (Contains {X = Side} (all_sides m)) (λ i. (sym (far-from s p same) i, eqb-true s.from p same i)) (in_all m valid (opposite (side_of s)) (both_sides m s at.0).1)
      by false other = subst (Contains {X = Side} (all_sides m)) (λ i. (sym (far-to s p other) i, to-is s p other at.1 i)) (in_all m valid (side_of s) (both_sides m s at.0).0)

  -- so its face is told
  pub face-some : (p : ℕ) (s : StringRow) → Contains (strings_at m p) s → (o : Option Face) → IfNone o (IsNoSide m (far_end s p, p)) → is_some o ≡ true
  face-some p s there (Some f) none = refl
  face-some p s there None none = absurd (true≢false (sym (Contains-has_side (far_end s p, p) (all_sides m) (side-in p s there)) ∙ none))

  -- and it is that of the ring that has the side
  pub face-is : (s : Side) (f : Face) (b : Boundary) → HasSide m f s → Contains m.boundaries b → Contains (sides_of b.ring) s → f ≡ b.face
  face-is s f b has among out = same_Some f b.face (sym (face-told m valid f s has) ∙ one_ring m valid s b among out)

  -- the faces of the rings that go along a string are those on its sides
  pub face-along : (n : ℕ) (left right : Face) (s : StringRow) (b : Boundary) → HasFaces m n left right → string_of m n ≡ Some s → Contains m.boundaries b → IsTrue (goes_along s b.ring)
      → (left ≡ b.face) ⊎ (right ≡ b.face)
  face-along n left right s b told is among along =
      let faces = faces-told m valid n s left right is told in
      elim (or-cases _ _ along) [
        | inl has ↦ inl (same_Some left b.face (sym faces.0 ∙ one_ring m valid (side_of s) b among (has_side-Contains (side_of s) (sides_of b.ring) has)))
        | inr has ↦ inr (same_Some right b.face (sym faces.1 ∙ one_ring m valid (opposite (side_of s)) b among (has_side-Contains (opposite (side_of s)) (sides_of b.ring) has)))
      ]

-- each point of a chain is an end of one of its sides
chain-end : (chain : List ℕ) (q : ℕ) → 2 ≤ length chain → Contains chain q → (s : Side) × Contains (sides_of_chain chain) s × ((s.0 ≡ q) ⊎ (s.1 ≡ q))
chain-end [] q long h = absurd (omega (arith, long))
chain-end (a ∷ []) q long h = absurd (omega (arith, long))
chain-end (a ∷ b ∷ []) q long h =
    elim (Contains-cases a (b ∷ []) q h) [
      | inl same ↦ ((a, b), Contains-first (a, b) [], inl same)
      | inr later ↦ elim (Contains-cases b [] q later) [ inl same ↦ ((a, b), Contains-first (a, b) [], inr same) | inr none ↦ let low = none.1 in absurd (omega arith) ]
    ]
chain-end (a ∷ b ∷ c ∷ rest) q long h =
    elim (Contains-cases a (b ∷ c ∷ rest) q h) [
      | inl same ↦ ((a, b), Contains-first (a, b) (sides_of_chain (b ∷ c ∷ rest)), inl same)
      | inr later ↦
          let more = chain-end (b ∷ c ∷ rest) q (omega arith) later in
          (more.0, Contains-later (a, b) (sides_of_chain (b ∷ c ∷ rest)) more.0 more.1, more.2)
    ]

-- two in some order
two-turned : (x y a b : ℕ) → IsPermutation (x ∷ y ∷ []) (a ∷ b ∷ []) → ((x ≡ a) × (y ≡ b)) ⊎ ((x ≡ b) × (y ≡ a))
two-turned x y a b same =
    let sum = sum_by-IsPermutation (λ (n : ℕ). n) (x ∷ y ∷ []) (a ∷ b ∷ []) same in
    let one = sum_by-cons (λ (n : ℕ). n) x (y ∷ []) in
    let two = sum_by-cons (λ (n : ℕ). n) y [] in
    let three = sum_by-cons (λ (n : ℕ). n) a (b ∷ []) in
    let four = sum_by-cons (λ (n : ℕ). n) b [] in
    elim (Contains-cases a (b ∷ []) x (Contains-permutation (x ∷ y ∷ []) (a ∷ b ∷ []) x same (Contains-first x (y ∷ [])))) [
      | inl e ↦ inl (sym e, omega (arith, sum, one, two, three, four, e))
      | inr later ↦ elim (Contains-cases b [] x later) [
        | inl e ↦ inr (sym e, omega (arith, sum, one, two, three, four, e))
        | inr none ↦ let low = none.1 in absurd (omega arith)
      ]
    ]

-- what is named of an edit
module _ (m : Map) (u : Touched) where
  -- what was moved, and what was joined
  moved-told : (n : Map) (o : Option Moved) → u.moved ≡ o → IfSome o (λ v. ComesByMove m n v ⊎ ComesBySplit m n v) → IfSome u.moved (λ v. ComesByMove m n v ⊎ ComesBySplit m n v)
  moved-told n o is comes = subst (λ (o : Option Moved). IfSome o (λ v. ComesByMove m n v ⊎ ComesBySplit m n v)) (sym is) comes

  joined-told : (n : Map) (o : Option Joined) → u.joined ≡ o → IfSome o (ComesByJoin m n) → IfSome u.joined (ComesByJoin m n)
  joined-told n o is comes = subst (λ (o : Option Joined). IfSome o (ComesByJoin m n)) (sym is) comes

  pub point-more : (p : ℕ) (x y : ℤ) → IsTried m (AddPoint p x y) → Contains u.points p → Tells u None None → IsTouched m (after m (AddPoint p x y)) u
  point-more p x y t there none =
      more-touched m (after m (AddPoint p x y)) (touching (p ∷ []) [] []) u (touched-after m (AddPoint p x y) t.valid t.given t.allowed)
      (λ q h. one q h) (λ s h. absurd (no s h)) (λ f h. absurd (no f h)) (moved-told (after m (AddPoint p x y)) None none.moves tt) (joined-told (after m (AddPoint p x y)) None none.joins tt)
    where
      no : {X : Type 0} (x : X) → Contains [] x → ⊥
      no x h = let low = h.1 in omega arith

      one : (q : ℕ) → Contains (p ∷ []) q → Contains u.points q
      one q h = elim (Contains-cases p [] q h) [ inl same ↦ subst (Contains u.points) same there | inr later ↦ absurd (no q later) ]

  -- the faces of the rings that pass a test
  faces-all : (test : Ring → Bool) → ((b : Boundary) → Contains m.boundaries b → IsTrue (test b.ring) → Contains u.faces b.face) → (f : Face) → Contains (faces_where m test) f → Contains u.faces f
  faces-all test each f h =
      let b = map-Contains (λ (b : Boundary). b.face) (filter (λ (b : Boundary). test b.ring) m.boundaries) f h in
      let in_map = filter-Contains (λ (b : Boundary). test b.ring) m.boundaries b.0 b.1 in
      subst (Contains u.faces) b.2 (each b.0 in_map.0 in_map.1)

  pub move-more : (p : ℕ) (x y : ℤ) → IsTried m (Move p x y) → Contains u.points p
      → ((s : StringRow) → Contains (strings_at m p) s → Contains u.strings s.number)
      → ((b : Boundary) → Contains m.boundaries b → IsTrue (passes p b.ring) → Contains u.faces b.face)
      → Tells u (Some (record { point = p; from = position_of m p })) None → IsTouched m (after m (Move p x y)) u
  move-more p x y t there strings faces told =
      more-touched m (after m (Move p x y)) (touched_by m (Move p x y)) u (touched-after m (Move p x y) t.valid t.given t.allowed)
      one
      (λ n h. let s = map-Contains (λ (s : StringRow). s.number) (strings_at m p) n h in subst (Contains u.strings) s.2 (strings s.0 s.1))
      (faces-all (passes p) faces)
      (moved-told (after m (Move p x y)) _ told.moves (touched-after m (Move p x y) t.valid t.given t.allowed).moved) (joined-told (after m (Move p x y)) None told.joins tt)
    where
      one : (q : ℕ) → Contains (p ∷ []) q → Contains u.points q
      one q h = elim (Contains-cases p [] q h) [ inl same ↦ subst (Contains u.points) same there | inr later ↦ let low = later.1 in absurd (omega arith) ]

  -- the ends of a string that is split, and the faces on both its sides
  pub split-more : (s p : ℕ) (x y : ℤ) (first second : ℕ) (row : StringRow) → IsTried m (Split s p x y first second) → string_of m s ≡ Some row
      → u.points ≡ p ∷ row.from ∷ row.to ∷ [] → u.strings ≡ first ∷ second ∷ []
      → ((b : Boundary) → Contains m.boundaries b → IsTrue (goes_along row b.ring) → Contains u.faces b.face) → Tells u (Some (record { point = p; from = position_of m row.from })) None → IsTouched m (after m (Split s p x y first second)) u
  split-more s p x y first second row t found points strings faces told =
      let is : touched_by m (Split s p x y first second) ≡ touched_by_split m p first second row =
      ap (λ (o : Option StringRow). unwrap_or (option_map (touched_by_split m p first second) o) (touching [] [] [])) found in
      let by = subst (IsTouched m (after m (Split s p x y first second))) is (touched-after m (Split s p x y first second) t.valid t.given t.allowed) in
      more-touched m (after m (Split s p x y first second)) (touched_by_split m p first second row) u by
      (λ q h. subst (λ (l : List ℕ). Contains l q) (sym points) h) (λ n h. subst (λ (l : List ℕ). Contains l n) (sym strings) h)
      (faces-all (goes_along row) faces)
      (moved-told (after m (Split s p x y first second)) _ told.moves by.moved) (joined-told (after m (Split s p x y first second)) None told.joins tt)

  -- the far ends of two strings that are joined, the faces round the point, and the point between the two
  pub join-more : (p new : ℕ) → IsTried m (Join p new) → IsPermutation (neighbours m p) u.points → u.strings ≡ new ∷ []
      → ((b : Boundary) → Contains m.boundaries b → IsTrue (passes p b.ring) → Contains u.faces b.face) → Tells u None (joined_between m p u.points) → IsTouched m (after m (Join p new)) u
  join-more p new t points strings faces told =
      let by = touched-after m (Join p new) t.valid t.given t.allowed in
      more-touched m (after m (Join p new)) (touched_by m (Join p new)) u by
      (λ q h. Contains-permutation (neighbours m p) u.points q points h) (λ n h. subst (λ (l : List ℕ). Contains l n) (sym strings) h) (faces-all (passes p) faces)
      (moved-told (after m (Join p new)) None told.moves tt)
      (joined-told (after m (Join p new)) (joined_between m p u.points) told.joins (either-way (neighbours m p) u.points points by.joined))
    where
      -- in whatever order the two are
      either-way : (qs rs : List ℕ) → IsPermutation qs rs → IfSome (joined_between m p qs) (ComesByJoin m (after m (Join p new))) → IfSome (joined_between m p rs) (ComesByJoin m (after m (Join p new)))
      either-way qs [] same comes = tt
      either-way qs (a ∷ []) same comes = tt
      either-way qs (a ∷ b ∷ c ∷ rs) same comes = tt
      either-way [] (a ∷ b ∷ []) same comes = let e = length_permutation [] (a ∷ b ∷ []) same in absurd (omega (arith, e))
      either-way (x ∷ []) (a ∷ b ∷ []) same comes = let e = length_permutation (x ∷ []) (a ∷ b ∷ []) same in absurd (omega (arith, e))
      either-way (x ∷ y ∷ z ∷ qs) (a ∷ b ∷ []) same comes = let e = length_permutation (x ∷ y ∷ z ∷ qs) (a ∷ b ∷ []) same in absurd (omega (arith, e))
      either-way (x ∷ y ∷ []) (a ∷ b ∷ []) same comes = elim (two-turned x y a b same) [
        | inl e ↦ subst (λ (l : List ℕ). IfSome (joined_between m p l) (ComesByJoin m (after m (Join p new)))) (λ i. e.0 i ∷ e.1 i ∷ []) comes
        | inr e ↦ subst (λ (l : List ℕ). IfSome (joined_between m p l) (ComesByJoin m (after m (Join p new)))) (λ i. e.1 i ∷ e.0 i ∷ [])
            (record { lay = comes.lay; straight = straight-turned comes.straight })
      ]

  -- just what is named
  pub just-touched : (e : Edit) → IsTried m e → u ≡ touched_by m e → IsTouched m (after m e) u
  just-touched e t is = subst (IsTouched m (after m e)) (sym is) (touched-after m e t.valid t.given t.allowed)

  -- the ends of the sides that two faces share, which are the points of what they share
  module _ (kept ended : Face) (t : IsTried m (Merge kept ended))
      (ends : (s : Side) → HasSide m ended s → HasSide m kept (opposite s) → Contains u.points s.0 × Contains u.points s.1) where
    both-ends : (s : Side) → HasSide m kept s → HasSide m ended (opposite s) → Contains u.points s.0 × Contains u.points s.1
    both-ends s has other = let two = ends (opposite s) other has in (two.1, two.0)

    chain-points : (x : ChainInRings) → IsFound m t.valid kept ended x → IsMergedIn x m (after m (Merge kept ended)) kept ended → (q : ℕ)
        → Contains (points_of_shared_chain x) q → Contains u.points q
    chain-points x (IsFound.by_round k e k_there e_there is) it q h =
        let side = side-passing q k (list_any-Contains (λ (p : ℕ). p == q) k q h (eq-eqb q q refl)) in
        (both-ends (q, side.0) (it.1.in_kept (q, side.0) side.1) (it.1.in_ended (q, side.0) side.1)).0
    chain-points x (IsFound.by_chain k i e j k_there e_there is) it q h =
        let n = length (shared_sides m kept ended) in
        let passed = along-passed n (turned i k) (turned j e) is in
        let some = passed.some in
        let more = passed.more_in_kept in
        let long = length-take-le (n + 1) (turned i k) (omega (arith, more)) in
        let side = chain-end (chain_from i n k) q (omega (arith, long, some)) h in
        let two = both-ends side.0 (it.1.in_kept side.0 side.1) (it.1.in_ended side.0 side.1) in
        elim side.2 [ inl first ↦ subst (Contains u.points) first two.0 | inr last ↦ subst (Contains u.points) last two.1 ]

    pub merge-more : Contains u.faces kept → Tells u None None → IsTouched m (after m (Merge kept ended)) u
    merge-more face none =
        more-touched m (after m (Merge kept ended)) (touched_by m (Merge kept ended)) u (touched-after m (Merge kept ended) t.valid t.given t.allowed)
        (λ q h.
        let x = Contains-in_part points_of_shared_chain (shared_chains m kept ended) q h in
        chain-points x.0 (found m t.valid kept ended x.0 x.1) (merged-faces m kept ended x.0 t.valid t.allowed x.1) q x.2)
        (λ n h. let low = h.1 in absurd (omega arith))
        (λ f h. elim (Contains-cases kept [] f h) [ inl same ↦ subst (Contains u.faces) same face | inr later ↦ let low = later.1 in absurd (omega arith) ])
        (moved-told (after m (Merge kept ended)) None none.moves tt) (joined-told (after m (Merge kept ended)) None none.joins tt)

-- ---- Rings as a view keeps them

-- a side of a face is one of the rings that are kept of it
pub kept-side : (m : Map) (bs : List Boundary) → canonical_order bs ≡ m.boundaries → (f : Face) (s : Side) → HasSide m f s → Contains (flat_map sides_of (rings_at f bs)) s
kept-side m bs is f s has =
    let k = beside f s m.boundaries (has_side-Contains s (flat_map sides_of (rings_at f m.boundaries)) has) in
    let among = Contains-permutation (canonical_order bs) (map canonical_form bs) k.boundary
    (IsPermutation-sym (map canonical_form bs) (canonical_order bs) (IsPermutation-canonical_order bs))
    (subst (λ (l : List Boundary). Contains l k.boundary) (sym is) k.there) in
    let b = map-Contains canonical_form bs k.boundary among in
    let side = Contains-permutation (sides_of (canonical_form b.0).ring) (sides_of b.0.ring) s
    (IsPermutation-sym (sides_of b.0.ring) (sides_of (canonical_form b.0).ring) (sides_of-least_rotation b.0.ring))
    (subst (λ (c : Boundary). Contains (sides_of c.ring) s) (sym b.2) k.has) in
    let face : f ≡ b.0.face = k.face ∙ sym (ap (λ (c : Boundary). c.face) b.2) in
    let kept = Contains-filter (λ (c : Boundary). is_face f c.face) bs b.0 b.1 (subst (λ (g : Face). IsTrue (is_face f g)) face (is_face-refl f)) in
    Contains-flat_map sides_of (rings_at f bs) b.0.ring s (Contains-map (λ (c : Boundary). c.ring) (filter (λ c. is_face f c.face) bs) b.0 kept) side

-- where no ring has a side no face has it
pub no-side : (m : Map) (f : Face) (s : Side) → IsNoSide m s → HasSide m f s → ⊥
no-side m f s none has =
    let k = beside f s m.boundaries (has_side-Contains s (flat_map sides_of (rings_at f m.boundaries)) has) in
    true≢false (sym (Contains-has_side s (all_sides m) (Contains-flat_map (λ (b : Boundary). sides_of b.ring) m.boundaries k.boundary s k.there k.has)) ∙ none)

-- the faces of a string are told
pub faces-some : (m : Map) → IsValid m → (n : ℕ) → is_some (string_of m n) ≡ true → (o : Option (Face × Face)) → IfNone o (HasNoFaces m n) → is_some o ≡ true
faces-some m valid n there (Some faces) none = refl
faces-some m valid n there None none = by (string_of m n) refl there
  where
    by : (o : Option StringRow) → string_of m n ≡ o → is_some o ≡ true → is_some {T = Face × Face} None ≡ true
    by None is known = cc
    by (Some row) is known = absurd (some-faces m valid n row (find-Contains (λ (r : StringRow). r.number == n) m.strings row is).0 is none)

-- a side of the rings up to one is of those before it, or its own
pub up-to : (rings : List Ring) (place : ℕ) (s : Side) → place < length rings → Contains (flat_map sides_of (take (place + 1) rings)) s
    → Contains (flat_map sides_of (take place rings)) s ⊎ Contains (sides_of (get_or rings place [])) s
up-to rings place s within among =
    let here = get_or rings place [] in
    let more = ap (flat_map sides_of) (take_more rings place [] within) ∙ flat_map-append sides_of (take place rings) (here ∷ []) in
    elim (Contains-append_cases (flat_map sides_of (take place rings)) (flat_map sides_of (here ∷ [])) s (subst (λ (l : List Side). Contains l s) more among)) [
      | inl earlier ↦ inl earlier
      | inr last ↦ elim (Contains-append_cases (sides_of here) [] s last) [
        | inl on ↦ inr on
        | inr none ↦ let low = none.1 in absurd (omega arith)
      ]
    ]

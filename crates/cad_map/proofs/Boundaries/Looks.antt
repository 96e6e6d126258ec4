-- What is found by looking through rings one after another.
use Rattle.std.proofs.Common.{◌≡◌, ℕ, ◌≤◌, refl, sym, ap, ◌∙◌, subst, List, [], ◌∷◌, length, map, find, Option, Some, None, option_map, Bool, true, false, cond, true≢false, ◌||◌, arith}
use Rattle.std.specs.Prelude.{flat_map, IfSome, IfNone}
use Rattle.std.proofs.lemmas.Option.{same_Some}
use Rattle.cad_rows.specs.declared.rows.StringRow.{StringRow}
use Rattle.cad_map.specs.Views.{IsNoSide, HasNoFaces}
use Rattle.std.specs.Option.{option_or}
use Rattle.std.specs.List.{AllByRecursion, Contains}
use Rattle.std.proofs.lemmas.Cmp.{nat_eq_equiv}
use Rattle.std.proofs.lemmas.List.Folds.{list_any-append}
use Rattle.std.proofs.lemmas.List.Elements.{Contains-append_left, Contains-append_right}
use Rattle.cad_rows.specs.declared.names.Face.{Face}
use Rattle.cad_rows.specs.declared.names.Face.TheVariants.{Outside, Parcel}
use Rattle.cad_rings.specs.Cycle.{Side, is_side, has_side, opposite, sides_of, Corner, corners_of, after_side}
use Rattle.cad_rings.specs.Surgery.{corner}
use Rattle.cad_rings.proofs.CallerLemmas.{is_side-same}
use Rattle.cad_map.specs.declared.boundary.Boundary.{Boundary}
use Rattle.cad_map.specs.Boundaries.{is_face, sides_in, corners_in}
use Rattle.cad_map.specs.Map.{Map, string_of, side_of, all_sides, rings_at, point_after}
use Rattle.cad_map.proofs.Walks.AlongRing.{side_before, sides-before}

pub is_face-refl : (f : Face) → is_face f f ≡ true
is_face-refl Outside = refl
is_face-refl (Parcel n) = nat_eq_equiv.refl n

-- ---- The face of a side

-- the face of the first of these rings that has the side
abbrev first_face : Side → List Boundary → Option Face
first_face s bs = option_map (λ b. b.face) (find (λ b. has_side s (sides_of b.ring)) bs)

pub first_face-some : (s : Side) (bs : List Boundary) (f : Face) → first_face s bs ≡ Some f → has_side s (flat_map sides_of (rings_at f bs)) ≡ true
first_face-some s [] f found = cc
first_face-some s (b ∷ bs) f found = by (λ rest. first_face-some s bs f rest) (has_side s (sides_of b.ring)) (is_face f b.face) refl refl
  where
    here : (t : Bool) → Option Face
    here t = option_map (λ b. b.face) (cond t (Some b) (find (λ b. has_side s (sides_of b.ring)) bs))

    by : (first_face s bs ≡ Some f → has_side s (flat_map sides_of (rings_at f bs)) ≡ true) → (t u : Bool) → has_side s (sides_of b.ring) ≡ t → is_face f b.face ≡ u
        → has_side s (flat_map sides_of (rings_at f (b ∷ bs))) ≡ true
    by again true true has is = rw is (list_any-append (is_side s) (sides_of b.ring) (flat_map sides_of (rings_at f bs)) ∙ ap (λ (t : Bool). t || has_side s (flat_map sides_of (rings_at f bs))) has)
    by again true false has is =
        let first : Some b.face ≡ Some f = sym (ap here has) ∙ found in
        let same : b.face ≡ f = cc in
        absurd (true≢false (sym (is_face-refl f) ∙ ap (is_face f) (sym same) ∙ is))
    by again false true has is = rw is (list_any-append (is_side s) (sides_of b.ring) (flat_map sides_of (rings_at f bs)) ∙ ap (λ (t : Bool). t || has_side s (flat_map sides_of (rings_at f bs))) has ∙ again (sym (ap here has) ∙ found))
    by again false false has is = rw is (again (sym (ap here has) ∙ found))

pub first_face-none : (s : Side) (bs : List Boundary) → first_face s bs ≡ None → has_side s (sides_in bs) ≡ false
first_face-none s [] none = refl
first_face-none s (b ∷ bs) none = by (λ rest. first_face-none s bs rest) (has_side s (sides_of b.ring)) refl
  where
    here : (t : Bool) → Option Face
    here t = option_map (λ b. b.face) (cond t (Some b) (find (λ b. has_side s (sides_of b.ring)) bs))

    by : (first_face s bs ≡ None → has_side s (sides_in bs) ≡ false) → (t : Bool) → has_side s (sides_of b.ring) ≡ t → has_side s (sides_in (b ∷ bs)) ≡ false
    by again true has = let some : Some b.face ≡ None = sym (ap here has) ∙ none in cc
    by again false has = list_any-append (is_side s) (sides_of b.ring) (sides_in bs) ∙ ap (λ (t : Bool). t || has_side s (sides_in bs)) has ∙ again (sym (ap here has) ∙ none)

-- ---- The point after a side

-- the corner that is found is one of them, at the end of the side
found-corner : (s : Side) (cs : List Corner) (w : ℕ) → option_map (λ c. c.after) (find (λ c. is_side s (c.before, c.at)) cs) ≡ Some w → Contains cs (corner s.0 s.1 w)
found-corner s [] w found = cc
found-corner s (c ∷ cs) w found = by (λ rest. found-corner s cs w rest) (is_side s (c.before, c.at)) refl
  where
    here : (t : Bool) → Option ℕ
    here t = option_map (λ c. c.after) (cond t (Some c) (find (λ c. is_side s (c.before, c.at)) cs))

    by : (option_map (λ c. c.after) (find (λ c. is_side s (c.before, c.at)) cs) ≡ Some w → Contains cs (corner s.0 s.1 w)) → (t : Bool) → is_side s (c.before, c.at) ≡ t → Contains (c ∷ cs) (corner s.0 s.1 w)
    by again true is =
        let first : Some c.after ≡ Some w = sym (ap here is) ∙ found in
        let same : c.after ≡ w = cc in
        let side = is_side-same s (c.before, c.at) is in
        subst (λ (d : Corner). Contains (c ∷ cs) d) (λ i. corner ((sym side i).0) ((sym side i).1) (same i)) (0, omega arith, refl)
    by again false is = Contains-append_right (c ∷ []) cs (corner s.0 s.1 w) (again (sym (ap here is) ∙ found))

pub point_after-some : (s : Side) (bs : List Boundary) (w : ℕ) → point_after s bs ≡ Some w → Contains (corners_in bs) (corner s.0 s.1 w)
point_after-some s [] w found = cc
point_after-some s (b ∷ bs) w found = by (λ rest. point_after-some s bs w rest) (after_side s b.ring) refl
  where
    by : (point_after s bs ≡ Some w → Contains (corners_in bs) (corner s.0 s.1 w)) → (o : Option ℕ) → after_side s b.ring ≡ o → Contains (corners_in (b ∷ bs)) (corner s.0 s.1 w)
    by again None is = Contains-append_right (corners_of b.ring) (corners_in bs) (corner s.0 s.1 w) (again (sym (ap (λ (o : Option ℕ). option_or o (point_after s bs)) is) ∙ found))
    by again (Some v) is =
        let same : Some v ≡ Some w = sym (ap (λ (o : Option ℕ). option_or o (point_after s bs)) is) ∙ found in
        Contains-append_left (corners_of b.ring) (corners_in bs) (corner s.0 s.1 w) (found-corner s (corners_of b.ring) w (is ∙ same))

no-corner : (s : Side) (cs : List Corner) → option_map (λ c. c.after) (find (λ c. is_side s (c.before, c.at)) cs) ≡ None → has_side s (map side_before cs) ≡ false
no-corner s [] none = refl
no-corner s (c ∷ cs) none = by (λ rest. no-corner s cs rest) (is_side s (c.before, c.at)) refl
  where
    here : (t : Bool) → Option ℕ
    here t = option_map (λ c. c.after) (cond t (Some c) (find (λ c. is_side s (c.before, c.at)) cs))

    by : (option_map (λ c. c.after) (find (λ c. is_side s (c.before, c.at)) cs) ≡ None → has_side s (map side_before cs) ≡ false) → (t : Bool) → is_side s (c.before, c.at) ≡ t → has_side s (map side_before (c ∷ cs)) ≡ false
    by again true is = let some : Some c.after ≡ None = sym (ap here is) ∙ none in cc
    by again false is = ap (λ (t : Bool). t || has_side s (map side_before cs)) is ∙ again (sym (ap here is) ∙ none)

pub point_after-none : (s : Side) (bs : List Boundary) → AllByRecursion (λ b. 2 ≤ length b.ring) bs → point_after s bs ≡ None → has_side s (sides_in bs) ≡ false
point_after-none s [] two none = refl
point_after-none s (b ∷ bs) two none = by (λ rest. point_after-none s bs two.1 rest) (after_side s b.ring) refl
  where
    by : (point_after s bs ≡ None → has_side s (sides_in bs) ≡ false) → (o : Option ℕ) → after_side s b.ring ≡ o → has_side s (sides_in (b ∷ bs)) ≡ false
    by again (Some v) is = let some : Some v ≡ None = sym (ap (λ (o : Option ℕ). option_or o (point_after s bs)) is) ∙ none in cc
    by again None is =
        list_any-append (is_side s) (sides_of b.ring) (sides_in bs)
        ∙ ap (λ (t : Bool). t || has_side s (sides_in bs)) (ap (has_side s) (sym (sides-before b.ring two.0)) ∙ no-corner s (corners_of b.ring) is)
        ∙ again (sym (ap (λ (o : Option ℕ). option_or o (point_after s bs)) is) ∙ none)

-- ---- What the calls answer

pub view_face-some : (s : Side) (bs : List Boundary) (o : Option Face) → o ≡ first_face s bs → IfSome o (λ f. has_side s (flat_map sides_of (rings_at f bs)) ≡ true)
view_face-some s bs None is = tt
view_face-some s bs (Some f) is = first_face-some s bs f (sym is)

pub view_face-none : (s : Side) (bs : List Boundary) (o : Option Face) → o ≡ first_face s bs → IfNone o (has_side s (sides_in bs) ≡ false)
view_face-none s bs None is = first_face-none s bs (sym is)
view_face-none s bs (Some f) is = tt

pub view_next-some : (s : Side) (bs : List Boundary) (o : Option ℕ) → o ≡ point_after s bs → IfSome o (λ w. Contains (corners_in bs) (corner s.0 s.1 w))
view_next-some s bs None is = tt
view_next-some s bs (Some w) is = point_after-some s bs w (sym is)

pub view_next-none : (s : Side) (bs : List Boundary) → AllByRecursion (λ b. 2 ≤ length b.ring) bs → (o : Option ℕ) → o ≡ point_after s bs → IfNone o (has_side s (sides_in bs) ≡ false)
view_next-none s bs two None is = point_after-none s bs two (sym is)
view_next-none s bs two (Some w) is = tt

or-right : (a b : Bool) → b ≡ true → (a || b) ≡ true
or-right true b h = refl
or-right false b h = h

-- a side of a face is one of a ring
pub face-side : (s : Side) (f : Face) (bs : List Boundary) → has_side s (flat_map sides_of (rings_at f bs)) ≡ true → has_side s (sides_in bs) ≡ true
face-side s f [] has = has
face-side s f (b ∷ bs) has = list_any-append (is_side s) (sides_of b.ring) (sides_in bs) ∙ by (λ rest. face-side s f bs rest) (is_face f b.face) refl
  where
    by : (has_side s (flat_map sides_of (rings_at f bs)) ≡ true → has_side s (sides_in bs) ≡ true) → (u : Bool) → is_face f b.face ≡ u → (has_side s (sides_of b.ring) || has_side s (sides_in bs)) ≡ true
    by again false is = or-right (has_side s (sides_of b.ring)) (has_side s (sides_in bs)) (again (rw is at has))
    by again true is = either (has_side s (sides_of b.ring)) refl
      where
        either : (t : Bool) → has_side s (sides_of b.ring) ≡ t → (has_side s (sides_of b.ring) || has_side s (sides_in bs)) ≡ true
        either true it = simp it
        either false it =
            or-right (has_side s (sides_of b.ring)) (has_side s (sides_in bs))
            (again (sym (ap (λ (t : Bool). t || has_side s (flat_map sides_of (rings_at f bs))) it) ∙ sym (list_any-append (is_side s) (sides_of b.ring) (flat_map sides_of (rings_at f bs))) ∙ rw is at has))

module _ (m : Map) (number : ℕ) (row : StringRow) (there : string_of m number ≡ Some row) where
  same-row : (s : StringRow) → string_of m number ≡ Some s → s ≡ row
  same-row s is = same_Some s row (sym is ∙ there)

  -- a string of which no ring has the one side has no faces
  pub no_left : IsNoSide m (row.from, row.to) → HasNoFaces m number
  no_left none left right has =
      true≢false (sym (face-side (side_of has.string) left m.boundaries has.on_left) ∙ ap (λ (s : StringRow). has_side (side_of s) (all_sides m)) (same-row has.string has.there) ∙ none)

  pub no_right : IsNoSide m (row.to, row.from) → HasNoFaces m number
  no_right none left right has =
      true≢false (sym (face-side (opposite (side_of has.string)) right m.boundaries has.on_right) ∙ ap (λ (s : StringRow). has_side (opposite (side_of s)) (all_sides m)) (same-row has.string has.there) ∙ none)

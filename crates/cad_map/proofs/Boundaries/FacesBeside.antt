-- The faces beside the sides of a map's rings, and beside its strings.
use Rattle.std.proofs.Common.{◌≡◌, ◌≢◌, ℕ, ◌+◌, ◌≤◌, ◌⊎◌, inl, inr, refl, sym, ap, subst, ◌∙◌, List, [], ◌∷◌, find, map, Some, Bool, true, false, cond, true≢false, arith, ◌==◌}
use Rattle.std.specs.Prelude.{flat_map, count_by, option_map}
use Rattle.std.specs.List.{Contains}
use Rattle.std.proofs.lemmas.Bool.{eqb-true}
use Rattle.std.proofs.lemmas.Cmp.{nat_eq_equiv}
use Rattle.std.proofs.lemmas.Option.{same_Some}
use Rattle.std.proofs.lemmas.List.Sums.{sum_by-append}
use Rattle.std.proofs.lemmas.List.Sorted.{IsPermutation-sym, Contains-permutation}
use Rattle.std.proofs.lemmas.List.Elements.{Contains-append_cases}
use Rattle.cad_rows.specs.declared.names.Face.{Face}
use Rattle.cad_rows.specs.declared.names.Face.TheVariants.{Outside, Parcel}
use Rattle.cad_rows.specs.declared.rows.StringRow.{StringRow}
use Rattle.cad_rings.specs.Cycle.{Side, is_side, has_side, opposite, sides_of}
use Rattle.cad_rings.proofs.CallerLemmas.{is_side-same}
use Rattle.cad_map.specs.declared.boundary.Boundary.{Boundary}
use Rattle.cad_map.specs.Boundaries.{is_face, sides_in}
use Rattle.cad_map.specs.Map.{Map, string_of, side_of, string_sides, rings_at, all_sides, face_at, left_face, right_face}
use Rattle.numbered_rows.specs.Rows.{row_with}
use Rattle.cad_map.specs.Valid.{EachPair, IsValid}
use Rattle.cad_map.specs.Views.{HasSide, HasFaces, HasNoFaces}
use Rattle.cad_map.proofs.Lists.Elements.{Contains-cases, Contains-first, Contains-later, Contains-flat_map, Contains-in_part, count-some, list_any-Contains, All-at_each, Contains-map}
use Rattle.cad_map.proofs.Boundaries.Looks.{first_face-some}
use Rattle.cad_map.proofs.Walks.AlongRing.{is_side-refl, once-from_pairs}
use Rattle.cad_map.proofs.Ends.Parallel.{all_sides-once}

pub is_face-same : (f g : Face) → is_face f g ≡ true → f ≡ g
is_face-same Outside Outside is = refl
is_face-same Outside (Parcel n) is = absurd (true≢false (sym is))
is_face-same (Parcel n) Outside is = absurd (true≢false (sym is))
is_face-same (Parcel n) (Parcel k) is = ap Parcel (eqb-true n k is)

pub has_side-Contains : (s : Side) (sides : List Side) → has_side s sides ≡ true → Contains sides s
has_side-Contains s [] h = absurd (true≢false (sym h))
has_side-Contains s (t ∷ sides) h = by (is_side s t) refl (λ rest. has_side-Contains s sides rest)
  where
    by : (b : Bool) → is_side s t ≡ b → (has_side s sides ≡ true → Contains sides s) → Contains (t ∷ sides) s
    by true is again = subst (Contains (t ∷ sides)) (sym (is_side-same s t is)) (Contains-first t sides)
    by false is again = Contains-later t sides s (again (rw is at h))

pub Contains-has_side : (s : Side) (sides : List Side) → Contains sides s → has_side s sides ≡ true
Contains-has_side s sides h = list_any-Contains (is_side s) sides s h (is_side-refl s)

-- ---- A side stands in one ring

-- a ring of these with the side, and with the face
pub record IsBeside (f : Face) (s : Side) (bs : List Boundary) : Type 0 where
  pub boundary : Boundary
  pub there : Contains bs boundary
  pub face : f ≡ boundary.face
  pub has : Contains (sides_of boundary.ring) s

-- where the side stands in one ring alone, the face of that ring is found for it
pub one_face : (s : Side) (bs : List Boundary) (b : Boundary) → count_by (is_side s) (sides_in bs) ≤ 1 → Contains bs b → Contains (sides_of b.ring) s → option_map (λ b. b.face) (find (λ b. has_side s (sides_of b.ring)) bs) ≡ Some b.face
one_face s [] b once there has = let low = there.1 in absurd (omega arith)
one_face s (c ∷ bs) b once there has = by (has_side s (sides_of c.ring)) refl (Contains-cases c bs b there) (λ few later. one_face s bs b few later has)
  where
    split : count_by (is_side s) (sides_in (c ∷ bs)) ≡ count_by (is_side s) (sides_of c.ring) + count_by (is_side s) (sides_in bs)
    split = sum_by-append (λ (t : Side). cond (is_side s t) 1 0) (sides_of c.ring) (sides_in bs)

    by : (v : Bool) → has_side s (sides_of c.ring) ≡ v → (c ≡ b) ⊎ Contains bs b
        → (count_by (is_side s) (sides_in bs) ≤ 1 → Contains bs b → option_map (λ b. b.face) (find (λ b. has_side s (sides_of b.ring)) bs) ≡ Some b.face)
        → option_map (λ b. b.face) (find (λ b. has_side s (sides_of b.ring)) (c ∷ bs)) ≡ Some b.face
    by true is (inl same) again = rw is (ap (λ (d : Boundary). Some d.face) same)
    by true is (inr later) again =
        let here = count-some (is_side s) (sides_of c.ring) s (has_side-Contains s (sides_of c.ring) is) (is_side-refl s) in
        let too = count-some (is_side s) (sides_in bs) s (Contains-flat_map (λ b. sides_of b.ring) bs b s later has) (is_side-refl s) in
        absurd (omega (arith, split, once, here, too))
    by false is (inl same) again = absurd (true≢false (sym (Contains-has_side s (sides_of b.ring) has) ∙ ap (λ (d : Boundary). has_side s (sides_of d.ring)) (sym same) ∙ is))
    by false is (inr later) again = rw is (again (omega (arith, split, once)) later)

-- a face has a side where one of its rings has it
pub beside : (f : Face) (s : Side) (bs : List Boundary) → Contains (flat_map sides_of (rings_at f bs)) s → IsBeside f s bs
beside f s [] h = let low = h.1 in absurd (omega arith)
beside f s (b ∷ bs) h = by (is_face f b.face) refl (λ rest. beside f s bs rest)
  where
    more : IsBeside f s bs → IsBeside f s (b ∷ bs)
    more k = record { boundary = k.boundary; there = Contains-later b bs k.boundary k.there; face = k.face; has = k.has }

    by : (v : Bool) → is_face f b.face ≡ v → (Contains (flat_map sides_of (rings_at f bs)) s → IsBeside f s bs) → IsBeside f s (b ∷ bs)
    by true is again = elim (Contains-append_cases (sides_of b.ring) (flat_map sides_of (rings_at f bs)) s (rw is at h)) [
      | inl here ↦ record { boundary = b; there = Contains-first b bs; face = is_face-same f b.face is; has = here }
      | inr later ↦ more (again later)
    ]
    by false is again = more (again (rw is at h))

-- ---- Strings and their sides

-- a side of a string of these
pub record IsSideOf (s : Side) (strings : List StringRow) : Type 0 where
  pub string : StringRow
  pub there : Contains strings string
  pub is : (s ≡ side_of string) ⊎ (s ≡ opposite (side_of string))

pub string_side : (m : Map) (s : Side) → Contains (string_sides m) s → IsSideOf s m.strings
string_side m s h =
    let part = Contains-in_part (λ t. side_of t ∷ opposite (side_of t) ∷ []) m.strings s h in
    let t = part.0 in
    record {
      string = t;
      there = part.1;
      is = elim (Contains-cases (side_of t) (opposite (side_of t) ∷ []) s part.2) [
        | inl same ↦ inl (sym same)
        | inr later ↦ elim (Contains-cases (opposite (side_of t)) [] s later) [ inl same ↦ inr (sym same) | inr none ↦ let low = none.1 in absurd (omega arith) ]
      ];
    }

pub both_sides : (m : Map) (t : StringRow) → Contains m.strings t → Contains (string_sides m) (side_of t) × Contains (string_sides m) (opposite (side_of t))
both_sides m t h =
    let two = side_of t ∷ opposite (side_of t) ∷ [] in (
      Contains-flat_map (λ t. side_of t ∷ opposite (side_of t) ∷ []) m.strings t (side_of t) h (Contains-first (side_of t) (opposite (side_of t) ∷ [])),
      Contains-flat_map (λ t. side_of t ∷ opposite (side_of t) ∷ []) m.strings t (opposite (side_of t)) h (Contains-later (side_of t) (opposite (side_of t) ∷ []) (opposite (side_of t)) (Contains-first (opposite (side_of t)) [])),
    )

-- no side stands twice in the rings of a valid map
pub sides-once : (m : Map) → IsValid m → EachPair (λ a b. a ≢ b) (all_sides m)
sides-once m valid =
    let sound = valid.sound in
    all_sides-once m (record { v1 = sound.v1; v2 = sound.v2; v3 = valid.keeps.v3 }) valid.keeps.v4 sound.v5

module _ (m : Map) (valid : IsValid m) where
  pub one_ring : (s : Side) (b : Boundary) → Contains m.boundaries b → Contains (sides_of b.ring) s → face_at m s ≡ Some b.face
  one_ring s b there has = one_face s m.boundaries b (once-from_pairs (all_sides m) (sides-once m valid) s) there has

  -- the face that has a side is the one at it
  pub face-told : (f : Face) (s : Side) → HasSide m f s → face_at m s ≡ Some f
  face-told f s has =
      let k = beside f s m.boundaries (has_side-Contains s (flat_map sides_of (rings_at f m.boundaries)) has) in
      one_ring s k.boundary k.there k.has ∙ ap Some (sym k.face)

  -- the faces that are told of a string are those on its left and on its right
  pub faces-told : (n : ℕ) (row : StringRow) (left right : Face) → string_of m n ≡ Some row → HasFaces m n left right → (left_face m row ≡ Some left) × (right_face m row ≡ Some right)
  faces-told n row left right is told =
      let same : told.string ≡ row = same_Some told.string row (sym told.there ∙ is) in (
        ap (left_face m) (sym same) ∙ face-told left (side_of told.string) told.on_left,
        ap (right_face m) (sym same) ∙ face-told right (opposite (side_of told.string)) told.on_right,
      )

  -- ---- Each side of a string has a face

  -- a ring of the map with the side
  pub record IsInRing (s : Side) : Type 0 where
    pub boundary : Boundary
    pub there : Contains m.boundaries boundary
    pub has : Contains (sides_of boundary.ring) s

  pub in_ring : (s : Side) → Contains (all_sides m) s → IsInRing s
  in_ring s h = let part = Contains-in_part (λ b. sides_of b.ring) m.boundaries s h in record { boundary = part.0; there = part.1; has = part.2 }

  pub in_all : (s : Side) → Contains (string_sides m) s → Contains (all_sides m) s
  in_all s h = Contains-permutation (string_sides m) (all_sides m) s valid.sound.v5.once h

  pub of_string : (s : Side) → Contains (all_sides m) s → IsSideOf s m.strings
  of_string s h = string_side m s (Contains-permutation (all_sides m) (string_sides m) s (IsPermutation-sym (string_sides m) (all_sides m) valid.sound.v5.once) h)

  pub side-face : (s : Side) → Contains (all_sides m) s → (f : Face) × (face_at m s ≡ Some f) × HasSide m f s
  side-face s h =
      let ring = in_ring s h in
      let is = one_ring s ring.boundary ring.there ring.has in
      (ring.boundary.face, is, first_face-some s m.boundaries ring.boundary.face is)

  -- so its faces are told
  pub some-faces : (n : ℕ) (row : StringRow) → Contains m.strings row → string_of m n ≡ Some row → HasNoFaces m n → ⊥
  some-faces n row there is none =
      let sides = both_sides m row there in
      let left = side-face (side_of row) (in_all (side_of row) sides.0) in
      let right = side-face (opposite (side_of row)) (in_all (opposite (side_of row)) sides.1) in
      none left.0 right.0 (record { string = row; there = is; on_left = left.2; on_right = right.2 })

-- ---- Rows by their numbers

-- a row is found by its number, where none stands twice
pub row-found : (rows : List StringRow) (row : StringRow) → EachPair (λ a b. a ≢ b) (map (λ (r : StringRow). r.number) rows) → Contains rows row → row_with (λ (r : StringRow). r.number) row.number rows ≡ Some row
row-found [] row each there = let low = there.1 in absurd (omega arith)
row-found (r ∷ rows) row each there = by (r.number == row.number) refl (Contains-cases r rows row there) (λ later. row-found rows row each.1 later)
  where
    by : (b : Bool) → (r.number == row.number) ≡ b → (r ≡ row) ⊎ Contains rows row → (Contains rows row → row_with (λ (r : StringRow). r.number) row.number rows ≡ Some row) → row_with (λ (r : StringRow). r.number) row.number (r ∷ rows) ≡ Some row
    by true is (inl same) again = rw is (ap Some same)
    by true is (inr later) again =
        absurd (All-at_each (λ b. r.number ≢ b) (map (λ (r : StringRow). r.number) rows) row.number each.0 (Contains-map (λ (r : StringRow). r.number) rows row later) (eqb-true r.number row.number is))
    by false is (inl same) again = absurd (true≢false (sym (nat_eq_equiv.refl row.number) ∙ ap (λ (s : StringRow). s.number == row.number) (sym same) ∙ is))
    by false is (inr later) again = rw is (again later)

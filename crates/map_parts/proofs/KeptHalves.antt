-- One half of each ring, under the places of faces.
use Rattle.std.proofs.Common.{◌≡◌, ◌≢◌, ℕ, suc, ◌⊎◌, ◌==◌, Bool, true, false, List, [], ◌∷◌, ◌++◌, map, find, filter, refl, sym, ap, ◌∙◌, subst, arith, inl, inr, Option, Some, None, true≢false}
use Rattle.std.specs.Prelude.{IsPermutation, flat_map, ◌||◌, unwrap_or, is_some}
use Rattle.std.specs.List.{AllByRecursion, Contains, list_any}
use Rattle.std.proofs.lemmas.Bool.{eqb-true}
use Rattle.std.proofs.lemmas.Cmp.{nat_eq_equiv}
use Rattle.std.proofs.lemmas.List.Sorted.{IsPermutation-refl, IsPermutation-cons, IsPermutation-trans, IsPermutation-append_right}
use Rattle.std.proofs.lemmas.List.Elements.{filter-append}
use Rattle.cad_rows.specs.declared.names.Face.{Face}
use Rattle.cad_rows.specs.declared.names.Face.TheVariants.{Outside, Parcel}
use Rattle.cad_rows.specs.declared.rows.ParcelRow.{ParcelRow}
use Rattle.cad_rings.specs.Cycle.{has_side, sides_of}
use Rattle.cad_map.specs.declared.boundary.Boundary.{Boundary}
use Rattle.cad_map.specs.Boundaries.{bounding, face_place}
use Rattle.cad_map.specs.Map.{Map, faces, has_face, all_sides}
use Rattle.numbered_rows.specs.Rows.{row_with}
use Rattle.cad_map.specs.Rings.{HasWholeRings}
use Rattle.cad_map.specs.Valid.{EachPair}
use Rattle.cad_map.proofs.CallerLemmas.{Contains-first, Contains-later, Contains-cases, Contains-map, Contains-in_part, All-at_each, All-from_each, list_any-Contains, map-Contains, find-Contains, filter-Contains, has_side-Contains, Contains-has_side, is_face-same, is_face-place, front_exchanged, once-from_pairs}
use Rattle.half_table.specs.declared.half.Half.{Half}
use Rattle.half_table.specs.Rows.{HalfRows}
use Rattle.key_lists.specs.Held.{Held, items_at}
use Rattle.cad_laws.specs.Local.{side_by}
use Rattle.map_parts.specs.KeptRings.{IsKept, KeepsRings}
use Rattle.map_parts.specs.Parts.{Parts, rows_of, kept_at, in_face, kept_halves}
use Rattle.map_parts.specs.Fits.{with_rings}
use Rattle.map_parts.specs.Labels.{IsOnRing, AreOnRings, rings_placed, HoldsRings}
use Rattle.map_parts.proofs.ToHalves.{one_part}
use Rattle.map_parts.proofs.StarHalves.{find-some}

-- ---- A list by parts

-- elements that pass one test, and those that pass another which none of the first passes
split-tests : {X : Type 0} (p q : X → Bool) → ((x : X) → p x ≡ true → q x ≡ true → ⊥) → (xs : List X) → IsPermutation (filter p xs ++ filter q xs) (filter (λ x. p x || q x) xs)
split-tests p q apart [] = IsPermutation-refl []
split-tests p q apart (x ∷ xs) = by (p x) (q x) refl refl (split-tests p q apart xs)
  where
    by : (a b : Bool) → p x ≡ a → q x ≡ b → IsPermutation (filter p xs ++ filter q xs) (filter (λ x. p x || q x) xs) → IsPermutation (filter p (x ∷ xs) ++ filter q (x ∷ xs)) (filter (λ x. p x || q x) (x ∷ xs))
    by true true one two rest = absurd (apart x one two)
    by true false one two rest = rw (one, two) (IsPermutation-cons x (filter p xs ++ filter q xs) (filter (λ x. p x || q x) xs) rest)
    by false true one two rest = rw (one, two)
        (IsPermutation-trans (filter p xs ++ x ∷ filter q xs) (x ∷ filter p xs ++ filter q xs) (x ∷ filter (λ x. p x || q x) xs)
        (front_exchanged (filter p xs) (x ∷ []) (filter q xs))
        (IsPermutation-cons x (filter p xs ++ filter q xs) (filter (λ x. p x || q x) xs) rest))
    by false false one two rest = rw (one, two) rest

-- elements by their keys, of which each is one of these
module _ {X : Type 0} (key : X → ℕ) where
  not_among : (k : ℕ) (ks : List ℕ) → AllByRecursion (λ j. k ≢ j) ks → (x : X) → (key x == k) ≡ true → list_any (λ j. key x == j) ks ≡ true → ⊥
  not_among k [] all x is any = true≢false (sym any)
  not_among k (j ∷ ks) all x is any = by (key x == j) refl any (λ rest. not_among k ks all.1 x is rest)
    where
      by : (b : Bool) → (key x == j) ≡ b → list_any (λ j. key x == j) (j ∷ ks) ≡ true → (list_any (λ j. key x == j) ks ≡ true → ⊥) → ⊥
      by true same any again = all.0 (sym (eqb-true (key x) k is) ∙ eqb-true (key x) j same)
      by false other any again = again (rw other at any)

  by_keys : (ks : List ℕ) → EachPair (λ a b. a ≢ b) ks → (xs : List X) → IsPermutation (flat_map (λ k. filter (λ x. key x == k) xs) ks) (filter (λ x. list_any (λ k. key x == k) ks) xs)
  by_keys [] pairs xs = subst (IsPermutation []) (none xs) (IsPermutation-refl [])
    where
      none : (ys : List X) → [] ≡ filter (λ x. false) ys
      none [] = refl
      none (y ∷ ys) = none ys
  by_keys (k ∷ ks) pairs xs =
      IsPermutation-trans (filter (λ x. key x == k) xs ++ flat_map (λ k. filter (λ x. key x == k) xs) ks) (filter (λ x. key x == k) xs ++ filter (λ x. list_any (λ k. key x == k) ks) xs) (filter (λ x. list_any (λ k. key x == k) (k ∷ ks)) xs)
      (IsPermutation-append_right (filter (λ x. key x == k) xs) (flat_map (λ k. filter (λ x. key x == k) xs) ks) (filter (λ x. list_any (λ k. key x == k) ks) xs) (by_keys ks pairs.1 xs))
      (split-tests (λ x. key x == k) (λ x. list_any (λ k. key x == k) ks) (not_among k ks pairs.0) xs)

  filter-each : (test : X → Bool) (xs : List X) → AllByRecursion (λ x. test x ≡ true) xs → filter test xs ≡ xs
  filter-each test [] all = refl
  filter-each test (x ∷ xs) all = rw all.0 (ap (λ l. x ∷ l) (filter-each test xs all.1))

-- ---- Halves on rings

rings-snoc : (m : Map) (rows : HalfRows) (xs : List Half) (bs : List Boundary) (x : Half) (b : Boundary) → AreOnRings m rows xs bs → IsOnRing m rows b x → AreOnRings m rows (xs ++ x ∷ []) (bs ++ b ∷ [])
rings-snoc m rows [] [] x b all on = (on, tt)
rings-snoc m rows [] (c ∷ bs) x b all on = absurd all
rings-snoc m rows (y ∷ xs) [] x b all on = absurd all
rings-snoc m rows (y ∷ xs) (c ∷ bs) x b all on = (all.0, rings-snoc m rows xs bs x b all.1 on)

-- one ring more
pub holds-more : (m : Map) (rows : HalfRows) (old new : Held Half) (bs : List Boundary) (b : Boundary) (x : Half) → HoldsRings m rows old bs → IsOnRing m rows b x
    → items_at new (face_place b.face) ≡ items_at old (face_place b.face) ++ x ∷ [] → ((n : ℕ) → (face_place b.face ≡ n → ⊥) → items_at new n ≡ items_at old n) → HoldsRings m rows new (bs ++ b ∷ [])
holds-more m rows old new bs b x holds on here others n = by (face_place b.face == n) refl
  where
    at : rings_placed n (bs ++ b ∷ []) ≡ rings_placed n bs ++ rings_placed n (b ∷ [])
    at = filter-append (λ (b : Boundary). face_place b.face == n) bs (b ∷ [])

    same_key : (face_place b.face == n) ≡ true → items_at new n ≡ items_at old n ++ x ∷ []
    same_key is = subst (λ (k : ℕ). items_at new k ≡ items_at old k ++ x ∷ []) (eqb-true (face_place b.face) n is) here

    other_key : (face_place b.face == n) ≡ false → items_at new n ≡ items_at old n
    other_key is = others n (λ e. true≢false (sym (nat_eq_equiv.refl n) ∙ ap (λ (k : ℕ). k == n) (sym e) ∙ is))

    none : rings_placed n bs ++ [] ≡ rings_placed n bs
    none = append-none (rings_placed n bs)
      where
        append-none : (l : List Boundary) → l ++ [] ≡ l
        append-none [] = refl
        append-none (c ∷ l) = ap (λ (k : List Boundary). c ∷ k) (append-none l)

    by : (t : Bool) → (face_place b.face == n) ≡ t → AreOnRings m rows (items_at new n) (rings_placed n (bs ++ b ∷ []))
    by true is =
        let one : rings_placed n (b ∷ []) ≡ b ∷ [] = rw is refl in
        subst (λ (l : List Boundary). AreOnRings m rows (items_at new n) l) (sym (at ∙ ap (λ (l : List Boundary). rings_placed n bs ++ l) one))
        (subst (λ (l : List Half). AreOnRings m rows l (rings_placed n bs ++ b ∷ [])) (sym (same_key is)) (rings-snoc m rows (items_at old n) (rings_placed n bs) x b (holds n) on))
    by false is =
        let one : rings_placed n (b ∷ []) ≡ [] = rw is refl in
        subst (λ (l : List Boundary). AreOnRings m rows (items_at new n) l) (sym (at ∙ ap (λ (l : List Boundary). rings_placed n bs ++ l) one ∙ none))
        (subst (λ (l : List Half). AreOnRings m rows l (rings_placed n bs)) (sym (other_key is)) (holds n))

same_place : (f g : Face) → face_place f ≡ face_place g → f ≡ g
same_place f g e = is_face-same f g (is_face-place f g ∙ ap (λ (n : ℕ). n == face_place g) e ∙ nat_eq_equiv.refl (face_place g))

-- a face that is there is among the faces
pub face-known : (d : Parts) (f : Face) → has_face (rows_of d) f ≡ true → Contains (faces (rows_of d)) f
face-known d Outside is = Contains-first Outside (map (λ (p : ParcelRow). Parcel p.number) d.parcels)
face-known d (Parcel n) is = Contains-later Outside (map (λ (p : ParcelRow). Parcel p.number) d.parcels) (Parcel n) (of_row d.parcels is)
  where
    of_row : (ps : List ParcelRow) → is_some (row_with (λ (p : ParcelRow). p.number) n ps) ≡ true → Contains (map (λ (p : ParcelRow). Parcel p.number) ps) (Parcel n)
    of_row [] there = cc
    of_row (p ∷ ps) there = go (p.number == n) refl there (λ more. of_row ps more)
      where
        go : (t : Bool) → (p.number == n) ≡ t → is_some (row_with (λ (p : ParcelRow). p.number) n (p ∷ ps)) ≡ true → (is_some (row_with (λ (p : ParcelRow). p.number) n ps) ≡ true → Contains (map (λ (p : ParcelRow). Parcel p.number) ps) (Parcel n)) → Contains (map (λ (p : ParcelRow). Parcel p.number) (p ∷ ps)) (Parcel n)
        go true is there again = subst (Contains (map (λ (p : ParcelRow). Parcel p.number) (p ∷ ps))) (ap Parcel (eqb-true p.number n is)) (Contains-first (Parcel p.number) (map (λ (p : ParcelRow). Parcel p.number) ps))
        go false is there again = Contains-later (Parcel p.number) (map (λ (p : ParcelRow). Parcel p.number) ps) (Parcel n) (again (rw is at there))

-- ---- The ring that a half is on

module _ (m : Map) (rows : HalfRows) (whole : HasWholeRings m) where
  abbrev pub home_of : Half → Boundary
  home_of h = unwrap_or (find (λ b. has_side (side_by rows h) (sides_of b.ring)) m.boundaries) (bounding Outside [])

  pub home-is : (b : Boundary) (h : Half) → Contains m.boundaries b → IsOnRing m rows b h → home_of h ≡ b
  home-is b h there on = by (find (λ b. has_side (side_by rows h) (sides_of b.ring)) m.boundaries) refl
    where
      by : (o : Option Boundary) → find (λ b. has_side (side_by rows h) (sides_of b.ring)) m.boundaries ≡ o → home_of h ≡ b
      by (Some c) is =
          let found = find-Contains (λ b. has_side (side_by rows h) (sides_of b.ring)) m.boundaries c is in
          ap (λ (o : Option Boundary). unwrap_or o (bounding Outside [])) is
          ∙ one_part (λ (b : Boundary). sides_of b.ring) (side_by rows h) m.boundaries c b (once-from_pairs (all_sides m) whole.once (side_by rows h)) found.0 there (has_side-Contains (side_by rows h) (sides_of c.ring) found.1) on.side
      by None is = absurd (find-some (λ b. has_side (side_by rows h) (sides_of b.ring)) m.boundaries b there (Contains-has_side (side_by rows h) (sides_of b.ring) on.side) is)

-- ---- They are one half of each ring

module _ (d : Parts) (bs : List Boundary) (whole : HasWholeRings (with_rings d bs)) (holds : HoldsRings (with_rings d bs) d.table.rows d.kept bs) where
  abbrev m : Map
  m = with_rings d bs

  abbrev rows : HalfRows
  rows = d.table.rows

  abbrev homes : Half → Boundary
  homes h = home_of m rows whole h

  home-each : (xs : List Half) (cs : List Boundary) → ((c : Boundary) → Contains cs c → Contains bs c) → AreOnRings m rows xs cs → map (λ (x : Half). homes x) xs ≡ cs
  home-each [] [] sub all = refl
  home-each [] (c ∷ cs) sub all = absurd all
  home-each (x ∷ xs) [] sub all = absurd all
  home-each (x ∷ xs) (c ∷ cs) sub all = λ i. home-is m rows whole c x (sub c (Contains-first c cs)) all.0 i ∷ home-each xs cs (λ b h. sub b (Contains-later c cs b h)) all.1 i

  placed-there : (n : ℕ) (c : Boundary) → Contains (rings_placed n bs) c → Contains bs c
  placed-there n c h = (filter-Contains (λ (b : Boundary). face_place b.face == n) bs c h).0

  homes-face : (f : Face) → map (λ (k : Face × Half). homes k.1) (in_face d f) ≡ rings_placed (face_place f) bs
  homes-face f = fused (items_at d.kept (face_place f)) ∙ home-each (items_at d.kept (face_place f)) (rings_placed (face_place f) bs) (placed-there (face_place f)) (holds (face_place f))
    where
      fused : (xs : List Half) → map (λ (k : Face × Half). homes k.1) (map (λ h. (f, h)) xs) ≡ map (λ (x : Half). homes x) xs
      fused [] = refl
      fused (x ∷ xs) = ap (λ (l : List Boundary). homes x ∷ l) (fused xs)

  map-append : {A B : Type 0} (g : A → B) (xs ys : List A) → map g (xs ++ ys) ≡ map g xs ++ map g ys
  map-append g [] ys = refl
  map-append g (x ∷ xs) ys = ap (λ l. g x ∷ l) (map-append g xs ys)

  homes-faces : (fs : List Face) → map (λ (k : Face × Half). homes k.1) (flat_map (in_face d) fs) ≡ flat_map (λ n. rings_placed n bs) (map face_place fs)
  homes-faces [] = refl
  homes-faces (f ∷ fs) = map-append (λ (k : Face × Half). homes k.1) (in_face d f) (flat_map (in_face d) fs) ∙ (λ i. homes-face f i ++ homes-faces fs i)

  -- ---- Places of faces

  places-pairs : (ps : List ParcelRow) → EachPair (λ a b. a ≢ b) (map (λ (p : ParcelRow). p.number) ps) → EachPair (λ a b. a ≢ b) (map face_place (map (λ (p : ParcelRow). Parcel p.number) ps))
  places-pairs [] pairs = tt
  places-pairs (p ∷ ps) pairs = (later ps pairs.0, places-pairs ps pairs.1)
    where
      later : (qs : List ParcelRow) → AllByRecursion (λ n. p.number ≢ n) (map (λ (p : ParcelRow). p.number) qs) → AllByRecursion (λ n. suc p.number ≢ n) (map face_place (map (λ (p : ParcelRow). Parcel p.number) qs))
      later [] all = tt
      later (q ∷ qs) all = ((λ e. let f : p.number ≡ q.number = cc in all.0 f), later qs all.1)

  zero-apart : (ps : List ParcelRow) → AllByRecursion (λ n. 0 ≢ n) (map face_place (map (λ (p : ParcelRow). Parcel p.number) ps))
  zero-apart [] = tt
  zero-apart (p ∷ ps) = ((λ e. cc), zero-apart ps)

  abbrev keys : List ℕ
  keys = map face_place (faces (rows_of d))

  keys-pairs : EachPair (λ a b. a ≢ b) keys
  keys-pairs = (zero-apart d.parcels, places-pairs d.parcels whole.v1.parcels.distinct)

  ring-face : (b : Boundary) → Contains bs b → has_face (rows_of d) b.face ≡ true
  ring-face b there = All-at_each (λ b. has_face (rows_of d) b.face ≡ true) bs b whole.v1.faces_of_rings there

  each-among : AllByRecursion (λ b. list_any (λ k. face_place b.face == k) keys ≡ true) bs
  each-among = All-from_each (λ (b : Boundary). list_any (λ k. face_place b.face == k) keys ≡ true) bs (λ b there.
      list_any-Contains (λ k. face_place b.face == k) keys (face_place b.face) (Contains-map face_place (faces (rows_of d)) b.face (face-known d b.face (ring-face b there))) (nat_eq_equiv.refl (face_place b.face)))

  all-homes : IsPermutation (map (λ (k : Face × Half). homes k.1) (kept_halves d)) bs
  all-homes =
      subst (λ (l : List Boundary). IsPermutation l bs) (sym (homes-faces (faces (rows_of d))))
      (subst (IsPermutation (flat_map (λ n. rings_placed n bs) keys)) (filter-each (λ (b : Boundary). face_place b.face) (λ b. list_any (λ k. face_place b.face == k) keys) bs each-among)
      (by_keys (λ (b : Boundary). face_place b.face) keys keys-pairs bs))

  -- ---- Half by half

  on-one : (xs : List Half) (cs : List Boundary) (x : Half) → AreOnRings m rows xs cs → Contains xs x → (c : Boundary) × Contains cs c × IsOnRing m rows c x
  on-one [] cs x all h = let low = h.1 in absurd (omega arith)
  on-one (y ∷ xs) [] x all h = absurd all
  on-one (y ∷ xs) (c ∷ cs) x all h = by (Contains-cases y xs x h) (λ later. on-one xs cs x all.1 later)
    where
      by : (y ≡ x) ⊎ Contains xs x → (Contains xs x → (c : Boundary) × Contains cs c × IsOnRing m rows c x) → (b : Boundary) × Contains (c ∷ cs) b × IsOnRing m rows b x
      by (inl same) again = (c, Contains-first c cs, subst (λ (z : Half). IsOnRing m rows c z) same all.0)
      by (inr later) again = let it = again later in (it.0, Contains-later c cs it.0 it.1, it.2)

  is-kept : (f : Face) (x : Half) → Contains (items_at d.kept (face_place f)) x → IsKept m rows homes (f, x)
  is-kept f x among =
      let it = on-one (items_at d.kept (face_place f)) (rings_placed (face_place f) bs) x (holds (face_place f)) among in
      let at = filter-Contains (λ (b : Boundary). face_place b.face == face_place f) bs it.0 it.1 in
      let home = home-is m rows whole it.0 x at.0 it.2 in
      record {
        is_shown = it.2.shown;
        there = subst (Contains bs) (sym home) at.0;
        has = subst (λ (b : Boundary). Contains (sides_of b.ring) (side_by rows x)) (sym home) it.2.side;
        face = ap (λ (b : Boundary). b.face) home ∙ same_place it.0.face f (eqb-true (face_place it.0.face) (face_place f) at.1);
      }

  each-kept : AllByRecursion (IsKept m rows homes) (kept_halves d)
  each-kept = All-from_each (IsKept m rows homes) (kept_halves d) (λ k among.
      let part = Contains-in_part (in_face d) (faces (rows_of d)) k among in
      let one = map-Contains (λ (h : Half). (part.0, h)) (kept_at d part.0) k part.2 in
      subst (IsKept m rows homes) one.2 (is-kept part.0 one.0 one.1))

  pub keeps-rings : KeepsRings m rows (kept_halves d)
  keeps-rings = record { homes = homes; each = each-kept; all = all-homes }

  pub none-kept : (f : Face) → has_face (rows_of d) f ≡ false → items_at d.kept (face_place f) ≡ []
  none-kept f none = by (items_at d.kept (face_place f)) refl
    where
      by : (xs : List Half) → items_at d.kept (face_place f) ≡ xs → items_at d.kept (face_place f) ≡ []
      by [] is = is
      by (x ∷ xs) is =
          let it = on-one (items_at d.kept (face_place f)) (rings_placed (face_place f) bs) x (holds (face_place f)) (subst (λ (l : List Half). Contains l x) (sym is) (Contains-first x xs)) in
          let at = filter-Contains (λ (b : Boundary). face_place b.face == face_place f) bs it.0 it.1 in
          absurd (true≢false (sym (ring-face it.0 at.0) ∙ ap (has_face (rows_of d)) (same_place it.0.face f (eqb-true (face_place it.0.face) (face_place f) at.1)) ∙ none))

-- The rings of the faces, one for each half that is kept.
use Rattle.std.proofs.Common.{◌≡◌, ◌≢◌, ℕ, ◌==◌, Bool, true, false, List, [], ◌∷◌, ◌++◌, ◌<◌, ◌≤◌, length, map, refl, sym, ap, ◌∙◌, subst, arith, Option, Some, None, slice_get}
use Rattle.std.specs.Prelude.{IsSome, flat_map, is_some, option_map, option_and_then, if◌then◌else◌}
use Rattle.std.specs.List.{AllByRecursion, Contains}
use Rattle.std.proofs.lemmas.Bool.{eqb-true}
use Rattle.std.proofs.lemmas.Cmp.{nat_eq_equiv}
use Rattle.std.proofs.lemmas.List.{append-nil, length-map}
use Rattle.std.proofs.lemmas.Option.{slice_get-map, slice_get-get_or, same_Some}
use Rattle.cad_rows.specs.declared.names.Face.{Face}
use Rattle.cad_rows.specs.declared.names.Face.TheVariants.{Outside, Parcel}
use Rattle.cad_rows.specs.declared.rows.ParcelRow.{ParcelRow}
use Rattle.cad_rings.specs.Cycle.{Ring, Side}
use Rattle.cad_map.specs.declared.boundary.Boundary.{Boundary}
use Rattle.cad_map.specs.Boundaries.{is_face}
use Rattle.cad_map.specs.Map.{faces, rings_at, has_face, has_parcel}
use Rattle.cad_map.specs.Rings.{HasWholeRings, ring_at}
use Rattle.numbered_rows.specs.Rows.{row_with}
use Rattle.cad_map.specs.Valid.{EachPair}
use Rattle.cad_map.specs.Walk.{first_side}
use Rattle.cad_map.proofs.CallerLemmas.{Contains-first, Contains-later, Contains-map, Contains-flat_map, Contains-at, begins_with, has_first, ring-few}
use Rattle.half_table.specs.declared.half.Half.{Half}
use Rattle.half_table.specs.Half.{twin}
use Rattle.half_table.specs.Rows.{HalfRows, has, next, origin_of, cycle}
use Rattle.map_parts.specs.KeptRings.{kept_ring}
use Rattle.map_parts.specs.Parts.{Parts, FitTogether, rows_of, map_of, in_face, kept_at, kept_halves, rings_kept}
use Rattle.map_parts.proofs.CycleRings.{cycle-sides}
use Rattle.map_parts.proofs.PartsRings.{in_table, other, kept-two, rings-two}

rings_at-append : (f : Face) (bs cs : List Boundary) → rings_at f (bs ++ cs) ≡ rings_at f bs ++ rings_at f cs
rings_at-append f [] cs = refl
rings_at-append f (b ∷ bs) cs = by (is_face f b.face) refl (rings_at-append f bs cs)
  where
    by : (t : Bool) → is_face f b.face ≡ t → rings_at f (bs ++ cs) ≡ rings_at f bs ++ rings_at f cs → rings_at f (b ∷ bs ++ cs) ≡ rings_at f (b ∷ bs) ++ rings_at f cs
    by true is rest = rw is (ap (λ (l : List Ring). b.ring ∷ l) rest)
    by false is rest = rw is rest

map-append : {A B : Type 0} (g : A → B) (xs ys : List A) → map g (xs ++ ys) ≡ map g xs ++ map g ys
map-append g [] ys = refl
map-append g (x ∷ xs) ys = ap (λ l. g x ∷ l) (map-append g xs ys)

module _ (d : Parts) where
  abbrev rows : HalfRows
  rows = d.table.rows

  abbrev ring_from : Half → Ring
  ring_from h = map (origin_of rows) (cycle rows h)

  -- the rings of one face, if it is that one
  abbrev part : Face → Face → List Ring
  part f g = if is_face f g then map ring_from (kept_at d g) else []

  rings-part : (f g : Face) (hs : List Half) → rings_at f (map (kept_ring rows) (map (λ h. (g, h)) hs)) ≡ (if is_face f g then map ring_from hs else [])
  rings-part f g [] = by (is_face f g)
    where
      none : List Ring
      none = []

      by : (t : Bool) → none ≡ (if t then none else none)
      by true = refl
      by false = refl
  rings-part f g (h ∷ hs) = by (is_face f g) refl (rings-part f g hs)
    where
      by : (t : Bool) → is_face f g ≡ t → rings_at f (map (kept_ring rows) (map (λ h. (g, h)) hs)) ≡ (if is_face f g then map ring_from hs else []) → rings_at f (map (kept_ring rows) (map (λ h. (g, h)) (h ∷ hs))) ≡ (if is_face f g then map ring_from (h ∷ hs) else [])
      by true is rest = rw is (ap (λ (l : List Ring). ring_from h ∷ l) (rw is at rest))
      by false is rest = rw is (rw is at rest)

  rings-parts : (f : Face) (fs : List Face) → rings_at f (map (kept_ring rows) (flat_map (in_face d) fs)) ≡ flat_map (part f) fs
  rings-parts f [] = refl
  rings-parts f (g ∷ fs) =
      ap (rings_at f) (map-append (kept_ring rows) (in_face d g) (flat_map (in_face d) fs))
      ∙ rings_at-append f (map (kept_ring rows) (in_face d g)) (map (kept_ring rows) (flat_map (in_face d) fs))
      ∙ (λ i. rings-part f g (kept_at d g) i ++ rings-parts f fs i)

  -- of parcels with distinct numbers only the one counts
  no_part : (n : ℕ) (ps : List ParcelRow) → AllByRecursion (λ m. n ≢ m) (map (λ (p : ParcelRow). p.number) ps) → flat_map (part (Parcel n)) (map (λ (p : ParcelRow). Parcel p.number) ps) ≡ []
  no_part n [] all = refl
  no_part n (p ∷ ps) all = by (n == p.number) refl (no_part n ps all.1)
    where
      by : (t : Bool) → (n == p.number) ≡ t → flat_map (part (Parcel n)) (map (λ (p : ParcelRow). Parcel p.number) ps) ≡ [] → flat_map (part (Parcel n)) (map (λ (p : ParcelRow). Parcel p.number) (p ∷ ps)) ≡ []
      by true is rest = absurd (all.0 (eqb-true n p.number is))
      by false is rest = rw is rest

  one_part : (n : ℕ) (ps : List ParcelRow) → EachPair (λ a b. a ≢ b) (map (λ (p : ParcelRow). p.number) ps) → flat_map (part (Parcel n)) (map (λ (p : ParcelRow). Parcel p.number) ps) ≡ (if is_some (row_with (λ (p : ParcelRow). p.number) n ps) then map ring_from (kept_at d (Parcel n)) else [])
  one_part n [] pairs = refl
  one_part n (p ∷ ps) pairs = by (n == p.number) refl (one_part n ps pairs.1)
    where
      turned : (t : Bool) → (n == p.number) ≡ t → (p.number == n) ≡ t
      turned t is = sym (nat_eq_equiv.symm n p.number) ∙ is

      by : (t : Bool) → (n == p.number) ≡ t → flat_map (part (Parcel n)) (map (λ (p : ParcelRow). Parcel p.number) ps) ≡ (if is_some (row_with (λ (p : ParcelRow). p.number) n ps) then map ring_from (kept_at d (Parcel n)) else [])
          → flat_map (part (Parcel n)) (map (λ (p : ParcelRow). Parcel p.number) (p ∷ ps)) ≡ (if is_some (row_with (λ (p : ParcelRow). p.number) n (p ∷ ps)) then map ring_from (kept_at d (Parcel n)) else [])
      by true is rest =
          let same = eqb-true n p.number is in
          let back = turned true is in
          let none = no_part n ps (subst (λ (m : ℕ). AllByRecursion (λ k. m ≢ k) (map (λ (p : ParcelRow). p.number) ps)) (sym same) pairs.0) in
          rw (is, back, none) (append-nil (map ring_from (kept_at d (Parcel p.number))) ∙ ap (λ (m : ℕ). map ring_from (kept_at d (Parcel m))) (sym same))
      by false is rest = let back = turned false is in rw (is, back) rest

  module _ (is : FitTogether d) where
    -- the rings of a face are those of the halves kept for it
    pub rings-face : (f : Face) → rings_at f (rings_kept d) ≡ map ring_from (kept_at d f)
    rings-face Outside = rings-parts Outside (faces (rows_of d)) ∙ ap (λ (l : List Ring). map ring_from (kept_at d Outside) ++ l) (none d.parcels) ∙ append-nil (map ring_from (kept_at d Outside))
      where
        none : (ps : List ParcelRow) → flat_map (part Outside) (map (λ (p : ParcelRow). Parcel p.number) ps) ≡ []
        none [] = refl
        none (p ∷ ps) = none ps
    rings-face (Parcel n) = rings-parts (Parcel n) (faces (rows_of d)) ∙ one_part n d.parcels is.parcel_numbers ∙ by (has_parcel (rows_of d) n) refl
      where
        by : (t : Bool) → has_parcel (rows_of d) n ≡ t → (if t then map ring_from (kept_at d (Parcel n)) else []) ≡ map ring_from (kept_at d (Parcel n))
        by true there = refl
        by false there = sym (ap (map ring_from) (is.no_face (Parcel n) there))

    -- a half that is kept for a face is one of those of all faces
    pub in_kept : (f : Face) (h : Half) → Contains (kept_at d f) h → Contains (kept_halves d) (f, h)
    in_kept f h among = Contains-flat_map (in_face d) (faces (rows_of d)) f (f, h) (known f (has_face (rows_of d) f) refl among) (Contains-map (λ (h : Half). (f, h)) (kept_at d f) h among)
      where
        of_row : (n : ℕ) (ps : List ParcelRow) → is_some (row_with (λ (p : ParcelRow). p.number) n ps) ≡ true → Contains (map (λ (p : ParcelRow). Parcel p.number) ps) (Parcel n)
        of_row n [] there = cc
        of_row n (p ∷ ps) there = go (p.number == n) refl there (λ more. of_row n ps more)
          where
            go : (t : Bool) → (p.number == n) ≡ t → is_some (row_with (λ (p : ParcelRow). p.number) n (p ∷ ps)) ≡ true → (is_some (row_with (λ (p : ParcelRow). p.number) n ps) ≡ true → Contains (map (λ (p : ParcelRow). Parcel p.number) ps) (Parcel n)) → Contains (map (λ (p : ParcelRow). Parcel p.number) (p ∷ ps)) (Parcel n)
            go true is there again = subst (Contains (map (λ (p : ParcelRow). Parcel p.number) (p ∷ ps))) (ap Parcel (eqb-true p.number n is)) (Contains-first (Parcel p.number) (map (λ (p : ParcelRow). Parcel p.number) ps))
            go false is there again = Contains-later (Parcel p.number) (map (λ (p : ParcelRow). Parcel p.number) ps) (Parcel n) (again (rw is at there))

        known : (f : Face) (t : Bool) → has_face (rows_of d) f ≡ t → Contains (kept_at d f) h → Contains (faces (rows_of d)) f
        known Outside t there among = Contains-first Outside (map (λ (p : ParcelRow). Parcel p.number) d.parcels)
        known (Parcel n) true there among = Contains-later Outside (map (λ (p : ParcelRow). Parcel p.number) d.parcels) (Parcel n) (of_row n d.parcels there)
        known (Parcel n) false there among =
            let none : Contains [] h = subst (λ (l : List Half). Contains l h) (is.no_face (Parcel n) there) among in
            let low = none.1 in absurd (omega arith)

    -- the first side of the ring of a kept half is the half's
    pub first-side : (k : Face × Half) → Contains (kept_halves d) k → first_side (ring_from k.1) ≡ Some (origin_of rows k.1, origin_of rows (twin k.1))
    first-side k kept =
        let shown = is.shown k kept in
        let two = kept-two d is k kept in
        let first = has_first (ring_from k.1) two in
        let begun = begins_with first.0 (ring_from k.1) first.1 in
        let sides = cycle-sides rows is.linked k.1 (in_table d is k.1 shown) (other d is k.1 shown) in
        let e : first.0 ∷ begun.0 ≡ map (λ g. (origin_of rows g, origin_of rows (next rows g))) (cycle rows k.1) = sym begun.1 ∙ sides in
        let same : first.0 ≡ (origin_of rows k.1, origin_of rows (next rows k.1)) = cc in
        first.1 ∙ ap Some (same ∙ (λ i. (origin_of rows k.1, is.meets k.1 shown i)))

    abbrev ends : Half → Side
    ends h = (origin_of rows h, origin_of rows (twin h))

    -- what is told of the ring at a place
    pub ring-told : (f : Face) (place : ℕ) → option_and_then first_side (slice_get (rings_at f (rings_kept d)) place) ≡ option_map ends (slice_get (kept_at d f) place)
    ring-told f place =
        ap (λ (l : List Ring). option_and_then first_side (slice_get l place)) (rings-face f)
        ∙ ap (option_and_then first_side) (slice_get-map ring_from (kept_at d f) place)
        ∙ by (slice_get (kept_at d f) place) refl
      where
        by : (o : Option Half) → slice_get (kept_at d f) place ≡ o → option_and_then first_side (option_map ring_from o) ≡ option_map ends o
        by None is_at = refl
        by (Some h) is_at = first-side (f, h) (in_kept f h (Contains-at (kept_at d f) place h is_at))

    -- a half that is kept is in the table
    pub kept-there : (f : Face) (place : ℕ) (h : Half) → slice_get (kept_at d f) place ≡ Some h → has rows h ≡ true
    kept-there f place h some = in_table d is h (is.shown (f, h) (in_kept f h (Contains-at (kept_at d f) place h some)))

    -- the ring at a place is that of the half there
    pub ring-is : (f : Face) (place : ℕ) → place < length (rings_at f (rings_kept d)) → (h : Half) → slice_get (kept_at d f) place ≡ Some h → ring_from h ≡ ring_at (rings_kept d) f place
    ring-is f place within h there = same_Some _ _ (
        ap (option_map ring_from) (sym there) ∙ sym (slice_get-map ring_from (kept_at d f) place)
        ∙ ap (λ (l : List Ring). slice_get l place) (sym (rings-face f))
        ∙ slice_get-get_or (rings_at f (rings_kept d)) place [] within)

    -- and there is one
    pub half-kept : (f : Face) (place : ℕ) → place < length (rings_at f (rings_kept d)) → IsSome (slice_get (kept_at d f) place)
    half-kept f place within = some (slice_get (kept_at d f) place)
        (sym (slice_get-map ring_from (kept_at d f) place) ∙ ap (λ (l : List Ring). slice_get l place) (sym (rings-face f)) ∙ slice_get-get_or (rings_at f (rings_kept d)) place [] within)
      where
        some : (o : Option Half) {ring : Ring} → option_map ring_from o ≡ Some ring → IsSome o
        some None e = cc
        some (Some h) e = refl

    -- and it has few points where the map's rings are whole
    pub ring-short : HasWholeRings (map_of d) → (f : Face) (place : ℕ) → place < length (rings_at f (rings_kept d)) → (h : Half) → slice_get (kept_at d f) place ≡ Some h → length (cycle rows h) ≤ 400000
    ring-short whole f place within h there =
        let few = ring-few (map_of d) (rings_kept d) whole refl (rings-two d is) f place within in
        let same = ap length (ring-is f place within h there) in
        let many = length-map (cycle rows h) (origin_of rows) in
        omega arith

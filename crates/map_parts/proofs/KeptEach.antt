-- One half kept of each ring, face by face.
use Rattle.std.proofs.Common.{◌≡◌, ◌≢◌, ◌⊎◌, inl, inr, ℕ, Bool, true, false, ◌&&◌, List, [], ◌∷◌, ◌++◌, map, find, refl, sym, ap, ◌∙◌, subst, Option, Some, None, true≢false, ◌==◌, arith}
use Rattle.std.specs.Prelude.{IsPermutation, flat_map, unwrap_or}
use Rattle.std.specs.List.{AllByRecursion, Contains}
use Rattle.std.specs.Str.{bytes_eq}
use Rattle.std.proofs.lemmas.List.{map-append}
use Rattle.std.proofs.lemmas.Slice.Eq.{bytes_eq-Decides}
use Rattle.std.proofs.lemmas.List.Sorted.{IsPermutation-refl, IsPermutation-trans, IsPermutation-cons, IsPermutation-middle}
use Rattle.cad_rows.specs.declared.names.Face.{Face}
use Rattle.cad_rows.specs.declared.names.Face.TheVariants.{Outside, Parcel}
use Rattle.cad_rows.specs.declared.rows.ParcelRow.{ParcelRow}
use Rattle.cad_rings.specs.Cycle.{has_side, sides_of}
use Rattle.cad_map.specs.declared.boundary.Boundary.{Boundary}
use Rattle.cad_map.specs.Boundaries.{bounding, is_face, face_place}
use Rattle.cad_map.specs.Map.{Map, faces, has_face, all_sides}
use Rattle.cad_map.specs.Rings.{HasWholeRings}
use Rattle.cad_map.specs.Valid.{EachPair}
use Rattle.cad_map.proofs.CallerLemmas.{Contains-first, Contains-later, Contains-cases, Contains-map, Contains-in_part, Contains-flat_map, All-at_each, All-from_each, map-Contains, find-Contains, Contains-has_side, has_side-Contains, is_face-same, is_face-refl, is_face-place, once-from_pairs}
use Rattle.std.proofs.lemmas.Cmp.{nat_eq_equiv}
use Rattle.half_table.specs.declared.half.Half.{Half}
use Rattle.half_table.specs.Rows.{HalfRows}
use Rattle.key_lists.specs.Held.{Held, items_at}
use Rattle.cad_laws.specs.Local.{side_by}
use Rattle.map_parts.specs.KeptRings.{IsKept, KeepsRings}
use Rattle.map_parts.specs.Parts.{Parts, rows_of, in_face, kept_halves}
use Rattle.map_parts.specs.Fits.{FitRings, with_rings}
use Rattle.map_parts.specs.Labels.{IsOnRing}
use Rattle.map_parts.specs.Handing.{home_of, halves_kept, KeepsEach}
use Rattle.map_parts.proofs.ToHalves.{one_part}
use Rattle.map_parts.proofs.StarHalves.{find-some}
use Rattle.map_parts.proofs.KeptHalves.{face-known}
use Rattle.map_parts.proofs.CycleRings.{map-map}

-- ---- Boundaries and faces that are the same

pub is_boundary : Boundary → Boundary → Bool
is_boundary b c = is_face b.face c.face && bytes_eq b.ring c.ring

pub boundary-same : (b c : Boundary) → is_boundary b c ≡ true → b ≡ c
unfolding is_boundary
boundary-same b c is = by (is_face b.face c.face) (bytes_eq b.ring c.ring) refl refl is
  where
    by : (s t : Bool) → is_face b.face c.face ≡ s → bytes_eq b.ring c.ring ≡ t → (s && t) ≡ true → b ≡ c
    by true true one two all = λ i. bounding (is_face-same b.face c.face one i) ((bytes_eq-Decides b.ring c.ring).0 two i)
    by true false one two all = absurd (true≢false (sym all))
    by false t one two all = absurd (true≢false (sym all))

pub boundary-self : (b : Boundary) → is_boundary b b ≡ true
unfolding is_boundary
boundary-self b = λ i. is_face-refl b.face i && (bytes_eq-Decides b.ring b.ring).1 refl i

pub place-same : (f g : Face) → face_place f ≡ face_place g → f ≡ g
place-same f g e = is_face-same f g (is_face-place f g ∙ ap (λ (n : ℕ). n == face_place g) e ∙ nat_eq_equiv.refl (face_place g))

pub cases_face : (f g : Face) → (f ≡ g) ⊎ (f ≢ g)
cases_face f g = by (is_face f g) refl
  where
    by : (t : Bool) → is_face f g ≡ t → (f ≡ g) ⊎ (f ≢ g)
    by true is = inl (is_face-same f g is)
    by false is = inr (λ e. true≢false (sym (is_face-refl f) ∙ ap (is_face f) e ∙ is))

-- no face of a map stands twice
pub faces-once : (m : Map) → HasWholeRings m → EachPair (λ a b. a ≢ b) (faces m)
faces-once m whole = (outside m.parcels, parcels m.parcels whole.v1.parcels.distinct)
  where
    outside : (ps : List ParcelRow) → AllByRecursion (λ f. Outside ≢ f) (map (λ (p : ParcelRow). Parcel p.number) ps)
    outside [] = tt
    outside (p ∷ ps) = ((λ e. cc), outside ps)

    later : (n : ℕ) (ps : List ParcelRow) → AllByRecursion (λ k. n ≢ k) (map (λ (p : ParcelRow). p.number) ps) → AllByRecursion (λ f. Parcel n ≢ f) (map (λ (p : ParcelRow). Parcel p.number) ps)
    later n [] all = tt
    later n (p ∷ ps) all = ((λ e. let same : n ≡ p.number = cc in all.0 same), later n ps all.1)

    parcels : (ps : List ParcelRow) → EachPair (λ a b. a ≢ b) (map (λ (p : ParcelRow). p.number) ps) → EachPair (λ a b. a ≢ b) (map (λ (p : ParcelRow). Parcel p.number) ps)
    parcels [] each = tt
    parcels (p ∷ ps) each = (later p.number ps each.0, parcels ps each.1)

-- ---- Homes

module _ (m : Map) (whole : HasWholeRings m) (rows : HalfRows) where
  pub home-is : (b : Boundary) → Contains m.boundaries b → (h : Half) → IsOnRing m rows b h → home_of m rows h ≡ b
  home-is b there h on = by (find (λ b. has_side (side_by rows h) (sides_of b.ring)) m.boundaries) refl
    where
      by : (o : Option Boundary) → find (λ b. has_side (side_by rows h) (sides_of b.ring)) m.boundaries ≡ o → home_of m rows h ≡ b
      by (Some c) is =
          let found = find-Contains (λ b. has_side (side_by rows h) (sides_of b.ring)) m.boundaries c is in
          ap (λ (o : Option Boundary). unwrap_or o (bounding Outside [])) is
          ∙ one_part (λ (b : Boundary). sides_of b.ring) (side_by rows h) m.boundaries c b (once-from_pairs (all_sides m) whole.once (side_by rows h)) found.0 there
          (has_side-Contains (side_by rows h) (sides_of c.ring) found.1) on.side
      by None is = absurd (find-some (λ b. has_side (side_by rows h) (sides_of b.ring)) m.boundaries b there (Contains-has_side (side_by rows h) (sides_of b.ring) on.side) is)

pub map-cong : {X Y : Type 0} (f g : X → Y) (xs : List X) → ((x : X) → Contains xs x → f x ≡ g x) → map f xs ≡ map g xs
map-cong f g [] same = refl
map-cong f g (x ∷ xs) same = λ i. same x (Contains-first x xs) i ∷ map-cong f g xs (λ y there. same y (Contains-later x xs y there)) i

-- a half with this ring, and the halves beside it
pub pick : (f : Half → Boundary) (b : Boundary) (xs : List Half) → Contains (map f xs) b → (x : Half) × (rest : List Half) × IsPermutation xs (x ∷ rest) × (f x ≡ b)
pick f b [] there = let low = there.1 in absurd (omega (arith, low))
pick f b (x ∷ xs) there = elim (Contains-cases (f x) (map f xs) b there) [
  | inl is ↦ (x, xs, IsPermutation-refl (x ∷ xs), is)
  | inr later ↦
      let it = pick f b xs later in
      (it.0, x ∷ it.1, IsPermutation-trans (x ∷ xs) (x ∷ it.0 ∷ it.1) (it.0 ∷ x ∷ it.1) (IsPermutation-cons x xs (it.0 ∷ it.1) it.2) (IsPermutation-middle (x ∷ []) it.0 it.1), it.3)
]

-- where each half under a face is on a ring of that face, there are none under what is no face
pub none-kept : (m : Map) (whole : HasWholeRings m) (rows : HalfRows) (held : Held Half)
    → ((f : Face) (h : Half) → Contains (items_at held (face_place f)) h → (b : Boundary) × Contains m.boundaries b × IsOnRing m rows b h × (b.face ≡ f))
    → (f : Face) → has_face m f ≡ false → items_at held (face_place f) ≡ []
none-kept m whole rows held on f nay = by (items_at held (face_place f)) refl
  where
    by : (xs : List Half) → items_at held (face_place f) ≡ xs → items_at held (face_place f) ≡ []
    by [] is = is
    by (x ∷ xs) is =
        let at = on f x (subst (λ (l : List Half). Contains l x) (sym is) (Contains-first x xs)) in
        let there = All-at_each (λ b. has_face m b.face ≡ true) m.boundaries at.0 whole.v1.faces_of_rings at.1 in
        absurd (true≢false (sym there ∙ ap (has_face m) at.3 ∙ nay))

-- ---- The two ways to say it

module _ (d : Parts) (bs : List Boundary) (whole : HasWholeRings (with_rings d bs)) where
  abbrev m : Map
  m = with_rings d bs

  abbrev rows : HalfRows
  rows = d.table.rows

  -- the halves that are kept, without their faces
  halves-faces : (fs : List Face) → map (λ (k : Face × Half). k.1) (flat_map (in_face d) fs) ≡ flat_map (λ f. items_at d.kept (face_place f)) fs
  halves-faces [] = refl
  halves-faces (f ∷ fs) =
      map-append (λ (k : Face × Half). k.1) (in_face d f) (flat_map (in_face d) fs) ∙ (λ i. seconds (items_at d.kept (face_place f)) i ++ halves-faces fs i)
    where
      seconds : (xs : List Half) → map (λ (k : Face × Half). k.1) (map (λ h. (f, h)) xs) ≡ xs
      seconds [] = refl
      seconds (x ∷ xs) = ap (λ (l : List Half). x ∷ l) (seconds xs)

  pub to-each : FitRings d bs → KeepsEach m rows d.kept
  to-each fits = record {
    on = on_one;
    all = subst (λ (l : List Boundary). IsPermutation l bs) all_homes fits.kept.all;
    none = fits.no_face;
  }
    where
      is-kept : (k : Face × Half) → Contains (kept_halves d) k → IsKept m rows fits.kept.homes k
      is-kept k there = All-at_each (IsKept m rows fits.kept.homes) (kept_halves d) k fits.kept.each there

      on_one : (f : Face) (h : Half) → Contains (items_at d.kept (face_place f)) h → (b : Boundary) × Contains bs b × IsOnRing m rows b h × (b.face ≡ f)
      on_one f h among = by (has_face (rows_of d) f) refl
        where
          by : (t : Bool) → has_face (rows_of d) f ≡ t → (b : Boundary) × Contains bs b × IsOnRing m rows b h × (b.face ≡ f)
          by true is =
              let it = is-kept (f, h) (Contains-flat_map (in_face d) (faces (rows_of d)) f (f, h) (face-known d f is) (Contains-map (λ h. (f, h)) (items_at d.kept (face_place f)) h among)) in
              (fits.kept.homes h, it.there, record { shown = it.is_shown; side = it.has }, it.face)
          by false is = let low = (subst (λ (l : List Half). Contains l h) (fits.no_face f is) among).1 in absurd (omega (arith, low))

      all_homes : map (λ (k : Face × Half). fits.kept.homes k.1) (kept_halves d) ≡ map (home_of m rows) (halves_kept m d.kept)
      all_homes =
          map-cong (λ (k : Face × Half). fits.kept.homes k.1) (λ (k : Face × Half). home_of m rows k.1) (kept_halves d)
          (λ k there. let it = is-kept k there in sym (home-is m whole rows (fits.kept.homes k.1) it.there k.1 (record { shown = it.is_shown; side = it.has })))
          ∙ sym (map-map (home_of m rows) (λ (k : Face × Half). k.1) (kept_halves d)) ∙ ap (map (home_of m rows)) (halves-faces (faces (rows_of d)))

  pub from-each : KeepsEach m rows d.kept → KeepsRings m rows (kept_halves d)
  from-each it = record {
    homes = home_of m rows;
    each = All-from_each (IsKept m rows (home_of m rows)) (kept_halves d) (λ k there.
        let part = Contains-in_part (in_face d) (faces (rows_of d)) k there in
        let one = map-Contains (λ (h : Half). (part.0, h)) (items_at d.kept (face_place part.0)) k part.2 in
        let at = it.on part.0 one.0 one.1 in
        let home = home-is m whole rows at.0 at.1 one.0 at.2 in
        subst (IsKept m rows (home_of m rows)) one.2 (record {
          is_shown = at.2.shown;
          there = subst (Contains bs) (sym home) at.1;
          has = subst (λ (b : Boundary). Contains (sides_of b.ring) (side_by rows one.0)) (sym home) at.2.side;
          face = ap (λ (b : Boundary). b.face) home ∙ at.3;
        }));
    all =
        subst (λ (l : List Boundary). IsPermutation l bs)
        (ap (map (home_of m rows)) (sym (halves-faces (faces (rows_of d)))) ∙ map-map (home_of m rows) (λ (k : Face × Half). k.1) (kept_halves d)) it.all;
  }

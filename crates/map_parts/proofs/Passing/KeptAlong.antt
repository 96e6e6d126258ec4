-- One half of each ring is kept, and stays so where rings give way to others.
use Rattle.std.proofs.Common.{◌≡◌, ◌<◌, ℕ, refl, sym, ap, subst, ◌∙◌, List, [], ◌∷◌, length, map}
use Rattle.std.specs.Prelude.{IsPermutation, ⊤}
use Rattle.std.specs.List.{AllByRecursion, Contains, swap}
use Rattle.std.proofs.lemmas.List.{length-map}
use Rattle.std.proofs.lemmas.List.Sorted.{IsPermutation-refl, IsPermutation-sym, IsPermutation-trans, IsPermutation-map, IsPermutation-swap, IsPermutation-keeps, Contains-permutation}
use Rattle.indexmap.proofs.ReorderLemmas.{map-swap}
use Rattle.cad_rows.specs.declared.names.Face.{Face}
use Rattle.cad_rings.specs.Cycle.{sides_of}
use Rattle.cad_rings.specs.Surgery.{without}
use Rattle.cad_map.specs.declared.boundary.Boundary.{Boundary}
use Rattle.cad_map.specs.Boundaries.{bounding, canonical_form}
use Rattle.cad_map.specs.Map.{Map}
use Rattle.cad_map.specs.Rings.{HasWholeRings}
use Rattle.cad_map.specs.Views.{HasSide}
use Rattle.cad_map.proofs.CallerLemmas.{Contains-first, Contains-later}
use Rattle.half_table.specs.declared.half.Half.{Half}
use Rattle.half_table.specs.Rows.{HalfRows}
use Rattle.cad_laws.specs.Local.{IsShown, side_by}
use Rattle.map_parts.specs.KeptRings.{IsKept, KeepsRings}
use Rattle.map_parts.proofs.KeptHalves.{home_of, home-is}
use Rattle.map_parts.proofs.Passing.OneHand.{ring-face_has}

-- a ring without a point
abbrev pub without_point : ℕ → Boundary → Boundary
without_point p r = canonical_form (bounding r.face (without p r.ring))

-- a permutation of what f makes of a list is what it makes of a permutation
pub permuted-before : {X Y : Type 0} (f : X → Y) (xs : List X) (ys : List Y)
    → IsPermutation (map f xs) ys → (zs : List X) × IsPermutation xs zs × (map f zs ≡ ys)
permuted-before {X} {Y} f xs ys moved =
    IsPermutation-keeps (map f xs)
    (λ (l : List Y). (zs : List X) × IsPermutation xs zs × (map f zs ≡ l))
    (xs, IsPermutation-refl xs, refl) step ys moved
  where
    step : (l : List Y) (i j : ℕ) → i < length l → j < length l
        → ((zs : List X) × IsPermutation xs zs × (map f zs ≡ l))
        → (zs : List X) × IsPermutation xs zs × (map f zs ≡ swap l i j)
    step l i j below under (zs, perm, is) =
        let long : length l ≡ length zs = ap length (sym is) ∙ length-map zs f in
        let low : i < length zs = subst (λ (n : ℕ). i < n) long below in
        let too : j < length zs = subst (λ (n : ℕ). j < n) long under in (
          swap zs i j,
          IsPermutation-trans xs zs (swap zs i j) perm
              (IsPermutation-swap zs (swap zs i j) i j low too refl),
          map-swap f zs i j ∙ ap (λ (l : List Y). swap l i j) is,
        )

-- a half that is kept has the side of its face
pub kept-face : (m : Map) (rows : HalfRows) (homes : Half → Boundary) (k : Face × Half) → IsKept m rows homes k → HasSide m k.0 (side_by rows k.1)
kept-face m rows homes k it = subst (λ (f : Face). HasSide m f (side_by rows k.1)) it.face (ring-face_has m (homes k.1) it.there (side_by rows k.1) it.has)

module _ (m : Map) (rows : HalfRows) (whole : HasWholeRings m) where
  -- the half is along the ring, and kept for its face
  pub record IsKeptOn (k : Face × Half) (c : Boundary) : Type 0 where
    pub shown : IsShown m k.1
    pub there : Contains m.boundaries c
    pub side : Contains (sides_of c.ring) (side_by rows k.1)
    pub face : c.face ≡ k.0

  -- so it is with a half that is one along the ring, by the sides of another table
  pub kept-at : (old : HalfRows) → ((h : Half) → side_by rows h ≡ side_by old h) → (f : Face) (g : Half) (c : Boundary) → Contains m.boundaries c → c.face ≡ f
      → (h : Half) → g ≡ h → IsShown m h → Contains (sides_of c.ring) (side_by old h) → IsKeptOn (f, g) c
  kept-at old same f g c there face h is shown side = record {
    shown = subst (IsShown m) (sym is) shown;
    there = there;
    side = subst (λ (k : Half). Contains (sides_of c.ring) (side_by rows k)) (sym is) (subst (Contains (sides_of c.ring)) (sym (same h)) side);
    face = face;
  }

  -- so it is with each of these, ring by ring
  abbrev pub AreKeptOn : List (Face × Half) → List Boundary → Type 0
  AreKeptOn [] [] = ⊤
  AreKeptOn (k ∷ ks) (c ∷ cs) = IsKeptOn k c × AreKeptOn ks cs
  AreKeptOn [] (c ∷ cs) = ⊥
  AreKeptOn (k ∷ ks) [] = ⊥

  at-home : (k : Face × Half) (c : Boundary) → IsKeptOn k c → home_of m rows whole k.1 ≡ c
  at-home k c on = home-is m rows whole c k.1 on.there (record { shown = on.shown; side = on.side })

  each-kept : (ks : List (Face × Half)) (cs : List Boundary) → AreKeptOn ks cs
      → AllByRecursion (IsKept m rows (home_of m rows whole)) ks
  each-kept [] cs all = tt
  each-kept (k ∷ ks) [] all = absurd all
  each-kept (k ∷ ks) (c ∷ cs) all = (one k c all.0, each-kept ks cs all.1)
    where
      one : (k : Face × Half) (c : Boundary) → IsKeptOn k c → IsKept m rows (home_of m rows whole) k
      one k c on =
          let home = at-home k c on in
          record {
            is_shown = on.shown;
            there = subst (Contains m.boundaries) (sym home) on.there;
            has = subst (λ (b : Boundary). Contains (sides_of b.ring) (side_by rows k.1)) (sym home) on.side;
            face = ap (λ (b : Boundary). b.face) home ∙ on.face;
          }

  all-homes : (ks : List (Face × Half)) (cs : List Boundary) → AreKeptOn ks cs
      → map (λ (k : Face × Half). home_of m rows whole k.1) ks ≡ cs
  all-homes [] [] all = refl
  all-homes [] (c ∷ cs) all = absurd all
  all-homes (k ∷ ks) [] all = absurd all
  all-homes (k ∷ ks) (c ∷ cs) all = λ i. at-home k c all.0 i ∷ all-homes ks cs all.1 i

  keeps-from : (ks : List (Face × Half)) (cs : List Boundary) → AreKeptOn ks cs
      → IsPermutation cs m.boundaries → KeepsRings m rows ks
  keeps-from ks cs all moved = record {
    homes = home_of m rows whole;
    each = each-kept ks cs all;
    all = subst (λ (l : List Boundary). IsPermutation l m.boundaries) (sym (all-homes ks cs all)) moved;
  }

  -- ---- From the halves that were kept in another map

  module _ (was : Map) (old : HalfRows) (ks : List (Face × Half)) (kept : KeepsRings was old ks)
      (moved : Face × Half → Half) where
    abbrev now : List (Face × Half)
    now = map (λ k. (k.0, moved k)) ks

    abbrev home : Face × Half → Boundary
    home k = kept.homes k.1

    -- each ring of that map is made a ring of this one
    pub kept-made : (make : Boundary → Boundary) → IsPermutation (map make was.boundaries) m.boundaries
        → ((k : Face × Half) → Contains ks k → IsKeptOn (k.0, moved k) (make (home k)))
        → KeepsRings m rows now
    kept-made make rings each =
        let all : IsPermutation (map make (map home ks)) (map make was.boundaries) =
        IsPermutation-map make (map home ks) was.boundaries kept.all in
        keeps-from now (map make (map home ks)) (each-on ks each)
        (IsPermutation-trans (map make (map home ks)) (map make was.boundaries) m.boundaries all rings)
      where
        each-on : (ls : List (Face × Half))
            → ((k : Face × Half) → Contains ls k → IsKeptOn (k.0, moved k) (make (home k)))
            → AreKeptOn (map (λ k. (k.0, moved k)) ls) (map make (map home ls))
        each-on [] each = tt
        each-on (l ∷ ls) each =
            (each l (Contains-first l ls), each-on ls (λ k later. each k (Contains-later l ls k later)))

    -- each ring of this map was made a ring of that one
    pub kept-back : (make : Boundary → Boundary) → IsPermutation (map make m.boundaries) was.boundaries
        → ((k : Face × Half) (c : Boundary) → Contains ks k → Contains m.boundaries c
        → make c ≡ home k → IsKeptOn (k.0, moved k) c)
        → KeepsRings m rows now
    kept-back make rings each =
        let back =
        permuted-before make m.boundaries (map home ks)
        (IsPermutation-trans (map make m.boundaries) was.boundaries (map home ks) rings
        (IsPermutation-sym (map home ks) was.boundaries kept.all)) in
        keeps-from now back.0
        (each-on ks back.0 back.2 each
        (λ c among. Contains-permutation back.0 m.boundaries c (IsPermutation-sym m.boundaries back.0 back.1) among))
        (IsPermutation-sym m.boundaries back.0 back.1)
      where
        each-on : (ls : List (Face × Half)) (cs : List Boundary) → map make cs ≡ map home ls
            → ((k : Face × Half) (c : Boundary) → Contains ls k → Contains m.boundaries c
            → make c ≡ home k → IsKeptOn (k.0, moved k) c)
            → ((c : Boundary) → Contains cs c → Contains m.boundaries c)
            → AreKeptOn (map (λ k. (k.0, moved k)) ls) cs
        each-on [] [] same each sub = tt
        each-on [] (c ∷ cs) same each sub = cc
        each-on (l ∷ ls) [] same each sub = cc
        each-on (l ∷ ls) (c ∷ cs) same each sub =
            let first : make c ≡ home l = cc in
            let rest : map make cs ≡ map home ls = cc in (
              each l c (Contains-first l ls) (sub c (Contains-first c cs)) first,
              each-on ls cs rest (λ k d later. each k d (Contains-later l ls k later))
                  (λ d later. sub d (Contains-later c cs d later)),
            )

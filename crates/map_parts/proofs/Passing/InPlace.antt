-- Halves that are kept, one in the place of another.
use Rattle.std.proofs.Common.{◌≡◌, ℕ, zero, suc, ◌<◌, ◌≤◌, ◌==◌, Bool, true, false, true≢false, if◌then◌else◌, List, [], ◌∷◌, ◌++◌, length, get_or, take, drop, map, refl, sym, ap, subst, ◌∙◌, arith}
use Rattle.std.proofs.lemmas.List.{take_all, drop_all}
use Rattle.std.specs.Prelude.{flat_map, is_some, slice_set}
use Rattle.std.proofs.lemmas.Bool.{eqb-true, eq-eqb}
use Rattle.cad_rows.specs.declared.names.Face.{Face}
use Rattle.cad_rows.specs.declared.names.Face.TheVariants.{Outside, Parcel}
use Rattle.cad_rows.specs.declared.rows.ParcelRow.{ParcelRow}
use Rattle.cad_map.specs.Boundaries.{face_place}
use Rattle.cad_map.specs.Map.{Map, faces, has_face}
use Rattle.numbered_rows.specs.Rows.{row_with}
use Rattle.half_table.specs.declared.half.Half.{Half}
use Rattle.half_table.specs.Half.{is_half}
use Rattle.half_table.proofs.Halves.{is_half-self}
use Rattle.key_lists.specs.Held.{Held, items_at}
use Rattle.map_parts.specs.Passing.{in_place_of, in_place_at, kept_in}
use Rattle.map_parts.proofs.CycleRings.{map-map}

pub in-place-here : (key n : ℕ) (from to : Half) → key ≡ n → in_place_at key from to n from ≡ to
in-place-here key n from to same =
    (λ i. if eq-eqb key n same i then in_place_of from to from else from)
    ∙ (λ i. if is_half-self from i then to else from)

pub in-place-other : (key n : ℕ) (from to h : Half) → is_half h from ≡ false
    → in_place_at key from to n h ≡ h
in-place-other key n from to h other = by (key == n) other
  where
    by : (t : Bool) → is_half h from ≡ false → (if t then in_place_of from to h else h) ≡ h
    by true e = ap (λ (b : Bool). if b then to else h) e
    by false e = refl

-- ---- One after another

module _ (f : Half → Half) where
  pub placed-item : (xs : List Half) (i : ℕ) (d : Half) → i < length xs
      → get_or (map f (take i xs) ++ drop i xs) i d ≡ get_or xs i d
  placed-item [] i d low = absurd (omega arith)
  placed-item (x ∷ xs) zero d low = refl
  placed-item (x ∷ xs) (suc i) d low = placed-item xs i d (omega (arith, low))

  pub placed-set : (xs : List Half) (i : ℕ) (d : Half) → i < length xs
      → slice_set (map f (take i xs) ++ drop i xs) i (f (get_or xs i d))
      ≡ map f (take (suc i) xs) ++ drop (suc i) xs
  placed-set [] i d low = absurd (omega arith)
  placed-set (x ∷ xs) zero d low = refl
  placed-set (x ∷ xs) (suc i) d low =
      ap (λ (l : List Half). f x ∷ l) (placed-set xs i d (omega (arith, low)))

-- all of them
pub placed-all : (key : ℕ) (from to : Half) (old new : Held Half) (i : ℕ)
    → length (items_at old key) ≤ i
    → items_at new key ≡ map (in_place_of from to) (take i (items_at old key)) ++ drop i (items_at old key)
    → ((n : ℕ) → (key ≡ n → ⊥) → items_at new n ≡ items_at old n)
    → (n : ℕ) → items_at new n ≡ map (in_place_at key from to n) (items_at old n)
placed-all key from to old new i past here others n = by (key == n) refl
  where
    same : (l : List Half) → l ≡ map (λ (h : Half). h) l
    same [] = refl
    same (h ∷ l) = ap (λ (k : List Half). h ∷ k) (same l)

    nil : (l : List Half) → l ++ [] ≡ l
    nil [] = refl
    nil (h ∷ l) = ap (λ (k : List Half). h ∷ k) (nil l)

    whole : items_at new key ≡ map (in_place_of from to) (items_at old key)
    whole =
        here
        ∙ (λ j. map (in_place_of from to) (take_all i (items_at old key) past j) ++ drop_all i (items_at old key) past j)
        ∙ nil (map (in_place_of from to) (items_at old key))

    by : (t : Bool) → (key == n) ≡ t → items_at new n ≡ map (in_place_at key from to n) (items_at old n)
    by true is =
        let e = eqb-true key n is in
        subst (λ (k : ℕ). items_at new k ≡ map (in_place_of from to) (items_at old k)) e whole
        ∙ (λ j. map (λ h. if sym is j then in_place_of from to h else h) (items_at old n))
    by false is =
        others n (λ e. true≢false (sym (eq-eqb key n e) ∙ is))
        ∙ same (items_at old n)
        ∙ (λ j. map (λ h. if sym is j then in_place_of from to h else h) (items_at old n))

-- maps with the same parcels have the same faces
pub same-faces : (m n : Map) → m.parcels ≡ n.parcels → faces m ≡ faces n
same-faces m n same =
    ap (λ (ps : List ParcelRow). Outside ∷ map (λ (p : ParcelRow). Parcel p.number) ps) same

pub same-face : (m n : Map) → m.parcels ≡ n.parcels → (f : Face) → has_face m f ≡ has_face n f
same-face m n same Outside = refl
same-face m n same (Parcel k) =
    ap (λ (ps : List ParcelRow). is_some (row_with (λ (p : ParcelRow). p.number) k ps)) same

-- what is kept where under each key the halves have others in their places
pub kept-moved : (m n : Map) → m.parcels ≡ n.parcels → (old new : Held Half)
    → (moved : ℕ → Half → Half)
    → ((k : ℕ) → items_at new k ≡ map (moved k) (items_at old k))
    → kept_in n new ≡ map {B = Face × Half} (λ (k : Face × Half). (k.0, moved (face_place k.0) k.1)) (kept_in m old)
kept-moved m n same old new moved each =
    ap (λ (fs : List Face). flat_map (λ f. map {B = Face × Half} (λ h. (f, h)) (items_at new (face_place f))) fs)
    (sym (same-faces m n same)) ∙ all (faces m)
  where
    append-map : (g : Face × Half → Face × Half) (xs ys : List (Face × Half))
        → map g xs ++ map g ys ≡ map g (xs ++ ys)
    append-map g [] ys = refl
    append-map g (x ∷ xs) ys = ap (λ (l : List (Face × Half)). g x ∷ l) (append-map g xs ys)

    one : (f : Face) → map {B = Face × Half} (λ (h : Half). (f, h)) (items_at new (face_place f))
        ≡ map {B = Face × Half} (λ (k : Face × Half). (k.0, moved (face_place k.0) k.1))
        (map {B = Face × Half} (λ (h : Half). (f, h)) (items_at old (face_place f)))
    one f =
        ap (map {B = Face × Half} (λ (h : Half). (f, h))) (each (face_place f))
        ∙ map-map {C = Face × Half} (λ (h : Half). (f, h)) (moved (face_place f)) (items_at old (face_place f))
        ∙ sym (map-map {B = Face × Half} (λ (k : Face × Half). (k.0, moved (face_place k.0) k.1)) (λ (h : Half). (f, h))
        (items_at old (face_place f)))

    all : (fs : List Face) → flat_map (λ f. map {B = Face × Half} (λ h. (f, h)) (items_at new (face_place f))) fs
        ≡ map {B = Face × Half} (λ (k : Face × Half). (k.0, moved (face_place k.0) k.1))
        (flat_map (λ f. map {B = Face × Half} (λ h. (f, h)) (items_at old (face_place f))) fs)
    all [] = refl
    all (f ∷ fs) =
        (λ i. one f i ++ all fs i)
        ∙ append-map (λ (k : Face × Half). (k.0, moved (face_place k.0) k.1))
        (map {B = Face × Half} (λ (h : Half). (f, h)) (items_at old (face_place f)))
        (flat_map (λ f. map {B = Face × Half} (λ h. (f, h)) (items_at old (face_place f))) fs)

-- How many rings run around a face of a valid map.
use Rattle.std.proofs.Common.{◌≡◌, ℕ, ◌≤◌, subst, ◌∙◌, List, ◌++◌, length, filter, take, drop, not, Bool, true, false, Some, None, Option, is_some, refl, arith, nat_eq, length-append}
use Rattle.std.specs.Prelude.{◌&&◌, ◌||◌, count_by}
use Rattle.std.specs.List.{list_all}
use Rattle.std.proofs.lemmas.Bool.{eqb-true}
use Rattle.std.proofs.Math.Seq.{take-append_seam, drop-append_seam}
use Rattle.std.proofs.lemmas.List.Sums.{length-filter}
use Rattle.cad_rows.specs.declared.names.Face.{Face}
use Rattle.cad_rows.specs.declared.names.Face.TheVariants.{Outside, Parcel}
use Rattle.cad_rows.specs.declared.rows.ParcelRow.{ParcelRow}
use Rattle.cad_rings.specs.Cycle.{Ring}
use Rattle.cad_map.specs.Map.{Map, has_face, rings_of, parcel_of, is_positive, is_negative}
use Rattle.cad_map.specs.Valid.{IsValid, has_outlines}
use Rattle.cad_map.specs.Outline.{outline_of}
use Rattle.cad_map.proofs.CallerLemmas.{list_all-at, find-Contains}
use Rattle.cad_files.specs.Reports.{outlines_of, outline_records, outline_answer}

and_both : (a b : Bool) → (a && b) ≡ true → (a ≡ true) × (b ≡ true)
and_both true true h = (h, h)
and_both true false h = cc
and_both false b h = cc

-- a face with so many outlines has so many positive rings
counted : (n : ℕ) (m : Map) (rings : List Ring) → has_outlines n m rings ≡ true → length (filter (is_positive m) rings) ≡ n
counted n m rings h =
    length-filter (is_positive m) rings ∙ eqb-true (count_by (is_positive m) rings) n (and_both (nat_eq (count_by (is_positive m) rings) n) (list_all (λ r. is_positive m r || is_negative m r) rings) h).0

of_parcel : (m : Map) (n : ℕ) → list_all (λ (p : ParcelRow). has_outlines 1 m (rings_of m (Parcel p.number))) m.parcels ≡ true → (o : Option ParcelRow) → parcel_of m n ≡ o → is_some o ≡ true
    → has_outlines 1 m (rings_of m (Parcel n)) ≡ true
of_parcel m n all None at known = cc
of_parcel m n all (Some row) at known =
    let found = find-Contains (λ (r : ParcelRow). nat_eq r.number n) m.parcels row at in
    subst (λ (k : ℕ). has_outlines 1 m (rings_of m (Parcel k)) ≡ true) (eqb-true row.number n found.1) (list_all-at (λ (p : ParcelRow). has_outlines 1 m (rings_of m (Parcel p.number))) m.parcels row all found.0)

-- one ring runs around a parcel, and none around the outside
pub around : (m : Map) (f : Face) → IsValid m → has_face m f ≡ true → length (filter (is_positive m) (rings_of m f)) ≡ outlines_of f
around m f valid known =
    let v7 = and_both (has_outlines 0 m (rings_of m Outside)) (list_all (λ (p : ParcelRow). has_outlines 1 m (rings_of m (Parcel p.number))) m.parcels) valid.keeps.v7 in
    by f known v7.0 v7.1
  where
    by : (f : Face) → has_face m f ≡ true → has_outlines 0 m (rings_of m Outside) ≡ true → list_all (λ (p : ParcelRow). has_outlines 1 m (rings_of m (Parcel p.number))) m.parcels ≡ true
        → length (filter (is_positive m) (rings_of m f)) ≡ outlines_of f
    by Outside known none all = counted 0 m (rings_of m Outside) none
    by (Parcel n) known none all = counted 1 m (rings_of m (Parcel n)) (of_parcel m n all (parcel_of m n) refl known)

take-front : {X : Type 0} (xs ys : List X) (n : ℕ) → length xs ≡ n → take n (xs ++ ys) ≡ xs
take-front xs ys n is = subst (λ (k : ℕ). take k (xs ++ ys) ≡ xs) is (take-append_seam xs ys)

drop-front : {X : Type 0} (xs ys : List X) (n : ℕ) → length xs ≡ n → drop n (xs ++ ys) ≡ ys
drop-front xs ys n is = subst (λ (k : ℕ). drop k (xs ++ ys) ≡ ys) is (drop-append_seam xs ys)

-- so an outline has the rings around the face before those around its holes
pub record IsParted (m : Map) (f : Face) : Type 0 where
  pub enough : outlines_of f ≤ length (outline_of m f)
  pub outer : take (outlines_of f) (outline_of m f) ≡ filter (is_positive m) (rings_of m f)
  pub holes : drop (outlines_of f) (outline_of m f) ≡ filter (λ r. not (is_positive m r)) (rings_of m f)

pub parted : (m : Map) (f : Face) → IsValid m → has_face m f ≡ true → IsParted m f
parted m f valid known =
    let front = filter (is_positive m) (rings_of m f) in
    let rest = filter (λ r. not (is_positive m r)) (rings_of m f) in
    let is = around m f valid known in
    let e = length-append front rest in
    record { enough = omega (arith, is, e); outer = take-front front rest (outlines_of f) is; holes = drop-front front rest (outlines_of f) is }

pub answer-known : (m : Map) (f : Face) → has_face m f ≡ true → outline_answer m f ≡ outline_records m f
answer-known m Outside known = refl
answer-known m (Parcel n) known = rw known refl

-- Rings of one face in the plane: those whose boxes don't overlap are apart, and the others are all that need a look.
use Rattle.std.proofs.Common.{◌≡◌, ◌≢◌, ℕ, zero, suc, ◌<◌, refl, sym, ap, subst, ◌∙◌, List, [], ◌∷◌, ◌++◌, length, get_or, Bool, true, false, not, true≢false, inl, inr, ℤ, pos, arith}
use Rattle.std.proofs.lemmas.Bool.{cases_order, OnTrue_at, OnFalse_at}
use Rattle.std.proofs.lemmas.Int.{ints}
use Rattle.std.proofs.lemmas.List.{get_or-map, length-map}
use Rattle.std.proofs.lemmas.Option.{slice_get-get_or}
use Rattle.std.specs.Prelude.{◌&&◌, int_lt}
use Rattle.std.specs.Bool.{OnTrue, OnFalse}
use Rattle.std.specs.List.{list_all}
use Rattle.geo_exact.specs.Position.{Position}
use Rattle.geo_exact.specs.Inside.{is_inside}
use Rattle.geo_exact.specs.Measure.{doubled_area}
use Rattle.cad_rings.specs.Cycle.{Ring}
use Rattle.cad_map.specs.Map.{Map, sum_of_ring, is_positive, is_negative}
use Rattle.cad_map.specs.Valid.{each_pair, has_sound_holes}
use Rattle.sweep.specs.declared.extent.Extent.{Extent}
use Rattle.sweep.specs.Extents.{Overlap, AllThatOverlapPass, SomePairFails}
use Rattle.cad_valid.specs.Extents.{IsWithin}
use Rattle.cad_valid.specs.Shapes.{Shape, shape_of, AreShapes, are_shapes_apart, are_apart_at, Encloses, AreEnclosed}
use Rattle.cad_valid.proofs.InsideBox.{inside-within}

-- ---- Each pair of a list

all-true : {X : Type 0} (test : X → Bool) (xs : List X) → ((j : ℕ) (d : X) → j < length xs → test (get_or xs j d) ≡ true) → list_all test xs ≡ true
all-true test [] each = refl
all-true test (x ∷ xs) each = λ i. each 0 x (omega arith) i && all-true test xs (λ j d lt. each (suc j) d (omega arith)) i

all-at : {X : Type 0} (test : X → Bool) (xs : List X) → list_all test xs ≡ true → (j : ℕ) (d : X) → j < length xs → test (get_or xs j d) ≡ true
all-at test [] all j d lt = absurd (omega arith)
all-at test (x ∷ xs) all zero d lt = and_first (test x) (list_all test xs) all
  where
    and_first : (s t : Bool) → (s && t) ≡ true → s ≡ true
    and_first true t h = refl
    and_first false t h = h
all-at test (x ∷ xs) all (suc j) d lt = all-at test xs (and_second (test x) (list_all test xs) all) j d (omega arith)
  where
    and_second : (s t : Bool) → (s && t) ≡ true → t ≡ true
    and_second true t h = h
    and_second false t h = absurd (true≢false (sym h))

module _ {X : Type 0} (test : X → X → Bool) where
  pairs-true : (xs : List X) → ((i j : ℕ) (d : X) → i < j → j < length xs → test (get_or xs i d) (get_or xs j d) ≡ true) → each_pair test xs ≡ true
  pairs-true [] each = refl
  pairs-true (x ∷ xs) each =
      let first = all-true (test x) xs (λ j d lt. each 0 (suc j) d (omega arith) (omega arith)) in
      let rest = pairs-true xs (λ i j d lt within. each (suc i) (suc j) d (omega arith) (omega arith)) in
      λ i. first i && rest i

  pairs-at : (xs : List X) → each_pair test xs ≡ true → (i j : ℕ) (d : X) → i < j → j < length xs → test (get_or xs i d) (get_or xs j d) ≡ true
  pairs-at [] each i j d lt within = absurd (omega arith)
  pairs-at (x ∷ xs) each zero zero d lt within = absurd (omega arith)
  pairs-at (x ∷ xs) each zero (suc j) d lt within = all-at (test x) xs (and_first (list_all (test x) xs) (each_pair test xs) each) j d (omega arith)
    where
      and_first : (s t : Bool) → (s && t) ≡ true → s ≡ true
      and_first true t h = refl
      and_first false t h = h
  pairs-at (x ∷ xs) each (suc i) zero d lt within = absurd (omega arith)
  pairs-at (x ∷ xs) each (suc i) (suc j) d lt within = pairs-at xs (and_second (list_all (test x) xs) (each_pair test xs) each) i j d (omega arith) (omega arith)
    where
      and_second : (s t : Bool) → (s && t) ≡ true → t ≡ true
      and_second true t h = h
      and_second false t h = absurd (true≢false (sym h))

  -- two that fail, in whichever order, of a test that answers the same both ways
  pairs-false : ((x y : X) → test x y ≡ test y x) → (xs : List X) (i j : ℕ) (d : X) → i ≢ j → i < length xs → j < length xs → test (get_or xs i d) (get_or xs j d) ≡ false → each_pair test xs ≡ false
  pairs-false either_way xs i j d apart in_i in_j fails = by (each_pair test xs) refl
    where
      by : (b : Bool) → each_pair test xs ≡ b → b ≡ false
      by false is = refl
      by true is = elim (cases_order i j) [
        | inl same ↦ absurd (apart same)
        | inr other ↦ elim other [
          | inl lt ↦ absurd (true≢false (sym (pairs-at xs is i j d lt in_j) ∙ fails))
          | inr gt ↦ absurd (true≢false (sym (pairs-at xs is j i d gt in_i) ∙ either_way (get_or xs j d) (get_or xs i d) ∙ fails))
        ]
      ]

-- ---- Rings with their boxes

pub AreEnclosed-push : (extents : List Extent) (shapes : List Shape) (e : Extent) (s : Shape) → AreEnclosed extents shapes → Encloses e s → AreEnclosed (extents ++ e ∷ []) (shapes ++ s ∷ [])
AreEnclosed-push [] [] e s all here = (here, tt)
AreEnclosed-push [] (t ∷ shapes) e s all here = absurd all
AreEnclosed-push (f ∷ extents) [] e s all here = absurd all
AreEnclosed-push (f ∷ extents) (t ∷ shapes) e s all here = (all.0, AreEnclosed-push extents shapes e s all.1 here)

enclosed-many : (extents : List Extent) (shapes : List Shape) → AreEnclosed extents shapes → length extents ≡ length shapes
enclosed-many [] [] all = refl
enclosed-many [] (t ∷ shapes) all = absurd all
enclosed-many (f ∷ extents) [] all = absurd all
enclosed-many (f ∷ extents) (t ∷ shapes) all = ap suc (enclosed-many extents shapes all.1)

enclosed-at : (extents : List Extent) (shapes : List Shape) → AreEnclosed extents shapes → (i : ℕ) (e : Extent) (s : Shape) → i < length shapes → Encloses (get_or extents i e) (get_or shapes i s)
enclosed-at [] [] all i e s lt = absurd (omega arith)
enclosed-at [] (t ∷ shapes) all i e s lt = absurd all
enclosed-at (f ∷ extents) [] all i e s lt = absurd all
enclosed-at (f ∷ extents) (t ∷ shapes) all zero e s lt = all.0
enclosed-at (f ∷ extents) (t ∷ shapes) all (suc i) e s lt = enclosed-at extents shapes all.1 i e s (omega arith)

-- what is inside the ring is in each box that has the ring in it
abbrev IsBounded : Shape → Type 0
IsBounded s = (e : Extent) (q : Position) → Encloses e s → is_inside s.sides q ≡ true → IsWithin e q

bounded-at : (shapes : List Shape) → AreShapes shapes → (i : ℕ) (d : Shape) → i < length shapes → IsBounded (get_or shapes i d)
bounded-at shapes are i d lt =
    let long = ap length are.are ∙ length-map are.rings (shape_of are.position) in
    let at : get_or shapes i d ≡ shape_of are.position (get_or are.rings i []) =
    ap (λ (l : List Shape). get_or l i d) are.are ∙ get_or-map (shape_of are.position) are.rings i [] d (omega arith) in
    subst IsBounded (sym at) (λ e q encloses inside. inside-within are.position (get_or are.rings i []) e q encloses.sides inside)

-- boxes with one position in both overlap
with_one : (e f : Extent) (q : Position) → IsWithin e q → IsWithin f q → Overlap e f
with_one e f q w v =
    let wl = w.left in let wr = w.right in let wb = w.bottom in let wt = w.top in
    let vl = v.left in let vr = v.right in let vb = v.bottom in let vt = v.top in
    record { a_left = omega (arith, ints); b_left = omega (arith, ints); a_bottom = omega (arith, ints); b_bottom = omega (arith, ints) }

-- rings of which one has the other's anchor inside have boxes that overlap
not_apart-overlap : (e f : Extent) (a b : Shape) → Encloses e a → Encloses f b → IsBounded a → IsBounded b → are_shapes_apart a b ≡ false → Overlap e f
not_apart-overlap e f a b in_e in_f ba bb fails = by (is_inside a.sides b.anchor) (is_inside b.sides a.anchor) refl refl fails
  where
    by : (s t : Bool) → is_inside a.sides b.anchor ≡ s → is_inside b.sides a.anchor ≡ t → (not s && not t) ≡ false → Overlap e f
    by true t hs ht h = with_one e f b.anchor (ba e b.anchor in_e hs) in_f.anchor
    by false true hs ht h = with_one e f a.anchor in_e.anchor (bb f a.anchor in_f ht)
    by false false hs ht h = absurd (true≢false h)

apart-either_way : (a b : Shape) → are_shapes_apart a b ≡ are_shapes_apart b a
apart-either_way a b = exchanged (not (is_inside a.sides b.anchor)) (not (is_inside b.sides a.anchor))
  where
    exchanged : (s t : Bool) → (s && t) ≡ (t && s)
    exchanged true true = refl
    exchanged true false = refl
    exchanged false true = refl
    exchanged false false = refl

apart_at-is : (shapes : List Shape) (i j : ℕ) (d : Shape) → i < length shapes → j < length shapes → are_apart_at shapes i j ≡ are_shapes_apart (get_or shapes i d) (get_or shapes j d)
apart_at-is shapes i j d in_i in_j = rw (slice_get-get_or shapes i d in_i, slice_get-get_or shapes j d in_j) refl

module _ (shapes : List Shape) (extents : List Extent) (are : AreShapes shapes) (boxes : AreEnclosed extents shapes) where
  all-apart : AllThatOverlapPass (are_apart_at shapes) extents → each_pair are_shapes_apart shapes ≡ true
  all-apart pass = pairs-true are_shapes_apart shapes (λ i j d lt within. one i j d lt within (are_shapes_apart (get_or shapes i d) (get_or shapes j d)) refl)
    where
      one : (i j : ℕ) (d : Shape) → i < j → j < length shapes → (b : Bool) → are_shapes_apart (get_or shapes i d) (get_or shapes j d) ≡ b → are_shapes_apart (get_or shapes i d) (get_or shapes j d) ≡ true
      one i j d lt within true is = is
      one i j d lt within false is =
          let none : Extent = record { left = 0; right = 0; bottom = 0; top = 0 } in
          let many = enclosed-many extents shapes boxes in
          let in_i : i < length shapes = omega arith in
          let overlap = not_apart-overlap (get_or extents i none) (get_or extents j none) (get_or shapes i d) (get_or shapes j d)
          (enclosed-at extents shapes boxes i none d in_i) (enclosed-at extents shapes boxes j none d within) (bounded-at shapes are i d in_i) (bounded-at shapes are j d within) is in
          elim (pass i j none (omega arith) (omega arith) (λ same. absurd (omega arith)) overlap) [
            | inl passed ↦ sym (apart_at-is shapes i j d in_i within) ∙ passed
            | inr passed ↦ apart-either_way (get_or shapes i d) (get_or shapes j d) ∙ sym (apart_at-is shapes j i d within in_i) ∙ passed
          ]

  some-not_apart : SomePairFails (are_apart_at shapes) (length extents) → each_pair are_shapes_apart shapes ≡ false
  some-not_apart fails =
      let many = enclosed-many extents shapes boxes in
      let none : Shape = record { sides = []; anchor = record { x = pos 0; y = pos 0 } } in
      let low = fails.4 in let high = fails.5 in
      let in_i : fails.0 < length shapes = omega arith in
      let in_j : fails.1 < length shapes = omega arith in
      pairs-false are_shapes_apart apart-either_way shapes fails.0 fails.1 none fails.2 in_i in_j (sym (apart_at-is shapes fails.0 fails.1 none in_i in_j) ∙ fails.3)

  -- so what the boxes that overlap answer is the answer
  pub apart-answered : (b : Bool) → OnTrue b (AllThatOverlapPass (are_apart_at shapes) extents) → OnFalse b (SomePairFails (are_apart_at shapes) (length extents)) → b ≡ each_pair are_shapes_apart shapes
  apart-answered true passed failed = sym (all-apart (OnTrue_at refl passed))
  apart-answered false passed failed = sym (some-not_apart (OnFalse_at refl failed))

-- ---- A ring alone

not_both : (z : ℤ) → int_lt z (pos 0) ≡ true → int_lt (pos 0) z ≡ true → ⊥
not_both z h k = grind (arith, ints)

-- is no hole of another, and has none
pub sound-alone : (m : Map) (rings : List Ring) → length rings < 2 → has_sound_holes m rings ≡ true
sound-alone m [] few = refl
sound-alone m (r ∷ []) few = by (is_negative m r) (is_positive m r) refl refl
  where
    by : (s t : Bool) → is_negative m r ≡ s → is_positive m r ≡ t → has_sound_holes m (r ∷ []) ≡ true
    by false t hs ht = simp hs
    by true false hs ht = simp (hs, ht)
    by true true hs ht = absurd (not_both (sum_of_ring doubled_area m r) hs ht)
sound-alone m (r ∷ s ∷ rings) few = absurd (omega arith)

-- What areas that are kept gain beside sides, and which map's areas they are then.
use Rattle.std.proofs.Common.{◌≡◌, ◌≢◌, refl, ℕ, ◌+◌, ◌<◌, length, inl, inr, Bool, true, false, true≢false, ℤ, pos, neg_ℤ, ◌+ℤ◌, ◌-ℤ◌, sym, ap, subst, ◌∙◌, List, take, Some, arith}
use Rattle.std.proofs.lemmas.Int.{ints}
use Rattle.std.proofs.lemmas.Option.{slice_get_cases}
use Rattle.std.specs.Prelude.{IsPermutation, slice_get, if◌then◌else◌}
use Rattle.geo_exact.specs.Measure.{doubled_area}
use Rattle.geo_exact.specs.Position.{Position}
use Rattle.cad_rings.specs.Cycle.{Side, has_side, sides_of}
use Rattle.cad_rows.specs.declared.names.Face.{Face}
use Rattle.cad_rows.specs.declared.rows.StringRow.{StringRow}
use Rattle.cad_map.specs.declared.boundary.Boundary.{Boundary}
use Rattle.cad_map.specs.Map.{Map, all_sides, face_sides, position_of, strings_at, sum_of_face}
use Rattle.cad_map.specs.Rings.{HasWholeRings}
use Rattle.cad_map.specs.Touched.{GoesStraight}
use Rattle.cad_map.specs.Views.{HasSide, IsNoSide}
use Rattle.cad_map.proofs.CallerLemmas.{beside, Contains-flat_map, Contains-has_side, has_side-Contains, take-more}
use Rattle.cad_laws.specs.Areas.{HasPointAt, bend_at, bend_beside, if_beside, sum_of_strings, swept_beside}
use Rattle.cad_laws.specs.Joining.{AreNotJoined}
use Rattle.cad_laws.proofs.CallerLemmas.{against-bent, along-bent, area-bent, areas-swept, one-face, sum_of_strings-permuted, sum_of_strings-push}
use Rattle.cad_near.specs.KeptAreas.{Gains, HoldsAreas, KeptAreas, area_at}
use Rattle.edit_records.proofs.AreaGains.{gains-both, gains-none, holds-gained}

-- ---- Beside one side

-- what the face that has the side gains, each face gains where it has the side
pub side-gains : (m : Map) → HasWholeRings m → (old new : KeptAreas) (face : Face) (s : Side)
    (z : ℤ) → HasSide m face s → Gains old new face z
    → ((f : Face) → f ≢ face → area_at new f ≡ area_at old f)
    → (f : Face) → Gains old new f (if_beside m f s z)
side-gains m whole old new face s z has here elsewhere f = by (has_side s (face_sides m f)) refl
  where
    by : (v : Bool) → has_side s (face_sides m f) ≡ v
        → Gains old new f (if v then z else pos 0)
    by true is = subst (λ (g : Face). Gains old new g z) (one-face m whole face f s has is) here
    by false is =
        gains-none old new f
        (elsewhere f (λ same. true≢false (sym has
        ∙ ap (λ (g : Face). has_side s (face_sides m g)) (sym same) ∙ is)))

-- beside a side that no ring has no face gains
pub no_side-gains : (m : Map) (kept : KeptAreas) (s : Side) (z : ℤ) → IsNoSide m s → (f : Face)
    → Gains kept kept f (if_beside m f s z)
no_side-gains m kept s z none f = by (has_side s (face_sides m f)) refl
  where
    by : (v : Bool) → has_side s (face_sides m f) ≡ v
        → Gains kept kept f (if v then z else pos 0)
    by true is =
        let k = beside f s m.boundaries (has_side-Contains s (face_sides m f) is) in
        let there =
        Contains-flat_map (λ (b : Boundary). sides_of b.ring) m.boundaries k.boundary s k.there
        k.has in
        absurd (true≢false (sym (Contains-has_side s (all_sides m) there) ∙ none))
    by false is = gains-none kept kept f refl

-- the opposite number where the face has the side
pub beside-opposite : (m : Map) (f : Face) (s : Side) (z : ℤ)
    → if_beside m f s (neg_ℤ z) ≡ neg_ℤ (if_beside m f s z)
beside-opposite m f s z = by (has_side s (face_sides m f))
  where
    by : (v : Bool) → (if v then neg_ℤ z else pos 0) ≡ neg_ℤ (if v then z else pos 0)
    by true = refl
    by false = refl

-- beside one side as much is added as is taken beside another
pub sides-gain : (m : Map) (old mid new : KeptAreas) (f : Face) (s t : Side) (z u : ℤ)
    → u ≡ neg_ℤ z → Gains old mid f (if_beside m f s z) → Gains mid new f (if_beside m f t u)
    → Gains old new f (if_beside m f s z -ℤ if_beside m f t z)
sides-gain m old mid new f s t z u is first second =
    subst (Gains old new f)
    (taken (if_beside m f s z) (if_beside m f t z) (if_beside m f t u)
    (ap (if_beside m f t) is ∙ beside-opposite m f t z))
    (gains-both old mid new f (if_beside m f s z) (if_beside m f t u) first second)
  where
    taken : (x y w : ℤ) → w ≡ neg_ℤ y → x +ℤ w ≡ x -ℤ y
    taken x y w h = omega (arith, ints)

-- ---- Beside the strings of a point

-- the string at a place before the last
pub string-within : (strings : List StringRow) (place : ℕ) → place < length strings
    → (s : StringRow) × (slice_get strings place ≡ Some s)
string-within strings place low = elim (slice_get_cases strings place).1 [
  | inl there ↦ (there.0, there.2)
  | inr past ↦ let high = past.0 in absurd (omega (arith, low, high))
]

-- what is gained beside the strings so far, and beside one more
pub swept-more : (m : Map) (f : Face) (p : ℕ) (from to : Position) (old mid new : KeptAreas)
    (strings : List StringRow) (place : ℕ) (s : StringRow) → slice_get strings place ≡ Some s
    → Gains old mid f (sum_of_strings (swept_beside m f p from to) (take place strings))
    → Gains mid new f (swept_beside m f p from to s)
    → Gains old new f (sum_of_strings (swept_beside m f p from to) (take (place + 1) strings))
swept-more m f p from to old mid new strings place s at first second =
    let sweep = swept_beside m f p from to in
    subst (Gains old new f)
    (sym (sum_of_strings-push sweep (take place strings) s)
    ∙ ap (sum_of_strings sweep) (take-more strings place s at))
    (gains-both old mid new f (sum_of_strings sweep (take place strings)) (sweep s) first second)

-- areas that gained beside all strings of the point are those with the point where it went
pub holds-swept : (m x y : Map) (p : ℕ) (from to : Position) (old new : KeptAreas)
    (told : List StringRow) → HasWholeRings m → IsPermutation (strings_at m p) told
    → ((f : Face) → Gains old new f (sum_of_strings (swept_beside m f p from to) told))
    → HasPointAt m x p from → HasPointAt m y p to → HoldsAreas old x → HoldsAreas new y
holds-swept m x y p from to old new told whole each gains in_x in_y =
    holds-gained old new x y (λ f. sum_of_strings (swept_beside m f p from to) told) gains
    (λ f. areas-swept m x y p from to f whole in_x in_y
    ∙ ap (λ (z : ℤ). sum_of_face doubled_area x f +ℤ z)
    (sum_of_strings-permuted (swept_beside m f p from to) (strings_at m p) told each))

-- ---- Beside a point between two others

-- the bend, by the positions in the map that goes straight
pub bend-placed : (bent straight : Map) (n a b : ℕ) (first at second : Position) (z : ℤ)
    → GoesStraight bent straight n a b → position_of bent n ≡ at
    → first ≡ position_of straight a → second ≡ position_of straight b
    → z ≡ doubled_area first at +ℤ doubled_area at second -ℤ doubled_area first second
    → z ≡ bend_at bent n a b
bend-placed bent straight n a b first at second z goes lies from to is =
    let one = from ∙ goes.elsewhere a goes.first_other in
    let other = to ∙ goes.elsewhere b goes.second_other in
    let mid = sym lies in
    is
    ∙ (λ i. doubled_area (one i) (mid i) +ℤ doubled_area (mid i) (other i)
    -ℤ doubled_area (one i) (other i))

-- areas that gained the bend are those of the map that goes round by the point
pub holds-bent : (bent m : Map) (n a b : ℕ) (z : ℤ) (old new : KeptAreas) → HasWholeRings bent
    → GoesStraight bent m n a b → AreNotJoined bent a b → z ≡ bend_at bent n a b
    → ((f : Face) → Gains old new f (if_beside m f (a, b) z -ℤ if_beside m f (b, a) z))
    → HoldsAreas old m → HoldsAreas new bent
holds-bent bent m n a b z old new whole goes apart is gains =
    holds-gained old new m bent (λ f. if_beside m f (a, b) z -ℤ if_beside m f (b, a) z) gains
    (λ f. area-bent bent m n a b f whole goes
    ∙ ap (λ (u : ℤ). sum_of_face doubled_area m f +ℤ u) (same f))
  where
    same : (f : Face)
        → bend_beside bent f n a b ≡ if_beside m f (a, b) z -ℤ if_beside m f (b, a) z
    same f =
        λ i. (if along-bent bent m n a b f whole goes apart i then sym is i else pos 0)
        -ℤ (if against-bent bent m n a b f whole goes apart i then sym is i else pos 0)

-- and areas that lost it are those of the map that goes straight
pub holds-straightened : (m straight : Map) (p a b : ℕ) (z u : ℤ) (old new : KeptAreas)
    → HasWholeRings m → GoesStraight m straight p a b → z ≡ bend_at m p a b → u ≡ neg_ℤ z
    → ((f : Face) → Gains old new f (if_beside m f (a, p) u -ℤ if_beside m f (p, a) u))
    → HoldsAreas old m → HoldsAreas new straight
holds-straightened m straight p a b z u old new whole goes is opposite gains =
    holds-gained old new m straight (λ f. if_beside m f (a, p) u -ℤ if_beside m f (p, a) u) gains
    (λ f. less (sum_of_face doubled_area straight f) (sum_of_face doubled_area m f) _ _ _ _
    (area-bent m straight p a b f whole goes) (lost f (a, p)) (lost f (p, a)))
  where
    lost : (f : Face) (s : Side)
        → if_beside m f s u ≡ neg_ℤ (if_beside m f s (bend_at m p a b))
    lost f s =
        ap (if_beside m f s) (opposite ∙ ap neg_ℤ is) ∙ beside-opposite m f s (bend_at m p a b)

    less : (x y v w t r : ℤ) → y ≡ x +ℤ (v -ℤ w) → t ≡ neg_ℤ v → r ≡ neg_ℤ w
        → x ≡ y +ℤ (t -ℤ r)
    less x y v w t r more first second = omega (arith, ints)

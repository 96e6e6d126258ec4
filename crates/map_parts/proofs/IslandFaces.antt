-- The faces of halves where an island comes, and where it goes.
use Rattle.std.proofs.Common.{◌≡◌, ◌≢◌, ◌⊎◌, Bool, true, false, List, [], ◌∷◌, map, refl, sym, ap, ◌∙◌, subst, inl, inr, true≢false, if◌then◌else◌, ◌≤◌, ◌||◌, length}
use Rattle.std.specs.List.{AllByRecursion, Contains}
use Rattle.std.proofs.lemmas.List.Sorted.{Contains-permutation, IsPermutation-sym, IsPermutation-trans, IsPermutation-middle}
use Rattle.cad_rows.specs.declared.names.Face.{Face}
use Rattle.cad_rings.specs.Cycle.{Ring, Side, sides_of, opposite}
use Rattle.cad_rings.specs.Surgery.{both_ways}
use Rattle.cad_map.specs.declared.boundary.Boundary.{Boundary}
use Rattle.cad_map.specs.Boundaries.{is_face, bounding}
use Rattle.cad_map.specs.Map.{Map, all_sides}
use Rattle.cad_map.specs.Merger.{handed_over}
use Rattle.cad_map.specs.Rings.{HasWholeRings}
use Rattle.cad_map.proofs.CallerLemmas.{Contains-cases, Contains-first, Contains-later, Contains-map, Contains-flat_map, map-Contains, is_face-same, is_face-refl, in_both_ways, All-at_each, All-from_each}
use Rattle.map_parts.proofs.KeptEach.{is_boundary, boundary-same, boundary-self}
use Rattle.half_table.specs.declared.half.Half.{Half}
use Rattle.half_table.specs.Half.{twin}
use Rattle.half_table.specs.Cycle.{holds}
use Rattle.half_table.specs.Rows.{HalfRows, origin_of, face, cycle}
use Rattle.cad_laws.specs.Local.{IsShown, side_by, IsLocal}
use Rattle.map_parts.specs.Parts.{HasHalves}
use Rattle.map_parts.specs.Labels.{IsOnRing}
use Rattle.map_parts.specs.Paths.{AreAlong, HasStringsMore}
use Rattle.map_parts.specs.Relabelled.{on_cycles}
use Rattle.map_parts.specs.Islands.{FitsTable, AreOfRings, IsIslandOf}
use Rattle.map_parts.proofs.RingCycles.{side-half, one-on, face-on, some-on, ring-held, held-ring, each-held, held-each}
use Rattle.map_parts.proofs.RingsOnce.{stands-once}
use Rattle.map_parts.proofs.IslandTable.{more-old, off-island}

-- the other ring with its face in the first map
pub handed-stays : (outer inner : Face) (b : Boundary) → is_face inner b.face ≡ false → handed_over outer inner b ≡ b
handed-stays outer inner b is = ap (λ (t : Bool). if t then bounding outer b.ring else b) is

pub handed-ring : (outer inner : Face) (b : Boundary) → (handed_over outer inner b).ring ≡ b.ring
handed-ring outer inner b = by (is_face inner b.face)
  where
    by : (t : Bool) → (if t then bounding outer b.ring else b).ring ≡ b.ring
    by true = refl
    by false = refl

module _ (whole parted : Map) (outer inner : Face) (ring : Ring) (left right : Boundary) (others : List Boundary)
    (it : IsIslandOf whole parted outer inner ring left right others) where
  pub left-there : Contains parted.boundaries left
  left-there = Contains-permutation (left ∷ right ∷ others) parted.boundaries left (IsPermutation-sym parted.boundaries (left ∷ right ∷ others) it.were) (Contains-first left (right ∷ others))

  pub right-there : Contains parted.boundaries right
  right-there = Contains-permutation (left ∷ right ∷ others) parted.boundaries right (IsPermutation-sym parted.boundaries (left ∷ right ∷ others) it.were) (Contains-later left (right ∷ others) right (Contains-first right others))

  pub other-there : (b : Boundary) → Contains others b → Contains parted.boundaries b
  other-there b among = Contains-permutation (left ∷ right ∷ others) parted.boundaries b (IsPermutation-sym parted.boundaries (left ∷ right ∷ others) it.were) (Contains-later left (right ∷ others) b (Contains-later right others b among))

  pub handed-there : (b : Boundary) → Contains others b → Contains whole.boundaries (handed_over outer inner b)
  handed-there b among = Contains-permutation (map (handed_over outer inner) others) whole.boundaries (handed_over outer inner b) it.are (Contains-map (handed_over outer inner) others b among)

  pub boundary-cases : (b : Boundary) → Contains parted.boundaries b → (left ≡ b) ⊎ ((right ≡ b) ⊎ Contains others b)
  boundary-cases b there = elim (Contains-cases left (right ∷ others) b (Contains-permutation parted.boundaries (left ∷ right ∷ others) b it.were there)) [
    | inl same ↦ inl same
    | inr later ↦ inr (Contains-cases right others b later)
  ]

  -- ---- It comes: a table that goes on as the second map's rings do, before and after the faces are given

  module _ (rings : HasWholeRings whole) (parts : HasWholeRings parted) (path : List Half) (more : HasStringsMore whole parted path) (old mid : HalfRows)
      (fits : FitsTable whole old) (local : IsLocal parted mid) (two : (h : Half) → IsShown parted h → origin_of mid h ≢ origin_of mid (twin h))
      (same_origin : (g : Half) → origin_of mid g ≡ origin_of old g) where
    old-side : (g : Half) → side_by old g ≡ side_by mid g
    old-side g = λ i. (sym (same_origin g) i, sym (same_origin (twin g)) i)

    -- a half of a ring that keeps its face has had it
    pub face-stays : (b : Boundary) → Contains others b → is_face inner b.face ≡ false → (g : Half) → IsOnRing parted mid b g → face old g ≡ b.face
    face-stays b among away g on =
        let there : Contains whole.boundaries b = subst (Contains whole.boundaries) (handed-stays outer inner b away) (handed-there b among) in
        let known : Contains (all_sides whole) (side_by mid g) = Contains-flat_map (λ (b : Boundary). sides_of b.ring) whole.boundaries b (side_by mid g) there on.side in
        let was = side-half whole rings old fits.ends (side_by mid g) known in
        let same : was.0 ≡ g = local.apart was.0 g (more-old whole parted path more was.0 was.1) on.shown (sym (old-side was.0) ∙ was.2) in
        let shown : IsShown whole g = subst (IsShown whole) same was.1 in
        face-on whole rings old b there g (record { shown = shown; side = subst (Contains (sides_of b.ring)) (sym (old-side g)) on.side }) (face old g) (fits.faces g shown)

    module _ (first : Half) (on_left : IsOnRing parted mid left first) (on_right : IsOnRing parted mid right (twin first)) (moved : List Half) (of : AreOfRings parted mid moved inner others)
        (new : Half → Face)
        (faces : (g : Half) → new g ≡ (if on_cycles mid moved g then inner else if holds (cycle mid (twin first)) g then outer else if holds (cycle mid first) g then inner else face old g)) where
      -- by whether a half is on the cycle of a moved ring, on the outer one, on the inner one
      by_cycles : (b : Boundary) → Contains parted.boundaries b → (g : Half) → IsOnRing parted mid b g → (p q r : Bool)
          → on_cycles mid moved g ≡ p → holds (cycle mid (twin first)) g ≡ q → holds (cycle mid first) g ≡ r
          → (if p then inner else if q then outer else if r then inner else face old g) ≡ b.face
      by_cycles b there g on true q r is_p is_q is_r =
          let c = held-each parted parts mid local two others other-there inner moved of.each g is_p in
          sym c.3 ∙ ap (λ (x : Boundary). x.face) (one-on parted parts mid c.0 b (other-there c.0 c.1) there g c.2 on)
      by_cycles b there g on false true r is_p is_q is_r =
          sym it.right_face ∙ ap (λ (x : Boundary). x.face) (one-on parted parts mid right b right-there there g (held-ring parted parts mid local two right right-there (twin first) g on_right is_q) on)
      by_cycles b there g on false false true is_p is_q is_r =
          sym it.left_face ∙ ap (λ (x : Boundary). x.face) (one-on parted parts mid left b left-there there g (held-ring parted parts mid local two left left-there first g on_left is_r) on)
      by_cycles b there g on false false false is_p is_q is_r = elim (boundary-cases b there) [
        | inl same ↦ absurd (true≢false (sym (ring-held parted parts mid local two left left-there first g on_left (subst (λ (x : Boundary). IsOnRing parted mid x g) (sym same) on)) ∙ is_r))
        | inr rest ↦ elim rest [
          | inl same ↦ absurd (true≢false (sym (ring-held parted parts mid local two right right-there (twin first) g on_right (subst (λ (x : Boundary). IsOnRing parted mid x g) (sym same) on)) ∙ is_q))
          | inr among ↦ other_face among (is_face inner b.face) refl
        ]
      ]
        where
          other_face : Contains others b → (t : Bool) → is_face inner b.face ≡ t → face old g ≡ b.face
          other_face among true is =
              let h = of.all b among (sym (is_face-same inner b.face is)) in
              absurd (true≢false (sym (each-held parted parts mid local two b there moved h.0 g h.1 h.2 on) ∙ is_p))
          other_face among false is = face-stays b among is g on

      pub came-labelled : (b : Boundary) → Contains parted.boundaries b → (g : Half) → IsOnRing parted mid b g → new g ≡ b.face
      came-labelled b there g on = faces g ∙ by_cycles b there g on (on_cycles mid moved g) (holds (cycle mid (twin first)) g) (holds (cycle mid first) g) refl refl refl

  -- ---- It goes

  module _ (parts : HasWholeRings parted) (long : 2 ≤ length ring) (path : List Half) (more : HasStringsMore whole parted path) (old : HalfRows)
      (fits : FitsTable parted old) (along : AreAlong old path (sides_of ring)) (two : (h : Half) → IsShown parted h → origin_of old h ≢ origin_of old (twin h))
      (first : Half) (on_right : IsOnRing parted old right (twin first)) (moved : List Half) (of : AreOfRings parted old moved inner others) where
    off : (h : Half) → IsShown whole h → Contains (both_ways (sides_of ring)) (side_by old h) → ⊥
    off = off-island whole parted ring long it.corners parts old path more fits.local along

    -- a half of the first map is on one of the other rings
    pub on-other : (g : Half) → IsShown whole g → (b : Boundary) × Contains others b × IsOnRing parted old b g
    on-other g shown =
        let at = some-on parted parts old fits.local two g (more-old whole parted path more g shown) in
        elim (boundary-cases at.0 at.1) [
          | inl same ↦
              let side = Contains-permutation (sides_of left.ring) (sides_of ring) (side_by old g) (IsPermutation-sym (sides_of ring) (sides_of left.ring) it.left_sides)
              (subst (λ (b : Boundary). Contains (sides_of b.ring) (side_by old g)) (sym same) at.2.side) in
              absurd (off g shown (in_both_ways (sides_of ring) (side_by old g) side).0)
          | inr rest ↦ elim rest [
            | inl same ↦ absurd (off g shown (back (side_by old g) (subst (λ (b : Boundary). Contains (sides_of b.ring) (side_by old g)) (sym same) at.2.side)))
            | inr among ↦ (at.0, among, at.2)
          ]
        ]
      where
        back : (s : Side) → Contains (sides_of right.ring) s → Contains (both_ways (sides_of ring)) s
        back s has =
            let turned = Contains-permutation (sides_of right.ring) (map opposite (sides_of ring)) s (IsPermutation-sym (map opposite (sides_of ring)) (sides_of right.ring) it.right_sides) has in
            let one = map-Contains opposite (sides_of ring) s turned in
            subst (Contains (both_ways (sides_of ring))) one.2 (in_both_ways (sides_of ring) one.0 one.1).1

    -- the outer ring of the island has no half of the first map
    pub off-right : (g : Half) → IsShown whole g → holds (cycle old (twin first)) g ≡ false
    off-right g shown = by (holds (cycle old (twin first)) g) refl
      where
        by : (t : Bool) → holds (cycle old (twin first)) g ≡ t → holds (cycle old (twin first)) g ≡ false
        by false is = is
        by true is =
            let at = on-other g shown in
            let on = held-ring parted parts old fits.local two right right-there (twin first) g on_right is in
            let same = one-on parted parts old right at.0 right-there (other-there at.0 at.1) g on at.2 in
            let turned = Contains-permutation (sides_of right.ring) (map opposite (sides_of ring)) (side_by old g) (IsPermutation-sym (map opposite (sides_of ring)) (sides_of right.ring) it.right_sides) on.side in
            let one = map-Contains opposite (sides_of ring) (side_by old g) turned in
            absurd (off g shown (subst (Contains (both_ways (sides_of ring))) one.2 (in_both_ways (sides_of ring) one.0 one.1).1))

    -- its face after the moved rings are handed back
    pub went-face : (g : Half) → IsShown whole g → (b : Boundary) → Contains others b → IsOnRing parted old b g → (if on_cycles old moved g then outer else face old g) ≡ (handed_over outer inner b).face
    went-face g shown b among on = by (on_cycles old moved g) refl (is_face inner b.face) refl
      where
        handed : (t : Bool) → is_face inner b.face ≡ t → (handed_over outer inner b).face ≡ (if t then outer else b.face)
        handed true is = ap (λ (t : Bool). (if t then bounding outer b.ring else b).face) is
        handed false is = ap (λ (t : Bool). (if t then bounding outer b.ring else b).face) is

        by : (p : Bool) → on_cycles old moved g ≡ p → (t : Bool) → is_face inner b.face ≡ t → (if p then outer else face old g) ≡ (handed_over outer inner b).face
        by true held true is = sym (handed true is)
        by true held false is =
            let c = held-each parted parts old fits.local two others other-there inner moved of.each g held in
            let same = one-on parted parts old c.0 b (other-there c.0 c.1) (other-there b among) g c.2 on in
            absurd (true≢false (sym (is_face-refl inner) ∙ ap (is_face inner) (sym c.3 ∙ ap (λ (x : Boundary). x.face) same) ∙ is))
        by false none true is =
            let h = of.all b among (sym (is_face-same inner b.face is)) in
            absurd (true≢false (sym (each-held parted parts old fits.local two b (other-there b among) moved h.0 g h.1 h.2 on) ∙ none))
        by false none false is = face-on parted parts old b (other-there b among) g on (face old g) (fits.faces g (more-old whole parted path more g shown)) ∙ sym (handed false is)

-- ---- The island's two rings are none of the others

module _ (whole parted : Map) (outer inner : Face) (ring : Ring) (left right : Boundary) (others : List Boundary)
    (it : IsIslandOf whole parted outer inner ring left right others) (parts : HasWholeRings parted) where
  not-left : (c : Boundary) → Contains others c → left ≢ c
  not-left c among same = stands-once parted parts left (right ∷ others) it.were (subst (Contains (right ∷ others)) (sym same) (Contains-later right others c among))

  not-right : (c : Boundary) → Contains others c → right ≢ c
  not-right c among same =
      stands-once parted parts right (left ∷ others)
      (IsPermutation-trans parted.boundaries (left ∷ right ∷ others) (right ∷ left ∷ others) it.were (IsPermutation-middle (left ∷ []) right others))
      (subst (Contains (left ∷ others)) (sym same) (Contains-later left others c among))

  pub others-apart : AllByRecursion (λ b. (is_boundary left b || is_boundary right b) ≡ false) others
  others-apart = All-from_each (λ b. (is_boundary left b || is_boundary right b) ≡ false) others (λ c among. by c (is_boundary left c) (is_boundary right c) refl refl (not-left c among) (not-right c among))
    where
      by : (c : Boundary) (s t : Bool) → is_boundary left c ≡ s → is_boundary right c ≡ t → left ≢ c → right ≢ c → (s || t) ≡ false
      by c true t one two nay nor = absurd (nay (boundary-same left c one))
      by c false true one two nay nor = absurd (nor (boundary-same right c two))
      by c false false one two nay nor = refl

  module _ (path : List Half) (more : HasStringsMore whole parted path) (old : HalfRows) (fits : FitsTable parted old) (two : (h : Half) → IsShown parted h → origin_of old h ≢ origin_of old (twin h))
      (first : Half) (on_right : IsOnRing parted old right (twin first)) (moved : List Half) (of : AreOfRings parted old moved inner others) where
    abbrev right_in : Contains parted.boundaries right
    right_in = right-there whole parted outer inner ring left right others it

    -- the face of a half, after the island was taken out
    pub faces-told : (h : Half) (b : Boundary) → Contains parted.boundaries b → IsOnRing parted old b h → (if holds (cycle old (twin first)) h then inner else if on_cycles old moved h then outer else face old h)
        ≡ (if is_boundary left b || is_boundary right b then inner else (handed_over outer inner b).face)
    faces-told h b there on = elim (boundary-cases whole parted outer inner ring left right others it b there) [
      | inl same ↦ of_left same (holds (cycle old (twin first)) h) refl (on_cycles old moved h) refl
      | inr rest ↦ elim rest [
        | inl same ↦ of_right same
        | inr among ↦ of_other among (holds (cycle old (twin first)) h) refl (on_cycles old moved h) refl
      ]
    ]
      where
        away : (x : Boundary) (t : Bool) → t ≡ true → (if t then inner else (handed_over outer inner x).face) ≡ inner
        away x true e = refl
        away x false e = absurd (true≢false (sym e))

        either : (s : Bool) → (s || true) ≡ true
        either true = refl
        either false = refl

        on-right-is : holds (cycle old (twin first)) h ≡ true → b ≡ right
        on-right-is is = one-on parted parts old b right there right_in h on (held-ring parted parts old fits.local two right right_in (twin first) h on_right is)

        of_left : left ≡ b → (p : Bool) → holds (cycle old (twin first)) h ≡ p → (q : Bool) → on_cycles old moved h ≡ q
            → (if p then inner else if q then outer else face old h) ≡ (if is_boundary left b || is_boundary right b then inner else (handed_over outer inner b).face)
        of_left same true is_p q is_q = absurd (it.differ (sym it.right_face ∙ ap (λ (x : Boundary). x.face) (sym (on-right-is is_p) ∙ sym same) ∙ it.left_face))
        of_left same false is_p true is_q =
            let c = held-each parted parts old fits.local two others (other-there whole parted outer inner ring left right others it) inner moved of.each h is_q in
            absurd (not-left c.0 c.1 (same ∙ one-on parted parts old b c.0 there (other-there whole parted outer inner ring left right others it c.0 c.1) h on c.2))
        of_left same false is_p false is_q =
            face-on parted parts old b there h on (face old h) (fits.faces h on.shown) ∙ ap (λ (x : Boundary). x.face) (sym same) ∙ it.left_face
            ∙ sym (away b (is_boundary left b || is_boundary right b) (ap (λ (x : Boundary). is_boundary left x || is_boundary right b) (sym same) ∙ ap (λ (t : Bool). t || is_boundary right b) (boundary-self left)))

        of_right : right ≡ b → (if holds (cycle old (twin first)) h then inner else if on_cycles old moved h then outer else face old h)
            ≡ (if is_boundary left b || is_boundary right b then inner else (handed_over outer inner b).face)
        of_right same =
            ap (λ (t : Bool). if t then inner else if on_cycles old moved h then outer else face old h)
            (ring-held parted parts old fits.local two right right_in (twin first) h on_right (subst (λ (x : Boundary). IsOnRing parted old x h) (sym same) on))
            ∙ sym (away b (is_boundary left b || is_boundary right b) (ap (λ (x : Boundary). is_boundary left b || is_boundary right x) (sym same) ∙ ap (λ (t : Bool). is_boundary left b || t) (boundary-self right) ∙ either (is_boundary left b)))

        not-island : Contains others b → (x : Face) → (handed_over outer inner b).face ≡ x → x ≡ (if is_boundary left b || is_boundary right b then inner else (handed_over outer inner b).face)
        not-island among x is =
            sym is ∙ ap (λ (t : Bool). if t then inner else (handed_over outer inner b).face) (sym (All-at_each (λ b. (is_boundary left b || is_boundary right b) ≡ false) others b others-apart among))

        handed-out : (t : Bool) → is_face inner b.face ≡ t → (handed_over outer inner b).face ≡ (if t then outer else b.face)
        handed-out true is = ap (λ (t : Bool). (if t then bounding outer b.ring else b).face) is
        handed-out false is = ap (λ (t : Bool). (if t then bounding outer b.ring else b).face) is

        of_other : Contains others b → (p : Bool) → holds (cycle old (twin first)) h ≡ p → (q : Bool) → on_cycles old moved h ≡ q
            → (if p then inner else if q then outer else face old h) ≡ (if is_boundary left b || is_boundary right b then inner else (handed_over outer inner b).face)
        of_other among true is_p q is_q = absurd (not-right b among (sym (on-right-is is_p)))
        of_other among false is_p true is_q =
            let c = held-each parted parts old fits.local two others (other-there whole parted outer inner ring left right others it) inner moved of.each h is_q in
            let same : b ≡ c.0 = one-on parted parts old b c.0 there (other-there whole parted outer inner ring left right others it c.0 c.1) h on c.2 in
            not-island among outer (handed-out true (ap (is_face inner) (ap (λ (x : Boundary). x.face) same ∙ c.3) ∙ is_face-refl inner))
        of_other among false is_p false is_q = by (is_face inner b.face) refl
          where
            by : (t : Bool) → is_face inner b.face ≡ t → face old h ≡ (if is_boundary left b || is_boundary right b then inner else (handed_over outer inner b).face)
            by true is =
                let k = of.all b among (sym (is_face-same inner b.face is)) in
                absurd (true≢false (sym (each-held parted parts old fits.local two b there moved k.0 h k.1 k.2 on) ∙ is_q))
            by false is = not-island among (face old h) (handed-out false is ∙ sym (face-on parted parts old b there h on (face old h) (fits.faces h on.shown)))

    -- a half of another ring is of the first map
    pub other-home : (rings : HasWholeRings whole) (new : HalfRows) → ((g : Half) → origin_of new g ≡ origin_of old g) → AllByRecursion (HasHalves new) whole.strings
        → (h : Half) (b : Boundary) → Contains others b → IsOnRing parted old b h → IsOnRing whole new (handed_over outer inner b) h
    other-home rings new origins ends h b among on =
        let side : side_by new h ≡ side_by old h = λ i. (origins h i, origins (twin h) i) in
        let has : Contains (sides_of (handed_over outer inner b).ring) (side_by new h) =
        subst (λ (r : Ring). Contains (sides_of r) (side_by new h)) (sym (handed-ring outer inner b)) (subst (Contains (sides_of b.ring)) (sym side) on.side) in
        let known = Contains-flat_map (λ (c : Boundary). sides_of c.ring) whole.boundaries (handed_over outer inner b) (side_by new h) (handed-there whole parted outer inner ring left right others it b among) has in
        let was = side-half whole rings new ends (side_by new h) known in
        let turned : side_by old was.0 ≡ side_by old h = (λ i. (sym (origins was.0) i, sym (origins (twin was.0)) i)) ∙ was.2 ∙ side in
        record { shown = subst (IsShown whole) (fits.local.apart was.0 h (more-old whole parted path more was.0 was.1) on.shown turned) was.1; side = has }

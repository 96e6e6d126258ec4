-- The kept halves where an island comes, and where it goes.
use Rattle.std.proofs.Common.{◌≡◌, ◌≢◌, ◌⊎◌, ℕ, ◌+◌, ◌≤◌, ◌||◌, Bool, true, false, not, List, [], ◌∷◌, ◌++◌, map, filter, length, refl, sym, ap, ◌∙◌, subst, inl, inr, Option, true≢false, arith, if◌then◌else◌}
use Rattle.std.specs.Prelude.{IsPermutation, flat_map, unwrap_or}
use Rattle.std.specs.List.{AllByRecursion, Contains}
use Rattle.std.proofs.lemmas.List.{map-append, append_assoc}
use Rattle.std.proofs.lemmas.List.Elements.{Contains-append_right, Contains-append_left, Contains-append_cases}
use Rattle.std.proofs.lemmas.List.Sorted.{IsPermutation-sym, IsPermutation-trans, IsPermutation-cons, IsPermutation-map, IsPermutation-append, IsPermutation-append_left, IsPermutation-append_right, IsPermutation-append_comm, Contains-permutation, length_permutation}
use Rattle.cad_rows.specs.declared.names.Face.{Face}
use Rattle.cad_rings.specs.Cycle.{Ring, Side, sides_of}
use Rattle.cad_map.specs.declared.boundary.Boundary.{Boundary}
use Rattle.cad_map.specs.Boundaries.{is_face, bounding, face_place}
use Rattle.cad_map.specs.Map.{Map, faces, has_face}
use Rattle.cad_map.specs.Merger.{handed_over}
use Rattle.cad_map.specs.Rings.{HasWholeRings}
use Rattle.cad_map.proofs.CallerLemmas.{Contains-first, Contains-later, Contains-cases, Contains-map, Contains-in_part, All-at_each, map-Contains, is_face-same, is_face-refl, filter-Contains, front_exchanged}
use Rattle.half_table.specs.declared.half.Half.{Half}
use Rattle.half_table.specs.Half.{twin}
use Rattle.half_table.specs.Rows.{HalfRows, origin_of, face}
use Rattle.std.specs.Prelude.{option_map}
use Rattle.std.proofs.lemmas.List.{length-append}
use Rattle.key_lists.specs.Kept.{Kept}
use Rattle.key_lists.specs.Held.{Held, items_at, capacity_at, KeepsOthers}
use Rattle.map_parts.specs.Paths.{HasStringsMore}
use Rattle.map_parts.proofs.RingCycles.{face-on}
use Rattle.map_parts.proofs.IslandTable.{more-old}
use Rattle.map_parts.proofs.IslandFits.{side-same}
use Rattle.cad_laws.specs.Local.{side_by}
use Rattle.map_parts.specs.Labels.{IsOnRing}
use Rattle.map_parts.specs.Islands.{IsIslandOf, FitsTable}
use Rattle.map_parts.specs.Handing.{is_placed, HandsOver, home_of, halves_kept, KeepsEach, HaveTwoFaces}
use Rattle.std.specs.Prelude.{◌==◌}
use Rattle.std.proofs.lemmas.Bool.{eqb-true}
use Rattle.std.proofs.lemmas.Cmp.{nat_eq_equiv}
use Rattle.map_parts.proofs.Permuted.{rest-permuted, one-out, turned}
use Rattle.map_parts.proofs.KeptEach.{is_boundary, boundary-same, boundary-self, place-same, cases_face, faces-once, home-is, none-kept}
use Rattle.map_parts.proofs.Handed.{placed-yes, placed-no}
use Rattle.map_parts.proofs.HomesHanded.{handed-face, inner-never, homes-back, homes-handed}
use Rattle.map_parts.proofs.IslandFaces.{handed-stays, handed-ring, other-there}

-- ---- Lists

-- five parts in another order
shuffle : {X : Type 0} (us bs cs ds es : List X) → IsPermutation ((us ++ bs) ++ ((cs ++ ds) ++ es)) ((bs ++ ds) ++ ((us ++ cs) ++ es))
shuffle us bs cs ds es =
    let one : IsPermutation ((us ++ bs) ++ ((cs ++ ds) ++ es)) ((bs ++ us) ++ ((ds ++ cs) ++ es)) =
    IsPermutation-append (us ++ bs) (bs ++ us) ((cs ++ ds) ++ es) ((ds ++ cs) ++ es) (IsPermutation-append_comm us bs)
    (IsPermutation-append_left es (cs ++ ds) (ds ++ cs) (IsPermutation-append_comm cs ds)) in
    let two : (bs ++ us) ++ ((ds ++ cs) ++ es) ≡ bs ++ (us ++ (ds ++ (cs ++ es))) = append_assoc bs us ((ds ++ cs) ++ es) ∙ ap (λ l. bs ++ (us ++ l)) (append_assoc ds cs es) in
    let three : IsPermutation (bs ++ (us ++ (ds ++ (cs ++ es)))) (bs ++ (ds ++ (us ++ (cs ++ es)))) =
    IsPermutation-append_right bs (us ++ (ds ++ (cs ++ es))) (ds ++ (us ++ (cs ++ es))) (front_exchanged us ds (cs ++ es)) in
    let four : bs ++ (ds ++ (us ++ (cs ++ es))) ≡ (bs ++ ds) ++ ((us ++ cs) ++ es) = sym (append_assoc bs ds ((us ++ cs) ++ es) ∙ ap (λ l. bs ++ (ds ++ l)) (append_assoc us cs es)) in
    IsPermutation-trans ((us ++ bs) ++ ((cs ++ ds) ++ es)) ((bs ++ us) ++ ((ds ++ cs) ++ es)) ((bs ++ ds) ++ ((us ++ cs) ++ es)) one
    (subst (λ l. IsPermutation l ((bs ++ ds) ++ ((us ++ cs) ++ es))) (sym two) (subst (IsPermutation (bs ++ (us ++ (ds ++ (cs ++ es))))) four three))

-- ---- The halves of all faces

module _ (whole parted : Map) (outer inner : Face) (two : HaveTwoFaces whole parted outer inner) (rings : HasWholeRings whole) (parts : HasWholeRings parted) where
  -- the faces but these two
  abbrev pub other_faces : List Face
  other_faces = filter (λ f. not (is_face outer f)) (faces whole)

  abbrev pub under : Held Half → Face → List Half
  under held f = items_at held (face_place f)

  pub halves-whole : (held : Held Half) → IsPermutation (halves_kept whole held) (under held outer ++ flat_map (under held) other_faces)
  halves-whole held = one-out is_face is_face-same is_face-refl (under held) outer (faces whole) (faces-once whole rings) two.outer_there

  pub halves-parted : (held : Held Half) → IsPermutation (halves_kept parted held) (under held inner ++ (under held outer ++ flat_map (under held) other_faces))
  halves-parted held =
      IsPermutation-trans (halves_kept parted held) (under held inner ++ flat_map (under held) (faces whole)) (under held inner ++ (under held outer ++ flat_map (under held) other_faces))
      (subst (λ (fs : List Face). IsPermutation (halves_kept parted held) (under held inner ++ flat_map (under held) fs)) two.rest
      (one-out is_face is_face-same is_face-refl (under held) inner (faces parted) (faces-once parted parts) two.inner_there))
      (IsPermutation-append_right (under held inner) (flat_map (under held) (faces whole)) (under held outer ++ flat_map (under held) other_faces) (halves-whole held))

  -- another face is neither of the two
  pub other-differs : (f : Face) → Contains other_faces f → (face_place outer ≢ face_place f) × (face_place inner ≢ face_place f)
  other-differs f among =
      let at = filter-Contains (λ f. not (is_face outer f)) (faces whole) f among in
      let had = filter-Contains (λ f. not (is_face inner f)) (faces parted) f (subst (λ (fs : List Face). Contains fs f) (sym two.rest) at.0) in (
        (λ same. clash outer (ap (is_face outer) (sym (place-same outer f same))) at.1),
        (λ same. clash inner (ap (is_face inner) (sym (place-same inner f same))) had.1),
      )
    where
      clash : (g : Face) → is_face g f ≡ is_face g g → not (is_face g f) ≡ true → ⊥
      clash g same is = true≢false (sym is ∙ ap not (same ∙ is_face-refl g))

  -- so the lists of the other faces stay
  pub others-same : (old new : Held Half) → ((n : ℕ) → ¬ (face_place outer ≡ n) → ¬ (face_place inner ≡ n) → items_at new n ≡ items_at old n) → flat_map (under new) other_faces ≡ flat_map (under old) other_faces
  others-same old new same = by other_faces (λ f among. other-differs f among)
    where
      by : (fs : List Face) → ((f : Face) → Contains fs f → (face_place outer ≢ face_place f) × (face_place inner ≢ face_place f)) → flat_map (under new) fs ≡ flat_map (under old) fs
      by [] differ = refl
      by (f ∷ fs) differ =
          let d = differ f (Contains-first f fs) in
          λ i. same (face_place f) d.0 d.1 i ++ by fs (λ g among. differ g (Contains-later f fs g among)) i

-- ---- The rings of both maps

module _ (whole parted : Map) (outer inner : Face) (ring : Ring) (left right : Boundary) (others : List Boundary)
    (it : IsIslandOf whole parted outer inner ring left right others) (rings : HasWholeRings whole) (parts : HasWholeRings parted) where
  abbrev handed : Boundary → Boundary
  handed = handed_over outer inner

  other_there : (c : Boundary) → Contains others c → Contains parted.boundaries c
  other_there c among = Contains-permutation (left ∷ right ∷ others) parted.boundaries c (IsPermutation-sym parted.boundaries (left ∷ right ∷ others) it.were) (Contains-later left (right ∷ others) c (Contains-later right others c among))

  -- ---- It comes

  module _ (two : HaveTwoFaces whole parted outer inner) (old new : HalfRows) (held mid now : Held Half) (first : Half)
      (keeps : KeepsEach whole old held) (hands : HandsOver new (face_place outer) (face_place inner) held mid)
      (at_inner : items_at now (face_place inner) ≡ items_at mid (face_place inner) ++ first ∷ []) (at_outer : items_at now (face_place outer) ≡ items_at mid (face_place outer) ++ twin first ∷ [])
      (at_others : (n : ℕ) → ¬ (face_place outer ≡ n) → ¬ (face_place inner ≡ n) → items_at now n ≡ items_at mid n)
      (none : has_face whole inner ≡ false)
      (on_left : IsOnRing parted new left first) (on_right : IsOnRing parted new right (twin first))
      (homes : (h : Half) (b : Boundary) → Contains whole.boundaries b → IsOnRing whole old b h → (c : Boundary) × Contains others c × IsOnRing parted new c h × (b ≡ handed c) × (face new h ≡ c.face)) where
    left_there : Contains parted.boundaries left
    left_there = Contains-permutation (left ∷ right ∷ others) parted.boundaries left (IsPermutation-sym parted.boundaries (left ∷ right ∷ others) it.were) (Contains-first left (right ∷ others))

    right_there : Contains parted.boundaries right
    right_there = Contains-permutation (left ∷ right ∷ others) parted.boundaries right (IsPermutation-sym parted.boundaries (left ∷ right ∷ others) it.were) (Contains-later left (right ∷ others) right (Contains-first right others))

    nothing : items_at held (face_place inner) ≡ []
    nothing = keeps.none inner none

    -- a kept half of the first map
    of-old : (f : Face) (h : Half) → Contains (items_at held (face_place f)) h → (c : Boundary) × Contains others c × IsOnRing parted new c h × ((handed c).face ≡ f) × (face new h ≡ c.face)
    of-old f h among =
        let at = keeps.on f h among in
        let c = homes h at.0 at.1 at.2 in
        (c.0, c.1, c.2, ap (λ (b : Boundary). b.face) (sym c.3) ∙ at.3, c.4)

    -- of which the face isn't the inner one it keeps its face
    kept-face : (c : Boundary) (f : Face) → (handed c).face ≡ f → c.face ≢ inner → c.face ≡ f
    kept-face c f is differ = by (is_face inner c.face) refl
      where
        by : (t : Bool) → is_face inner c.face ≡ t → c.face ≡ f
        by true same = absurd (differ (sym (is_face-same inner c.face same)))
        by false other = ap (λ (b : Boundary). b.face) (sym (handed-stays outer inner c other)) ∙ is

    on-now : (f : Face) (h : Half) → Contains (items_at now (face_place f)) h → (b : Boundary) × Contains parted.boundaries b × IsOnRing parted new b h × (b.face ≡ f)
    on-now f h among = elim (cases_face inner f) [
      | inl same ↦
          elim (Contains-append_cases (items_at mid (face_place inner)) (first ∷ []) h (subst (λ (l : List Half). Contains l h) at_inner (subst (λ (g : Face). Contains (items_at now (face_place g)) h) (sym same) among))) [
            | inl given ↦
                let was = subst (λ (l : List Half). Contains l h) (hands.got ∙ ap (λ (l : List Half). l ++ hands.gone) nothing) given in
                let c = of-old outer h (Contains-permutation (hands.gone ++ items_at mid (face_place outer)) (items_at held (face_place outer)) h (IsPermutation-sym (items_at held (face_place outer)) (hands.gone ++ items_at mid (face_place outer)) hands.split) (Contains-append_left hands.gone (items_at mid (face_place outer)) h was)) in
                let placed = All-at_each (λ h. is_placed new (face_place inner) h ≡ true) hands.gone h hands.goes was in
                (c.0, other_there c.0 c.1, c.2, sym c.4 ∙ place-same (face new h) inner (eqb-true (face_place (face new h)) (face_place inner) placed) ∙ same)
            | inr last ↦ elim (Contains-cases first [] h last) [
              | inl is ↦ (left, left_there, subst (IsOnRing parted new left) is on_left, it.left_face ∙ same)
              | inr nay ↦ let low = nay.1 in absurd (omega (arith, low))
            ]
          ]
      | inr away ↦ elim (cases_face outer f) [
        | inl same ↦
            elim (Contains-append_cases (items_at mid (face_place outer)) (twin first ∷ []) h (subst (λ (l : List Half). Contains l h) at_outer (subst (λ (g : Face). Contains (items_at now (face_place g)) h) (sym same) among))) [
              | inl stayed ↦
                  let c = of-old outer h (Contains-permutation (hands.gone ++ items_at mid (face_place outer)) (items_at held (face_place outer)) h (IsPermutation-sym (items_at held (face_place outer)) (hands.gone ++ items_at mid (face_place outer)) hands.split) (Contains-append_right hands.gone (items_at mid (face_place outer)) h stayed)) in
                  let placed = All-at_each (λ h. is_placed new (face_place inner) h ≡ false) (items_at mid (face_place outer)) h hands.stays stayed in
                  (c.0, other_there c.0 c.1, c.2, kept-face c.0 outer c.3 (λ is. true≢false (sym (nat_eq_equiv.refl (face_place inner)) ∙ ap (λ (g : Face). face_place g == face_place inner) (sym is ∙ sym c.4) ∙ placed)) ∙ same)
              | inr last ↦ elim (Contains-cases (twin first) [] h last) [
                | inl is ↦ (right, right_there, subst (IsOnRing parted new right) is on_right, it.right_face ∙ same)
                | inr nay ↦ let low = nay.1 in absurd (omega (arith, low))
              ]
            ]
        | inr far ↦
            let apart : (g : Face) → g ≢ f → ¬ (face_place g ≡ face_place f) = λ g differ e. differ (place-same g f e) in
            let was = subst (λ (l : List Half). Contains l h) (at_others (face_place f) (apart outer far) (apart inner away) ∙ hands.others (face_place f) (apart outer far) (apart inner away)) among in
            let c = of-old f h was in
            (c.0, other_there c.0 c.1, c.2, kept-face c.0 f c.3 (λ is. far (sym (handed-inner c.0 is) ∙ c.3)))
      ]
    ]
      where
        handed-inner : (c : Boundary) → c.face ≡ inner → (handed c).face ≡ outer
        handed-inner c is = ap (λ (t : Bool). (if t then bounding outer c.ring else c).face) (ap (is_face inner) is ∙ is_face-refl inner)

    pub island-kept : KeepsEach parted new now
    island-kept = record {
      on = on-now;
      all = all_homes;
      none = λ f nay. none_now f nay;
    }
      where
        total : IsPermutation (halves_kept parted now) (first ∷ twin first ∷ halves_kept whole held)
        total =
            let R = flat_map (under whole parted outer inner two rings parts now) (other_faces whole parted outer inner two rings parts) in
            let Q = flat_map (under whole parted outer inner two rings parts held) (other_faces whole parted outer inner two rings parts) in
            let same : R ≡ Q = others-same whole parted outer inner two rings parts held now (λ n away far. at_others n away far ∙ hands.others n away far) in
            let I = items_at now (face_place inner) in
            let O = items_at now (face_place outer) in
            let M = items_at mid (face_place outer) in
            let H = items_at held (face_place outer) in
            let G = hands.gone in
            let one : IsPermutation (halves_kept parted now) (I ++ (O ++ R)) = halves-parted whole parted outer inner two rings parts now in
            let inner_is : I ≡ G ++ first ∷ [] = at_inner ∙ ap (λ (l : List Half). l ++ first ∷ []) (hands.got ∙ ap (λ (l : List Half). l ++ G) nothing) in
            let moved = shuffle G (first ∷ []) M (twin first ∷ []) Q in
            let all : IsPermutation (I ++ (O ++ R)) ((first ∷ twin first ∷ []) ++ ((G ++ M) ++ Q)) =
            subst (λ (l : List Half). IsPermutation l ((first ∷ twin first ∷ []) ++ ((G ++ M) ++ Q))) (λ i. sym inner_is i ++ (sym at_outer i ++ sym same i)) moved in
            let back : IsPermutation ((G ++ M) ++ Q) (halves_kept whole held) =
            IsPermutation-trans ((G ++ M) ++ Q) (H ++ Q) (halves_kept whole held) (IsPermutation-append_left Q (G ++ M) H (IsPermutation-sym H (G ++ M) hands.split))
            (IsPermutation-sym (halves_kept whole held) (H ++ Q) (halves-whole whole parted outer inner two rings parts held)) in
            IsPermutation-trans (halves_kept parted now) (I ++ (O ++ R)) (first ∷ twin first ∷ halves_kept whole held) one
            (IsPermutation-trans (I ++ (O ++ R)) (first ∷ twin first ∷ ((G ++ M) ++ Q)) (first ∷ twin first ∷ halves_kept whole held) all
            (IsPermutation-cons first (twin first ∷ ((G ++ M) ++ Q)) (twin first ∷ halves_kept whole held) (IsPermutation-cons (twin first) ((G ++ M) ++ Q) (halves_kept whole held) back)))

        -- the homes of the old ones
        old_homes : IsPermutation (map (home_of parted new) (halves_kept whole held)) others
        old_homes = homes-back parted parts outer inner others other_there whole old new (halves_kept whole held) (λ h among.
            let part = Contains-in_part (λ f. items_at held (face_place f)) (faces whole) h among in
            let at = keeps.on part.0 h part.2 in
            let c = homes h at.0 at.1 at.2 in
            (c.0, c.1, home-is parted parts new c.0 (other_there c.0 c.1) h c.2, home-is whole rings old at.0 at.1 h at.2 ∙ c.3))
            (IsPermutation-trans (map (home_of whole old) (halves_kept whole held)) whole.boundaries (map handed others) keeps.all (IsPermutation-sym (map handed others) whole.boundaries it.are))

        all_homes : IsPermutation (map (home_of parted new) (halves_kept parted now)) parted.boundaries
        all_homes =
            let hm = home_of parted new in
            let a = IsPermutation-map hm (halves_kept parted now) (first ∷ twin first ∷ halves_kept whole held) total in
            let b : IsPermutation (map hm (first ∷ twin first ∷ halves_kept whole held)) (left ∷ right ∷ others) =
            subst (λ (l : Boundary × Boundary). IsPermutation (l.0 ∷ l.1 ∷ map hm (halves_kept whole held)) (left ∷ right ∷ others))
            (λ i. (sym (home-is parted parts new left left_there first on_left) i, sym (home-is parted parts new right right_there (twin first) on_right) i))
            (IsPermutation-cons left (right ∷ map hm (halves_kept whole held)) (right ∷ others) (IsPermutation-cons right (map hm (halves_kept whole held)) others old_homes)) in
            IsPermutation-trans (map hm (halves_kept parted now)) (map hm (first ∷ twin first ∷ halves_kept whole held)) parted.boundaries a
            (IsPermutation-trans (map hm (first ∷ twin first ∷ halves_kept whole held)) (left ∷ right ∷ others) parted.boundaries b (IsPermutation-sym parted.boundaries (left ∷ right ∷ others) it.were))

        -- under what is no face none is kept
        none_now : (f : Face) → has_face parted f ≡ false → items_at now (face_place f) ≡ []
        none_now f nay = none-kept parted parts new now on-now f nay

-- ---- Lists under keys

pub items-of : {X : Type 0} (key n : ℕ) (old new : Held X) → KeepsOthers key old new → ¬ (key ≡ n) → items_at new n ≡ items_at old n
items-of key n old new keeps away = ap (λ (o : Option (Kept _)). unwrap_or (option_map (λ list. list.items) o) []) (keeps n away)

pub capacity-of : {X : Type 0} (key n : ℕ) (old new : Held X) → KeepsOthers key old new → ¬ (key ≡ n) → capacity_at new n ≡ capacity_at old n
capacity-of key n old new keeps away = ap (λ (o : Option (Kept _)). unwrap_or (option_map (λ list. list.capacity) o) 0) (keeps n away)

-- once the list under a key is cleared there is none, and as many are under another as were
pub cleared : {X : Type 0} (key k n : ℕ) (old new : Held X) → key ≡ k → n ≢ k → KeepsOthers key old new → items_at new key ≡ []
    → (items_at new n ≡ items_at old n) × (length (items_at new n) ≡ length (items_at old n)) × (length (items_at new k) ≡ 0)
cleared key k n old new is apart keeps none =
    let same = items-of key n old new keeps (λ e. apart (sym e ∙ is)) in
    (same, ap length same, ap length (subst (λ (j : ℕ). items_at new j ≡ []) is none))

-- a call that keeps the room under one key, and the lists under others, keeps the room under all
pub put-capacity : {X : Type 0} (key n : ℕ) (old new : Held X) → KeepsOthers key old new → capacity_at new key ≡ capacity_at old key → capacity_at new n ≡ capacity_at old n
put-capacity key n old new keeps own = by (key == n) refl
  where
    by : (t : Bool) → (key == n) ≡ t → capacity_at new n ≡ capacity_at old n
    by true same = subst (λ (k : ℕ). capacity_at new k ≡ capacity_at old k) (eqb-true key n same) own
    by false other = capacity-of key n old new keeps (λ e. true≢false (sym (nat_eq_equiv.refl n) ∙ ap (λ (k : ℕ). k == n) (sym e) ∙ other))

-- halves that are handed over leave room where they were, and take as much as there were
pub room-handed : (rows : HalfRows) (from to : ℕ) (old new : Held Half) → HandsOver rows from to old new
    → (length (items_at new from) ≤ length (items_at old from)) × (length (items_at new to) ≤ length (items_at old to) + length (items_at old from))
room-handed rows from to old new hands =
    let s = sym (length-append hands.gone (items_at new from)) ∙ length_permutation (items_at old from) (hands.gone ++ items_at new from) hands.split in
    let g = ap length hands.got ∙ length-append (items_at old to) hands.gone in
    (omega (arith, s), omega (arith, s, g))

-- ---- From one map's ring of a kept half to the other's

module _ (whole parted : Map) (outer inner : Face) (ring : Ring) (left right : Boundary) (others : List Boundary)
    (it : IsIslandOf whole parted outer inner ring left right others) (parts : HasWholeRings parted) (path : List Half) (more : HasStringsMore whole parted path)
    (old new : HalfRows) (origins : (g : Half) → origin_of new g ≡ origin_of old g) (fits : FitsTable parted new) where
  pub home-comes : (h : Half) (b : Boundary) → Contains whole.boundaries b → IsOnRing whole old b h → (c : Boundary) × Contains others c × IsOnRing parted new c h × (b ≡ handed_over outer inner c) × (face new h ≡ c.face)
  home-comes h b there on =
      let one = map-Contains (handed_over outer inner) others b (Contains-permutation whole.boundaries (map (handed_over outer inner) others) b (IsPermutation-sym (map (handed_over outer inner) others) whole.boundaries it.are) there) in
      let c = one.0 in
      let among = Contains-permutation (left ∷ right ∷ others) parted.boundaries c (IsPermutation-sym parted.boundaries (left ∷ right ∷ others) it.were) (Contains-later left (right ∷ others) c (Contains-later right others c one.1)) in
      let same : b.ring ≡ c.ring = ap (λ (x : Boundary). x.ring) (sym one.2) ∙ handed-ring outer inner c in
      let here : IsOnRing parted new c h = record {
        shown = more-old whole parted path more h on.shown;
        side = subst (λ (s : Side). Contains (sides_of c.ring) s) (sym (side-same old new origins h)) (subst (λ (r : Ring). Contains (sides_of r) (side_by old h)) same on.side);
      } in
      (c, one.1, here, sym one.2, face-on parted parts new c among h here (face new h) (fits.faces h here.shown))

-- ---- It goes

module _ (whole parted : Map) (outer inner : Face) (ring : Ring) (left right : Boundary) (others : List Boundary)
    (it : IsIslandOf whole parted outer inner ring left right others) (rings : HasWholeRings whole) (parts : HasWholeRings parted)
    (two : HaveTwoFaces whole parted outer inner) (old new : HalfRows) (held one mid now : Held Half)
    (keeps : KeepsEach parted old held) (gives : HandsOver new (face_place inner) (face_place outer) held one) (takes : HandsOver new (face_place outer) (face_place inner) one mid)
    (at_inner : items_at now (face_place inner) ≡ []) (at_others : (n : ℕ) → ¬ (face_place inner ≡ n) → items_at now n ≡ items_at mid n)
    (faces_now : (h : Half) (b : Boundary) → Contains parted.boundaries b → IsOnRing parted old b h → face new h ≡ (if is_boundary left b || is_boundary right b then inner else (handed_over outer inner b).face))
    (home : (h : Half) (b : Boundary) → Contains others b → IsOnRing parted old b h → IsOnRing whole new (handed_over outer inner b) h)
    (apart_left : AllByRecursion (λ b. (is_boundary left b || is_boundary right b) ≡ false) others) where
  abbrev of-island : Boundary → Bool
  of-island b = is_boundary left b || is_boundary right b

  abbrev hp : Half → Boundary
  hp = home_of parted old

  abbrev I : List Half
  I = items_at one (face_place inner)

  abbrev O : List Half
  O = items_at mid (face_place outer)

  abbrev R : List Half
  R = flat_map (under whole parted outer inner two rings parts held) (other_faces whole parted outer inner two rings parts)

  faces_apart : face_place outer ≢ face_place inner
  faces_apart same = it.differ (place-same outer inner same)

  -- whether a half's ring is the island's is told by its face
  told-island : (h : Half) (b : Boundary) → Contains parted.boundaries b → IsOnRing parted old b h → is_placed new (face_place inner) h ≡ of-island b
  told-island h b there on = by (of-island b) refl
    where
      by : (t : Bool) → of-island b ≡ t → is_placed new (face_place inner) h ≡ of-island b
      by true is = placed-yes new (face_place inner) h (face_place inner) (ap face_place (sym (faces_now h b there on ∙ ap (λ (t : Bool). if t then inner else (handed_over outer inner b).face) is))) refl ∙ sym is
      by false is =
          placed-no new (face_place inner) h (face_place (handed_over outer inner b).face)
          (ap face_place (sym (faces_now h b there on ∙ ap (λ (t : Bool). if t then inner else (handed_over outer inner b).face) is)))
          (λ same. inner-never outer inner it.differ b (place-same (handed_over outer inner b).face inner same)) ∙ sym is

  -- a kept half, with its ring in the second map
  abbrev pub AtHome : Half → Type 0
  AtHome h = (b : Boundary) × Contains parted.boundaries b × IsOnRing parted old b h

  at-home : (f : Face) (h : Half) → Contains (items_at held (face_place f)) h → (b : Boundary) × Contains parted.boundaries b × IsOnRing parted old b h × (b.face ≡ f)
  at-home f h among = keeps.on f h among

  from-inner : (h : Half) → Contains (gives.gone ++ I) h → (b : Boundary) × Contains parted.boundaries b × IsOnRing parted old b h × (b.face ≡ inner)
  from-inner h among = keeps.on inner h (Contains-permutation (gives.gone ++ I) (items_at held (face_place inner)) h (IsPermutation-sym (items_at held (face_place inner)) (gives.gone ++ I) gives.split) among)

  -- of what is left under the inner face, every half is of the island's inner ring
  island-left : (h : Half) → Contains I h → of-island (hp h) ≡ true
  island-left h among =
      let b = from-inner h (Contains-append_right gives.gone I h among) in
      let is = home-is parted parts old b.0 b.1 h b.2 in
      ap of-island is ∙ by b (of-island b.0) refl
    where
      by : (b : (b : Boundary) × Contains parted.boundaries b × IsOnRing parted old b h × (b.face ≡ inner)) → (t : Bool) → of-island b.0 ≡ t → of-island b.0 ≡ true
      by b true is = is
      by b false is =
          let out = faces_now h b.0 b.1 b.2 ∙ ap (λ (t : Bool). if t then inner else (handed_over outer inner b.0).face) is ∙ (handed-face outer inner b.0).0 b.3 in
          absurd (true≢false (sym (placed-yes new (face_place outer) h (face_place outer) (ap face_place (sym out)) refl) ∙ All-at_each (λ h. is_placed new (face_place outer) h ≡ false) I h gives.stays among))

  -- a half under the outer face, before the island's is taken
  under-outer : (h : Half) → Contains (items_at one (face_place outer)) h → (b : Boundary) × Contains parted.boundaries b × IsOnRing parted old b h × ((b.face ≡ outer) ⊎ (b.face ≡ inner))
  under-outer h among = elim (Contains-append_cases (items_at held (face_place outer)) gives.gone h (subst (λ (l : List Half). Contains l h) gives.got among)) [
    | inl was ↦ let b = keeps.on outer h was in (b.0, b.1, b.2, inl b.3)
    | inr came ↦ let b = from-inner h (Contains-append_left gives.gone I h came) in (b.0, b.1, b.2, inr b.3)
  ]

  outer-of : (h : Half) → Contains (takes.gone ++ O) h → Contains (items_at one (face_place outer)) h
  outer-of h among = Contains-permutation (takes.gone ++ O) (items_at one (face_place outer)) h (IsPermutation-sym (items_at one (face_place outer)) (takes.gone ++ O) takes.split) among

  island-taken : (h : Half) → Contains takes.gone h → of-island (hp h) ≡ true
  island-taken h among =
      let b = under-outer h (outer-of h (Contains-append_left takes.gone O h among)) in
      ap of-island (home-is parted parts old b.0 b.1 h b.2) ∙ sym (told-island h b.0 b.1 b.2) ∙ All-at_each (λ h. is_placed new (face_place inner) h ≡ true) takes.gone h takes.goes among

  other-left : (h : Half) → Contains O h → of-island (hp h) ≡ false
  other-left h among =
      let b = under-outer h (outer-of h (Contains-append_right takes.gone O h among)) in
      ap of-island (home-is parted parts old b.0 b.1 h b.2) ∙ sym (told-island h b.0 b.1 b.2) ∙ All-at_each (λ h. is_placed new (face_place inner) h ≡ false) O h takes.stays among

  -- a half of another face
  under-other : (h : Half) → Contains R h → (f : Face) × Contains (other_faces whole parted outer inner two rings parts) f × Contains (items_at held (face_place f)) h
  under-other h among = Contains-in_part (under whole parted outer inner two rings parts held) (other_faces whole parted outer inner two rings parts) h among

  face-of-island : (b : Boundary) → of-island b ≡ true → (b.face ≡ inner) ⊎ (b.face ≡ outer)
  face-of-island b is = by (is_boundary left b) refl
    where
      by : (t : Bool) → is_boundary left b ≡ t → (b.face ≡ inner) ⊎ (b.face ≡ outer)
      by true same = inl (ap (λ (x : Boundary). x.face) (sym (boundary-same left b same)) ∙ it.left_face)
      by false other = inr (ap (λ (x : Boundary). x.face) (sym (boundary-same right b (ap (λ (t : Bool). t || is_boundary right b) (sym other) ∙ is))) ∙ it.right_face)

  other-far : (h : Half) → Contains R h → of-island (hp h) ≡ false
  other-far h among =
      let at = under-other h among in
      let b = keeps.on at.0 h at.2 in
      let far = other-differs whole parted outer inner two rings parts at.0 at.1 in
      ap of-island (home-is parted parts old b.0 b.1 h b.2) ∙ by b.0 (of-island b.0) refl (λ e. far.0 (ap face_place (sym e ∙ b.3))) (λ e. far.1 (ap face_place (sym e ∙ b.3)))
    where
      by : (b : Boundary) (t : Bool) → of-island b ≡ t → (b.face ≡ outer → ⊥) → (b.face ≡ inner → ⊥) → of-island b ≡ false
      by b false is nay nor = is
      by b true is nay nor = elim (face-of-island b is) [ inl e ↦ absurd (nor e) | inr e ↦ absurd (nay e) ]

  all-homes : (halves : List Half) (t : Bool) → ((h : Half) → Contains halves h → of-island (hp h) ≡ t) → AllByRecursion (λ b. of-island b ≡ t) (map hp halves)
  all-homes [] t each = tt
  all-homes (h ∷ halves) t each = (each h (Contains-first h halves), all-homes halves t (λ g among. each g (Contains-later h halves g among)))

  either-list : (xs ys : List Half) (P : Half → Type 0) → ((h : Half) → Contains xs h → P h) → ((h : Half) → Contains ys h → P h) → (h : Half) → Contains (xs ++ ys) h → P h
  either-list xs ys P first second h among = elim (Contains-append_cases xs ys h among) [ inl a ↦ first h a | inr b ↦ second h b ]

  -- the halves that stay have just the other rings
  kept-others : IsPermutation (map hp (O ++ R)) others
  kept-others =
      let H = items_at held (face_place inner) in
      let P = items_at held (face_place outer) in
      let total = halves-parted whole parted outer inner two rings parts held in
      let first : IsPermutation (H ++ (P ++ R)) ((gives.gone ++ I) ++ (P ++ R)) = IsPermutation-append_left (P ++ R) H (gives.gone ++ I) gives.split in
      let second : IsPermutation ((gives.gone ++ I) ++ (P ++ R)) (I ++ ((P ++ gives.gone) ++ R)) = turned gives.gone I P R in
      let third : IsPermutation (I ++ ((P ++ gives.gone) ++ R)) (I ++ ((takes.gone ++ O) ++ R)) =
      IsPermutation-append_right I ((P ++ gives.gone) ++ R) ((takes.gone ++ O) ++ R)
      (IsPermutation-append_left R (P ++ gives.gone) (takes.gone ++ O) (subst (λ (l : List Half). IsPermutation l (takes.gone ++ O)) gives.got takes.split)) in
      let written : I ++ ((takes.gone ++ O) ++ R) ≡ (I ++ takes.gone) ++ (O ++ R) = ap (λ (l : List Half). I ++ l) (append_assoc takes.gone O R) ∙ sym (append_assoc I takes.gone (O ++ R)) in
      let all : IsPermutation (halves_kept parted held) ((I ++ takes.gone) ++ (O ++ R)) =
      IsPermutation-trans (halves_kept parted held) (H ++ (P ++ R)) ((I ++ takes.gone) ++ (O ++ R)) total
      (IsPermutation-trans (H ++ (P ++ R)) ((gives.gone ++ I) ++ (P ++ R)) ((I ++ takes.gone) ++ (O ++ R)) first
      (IsPermutation-trans ((gives.gone ++ I) ++ (P ++ R)) (I ++ ((P ++ gives.gone) ++ R)) ((I ++ takes.gone) ++ (O ++ R)) second
      (subst (IsPermutation (I ++ ((P ++ gives.gone) ++ R))) written third))) in
      let mapped : IsPermutation (map hp (halves_kept parted held)) (map hp (I ++ takes.gone) ++ map hp (O ++ R)) =
      subst (IsPermutation (map hp (halves_kept parted held))) (map-append hp (I ++ takes.gone) (O ++ R)) (IsPermutation-map hp (halves_kept parted held) ((I ++ takes.gone) ++ (O ++ R)) all) in
      let sides : IsPermutation (map hp (I ++ takes.gone) ++ map hp (O ++ R)) ((left ∷ right ∷ []) ++ others) =
      IsPermutation-trans (map hp (I ++ takes.gone) ++ map hp (O ++ R)) parted.boundaries (left ∷ right ∷ others)
      (IsPermutation-trans (map hp (I ++ takes.gone) ++ map hp (O ++ R)) (map hp (halves_kept parted held)) parted.boundaries
      (IsPermutation-sym (map hp (halves_kept parted held)) (map hp (I ++ takes.gone) ++ map hp (O ++ R)) mapped) keeps.all) it.were in
      rest-permuted is_boundary boundary-same boundary-self of-island (map hp (I ++ takes.gone)) (map hp (O ++ R)) (left ∷ right ∷ []) others sides
      (all-homes (I ++ takes.gone) true (either-list I takes.gone (λ h. of-island (hp h) ≡ true) island-left island-taken))
      (ap (λ (t : Bool). t || is_boundary right left) (boundary-self left), (or-last (is_boundary left right) (boundary-self right), tt))
      (all-homes (O ++ R) false (either-list O R (λ h. of-island (hp h) ≡ false) other-left other-far))
      apart_left
    where
      or-last : (t : Bool) {u : Bool} → u ≡ true → (t || u) ≡ true
      or-last true is = refl
      or-last false is = is

  -- a half that stays is on one of the other rings
  on-others : (h : Half) → of-island (hp h) ≡ false → AtHome h → (c : Boundary) × Contains others c × IsOnRing parted old c h × (hp h ≡ c)
  on-others h away b =
      let is = home-is parted parts old b.0 b.1 h b.2 in
      elim (Contains-cases left (right ∷ others) b.0 (Contains-permutation parted.boundaries (left ∷ right ∷ others) b.0 it.were b.1)) [
        | inl same ↦ absurd (true≢false (sym (ap (λ (t : Bool). t || is_boundary right left) (boundary-self left)) ∙ ap of-island (same ∙ sym is) ∙ away))
        | inr later ↦ elim (Contains-cases right others b.0 later) [
          | inl same ↦ absurd (true≢false (sym (right-yes (is_boundary left right)) ∙ ap of-island (same ∙ sym is) ∙ away))
          | inr among ↦ (b.0, among, b.2, is)
        ]
      ]
    where
      right-yes : (t : Bool) → (t || is_boundary right right) ≡ true
      right-yes true = refl
      right-yes false = boundary-self right

  stays-home : (h : Half) → Contains (O ++ R) h → (c : Boundary) × Contains others c × IsOnRing parted old c h × (hp h ≡ c)
  stays-home h among = elim (Contains-append_cases O R h among) [
    | inl a ↦ let b = under-outer h (outer-of h (Contains-append_right takes.gone O h a)) in on-others h (other-left h a) (b.0, b.1, b.2)
    | inr r ↦ let at = under-other h r in let b = keeps.on at.0 h at.2 in on-others h (other-far h r) (b.0, b.1, b.2)
  ]

  now-outer : items_at now (face_place outer) ≡ O
  now-outer = at_others (face_place outer) (λ e. faces_apart (sym e))

  now-other : (n : ℕ) → ¬ (face_place outer ≡ n) → ¬ (face_place inner ≡ n) → items_at now n ≡ items_at held n
  now-other n away far = at_others n far ∙ takes.others n away far ∙ gives.others n far away

  on-whole : (f : Face) (h : Half) → Contains (items_at now (face_place f)) h → (b : Boundary) × Contains whole.boundaries b × IsOnRing whole new b h × (b.face ≡ f)
  on-whole f h among = elim (cases_face inner f) [
    | inl same ↦ let low = (subst (λ (l : List Half). Contains l h) at_inner (subst (λ (g : Face). Contains (items_at now (face_place g)) h) (sym same) among)).1 in absurd (omega (arith, low))
    | inr away ↦ elim (cases_face outer f) [
      | inl same ↦
          let here = subst (λ (l : List Half). Contains l h) now-outer (subst (λ (g : Face). Contains (items_at now (face_place g)) h) (sym same) among) in
          let b = under-outer h (outer-of h (Contains-append_right takes.gone O h here)) in
          let c = on-others h (other-left h here) (b.0, b.1, b.2) in
          let is : b.0 ≡ c.0 = sym (home-is parted parts old b.0 b.1 h b.2) ∙ c.3 in (
            handed_over outer inner c.0,
            handed_there c.0 c.1,
            home h c.0 c.1 c.2,
            (elim b.3 [
              | inl e ↦ let o : c.0.face ≡ outer = ap (λ (x : Boundary). x.face) (sym is) ∙ e in ap (λ (x : Boundary). x.face) ((handed-face outer inner c.0).1 (λ k. it.differ (sym o ∙ k))) ∙ o
              | inr e ↦ (handed-face outer inner c.0).0 (ap (λ (x : Boundary). x.face) (sym is) ∙ e)
            ]) ∙ same,
          )
      | inr far ↦
          let was = subst (λ (l : List Half). Contains l h) (now-other (face_place f) (λ e. far (place-same outer f e)) (λ e. away (place-same inner f e))) among in
          let b = keeps.on f h was in
          let nay : of-island (hp h) ≡ false = ap of-island (home-is parted parts old b.0 b.1 h b.2) ∙ not-island b.0 (of-island b.0) refl (λ e. far (sym e ∙ b.3)) (λ e. away (sym e ∙ b.3)) in
          let c = on-others h nay (b.0, b.1, b.2) in
          let is : b.0 ≡ c.0 = sym (home-is parted parts old b.0 b.1 h b.2) ∙ c.3 in
          let f_is : c.0.face ≡ f = ap (λ (x : Boundary). x.face) (sym is) ∙ b.3 in
          (handed_over outer inner c.0, handed_there c.0 c.1, home h c.0 c.1 c.2, ap (λ (x : Boundary). x.face) ((handed-face outer inner c.0).1 (λ k. away (sym k ∙ f_is))) ∙ f_is)
    ]
  ]
    where
      handed_there : (c : Boundary) → Contains others c → Contains whole.boundaries (handed_over outer inner c)
      handed_there c among = Contains-permutation (map (handed_over outer inner) others) whole.boundaries (handed_over outer inner c) it.are (Contains-map (handed_over outer inner) others c among)

      not-island : (b : Boundary) (t : Bool) → of-island b ≡ t → (b.face ≡ outer → ⊥) → (b.face ≡ inner → ⊥) → of-island b ≡ false
      not-island b false is nay nor = is
      not-island b true is nay nor = elim (face-of-island b is) [ inl e ↦ absurd (nor e) | inr e ↦ absurd (nay e) ]

  pub island-gone : KeepsEach whole new now
  island-gone = record { on = on-whole; all = all_now; none = none_now }
    where
      all_now : IsPermutation (map (home_of whole new) (halves_kept whole now)) whole.boundaries
      all_now =
          let S = flat_map (under whole parted outer inner two rings parts now) (other_faces whole parted outer inner two rings parts) in
          let same : S ≡ R = others-same whole parted outer inner two rings parts held now (λ n away far. now-other n away far) in
          let total : IsPermutation (halves_kept whole now) (O ++ R) =
          subst (λ (l : List Half). IsPermutation (halves_kept whole now) l) (λ i. now-outer i ++ same i) (halves-whole whole parted outer inner two rings parts now) in
          let homes = homes-handed parted parts outer inner others (other-there whole parted outer inner ring left right others it) whole old new (O ++ R) (λ h among.
          let c = stays-home h among in
          (c.0, c.1, c.3, home-is whole rings new (handed_over outer inner c.0) (Contains-permutation (map (handed_over outer inner) others) whole.boundaries (handed_over outer inner c.0) it.are (Contains-map (handed_over outer inner) others c.0 c.1)) h (home h c.0 c.1 c.2))) kept-others in
          IsPermutation-trans (map (home_of whole new) (halves_kept whole now)) (map (home_of whole new) (O ++ R)) whole.boundaries
          (IsPermutation-map (home_of whole new) (halves_kept whole now) (O ++ R) total) (IsPermutation-trans (map (home_of whole new) (O ++ R)) (map (handed_over outer inner) others) whole.boundaries homes it.are)

      none_now : (f : Face) → has_face whole f ≡ false → items_at now (face_place f) ≡ []
      none_now f nay = none-kept whole rings new now on-whole f nay

-- The kept halves where a chain comes across a face.
use Rattle.std.proofs.Common.{◌≡◌, ◌≢◌, ◌⊎◌, ℕ, ◌≤◌, Bool, true, false, List, [], ◌∷◌, ◌++◌, map, length, refl, sym, ap, ◌∙◌, subst, inl, inr, true≢false, if◌then◌else◌, arith}
use Rattle.std.specs.Prelude.{IsPermutation, flat_map}
use Rattle.std.specs.List.{Contains}
use Rattle.std.proofs.lemmas.List.{append_assoc}
use Rattle.std.proofs.lemmas.List.Elements.{Contains-append_right, Contains-append_left, Contains-append_cases}
use Rattle.std.proofs.lemmas.List.Sorted.{IsPermutation-refl, IsPermutation-sym, IsPermutation-trans, IsPermutation-cons, IsPermutation-map, IsPermutation-append_left, IsPermutation-append_right, IsPermutation-append_comm, IsPermutation-to_front, Contains-permutation}
use Rattle.cad_rows.specs.declared.names.Face.{Face}
use Rattle.cad_rings.specs.Cycle.{Ring, sides_of, Corner}
use Rattle.cad_rings.specs.Surgery.{sides_of_chain}
use Rattle.cad_map.specs.declared.boundary.Boundary.{Boundary}
use Rattle.cad_map.specs.Boundaries.{face_place}
use Rattle.cad_map.specs.Map.{Map, faces, has_face}
use Rattle.cad_map.specs.Merger.{handed_over}
use Rattle.cad_map.specs.Rings.{HasWholeRings}
use Rattle.cad_map.proofs.CallerLemmas.{Contains-first, Contains-later, Contains-cases, Contains-map, Contains-in_part, All-at_each, map-Contains}
use Rattle.half_table.specs.declared.half.Half.{Half}
use Rattle.half_table.specs.Half.{twin}
use Rattle.half_table.specs.Cycle.{holds}
use Rattle.half_table.specs.Rows.{HalfRows, origin_of, face, cycle}
use Rattle.half_paths.specs.Path.{strings_of}
use Rattle.half_paths.specs.Loose.{is_of}
use Rattle.key_lists.specs.Held.{Held, items_at}
use Rattle.cad_laws.specs.Local.{IsShown, side_by, IsLocal}
use Rattle.map_parts.specs.Labels.{IsOnRing}
use Rattle.map_parts.specs.Paths.{AreAlong, HasStringsMore}
use Rattle.map_parts.specs.Islands.{FitsTable}
use Rattle.map_parts.specs.Chains.{IsChainOf}
use Rattle.map_parts.specs.Handing.{is_placed, HandsOver, KeepsBoth, home_of, halves_kept, KeepsEach, HaveTwoFaces}
use Rattle.map_parts.proofs.RingCycles.{one-on, face-on, ring-held, held-ring}
use Rattle.map_parts.proofs.IslandTable.{more-old}
use Rattle.map_parts.proofs.IslandFits.{side-same, on-same}
use Rattle.map_parts.proofs.IslandFaces.{handed-ring}
use Rattle.map_parts.proofs.Permuted.{tail-permuted}
use Rattle.map_parts.proofs.KeptEach.{is_boundary, boundary-same, boundary-self, place-same, cases_face, home-is, none-kept, pick}
use Rattle.map_parts.proofs.Handed.{placed-yes, placed-no, placed-is}
use Rattle.map_parts.proofs.HomesHanded.{handed-face, homes-back}
use Rattle.map_parts.proofs.KeptIsland.{other_faces, under, halves-whole, halves-parted, others-same}
use Rattle.map_parts.proofs.ChainRings.{HasRings, has-rings, one-in, whole-cases, hands-differ, not-one, not-left, first-on, back-on, two-rings}

module _ {whole parted : Map} {outer inner : Face} {chain : List ℕ} {fc lc : Corner} {one left right : Boundary} {others : List Boundary}
    (it : IsChainOf whole parted outer inner chain fc lc one left right others) (rings : HasWholeRings whole) (parts : HasWholeRings parted) (long : 2 ≤ length chain)
    (two : HaveTwoFaces whole parted outer inner) (none : has_face whole inner ≡ false) {first : Half} {rest : List Half} (more : HasStringsMore whole parted (first ∷ rest))
    {old mid new : HalfRows} (origins_mid : (g : Half) → origin_of mid g ≡ origin_of old g) (origins : (g : Half) → origin_of new g ≡ origin_of mid g)
    (fits : FitsTable whole old) (local : IsLocal parted mid) (apart : (h : Half) → IsShown parted h → origin_of mid h ≢ origin_of mid (twin h)) (fits_new : FitsTable parted new)
    (along : AreAlong mid (first ∷ rest) (sides_of_chain chain))
    (faces_mid : (g : Half) → face mid g ≡ (if holds (cycle mid first) g then inner else if is_of (strings_of (first ∷ rest)) g then outer else face old g))
    (held one_held two_held now : Held Half) (keeps : KeepsEach whole old held) (gives : HandsOver mid (face_place outer) (face_place inner) held one_held)
    (fills : KeepsBoth (face_place inner) (face_place outer) first (twin first) one_held two_held) (hands : HandsOver new (face_place outer) (face_place inner) two_held now) where
  abbrev handed : Boundary → Boundary
  handed = handed_over outer inner

  abbrev O : List Half
  O = items_at held (face_place outer)

  abbrev K : List Half
  K = halves_kept whole held

  faces_apart : face_place outer ≢ face_place inner
  faces_apart same = it.differ (place-same outer inner same)

  nothing : items_at held (face_place inner) ≡ []
  nothing = keeps.none inner none

  -- a half of the first map on its ring
  old-on : (h : Half) (b : Boundary) → IsOnRing whole old b h → IsShown whole h × Contains (sides_of b.ring) (side_by mid h)
  old-on h b on = (on.shown, subst (Contains (sides_of b.ring)) (sym (side-same old mid origins_mid h)) on.side)

  on_left : IsOnRing parted mid left first
  on_left = first-on whole parted outer inner chain fc lc one left right others it parts long first rest more mid along

  on_right : IsOnRing parted mid right (twin first)
  on_right = back-on whole parted outer inner chain fc lc one left right others it parts long first rest more mid along

  ins : HasRings parted left right others
  ins = has-rings it.were

  -- ---- The faces that the halves have between

  left-face : (h : Half) → IsOnRing parted mid left h → face mid h ≡ inner
  left-face h on = faces_mid h ∙ ap (λ (t : Bool). if t then inner else if is_of (strings_of (first ∷ rest)) h then outer else face old h) (ring-held parted parts mid local apart left ins.has_left first h on_left on)

  -- off the left ring a half of the first map has kept its face
  same-face : (h : Half) → IsShown whole h → (IsOnRing parted mid left h → ⊥) → face mid h ≡ face old h
  same-face h shown off = faces_mid h ∙ by (holds (cycle mid first) h) refl
    where
      by : (t : Bool) → holds (cycle mid first) h ≡ t → (if t then inner else if is_of (strings_of (first ∷ rest)) h then outer else face old h) ≡ face old h
      by true held_so = absurd (off (held-ring parted parts mid local apart left ins.has_left first h on_left held_so))
      by false free = ap (λ (t : Bool). if t then outer else face old h) (more.new h shown)

  -- ---- Where the kept halves of the first map are in the second

  -- on one of the two rings, or on another one
  data IsPlaced (f : Face) (h : Half) : Type 0 where
    cut : home_of whole old h ≡ one → f ≡ outer → IsOnRing parted mid left h ⊎ IsOnRing parted mid right h → IsPlaced f h
    other : (c : Boundary) → Contains others c → IsOnRing parted mid c h → home_of whole old h ≡ handed c → (handed c).face ≡ f → IsPlaced f h

  place-kept : (f : Face) (h : Half) → Contains (items_at held (face_place f)) h → IsPlaced f h
  place-kept f h among =
      let at = keeps.on f h among in
      let b = at.0 in
      let home = home-is whole rings old b at.1 h at.2 in
      let on = old-on h b at.2 in
      elim (whole-cases whole parted outer inner chain fc lc one left right others it b at.1) [
        | inl same ↦
            cut (home ∙ sym same) (sym at.3 ∙ ap (λ (x : Boundary). x.face) (sym same) ∙ it.one_face)
            (two-rings whole parted outer inner chain fc lc one left right others it parts long first rest more mid along h on.0 (subst (λ (x : Boundary). Contains (sides_of x.ring) (side_by mid h)) (sym same) on.1))
        | inr found ↦
            let c = found.0 in
            other c found.1 (record {
              shown = more-old whole parted (first ∷ rest) more h on.0;
              side = subst (λ (r : Ring). Contains (sides_of r) (side_by mid h)) (ap (λ (x : Boundary). x.ring) (sym found.2) ∙ handed-ring outer inner c) on.1;
            }) (home ∙ sym found.2) (ap (λ (x : Boundary). x.face) found.2 ∙ at.3)
      ]

  shown-kept : (f : Face) (h : Half) → Contains (items_at held (face_place f)) h → IsShown whole h
  shown-kept f h among = (keeps.on f h among).2.shown

  face-kept : (f : Face) (h : Half) → Contains (items_at held (face_place f)) h → face old h ≡ f
  face-kept f h among = let at = keeps.on f h among in face-on whole rings old at.0 at.1 h at.2 (face old h) (fits.faces h at.2.shown) ∙ at.3

  -- of the other rings none has the inner face yet
  other-face : (f : Face) (h : Half) → Contains (items_at held (face_place f)) h → (IsOnRing parted mid left h → ⊥) → face mid h ≢ inner
  other-face f h among off is =
      let was : f ≡ inner = sym (face-kept f h among) ∙ sym (same-face h (shown-kept f h among) off) ∙ is in
      let low = (subst (λ (l : List Half). Contains l h) (ap (λ (g : Face). items_at held (face_place g)) was ∙ nothing) among).1 in
      absurd (omega (arith, low))

  told-left : (f : Face) (h : Half) → Contains (items_at held (face_place f)) h → is_placed mid (face_place inner) h ≡ true → IsOnRing parted mid left h
  told-left f h among is = by (place-kept f h among)
    where
      away : (IsOnRing parted mid left h → ⊥) → IsOnRing parted mid left h
      away off = absurd (true≢false (sym is ∙ placed-no mid (face_place inner) h (face_place (face mid h)) refl (λ same. other-face f h among off (place-same (face mid h) inner same))))

      by : IsPlaced f h → IsOnRing parted mid left h
      by (cut home at (inl on)) = on
      by (cut home at (inr on)) = away (λ also. hands-differ whole parted outer inner chain fc lc one left right others it (one-on parted parts mid left right ins.has_left ins.has_right h also on))
      by (other c there on home at) =
          away (λ also. not-left whole parted outer inner chain fc lc one left right others it parts c there (one-on parted parts mid left c ins.has_left (ins.has_other c there) h also on))

  -- ---- Which halves went first

  gone-outer : (h : Half) → Contains gives.gone h → Contains O h
  gone-outer h among = Contains-permutation (gives.gone ++ items_at one_held (face_place outer)) O h (IsPermutation-sym O (gives.gone ++ items_at one_held (face_place outer)) gives.split) (Contains-append_left gives.gone (items_at one_held (face_place outer)) h among)

  stay-outer : (h : Half) → Contains (items_at one_held (face_place outer)) h → Contains O h
  stay-outer h among = Contains-permutation (gives.gone ++ items_at one_held (face_place outer)) O h (IsPermutation-sym O (gives.gone ++ items_at one_held (face_place outer)) gives.split) (Contains-append_right gives.gone (items_at one_held (face_place outer)) h among)

  gone-left : (h : Half) → Contains gives.gone h → IsOnRing parted mid left h × (home_of whole old h ≡ one)
  gone-left h among =
      let there = gone-outer h among in
      let on = told-left outer h there (All-at_each (λ g. is_placed mid (face_place inner) g ≡ true) gives.gone h gives.goes among) in
      (on, by on (place-kept outer h there))
    where
      by : IsOnRing parted mid left h → IsPlaced outer h → home_of whole old h ≡ one
      by on (cut home at which) = home
      by on (other c there also home at) = absurd (not-left whole parted outer inner chain fc lc one left right others it parts c there (one-on parted parts mid left c ins.has_left (ins.has_other c there) h on also))

  first_inner : items_at one_held (face_place inner) ≡ gives.gone
  first_inner = gives.got ∙ ap (λ (l : List Half). l ++ gives.gone) nothing

  -- the half that was kept of the ring that is cut, and all others
  record IsCutHalf (kept : Half) (left_over : List Half) : Type 0 where
    pub split : IsPermutation K (kept ∷ left_over)
    pub home : home_of whole old kept ≡ one
    pub homes : IsPermutation (map (home_of whole old) left_over) (map handed others)

  cut-half : (k : Half) (ks : List Half) → IsPermutation K (k ∷ ks) → home_of whole old k ≡ one → IsCutHalf k ks
  cut-half k ks split home = record {
    split = split;
    home = home;
    homes =
        tail-permuted is_boundary boundary-same boundary-self one (map (home_of whole old) ks) (map handed others)
        (IsPermutation-trans (one ∷ map (home_of whole old) ks) (map (home_of whole old) K) (one ∷ map handed others)
        (subst (λ (b : Boundary). IsPermutation (b ∷ map (home_of whole old) ks) (map (home_of whole old) K)) home
        (IsPermutation-sym (map (home_of whole old) K) (map (home_of whole old) (k ∷ ks)) (IsPermutation-map (home_of whole old) K (k ∷ ks) split)))
        (IsPermutation-trans (map (home_of whole old) K) whole.boundaries (one ∷ map handed others) keeps.all (IsPermutation-sym (one ∷ map handed others) whole.boundaries it.are)));
  }

  some-half : (k : Half) × (ks : List Half) × IsCutHalf k ks
  some-half =
      let found = pick (home_of whole old) one K (Contains-permutation whole.boundaries (map (home_of whole old) K) one (IsPermutation-sym (map (home_of whole old) K) whole.boundaries keeps.all) (one-in whole parted outer inner chain fc lc one left right others it)) in
      (found.0, found.1, cut-half found.0 found.1 found.2 found.3)

  kept-in : (h : Half) → Contains K h → (f : Face) × Contains (items_at held (face_place f)) h
  kept-in h among = let at = Contains-in_part (λ f. items_at held (face_place f)) (faces whole) h among in (at.0, at.2)

  -- it is under the outer face
  cut-outer : (k : Half) → Contains K k → home_of whole old k ≡ one → Contains O k
  cut-outer k among home =
      let at = kept-in k among in
      by at.0 at.1 (place-kept at.0 k at.1)
    where
      by : (f : Face) → Contains (items_at held (face_place f)) k → IsPlaced f k → Contains O k
      by f there (cut same is which) = subst (λ (g : Face). Contains (items_at held (face_place g)) k) is there
      by f there (other c inside on same is) = absurd (not-one whole parted outer inner chain fc lc one left right others it rings c inside (sym home ∙ same))

  -- ---- The two ways

  abbrev hp : Half → Boundary
  hp = home_of parted new

  on-new : (b : Boundary) (h : Half) → IsOnRing parted mid b h → IsOnRing parted new b h
  on-new b h on = on-same mid new origins parted b h on

  -- one half comes, and it and that of the ring that is cut are on the two rings
  record IsDone : Type 0 where
    pub comes : Half
    pub kept : Half
    pub left_over : List Half
    pub cut : IsCutHalf kept left_over
    pub lists : IsPermutation (items_at two_held (face_place inner) ++ items_at two_held (face_place outer)) (comes ∷ O)
    pub rings_are : IsPermutation (hp comes ∷ hp kept ∷ []) (left ∷ right ∷ [])
    pub inner_on : (h : Half) → Contains (items_at two_held (face_place inner)) h → IsOnRing parted mid left h
    pub outer_on : (h : Half) → Contains (items_at two_held (face_place outer)) h → Contains O h ⊎ IsOnRing parted mid right h
    pub outer_off : (h : Half) → Contains (items_at two_held (face_place outer)) h → IsOnRing parted mid left h → ⊥

  home-left : (h : Half) → IsOnRing parted mid left h → hp h ≡ left
  home-left h on = home-is parted parts new left ins.has_left h (on-new left h on)

  home-right : (h : Half) → IsOnRing parted mid right h → hp h ≡ right
  home-right h on = home-is parted parts new right ins.has_right h (on-new right h on)

  stay-off : (h : Half) → Contains (items_at one_held (face_place outer)) h → IsOnRing parted mid left h → ⊥
  stay-off h among on =
      true≢false (sym (placed-yes mid (face_place inner) h (face_place inner) (ap face_place (sym (left-face h on))) refl)
      ∙ All-at_each (λ g. is_placed mid (face_place inner) g ≡ false) (items_at one_held (face_place outer)) h gives.stays among)

  done : IsDone
  done = by gives.gone refl
    where
      by : (gone : List Half) → gives.gone ≡ gone → IsDone
      by [] is =
          let filled = fills.none (first_inner ∙ is) in
          let k = some-half in
          let same : IsPermutation O (items_at one_held (face_place outer)) = subst (λ (l : List Half). IsPermutation O (l ++ items_at one_held (face_place outer))) is gives.split in
          let among = cut-outer k.0 (Contains-permutation (k.0 ∷ k.1) K k.0 (IsPermutation-sym K (k.0 ∷ k.1) k.2.split) (Contains-first k.0 k.1)) k.2.home in
          let off = stay-off k.0 (Contains-permutation O (items_at one_held (face_place outer)) k.0 same among) in
          record {
            comes = first;
            kept = k.0;
            left_over = k.1;
            cut = k.2;
            lists =
                subst (λ (l : List Half × List Half). IsPermutation (l.0 ++ l.1) (first ∷ O)) (λ i. (sym filled.0 i, sym filled.1 i))
                (IsPermutation-cons first (items_at one_held (face_place outer)) O (IsPermutation-sym O (items_at one_held (face_place outer)) same));
            rings_are =
                subst (λ (b : Boundary × Boundary). IsPermutation (b.0 ∷ b.1 ∷ []) (left ∷ right ∷ [])) (λ i. (sym (home-left first on_left) i, sym (home-right k.0 (on_the_right k.0 among off k.2.home)) i))
                (IsPermutation-refl (left ∷ right ∷ []));
            inner_on = λ h there. elim (Contains-cases first [] h (subst (λ (l : List Half). Contains l h) filled.0 there)) [
              | inl e ↦ subst (IsOnRing parted mid left) e on_left
              | inr low ↦ let no = low.1 in absurd (omega (arith, no))
            ];
            outer_on = λ h there. inl (stay-outer h (subst (λ (l : List Half). Contains l h) filled.1 there));
            outer_off = λ h there on. stay-off h (subst (λ (l : List Half). Contains l h) filled.1 there) on;
          }
        where
          on_the_right : (k : Half) → Contains O k → (IsOnRing parted mid left k → ⊥) → home_of whole old k ≡ one → IsOnRing parted mid right k
          on_the_right k among off home = which (place-kept outer k among)
            where
              which : IsPlaced outer k → IsOnRing parted mid right k
              which (cut same at (inl on)) = absurd (off on)
              which (cut same at (inr on)) = on
              which (other c inside on same at) = absurd (not-one whole parted outer inner chain fc lc one left right others it rings c inside (sym home ∙ same))
      by (g ∷ gs) is =
          let filled = fills.some (λ e. some-not gs (sym (first_inner ∙ is) ∙ e)) in
          let there = subst (λ (l : List Half). Contains l g) (sym is) (Contains-first g gs) in
          let at = gone-left g there in
          let M = items_at one_held (face_place outer) in
          let Q = flat_map (under whole parted outer inner two rings parts held) (other_faces whole parted outer inner two rings parts) in
          let split : IsPermutation K (g ∷ ((gs ++ M) ++ Q)) =
          IsPermutation-trans K (O ++ Q) (g ∷ ((gs ++ M) ++ Q)) (halves-whole whole parted outer inner two rings parts held)
          (IsPermutation-append_left Q O (g ∷ (gs ++ M)) (subst (λ (l : List Half). IsPermutation O (l ++ M)) is gives.split)) in
          record {
            comes = twin first;
            kept = g;
            left_over = (gs ++ M) ++ Q;
            cut = cut-half g ((gs ++ M) ++ Q) split at.1;
            lists =
                let moved : IsPermutation (gives.gone ++ (M ++ twin first ∷ [])) (twin first ∷ O) =
                subst (λ (l : List Half). IsPermutation l (twin first ∷ O)) (append_assoc gives.gone M (twin first ∷ []))
                (IsPermutation-trans ((gives.gone ++ M) ++ twin first ∷ []) (twin first ∷ (gives.gone ++ M)) (twin first ∷ O) (IsPermutation-to_front (gives.gone ++ M) (twin first))
                (IsPermutation-cons (twin first) (gives.gone ++ M) O (IsPermutation-sym O (gives.gone ++ M) gives.split))) in
                subst (λ (l : List Half × List Half). IsPermutation (l.0 ++ l.1) (twin first ∷ O)) (λ i. (sym (filled.0 ∙ first_inner) i, sym filled.1 i)) moved;
            rings_are =
                subst (λ (b : Boundary × Boundary). IsPermutation (b.0 ∷ b.1 ∷ []) (left ∷ right ∷ [])) (λ i. (sym (home-right (twin first) on_right) i, sym (home-left g at.0) i))
                (IsPermutation-append_comm (right ∷ []) (left ∷ []));
            inner_on = λ h there. (gone-left h (subst (λ (l : List Half). Contains l h) (filled.0 ∙ first_inner) there)).0;
            outer_on = λ h there. elim (Contains-append_cases M (twin first ∷ []) h (subst (λ (l : List Half). Contains l h) filled.1 there)) [
              | inl was ↦ inl (stay-outer h was)
              | inr came ↦ elim (Contains-cases (twin first) [] h came) [
                | inl e ↦ inr (subst (IsOnRing parted mid right) e on_right)
                | inr low ↦ let no = low.1 in absurd (omega (arith, no))
              ]
            ];
            outer_off = λ h there on. elim (Contains-append_cases M (twin first ∷ []) h (subst (λ (l : List Half). Contains l h) filled.1 there)) [
              | inl was ↦ stay-off h was on
              | inr came ↦ elim (Contains-cases (twin first) [] h came) [
                | inl e ↦
                    hands-differ whole parted outer inner chain fc lc one left right others it
                    (one-on parted parts mid left right ins.has_left ins.has_right h on (subst (IsOnRing parted mid right) e on_right))
                | inr low ↦ let no = low.1 in absurd (omega (arith, no))
              ]
            ];
          }
        where
          some-not : (l : List Half) → (g ∷ l) ≡ [] → ⊥
          some-not l e = cc

  -- ---- One of each

  -- the face of a ring that keeps its place, or passes over
  face-now : (c : Boundary) (f : Face) → (handed c).face ≡ f → (c.face ≡ f) ⊎ ((c.face ≡ inner) × (f ≡ outer))
  face-now c f is = elim (cases_face c.face inner) [
    | inl same ↦ inr (same, sym is ∙ (handed-face outer inner c).0 same)
    | inr away ↦ inl (ap (λ (b : Boundary). b.face) (sym ((handed-face outer inner c).1 away)) ∙ is)
  ]

  -- a half on a ring of the second map has its face
  told-new : (b : Boundary) → Contains parted.boundaries b → (h : Half) → IsOnRing parted mid b h → face new h ≡ b.face
  told-new b there h on = let now_on = on-new b h on in face-on parted parts new b there h now_on (face new h) (fits_new.faces h now_on.shown)

  on-now : (f : Face) (h : Half) → Contains (items_at now (face_place f)) h → (b : Boundary) × Contains parted.boundaries b × IsOnRing parted new b h × (b.face ≡ f)
  on-now f h among = elim (cases_face f inner) [
    | inl same ↦
        elim (Contains-append_cases (items_at two_held (face_place inner)) hands.gone h (subst (λ (l : List Half). Contains l h) hands.got (subst (λ (g : Face). Contains (items_at now (face_place g)) h) same among))) [
          | inl was ↦ (left, ins.has_left, on-new left h (done.inner_on h was), it.left_face ∙ sym same)
          | inr came ↦
              let b = outer_ring h (two-outer h (Contains-append_left hands.gone (items_at now (face_place outer)) h came)) in
              let placed = All-at_each (λ g. is_placed new (face_place inner) g ≡ true) hands.gone h hands.goes came in
              (b.0, b.1, on-new b.0 h b.2, sym (told-new b.0 b.1 h b.2) ∙ place-same (face new h) inner (placed-is new (face_place inner) h placed) ∙ sym same)
        ]
    | inr away ↦ elim (cases_face f outer) [
      | inl same ↦
          let here = subst (λ (g : Face). Contains (items_at now (face_place g)) h) same among in
          let b = outer_ring h (two-outer h (Contains-append_right hands.gone (items_at now (face_place outer)) h here)) in
          let unplaced = All-at_each (λ g. is_placed new (face_place inner) g ≡ false) (items_at now (face_place outer)) h hands.stays here in (
            b.0,
            b.1,
            on-new b.0 h b.2,
            (elim b.3 [
              | inl is ↦ is
              | inr is ↦ absurd (true≢false (sym (placed-yes new (face_place inner) h (face_place inner) (ap face_place (sym (told-new b.0 b.1 h b.2 ∙ is))) refl) ∙ unplaced))
            ]) ∙ sym same,
          )
      | inr far ↦
          let nay : ¬ (face_place outer ≡ face_place f) = λ e. far (sym (place-same outer f e)) in
          let nor : ¬ (face_place inner ≡ face_place f) = λ e. away (sym (place-same inner f e)) in
          let was = subst (λ (l : List Half). Contains l h) (hands.others (face_place f) nay nor ∙ fills.others (face_place f) nay nor ∙ gives.others (face_place f) nay nor) among in
          still f h away far (place-kept f h was)
    ]
  ]
    where
      two-outer : (g : Half) → Contains (hands.gone ++ items_at now (face_place outer)) g → Contains (items_at two_held (face_place outer)) g
      two-outer g = Contains-permutation (hands.gone ++ items_at now (face_place outer)) (items_at two_held (face_place outer)) g (IsPermutation-sym (items_at two_held (face_place outer)) (hands.gone ++ items_at now (face_place outer)) hands.split)

      -- a half that was under the outer face is on a ring of one of the two faces
      outer_ring : (g : Half) → Contains (items_at two_held (face_place outer)) g → (b : Boundary) × Contains parted.boundaries b × IsOnRing parted mid b g × ((b.face ≡ outer) ⊎ (b.face ≡ inner))
      outer_ring g there = elim (done.outer_on g there) [
        | inl was ↦ by (place-kept outer g was)
        | inr came ↦ (right, ins.has_right, came, inl it.right_face)
      ]
        where
          by : IsPlaced outer g → (b : Boundary) × Contains parted.boundaries b × IsOnRing parted mid b g × ((b.face ≡ outer) ⊎ (b.face ≡ inner))
          by (cut home at (inl on)) = (left, ins.has_left, on, inr it.left_face)
          by (cut home at (inr on)) = (right, ins.has_right, on, inl it.right_face)
          by (other c inside on home at) = (c, ins.has_other c inside, on, elim (face-now c outer at) [ inl is ↦ inl is | inr is ↦ inr is.0 ])

      still : (g : Face) (k : Half) → g ≢ inner → g ≢ outer → IsPlaced g k → (b : Boundary) × Contains parted.boundaries b × IsOnRing parted new b k × (b.face ≡ g)
      still g k away far (cut home at on) = absurd (far at)
      still g k away far (other c inside on home at) = (c, ins.has_other c inside, on-new c k on, elim (face-now c g at) [ inl is ↦ is | inr is ↦ absurd (far is.1) ])

  pub chain-kept : KeepsEach parted new now
  chain-kept = record { on = on-now; all = all_homes; none = none_now }
    where
      total : IsPermutation (halves_kept parted now) (done.comes ∷ K)
      total =
          let I = items_at now (face_place inner) in
          let P = items_at now (face_place outer) in
          let A = items_at two_held (face_place inner) in
          let B = items_at two_held (face_place outer) in
          let R = flat_map (under whole parted outer inner two rings parts now) (other_faces whole parted outer inner two rings parts) in
          let Q = flat_map (under whole parted outer inner two rings parts held) (other_faces whole parted outer inner two rings parts) in
          let same : R ≡ Q = others-same whole parted outer inner two rings parts held now (λ n away far. hands.others n away far ∙ fills.others n away far ∙ gives.others n away far) in
          let one_list : IsPermutation (I ++ P) (A ++ B) =
          subst (λ (l : List Half). IsPermutation (l ++ P) (A ++ B)) (sym hands.got)
          (subst (λ (l : List Half). IsPermutation l (A ++ B)) (sym (append_assoc A hands.gone P))
          (IsPermutation-append_right A (hands.gone ++ P) B (IsPermutation-sym B (hands.gone ++ P) hands.split))) in
          let lists : IsPermutation (I ++ P) (done.comes ∷ O) = IsPermutation-trans (I ++ P) (A ++ B) (done.comes ∷ O) one_list done.lists in
          let all : IsPermutation ((I ++ P) ++ R) (done.comes ∷ (O ++ Q)) =
          subst (λ (l : List Half). IsPermutation ((I ++ P) ++ l) (done.comes ∷ (O ++ Q))) (sym same) (IsPermutation-append_left Q (I ++ P) (done.comes ∷ O) lists) in
          IsPermutation-trans (halves_kept parted now) (I ++ (P ++ R)) (done.comes ∷ K) (halves-parted whole parted outer inner two rings parts now)
          (subst (λ (l : List Half). IsPermutation l (done.comes ∷ K)) (append_assoc I P R)
          (IsPermutation-trans ((I ++ P) ++ R) (done.comes ∷ (O ++ Q)) (done.comes ∷ K) all
          (IsPermutation-cons done.comes (O ++ Q) K (IsPermutation-sym K (O ++ Q) (halves-whole whole parted outer inner two rings parts held)))))

      -- the others have the other rings
      other_homes : IsPermutation (map hp done.left_over) others
      other_homes =
          homes-back parted parts outer inner others ins.has_other whole old new done.left_over (λ h among.
          let found = map-Contains handed others (home_of whole old h)
          (Contains-permutation (map (home_of whole old) done.left_over) (map handed others) (home_of whole old h) done.cut.homes (Contains-map_of h among)) in
          let at = kept-in h (Contains-permutation (done.kept ∷ done.left_over) K h (IsPermutation-sym K (done.kept ∷ done.left_over) done.cut.split) (Contains-later done.kept done.left_over h among)) in
          by h found.0 found.1 found.2 (place-kept at.0 h at.1)) done.cut.homes
        where
          Contains-map_of : (h : Half) → Contains done.left_over h → Contains (map (home_of whole old) done.left_over) (home_of whole old h)
          Contains-map_of h among = Contains-map (home_of whole old) done.left_over h among

          by : (h : Half) (c : Boundary) → Contains others c → handed c ≡ home_of whole old h → {f : Face} → IsPlaced f h → (c : Boundary) × Contains others c × (hp h ≡ c) × (home_of whole old h ≡ handed c)
          by h c there is (cut home at on) = absurd (not-one whole parted outer inner chain fc lc one left right others it rings c there (sym home ∙ sym is))
          by h c there is (other d inside on home at) = (d, inside, home-is parted parts new d (ins.has_other d inside) h (on-new d h on), home)

      all_homes : IsPermutation (map hp (halves_kept parted now)) parted.boundaries
      all_homes =
          let listed = done.comes ∷ done.kept ∷ done.left_over in
          let first_step : IsPermutation (halves_kept parted now) listed =
          IsPermutation-trans (halves_kept parted now) (done.comes ∷ K) listed total (IsPermutation-cons done.comes K (done.kept ∷ done.left_over) done.cut.split) in
          let second_step : IsPermutation (map hp listed) ((left ∷ right ∷ []) ++ others) =
          IsPermutation-trans (map hp listed) ((left ∷ right ∷ []) ++ map hp done.left_over) ((left ∷ right ∷ []) ++ others)
          (IsPermutation-append_left (map hp done.left_over) (hp done.comes ∷ hp done.kept ∷ []) (left ∷ right ∷ []) done.rings_are)
          (IsPermutation-append_right (left ∷ right ∷ []) (map hp done.left_over) others other_homes) in
          IsPermutation-trans (map hp (halves_kept parted now)) (map hp listed) parted.boundaries (IsPermutation-map hp (halves_kept parted now) listed first_step)
          (IsPermutation-trans (map hp listed) (left ∷ right ∷ others) parted.boundaries second_step (IsPermutation-sym parted.boundaries (left ∷ right ∷ others) it.were))

      none_now : (f : Face) → has_face parted f ≡ false → items_at now (face_place f) ≡ []
      none_now f nay = none-kept parted parts new now on-now f nay

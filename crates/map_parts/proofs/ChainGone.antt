-- The table and the kept halves after a chain was taken out.
use Rattle.std.proofs.Common.{◌≡◌, ◌≢◌, ◌⊎◌, ℕ, ◌≤◌, Bool, true, false, List, [], ◌∷◌, ◌++◌, map, length, refl, sym, ap, ◌∙◌, subst, inl, inr, true≢false, if◌then◌else◌, arith}
use Rattle.std.specs.Prelude.{IsPermutation, flat_map}
use Rattle.std.specs.List.{AllByRecursion, Contains}
use Rattle.std.proofs.lemmas.List.{map-append}
use Rattle.std.proofs.lemmas.List.Elements.{Contains-append_right, Contains-append_left, Contains-append_cases}
use Rattle.std.proofs.lemmas.List.Sorted.{IsPermutation-sym, IsPermutation-trans, IsPermutation-cons, IsPermutation-map, IsPermutation-append_left, IsPermutation-append_right, IsPermutation-to_front, Contains-permutation}
use Rattle.cad_rows.specs.declared.names.Face.{Face}
use Rattle.cad_rings.specs.Cycle.{Ring, sides_of, Corner}
use Rattle.cad_rings.specs.Surgery.{sides_of_chain}
use Rattle.cad_map.specs.Chain.{start_of, next_of, end_of, last_but_one}
use Rattle.cad_map.specs.declared.boundary.Boundary.{Boundary}
use Rattle.cad_map.specs.Boundaries.{face_place}
use Rattle.cad_map.specs.Map.{Map}
use Rattle.cad_map.specs.Merger.{handed_over}
use Rattle.cad_map.specs.Rings.{HasWholeRings}
use Rattle.cad_map.specs.Views.{HasSide}
use Rattle.cad_map.proofs.CallerLemmas.{Contains-first, Contains-later, Contains-cases, Contains-map, Contains-in_part, All-at_each, All-from_each, list_any-Contains}
use Rattle.half_table.specs.declared.half.Half.{Half}
use Rattle.half_table.specs.Half.{twin, is_half}
use Rattle.half_table.proofs.Halves.{is_half-self}
use Rattle.half_table.specs.Cycle.{holds}
use Rattle.half_table.specs.Rows.{HalfRows, has, next, origin_of, face, cycle}
use Rattle.half_paths.specs.Path.{strings_of, last_of, AreElsewhere}
use Rattle.half_paths.specs.Loose.{is_of}
use Rattle.key_lists.specs.Held.{Held, items_at}
use Rattle.cad_laws.specs.Local.{IsShown, side_by, IsLocal}
use Rattle.map_parts.specs.Labels.{IsOnRing}
use Rattle.map_parts.specs.Parts.{HasHalves}
use Rattle.map_parts.specs.Paths.{AreAlong, HasStringsMore}
use Rattle.map_parts.specs.Relabelled.{on_cycles}
use Rattle.map_parts.specs.Islands.{FitsTable, AreOfRings}
use Rattle.map_parts.specs.Chains.{IsChainOf}
use Rattle.map_parts.specs.Handing.{is_placed, HandsOver, KeepsOne, home_of, halves_kept, KeepsEach, HaveTwoFaces}
use Rattle.map_parts.proofs.WholeStrings.{two-ends}
use Rattle.map_parts.proofs.PartsRings.{half-two}
use Rattle.map_parts.proofs.KeptShown.{bare}
use Rattle.map_parts.proofs.CycleRings.{cycle-next}
use Rattle.map_parts.proofs.AlongPaths.{of-elsewhere}
use Rattle.map_parts.proofs.RingCycles.{some-on, one-on, face-on, ring-held, held-ring, each-held, held-each, ring-has_side}
use Rattle.map_parts.proofs.IslandTable.{more-old, more-rest}
use Rattle.map_parts.proofs.IslandFits.{ends-same}
use Rattle.map_parts.proofs.IslandFaces.{handed-ring}
use Rattle.map_parts.proofs.Permuted.{rest-permuted, tail-permuted, turned}
use Rattle.map_parts.proofs.KeptEach.{is_boundary, boundary-same, boundary-self, place-same, cases_face, home-is, none-kept, pick}
use Rattle.map_parts.proofs.Handed.{placed-yes, placed-is}
use Rattle.map_parts.proofs.HomesHanded.{handed-face, inner-never, homes-handed}
use Rattle.map_parts.proofs.KeptIsland.{other_faces, under, halves-whole, halves-parted, other-differs, others-same}
use Rattle.map_parts.proofs.ChainAcross.{first-along, last-along}
use Rattle.map_parts.proofs.ChainRings.{HasRings, has-rings, one-in, handed-in, parted-cases, hands-differ, not-left, not-right, first-on, back-on, one-ring, other-shown}

module _ {whole parted : Map} {outer inner : Face} {chain : List ℕ} {fc lc : Corner} {one left right : Boundary} {others : List Boundary}
    (it : IsChainOf whole parted outer inner chain fc lc one left right others) (rings : HasWholeRings whole) (parts : HasWholeRings parted) (long : 2 ≤ length chain)
    {first : Half} {rest : List Half} (more : HasStringsMore whole parted (first ∷ rest)) {moved : List Half} {old : HalfRows} (new : HalfRows)
    (origins : (g : Half) → origin_of new g ≡ origin_of old g) (fits : FitsTable parted old) (of : AreOfRings parted old moved inner others)
    (along : AreAlong old (first ∷ rest) (sides_of_chain chain))
    (faces_new : (g : Half) → face new g ≡ (if is_of (strings_of (first ∷ rest)) g then inner else if holds (cycle old first) g then outer else if on_cycles old moved g then outer else face old g)) where
  abbrev handed : Boundary → Boundary
  handed = handed_over outer inner

  abbrev path : List Half
  path = first ∷ rest

  first_side : side_by old first ≡ (start_of chain, next_of chain)
  first_side = first-along (side_by old) first rest chain long along

  last_side : side_by old (last_of first rest) ≡ (last_but_one chain, end_of chain)
  last_side = last-along (side_by old) first rest chain long along

  pub two-old : (h : Half) → IsShown parted h → origin_of old h ≢ origin_of old (twin h)
  two-old h shown = half-two (bare parted old) fits.ends (two-ends parted parts) h shown

  ins : HasRings parted left right others
  ins = has-rings it.were

  on_left : IsOnRing parted old left first
  on_left = first-on whole parted outer inner chain fc lc one left right others it parts long first rest more old along

  on_right : IsOnRing parted old right (twin first)
  on_right = back-on whole parted outer inner chain fc lc one left right others it parts long first rest more old along

  never-both : (h : Half) → IsOnRing parted old left h → IsOnRing parted old right h → ⊥
  never-both h a b = hands-differ whole parted outer inner chain fc lc one left right others it (one-on parted parts old left right ins.has_left ins.has_right h a b)

  left-other : (h : Half) (c : Boundary) → Contains others c → IsOnRing parted old left h → IsOnRing parted old c h → ⊥
  left-other h c among a b = not-left whole parted outer inner chain fc lc one left right others it parts c among (one-on parted parts old left c ins.has_left (ins.has_other c among) h a b)

  held-left : (h : Half) → holds (cycle old first) h ≡ true → IsOnRing parted old left h
  held-left h held = held-ring parted parts old fits.local two-old left ins.has_left first h on_left held

  moved-other : (h : Half) → on_cycles old moved h ≡ true → (c : Boundary) × Contains others c × IsOnRing parted old c h × (c.face ≡ inner)
  moved-other h held = held-each parted parts old fits.local two-old others ins.has_other inner moved of.each h held

  told-old : (b : Boundary) → Contains parted.boundaries b → (h : Half) → IsOnRing parted old b h → face old h ≡ b.face
  told-old b there h on = face-on parted parts old b there h on (face old h) (fits.faces h on.shown)

  -- ---- The faces after the moved rings were handed back

  pub back-left : (h : Half) → IsOnRing parted old left h → (if on_cycles old moved h then outer else face old h) ≡ inner
  back-left h on = by (on_cycles old moved h) refl
    where
      by : (t : Bool) → on_cycles old moved h ≡ t → (if t then outer else face old h) ≡ inner
      by true held = let c = moved-other h held in absurd (left-other h c.0 c.1 on c.2)
      by false free = told-old left ins.has_left h on ∙ it.left_face

  back-right : (h : Half) → IsOnRing parted old right h → (if on_cycles old moved h then outer else face old h) ≡ outer
  back-right h on = by (on_cycles old moved h) refl
    where
      by : (t : Bool) → on_cycles old moved h ≡ t → (if t then outer else face old h) ≡ outer
      by true held = refl
      by false free = told-old right ins.has_right h on ∙ it.right_face

  pub back-other : (h : Half) (c : Boundary) → Contains others c → IsOnRing parted old c h → (if on_cycles old moved h then outer else face old h) ≡ (handed c).face
  back-other h c among on = by (on_cycles old moved h) refl (cases_face c.face inner)
    where
      by : (t : Bool) → on_cycles old moved h ≡ t → (c.face ≡ inner) ⊎ (c.face ≢ inner) → (if t then outer else face old h) ≡ (handed c).face
      by true held (inl same) = sym ((handed-face outer inner c).0 same)
      by true held (inr away) =
          let d = moved-other h held in
          absurd (away (ap (λ (b : Boundary). b.face) (one-on parted parts old c d.0 (ins.has_other c among) (ins.has_other d.0 d.1) h on d.2) ∙ d.3))
      by false free (inl same) =
          let h' = of.all c among same in
          absurd (true≢false (sym (each-held parted parts old fits.local two-old c (ins.has_other c among) moved h'.0 h h'.1 h'.2 on) ∙ free))
      by false free (inr away) = told-old c (ins.has_other c among) h on ∙ ap (λ (b : Boundary). b.face) (sym ((handed-face outer inner c).1 away))

  -- ---- Where the halves of the first map are now

  pub data IsBack (h : Half) : Type 0 where
    cut : IsOnRing parted old left h ⊎ IsOnRing parted old right h → IsOnRing whole new one h → face new h ≡ outer → IsBack h
    other : (c : Boundary) → Contains others c → IsOnRing parted old c h → IsOnRing whole new (handed c) h → face new h ≡ (handed c).face → IsBack h

  side-new : (h : Half) → side_by new h ≡ side_by old h
  side-new h = λ i. (origins h i, origins (twin h) i)

  pub on-one : (h : Half) → IsShown whole h → IsOnRing parted old left h ⊎ IsOnRing parted old right h → IsOnRing whole new one h
  on-one h shown on = record {
    shown = shown;
    side = subst (Contains (sides_of one.ring)) (sym (side-new h)) (one-ring whole parted outer inner chain fc lc one left right others it parts long first rest more old along fits.local first_side last_side h shown on);
  }

  new-face : (h : Half) → IsShown whole h → face new h ≡ (if holds (cycle old first) h then outer else if on_cycles old moved h then outer else face old h)
  new-face h shown = faces_new h ∙ ap (λ (t : Bool). if t then inner else if holds (cycle old first) h then outer else if on_cycles old moved h then outer else face old h) (more.new h shown)

  free-face : (h : Half) → IsShown whole h → (IsOnRing parted old left h → ⊥) → face new h ≡ (if on_cycles old moved h then outer else face old h)
  free-face h shown off = new-face h shown ∙ by (holds (cycle old first) h) refl
    where
      by : (t : Bool) → holds (cycle old first) h ≡ t → (if t then outer else if on_cycles old moved h then outer else face old h) ≡ (if on_cycles old moved h then outer else face old h)
      by true held = absurd (off (held-left h held))
      by false free = refl

  pub is-back : (h : Half) → IsShown whole h → IsBack h
  is-back h shown =
      let at = some-on parted parts old fits.local two-old h (more-old whole parted path more h shown) in
      elim (parted-cases whole parted outer inner chain fc lc one left right others it at.0 at.1) [
        | inl same ↦
            let on = subst (λ (b : Boundary). IsOnRing parted old b h) (sym same) at.2 in
            cut (inl on) (on-one h shown (inl on))
            (new-face h shown ∙ ap (λ (t : Bool). if t then outer else if on_cycles old moved h then outer else face old h) (ring-held parted parts old fits.local two-old left ins.has_left first h on_left on))
        | inr later ↦ elim later [
          | inl same ↦
              let on = subst (λ (b : Boundary). IsOnRing parted old b h) (sym same) at.2 in
              cut (inr on) (on-one h shown (inr on)) (free-face h shown (λ a. never-both h a on) ∙ back-right h on)
          | inr among ↦
              other at.0 among at.2
              (record { shown = shown; side = subst (λ (r : Ring). Contains (sides_of r) (side_by new h)) (sym (handed-ring outer inner at.0)) (subst (Contains (sides_of at.0.ring)) (sym (side-new h)) at.2.side) })
              (free-face h shown (λ a. left-other h at.0 among a at.2) ∙ back-other h at.0 among at.2)
        ]
      ]

  one_there : Contains whole.boundaries one
  one_there = one-in whole parted outer inner chain fc lc one left right others it

  handed_there : (c : Boundary) → Contains others c → Contains whole.boundaries (handed c)
  handed_there = handed-in whole parted outer inner chain fc lc one left right others it

  pub fits-cut : IsLocal whole new → ((g : Half) → has new g ≡ has old g) → AllByRecursion (HasHalves old) whole.strings → FitsTable whole new
  fits-cut local same ends = record {
    local = local;
    ends = ends-same old new origins same whole.strings ends;
    faces = λ h shown. by h (is-back h shown);
  }
    where
      by : (h : Half) → IsBack h → HasSide whole (face new h) (side_by new h)
      by h (cut was on is) = subst (λ (f : Face). HasSide whole f (side_by new h)) (it.one_face ∙ sym is) (ring-has_side whole one (side_by new h) one_there on.side)
      by h (other c among was on is) = subst (λ (f : Face). HasSide whole f (side_by new h)) (sym is) (ring-has_side whole (handed c) (side_by new h) (handed_there c among) on.side)

  -- ---- The half that begins where the chain began

  pub start-on : AreElsewhere (next old (twin first)) path → IsShown whole (next old (twin first)) × IsOnRing whole new one (next old (twin first))
  start-on away =
      let h = next old (twin first) in
      let there = fits.local.there (twin first) on_right.shown in
      let on = held-ring parted parts old fits.local two-old right ins.has_right (twin first) h on_right (holds-next there) in
      let shown = more-rest whole parted path more h on.shown (of-elsewhere path h away) in
      (shown, on-one h shown (inr on))
    where
      on-holds : (l : List Half) (h : Half) → Contains l h → holds l h ≡ true
      on-holds l h among = list_any-Contains (is_half h) l h among (is_half-self h)

      holds-next : has old (twin first) ≡ true → holds (cycle old (twin first)) (next old (twin first)) ≡ true
      holds-next there = on-holds (cycle old (twin first)) (next old (twin first)) (cycle-next old fits.local.linked (twin first) there (twin first) (Contains-first (twin first) _))

  -- ---- The kept halves

  module _ (two : HaveTwoFaces whole parted outer inner) (back : HalfRows) (faces_back : (g : Half) → face back g ≡ (if on_cycles old moved g then outer else face old g))
      (held one_held two_held three_held now : Held Half) (start : Half) (keeps : KeepsEach parted old held)
      (gives : HandsOver back (face_place inner) (face_place outer) held one_held)
      (cleared : items_at two_held (face_place inner) ≡ []) (kept_others : (n : ℕ) → ¬ (face_place inner ≡ n) → items_at two_held n ≡ items_at one_held n)
      (hands : HandsOver new (face_place outer) (face_place inner) two_held three_held)
      (fills : KeepsOne (face_place inner) (face_place outer) start three_held now) (start_on : IsOnRing whole new one start) where
    abbrev I : List Half
    I = items_at one_held (face_place inner)

    abbrev O : List Half
    O = items_at held (face_place outer)

    abbrev P : List Half
    P = items_at three_held (face_place outer)

    abbrev G : List Half
    G = hands.gone

    abbrev R : List Half
    R = flat_map (under whole parted outer inner two rings parts held) (other_faces whole parted outer inner two rings parts)

    abbrev hp : Half → Boundary
    hp = home_of parted old

    abbrev hw : Half → Boundary
    hw = home_of whole new

    faces_apart : face_place outer ≢ face_place inner
    faces_apart same = it.differ (place-same outer inner same)

    -- ---- Where the kept halves were

    data WasAt (f : Face) (h : Half) : Type 0 where
      at_left : f ≡ inner → IsOnRing parted old left h → WasAt f h
      at_right : f ≡ outer → IsOnRing parted old right h → WasAt f h
      at_other : (c : Boundary) → Contains others c → IsOnRing parted old c h → c.face ≡ f → WasAt f h

    was-at : (f : Face) (h : Half) → Contains (items_at held (face_place f)) h → WasAt f h
    was-at f h among =
        let at = keeps.on f h among in
        elim (parted-cases whole parted outer inner chain fc lc one left right others it at.0 at.1) [
          | inl same ↦ at_left (sym at.3 ∙ ap (λ (b : Boundary). b.face) (sym same) ∙ it.left_face) (subst (λ (b : Boundary). IsOnRing parted old b h) (sym same) at.2)
          | inr later ↦ elim later [
            | inl same ↦ at_right (sym at.3 ∙ ap (λ (b : Boundary). b.face) (sym same) ∙ it.right_face) (subst (λ (b : Boundary). IsOnRing parted old b h) (sym same) at.2)
            | inr inside ↦ at_other at.0 inside at.2 at.3
          ]
        ]

    home-left : (h : Half) → IsOnRing parted old left h → hp h ≡ left
    home-left h on = home-is parted parts old left ins.has_left h on

    home-right : (h : Half) → IsOnRing parted old right h → hp h ≡ right
    home-right h on = home-is parted parts old right ins.has_right h on

    home-other : (h : Half) (c : Boundary) → Contains others c → IsOnRing parted old c h → hp h ≡ c
    home-other h c among on = home-is parted parts old c (ins.has_other c among) h on

    from-inner : (h : Half) → Contains (gives.gone ++ I) h → Contains (items_at held (face_place inner)) h
    from-inner h among = Contains-permutation (gives.gone ++ I) (items_at held (face_place inner)) h (IsPermutation-sym (items_at held (face_place inner)) (gives.gone ++ I) gives.split) among

    -- of the inner face's halves that of the left ring is left
    left-left : (h : Half) → Contains I h → hp h ≡ left
    left-left h among = by (was-at inner h (from-inner h (Contains-append_right gives.gone I h among)))
      where
        by : WasAt inner h → hp h ≡ left
        by (at_left is on) = home-left h on
        by (at_right is on) = absurd (it.differ (sym is))
        by (at_other c inside on is) =
            absurd (true≢false (sym (placed-yes back (face_place outer) h (face_place outer) (ap face_place (sym (faces_back h ∙ back-other h c inside on ∙ (handed-face outer inner c).0 is))) refl)
            ∙ All-at_each (λ g. is_placed back (face_place outer) g ≡ false) I h gives.stays among))

    -- and those that went were of the others
    gone-other : (h : Half) → Contains gives.gone h → (c : Boundary) × Contains others c × IsOnRing parted old c h × (c.face ≡ inner)
    gone-other h among = by (was-at inner h (from-inner h (Contains-append_left gives.gone I h among)))
      where
        by : WasAt inner h → (c : Boundary) × Contains others c × IsOnRing parted old c h × (c.face ≡ inner)
        by (at_right is on) = absurd (it.differ (sym is))
        by (at_other c inside on is) = (c, inside, on, is)
        by (at_left is on) =
            absurd (it.differ (sym (place-same (face back h) outer (placed-is back (face_place outer) h (All-at_each (λ g. is_placed back (face_place outer) g ≡ true) gives.gone h gives.goes among))) ∙ faces_back h ∙ back-left h on))

    two_outer : items_at two_held (face_place outer) ≡ O ++ gives.gone
    two_outer = kept_others (face_place outer) (λ e. faces_apart (sym e)) ∙ gives.got

    -- what is under the outer face then
    data IsUnder (h : Half) : Type 0 where
      of_right : IsOnRing parted old right h → IsUnder h
      of_other : (c : Boundary) → Contains others c → IsOnRing parted old c h → (handed c).face ≡ outer → IsUnder h

    is-under : (h : Half) → Contains (G ++ P) h → IsUnder h
    is-under h among =
        elim (Contains-append_cases O gives.gone h (subst (λ (l : List Half). Contains l h) two_outer
        (Contains-permutation (G ++ P) (items_at two_held (face_place outer)) h (IsPermutation-sym (items_at two_held (face_place outer)) (G ++ P) hands.split) among))) [
          | inl was ↦ by (was-at outer h was)
          | inr came ↦ let c = gone-other h came in of_other c.0 c.1 c.2 ((handed-face outer inner c.0).0 c.3)
        ]
      where
        by : WasAt outer h → IsUnder h
        by (at_left is on) = absurd (it.differ is)
        by (at_right is on) = of_right on
        by (at_other c inside on is) = of_other c inside on (ap (λ (b : Boundary). b.face) ((handed-face outer inner c).1 (λ e. it.differ (sym is ∙ e))) ∙ is)

    other-is_shown : (c : Boundary) → Contains others c → (h : Half) → IsOnRing parted old c h → IsShown whole h
    other-is_shown = other-shown whole parted outer inner chain fc lc one left right others it parts long first rest more old along

    -- a half of the first map hasn't the inner face
    shown-off : (h : Half) → IsShown whole h → face new h ≢ inner
    shown-off h shown is = by (is-back h shown)
      where
        by : IsBack h → ⊥
        by (cut was on at) = it.differ (sym at ∙ is)
        by (other c among was on at) = inner-never outer inner it.differ c (sym at ∙ is)

    -- those that went then are of the path, and so of the right ring
    went-right : (h : Half) → Contains G h → hp h ≡ right
    went-right h among = by (is-under h (Contains-append_left G P h among))
      where
        face_is : face new h ≡ inner
        face_is = place-same (face new h) inner (placed-is new (face_place inner) h (All-at_each (λ g. is_placed new (face_place inner) g ≡ true) G h hands.goes among))

        by : IsUnder h → hp h ≡ right
        by (of_right on) = home-right h on
        by (of_other c inside on is) = absurd (shown-off h (other-is_shown c inside h on) face_is)

    -- and those that are left are of the first map
    left-shown : (h : Half) → Contains P h → IsShown whole h
    left-shown h among = by (is_of (strings_of path) h) refl
      where
        parted_shown : IsUnder h → IsShown parted h
        parted_shown (of_right on) = on.shown
        parted_shown (of_other c inside on is) = on.shown

        by : (t : Bool) → is_of (strings_of path) h ≡ t → IsShown whole h
        by false away = more-rest whole parted path more h (parted_shown (is-under h (Contains-append_right G P h among))) away
        by true on =
            absurd (true≢false (sym (placed-yes new (face_place inner) h (face_place inner) (ap face_place (sym (faces_new h ∙ ap (λ (t : Bool). if t then inner else if holds (cycle old first) h then outer else if on_cycles old moved h then outer else face old h) on))) refl)
            ∙ All-at_each (λ g. is_placed new (face_place inner) g ≡ false) P h hands.stays among))

    -- a half under another face
    under-other : (h : Half) → Contains R h → (c : Boundary) × Contains others c × IsOnRing parted old c h
    under-other h among =
        let at = Contains-in_part (under whole parted outer inner two rings parts held) (other_faces whole parted outer inner two rings parts) h among in
        let far = other-differs whole parted outer inner two rings parts at.0 at.1 in
        by at.0 (λ e. far.0 (ap face_place (sym e))) (λ e. far.1 (ap face_place (sym e))) (was-at at.0 h at.2)
      where
        by : (f : Face) → f ≢ outer → f ≢ inner → WasAt f h → (c : Boundary) × Contains others c × IsOnRing parted old c h
        by f nay nor (at_left is on) = absurd (nor is)
        by f nay nor (at_right is on) = absurd (nay is)
        by f nay nor (at_other c inside on is) = (c, inside, on)

    -- ---- The rings of those that stay

    all-lists : IsPermutation (halves_kept parted held) (I ++ ((G ++ P) ++ R))
    all-lists =
        let H = items_at held (face_place inner) in
        let T = O ++ gives.gone in
        let swap : IsPermutation ((gives.gone ++ I) ++ (O ++ R)) (I ++ (T ++ R)) = turned gives.gone I O R in
        let parts_of : IsPermutation (H ++ (O ++ R)) ((gives.gone ++ I) ++ (O ++ R)) = IsPermutation-append_left (O ++ R) H (gives.gone ++ I) gives.split in
        let last : IsPermutation (I ++ (T ++ R)) (I ++ ((G ++ P) ++ R)) =
        IsPermutation-append_right I (T ++ R) ((G ++ P) ++ R) (IsPermutation-append_left R T (G ++ P) (subst (λ (l : List Half). IsPermutation l (G ++ P)) two_outer hands.split)) in
        IsPermutation-trans (halves_kept parted held) (H ++ (O ++ R)) (I ++ ((G ++ P) ++ R)) (halves-parted whole parted outer inner two rings parts held)
        (IsPermutation-trans (H ++ (O ++ R)) ((gives.gone ++ I) ++ (O ++ R)) (I ++ ((G ++ P) ++ R)) parts_of
        (IsPermutation-trans ((gives.gone ++ I) ++ (O ++ R)) (I ++ (T ++ R)) (I ++ ((G ++ P) ++ R)) swap last))

    rest-homes : IsPermutation (map hp ((G ++ P) ++ R)) (right ∷ others)
    rest-homes =
        let Y = (G ++ P) ++ R in
        let mapped : IsPermutation (map hp (halves_kept parted held)) (map hp I ++ map hp Y) =
        subst (IsPermutation (map hp (halves_kept parted held))) (map-append hp I Y) (IsPermutation-map hp (halves_kept parted held) (I ++ Y) all-lists) in
        let whole_list : IsPermutation (map hp I ++ map hp Y) ((left ∷ []) ++ (right ∷ others)) =
        IsPermutation-trans (map hp I ++ map hp Y) parted.boundaries (left ∷ right ∷ others)
        (IsPermutation-trans (map hp I ++ map hp Y) (map hp (halves_kept parted held)) parted.boundaries (IsPermutation-sym (map hp (halves_kept parted held)) (map hp I ++ map hp Y) mapped) keeps.all) it.were in
        rest-permuted is_boundary boundary-same boundary-self (is_boundary left) (map hp I) (map hp Y) (left ∷ []) (right ∷ others) whole_list
        (all-homes I (λ b. is_boundary left b ≡ true) (λ h among. ap (is_boundary left) (left-left h among) ∙ boundary-self left)) (boundary-self left, tt)
        (all-homes Y (λ b. is_boundary left b ≡ false) off-left) (
          not-same left right (hands-differ whole parted outer inner chain fc lc one left right others it),
          All-from_each (λ b. is_boundary left b ≡ false) others (λ c among. not-same left c (not-left whole parted outer inner chain fc lc one left right others it parts c among)),
        )
      where
        all-homes : (halves : List Half) (Q : Boundary → Type 0) → ((h : Half) → Contains halves h → Q (hp h)) → AllByRecursion Q (map hp halves)
        all-homes [] Q each = tt
        all-homes (h ∷ halves) Q each = (each h (Contains-first h halves), all-homes halves Q (λ g among. each g (Contains-later h halves g among)))

        not-same : (a b : Boundary) → a ≢ b → is_boundary a b ≡ false
        not-same a b differ = by (is_boundary a b) refl
          where
            by : (t : Bool) → is_boundary a b ≡ t → is_boundary a b ≡ false
            by true is = absurd (differ (boundary-same a b is))
            by false is = is

        off-left : (h : Half) → Contains ((G ++ P) ++ R) h → is_boundary left (hp h) ≡ false
        off-left h among = elim (Contains-append_cases (G ++ P) R h among) [
          | inl near ↦ by (is-under h near)
          | inr far ↦ let c = under-other h far in not-same left (hp h) (λ e. not-left whole parted outer inner chain fc lc one left right others it parts c.0 c.1 (e ∙ home-other h c.0 c.1 c.2))
        ]
          where
            by : IsUnder h → is_boundary left (hp h) ≡ false
            by (of_right on) = not-same left (hp h) (λ e. hands-differ whole parted outer inner chain fc lc one left right others it (e ∙ home-right h on))
            by (of_other c inside on is) = not-same left (hp h) (λ e. not-left whole parted outer inner chain fc lc one left right others it parts c inside (e ∙ home-other h c inside on))

    -- halves that stay, in both maps
    both-homes : (h : Half) → Contains (P ++ R) h → ((hp h ≡ right) × (hw h ≡ one)) ⊎ ((c : Boundary) × Contains others c × (hp h ≡ c) × (hw h ≡ handed c))
    both-homes h among = elim (Contains-append_cases P R h among) [
      | inl near ↦ by near (is-under h (Contains-append_right G P h near))
      | inr far ↦ let c = under-other h far in inr (c.0, c.1, home-other h c.0 c.1 c.2, handed-home c.0 c.1 h (other-is_shown c.0 c.1 h c.2) c.2)
    ]
      where
        handed-home : (c : Boundary) → Contains others c → (h : Half) → IsShown whole h → IsOnRing parted old c h → hw h ≡ handed c
        handed-home c inside h shown on = home-is whole rings new (handed c) (handed_there c inside) h (record {
          shown = shown;
          side = subst (λ (r : Ring). Contains (sides_of r) (side_by new h)) (sym (handed-ring outer inner c)) (subst (Contains (sides_of c.ring)) (sym (side-new h)) on.side);
        })

        by : Contains P h → IsUnder h → ((hp h ≡ right) × (hw h ≡ one)) ⊎ ((c : Boundary) × Contains others c × (hp h ≡ c) × (hw h ≡ handed c))
        by near (of_right on) = inl (home-right h on, home-is whole rings new one one_there h (on-one h (left-shown h near) (inr on)))
        by near (of_other c inside on is) = inr (c, inside, home-other h c inside on, handed-home c inside h (other-is_shown c inside h on) on)

    right-apart : Contains others right → ⊥
    right-apart among = not-right whole parted outer inner chain fc lc one left right others it parts right among refl

    -- halves with the other rings in the one map have them in the other
    others-handed : (halves : List Half) → ((h : Half) → Contains halves h → Contains (P ++ R) h) → IsPermutation (map hp halves) others → IsPermutation (map hw halves) (map handed others)
    others-handed halves sub homes =
        homes-handed parted parts outer inner others ins.has_other whole old new halves (λ h among.
        elim (both-homes h (sub h among)) [
          | inl e ↦ absurd (right-apart (Contains-permutation (map hp halves) others right homes (subst (Contains (map hp halves)) e.0 (Contains-map hp halves h among))))
          | inr c ↦ c
        ]) homes

    -- ---- What is kept now

    record IsLeft : Type 0 where
      pub list : List Half
      pub outer_is : items_at now (face_place outer) ≡ list
      pub homes : IsPermutation (map hw (list ++ R)) (one ∷ map handed others)
      pub each : (h : Half) → Contains list h → Contains P h ⊎ (h ≡ start)

    three_inner : items_at three_held (face_place inner) ≡ G
    three_inner = hands.got ∙ ap (λ (l : List Half). l ++ G) cleared

    is-left : IsLeft
    is-left = by G refl
      where
        by : (gone : List Half) → G ≡ gone → IsLeft
        by [] is =
            let homes : IsPermutation (map hp (P ++ R)) (right ∷ others) = subst (λ (l : List Half). IsPermutation (map hp ((l ++ P) ++ R)) (right ∷ others)) is rest-homes in
            let k = pick hp right (P ++ R) (Contains-permutation (right ∷ others) (map hp (P ++ R)) right (IsPermutation-sym (map hp (P ++ R)) (right ∷ others) homes) (Contains-first right others)) in
            let rest_of : IsPermutation (map hp k.1) others =
            tail-permuted is_boundary boundary-same boundary-self right (map hp k.1) others
            (IsPermutation-trans (right ∷ map hp k.1) (map hp (P ++ R)) (right ∷ others)
            (subst (λ (b : Boundary). IsPermutation (b ∷ map hp k.1) (map hp (P ++ R))) k.3 (IsPermutation-sym (map hp (P ++ R)) (map hp (k.0 ∷ k.1)) (IsPermutation-map hp (P ++ R) (k.0 ∷ k.1) k.2))) homes) in
            let inside : (h : Half) → Contains (k.0 ∷ k.1) h → Contains (P ++ R) h = λ h. Contains-permutation (k.0 ∷ k.1) (P ++ R) h (IsPermutation-sym (P ++ R) (k.0 ∷ k.1) k.2) in
            let own : hw k.0 ≡ one = elim (both-homes k.0 (inside k.0 (Contains-first k.0 k.1))) [
              | inl e ↦ e.1
              | inr c ↦ absurd (right-apart (subst (Contains others) (sym c.2 ∙ k.3) c.1))
            ] in
            record {
              list = P;
              outer_is = fills.none (three_inner ∙ is);
              homes =
                  IsPermutation-trans (map hw (P ++ R)) (map hw (k.0 ∷ k.1)) (one ∷ map handed others) (IsPermutation-map hw (P ++ R) (k.0 ∷ k.1) k.2)
                  (subst (λ (b : Boundary). IsPermutation (b ∷ map hw k.1) (one ∷ map handed others)) (sym own)
                  (IsPermutation-cons one (map hw k.1) (map handed others) (others-handed k.1 (λ h among. inside h (Contains-later k.0 k.1 h among)) rest_of)));
              each = λ h among. inl among;
            }
        by (g ∷ gs) is =
            let homes : IsPermutation (hp g ∷ map hp ((gs ++ P) ++ R)) (right ∷ others) = subst (λ (l : List Half). IsPermutation (map hp ((l ++ P) ++ R)) (right ∷ others)) is rest-homes in
            let went : (h : Half) → Contains (g ∷ gs) h → hp h ≡ right = λ h among. went-right h (subst (λ (l : List Half). Contains l h) (sym is) among) in
            let rest_of : IsPermutation (map hp ((gs ++ P) ++ R)) others =
            tail-permuted is_boundary boundary-same boundary-self right (map hp ((gs ++ P) ++ R)) others (subst (λ (b : Boundary). IsPermutation (b ∷ map hp ((gs ++ P) ++ R)) (right ∷ others)) (went g (Contains-first g gs)) homes) in
            let none_left : gs ≡ [] = no-more gs (λ h among. went h (Contains-later g gs h among)) rest_of in
            let last : IsPermutation (map hp (P ++ R)) others = subst (λ (l : List Half). IsPermutation (map hp ((l ++ P) ++ R)) others) none_left rest_of in
            record {
              list = P ++ start ∷ [];
              outer_is = fills.some (λ e. some-not g gs (sym (three_inner ∙ is) ∙ e));
              homes =
                  let front : IsPermutation ((P ++ start ∷ []) ++ R) (start ∷ (P ++ R)) = IsPermutation-append_left R (P ++ start ∷ []) (start ∷ P) (IsPermutation-to_front P start) in
                  IsPermutation-trans (map hw ((P ++ start ∷ []) ++ R)) (map hw (start ∷ (P ++ R))) (one ∷ map handed others) (IsPermutation-map hw ((P ++ start ∷ []) ++ R) (start ∷ (P ++ R)) front)
                  (subst (λ (b : Boundary). IsPermutation (b ∷ map hw (P ++ R)) (one ∷ map handed others)) (sym (home-is whole rings new one one_there start start_on))
                  (IsPermutation-cons one (map hw (P ++ R)) (map handed others) (others-handed (P ++ R) (λ h among. among) last)));
              each = λ h among. elim (Contains-append_cases P (start ∷ []) h among) [
                | inl was ↦ inl was
                | inr came ↦ elim (Contains-cases start [] h came) [
                  | inl e ↦ inr (sym e)
                  | inr low ↦ let no = low.1 in absurd (omega (arith, no))
                ]
              ];
            }
          where
            some-not : (h : Half) (l : List Half) → (h ∷ l) ≡ [] → ⊥
            some-not h l e = cc

            no-more : (hs : List Half) → ((h : Half) → Contains hs h → hp h ≡ right) → IsPermutation (map hp ((hs ++ P) ++ R)) others → hs ≡ []
            no-more [] each same = refl
            no-more (h ∷ hs) each same =
                absurd (right-apart (Contains-permutation (hp h ∷ map hp ((hs ++ P) ++ R)) others right same
                (subst (Contains (hp h ∷ map hp ((hs ++ P) ++ R))) (each h (Contains-first h hs)) (Contains-first (hp h) (map hp ((hs ++ P) ++ R))))))

    now-inner : items_at now (face_place inner) ≡ []
    now-inner = fills.gone

    now-other : (n : ℕ) → ¬ (face_place outer ≡ n) → ¬ (face_place inner ≡ n) → items_at now n ≡ items_at held n
    now-other n away far = fills.others n away far ∙ hands.others n away far ∙ kept_others n far ∙ gives.others n far away

    on-now : (f : Face) (h : Half) → Contains (items_at now (face_place f)) h → (b : Boundary) × Contains whole.boundaries b × IsOnRing whole new b h × (b.face ≡ f)
    on-now f h among = elim (cases_face f inner) [
      | inl same ↦
          let low = (subst (λ (l : List Half). Contains l h) (ap (λ (g : Face). items_at now (face_place g)) same ∙ now-inner) among).1 in
          absurd (omega (arith, low))
      | inr away ↦ elim (cases_face f outer) [
        | inl same ↦
            elim (is-left.each h (subst (λ (l : List Half). Contains l h) (ap (λ (g : Face). items_at now (face_place g)) same ∙ is-left.outer_is) among)) [
              | inl stays ↦ under_outer stays same (is-under h (Contains-append_right G P h stays))
              | inr is ↦ (one, one_there, subst (IsOnRing whole new one) (sym is) start_on, it.one_face ∙ sym same)
            ]
        | inr far ↦
            by away far (was-at f h (subst (λ (l : List Half). Contains l h)
            (now-other (face_place f) (λ e. far (sym (place-same outer f e))) (λ e. away (sym (place-same inner f e)))) among))
      ]
    ]
      where
        on_handed : (c : Boundary) → Contains others c → IsOnRing parted old c h → IsOnRing whole new (handed c) h
        on_handed c inside on = record {
          shown = other-is_shown c inside h on;
          side = subst (λ (r : Ring). Contains (sides_of r) (side_by new h)) (sym (handed-ring outer inner c)) (subst (Contains (sides_of c.ring)) (sym (side-new h)) on.side);
        }

        under_outer : Contains P h → f ≡ outer → IsUnder h → (b : Boundary) × Contains whole.boundaries b × IsOnRing whole new b h × (b.face ≡ f)
        under_outer stays same (of_right on) = (one, one_there, on-one h (left-shown h stays) (inr on), it.one_face ∙ sym same)
        under_outer stays same (of_other c inside on is) = (handed c, handed_there c inside, on_handed c inside on, is ∙ sym same)

        by : f ≢ inner → f ≢ outer → WasAt f h → (b : Boundary) × Contains whole.boundaries b × IsOnRing whole new b h × (b.face ≡ f)
        by away far (at_left is on) = absurd (away is)
        by away far (at_right is on) = absurd (far is)
        by away far (at_other c inside on is) =
            (handed c, handed_there c inside, on_handed c inside on, ap (λ (b : Boundary). b.face) ((handed-face outer inner c).1 (λ e. away (sym is ∙ e))) ∙ is)

    pub chain-gone : KeepsEach whole new now
    chain-gone = record { on = on-now; all = all_homes; none = none-kept whole rings new now on-now }
      where
        all_homes : IsPermutation (map hw (halves_kept whole now)) whole.boundaries
        all_homes =
            let S = flat_map (under whole parted outer inner two rings parts now) (other_faces whole parted outer inner two rings parts) in
            let same : S ≡ R = others-same whole parted outer inner two rings parts held now (λ n away far. now-other n away far) in
            let total : IsPermutation (halves_kept whole now) (is-left.list ++ R) =
            subst (λ (l : List Half). IsPermutation (halves_kept whole now) l) (λ i. is-left.outer_is i ++ same i) (halves-whole whole parted outer inner two rings parts now) in
            IsPermutation-trans (map hw (halves_kept whole now)) (map hw (is-left.list ++ R)) whole.boundaries (IsPermutation-map hw (halves_kept whole now) (is-left.list ++ R) total)
            (IsPermutation-trans (map hw (is-left.list ++ R)) (one ∷ map handed others) whole.boundaries is-left.homes it.are)

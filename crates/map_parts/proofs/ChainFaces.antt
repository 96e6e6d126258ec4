-- The faces of halves where a chain comes across a face.
use Rattle.std.proofs.Common.{◌≡◌, ◌≢◌, ◌⊎◌, ℕ, ◌≤◌, ◌*◌, ◌||◌, Bool, true, false, List, [], ◌∷◌, length, refl, sym, ap, ◌∙◌, subst, inl, inr, true≢false, if◌then◌else◌, arith, nat_eq}
use Rattle.std.specs.List.{Contains}
use Rattle.std.proofs.lemmas.Bool.Decides.{Decides-eqb}
use Rattle.cad_rows.specs.declared.names.Face.{Face}
use Rattle.cad_rings.specs.Cycle.{sides_of, Corner}
use Rattle.cad_rings.specs.Surgery.{sides_of_chain}
use Rattle.cad_map.specs.Chain.{start_of, next_of, end_of, last_but_one}
use Rattle.cad_map.specs.declared.boundary.Boundary.{Boundary}
use Rattle.cad_map.specs.Boundaries.{is_face}
use Rattle.cad_map.specs.Map.{Map}
use Rattle.cad_map.specs.Rings.{HasWholeRings}
use Rattle.cad_map.proofs.CallerLemmas.{Contains-first, list_any-Contains, is_face-same}
use Rattle.half_table.specs.declared.half.Half.{Half}
use Rattle.half_table.specs.Half.{twin, is_half}
use Rattle.half_table.specs.Cycle.{holds}
use Rattle.half_table.specs.Rows.{HalfRows, IsLinked, has, next, origin_of, face, cycle}
use Rattle.half_table.proofs.Closed.{has-cycle, cycle-only}
use Rattle.half_table.proofs.Halves.{is_half-self, is_half-twin}
use Rattle.half_paths.specs.Path.{strings_of, last_of, AreIn}
use Rattle.half_paths.specs.Loose.{is_of, AreLoose}
use Rattle.half_paths.proofs.Exchanged.{same-string}
use Rattle.cad_laws.specs.Local.{IsShown, side_by, IsLocal}
use Rattle.map_parts.specs.Labels.{IsOnRing}
use Rattle.map_parts.specs.Paths.{AreAlong, HasStringsMore}
use Rattle.map_parts.specs.Relabelled.{on_cycles, cycles_length}
use Rattle.map_parts.specs.Islands.{FitsTable, AreOfRings}
use Rattle.map_parts.specs.Chains.{IsChainOf}
use Rattle.map_parts.proofs.CycleRings.{cycle-each, cycle-next}
use Rattle.map_parts.proofs.Labels.{any-there}
use Rattle.map_parts.proofs.RingCycles.{one-on, face-on, ring-held, held-ring, each-held, held-each}
use Rattle.map_parts.proofs.IslandTable.{more-rest}
use Rattle.map_parts.proofs.IslandFaces.{handed-stays}
use Rattle.map_parts.proofs.ChainRings.{HasRings, has-rings, one-in, handed-in, parted-cases, first-on, one-ring, path-rings as on-rings}

-- ---- The cycles of loose strings

module _ (rows : HalfRows) (linked : IsLinked rows) where
  -- the cycle of a loose half holds it and its twin, and no other
  module _ (h : Half) (there : has rows h ≡ true) (on : next rows h ≡ twin h) (back : next rows (twin h) ≡ h) where
    pub loose-held : (g : Half) → (g ≡ h) ⊎ (g ≡ twin h) → holds (cycle rows h) g ≡ true
    loose-held g (inl is) = list_any-Contains (is_half g) (cycle rows h) g (subst (Contains (cycle rows h)) (sym is) (Contains-first h _)) (is_half-self g)
    loose-held g (inr is) =
        list_any-Contains (is_half g) (cycle rows h) g (subst (Contains (cycle rows h)) (on ∙ sym is) (cycle-next rows linked h there h (Contains-first h _))) (is_half-self g)

    pub held-loose : (g : Half) → holds (cycle rows h) g ≡ true → g.string ≡ h.string
    held-loose g held =
        either (cycle-each rows linked h there (λ x. (x ≡ h) ⊎ (x ≡ twin h)) step (inl refl) g (any-there g (cycle rows h) held))
      where
        step : (x : Half) → (x ≡ h) ⊎ (x ≡ twin h) → (next rows x ≡ h) ⊎ (next rows x ≡ twin h)
        step x (inl is) = inr (ap (next rows) is ∙ on)
        step x (inr is) = inl (ap (next rows) is ∙ back)

        either : (g ≡ h) ⊎ (g ≡ twin h) → g.string ≡ h.string
        either (inl is) = ap (λ (x : Half). x.string) is
        either (inr is) = ap (λ (x : Half). x.string) is

  -- the cycles of loose strings hold just their halves
  pub cycles-of_loose : (path : List Half) → AreIn rows path → AreLoose (next rows) path → (g : Half) → on_cycles rows path g ≡ is_of (strings_of path) g
  cycles-of_loose [] within loose g = refl
  cycles-of_loose (h ∷ path) within loose g = λ i. one i || cycles-of_loose path within.1 loose.1 g i
    where
      by : (s t : Bool) → holds (cycle rows h) g ≡ s → nat_eq g.string h.string ≡ t → s ≡ t
      by true true e f = refl
      by false false e f = refl
      by true false e f = absurd (true≢false (sym ((Decides-eqb g.string h.string).1 (held-loose h within.0 loose.0.0 loose.0.1 g e)) ∙ f))
      by false true e f = absurd (true≢false (sym (loose-held h within.0 loose.0.0 loose.0.1 g (same-string g h f)) ∙ e))

      one : holds (cycle rows h) g ≡ nat_eq g.string h.string
      one = by (holds (cycle rows h) g) (nat_eq g.string h.string) refl refl

  -- and so they are two halves a string
  pub length-of_loose : (path : List Half) → AreIn rows path → AreLoose (next rows) path → cycles_length rows path ≡ 2 * length path
  length-of_loose [] within loose = refl
  length-of_loose (h ∷ path) within loose =
      let ring = has-cycle rows linked h (twin h ∷ []) within.0 ((loose.0.0, loose.0.1), (ap (λ (t : Bool). t || false) (is_half-twin h), (refl, tt))) in
      let two = ap length (cycle-only rows linked h (twin h ∷ []) ring) in
      let later = length-of_loose path within.1 loose.1 in
      omega (arith, two, later)

-- ---- The faces of the two rings and of the others

module _ (whole parted : Map) (outer inner : Face) (chain : List ℕ) (fc lc : Corner) (one left right : Boundary) (others : List Boundary)
    (it : IsChainOf whole parted outer inner chain fc lc one left right others) (rings : HasWholeRings whole) (parts : HasWholeRings parted) (long : 2 ≤ length chain)
    (first : Half) (rest : List Half) (more : HasStringsMore whole parted (first ∷ rest)) (old mid : HalfRows) (fits : FitsTable whole old) (local : IsLocal parted mid)
    (two : (h : Half) → IsShown parted h → origin_of mid h ≢ origin_of mid (twin h)) (same_origin : (g : Half) → origin_of mid g ≡ origin_of old g)
    (along : AreAlong mid (first ∷ rest) (sides_of_chain chain)) (first_side : side_by mid first ≡ (start_of chain, next_of chain))
    (last_side : side_by mid (last_of first rest) ≡ (last_but_one chain, end_of chain)) (moved : List Half) (of : AreOfRings parted mid moved inner others) where
  abbrev path : List Half
  path = first ∷ rest

  ins : HasRings parted left right others
  ins = has-rings it.were

  old-side : (g : Half) → side_by old g ≡ side_by mid g
  old-side g = λ i. (sym (same_origin g) i, sym (same_origin (twin g)) i)

  -- the path's first half is on the left ring
  first-left : IsOnRing parted mid left first
  first-left = first-on whole parted outer inner chain fc lc one left right others it parts long first rest more mid along

  -- a half of the path is on the left ring or on the right one
  path-rings : (g : Half) → IsShown parted g → is_of (strings_of path) g ≡ true → IsOnRing parted mid left g ⊎ IsOnRing parted mid right g
  path-rings = on-rings whole parted outer inner chain fc lc one left right others it parts long first rest more mid along

  -- a half of the first map that is on the right ring was on the ring that is cut
  cut-face : (g : Half) → IsShown whole g → IsOnRing parted mid right g → face old g ≡ outer
  cut-face g shown on =
      let had = one-ring whole parted outer inner chain fc lc one left right others it parts long first rest more mid along local first_side last_side g shown (inr on) in
      face-on whole rings old one (one-in whole parted outer inner chain fc lc one left right others it) g
      (record { shown = shown; side = subst (Contains (sides_of one.ring)) (sym (old-side g)) had }) (face old g) (fits.faces g shown) ∙ it.one_face

  -- and on a ring that keeps its face, it has had it
  same-face : (b : Boundary) → Contains others b → is_face inner b.face ≡ false → (g : Half) → IsShown whole g → IsOnRing parted mid b g → face old g ≡ b.face
  same-face b among away g shown on =
      let there : Contains whole.boundaries b = subst (Contains whole.boundaries) (handed-stays outer inner b away) (handed-in whole parted outer inner chain fc lc one left right others it b among) in
      face-on whole rings old b there g (record { shown = shown; side = subst (Contains (sides_of b.ring)) (sym (old-side g)) on.side }) (face old g) (fits.faces g shown)

  module _ (new : Half → Face)
      (faces : (g : Half) → new g ≡ (if on_cycles mid moved g then inner else if holds (cycle mid first) g then inner else if is_of (strings_of path) g then outer else face old g)) where
    by_cycles : (b : Boundary) → Contains parted.boundaries b → (g : Half) → IsOnRing parted mid b g → (s t u : Bool)
        → on_cycles mid moved g ≡ s → holds (cycle mid first) g ≡ t → is_of (strings_of path) g ≡ u → (if s then inner else if t then inner else if u then outer else face old g) ≡ b.face
    by_cycles b there g on true t u is_s is_t is_u =
        let c = held-each parted parts mid local two others ins.has_other inner moved of.each g is_s in
        sym c.3 ∙ ap (λ (x : Boundary). x.face) (one-on parted parts mid c.0 b (ins.has_other c.0 c.1) there g c.2 on)
    by_cycles b there g on false true u is_s is_t is_u =
        sym it.left_face ∙ ap (λ (x : Boundary). x.face) (one-on parted parts mid left b ins.has_left there g (held-ring parted parts mid local two left ins.has_left first g first-left is_t) on)
    by_cycles b there g on false false true is_s is_t is_u = elim (path-rings g on.shown is_u) [
      | inl a ↦ absurd (true≢false (sym (ring-held parted parts mid local two left ins.has_left first g first-left a) ∙ is_t))
      | inr r ↦ sym it.right_face ∙ ap (λ (x : Boundary). x.face) (one-on parted parts mid right b ins.has_right there g r on)
    ]
    by_cycles b there g on false false false is_s is_t is_u =
        let shown = more-rest whole parted path more g on.shown is_u in
        elim (parted-cases whole parted outer inner chain fc lc one left right others it b there) [
          | inl same ↦ absurd (true≢false (sym (ring-held parted parts mid local two left ins.has_left first g first-left (subst (λ (x : Boundary). IsOnRing parted mid x g) (sym same) on)) ∙ is_t))
          | inr later ↦ elim later [
            | inl same ↦ cut-face g shown (subst (λ (x : Boundary). IsOnRing parted mid x g) (sym same) on) ∙ sym it.right_face ∙ ap (λ (x : Boundary). x.face) same
            | inr among ↦ other_face among shown (is_face inner b.face) refl
          ]
        ]
      where
        other_face : Contains others b → IsShown whole g → (t : Bool) → is_face inner b.face ≡ t → face old g ≡ b.face
        other_face among shown true is =
            let h = of.all b among (sym (is_face-same inner b.face is)) in
            absurd (true≢false (sym (each-held parted parts mid local two b there moved h.0 g h.1 h.2 on) ∙ is_s))
        other_face among shown false is = same-face b among is g shown on

    pub chain-labelled : (b : Boundary) → Contains parted.boundaries b → (g : Half) → IsOnRing parted mid b g → new g ≡ b.face
    chain-labelled b there g on = faces g ∙ by_cycles b there g on (on_cycles mid moved g) (holds (cycle mid first) g) (is_of (strings_of path) g) refl refl refl

-- The corners of a point that a chain, an island or a join doesn't have are the same in both maps.
use Rattle.std.proofs.Common.{◌≡◌, ◌≢◌, ℕ, ◌≤◌, ◌⊎◌, inl, inr, refl, sym, ap, subst, ◌∙◌, List, [], ◌∷◌, ◌++◌, length, arith}
use Rattle.std.proofs.lemmas.List.Elements.{Contains-append_right}
use Rattle.std.specs.Prelude.{◌↔◌}
use Rattle.std.specs.List.{Contains}
use Rattle.cad_rings.specs.Cycle.{Ring, Side, sides_of, Corner}
use Rattle.cad_rings.specs.Surgery.{sides_of_chain}
use Rattle.cad_map.specs.Chain.{start_of, inner_of, end_of}
use Rattle.cad_map.specs.Map.{Map, all_sides}
use Rattle.cad_map.specs.Rings.{HasWholeRings}
use Rattle.cad_map.proofs.CallerLemmas.{All-join, in_parts, ends-along, ends-chain, Contains-first, All-at_each, All-from_each, of_both_ways, opposite-in_all}
use Rattle.cad_laws.specs.Parting.{HasCorner, IsOn, IsParted, HasIsland}
use Rattle.cad_laws.specs.Joining.{WasCorner, IsJoinedAt}
use Rattle.cad_laws.specs.Joining.WasCorner.{stood, before_first, before_second, behind_first, behind_second}
use Rattle.cad_laws.proofs.MapCorners.{corner-in, two-whole, some-corner}

-- ---- A chain and an island

-- the ends of each of these sides are among these points
abbrev pub HasEndsOf : List ℕ → List Side → Type 0
HasEndsOf points sides = (s : Side) → Contains sides s → Contains points s.0 × Contains points s.1

pub chain-ends : (chain : List ℕ) → HasEndsOf chain (sides_of_chain chain)
chain-ends chain s h =
    All-at_each (λ (t : Side). Contains chain t.0 × Contains chain t.1) (sides_of_chain chain) s
    (ends-chain (Contains chain) chain (All-from_each (Contains chain) chain (λ q k. k))) h

pub ring-ends : (ring : Ring) → HasEndsOf ring (sides_of ring)
ring-ends [] s h = let low = h.1 in absurd (omega arith)
ring-ends (a ∷ points) s h =
    let ring = a ∷ points in
    All-at_each (λ (t : Side). Contains ring t.0 × Contains ring t.1) (sides_of ring) s
    (ends-along (Contains ring) a points a
    (All-join (Contains ring) ring (a ∷ []) (All-from_each (Contains ring) ring (λ q k. k))
    (Contains-first a points, tt))) h

-- a corner with one of the sides is at one of the points
at-point : (points : List ℕ) (sides : List Side) → HasEndsOf points sides → (c : Corner)
    → IsOn sides c → Contains points c.at
at-point points sides ends c on = elim on [
  | inl before ↦ elim (of_both_ways sides (c.before, c.at) before) [
    | inl h ↦ (ends (c.before, c.at) h).1
    | inr h ↦ (ends (c.at, c.before) h).0
  ]
  | inr behind ↦ elim (of_both_ways sides (c.at, c.after) behind) [
    | inl h ↦ (ends (c.at, c.after) h).0
    | inr h ↦ (ends (c.after, c.at) h).1
  ]
]

start-there : (chain : List ℕ) → 2 ≤ length chain → Contains chain (start_of chain)
start-there chain two =
    let rest = inner_of chain ++ end_of chain ∷ [] in
    subst (λ (l : List ℕ). Contains l (start_of chain)) (sym (in_parts chain two))
    (Contains-first (start_of chain) rest)

end-there : (chain : List ℕ) → 2 ≤ length chain → Contains chain (end_of chain)
end-there chain two =
    let front = start_of chain ∷ inner_of chain in
    subst (λ (l : List ℕ). Contains l (end_of chain)) (sym (in_parts chain two))
    (Contains-append_right front (end_of chain ∷ []) (end_of chain)
    (Contains-first (end_of chain) []))

pub corners-parted : (whole parted : Map) (chain : List ℕ) (first last : Corner)
    → IsParted whole parted chain first last → 2 ≤ length chain → (q : ℕ) → (¬ Contains chain q)
    → (c : Corner) → c.at ≡ q → HasCorner parted c ↔ HasCorner whole c
corners-parted whole parted chain first last it two q off c at = (
  λ h.
      it.joins c h (λ on. off (subst (Contains chain) at
      (at-point chain (sides_of_chain chain) (chain-ends chain) c on))),
  λ h.
      it.stays c h
      (λ e. off (subst (Contains chain)
      (sym it.first_at ∙ ap (λ (d : Corner). d.at) (sym e) ∙ at) (start-there chain two)))
      (λ e. off (subst (Contains chain)
      (sym it.last_at ∙ ap (λ (d : Corner). d.at) (sym e) ∙ at) (end-there chain two))),
)

pub corners-island : (whole parted : Map) (ring : Ring) → HasIsland whole parted ring → (q : ℕ)
    → (¬ Contains ring q) → (c : Corner) → c.at ≡ q → HasCorner parted c ↔ HasCorner whole c
corners-island whole parted ring it q off c at = (
  λ h.
      it.joins c h (λ on. off (subst (Contains ring) at
      (at-point ring (sides_of ring) (ring-ends ring) c on))),
  λ h. it.stays c h,
)

-- ---- A join and a split

module _ (m after : Map) (p a b : ℕ) (it : IsJoinedAt m after p a b) (rings : HasWholeRings m) where
  -- a side to the point leads from one of the two
  pub to-point : (v : ℕ) → Contains (all_sides m) (v, p) → (v ≡ a) ⊎ (v ≡ b)
  to-point v h =
      let d = some-corner m rings (v, p) h in
      elim (it.at_point d.0 d.1 (ap (λ (s : Side). s.1) d.2)) [
        | inl e ↦ inl (sym (ap (λ (s : Side). s.0) d.2) ∙ ap (λ (c : Corner). c.before) e)
        | inr e ↦ inr (sym (ap (λ (s : Side). s.0) d.2) ∙ ap (λ (c : Corner). c.before) e)
      ]

  was-there : (c : Corner) → WasCorner m p a b c → c.at ≢ a → c.at ≢ b → HasCorner m c
  was-there c (stood d h) not_a not_b = h
  was-there c (before_first u h) not_a not_b = absurd (not_a refl)
  was-there c (before_second u h) not_a not_b = absurd (not_b refl)
  was-there c (behind_first u h) not_a not_b = absurd (not_a refl)
  was-there c (behind_second u h) not_a not_b = absurd (not_b refl)

  pub corners-joined : (q : ℕ) → q ≢ p → q ≢ a → q ≢ b → (c : Corner) → c.at ≡ q
      → HasCorner after c ↔ HasCorner m c
  corners-joined q not_p not_a not_b c at = (
    λ h. was-there c (it.comes c h) (λ e. not_a (sym at ∙ e)) (λ e. not_b (sym at ∙ e)),
    λ h.
        let sides = corner-in m.boundaries (two-whole m rings) c h in
        let none : Contains (all_sides m) (q, p) → ⊥ =
        λ k. elim (to-point q k) [ inl e ↦ not_a e | inr e ↦ not_b e ] in
        let back = opposite-in_all m rings (c.before, c.at) sides.0 in
        it.stays c h
        (λ e. none (subst (Contains (all_sides m)) (λ i. (at i, e i)) back))
        (λ e. not_p (sym at ∙ e))
        (λ e. none (subst (Contains (all_sides m)) (λ i. (at i, e i)) sides.1)),
  )

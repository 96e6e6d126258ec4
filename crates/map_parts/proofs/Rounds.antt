-- The first three points of a ring, from any of its places on.
use Rattle.std.proofs.Common.{◌≡◌, ℕ, ◌+◌, ◌-◌, ◌<◌, ◌≤◌, ◌⊎◌, [], ◌∷◌, ◌++◌, append_assoc, get_or, drop, take, length, refl, sym, ap, ◌∙◌, subst, arith, inl, inr, Some, slice_get}
use Rattle.std.specs.Prelude.{slice_index}
use Rattle.std.proofs.lemmas.Bool.{cases_lt}
use Rattle.std.proofs.lemmas.List.{drop_all, take_all, append-nil}
use Rattle.std.proofs.lemmas.Option.{slice_get-get_or}
use Rattle.std.specs.List.{Contains}
use Rattle.cad_rings.specs.Cycle.{Ring, Side, sides_of, turned}
use Rattle.cad_rings.specs.Surgery.{corner}
use Rattle.cad_rings.proofs.CallerLemmas.{IsSameRing-turned, IsSameRing-sym, length-turned}
use Rattle.cad_map.specs.declared.boundary.Boundary.{Boundary}
use Rattle.cad_map.specs.Map.{Map, all_sides}
use Rattle.cad_map.specs.Rings.{HasWholeRings}
use Rattle.cad_map.specs.Steps.{next_side}
use Rattle.cad_map.specs.Walk.{first_side}
use Rattle.cad_map.proofs.CallerLemmas.{drop-at, take-more, Contains-first, Contains-at, Contains-flat_map, All-at_each, IsWalked, walked-same, side-place, side-same, ring-walked}
use Rattle.half_table.specs.Rows.{HalfRows}
use Rattle.map_parts.specs.Building.{IsLinkedAt, IsLinkedAlong, IsLinkedAll, KeepsLinks}
use Rattle.map_parts.specs.Labels.{side_at}

module _ (m : Map) (whole : HasWholeRings m) (b : Boundary) (there : Contains m.boundaries b) where
  pub three : 3 ≤ length b.ring
  three = All-at_each (λ b. 3 ≤ length b.ring) m.boundaries b whole.v5.three there

  module _ (i : ℕ) where
    abbrev r : Ring
    r = turned i b.ring

    abbrev s : Side
    s = (slice_index r 0, slice_index r 1)

    walked : IsWalked (next_side m) r
    walked = walked-same (next_side m) b.ring r (IsSameRing-turned i b.ring) (ring-walked m whole b there)

    long : 3 ≤ length r
    long = let e = length-turned i b.ring in let t = three in omega (arith, e, t)

    pub first-is : first_side (turned i b.ring) ≡ Some (slice_index (turned i b.ring) 0, slice_index (turned i b.ring) 1)
    first-is = by r long
      where
        by : (q : Ring) → 3 ≤ length q → first_side q ≡ Some (slice_index q 0, slice_index q 1)
        by [] l = absurd (omega arith)
        by (a ∷ []) l = absurd (omega arith)
        by (a ∷ c ∷ q) l = refl

    -- the side at the next place is the one after
    pub at-next : i < length b.ring → ◌≡◌ {A = Side} (side_at (i + 1) b.ring) (slice_index (turned i b.ring) 1, slice_index (turned i b.ring) 2)
    at-next low =
        let at = slice_get-get_or b.ring i 0 low in
        let front = drop-at b.ring i (get_or b.ring i 0) at in
        let back = take-more b.ring i (get_or b.ring i 0) at in
        let rest = drop (i + 1) b.ring ++ take i b.ring in
        let here : turned i b.ring ≡ get_or b.ring i 0 ∷ rest = ap (λ (l : Ring). l ++ take i b.ring) front in
        let there : turned (i + 1) b.ring ≡ rest ++ get_or b.ring i 0 ∷ [] = ap (λ (l : Ring). drop (i + 1) b.ring ++ l) (sym back) ∙ sym (append_assoc (drop (i + 1) b.ring) (take i b.ring) (get_or b.ring i 0 ∷ [])) in
        let e = ap length here in
        let l = long in
        ap (λ (q : Ring). let s : Side = (slice_index q 0, slice_index q 1) in s) there ∙ by rest (get_or b.ring i 0) (omega (arith, e, l))
        ∙ sym (ap (λ (q : Ring). let s : Side = (slice_index q 1, slice_index q 2) in s) here)
      where
        by : (q : Ring) (x : ℕ) → 2 ≤ length q → ◌≡◌ {A = Side} (slice_index (q ++ x ∷ []) 0, slice_index (q ++ x ∷ []) 1) (slice_index (x ∷ q) 1, slice_index (x ∷ q) 2)
        by [] x l = absurd (omega arith)
        by (a ∷ []) x l = absurd (omega arith)
        by (a ∷ c ∷ q) x l = refl

    pub first-follows : next_side m (slice_index (turned i b.ring) 0, slice_index (turned i b.ring) 1) ≡ (slice_index (turned i b.ring) 1, slice_index (turned i b.ring) 2)
    first-follows = by r long walked
      where
        by : (q : Ring) → 3 ≤ length q → IsWalked (next_side m) q → next_side m (slice_index q 0, slice_index q 1) ≡ (slice_index q 1, slice_index q 2)
        by [] l w = absurd (omega arith)
        by (a ∷ []) l w = absurd (omega arith)
        by (a ∷ c ∷ []) l w = absurd (omega arith)
        by (a ∷ c ∷ e ∷ q) l w = w.follows (corner a c e) (Contains-first (corner a c e) _)

    pub first-in : Contains (sides_of b.ring) (slice_index (turned i b.ring) 0, slice_index (turned i b.ring) 1)
    first-in = side-same r b.ring s (IsSameRing-sym b.ring r (IsSameRing-turned i b.ring)) (by r long)
      where
        by : (q : Ring) → 3 ≤ length q → Contains (sides_of q) (slice_index q 0, slice_index q 1)
        by [] l = absurd (omega arith)
        by (a ∷ []) l = absurd (omega arith)
        by (a ∷ c ∷ q) l = Contains-first (a, c) _

    pub first-among : Contains (all_sides m) (slice_index (turned i b.ring) 0, slice_index (turned i b.ring) 1)
    first-among = Contains-flat_map (λ b. sides_of b.ring) m.boundaries b s there first-in

  -- ---- Place by place

  -- what is linked at places below
  abbrev pub LinkedBelow : HalfRows → ℕ → Type 0
  LinkedBelow rows n = (i : ℕ) → i < n → (s : Side) → first_side (turned i b.ring) ≡ Some s → IsLinkedAt m rows b s

  pub links-more : (old new : HalfRows) (n : ℕ) → KeepsLinks m old new → IsLinkedAt m new b (side_at n b.ring) → LinkedBelow old n → LinkedBelow new (n + 1)
  links-more old new n keeps made below i less t is = by (cases i n (omega (arith, less)))
    where
      cases : (i n : ℕ) → i < n + 1 → (i < n) ⊎ (i ≡ n)
      cases i n l = elim (cases_lt i n) [ inl low ↦ inl low | inr high ↦ inr (omega (arith, l, high)) ]

      side : side_at i b.ring ≡ t
      side = let e : Some (side_at i b.ring) ≡ Some t = sym (first-is i) ∙ is in cc

      by : (i < n) ⊎ (i ≡ n) → IsLinkedAt m new b t
      by (inl l) = keeps b t there (subst (Contains (sides_of b.ring)) side (first-in i)) (below i l t is)
      by (inr e) = subst (IsLinkedAt m new b) (ap (λ (k : ℕ). side_at k b.ring) (sym e) ∙ side) made

  pub links-all : (rows : HalfRows) (n : ℕ) → length b.ring ≤ n → LinkedBelow rows n → IsLinkedAlong m rows b
  links-all rows n past below s has = let place = side-place b.ring s has in below place.0 (let l = place.1 in omega (arith, l, past)) s place.2

  -- the side at the last place is the one before the first
  pub last-first : next_side m (side_at (length b.ring - 1) b.ring) ≡ side_at 0 b.ring
  last-first =
      let t = three in
      let n : length b.ring - 1 + 1 ≡ length b.ring = omega (arith, t) in
      let low : length b.ring - 1 < length b.ring = omega (arith, t) in
      first-follows (length b.ring - 1) ∙ sym (at-next (length b.ring - 1) low)
      ∙ ap (λ (k : ℕ). side_at k b.ring) n ∙ ap (λ (q : Ring). let s : Side = (slice_index q 0, slice_index q 1) in s) all
    where
      all : turned (length b.ring) b.ring ≡ turned 0 b.ring
      all = ap (λ (l : Ring). l ++ take (length b.ring) b.ring) (drop_all (length b.ring) b.ring (omega arith)) ∙ take_all (length b.ring) b.ring (omega arith) ∙ sym (append-nil b.ring)

-- ---- Ring by ring

-- what is linked of the rings below
abbrev pub RingsBelow : Map → HalfRows → ℕ → Type 0
RingsBelow m rows n = (i : ℕ) (b : Boundary) → i < n → slice_get m.boundaries i ≡ Some b → IsLinkedAlong m rows b

pub rings-more : (m : Map) (old new : HalfRows) (n : ℕ) (b : Boundary) → slice_get m.boundaries n ≡ Some b → KeepsLinks m old new → IsLinkedAlong m new b → RingsBelow m old n → RingsBelow m new (n + 1)
rings-more m old new n b at keeps made below i c less is s has = by (cases_lt i n)
  where
    by : (i < n) ⊎ (n ≤ i) → IsLinkedAt m new c s
    by (inl low) = keeps c s (Contains-at m.boundaries i c is) has (below i c low is s has)
    by (inr high) =
        let e : i ≡ n = omega (arith, less, high) in
        let same : Some b ≡ Some c = sym at ∙ ap (slice_get m.boundaries) (sym e) ∙ is in
        let one : b ≡ c = cc in
        subst (λ (d : Boundary). IsLinkedAlong m new d) one made s has

pub rings-all : (m : Map) (rows : HalfRows) (n : ℕ) → length m.boundaries ≤ n → RingsBelow m rows n → IsLinkedAll m rows
rings-all m rows n past below b at = let low = at.1 in below at.0 b (omega (arith, low, past)) (slice_get-get_or m.boundaries at.0 b low ∙ ap Some at.2)

-- Halves that are linked one by one as the rings of a map go, and the table in which all are.
use Rattle.std.proofs.Common.{◌≡◌, ℕ, zero, suc, ◌≤◌, Bool, true, false, length, refl, sym, ap, ◌∙◌, subst, arith, inl, inr, Option, Some, None, true≢false}
use Rattle.std.specs.Prelude.{is_some}
use Rattle.std.specs.Option.{option_map_or}
use Rattle.std.specs.List.{Contains}
use Rattle.std.proofs.lemmas.Option.{same_Some}
use Rattle.cad_rows.specs.declared.names.Face.{Face}
use Rattle.cad_rings.specs.Cycle.{Side, sides_of, turned}
use Rattle.cad_rings.proofs.CallerLemmas.{IsSameRing-turned, length-turned}
use Rattle.cad_map.specs.declared.boundary.Boundary.{Boundary}
use Rattle.cad_map.specs.Map.{Map, all_sides}
use Rattle.cad_map.specs.Rings.{HasWholeRings}
use Rattle.cad_map.specs.Steps.{next_side, steps}
use Rattle.cad_map.specs.Views.{ComesAfter}
use Rattle.cad_map.proofs.CallerLemmas.{Contains-in_part, All-at_each, IsWalked, walked-same, side-place, steps-round, ring-walked, comes_from}
use Rattle.cad_map.proofs.CallerLemmas as maps
use Rattle.cad_laws.proofs.CallerLemmas.{one-ring}
use Rattle.half_table.specs.declared.half.Half.{Half}
use Rattle.half_table.specs.declared.links.Links.{Links}
use Rattle.half_table.specs.Half.{is_half, twin}
use Rattle.half_table.specs.Rows.{HalfRows, IsLinked, links_of, has, next, prev, face}
use Rattle.half_table.specs.Writes.{set_at, Relinks}
use Rattle.half_table.proofs.Halves.{cases_half, is_half-self}
use Rattle.key_lists.specs.Held.{Held}
use Rattle.cad_laws.specs.Local.{IsShown, side_by, IsLocal}
use Rattle.map_parts.specs.declared.stars.Spoke.{Spoke}
use Rattle.map_parts.specs.Building.{HoldsStrings, IsLinkedHalf, IsLinkedAt, IsLinkedAll, KeepsLinks}
use Rattle.map_parts.specs.Labels.{IsAlong, IsLabelled}
use Rattle.map_parts.proofs.Labels.{half-among, next-corner}
use Rattle.map_parts.proofs.Strings.{sides-apart}

-- ---- Each side of a map whose rings are whole is the next of one alone

module _ (m : Map) (whole : HasWholeRings m) where
  again : (b : Boundary) → Contains m.boundaries b → (s : Side) → Contains (sides_of b.ring) s → steps (next_side m) (length b.ring) s ≡ s
  again b there s has =
      let place = side-place b.ring s has in
      let r = turned place.0 b.ring in
      let same = IsSameRing-turned place.0 b.ring in
      let walked = walked-same (next_side m) b.ring r same (ring-walked m whole b there) in
      let e : length r ≡ length b.ring = length-same place.0 in
      subst (λ (n : ℕ). steps (next_side m) n s ≡ s) e (steps-round (next_side m) (λ t. refl) r s walked place.2)
    where
      length-same : (i : ℕ) → length (turned i b.ring) ≡ length b.ring
      length-same i = length-turned i b.ring

  pub next-one : (s t : Side) → Contains (all_sides m) s → Contains (all_sides m) t → next_side m s ≡ next_side m t → s ≡ t
  next-one s t has too same =
      let part = Contains-in_part (λ b. sides_of b.ring) m.boundaries s has in
      let b = part.0 in
      let on = maps.next-there (next_side m) (λ t. refl) b.ring s (ring-walked m whole b part.1) part.2 in
      let beside = comes_from m whole b part.1 t too (subst (Contains (sides_of b.ring)) same on) in
      by (length b.ring) (All-at_each (λ b. 3 ≤ length b.ring) m.boundaries b whole.v5.three part.1) (again b part.1 s part.2) (again b part.1 t beside)
    where
      by : (n : ℕ) → 3 ≤ n → steps (next_side m) n s ≡ s → steps (next_side m) n t ≡ t → s ≡ t
      by zero three one two = absurd (omega arith)
      by (suc n) three one two = sym one ∙ ap (steps (next_side m) n) same ∙ two

-- ---- One half linked

set-here : {V : Type 0} (h : Half) (v : V) (f : Half → V) → set_at h v f h ≡ v
set-here h v f = rw (is_half-self h) refl

set-other : {V : Type 0} (h g : Half) (v : V) (f : Half → V) → is_half g h ≡ false → set_at h v f g ≡ f g
set-other h g v f other = rw other refl

module _ (m : Map) (whole : HasWholeRings m) (old new : HalfRows) (stars : Held Spoke) (st : HoldsStrings m old stars)
    (b : Boundary) (there : Contains m.boundaries b) (q s t : Side) (on : Contains (sides_of b.ring) s) (leads : next_side m q ≡ s) (goes : next_side m s ≡ t)
    (p h k : Half) (before : IsAlong m old q p) (here : IsAlong m old s h) (after : IsAlong m old t k) (links : Relinks h p k b.face old new) where
  same-side : (g : Half) → side_by new g ≡ side_by old g
  same-side g = λ i. (links.origin g i, links.origin (twin g) i)

  linked-here : IsLinkedHalf m new b.face h
  linked-here =
      let n : next new h ≡ k = links.next h ∙ set-here h k (next old) in
      let r : prev new h ≡ p = links.prev h ∙ set-here h p (prev old) in
      let side : side_by new h ≡ s = same-side h ∙ here.side in
      record {
        next_shown = subst (IsShown m) (sym n) after.shown;
        after = ap (side_by new) n ∙ same-side k ∙ after.side ∙ sym goes ∙ ap (next_side m) (sym side);
        prev_shown = subst (IsShown m) (sym r) before.shown;
        before = ap (λ (x : Half). next_side m (side_by new x)) r ∙ ap (next_side m) (same-side p ∙ before.side) ∙ leads ∙ sym side;
        face = links.face h ∙ set-here h b.face (face old);
      }

  linked-other : (f : Face) (g : Half) → is_half g h ≡ false → IsLinkedHalf m old f g → IsLinkedHalf m new f g
  linked-other f g other it =
      let n : next new g ≡ next old g = links.next g ∙ set-other h g k (next old) other in
      let r : prev new g ≡ prev old g = links.prev g ∙ set-other h g p (prev old) other in
      record {
        next_shown = subst (IsShown m) (sym n) it.next_shown;
        after = ap (side_by new) n ∙ same-side (next old g) ∙ it.after ∙ ap (next_side m) (sym (same-side g));
        prev_shown = subst (IsShown m) (sym r) it.prev_shown;
        before = ap (λ (x : Half). next_side m (side_by new x)) r ∙ ap (next_side m) (same-side (prev old g)) ∙ it.before ∙ sym (same-side g);
        face = links.face g ∙ set-other h g b.face (face old) other ∙ it.face;
      }

  link-now : IsLinkedAt m new b s
  link-now g shown side =
      let same : h ≡ g = sides-apart m whole old stars st h g here.shown shown (here.side ∙ sym side ∙ same-side g) in
      subst (IsLinkedHalf m new b.face) same linked-here

  link-keeps : KeepsLinks m old new
  link-keeps c u among has made g shown side = elim (cases_half g h) [
    | inl same ↦
        let e : u ≡ s = sym side ∙ same-side g ∙ ap (side_by old) same ∙ here.side in
        let also = one-ring m whole s c among (subst (Contains (sides_of c.ring)) e has) in
        let f : b.face ≡ c.face = same_Some b.face c.face (sym (one-ring m whole s b there on) ∙ also) in
        subst (λ (x : Half). IsLinkedHalf m new c.face x) (sym same) (subst (λ (x : Face). IsLinkedHalf m new x h) f linked-here)
    | inr other ↦ linked-other c.face g other (made g shown (sym (same-side g) ∙ side))
  ]

  pub link-both : IsLinkedAt m new b s × KeepsLinks m old new
  link-both = (link-now, link-keeps)

-- ---- All halves are linked

next-none : (o : Option Links) (h : Half) → is_some o ≡ false → option_map_or (λ (l : Links). l.next) o h ≡ h
next-none None h none = refl
next-none (Some l) h none = absurd (true≢false none)

prev-none : (o : Option Links) (h : Half) → is_some o ≡ false → option_map_or (λ (l : Links). l.prev) o h ≡ h
prev-none None h none = refl
prev-none (Some l) h none = absurd (true≢false none)

module _ (m : Map) (whole : HasWholeRings m) (rows : HalfRows) (held : Held Spoke) (st : HoldsStrings m rows held) (all : IsLinkedAll m rows) where
  each : (h : Half) → IsShown m h → (f : Face) × IsLinkedHalf m rows f h
  each h shown =
      let part = Contains-in_part (λ b. sides_of b.ring) m.boundaries (side_by rows h) (half-among m whole rows held st h shown) in
      (part.0.face, all part.0 part.1 (side_by rows h) part.2 h shown refl)

  -- two halves are one where the sides after theirs are one
  one-before : (g h : Half) → IsShown m g → IsShown m h → next_side m (side_by rows g) ≡ next_side m (side_by rows h) → g ≡ h
  one-before g h one two same =
      sides-apart m whole rows held st g h one two
      (next-one m whole (side_by rows g) (side_by rows h) (half-among m whole rows held st g one) (half-among m whole rows held st h two) same)

  pub all-linked : IsLinked rows
  all-linked = record {
    distinct = st.distinct;
    prev_next = λ h. back h (has rows h) refl;
    next_prev = λ h. forth h (has rows h) refl;
    inside = λ h. inside h (has rows h) refl;
  }
    where
      shown-there : (h : Half) → has rows h ≡ true → IsShown m h
      shown-there h there = sym (st.has h) ∙ there

      back : (h : Half) (t : Bool) → has rows h ≡ t → prev rows (next rows h) ≡ h
      back h true there =
          let shown = shown-there h there in
          let it = (each h shown).1 in
          let at = (each (next rows h) it.next_shown).1 in
          one-before (prev rows (next rows h)) h at.prev_shown shown (at.before ∙ it.after)
      back h false none = ap (prev rows) (next-none (links_of rows h) h none) ∙ prev-none (links_of rows h) h none

      forth : (h : Half) (t : Bool) → has rows h ≡ t → next rows (prev rows h) ≡ h
      forth h true there =
          let shown = shown-there h there in
          let it = (each h shown).1 in
          let at = (each (prev rows h) it.prev_shown).1 in
          sides-apart m whole rows held st (next rows (prev rows h)) h at.next_shown shown (at.after ∙ it.before)
      forth h false none = ap (next rows) (prev-none (links_of rows h) h none) ∙ next-none (links_of rows h) h none

      inside : (h : Half) (t : Bool) → has rows h ≡ t → has rows (next rows h) ≡ has rows h
      inside h true there = st.has (next rows h) ∙ (each h (shown-there h there)).1.next_shown ∙ sym there
      inside h false none = ap (has rows) (next-none (links_of rows h) h none)

  pub all-local : IsLocal m rows
  all-local = record {
    linked = all-linked;
    there = λ h shown. st.has h ∙ shown;
    inside = λ h shown. (each h shown).1.next_shown;
    meets = λ h shown. ap (λ (s : Side). s.0) (each h shown).1.after;
    corners = λ h shown.
        subst (λ (w : ℕ). ComesAfter m (side_by rows h) w) (sym (ap (λ (s : Side). s.1) (each h shown).1.after))
        (next-corner m whole (side_by rows h) (half-among m whole rows held st h shown));
    apart = sides-apart m whole rows held st;
  }

  pub all-labelled : (b : Boundary) → Contains m.boundaries b → IsLabelled m rows b
  all-labelled b there h on = (all b there (side_by rows h) on.side h on.shown refl).face

-- Cycles of a table that goes with a map: which halves they hold.
use Rattle.std.proofs.Common.{◌≡◌, ◌≢◌, ◌||◌, Bool, true, false, List, [], ◌∷◌, refl, sym, ap, ◌∙◌, subst, inl, inr, true≢false}
use Rattle.std.specs.List.{AllByRecursion, Contains}
use Rattle.std.proofs.lemmas.Option.{same_Some}
use Rattle.cad_rows.specs.declared.names.Face.{Face}
use Rattle.cad_rings.specs.Cycle.{Side, sides_of}
use Rattle.cad_map.specs.declared.boundary.Boundary.{Boundary}
use Rattle.cad_map.specs.Map.{Map, all_sides}
use Rattle.cad_map.specs.Rings.{HasWholeRings}
use Rattle.cad_map.specs.Views.{HasSide}
use Rattle.cad_map.proofs.CallerLemmas.{Contains-flat_map, Contains-has_side, All-at_each, list_any-Contains, once-from_pairs}
use Rattle.half_table.specs.declared.half.Half.{Half}
use Rattle.half_table.specs.Half.{twin, is_half, forward_of, backward_of}
use Rattle.half_table.specs.Cycle.{holds}
use Rattle.half_table.specs.Rows.{HalfRows, origin_of, face, cycle}
use Rattle.half_table.proofs.Halves.{is_half-self}
use Rattle.cad_laws.specs.Local.{IsShown, side_by, IsLocal}
use Rattle.cad_laws.proofs.CallerLemmas.{one-ring, face-told, side-string}
use Rattle.map_parts.specs.Parts.{HasHalves}
use Rattle.map_parts.specs.Labels.{IsOnRing, IsLabelled}
use Rattle.map_parts.specs.Relabelled.{on_cycles}
use Rattle.map_parts.proofs.ToHalves.{one_part}
use Rattle.map_parts.proofs.PartsRings.{row-there, rings_at-there}
use Rattle.map_parts.proofs.RingsOfHalves.{cycle-ring}
use Rattle.map_parts.proofs.Labels.{any-there, cycle-on, on-cycle}

-- the half along a side of the map, by the ends of its string
pub side-half : (m : Map) → HasWholeRings m → (rows : HalfRows) → AllByRecursion (HasHalves rows) m.strings → (s : Side) → Contains (all_sides m) s → (h : Half) × IsShown m h × (side_by rows h ≡ s)
side-half m whole rows ends s there =
    let found = side-string m whole s there in
    let t = found.string in
    let e = All-at_each (HasHalves rows) m.strings t ends found.there in
    elim found.is [
      | inl is ↦ (forward_of t.number, row-there m.strings t found.there, (λ i. (e.from i, e.to i)) ∙ sym is)
      | inr is ↦ (backward_of t.number, row-there m.strings t found.there, (λ i. (e.to i, e.from i)) ∙ sym is)
    ]

-- the side of a ring is its face's
pub ring-has_side : (m : Map) (b : Boundary) (s : Side) → Contains m.boundaries b → Contains (sides_of b.ring) s → HasSide m b.face s
ring-has_side m b s there has = Contains-has_side s _ (Contains-flat_map sides_of _ b.ring s (rings_at-there m.boundaries b there) has)

module _ (m : Map) (whole : HasWholeRings m) (rows : HalfRows) where
  -- a half is on one ring
  pub one-on : (b c : Boundary) → Contains m.boundaries b → Contains m.boundaries c → (g : Half) → IsOnRing m rows b g → IsOnRing m rows c g → b ≡ c
  one-on b c there too g on also = one_part (λ (b : Boundary). sides_of b.ring) (side_by rows g) m.boundaries b c (once-from_pairs (all_sides m) whole.once (side_by rows g)) there too on.side also.side

  -- and a face that has its side is the ring's
  pub face-on : (b : Boundary) → Contains m.boundaries b → (g : Half) → IsOnRing m rows b g → (f : Face) → HasSide m f (side_by rows g) → f ≡ b.face
  face-on b there g on f has = same_Some f b.face (sym (face-told m whole f (side_by rows g) has) ∙ one-ring m whole (side_by rows g) b there on.side)

  module _ (local : IsLocal m rows) (two : (h : Half) → IsShown m h → origin_of rows h ≢ origin_of rows (twin h)) where
    pub some-on : (g : Half) → IsShown m g → (b : Boundary) × Contains m.boundaries b × IsOnRing m rows b g
    some-on g shown = let it = cycle-ring m rows whole local g shown in (it.boundary, it.there, record { shown = shown; side = it.has })

    -- the cycle of a half holds the halves of its ring, and no others
    pub ring-held : (b : Boundary) → Contains m.boundaries b → (h g : Half) → IsOnRing m rows b h → IsOnRing m rows b g → holds (cycle rows h) g ≡ true
    ring-held b there h g on also = list_any-Contains (is_half g) (cycle rows h) g (on-cycle m whole rows local two b there h on g also) (is_half-self g)

    pub held-ring : (b : Boundary) → Contains m.boundaries b → (h g : Half) → IsOnRing m rows b h → holds (cycle rows h) g ≡ true → IsOnRing m rows b g
    held-ring b there h g on held = cycle-on m whole rows local two b there h on g (any-there g (cycle rows h) held)

    -- the cycles of some halves of rings
    pub each-held : (b : Boundary) → Contains m.boundaries b → (halves : List Half) (h g : Half) → Contains halves h → IsOnRing m rows b h → IsOnRing m rows b g → on_cycles rows halves g ≡ true
    each-held b there halves h g among on also = list_any-Contains (λ h. holds (cycle rows h) g) halves h among (ring-held b there h g on also)

    pub held-each : (bs : List Boundary) → ((b : Boundary) → Contains bs b → Contains m.boundaries b) → (f : Face) (halves : List Half)
        → AllByRecursion (λ h. (b : Boundary) × Contains bs b × IsOnRing m rows b h × (b.face ≡ f)) halves → (g : Half) → on_cycles rows halves g ≡ true
        → (b : Boundary) × Contains bs b × IsOnRing m rows b g × (b.face ≡ f)
    held-each bs sub f [] all g held = absurd (true≢false (sym held))
    held-each bs sub f (h ∷ halves) all g held = by (holds (cycle rows h) g) refl (λ later. held-each bs sub f halves all.1 g later)
      where
        by : (t : Bool) → holds (cycle rows h) g ≡ t → (on_cycles rows halves g ≡ true → (b : Boundary) × Contains bs b × IsOnRing m rows b g × (b.face ≡ f)) → (b : Boundary) × Contains bs b × IsOnRing m rows b g × (b.face ≡ f)
        by true here again = let it = all.0 in (it.0, it.1, held-ring it.0 (sub it.0 it.1) h g it.2 here, it.3)
        by false none again = again (ap (λ (t : Bool). t || on_cycles rows halves g) (sym none) ∙ held)

    -- where all rings are labelled, each half has the face that has its side
    pub labelled-faces : ((b : Boundary) → Contains m.boundaries b → IsLabelled m rows b) → (h : Half) → IsShown m h → HasSide m (face rows h) (side_by rows h)
    labelled-faces all h shown =
        let it = some-on h shown in
        subst (λ (f : Face). HasSide m f (side_by rows h)) (sym (all it.0 it.1 h it.2)) (ring-has_side m it.0 (side_by rows h) it.1 it.2.side)

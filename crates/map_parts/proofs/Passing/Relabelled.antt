-- A cycle that gets the face of its ring, in a table that is local to a map, and two of them.
use Rattle.std.proofs.Common.{◌≡◌, ◌≢◌, refl, sym, ap, subst, ◌∙◌, Bool, true, false, if◌then◌else◌}
use Rattle.std.specs.List.{AllByRecursion, Contains}
use Rattle.cad_rows.specs.declared.names.Face.{Face}
use Rattle.cad_rows.specs.declared.rows.StringRow.{StringRow}
use Rattle.cad_rings.specs.Cycle.{Side, opposite}
use Rattle.cad_map.specs.Map.{Map, side_of}
use Rattle.cad_map.specs.Rings.{HasWholeRings}
use Rattle.cad_map.specs.Views.{HasSide}
use Rattle.cad_map.proofs.CallerLemmas.{All-at_each, IsBeside, beside, has_side-Contains, list_any-Contains}
use Rattle.half_table.specs.declared.half.Half.{Half}
use Rattle.half_table.specs.Half.{twin, is_half}
use Rattle.half_table.specs.Cycle.{holds}
use Rattle.half_table.specs.Rows.{HalfRows, IsLinked, origin_of, face, cycle}
use Rattle.half_table.specs.Surgery.{Relabels}
use Rattle.half_table.proofs.Halves.{is_half-self}
use Rattle.cad_laws.specs.Local.{IsShown, IsLocal, side_by}
use Rattle.map_parts.specs.Parts.{HasHalves}
use Rattle.map_parts.specs.Labels.{IsOnRing}
use Rattle.map_parts.specs.Passing.{IsHalfAlong}
use Rattle.map_parts.proofs.PartsRings.{found-row}
use Rattle.map_parts.proofs.WholeStrings.{two-ends}
use Rattle.map_parts.proofs.IslandFits.{ends-same}
use Rattle.map_parts.proofs.Labels.{any-there, cycle-on, label-local}
use Rattle.map_parts.proofs.Passing.OneHand.{ring-face_has}
use Rattle.map_parts.proofs.Passing.Between.{along-side, along-two}

module _ (m : Map) (whole : HasWholeRings m) (rows : HalfRows) (local : IsLocal m rows)
    (ends : AllByRecursion (HasHalves rows) m.strings) (h : Half) (shown : IsShown m h) (f : Face)
    (has : HasSide m f (side_by rows h)) (new : HalfRows) (linked : IsLinked new)
    (labels : Relabels (cycle rows h) f rows new) where
  -- the ends of a half differ
  two : (g : Half) → IsShown m g → origin_of rows g ≢ origin_of rows (twin g)
  two g shown same =
      let row = found-row m.strings g.string shown in
      let s : Side = if g.forward then side_of row.0 else opposite (side_of row.0) in
      let along : IsHalfAlong row.0 g s = record { string = sym row.2; side = refl } in
      let is : side_by rows g ≡ s =
      (along-side rows row.0 g s (All-at_each (HasHalves rows) m.strings row.0 ends row.1) along).1 in
      along-two row.0 g s
      (All-at_each (λ (s : StringRow). s.from ≢ s.to) m.strings row.0 (two-ends m whole) row.1) along
      (sym (ap (λ (u : Side). u.0) is) ∙ same ∙ ap (λ (u : Side). u.1) is)

  home : IsBeside f (side_by rows h) m.boundaries
  home = beside f (side_by rows h) m.boundaries (has_side-Contains (side_by rows h) _ has)

  on : IsOnRing m rows home.boundary h
  on = record { shown = shown; side = home.has }

  same-side : (g : Half) → side_by new g ≡ side_by rows g
  same-side g = λ i. (labels.origin g i, labels.origin (twin g) i)

  pub relabelled-local : IsLocal m new
  relabelled-local =
      label-local m whole rows local two home.boundary home.there h on new linked
      (subst (λ (k : Face). Relabels (cycle rows h) k rows new) home.face labels)

  pub relabelled-ends : AllByRecursion (HasHalves new) m.strings
  relabelled-ends = ends-same rows new labels.origin labels.has m.strings ends

  -- a half on the cycle has the face, and it is that of its side
  pub on-cycle_faced : (g : Half) → Contains (cycle rows h) g → HasSide m (face new g) (side_by new g)
  on-cycle_faced g among =
      let held = list_any-Contains (is_half g) (cycle rows h) g among (is_half-self g) in
      let here = cycle-on m whole rows local two home.boundary home.there h on g among in
      let e : face new g ≡ f =
      labels.face g ∙ ap (λ (t : Bool). if t then f else face rows g) held in
      subst (λ (k : Face). HasSide m k (side_by new g)) (sym (e ∙ home.face))
      (subst (HasSide m home.boundary.face) (sym (same-side g))
      (ring-face_has m home.boundary home.there (side_by rows g) here.side))

  -- and the faces of others stay
  pub still-faced : (g : Half) → HasSide m (face rows g) (side_by rows g)
      → HasSide m (face new g) (side_by new g)
  still-faced g was = by (holds (cycle rows h) g) refl
    where
      by : (t : Bool) → holds (cycle rows h) g ≡ t → HasSide m (face new g) (side_by new g)
      by true held = on-cycle_faced g (any-there g (cycle rows h) held)
      by false held =
          let e : face new g ≡ face rows g =
          labels.face g ∙ ap (λ (t : Bool). if t then f else face rows g) held in
          subst (λ (k : Face). HasSide m k (side_by new g)) (sym e)
          (subst (HasSide m (face rows g)) (sym (same-side g)) was)

-- ---- Two cycles, one after the other

-- the table goes with the map still, and the halves of both cycles have the faces of their sides
pub record AreBothFaced (m : Map) (old mid new : HalfRows) (h k : Half) : Type 0 where
  pub local : IsLocal m new
  pub ends : AllByRecursion (HasHalves new) m.strings
  pub sides : (g : Half) → side_by new g ≡ side_by old g
  pub first : (g : Half) → Contains (cycle old h) g → HasSide m (face new g) (side_by new g)
  pub second : (g : Half) → Contains (cycle mid k) g → HasSide m (face new g) (side_by new g)
  -- and so have the others, where they had them
  pub stays : (g : Half) → HasSide m (face old g) (side_by old g) → HasSide m (face new g) (side_by new g)

pub both-faced : (m : Map) (whole : HasWholeRings m) (old : HalfRows) → IsLocal m old → AllByRecursion (HasHalves old) m.strings
    → (h : Half) → IsShown m h → (f : Face) → HasSide m f (side_by old h) → (k : Half) → IsShown m k → (e : Face) → HasSide m e (side_by old k)
    → (mid new : HalfRows) → IsLinked mid → IsLinked new → Relabels (cycle old h) f old mid → Relabels (cycle mid k) e mid new → AreBothFaced m old mid new h k
both-faced m whole old local ends h h_shown f h_has k k_shown e k_has mid new mid_linked linked one two =
    let mid_local = relabelled-local m whole old local ends h h_shown f h_has mid mid_linked one in
    let mid_ends = relabelled-ends m whole old local ends h h_shown f h_has mid mid_linked one in
    let mid_side = same-side m whole old local ends h h_shown f h_has mid mid_linked one in
    let mid_has = subst (HasSide m e) (sym (mid_side k)) k_has in
    let onward = still-faced m whole mid mid_local mid_ends k k_shown e mid_has new linked two in
    record {
      local = relabelled-local m whole mid mid_local mid_ends k k_shown e mid_has new linked two;
      ends = relabelled-ends m whole mid mid_local mid_ends k k_shown e mid_has new linked two;
      sides = λ g. same-side m whole mid mid_local mid_ends k k_shown e mid_has new linked two g ∙ mid_side g;
      first = λ g among. onward g (on-cycle_faced m whole old local ends h h_shown f h_has mid mid_linked one g among);
      second = on-cycle_faced m whole mid mid_local mid_ends k k_shown e mid_has new linked two;
      stays = λ g was. onward g (still-faced m whole old local ends h h_shown f h_has mid mid_linked one g was);
    }

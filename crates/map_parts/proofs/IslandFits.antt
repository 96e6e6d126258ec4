-- A table that goes with a map, after an island has come or gone.
use Rattle.std.proofs.Common.{◌≡◌, ◌≢◌, ◌≤◌, Bool, List, ◌∷◌, map, length, sym, ap, ◌∙◌, subst, if◌then◌else◌}
use Rattle.std.specs.List.{AllByRecursion, Contains, list_any}
use Rattle.std.proofs.lemmas.List.Sorted.{Contains-permutation}
use Rattle.cad_rows.specs.declared.names.Face.{Face}
use Rattle.cad_rows.specs.declared.rows.StringRow.{StringRow}
use Rattle.cad_rings.specs.Cycle.{Ring, Side, sides_of, opposite}
use Rattle.cad_map.specs.declared.boundary.Boundary.{Boundary}
use Rattle.cad_map.specs.Map.{Map}
use Rattle.cad_map.specs.Merger.{handed_over}
use Rattle.cad_map.specs.Rings.{HasWholeRings}
use Rattle.cad_map.specs.Views.{HasSide}
use Rattle.cad_map.proofs.CallerLemmas.{Contains-first, Contains-map, All-follows, All-from_each}
use Rattle.half_table.specs.declared.half.Half.{Half}
use Rattle.half_table.specs.Half.{twin, forward_of, backward_of}
use Rattle.half_table.specs.Cycle.{holds}
use Rattle.half_table.specs.Rows.{HalfRows, IsLinked, has, next, origin_of, face, cycle}
use Rattle.half_table.specs.Surgery.{KeepsHalves, Relabels}
use Rattle.half_table.proofs.Halves.{twin-twin}
use Rattle.half_paths.specs.Path.{AreDifferent, AreElsewhere}
use Rattle.half_paths.specs.Round.{IsRound}
use Rattle.cad_laws.specs.Local.{IsShown, side_by, IsLocal}
use Rattle.map_parts.specs.Parts.{HasHalves}
use Rattle.map_parts.specs.Labels.{IsAlong, IsOnRing}
use Rattle.map_parts.specs.Paths.{AreAlong, HasStringsMore}
use Rattle.map_parts.specs.Relabelled.{on_cycles, RelabelsEach}
use Rattle.map_parts.specs.FaceChanges.{HasIslandMore}
use Rattle.map_parts.specs.Islands.{FitsTable, AreOfRings, IsIslandOf}
use Rattle.map_parts.proofs.AlongPaths.{ring-round}
use Rattle.map_parts.proofs.WholeStrings.{two-ends}
use Rattle.map_parts.proofs.PartsRings.{half-two}
use Rattle.map_parts.proofs.KeptShown.{local-kept, bare}
use Rattle.map_parts.proofs.RelabelledEach.{cycle-same}
use Rattle.map_parts.proofs.RingCycles.{labelled-faces, ring-has_side}
use Rattle.map_parts.proofs.IslandTable.{more-old, more-new, island-comes, island-goes}
use Rattle.map_parts.proofs.IslandFaces.{came-labelled, on-other, off-right, went-face, handed-there, handed-ring}

module _ (old new : HalfRows) (origins : (g : Half) → origin_of new g ≡ origin_of old g) where
  pub side-same : (g : Half) → side_by new g ≡ side_by old g
  side-same g = λ i. (origins g i, origins (twin g) i)

  pub along-same : (path : List Half) (sides : List Side) → AreAlong old path sides → AreAlong new path sides
  along-same path sides e = ap (λ (f : Half → Side). map f path) (λ i g. side-same g i) ∙ e

  pub on-same : (m : Map) (b : Boundary) (g : Half) → IsOnRing m old b g → IsOnRing m new b g
  on-same m b g on = record { shown = on.shown; side = subst (Contains (sides_of b.ring)) (sym (side-same g)) on.side }

  pub of-same : (m : Map) (halves : List Half) (f : Face) (bs : List Boundary) → AreOfRings m old halves f bs → AreOfRings m new halves f bs
  of-same m halves f bs of = record {
    each = All-follows (λ h. (b : Boundary) × Contains bs b × IsOnRing m old b h × (b.face ≡ f)) (λ h. (b : Boundary) × Contains bs b × IsOnRing m new b h × (b.face ≡ f))
        (λ h it. (it.0, it.1, on-same m it.0 h it.2, it.3)) halves of.each;
    all = λ b there is. let it = of.all b there is in (it.0, it.1, on-same m b it.0 it.2);
  }

  pub half-same : ((g : Half) → has new g ≡ has old g) → {m : Map} {s : Side} {h : Half} → IsAlong m old s h → IsAlong m new s h
  half-same same {h = h} on = record { there = same h ∙ on.there; shown = on.shown; side = side-same h ∙ on.side }

  pub ends-same : ((g : Half) → has new g ≡ has old g) → (strings : List StringRow) → AllByRecursion (HasHalves old) strings → AllByRecursion (HasHalves new) strings
  ends-same same strings ends = All-follows (HasHalves old) (HasHalves new) (λ s e. record {
    there = same (forward_of s.number) ∙ e.there;
    back = same (backward_of s.number) ∙ e.back;
    from = origins (forward_of s.number) ∙ e.from;
    to = origins (backward_of s.number) ∙ e.to;
  }) strings ends

-- the faces after the moved rings were handed back and the outer ring was given the inner face
pub relabelled-faces : (outer inner : Face) (first : Half) (moved : List Half) (old one two new : HalfRows) (back : Half) → back ≡ twin first → RelabelsEach moved outer old one → Relabels (cycle one back) inner one two
    → KeepsHalves two new → (g : Half) → face new g ≡ (if holds (cycle old (twin first)) g then inner else if on_cycles old moved g then outer else face old g)
relabelled-faces outer inner first moved old one two new back is_back all labels halves g =
    let second : holds (cycle one back) g ≡ holds (cycle old (twin first)) g = λ i. holds (cycle-same old one all.strings all.next i (is_back i)) g in
    halves.face g ∙ labels.face g ∙ (λ i. if second i then inner else all.face g i)

module _ (whole parted : Map) (outer inner : Face) (ring : Ring) (left right : Boundary) (others : List Boundary)
    (it : IsIslandOf whole parted outer inner ring left right others) (parts : HasWholeRings parted)
    (first : Half) (rest : List Half) (more : HasStringsMore whole parted (first ∷ rest)) (moved : List Half) where
  -- the path's first half is on the inner ring, and its twin on the outer one
  pub first-on : (rows : HalfRows) → AreAlong rows (first ∷ rest) (sides_of ring) → IsOnRing parted rows left first × IsOnRing parted rows right (twin first)
  first-on rows along =
      let shown = more-new whole parted (first ∷ rest) more first (Contains-first first rest) in
      let side = subst (λ (l : List Side). Contains l (side_by rows first)) along (Contains-map (side_by rows) (first ∷ rest) first (Contains-first first rest)) in
      let turned : opposite (side_by rows first) ≡ side_by rows (twin first) = λ i. (origin_of rows (twin first), origin_of rows (sym (twin-twin first) i)) in (
        record { shown = shown; side = Contains-permutation (sides_of ring) (sides_of left.ring) (side_by rows first) it.left_sides side },
        record {
          shown = shown;
          side =
              subst (Contains (sides_of right.ring)) turned
              (Contains-permutation (map opposite (sides_of ring)) (sides_of right.ring) (opposite (side_by rows first)) it.right_sides (Contains-map opposite (sides_of ring) (side_by rows first) side));
        },
      )

  -- ---- It comes

  module _ (rings : HasWholeRings whole) (different : AreDifferent (first ∷ rest)) (old mid one two new : HalfRows) (back : Half) (is_back : back ≡ twin first)
      (round : IsRound (next mid) first rest) (elsewhere : (g : Half) → AreElsewhere g (first ∷ rest) → next mid g ≡ next old g) (halves : KeepsHalves old mid) (linked : IsLinked mid)
      (labels : Relabels (cycle mid first) inner mid one) (again : Relabels (cycle one back) outer one two) (all : RelabelsEach moved inner two new) (now : IsLinked new)
      (along : AreAlong old (first ∷ rest) (sides_of ring)) (ends : AllByRecursion (HasHalves old) parted.strings) (of : AreOfRings parted old moved inner others) (fits : FitsTable whole old) where
    abbrev path : List Half
    path = first ∷ rest

    ends_mid : AllByRecursion (HasHalves mid) parted.strings
    ends_mid = ends-same old mid halves.origin halves.has parted.strings ends

    along_mid : AreAlong mid path (sides_of ring)
    along_mid = along-same old mid halves.origin path (sides_of ring) along

    local_mid : IsLocal parted mid
    local_mid = island-comes whole parted ring it.corners parts old mid first rest more different fits.local linked ends_mid elsewhere halves.origin round along_mid

    two_mid : (h : Half) → IsShown parted h → origin_of mid h ≢ origin_of mid (twin h)
    two_mid h shown = half-two (bare parted mid) ends_mid (two-ends parted parts) h shown

    nexts : (g : Half) → next new g ≡ next mid g
    nexts g = all.next g ∙ again.next g ∙ labels.next g

    origins : (g : Half) → origin_of new g ≡ origin_of mid g
    origins g = all.origin g ∙ again.origin g ∙ labels.origin g

    faces : (g : Half) → face new g ≡ (if on_cycles mid moved g then inner else if holds (cycle mid (twin first)) g then outer else if holds (cycle mid first) g then inner else face old g)
    faces g =
        let third : on_cycles two moved g ≡ on_cycles mid moved g =
        ap (λ (c : Half → List Half). any c g moved) (cycle-same mid two (again.strings ∙ labels.strings) (λ h. again.next h ∙ labels.next h)) in
        let second : holds (cycle one back) g ≡ holds (cycle mid (twin first)) g = λ i. holds (cycle-same mid one labels.strings labels.next i (is_back i)) g in
        all.face g ∙ (λ i. if third i then inner else (again.face g ∙ (λ j. if second j then outer else (labels.face g ∙ ap (λ (f : Face). if holds (cycle mid first) g then inner else f) (halves.face g)) j)) i)
      where
        any : (Half → List Half) → Half → List Half → Bool
        any c g hs = list_any (λ h. holds (c h) g) hs

    local_new : IsLocal parted new
    local_new =
        local-kept parted mid new (λ g shown. all.has g ∙ again.has g ∙ labels.has g) (λ g shown. nexts g) (λ g shown. origins g) now local_mid

    pub fits-with : FitsTable parted new
    fits-with = record {
      local = local_new;
      ends = ends-same mid new origins (λ g. all.has g ∙ again.has g ∙ labels.has g) parted.strings ends_mid;
      faces =
          labelled-faces parted parts new local_new (λ h shown same. two_mid h shown (sym (origins h) ∙ same ∙ origins (twin h)))
          (λ b there g on.
          came-labelled whole parted outer inner ring left right others it rings parts path more old mid fits local_mid two_mid halves.origin first
          (first-on mid along_mid).0 (first-on mid along_mid).1 moved (of-same old mid halves.origin parted moved inner others of) (face new) faces b there g
          (on-same new mid (λ h. sym (origins h)) parted b g on));
    }

  -- ---- It goes

  module _ (long : 2 ≤ length ring) (old one two new : HalfRows) (back : Half) (is_back : back ≡ twin first)
      (all : RelabelsEach moved outer old one) (labels : Relabels (cycle one back) inner one two) (halves : KeepsHalves two new)
      (elsewhere : (g : Half) → AreElsewhere g (first ∷ rest) → next new g ≡ next two g) (now : IsLinked new)
      (along : AreAlong old (first ∷ rest) (sides_of ring)) (ends : AllByRecursion (HasHalves old) whole.strings) (of : AreOfRings parted old moved inner others) (fits : FitsTable parted old) where
    abbrev gone : List Half
    gone = first ∷ rest

    went_origins : (g : Half) → origin_of new g ≡ origin_of old g
    went_origins g = halves.origin g ∙ labels.origin g ∙ all.origin g

    went_has : (g : Half) → has new g ≡ has old g
    went_has g = halves.has g ∙ labels.has g ∙ all.has g

    two_old : (h : Half) → IsShown parted h → origin_of old h ≢ origin_of old (twin h)
    two_old h shown = half-two (bare parted old) fits.ends (two-ends parted parts) h shown

    pub fits-without : FitsTable whole new
    fits-without = record {
      local =
          island-goes whole parted ring long it.corners parts old gone more fits.local along new now
          (λ h shown. went_has h ∙ fits.local.there h (more-old whole parted gone more h shown)) (λ g away. elsewhere g away ∙ labels.next g ∙ all.next g) went_origins;
      ends = ends-same old new went_origins went_has whole.strings ends;
      faces = λ h shown.
          let at = on-other whole parted outer inner ring left right others it parts long gone more old fits along two_old first (first-on old along).1 moved of h shown in
          let off = off-right whole parted outer inner ring left right others it parts long gone more old fits along two_old first (first-on old along).1 moved of h shown in
          let is : face new h ≡ (handed_over outer inner at.0).face =
          relabelled-faces outer inner first moved old one two new back is_back all labels halves h ∙ ap (λ (t : Bool). if t then inner else if on_cycles old moved h then outer else face old h) off
          ∙ went-face whole parted outer inner ring left right others it parts long gone more old fits along two_old first (first-on old along).1 moved of h shown at.0 at.1 at.2 in
          subst (λ (f : Face). HasSide whole f (side_by new h)) (sym is)
          (ring-has_side whole (handed_over outer inner at.0) (side_by new h) (handed-there whole parted outer inner ring left right others it at.0 at.1)
          (subst (λ (r : Ring). Contains (sides_of r) (side_by new h)) (sym (handed-ring outer inner at.0)) (on-same old new went_origins parted at.0 h at.2).side));
    }

-- the path round an island that a map has more is tied together
pub round-inside : {whole parted : Map} {outer inner : Face} {first : Half} {rest moved : List Half} {rows : HalfRows} (its : HasIslandMore whole parted outer inner (first ∷ rest) moved rows)
    → 2 ≤ length its.ring → IsLocal parted rows → IsRound (next rows) first rest
round-inside {whole} {parted} {first = first} {rest = rest} {rows = rows} its long local =
    ring-round parted its.parts rows local first rest its.ring long its.along
    (All-from_each (IsShown parted) (first ∷ rest) (λ h among. more-new whole parted (first ∷ rest) its.more h among)) its.is.corners.along its.is.corners.back

-- A map's table with the point, once the path through it is in the place of the string past it.
use Rattle.std.proofs.Common.{◌≡◌, ◌≢◌, ℕ, ◌⊎◌, inl, inr, refl, sym, ap, subst, ◌∙◌, map}
use Rattle.std.specs.List.{AllByRecursion, Contains}
use Rattle.cad_rows.specs.declared.names.Face.{Face}
use Rattle.cad_rings.specs.Cycle.{Side, sides_of}
use Rattle.cad_map.specs.declared.boundary.Boundary.{Boundary}
use Rattle.cad_map.specs.Boundaries.{face_place}
use Rattle.cad_map.specs.Map.{Map, all_sides}
use Rattle.cad_map.specs.Views.{HasSide}
use Rattle.cad_map.proofs.CallerLemmas.{All-at_each, Contains-first, Contains-flat_map}
use Rattle.half_table.specs.declared.half.Half.{Half}
use Rattle.half_table.specs.Half.{twin}
use Rattle.half_table.specs.Rows.{HalfRows, IsLinked, next, face, cycle}
use Rattle.half_table.specs.Surgery.{KeepsHalves, Relabels}
use Rattle.half_table.proofs.Halves.{is_half-turned, is_half-twin}
use Rattle.cad_laws.specs.Local.{IsShown, IsLocal, side_by}
use Rattle.cad_laws.proofs.CallerLemmas.{side-face, one-face}
use Rattle.key_lists.specs.Held.{Held, items_at}
use Rattle.map_parts.specs.KeptRings.{IsKept, KeepsRings}
use Rattle.map_parts.specs.Parts.{HasHalves}
use Rattle.map_parts.specs.Passing.{HasBetween, FitTable, kept_in, in_place_at}
use Rattle.map_parts.specs.declared.edits.passing.Passing.{Passing}
use Rattle.map_parts.proofs.CycleRings.{cycle-next}
use Rattle.map_parts.proofs.Passing.RingsWithout as rings
use Rattle.map_parts.proofs.Passing.Between as between
use Rattle.map_parts.proofs.Passing.Between.{LeadBetween, IsThrough, IsPast, IsOther, other-half}
use Rattle.map_parts.proofs.Passing.Routes.{IsThroughNow}
use Rattle.map_parts.proofs.Passing.Local.{string-half_side, same-side}
use Rattle.map_parts.proofs.Passing.Through as through_point
use Rattle.map_parts.proofs.Passing.KeptAlong.{IsKeptOn, without_point, kept-face, kept-at, kept-back}
use Rattle.map_parts.proofs.Passing.Relabelled.{AreBothFaced, both-faced}
use Rattle.map_parts.proofs.Passing.InPlace.{in-place-here, in-place-other, same-face, kept-moved}

module _ {through past : Map} {p a b : ℕ} {passing : Passing}
    (it : HasBetween through past p a b passing) (rows : HalfRows) (held : Held Half)
    (fits : FitTable past rows held) (first_there : HasHalves rows it.first_row)
    (second_there : HasHalves rows it.second_row)
    (new : HalfRows) (keeps : KeepsHalves rows new) (linked : IsLinked new)
    (now : IsThroughNow passing.first passing.second passing.whole (next rows) (next new)) where
  abbrev left : Face
  left = face rows passing.whole

  abbrev right : Face
  right = face rows (twin passing.whole)

  ways : LeadBetween rows p a b passing
  ways = through_point.ways it rows fits.local fits.ends first_there second_there

  pub local : IsLocal through new
  local = through_point.through-local it rows fits.local fits.ends first_there second_there new keeps linked now

  pub ends : AllByRecursion (HasHalves new) through.strings
  ends = through_point.through-ends it rows fits.local fits.ends first_there second_there new keeps linked now

  -- ---- The faces of the sides through the point

  left-past : HasSide past left (a, b)
  left-past = subst (HasSide past left) ways.whole (fits.faces passing.whole (between.whole-shown it passing.whole refl))

  right-past : HasSide past right (b, a)
  right-past = subst (HasSide past right) ways.whole_back (fits.faces (twin passing.whole) (between.whole-shown it (twin passing.whole) refl))

  first-among : Contains (all_sides through) (a, p)
  first-among =
      subst (Contains (all_sides through)) ways.first
      (string-half_side through it.rings rows it.first_row (between.first-in it) first_there passing.first (sym it.first_along.string))

  second-among : Contains (all_sides through) (b, p)
  second-among =
      subst (Contains (all_sides through)) ways.second_back
      (string-half_side through it.rings rows it.second_row (between.second-in it) second_there (twin passing.second) (sym it.second_along.string))

  pub left-through : HasSide through left (side_by new passing.first)
  left-through =
      let k = side-face through it.rings (a, p) first-among in
      let same : k.0 ≡ left = one-face past it.rings_past k.0 left (a, b) (it.joined.side_forth k.0 k.2) left-past in
      subst (HasSide through left) (sym (same-side rows new keeps passing.first ∙ ways.first)) (subst (λ (f : Face). HasSide through f (a, p)) same k.2)

  pub right-through : HasSide through right (side_by new (twin passing.second))
  right-through =
      let k = side-face through it.rings (b, p) second-among in
      let same : k.0 ≡ right = one-face past it.rings_past k.0 right (b, a) (it.joined.side_back k.0 k.2) right-past in
      subst (HasSide through right) (sym (same-side rows new keeps (twin passing.second) ∙ ways.second_back)) (subst (λ (f : Face). HasSide through f (b, p)) same k.2)

  -- the face of a half elsewhere
  elsewhere-faced : (h : Half) → IsOther it h → HasSide through (face new h) (side_by new h)
  elsewhere-faced h k =
      let shown = between.other-past it h k in
      let away = it.joined.gone _ (fits.local.corners h shown) in
      let among =
      string-half_side through it.rings rows k.row (between.other-in_through it k.row k.there)
      (All-at_each (HasHalves rows) past.strings k.row fits.ends (between.other-in_past it k.row k.there)) h k.number in
      let f = side-face through it.rings (side_by rows h) among in
      let same : f.0 ≡ face rows h =
      one-face past it.rings_past f.0 (face rows h) (side_by rows h)
      (it.joined.side_stays f.0 (side_by rows h) f.2 away.0 away.1) (fits.faces h shown) in
      subst (λ (g : Face). HasSide through g (side_by new h)) (sym (keeps.face h))
      (subst (HasSide through (face rows h)) (sym (same-side rows new keeps h))
      (subst (λ (g : Face). HasSide through g (side_by rows h)) same f.2))

  -- ---- Both rings labelled

  module _ (mid done : HalfRows) (mid_linked : IsLinked mid) (done_linked : IsLinked done)
      (one : Relabels (cycle new passing.first) left new mid) (two : Relabels (cycle mid (twin passing.second)) right mid done) where
    x-shown : IsShown through passing.first
    x-shown = between.first-shown it passing.first refl

    ty-shown : IsShown through (twin passing.second)
    ty-shown = between.second-shown it (twin passing.second) refl

    labelled : AreBothFaced through new mid done passing.first (twin passing.second)
    labelled = both-faced through it.rings new local ends passing.first x-shown left left-through (twin passing.second) ty-shown right right-through mid done mid_linked done_linked one two

    second-faced : HasSide through (face done passing.second) (side_by done passing.second)
    second-faced =
        labelled.first passing.second
        (subst (Contains (cycle new passing.first)) now.first
        (cycle-next new linked passing.first (local.there passing.first x-shown) passing.first (Contains-first passing.first _)))

    first_back-faced : HasSide through (face done (twin passing.first)) (side_by done (twin passing.first))
    first_back-faced =
        labelled.second (twin passing.first)
        (subst (Contains (cycle mid (twin passing.second))) (one.next (twin passing.second) ∙ now.second_back)
        (cycle-next mid mid_linked (twin passing.second) (one.has (twin passing.second) ∙ local.there (twin passing.second) ty-shown) (twin passing.second) (Contains-first (twin passing.second) _)))

    faced : (h : Half) → IsShown through h → HasSide through (face done h) (side_by done h)
    faced h shown = elim (between.through-half it h shown) [
      | IsThrough.is_first e ↦ subst (λ (g : Half). HasSide through (face done g) (side_by done g)) (sym e) (labelled.first passing.first (Contains-first passing.first _))
      | IsThrough.is_first_back e ↦ subst (λ (g : Half). HasSide through (face done g) (side_by done g)) (sym e) first_back-faced
      | IsThrough.is_second e ↦ subst (λ (g : Half). HasSide through (face done g) (side_by done g)) (sym e) second-faced
      | IsThrough.is_second_back e ↦ subst (λ (g : Half). HasSide through (face done g) (side_by done g)) (sym e) (labelled.second (twin passing.second) (Contains-first (twin passing.second) _))
      | IsThrough.is_other k ↦ labelled.stays h (elsewhere-faced h k)
    ]

    done-side : (h : Half) → side_by done h ≡ side_by rows h
    done-side h = labelled.sides h ∙ same-side rows new keeps h

    -- ---- One half of each ring

    abbrev L : ℕ
    L = face_place left

    abbrev R : ℕ
    R = face_place right

    abbrev moved : ℕ → Half → Half
    moved n h = in_place_at R (twin passing.whole) (twin passing.second) n (in_place_at L passing.whole passing.first n h)

    module _ (k : Face × Half) (c : Boundary) (isk : IsKept past rows fits.kept.homes k)
        (there : Contains through.boundaries c) (same : without_point p c ≡ fits.kept.homes k.1) where
      of-face : c.face ≡ k.0
      of-face = ap (λ (r : Boundary). r.face) same ∙ isk.face

      was : Contains (sides_of (without_point p c).ring) (side_by rows k.1)
      was = subst (λ (r : Boundary). Contains (sides_of r.ring) (side_by rows k.1)) (sym same) isk.has

      kept-on : (h : Half) → moved (face_place k.0) k.1 ≡ h → IsShown through h
          → Contains (sides_of c.ring) (side_by rows h)
          → IsKeptOn through done it.rings (k.0, moved (face_place k.0) k.1) c
      kept-on = kept-at through done it.rings rows done-side k.0 (moved (face_place k.0) k.1) c there of-face

      none : (u v : ℕ) → u ≢ v → side_by rows k.1 ≡ (u, v) → side_by rows k.1 ≡ (v, u) → ⊥
      none u v apart one two = apart (ap (λ (s : Side). s.0) (sym one ∙ two))

      split : Contains (sides_of c.ring) (side_by rows k.1)
          ⊎ (((side_by rows k.1 ≡ (a, b)) × Contains (sides_of c.ring) (a, p))
          ⊎ ((side_by rows k.1 ≡ (b, a)) × Contains (sides_of c.ring) (b, p)))
      split = rings.side-was it.joined it.rings c there (side_by rows k.1) was

      in-map : (s : Side) → Contains (sides_of c.ring) s → Contains (all_sides through) s
      in-map s has = Contains-flat_map (λ (r : Boundary). sides_of r.ring) through.boundaries c s there has

      of-whole : k.1 ≡ passing.whole → IsKeptOn through done it.rings (k.0, moved (face_place k.0) k.1) c
      of-whole e =
          let is : side_by rows k.1 ≡ (a, b) = ap (side_by rows) e ∙ ways.whole in
          let mine : k.0 ≡ left =
          one-face past it.rings_past k.0 left (a, b) (subst (HasSide past k.0) is (kept-face past rows fits.kept.homes k isk)) left-past in
          let to : moved (face_place k.0) k.1 ≡ passing.first =
          ap (moved (face_place k.0)) e
          ∙ ap (in_place_at R (twin passing.whole) (twin passing.second) (face_place k.0)) (in-place-here L (face_place k.0) passing.whole passing.first (ap face_place (sym mine)))
          ∙ in-place-other R (face_place k.0) (twin passing.whole) (twin passing.second) passing.first
          (other-half passing.first (twin passing.whole) (λ s. between.zx it (sym s))) in
          kept-on passing.first to x-shown
          (subst (Contains (sides_of c.ring)) (sym ways.first) (elim split [
            | inl has ↦ absurd (it.look.forth (subst (Contains (all_sides through)) is (in-map (side_by rows k.1) has)))
            | inr new ↦ elim new [
              | inl forth ↦ forth.1
              | inr back ↦ absurd (none a b it.joined.apart is back.0)
            ]
          ]))

      of-whole_back : k.1 ≡ twin passing.whole → IsKeptOn through done it.rings (k.0, moved (face_place k.0) k.1) c
      of-whole_back e =
          let is : side_by rows k.1 ≡ (b, a) = ap (side_by rows) e ∙ ways.whole_back in
          let mine : k.0 ≡ right =
          one-face past it.rings_past k.0 right (b, a) (subst (HasSide past k.0) is (kept-face past rows fits.kept.homes k isk)) right-past in
          let to : moved (face_place k.0) k.1 ≡ twin passing.second =
          ap (moved (face_place k.0)) e
          ∙ ap (in_place_at R (twin passing.whole) (twin passing.second) (face_place k.0))
          (in-place-other L (face_place k.0) passing.whole passing.first (twin passing.whole) (is_half-turned passing.whole (twin passing.whole) (is_half-twin passing.whole)))
          ∙ in-place-here R (face_place k.0) (twin passing.whole) (twin passing.second) (ap face_place (sym mine)) in
          kept-on (twin passing.second) to ty-shown
          (subst (Contains (sides_of c.ring)) (sym ways.second_back) (elim split [
            | inl has ↦ absurd (it.look.back (subst (Contains (all_sides through)) is (in-map (side_by rows k.1) has)))
            | inr new ↦ elim new [
              | inl forth ↦ absurd (none a b it.joined.apart forth.0 is)
              | inr back ↦ back.1
            ]
          ]))

      of-other : IsOther it k.1 → IsKeptOn through done it.rings (k.0, moved (face_place k.0) k.1) c
      of-other o =
          let apart = between.not-whole it k.1 o in
          let shown = between.other-past it k.1 o in
          let to : moved (face_place k.0) k.1 ≡ k.1 =
          ap (in_place_at R (twin passing.whole) (twin passing.second) (face_place k.0)) (in-place-other L (face_place k.0) passing.whole passing.first k.1 (other-half k.1 passing.whole apart))
          ∙ in-place-other R (face_place k.0) (twin passing.whole) (twin passing.second) k.1 (other-half k.1 (twin passing.whole) apart) in
          kept-on k.1 to (between.other-through it k.1 o) (elim split [
            | inl has ↦ has
            | inr new ↦ elim new [
              | inl forth ↦
                  absurd (apart (ap (λ (q : Half). q.string)
                  (fits.local.apart k.1 passing.whole shown (between.whole-shown it passing.whole refl) (forth.0 ∙ sym ways.whole))))
              | inr back ↦
                  absurd (apart (ap (λ (q : Half). q.string)
                  (fits.local.apart k.1 (twin passing.whole) shown (between.whole-shown it (twin passing.whole) refl) (back.0 ∙ sym ways.whole_back))))
            ]
          ])

      moved-on : IsKeptOn through done it.rings (k.0, moved (face_place k.0) k.1) c
      moved-on = elim (between.past-half it k.1 isk.is_shown) [
        | IsPast.is_whole e ↦ of-whole e
        | IsPast.is_whole_back e ↦ of-whole_back e
        | IsPast.is_elsewhere o ↦ of-other o
      ]

    module _ (then_held : Held Half) (each : (n : ℕ) → items_at then_held n ≡ map (moved n) (items_at held n)) where
      keeps-rings : KeepsRings through done (kept_in through then_held)
      keeps-rings =
          subst (KeepsRings through done) (sym (kept-moved past through it.parcels held then_held moved each))
          (kept-back through done it.rings past rows (kept_in past held) fits.kept
          (λ (k : Face × Half). moved (face_place k.0) k.1) (without_point p) it.joined.boundaries
          (λ k c among there same. moved-on k c
          (All-at_each (IsKept past rows fits.kept.homes) (kept_in past held) k fits.kept.each among) there same))

      pub fit-through : FitTable through done then_held
      fit-through = record {
        local = labelled.local;
        ends = labelled.ends;
        faces = faced;
        kept = keeps-rings;
        no_face = λ f none.
            each (face_place f)
            ∙ ap (map (moved (face_place f))) (fits.no_face f (same-face past through it.parcels f ∙ none));
      }

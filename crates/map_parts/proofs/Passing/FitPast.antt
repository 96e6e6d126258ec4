-- A map's table without the point, once the string past it is in the place of the path through it.
use Rattle.std.proofs.Common.{◌≡◌, ℕ, ◌⊎◌, inl, inr, refl, sym, ap, subst, ◌∙◌, length, ◌≤◌, map, false}
use Rattle.std.proofs.lemmas.List.Sorted.{Contains-permutation}
use Rattle.std.specs.List.{AllByRecursion, Contains}
use Rattle.cad_rows.specs.declared.names.Face.{Face}
use Rattle.cad_rings.specs.Cycle.{Side, sides_of, corners_of}
use Rattle.cad_rings.specs.Surgery.{corner}
use Rattle.cad_map.specs.declared.boundary.Boundary.{Boundary}
use Rattle.cad_map.specs.Boundaries.{face_place}
use Rattle.cad_map.specs.Map.{Map}
use Rattle.cad_map.specs.Views.{HasSide}
use Rattle.cad_map.proofs.CallerLemmas.{All-at_each, Contains-first, Contains-map, Contains-in_part, corner-sides}
use Rattle.half_table.specs.declared.half.Half.{Half}
use Rattle.half_table.specs.Half.{twin, is_half}
use Rattle.half_table.specs.Rows.{HalfRows, IsLinked, next, face, cycle}
use Rattle.half_table.specs.Surgery.{KeepsHalves, Relabels}
use Rattle.half_table.proofs.Halves.{is_half-turned, is_half-twin}
use Rattle.cad_laws.specs.Local.{IsShown, IsLocal, side_by}
use Rattle.cad_laws.proofs.CallerLemmas.{one-face, two-whole}
use Rattle.cad_laws.specs.Parting.{HasCorner}
use Rattle.key_lists.specs.Held.{Held, items_at}
use Rattle.map_parts.specs.KeptRings.{IsKept, KeepsRings}
use Rattle.map_parts.specs.Parts.{HasHalves}
use Rattle.map_parts.specs.Passing.{HasBetween, FitTable, kept_in, in_place_at}
use Rattle.map_parts.specs.declared.edits.passing.Passing.{Passing}
use Rattle.map_parts.proofs.Passing.OneHand.{ring-face_has}
use Rattle.map_parts.proofs.Passing.RingsWithout as rings
use Rattle.map_parts.proofs.Passing.Between as between
use Rattle.map_parts.proofs.Passing.Between.{LeadBetween, IsThrough, IsPast, IsOther, other-half}
use Rattle.map_parts.proofs.Passing.Routes.{IsPastNow}
use Rattle.map_parts.proofs.Passing.Past as past_point
use Rattle.map_parts.proofs.Passing.Local.{same-side}
use Rattle.map_parts.proofs.Passing.KeptAlong.{IsKeptOn, without_point, kept-face, kept-at, kept-made}
use Rattle.map_parts.proofs.Passing.Relabelled.{AreBothFaced, both-faced}
use Rattle.map_parts.proofs.Passing.InPlace.{in-place-here, in-place-other, same-face, kept-moved}

module _ {through past : Map} {p a b : ℕ} {passing : Passing}
    (it : HasBetween through past p a b passing) (rows : HalfRows) (held : Held Half)
    (fits : FitTable through rows held) (whole_there : HasHalves rows it.whole_row)
    (new : HalfRows) (keeps : KeepsHalves rows new) (linked : IsLinked new)
    (now : IsPastNow passing.first passing.second passing.whole (next rows) (next new)) where
  abbrev left : Face
  left = face rows passing.first

  abbrev right : Face
  right = face rows (twin passing.second)

  ways : LeadBetween rows p a b passing
  ways = past_point.ways it rows fits.local fits.ends whole_there

  pub local : IsLocal past new
  local = past_point.past-local it rows fits.local fits.ends whole_there new keeps linked now

  pub ends : AllByRecursion (HasHalves new) past.strings
  ends = past_point.past-ends it rows fits.local fits.ends whole_there new keeps linked now

  -- ---- The faces of the sides past the point

  left-has : HasSide through left (a, p)
  left-has = subst (HasSide through left) ways.first (fits.faces passing.first (between.first-shown it passing.first refl))

  right-has : HasSide through right (b, p)
  right-has = subst (HasSide through right) ways.second_back (fits.faces (twin passing.second) (between.second-shown it (twin passing.second) refl))

  pub left-past : HasSide past left (side_by new passing.whole)
  left-past = subst (HasSide past left) (sym (same-side rows new keeps passing.whole ∙ ways.whole)) (it.joined.side_forth left left-has)

  pub right-past : HasSide past right (side_by new (twin passing.whole))
  right-past = subst (HasSide past right) (sym (same-side rows new keeps (twin passing.whole) ∙ ways.whole_back)) (it.joined.side_back right right-has)

  -- the face of a half elsewhere
  elsewhere-faced : (h : Half) → IsOther it h → HasSide past (face new h) (side_by new h)
  elsewhere-faced h k =
      let zero = past_point.begins-elsewhere it rows fits.local fits.ends whole_there h k in
      let one = past_point.ends-elsewhere it rows fits.local fits.ends whole_there h k in
      subst (λ (g : Face). HasSide past g (side_by new h)) (sym (keeps.face h))
      (subst (HasSide past (face rows h)) (sym (same-side rows new keeps h))
      (it.joined.side_stays (face rows h) (side_by rows h)
      (fits.faces h (between.other-through it h k)) zero one))

  -- ---- Both rings labelled

  module _ (mid done : HalfRows) (mid_linked : IsLinked mid) (done_linked : IsLinked done)
      (one : Relabels (cycle new passing.whole) left new mid) (two : Relabels (cycle mid (twin passing.whole)) right mid done) where
    z-shown : IsShown past passing.whole
    z-shown = between.whole-shown it passing.whole refl

    tz-shown : IsShown past (twin passing.whole)
    tz-shown = between.whole-shown it (twin passing.whole) refl

    labelled : AreBothFaced past new mid done passing.whole (twin passing.whole)
    labelled = both-faced past it.rings_past new local ends passing.whole z-shown left left-past (twin passing.whole) tz-shown right right-past mid done mid_linked done_linked one two

    faced : (h : Half) → IsShown past h → HasSide past (face done h) (side_by done h)
    faced h shown = elim (between.past-half it h shown) [
      | IsPast.is_whole e ↦ subst (λ (g : Half). HasSide past (face done g) (side_by done g)) (sym e) (labelled.first passing.whole (Contains-first passing.whole _))
      | IsPast.is_whole_back e ↦ subst (λ (g : Half). HasSide past (face done g) (side_by done g)) (sym e) (labelled.second (twin passing.whole) (Contains-first (twin passing.whole) _))
      | IsPast.is_elsewhere k ↦ labelled.stays h (elsewhere-faced h k)
    ]

    done-side : (h : Half) → side_by done h ≡ side_by rows h
    done-side h = labelled.sides h ∙ same-side rows new keeps h

    -- ---- One half of each ring

    abbrev L : ℕ
    L = face_place left

    abbrev R : ℕ
    R = face_place right

    abbrev moved : ℕ → Half → Half
    moved n h =
        in_place_at R (twin passing.first) (twin passing.whole) n (in_place_at R (twin passing.second) (twin passing.whole) n
        (in_place_at L passing.second passing.whole n (in_place_at L passing.first passing.whole n h)))

    -- the four one after another
    in-turn : (n : ℕ) (h : Half) {i j k l : Half} → in_place_at L passing.first passing.whole n h ≡ i → in_place_at L passing.second passing.whole n i ≡ j → in_place_at R (twin passing.second) (twin passing.whole) n j ≡ k
        → in_place_at R (twin passing.first) (twin passing.whole) n k ≡ l → moved n h ≡ l
    in-turn n h e0 e1 e2 e3 =
        ap (λ (g : Half). in_place_at R (twin passing.first) (twin passing.whole) n (in_place_at R (twin passing.second) (twin passing.whole) n (in_place_at L passing.second passing.whole n g))) e0
        ∙ ap (λ (g : Half). in_place_at R (twin passing.first) (twin passing.whole) n (in_place_at R (twin passing.second) (twin passing.whole) n g)) e1
        ∙ ap (in_place_at R (twin passing.first) (twin passing.whole) n) e2 ∙ e3

    -- where a half isn't one of the path it stays in its place
    stays : (n : ℕ) (h : Half) → is_half h passing.first ≡ false → is_half h passing.second ≡ false → is_half h (twin passing.second) ≡ false
        → is_half h (twin passing.first) ≡ false → moved n h ≡ h
    stays n h e0 e1 e2 e3 =
        in-turn n h (in-place-other L n passing.first passing.whole h e0) (in-place-other L n passing.second passing.whole h e1) (in-place-other R n (twin passing.second) (twin passing.whole) h e2)
        (in-place-other R n (twin passing.first) (twin passing.whole) h e3)

    whole-stays : (n : ℕ) → in_place_at R (twin passing.second) (twin passing.whole) n passing.whole ≡ passing.whole
    whole-stays n = in-place-other R n (twin passing.second) (twin passing.whole) passing.whole (other-half passing.whole (twin passing.second) (between.zy it))

    -- the halves of the string aren't those of the path's first
    none-first : (n : ℕ) (h : Half) → h.string ≡ passing.whole.string → in_place_at R (twin passing.first) (twin passing.whole) n h ≡ h
    none-first n h same = in-place-other R n (twin passing.first) (twin passing.whole) h (other-half h (twin passing.first) (λ e. between.zx it (sym same ∙ e)))

    to-first : (n : ℕ) → L ≡ n → moved n passing.first ≡ passing.whole
    to-first n e =
        in-turn n passing.first (in-place-here L n passing.first passing.whole e) (in-place-other L n passing.second passing.whole passing.whole (other-half passing.whole passing.second (between.zy it))) (whole-stays n)
        (none-first n passing.whole refl)

    to-second : (n : ℕ) → L ≡ n → moved n passing.second ≡ passing.whole
    to-second n e =
        in-turn n passing.second (in-place-other L n passing.first passing.whole passing.second (other-half passing.second passing.first (λ s. between.xy it (sym s)))) (in-place-here L n passing.second passing.whole e) (whole-stays n)
        (none-first n passing.whole refl)

    to-second_back : (n : ℕ) → R ≡ n → moved n (twin passing.second) ≡ twin passing.whole
    to-second_back n e =
        in-turn n (twin passing.second) (in-place-other L n passing.first passing.whole (twin passing.second) (other-half (twin passing.second) passing.first (λ s. between.xy it (sym s))))
        (in-place-other L n passing.second passing.whole (twin passing.second) (is_half-turned passing.second (twin passing.second) (is_half-twin passing.second)))
        (in-place-here R n (twin passing.second) (twin passing.whole) e) (none-first n (twin passing.whole) refl)

    to-first_back : (n : ℕ) → R ≡ n → moved n (twin passing.first) ≡ twin passing.whole
    to-first_back n e =
        in-turn n (twin passing.first) (in-place-other L n passing.first passing.whole (twin passing.first) (is_half-turned passing.first (twin passing.first) (is_half-twin passing.first)))
        (in-place-other L n passing.second passing.whole (twin passing.first) (other-half (twin passing.first) passing.second (between.xy it)))
        (in-place-other R n (twin passing.second) (twin passing.whole) (twin passing.first) (other-half (twin passing.first) (twin passing.second) (between.xy it))) (in-place-here R n (twin passing.first) (twin passing.whole) e)

    module _ (k : Face × Half) (isk : IsKept through rows fits.kept.homes k) where
      abbrev c : Boundary
      c = fits.kept.homes k.1

      made-there : Contains past.boundaries (without_point p c)
      made-there =
          Contains-permutation (map (without_point p) through.boundaries) past.boundaries (without_point p c) it.joined.boundaries
          (Contains-map (without_point p) through.boundaries c isk.there)

      kept-on : (h : Half) → moved (face_place k.0) k.1 ≡ h → IsShown past h
          → Contains (sides_of (without_point p c).ring) (side_by rows h)
          → IsKeptOn past done it.rings_past (k.0, moved (face_place k.0) k.1) (without_point p c)
      kept-on = kept-at past done it.rings_past rows done-side k.0 (moved (face_place k.0) k.1) (without_point p c) made-there isk.face

      -- the sides of a ring's corner have one face
      beyond-faced : (f : Face) (u v : ℕ) → HasCorner through (corner u p v) → HasSide through f (u, p)
          → HasSide through f (p, v)
      beyond-faced f u v at has =
          let part = Contains-in_part (λ (r : Boundary). corners_of r.ring) through.boundaries (corner u p v) at in
          let long = All-at_each (λ r. 2 ≤ length r.ring) through.boundaries part.0 (two-whole through it.rings) part.1 in
          let both = corner-sides part.0.ring long (corner u p v) part.2 in
          let same = one-face through it.rings part.0.face f (u, p) (ring-face_has through part.0 part.1 (u, p) both.0) has in
          subst (λ (g : Face). HasSide through g (p, v)) same (ring-face_has through part.0 part.1 (p, v) both.1)

      left-second : HasSide through left (p, b)
      left-second = beyond-faced left a b it.joined.first_there left-has

      right-first : HasSide through right (p, a)
      right-first = beyond-faced right b a it.joined.second_there right-has

      on-left : Contains (sides_of c.ring) (a, p) ⊎ Contains (sides_of c.ring) (p, b) → Contains (sides_of (without_point p c).ring) (side_by rows passing.whole)
      on-left on = subst (Contains (sides_of (without_point p c).ring)) (sym ways.whole) (rings.first-past it.joined it.rings (between.a-p it) (between.b-p it) c isk.there on)

      on-right : Contains (sides_of c.ring) (b, p) ⊎ Contains (sides_of c.ring) (p, a) → Contains (sides_of (without_point p c).ring) (side_by rows (twin passing.whole))
      on-right on = subst (Contains (sides_of (without_point p c).ring)) (sym ways.whole_back) (rings.second-past it.joined it.rings (between.a-p it) (between.b-p it) c isk.there on)

      -- a half of the path gives way to the string's that has its face
      of-path : (h g : Half) (s : Side) (f : Face) → side_by rows h ≡ s → HasSide through f s → ((n : ℕ) → face_place f ≡ n → moved n h ≡ g) → IsShown past g
          → (Contains (sides_of c.ring) s → Contains (sides_of (without_point p c).ring) (side_by rows g)) → k.1 ≡ h → IsKeptOn past done it.rings_past (k.0, moved (face_place k.0) k.1) (without_point p c)
      of-path h g s f way has to shown on e =
          let is : side_by rows k.1 ≡ s = ap (side_by rows) e ∙ way in
          let mine = one-face through it.rings f k.0 s has (subst (HasSide through k.0) is (kept-face through rows fits.kept.homes k isk)) in
          kept-on g (ap (moved (face_place k.0)) e ∙ to (face_place k.0) (ap face_place mine)) shown (on (subst (Contains (sides_of c.ring)) is isk.has))

      of-other : IsOther it k.1 → IsKeptOn past done it.rings_past (k.0, moved (face_place k.0) k.1) (without_point p c)
      of-other o =
          let nx = between.not-first it k.1 o in
          let ny = between.not-second it k.1 o in
          kept-on k.1
          (stays (face_place k.0) k.1 (other-half k.1 passing.first nx) (other-half k.1 passing.second ny) (other-half k.1 (twin passing.second) ny) (other-half k.1 (twin passing.first) nx))
          (between.other-past it k.1 o)
          (rings.side-stays it.joined it.rings c isk.there (side_by rows k.1) isk.has
          (past_point.begins-elsewhere it rows fits.local fits.ends whole_there k.1 o)
          (past_point.ends-elsewhere it rows fits.local fits.ends whole_there k.1 o))

      moved-on : IsKeptOn past done it.rings_past (k.0, moved (face_place k.0) k.1) (without_point p c)
      moved-on = elim (between.through-half it k.1 isk.is_shown) [
        | IsThrough.is_first e ↦ of-path passing.first passing.whole (a, p) left ways.first left-has to-first z-shown (λ on. on-left (inl on)) e
        | IsThrough.is_first_back e ↦ of-path (twin passing.first) (twin passing.whole) (p, a) right ways.first_back right-first to-first_back tz-shown (λ on. on-right (inr on)) e
        | IsThrough.is_second e ↦ of-path passing.second passing.whole (p, b) left ways.second left-second to-second z-shown (λ on. on-left (inr on)) e
        | IsThrough.is_second_back e ↦ of-path (twin passing.second) (twin passing.whole) (b, p) right ways.second_back right-has to-second_back tz-shown (λ on. on-right (inl on)) e
        | IsThrough.is_other o ↦ of-other o
      ]

    module _ (then_held : Held Half) (each : (n : ℕ) → items_at then_held n ≡ map (moved n) (items_at held n)) where
      keeps-rings : KeepsRings past done (kept_in past then_held)
      keeps-rings =
          subst (KeepsRings past done) (sym (kept-moved through past (sym it.parcels) held then_held moved each))
          (kept-made past done it.rings_past through rows (kept_in through held) fits.kept
          (λ (k : Face × Half). moved (face_place k.0) k.1) (without_point p) it.joined.boundaries
          (λ k among. moved-on k (All-at_each (IsKept through rows fits.kept.homes) (kept_in through held) k fits.kept.each among)))

      pub fit-past : FitTable past done then_held
      fit-past = record {
        local = labelled.local;
        ends = labelled.ends;
        faces = faced;
        kept = keeps-rings;
        no_face = λ f none.
            each (face_place f)
            ∙ ap (map (moved (face_place f))) (fits.no_face f (same-face through past (sym it.parcels) f ∙ none));
      }

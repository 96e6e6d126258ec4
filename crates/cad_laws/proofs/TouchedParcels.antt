-- What a division, an enclosure and a merger touch.
use Rattle.std.proofs.Common.{◌≡◌, ◌≢◌, ℕ, ◌≤◌, inl, inr, refl, sym, ap, subst, ◌∙◌, List, [], ◌∷◌, ◌++◌, length, map, filter, reverse, Bool, true, false, true≢false, not, None, arith}
use Rattle.std.proofs.lemmas.List.Elements.{Contains-append_cases}
use Rattle.std.specs.Prelude.{IsTrue, ◌↔◌}
use Rattle.std.specs.List.{Contains}
use Rattle.cad_rows.specs.declared.edits.Edit.TheVariants.{Divide, Enclose}
use Rattle.cad_rows.specs.declared.names.Face.{Face}
use Rattle.cad_rows.specs.declared.names.Face.TheVariants.{Outside, Parcel}
use Rattle.cad_rows.specs.declared.rows.ParcelRow.{ParcelRow}
use Rattle.cad_rows.specs.declared.rows.StringRow.{StringRow}
use Rattle.cad_rings.specs.Cycle.{Ring, has_side, sides_of, Corner}
use Rattle.cad_map.specs.declared.boundary.Boundary.{Boundary}
use Rattle.cad_map.specs.Asked.{GivesInRange}
use Rattle.cad_map.specs.Boundaries.{is_face, bounding}
use Rattle.cad_map.specs.Chain.{start_of, leaving, strings_along}
use Rattle.cad_map.specs.Changes.{divide, enclose, with_boundaries, with_new_parcel}
use Rattle.cad_map.specs.Division.{hole_placed, boundaries_enclosed}
use Rattle.cad_map.specs.Effects.{after}
use Rattle.cad_map.specs.Map.{Map, has_face}
use Rattle.cad_map.specs.Refusals.{first_refusal}
use Rattle.cad_map.specs.Touched.{Touched, IsTouched}
use Rattle.cad_map.specs.Valid.{IsValid}
use Rattle.cad_map.proofs.CallerLemmas.{allowed, can-divide, can-enclose, CanDivide, IsCutRing, cut_ring, CanEnclose, Contains-cases, Contains-first, Contains-later, has_side-Contains, is_face-same, sides-once, one_boundary, face-hole_placed, once-from_pairs}
use Rattle.cad_laws.specs.Parting.{HasCorner}
use Rattle.cad_laws.specs.Touching.{touching, touched_by}
use Rattle.cad_laws.proofs.CornersElsewhere.{corners-parted, corners-island}
use Rattle.cad_laws.proofs.DividedCorners.{new-is, others, placed, divided-parted}
use Rattle.cad_laws.proofs.Elsewhere.{one-face, not-face, filter-among, filter-changed, rings-elsewhere, found-pushed}
use Rattle.cad_laws.proofs.EnclosedCorners.{enclosed-island}
use Rattle.cad_laws.proofs.StandsElsewhere.{KeepsPoints, KeepsStrings, stands-elsewhere}

-- ---- Strings along a chain

-- the rows along a chain have its numbers, and its points as ends
pub rows-along : (sources strings chain : List ℕ) (s : StringRow)
    → Contains (strings_along sources strings chain) s
    → Contains strings s.number × Contains chain s.from × Contains chain s.to
rows-along sources [] chain s h = let low = h.1 in absurd (omega arith)
rows-along sources (n ∷ strings) [] s h = let low = h.1 in absurd (omega arith)
rows-along sources (n ∷ strings) (a ∷ []) s h = let low = h.1 in absurd (omega arith)
rows-along sources (n ∷ strings) (a ∷ b ∷ points) s h =
    let row : StringRow = record { number = n; from = a; to = b; sources = sources } in
    let rest = strings_along sources strings (b ∷ points) in
    elim (Contains-cases row rest s h) [
      | inl e ↦
          let second = Contains-later a (b ∷ points) b (Contains-first b points) in
          subst (λ (r : StringRow).
          Contains (n ∷ strings) r.number × Contains (a ∷ b ∷ points) r.from
          × Contains (a ∷ b ∷ points) r.to) e
          (Contains-first n strings, Contains-first a (b ∷ points), second)
      | inr later ↦
          let k = rows-along sources strings (b ∷ points) s later in (
            Contains-later n strings s.number k.0,
            Contains-later a (b ∷ points) s.from k.1,
            Contains-later a (b ∷ points) s.to k.2,
          )
    ]

-- ---- A new parcel

module _ (m : Map) (valid : IsValid m) (face : Face) (parcel : ℕ) (label : List ℕ) (source : ℕ)
    (rows : List StringRow) (bs : List Boundary) (points strings : List ℕ)
    (rows_at : (s : StringRow) → Contains rows s
    → Contains strings s.number × Contains points s.from × Contains points s.to) where
  abbrev made : Map
  made = with_boundaries bs (with_new_parcel rows parcel label source m)

  abbrev named : Touched
  named = touching points strings (face ∷ Parcel parcel ∷ [])

  abbrev Any : ℕ → Type 0
  Any q = Unit {0}

  on-points : KeepsPoints m made named valid.sound.v1 Any
  on-points = record { position = λ q known ok. refl; points = λ q known. inr (known, tt) }

  on-strings : KeepsStrings m made named valid.sound.v1 Any
  on-strings = record {
    stays = λ s. true;
    added = rows;
    strings = ap (λ (l : List StringRow). l ++ rows) (sym (all m.strings));
    kept = λ s h is. inr (tt, tt);
    went = λ s h is q end known. absurd (true≢false is);
    came = rows_at;
  }
    where
      all : (l : List StringRow) → filter (λ s. true) l ≡ l
      all [] = refl
      all (s ∷ l) = ap (λ (k : List StringRow). s ∷ k) (all l)

  -- a face of the new map is one of the two, or it was there
  face-there : (f : Face) → f ≢ Parcel parcel → IsTrue (has_face made f) → IsTrue (has_face m f)
  face-there Outside off known = refl
  face-there (Parcel n) off known =
      elim (found-pushed (λ (r : ParcelRow). r.number) n m.parcels
      (record { number = parcel; label = label; sources = source ∷ [] }) known) [
        | inl e ↦ absurd (off (ap Parcel (sym e)))
        | inr there ↦ there
      ]

  pub touched-parcel : ((q : ℕ) → (¬ Contains points q) → (c : Corner) → c.at ≡ q
      → HasCorner made c ↔ HasCorner m c)
      → ((f : Face) → f ≢ face → f ≢ Parcel parcel
      → filter (λ b. is_face f b.face) bs ≡ filter (λ b. is_face f b.face) m.boundaries)
      → IsTouched m made named
  touched-parcel corners rings =
      stands-elsewhere m made named valid.sound.v1 Any on-points on-strings
      (λ q known off c at. corners q off c at) (λ f known. elim (one-face f face) [
        | inl e ↦
            inl (subst (Contains named.faces) (sym e) (Contains-first face (Parcel parcel ∷ [])))
        | inr off ↦ elim (one-face f (Parcel parcel)) [
          | inl e ↦
              inl (subst (Contains named.faces) (sym e)
              (Contains-later face (Parcel parcel ∷ []) (Parcel parcel)
              (Contains-first (Parcel parcel) [])))
          | inr apart ↦ inr (record {
            there = face-there f apart known;
            rings = rings-elsewhere m valid.sound.v1 f bs (rings f off apart);
            points = λ r there q has. tt;
          })
        ]
      ]) tt tt

  -- the rings of another face are among those that stay
  pub placed-rings : (left right : Ring) (those : List Boundary) (f : Face) → f ≢ face
      → f ≢ Parcel parcel
      → filter (λ b. is_face f b.face) (bounding (Parcel parcel) left ∷ bounding face right
      ∷ map (hole_placed m face (Parcel parcel) left) those)
      ≡ filter (λ b. is_face f b.face) those
  placed-rings left right those f off apart =
      let own : Boundary → Bool = λ b. is_face f b.face in
      let e1 = not-face f (Parcel parcel) apart in
      let e2 = not-face f face off in
      rw (e1, e2)
      (filter-changed own (hole_placed m face (Parcel parcel) left) those keeps out)
    where
      keeps : (b : Boundary) → Contains those b → is_face f b.face ≡ true
          → hole_placed m face (Parcel parcel) left b ≡ b
      keeps b h is =
          let e = not-face face b.face (λ e. off (is_face-same f b.face is ∙ sym e)) in
          simp e refl

      out : (b : Boundary) → Contains those b → is_face f b.face ≡ false
          → is_face f (hole_placed m face (Parcel parcel) left b).face ≡ false
      out b h is = elim (face-hole_placed m face (Parcel parcel) left b) [
        | inl same ↦ ap (is_face f) same ∙ is
        | inr moved ↦ ap (is_face f) moved.0 ∙ not-face f (Parcel parcel) apart
      ]

-- ---- A division

touched-divide : (m : Map) (valid : IsValid m) (face : Face) (chain strings : List ℕ) (parcel : ℕ)
    (label : List ℕ) (source : ℕ) (can : CanDivide m face chain strings parcel label source)
    (b : Boundary) (ring : IsCutRing m face can.first can.last b)
    → ((q : ℕ) → (¬ Contains chain q) → (c : Corner) → c.at ≡ q
    → HasCorner (divide m face chain strings parcel label source) c ↔ HasCorner m c)
    → IsTouched m (divide m face chain strings parcel label source)
    (touching chain strings (face ∷ Parcel parcel ∷ []))
touched-divide m valid face chain strings parcel label source can b ring corners =
    let rows = strings_along (source ∷ []) strings chain in
    let is = new-is m valid face chain strings parcel label source can b ring in
    let bs = placed m valid face chain strings parcel label source can b ring in
    let t = touching chain strings (face ∷ Parcel parcel ∷ []) in
    subst (λ (n : Map). IsTouched m n t) (sym is)
    (touched-parcel m valid face parcel label source rows bs chain strings
    (rows-along (source ∷ []) strings chain)
    (λ q off c at. subst (λ (n : Map). HasCorner n c ↔ HasCorner m c) is (corners q off c at))
    (λ f off apart.
    placed-rings m valid face parcel label source rows bs chain strings
    (rows-along (source ∷ []) strings chain) _ _
    (others m valid face chain strings parcel label source can b ring) f off apart
    ∙ filter-among (λ (c : Boundary). is_face f c.face)
    (λ (c : Boundary). not (has_side (leaving can.first) (sides_of c.ring))) m.boundaries
    (uncut f off)))
  where
    uncut : (f : Face) → f ≢ face → (c : Boundary) → Contains m.boundaries c
        → is_face f c.face ≡ true → not (has_side (leaving can.first) (sides_of c.ring)) ≡ true
    uncut f off c there is = by (has_side (leaving can.first) (sides_of c.ring)) refl
      where
        by : (v : Bool) → has_side (leaving can.first) (sides_of c.ring) ≡ v → not v ≡ true
        by false e = refl
        by true e =
            let s = leaving can.first in
            let same : c ≡ b =
            one_boundary s m.boundaries c b
            (once-from_pairs _ (sides-once m valid) s) there ring.there
            (has_side-Contains s (sides_of c.ring) e)
            (has_side-Contains s (sides_of b.ring) ring.has_first) in
            absurd (off (is_face-same f c.face is ∙ ap (λ (d : Boundary). d.face) same
            ∙ sym ring.face_is))

pub divided-touched : (m : Map) (face : Face) (chain strings : List ℕ) (parcel : ℕ)
    (label : List ℕ) (source : ℕ) → IsValid m
    → GivesInRange (Divide face chain strings parcel label source)
    → first_refusal m (Divide face chain strings parcel label source) ≡ None
    → IsTouched m (after m (Divide face chain strings parcel label source))
    (touched_by m (Divide face chain strings parcel label source))
unfolding after
divided-touched m face chain strings parcel label source valid given none =
    let e = Divide face chain strings parcel label source in
    let can = can-divide m face chain strings parcel label source given (allowed m e none) in
    let ring = cut_ring m face can.first can.last can.one_ring in
    let it =
    divided-parted m face chain strings parcel label source can.first can.last valid given none
    can.at_first can.at_last in
    touched-divide m valid face chain strings parcel label source can ring.0 ring.1
    (corners-parted m (divide m face chain strings parcel label source) chain can.first can.last
    it can.long)

-- ---- An enclosure

pub enclosed-touched : (m : Map) (face : Face) (points strings : List ℕ) (parcel : ℕ)
    (label : List ℕ) (source : ℕ) → IsValid m
    → GivesInRange (Enclose face points strings parcel label source)
    → first_refusal m (Enclose face points strings parcel label source) ≡ None
    → IsTouched m (after m (Enclose face points strings parcel label source))
    (touched_by m (Enclose face points strings parcel label source))
unfolding after
enclosed-touched m face points strings parcel label source valid given none =
    let e = Enclose face points strings parcel label source in
    let can = can-enclose m face points strings parcel label source given (allowed m e none) in
    let it = enclosed-island m face points strings parcel label source valid given none in
    let rows = strings_along (source ∷ []) strings (points ++ start_of points ∷ []) in
    let bs = boundaries_enclosed m face (Parcel parcel) points in
    touched-parcel m valid face parcel label source rows bs points strings (rows-round can)
    (corners-island m (enclose m face points strings parcel label source) points it)
    (placed-rings m valid face parcel label source rows bs points strings (rows-round can)
    points (reverse points) m.boundaries)
  where
    -- the first point again is one of the points
    back : CanEnclose m face points strings parcel label source → (q : ℕ)
        → Contains (points ++ start_of points ∷ []) q → Contains points q
    back can q h = elim (Contains-append_cases points (start_of points ∷ []) q h) [
      | inl there ↦ there
      | inr again ↦ elim (Contains-cases (start_of points) [] q again) [
        | inl e ↦ subst (Contains points) e (first points can.long)
        | inr none ↦ let low = none.1 in absurd (omega arith)
      ]
    ]
      where
        first : (l : List ℕ) → 3 ≤ length l → Contains l (start_of l)
        first [] long = absurd (omega arith)
        first (x ∷ l) long = Contains-first x l

    rows-round : CanEnclose m face points strings parcel label source → (s : StringRow)
        → Contains (strings_along (source ∷ []) strings (points ++ start_of points ∷ [])) s
        → Contains strings s.number × Contains points s.from × Contains points s.to
    rows-round can s h =
        let k = rows-along (source ∷ []) strings (points ++ start_of points ∷ []) s h in
        (k.0, back can s.from k.1, back can s.to k.2)

-- What the halves tell of the rings of the map that they stand for.
use Rattle.std.proofs.Common.{◌≡◌, ◌≢◌, ℕ, ◌≤◌, ◌⊎◌, ◌==◌, Bool, true, false, List, [], ◌∷◌, length, map, refl, sym, ap, ◌∙◌, subst, arith, inl, inr, Option, Some, None, true≢false}
use Rattle.std.specs.Prelude.{flat_map, is_some}
use Rattle.std.specs.List.{AllByRecursion, Contains}
use Rattle.std.proofs.lemmas.Bool.{eqb-true}
use Rattle.std.proofs.lemmas.List.Sorted.{IsPermutation-sym, Contains-permutation}
use Rattle.cad_rows.specs.declared.names.Face.{Face}
use Rattle.cad_rows.specs.declared.rows.StringRow.{StringRow}
use Rattle.cad_rings.specs.Cycle.{Ring, Side, sides_of, Corner, corners_of, has_side}
use Rattle.cad_rings.specs.Surgery.{corner}
use Rattle.cad_rings.specs.Canonical.{least_rotation}
use Rattle.cad_rings.proofs.CallerLemmas.{sides_of-least_rotation}
use Rattle.cad_map.specs.declared.boundary.Boundary.{Boundary}
use Rattle.cad_map.specs.Boundaries.{bounding, is_face, canonical_order, sides_in, corners_in, canonical_form}
use Rattle.cad_map.specs.Map.{all_sides, rings_at}
use Rattle.numbered_rows.specs.Rows.{row_with}
use Rattle.cad_map.specs.Valid.{HasTwoEnds}
use Rattle.cad_map.specs.Views.{HasSide, ComesAfter}
use Rattle.cad_map.proofs.CallerLemmas.{Contains-cases, Contains-first, Contains-later, Contains-map, Contains-flat_map, Contains-in_part, All-at_each, All-from_each, map-Contains, find-Contains, Contains-has_side, is_face-refl, IsPermutation-canonical_order, sides_in-canonical_order, corners_in-canonical_order}
use Rattle.half_table.specs.declared.half.Half.{Half}
use Rattle.half_table.specs.Half.{twin, half_of}
use Rattle.half_table.specs.Rows.{HalfRows, has, next, origin_of, face, cycle}
use Rattle.cad_laws.specs.Local.{IsShown, side_by}
use Rattle.map_parts.specs.KeptRings.{kept_ring}
use Rattle.map_parts.specs.Parts.{Parts, FitTogether, HasHalves, rows_of, map_of, kept_halves, rings_kept}
use Rattle.map_parts.proofs.CycleRings.{turn, cycle-each, cycle-two, cycle-corners, cycle-sides}

-- a ring of a face among these is one of the face's
pub rings_at-there : (bs : List Boundary) (b : Boundary) → Contains bs b → Contains (rings_at b.face bs) b.ring
rings_at-there [] b h = let low = h.1 in absurd (omega arith)
rings_at-there (c ∷ bs) b h = by (is_face b.face c.face) refl (Contains-cases c bs b h) (λ later. rings_at-there bs b later)
  where
    by : (t : Bool) → is_face b.face c.face ≡ t → (c ≡ b) ⊎ Contains bs b → (Contains bs b → Contains (rings_at b.face bs) b.ring) → Contains (rings_at b.face (c ∷ bs)) b.ring
    by true is (inl same) again = rw is (subst (λ (r : Ring). Contains (c.ring ∷ rings_at b.face bs) r) (ap (λ (x : Boundary). x.ring) same) (Contains-first c.ring (rings_at b.face bs)))
    by true is (inr later) again = rw is (Contains-later c.ring (rings_at b.face bs) b.ring (again later))
    by false is (inl same) again = absurd (true≢false (sym (is_face-refl b.face) ∙ ap (λ (x : Boundary). is_face b.face x.face) (sym same) ∙ is))
    by false is (inr later) again = rw is (again later)

-- a side of a ring is one of its face's, in whatever order the rings stand
pub side-canonical : (bs : List Boundary) (b : Boundary) (s : Side) → Contains bs b → Contains (sides_of b.ring) s → has_side s (flat_map sides_of (rings_at b.face (canonical_order bs))) ≡ true
side-canonical bs b s there has =
    let among = Contains-permutation (map canonical_form bs) (canonical_order bs) (canonical_form b) (IsPermutation-canonical_order bs) (Contains-map canonical_form bs b there) in
    let on = Contains-permutation (sides_of b.ring) (sides_of (least_rotation b.ring)) s (sides_of-least_rotation b.ring) has in
    Contains-has_side s _ (Contains-flat_map sides_of (rings_at b.face (canonical_order bs)) (least_rotation b.ring) s (rings_at-there (canonical_order bs) (canonical_form b) among) on)

-- a row that is found is there, and has the number
pub found-row : (strings : List StringRow) (n : ℕ) → is_some (row_with (λ r. r.number) n strings) ≡ true → (s : StringRow) × Contains strings s × (s.number ≡ n)
found-row strings n h = by (row_with (λ r. r.number) n strings) refl h
  where
    by : (o : Option StringRow) → row_with (λ r. r.number) n strings ≡ o → is_some o ≡ true → (s : StringRow) × Contains strings s × (s.number ≡ n)
    by (Some s) is some = let found = find-Contains (λ r. r.number == n) strings s is in (s, found.0, eqb-true s.number n found.1)
    by None is some = cc

-- and a row that is there is found
pub row-there : (strings : List StringRow) (s : StringRow) → Contains strings s → is_some (row_with (λ r. r.number) s.number strings) ≡ true
row-there [] s h = let low = h.1 in absurd (omega arith)
row-there (r ∷ strings) s h = by (r.number == s.number) refl (Contains-cases r strings s h) (λ later. row-there strings s later)
  where
    self : (n : ℕ) → (n == n) ≡ true
    self n = grind (arith)

    by : (t : Bool) → (r.number == s.number) ≡ t → (r ≡ s) ⊎ Contains strings s → (Contains strings s → is_some (row_with (λ r. r.number) s.number strings) ≡ true) → is_some (row_with (λ r. r.number) s.number (r ∷ strings)) ≡ true
    by true is where_it again = rw is refl
    by false is (inl same) again = absurd (true≢false (sym (self s.number) ∙ ap (λ (x : StringRow). x.number == s.number) (sym same) ∙ is))
    by false is (inr later) again = rw is (again later)

-- a half of a string leads from one point to another
pub half-two : (d : Parts) → AllByRecursion (HasHalves d.table.rows) d.strings → HasTwoEnds (rows_of d) → (h : Half) → IsShown (rows_of d) h → origin_of d.table.rows h ≢ origin_of d.table.rows (twin h)
half-two d ends two h shown =
    let row = found-row d.strings h.string shown in
    subst (λ (g : Half). origin_of d.table.rows g ≢ origin_of d.table.rows (twin g)) (λ i. half_of (row.2 i) h.forward)
    (by h.forward (All-at_each (HasHalves d.table.rows) d.strings row.0 ends row.1) (All-at_each (λ (s : StringRow). s.from ≢ s.to) d.strings row.0 two row.1))
  where
    by : {s : StringRow} (f : Bool) → HasHalves d.table.rows s → s.from ≢ s.to → origin_of d.table.rows (half_of s.number f) ≢ origin_of d.table.rows (twin (half_of s.number f))
    by true e two same = two (sym e.from ∙ same ∙ e.to)
    by false e two same = two (sym e.from ∙ sym same ∙ e.to)

-- and is in the table
pub half-there : (d : Parts) → AllByRecursion (HasHalves d.table.rows) d.strings → (h : Half) → IsShown (rows_of d) h → has d.table.rows h ≡ true
half-there d ends h shown =
    let row = found-row d.strings h.string shown in
    subst (λ (g : Half). has d.table.rows g ≡ true) (λ i. half_of (row.2 i) h.forward) (by h.forward (All-at_each (HasHalves d.table.rows) d.strings row.0 ends row.1))
  where
    by : {s : StringRow} (f : Bool) → HasHalves d.table.rows s → has d.table.rows (half_of s.number f) ≡ true
    by true e = e.there
    by false e = e.back

module _ (d : Parts) (is : FitTogether d) where
  abbrev rows : HalfRows
  rows = d.table.rows

  abbrev nx : Half → Half
  nx = next rows

  abbrev o : Half → ℕ
  o = origin_of rows

  abbrev Shown : Half → Type 0
  Shown h = IsShown (rows_of d) h

  -- ---- Halves of the map's strings

  pub string-of : (h : Half) → Shown h → (s : StringRow) × Contains d.strings s × (s.number ≡ h.string)
  string-of h shown = found-row d.strings h.string shown

  pub ends-of : (s : StringRow) → Contains d.strings s → HasHalves d.table.rows s
  ends-of s there = All-at_each (HasHalves d.table.rows) d.strings s is.ends there

  pub shown-string : (s : StringRow) → Contains d.strings s → (f : Bool) → Shown (half_of s.number f)
  shown-string s there f = row-there d.strings s there

  -- of a string's half: it is in the table, and leads from one end to the other, which differ
  record Leads (h : Half) : Type 0 where
    there : has rows h ≡ true
    two : o h ≢ o (twin h)

  leads-string : (s : StringRow) → Contains d.strings s → (f : Bool) → Leads (half_of s.number f)
  leads-string s there true =
      let e = ends-of s there in
      let two = All-at_each (λ (s : StringRow). s.from ≢ s.to) d.strings s is.two_ends there in
      record { there = e.there; two = λ same. two (sym e.from ∙ same ∙ e.to) }
  leads-string s there false =
      let e = ends-of s there in
      let two = All-at_each (λ (s : StringRow). s.from ≢ s.to) d.strings s is.two_ends there in
      record { there = e.back; two = λ same. two (sym e.from ∙ sym same ∙ e.to) }

  leads : (h : Half) → Shown h → Leads h
  leads h shown =
      let row = string-of h shown in
      subst Leads (λ i. half_of (row.2 i) h.forward) (leads-string row.0 row.1 h.forward)

  pub in_table : (h : Half) → Shown h → has rows h ≡ true
  in_table h shown = (leads h shown).there

  pub other : (h : Half) → Shown h → nx h ≡ h → ⊥
  other h shown same = (leads h shown).two (sym (ap o same) ∙ is.meets h shown)

  -- ---- The cycle of a kept half

  module _ (k : Face × Half) (kept : Contains (kept_halves d) k) where
    abbrev ring : Ring
    ring = map o (cycle rows k.1)

    start : Shown k.1
    start = is.shown k kept

    pub shown-on : (g : Half) → Contains (cycle rows k.1) g → Shown g
    shown-on g among = cycle-each rows is.linked k.1 (in_table k.1 start) Shown is.inside start g among

    pub kept-two : 2 ≤ length ring
    kept-two = cycle-two rows is.linked k.1 (in_table k.1 start) (other k.1 start)

    pub ring-kept : Contains (rings_kept d) (bounding k.0 ring)
    ring-kept = Contains-map (kept_ring rows) (kept_halves d) k kept

    -- its sides are those along its halves
    pub side-there : (g : Half) → Contains (cycle rows k.1) g → Contains (sides_of ring) (side_by rows g)
    side-there g among =
        let has = Contains-map (λ (g : Half). (o g, o (nx g))) (cycle rows k.1) g among in
        subst (λ (l : List Side). Contains l (side_by rows g)) (sym (cycle-sides rows is.linked k.1 (in_table k.1 start) (other k.1 start)))
        (subst (Contains (map (λ (g : Half). (o g, o (nx g))) (cycle rows k.1))) (λ i. (o g, is.meets g (shown-on g among) i)) has)

    pub there-side : (s : Side) → Contains (sides_of ring) s → (g : Half) × Contains (cycle rows k.1) g × (side_by rows g ≡ s)
    there-side s has =
        let found = map-Contains (λ (g : Half). (o g, o (nx g))) (cycle rows k.1) s (subst (λ (l : List Side). Contains l s) (cycle-sides rows is.linked k.1 (in_table k.1 start) (other k.1 start)) has) in
        (found.0, found.1, sym (λ i. (o found.0, is.meets found.0 (shown-on found.0 found.1) i)) ∙ found.2)

    pub corner-there : (g : Half) → Contains (cycle rows k.1) g → Contains (corners_of ring) (corner (o g) (o (twin g)) (o (twin (nx g))))
    corner-there g among =
        let shown = shown-on g among in
        let has = Contains-map (turn nx o) (cycle rows k.1) g among in
        subst (λ (l : List Corner). Contains l (corner (o g) (o (twin g)) (o (twin (nx g))))) (sym (cycle-corners rows is.linked k.1 (in_table k.1 start) (other k.1 start)))
        (subst (Contains (map (turn nx o) (cycle rows k.1))) (λ i. corner (o g) (is.meets g shown i) (is.meets (nx g) (is.inside g shown) i)) has)

  -- ---- What the map tells

  -- the face of a half has its side
  pub half-side : (h : Half) → Shown h → HasSide (map_of d) (face rows h) (side_by rows h)
  half-side h shown =
      let home = is.homes h shown in
      let k = home.kept in
      let told = side-canonical (rings_kept d) (kept_ring rows k) (side_by rows h) (ring-kept k home.there) (side-there k home.there h home.on) in
      subst (λ (f : Face). HasSide (map_of d) f (side_by rows h)) (sym (is.faces k home.there h home.on)) told

  -- a half and its next make a corner
  pub half-corner : (h : Half) → Shown h → ComesAfter (map_of d) (side_by rows h) (o (twin (nx h)))
  half-corner h shown =
      let home = is.homes h shown in
      let k = home.kept in
      Contains-permutation (corners_in (rings_kept d)) (corners_in (canonical_order (rings_kept d))) _ (corners_in-canonical_order (rings_kept d))
      (Contains-flat_map (λ b. corners_of b.ring) (rings_kept d) (kept_ring rows k) _ (ring-kept k home.there) (corner-there k home.there h home.on))

  -- a side of the map is that of a half
  pub side-half : (s : Side) → Contains (all_sides (map_of d)) s → (h : Half) × Shown h × (side_by rows h ≡ s)
  side-half s there =
      let part = Contains-in_part (λ b. sides_of b.ring) (rings_kept d) s (Contains-permutation (sides_in (canonical_order (rings_kept d))) (sides_in (rings_kept d)) s (IsPermutation-sym (sides_in (rings_kept d)) (sides_in (canonical_order (rings_kept d))) (sides_in-canonical_order (rings_kept d))) there) in
      let kept = map-Contains (kept_ring rows) (kept_halves d) part.0 part.1 in
      let on = there-side kept.0 kept.1 s (subst (λ (b : Boundary). Contains (sides_of b.ring) s) (sym kept.2) part.2) in
      (on.0, shown-on kept.0 kept.1 on.0 on.1, on.2)

  -- rings of two points or more
  pub rings-two : AllByRecursion (λ b. 2 ≤ length b.ring) (rings_kept d)
  rings-two = All-from_each (λ (b : Boundary). 2 ≤ length b.ring) (rings_kept d) (λ b there.
      let kept = map-Contains (kept_ring rows) (kept_halves d) b there in
      subst (λ (b : Boundary). 2 ≤ length b.ring) kept.2 (kept-two kept.0 kept.1))

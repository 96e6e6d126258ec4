-- What a split, a join and a move touch.
use Rattle.std.proofs.Common.{◌≡◌, ◌≢◌, ℕ, ℤ, ◌⊎◌, inl, inr, refl, sym, ap, subst, ◌∙◌, List, [], ◌∷◌, ◌++◌, map, filter, Bool, true, false, true≢false, not, nat_eq, ◌==◌, Option, None, Some, is_some, arith}
use Rattle.std.proofs.lemmas.Bool.{eqb-true, eq-eqb}
use Rattle.std.proofs.lemmas.List.{append-nil}
use Rattle.std.proofs.lemmas.List.Sorted.{IsPermutation-refl, IsPermutation-sym, Contains-permutation}
use Rattle.std.proofs.lemmas.Option.{same_Some}
use Rattle.std.specs.Prelude.{IsTrue, IfSome, IsPermutation, ◌||◌, if◌then◌else◌, flat_map, unwrap_or, option_map}
use Rattle.std.specs.List.{Contains}
use Rattle.cad_rows.specs.declared.edits.Edit.TheVariants.{Split, Join, Move}
use Rattle.cad_rows.specs.declared.names.Face.{Face}
use Rattle.cad_rows.specs.declared.names.Face.TheVariants.{Outside, Parcel}
use Rattle.cad_rows.specs.declared.names.Name.TheVariants as name
use Rattle.cad_rows.specs.declared.rows.PointRow.{PointRow}
use Rattle.cad_rows.specs.declared.rows.StringRow.{StringRow}
use Rattle.cad_rings.specs.Cycle.{Ring, Side, is_side, has_side, opposite, sides_of, sides_along}
use Rattle.cad_rings.specs.Surgery.{put_on, without}
use Rattle.cad_map.specs.declared.boundary.Boundary.{Boundary}
use Rattle.cad_map.specs.Asked.{GivesInRange}
use Rattle.cad_map.specs.Boundaries.{is_face, bounding}
use Rattle.cad_map.specs.Changes.{by_number, string_joining, both_sources, split, join, with_point}
use Rattle.cad_map.specs.Effects.{after}
use Rattle.cad_map.specs.Map.{Map, point_of, string_of, has_point, has_face, position_of, origin, is_end, far_end, strings_at, side_of}
use Rattle.cad_map.specs.Refusals.{first_refusal}
use Rattle.cad_map.specs.Rings.{HasWholeRings}
use Rattle.numbered_rows.specs.Rows.{row_with}
use Rattle.cad_map.specs.Touched.{Touched, neighbours, GoesStraight, ComesByMove, ComesByJoin, IsTouched}
use Rattle.cad_map.specs.Valid.{IsValid}
use Rattle.cad_map.proofs.CallerLemmas.{IsAllowed, allowed, canonical_order-canonical_order, free-split, there-one, two-joined, Contains-cases, Contains-first, Contains-later, Contains-map, list_any-Contains, Contains-filter, find-Contains, is_face-same, row-found, dropped, MeetAt, meet-at, differs, split_boundary, found-number, found-with_row, ends, is_end-of, other_end, whole_valid}
use Rattle.cad_laws.specs.Joining.{IsJoinedAt}
use Rattle.cad_laws.specs.Touching.{faces_where, passes, goes_along, joined_between, touched_by_split, touched_by_join, touched_by_move, touched_by}
use Rattle.cad_laws.proofs.CornersElsewhere.{corners-joined}
use Rattle.cad_laws.proofs.Elsewhere.{face-or_not, filter-changed, rings-elsewhere, found-pushed, same-pushed, same-without, in-without, same-with_row}
use Rattle.cad_laws.proofs.JoinedCorners.{joined-at, join-at}
use Rattle.cad_laws.proofs.RowsBack.{without-push}
use Rattle.cad_laws.proofs.SplitAt.{starts-of, split-between}
use Rattle.cad_laws.proofs.StandsElsewhere.{KeepsPoints, KeepsStrings, stands-elsewhere}
use Rattle.cad_laws.proofs.StraightAt.{straight-at}
use Rattle.cad_laws.proofs.WholeAfter.{whole-after}

-- ---- Faces whose rings pass a test

-- a face that isn't among them has no ring that passes
pub none-where : (m : Map) (test : Ring → Bool) (f : Face) → (¬ Contains (faces_where m test) f)
    → (b : Boundary) → Contains m.boundaries b → f ≡ b.face → test b.ring ≡ false
none-where m test f off b there same = by (test b.ring) refl
  where
    by : (v : Bool) → test b.ring ≡ v → test b.ring ≡ false
    by true is =
        absurd (off (subst (Contains (faces_where m test)) (sym same)
        (Contains-map (λ (c : Boundary). c.face)
        (filter (λ (c : Boundary). test c.ring) m.boundaries) b
        (Contains-filter (λ (c : Boundary). test c.ring) m.boundaries b there is))))
    by false is = is

-- so a change of those that pass leaves its rings as they were
pub changed-where : (m : Map) (test : Ring → Bool) (change : Boundary → Boundary)
    → ((b : Boundary) → test b.ring ≡ false → change b ≡ b)
    → ((b : Boundary) → (change b).face ≡ b.face) → (f : Face)
    → (¬ Contains (faces_where m test) f)
    → filter (λ b. is_face f b.face) (map change m.boundaries)
    ≡ filter (λ b. is_face f b.face) m.boundaries
changed-where m test change same face f off =
    filter-changed (λ (b : Boundary). is_face f b.face) change m.boundaries
    (λ b h is. same b (none-where m test f off b h (is_face-same f b.face is)))
    (λ b h is. ap (is_face f) (face b) ∙ is)

-- a point of a ring that doesn't pass p is another one
pub not-passed : (p : ℕ) (ring : Ring) → passes p ring ≡ false → (q : ℕ) → Contains ring q → q ≢ p
not-passed p ring none q h same =
    true≢false
    (sym (list_any-Contains (λ r. r == p) ring q h (eq-eqb q p same)) ∙ none)

without-none_passed : (p : ℕ) (ring : Ring) → passes p ring ≡ false → without p ring ≡ ring
without-none_passed p [] none = refl
without-none_passed p (q ∷ ring) none =
    by (q == p) refl none (λ h. without-none_passed p ring h)
  where
    by : (b : Bool) → (q == p) ≡ b → (b || passes p ring) ≡ false
        → (passes p ring ≡ false → without p ring ≡ ring) → without p (q ∷ ring) ≡ q ∷ ring
    by true is h again = absurd (true≢false h)
    by false is h again = rw is (ap (λ (l : List ℕ). q ∷ l) (again h))

put_on-none : (s : Side) (p : ℕ) (ring : Ring) → has_side s (sides_of ring) ≡ false
    → put_on s p ring ≡ ring
put_on-none s p [] none = refl
put_on-none s p (a ∷ points) none =
    sides (sides_along a points a) none ∙ starts-of a points a
  where
    sides : (l : List Side) → has_side s l ≡ false
        → flat_map (λ t. if is_side s t then t.0 ∷ p ∷ [] else t.0 ∷ []) l
        ≡ map (λ (t : Side). t.0) l
    sides [] h = refl
    sides (t ∷ l) h = by (is_side s t) refl h (λ k. sides l k)
      where
        by : (b : Bool) → is_side s t ≡ b → (b || has_side s l) ≡ false
            → (has_side s l ≡ false
            → flat_map (λ t. if is_side s t then t.0 ∷ p ∷ [] else t.0 ∷ []) l
            ≡ map (λ (t : Side). t.0) l)
            → flat_map (λ t. if is_side s t then t.0 ∷ p ∷ [] else t.0 ∷ []) (t ∷ l)
            ≡ map (λ (t : Side). t.0) (t ∷ l)
        by true is k again = absurd (true≢false k)
        by false is k again = rw is (ap (λ (r : List ℕ). t.0 ∷ r) (again k))

-- ---- A split

module _ (m : Map) (valid : IsValid m) (row : StringRow) (there : Contains m.strings row) (p : ℕ)
    (x y : ℤ) (first second : ℕ) where
  abbrev made : Map
  made = split m row p x y first second

  abbrev named : Touched
  named = touched_by_split m p first second row

  abbrev Any : ℕ → Type 0
  Any q = Unit {0}

  abbrev point : PointRow
  point = record { number = p; position = record { x = x; y = y }; sources = [] }

  split-points : KeepsPoints m made named valid.sound.v1 Any
  split-points = record {
    position = λ q known ok.
        ap (λ (o : Option PointRow). unwrap_or (option_map (λ r. r.position) o) origin)
        (same-pushed (λ (r : PointRow). r.number) q m.points (point ∷ []) known);
    points = λ q known. elim (found-pushed (λ (r : PointRow). r.number) q m.points point known) [
      | inl e ↦
          inl (subst (Contains named.points) e (Contains-first p (row.from ∷ row.to ∷ [])))
      | inr k ↦ inr (k, tt)
    ];
  }

  at-from : Contains named.points row.from
  at-from =
      Contains-later p (row.from ∷ row.to ∷ []) row.from (Contains-first row.from (row.to ∷ []))

  at-to : Contains named.points row.to
  at-to =
      Contains-later p (row.from ∷ row.to ∷ []) row.to
      (Contains-later row.from (row.to ∷ []) row.to (Contains-first row.to []))

  at-new : Contains named.points p
  at-new = Contains-first p (row.from ∷ row.to ∷ [])

  abbrev one : StringRow
  one = record { number = first; from = row.from; to = p; sources = row.sources }

  abbrev other : StringRow
  other = record { number = second; from = p; to = row.to; sources = row.sources }

  split-strings : KeepsStrings m made named valid.sound.v1 Any
  split-strings = record {
    stays = λ r. not (r.number == row.number);
    added = one ∷ other ∷ [];
    strings = refl;
    kept = λ s h is. inr (tt, tt);
    went = λ s h is q end known. went s h is q end;
    came = λ s h. elim (Contains-cases one (other ∷ []) s h) [
      | inl e ↦
          subst (λ (r : StringRow).
          Contains named.strings r.number × Contains named.points r.from
          × Contains named.points r.to) e
          (Contains-first first (second ∷ []), at-from, at-new)
      | inr later ↦ elim (Contains-cases other [] s later) [
        | inl e ↦
            subst (λ (r : StringRow).
            Contains named.strings r.number × Contains named.points r.from
            × Contains named.points r.to) e (
              Contains-later first (second ∷ []) second (Contains-first second []),
              at-new,
              at-to,
            )
        | inr none ↦ let low = none.1 in absurd (omega arith)
      ]
    ];
  }
    where
      same-row : (s : StringRow) → Contains m.strings s → s.number ≡ row.number → s ≡ row
      same-row s h e =
          same_Some s row
          (sym (row-found m.strings s valid.sound.v1.strings.distinct h)
          ∙ ap (λ (n : ℕ). string_of m n) e
          ∙ row-found m.strings row valid.sound.v1.strings.distinct there)

      went : (s : StringRow) → Contains m.strings s → not (s.number == row.number) ≡ false
          → (q : ℕ) → is_end s q ≡ true → Contains named.points q
      went s h is q end = by (s.number == row.number) refl is
        where
          by : (b : Bool) → (s.number == row.number) ≡ b → not b ≡ false
              → Contains named.points q
          by false e k = absurd (true≢false k)
          by true e k =
              let same = same-row s h (eqb-true s.number row.number e) in
              elim (ends s q end) [
                | inl f ↦
                    subst (Contains named.points)
                    (ap (λ (r : StringRow). r.from) (sym same) ∙ f.0) at-from
                | inr f ↦
                    subst (Contains named.points)
                    (ap (λ (r : StringRow). r.to) (sym same) ∙ f.0) at-to
              ]

  split-face : (f : Face) → IsTrue (has_face made f) → IsTrue (has_face m f)
  split-face Outside known = refl
  split-face (Parcel n) known = known

  none-along : (b : Boundary) → goes_along row b.ring ≡ false → split_boundary (side_of row) p b ≡ b
  none-along b none =
      by (has_side (side_of row) (sides_of b.ring))
      (has_side (opposite (side_of row)) (sides_of b.ring)) refl refl none
    where
      by : (v w : Bool) → has_side (side_of row) (sides_of b.ring) ≡ v
          → has_side (opposite (side_of row)) (sides_of b.ring) ≡ w → (v || w) ≡ false
          → split_boundary (side_of row) p b ≡ b
      by true w e d h = absurd (true≢false h)
      by false true e d h = absurd (true≢false h)
      by false false e d h =
          ap (λ (r : Ring). bounding b.face (put_on (opposite (side_of row)) p r))
          (put_on-none (side_of row) p b.ring e)
          ∙ ap (bounding b.face) (put_on-none (opposite (side_of row)) p b.ring d)

  -- each point but the new one lies where it lay
  lies-beside : point_of m p ≡ None → (q : ℕ) → q ≢ p → position_of m q ≡ position_of made q
  lies-beside new q off =
      let number : PointRow → ℕ = λ r. r.number in
      ap (λ (o : Option PointRow). unwrap_or (option_map (λ r. r.position) o) origin)
      (ap (row_with number q) (sym (without-push number m.points point new))
      ∙ same-without number q p (m.points ++ point ∷ []) off)

  -- without the point, the rings go straight between the string's ends
  pub straight-split : point_of m p ≡ None → IsJoinedAt made m p row.from row.to
      → HasWholeRings made → GoesStraight made m p row.from row.to
  straight-split new it rings =
      straight-at made m p row.from row.to rings it valid.sound.v1.canonical refl
      (lies-beside new)

  touched-split : point_of m p ≡ None → IsJoinedAt made m p row.from row.to → HasWholeRings made
      → IsTouched m made named
  touched-split new it rings =
      stands-elsewhere m made named valid.sound.v1 Any split-points split-strings
      (λ q known off c at.
      let both =
      corners-joined made m p row.from row.to it rings q
      (λ e. off (subst (Contains named.points) (sym e) at-new))
      (λ e. off (subst (Contains named.points) (sym e) at-from))
      (λ e. off (subst (Contains named.points) (sym e) at-to)) c at in
      (both.1, both.0)) (λ f known. elim (face-or_not named.faces f) [
        | inl h ↦ inl h
        | inr off ↦ inr (record {
          there = split-face f known;
          rings =
              rings-elsewhere m valid.sound.v1 f
              (map (split_boundary (side_of row) p) m.boundaries)
              (changed-where m (goes_along row) (split_boundary (side_of row) p) none-along
              (λ b. refl) f off);
          points = λ r h q has. tt;
        })
      ]) (inr (record {
        first = row.from;
        second = row.to;
        from = refl;
        straight = straight-split new it rings;
      })) tt

pub split-touched : (m : Map) (s p : ℕ) (x y : ℤ) (first second : ℕ) → IsValid m
    → GivesInRange (Split s p x y first second)
    → first_refusal m (Split s p x y first second) ≡ None
    → IsTouched m (after m (Split s p x y first second))
    (touched_by m (Split s p x y first second))
unfolding after
split-touched m s p x y first second valid given none = by (string_of m s) refl
  where
    free : IsAllowed m (Split s p x y first second)
    free = allowed m (Split s p x y first second) none

    by : (o : Option StringRow) → string_of m s ≡ o
        → IsTouched m (unwrap_or (option_map (λ row. split m row p x y first second)
        (string_of m s)) m) (touched_by m (Split s p x y first second))
    by None is =
        absurd (true≢false (sym (there-one m (name.String s) free.unknown)
        ∙ ap (λ (o : Option StringRow). is_some o) is))
    by (Some row) is =
        let there = (find-Contains (λ (r : StringRow). r.number == s) m.strings row is).0 in
        let it = (split-between m s p x y first second row valid given none is).0 in
        let rings = whole-after m (Split s p x y first second) valid given none tt in
        let new = (free-split m s p x y first second free.taken).0 in
        let t =
        touched-split m valid row there p x y first second new
        (rw is at it) (rw is at rings) in
        rw is t

-- ---- A join

module _ (m : Map) (valid : IsValid m) (p new : ℕ) (two : MeetAt m p) where
  abbrev joined : Map
  joined = join m p new

  abbrev far : Touched
  far = touched_by_join m p new

  abbrev Off : ℕ → Type 0
  Off q = q ≢ p

  not-dropped : (q : ℕ) → IsTrue (has_point joined q) → IsTrue (has_point m q) × Off q
  not-dropped q known = in-without (λ (r : PointRow). r.number) q p m.points known

  lies-off : (q : ℕ) → Off q → position_of joined q ≡ position_of m q
  lies-off q off =
      ap (λ (o : Option PointRow). unwrap_or (option_map (λ r. r.position) o) origin)
      (same-without (λ (r : PointRow). r.number) q p m.points off)

  join-points : KeepsPoints m joined far valid.sound.v1 Off
  join-points = record {
    position = λ q known off. lies-off q off;
    points = λ q known. inr (not-dropped q known);
  }

  in-far : (s : StringRow) → Contains m.strings s → is_end s p ≡ true
      → Contains far.points (far_end s p)
  in-far s h is =
      Contains-map (λ (r : StringRow). far_end r p) (strings_at m p) s
      (Contains-filter (λ (r : StringRow). is_end r p) m.strings s h is)

  of-two : (s : StringRow) → Contains (two.first ∷ two.second ∷ []) s
      → Contains far.points (far_end s p)
  of-two s h =
      Contains-map (λ (r : StringRow). far_end r p) (strings_at m p) s
      (Contains-permutation (two.first ∷ two.second ∷ []) (strings_at m p) s
      (IsPermutation-sym (strings_at m p) (two.first ∷ two.second ∷ []) two.at) h)

  at-first : Contains far.points (far_end two.first p)
  at-first = of-two two.first (Contains-first two.first (two.second ∷ []))

  at-second : Contains far.points (far_end two.second p)
  at-second =
      of-two two.second
      (Contains-later two.first (two.second ∷ []) two.second (Contains-first two.second []))

  join-strings : KeepsStrings m joined far valid.sound.v1 Off
  join-strings = record {
    stays = λ s. not (is_end s p);
    added = string_joining p new (by_number (strings_at m p));
    strings = refl;
    kept = λ s h is. inr (off s is (s.from) (inl refl), off s is (s.to) (inr refl));
    went = λ s h is q end known.
        let at_p = ended s is in
        elim (other_end s p q at_p end) [
          | inl e ↦ absurd ((not-dropped q known).1 e)
          | inr e ↦ subst (Contains far.points) (sym e) (in-far s h at_p)
        ];
    came = λ s h.
        elim (Contains-cases row [] s
        (subst (λ (l : List StringRow). Contains (string_joining p new l) s) two.are h)) [
          | inl e ↦
              subst (λ (r : StringRow).
              Contains far.strings r.number × Contains far.points r.from
              × Contains far.points r.to) e (Contains-first new [], at-first, at-second)
          | inr none ↦ let low = none.1 in absurd (omega arith)
        ];
  }
    where
      row : StringRow
      row = record {
        number = new;
        from = far_end two.first p;
        to = far_end two.second p;
        sources = both_sources two.first.sources two.second.sources;
      }

      ended : (s : StringRow) → not (is_end s p) ≡ false → is_end s p ≡ true
      ended s is = by (is_end s p) refl is
        where
          by : (b : Bool) → is_end s p ≡ b → not b ≡ false → is_end s p ≡ true
          by true e h = e
          by false e h = absurd (true≢false h)

      off : (s : StringRow) → not (is_end s p) ≡ true → (q : ℕ) → (s.from ≡ q) ⊎ (s.to ≡ q)
          → q ≢ p
      off s is q which same =
          true≢false
          (sym is ∙ ap not (is_end-of s p (elim which [
            | inl e ↦ inl (e ∙ same)
            | inr e ↦ inr (e ∙ same)
          ])))

  join-face : (f : Face) → IsTrue (has_face joined f) → IsTrue (has_face m f)
  join-face Outside known = refl
  join-face (Parcel n) known = known

  -- without the point, the rings go straight between the points beside it
  pub straight-join : (a b : ℕ) → IsJoinedAt m joined p a b → GoesStraight m joined p a b
  straight-join a b it =
      straight-at m joined p a b (whole_valid m valid) it
      (canonical_order-canonical_order (map (dropped p) m.boundaries)) refl lies-off

  -- the new string goes straight from one far end to the other
  comes-by_join : IfSome (joined_between m p (neighbours m p)) (ComesByJoin m joined)
  comes-by_join = by (strings_at m p) refl
    where
      by : (rows : List StringRow) → strings_at m p ≡ rows
          → IfSome (joined_between m p (map (λ s. far_end s p) rows)) (ComesByJoin m joined)
      by [] is = tt
      by (s ∷ []) is = tt
      by (s ∷ t ∷ r ∷ rows) is = tt
      by (s ∷ t ∷ []) is =
          let at : IsPermutation (strings_at m p) (s ∷ t ∷ []) =
          subst (IsPermutation (strings_at m p)) is (IsPermutation-refl (strings_at m p)) in
          record {
            lay = refl;
            straight =
                straight-join (far_end s p) (far_end t p) (joined-at m valid p s t at joined);
          }

  touched-join : IsJoinedAt m joined p (far_end two.first p) (far_end two.second p)
      → IsTouched m joined far
  touched-join it =
      stands-elsewhere m joined far valid.sound.v1 Off join-points join-strings
      (λ q known off c at.
      corners-joined m joined p (far_end two.first p) (far_end two.second p) it
      (whole_valid m valid) q (not-dropped q known).1
      (λ e. off (subst (Contains far.points) (sym e) at-first))
      (λ e. off (subst (Contains far.points) (sym e) at-second)) c at)
      (λ f known. elim (face-or_not far.faces f) [
        | inl h ↦ inl h
        | inr off ↦ inr (record {
          there = join-face f known;
          rings =
              rings-elsewhere m valid.sound.v1 f (map (dropped p) m.boundaries)
              (changed-where m (passes p) (dropped p)
              (λ b none. ap (bounding b.face) (without-none_passed p b.ring none))
              (λ b. refl) f off);
          points = λ r h q has.
              not-passed p r (none-where m (passes p) f off (bounding f r) h refl) q has;
        })
      ]) tt comes-by_join

pub join-touched : (m : Map) (p new : ℕ) → IsValid m → first_refusal m (Join p new) ≡ None
    → IsTouched m (after m (Join p new)) (touched_by m (Join p new))
unfolding after
join-touched m p new valid none =
    let free = allowed m (Join p new) none in
    let two = meet-at m p (two-joined m p new free.not_degree_two) in
    touched-join m valid p new two
    (join-at m p new two.first two.second valid none two.are)

-- ---- A move

module _ (m : Map) (valid : IsValid m) (p : ℕ) (x y : ℤ) (row : PointRow)
    (is : point_of m p ≡ Some row) where
  abbrev moved_row : PointRow
  moved_row = record row { position = record { x = x; y = y } }

  abbrev moved : Map
  moved = with_point m moved_row

  abbrev near : Touched
  near = touched_by_move m p

  abbrev Away : ℕ → Type 0
  Away q = q ≢ p

  -- each other point lies where it lay
  pub lies-elsewhere : (q : ℕ) → q ≢ p → position_of moved q ≡ position_of m q
  lies-elsewhere q off =
      ap (λ (o : Option PointRow). unwrap_or (option_map (λ r. r.position) o) origin)
      (same-with_row (λ (r : PointRow). r.number) q moved_row m.points
      (λ e. off (e ∙ found-number (λ (r : PointRow). r.number) p m.points row is)))

  comes-by_move : ComesByMove m moved (record { point = p; from = position_of m p })
  comes-by_move =
      record { from = refl; elsewhere = lies-elsewhere; parcels = refl; boundaries = refl }

  move-points : KeepsPoints m moved near valid.sound.v1 Away
  move-points = record {
    position = λ q known off. lies-elsewhere q off;
    points = λ q known. by q (nat_eq p q) refl
        (sym (found-with_row (λ (r : PointRow). r.number) q moved_row m.points) ∙ known);
  }
    where
      by : (q : ℕ) (b : Bool) → nat_eq p q ≡ b → IsTrue (has_point m q)
          → Contains near.points q ⊎ (IsTrue (has_point m q) × Away q)
      by q true e there = inl (subst (Contains near.points) (eqb-true p q e) (Contains-first p []))
      by q false e there = inr (there, λ same. differs p q e (sym same))

  move-strings : KeepsStrings m moved near valid.sound.v1 Away
  move-strings = record {
    stays = λ s. true;
    added = [];
    strings = sym (append-nil (filter (λ s. true) m.strings) ∙ all m.strings);
    kept = λ s h e. by s h (is_end s p) refl;
    went = λ s h e q end known. absurd (true≢false e);
    came = λ s h. let low = h.1 in absurd (omega arith);
  }
    where
      all : (l : List StringRow) → filter (λ s. true) l ≡ l
      all [] = refl
      all (s ∷ l) = ap (λ (k : List StringRow). s ∷ k) (all l)

      by : (s : StringRow) → Contains m.strings s → (b : Bool) → is_end s p ≡ b
          → Contains near.strings s.number ⊎ (Away s.from × Away s.to)
      by s h true e =
          inl (Contains-map (λ (r : StringRow). r.number) (strings_at m p) s
          (Contains-filter (λ (r : StringRow). is_end r p) m.strings s h e))
      by s h false e = inr (
        λ same. true≢false (sym (is_end-of s p (inl same)) ∙ e),
        λ same. true≢false (sym (is_end-of s p (inr same)) ∙ e),
      )

  move-face : (f : Face) → IsTrue (has_face moved f) → IsTrue (has_face m f)
  move-face Outside known = refl
  move-face (Parcel n) known = known

  touched-move : IsTouched m moved near
  touched-move =
      stands-elsewhere m moved near valid.sound.v1 Away move-points move-strings
      (λ q known off c at. (λ h. h, λ h. h)) (λ f known. elim (face-or_not near.faces f) [
        | inl h ↦ inl h
        | inr off ↦ inr (record {
          there = move-face f known;
          rings = refl;
          points = λ r h q has.
              not-passed p r (none-where m (passes p) f off (bounding f r) h refl) q has;
        })
      ]) (inl comes-by_move) tt

pub move-touched : (m : Map) (p : ℕ) (x y : ℤ) → IsValid m → first_refusal m (Move p x y) ≡ None
    → IsTouched m (after m (Move p x y)) (touched_by m (Move p x y))
unfolding after
move-touched m p x y valid none = by (point_of m p) refl
  where
    free : IsAllowed m (Move p x y)
    free = allowed m (Move p x y) none

    by : (o : Option PointRow) → point_of m p ≡ o
        → IsTouched m (unwrap_or (option_map (λ row. with_point m
        (record row { position = record { x = x; y = y } })) (point_of m p)) m)
        (touched_by m (Move p x y))
    by None is =
        absurd (true≢false (sym (there-one m (name.Point p) free.unknown)
        ∙ ap (λ (o : Option PointRow). is_some o) is))
    by (Some row) is =
        subst (λ (o : Option PointRow). IsTouched m (unwrap_or (option_map (λ row. with_point m
        (record row { position = record { x = x; y = y } })) o) m) (touched_by m (Move p x y)))
        (sym is) (touched-move m valid p x y row is)

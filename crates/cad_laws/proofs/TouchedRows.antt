-- What the edits of rows alone touch.
use Rattle.std.proofs.Common.{◌≡◌, ◌≢◌, ℕ, ℤ, ◌⊎◌, inl, inr, refl, sym, ap, subst, ◌∙◌, List, [], ◌∷◌, ◌++◌, map, filter, Bool, true, false, true≢false, nat_eq, ◌==◌, Option, None, Some, is_some, arith}
use Rattle.std.proofs.lemmas.Bool.{eqb-true}
use Rattle.std.proofs.lemmas.List.{append-nil}
use Rattle.std.specs.Prelude.{IsTrue, IfSome, ◌||◌, if◌then◌else◌, unwrap_or, option_map}
use Rattle.std.specs.List.{AllByRecursion, Contains}
use Rattle.cad_rows.specs.declared.edits.Edit.TheVariants.{AddPoint, DropPoint}
use Rattle.cad_rows.specs.declared.names.Face.{Face}
use Rattle.cad_rows.specs.declared.names.Face.TheVariants.{Outside, Parcel}
use Rattle.cad_rows.specs.declared.names.Item.{Item}
use Rattle.cad_rows.specs.declared.names.Item.TheVariants as item
use Rattle.cad_rows.specs.declared.rows.ParcelRow.{ParcelRow}
use Rattle.cad_rows.specs.declared.rows.PointRow.{PointRow}
use Rattle.cad_rows.specs.declared.rows.StringRow.{StringRow}
use Rattle.cad_map.specs.declared.boundary.Boundary.{Boundary}
use Rattle.cad_map.specs.Boundaries.{bounding, corners_in}
use Rattle.cad_map.specs.Changes.{with_point, with_string, with_parcel, change_point, change_string, change_parcel, change_sources}
use Rattle.cad_map.specs.Effects.{after}
use Rattle.cad_map.specs.Map.{Map, point_of, string_of, parcel_of, has_point, has_face, position_of, origin, is_end, far_end, rings_at, rings_of, is_free}
use Rattle.cad_map.specs.Refusals.{first_refusal}
use Rattle.numbered_rows.specs.Rows.{row_with, without_row}
use Rattle.cad_map.specs.Touched.{Touched, neighbours, StringStands, ComesByMove, ComesBySplit, ComesByJoin, IsTouched}
use Rattle.cad_map.specs.Valid.{IsValid}
use Rattle.cad_map.proofs.CallerLemmas.{allowed, free-dropped, Contains-first, Contains-map, All-at_each, All-from_each, map-Contains, is_nothing, no_end, differs, found-number, found-with_row, map-with_row-same}
use Rattle.cad_map.proofs.CallerLemmas as maps
use Rattle.cad_laws.specs.Touching.{touching, touched_by}
use Rattle.cad_laws.proofs.ChangedRows.{if-changed, found-own}
use Rattle.cad_laws.proofs.Elsewhere.{found-pushed, same-pushed, same-without, in-without, same-with_row, own-with_row}
use Rattle.cad_laws.proofs.StandsElsewhere.{KeepsPoints, stands-elsewhere}

abbrev nothing : Touched
nothing = touching [] [] []

-- ---- Points, strings and faces as they were

-- a string's number and its ends
abbrev ident : StringRow → ℕ × ℕ × ℕ
ident s = (s.number, s.from, s.to)

abbrev far : ℕ → ℕ × ℕ × ℕ → ℕ
far p s = if s.1 == p then s.2 else s.1

abbrev ended : ℕ → ℕ × ℕ × ℕ → Bool
ended p s = (s.1 == p) || (s.2 == p)

-- the other ends of a point's strings are told by their ends
far-of : (p : ℕ) (rows : List StringRow)
    → map (λ s. far_end s p) (filter (λ s. is_end s p) rows)
    ≡ map (far p) (filter (ended p) (map ident rows))
far-of p [] = refl
far-of p (s ∷ rows) = by (is_end s p) refl (far-of p rows)
  where
    by : (b : Bool) → is_end s p ≡ b
        → map (λ s. far_end s p) (filter (λ s. is_end s p) rows)
        ≡ map (far p) (filter (ended p) (map ident rows))
        → map (λ s. far_end s p) (filter (λ s. is_end s p) (s ∷ rows))
        ≡ map (far p) (filter (ended p) (map ident (s ∷ rows)))
    by true is rest = rw is (ap (λ (l : List ℕ). far_end s p ∷ l) rest)
    by false is rest = rw is rest

-- Where points have their positions, strings their numbers and ends, and the rings are the same,
-- nothing is touched.
pub nothing-touched : (old new : Map) → ((q : ℕ) → position_of new q ≡ position_of old q)
    → ((q : ℕ) → IsTrue (has_point new q) → IsTrue (has_point old q))
    → map ident new.strings ≡ map ident old.strings → new.boundaries ≡ old.boundaries
    → ((f : Face) → IsTrue (has_face new f) → IsTrue (has_face old f))
    → IsTouched old new (touching [] [] [])
nothing-touched old new position points strings boundaries faces = record {
  points = λ q known. inr (record {
    there = points q known;
    position = position q;
    strings = λ r. (
      subst (λ (l : List ℕ). Contains l r) (near q),
      subst (λ (l : List ℕ). Contains l r) (sym (near q)),
    );
    corners = λ c. (
      subst (λ (bs : List Boundary). Contains (filter (λ d. d.at == q)
          (corners_in bs)) c) boundaries,
      subst (λ (bs : List Boundary). Contains (filter (λ d. d.at == q)
          (corners_in bs)) c) (sym boundaries),
    );
  });
  strings =
      All-from_each (λ s. Contains nothing.strings s.number ⊎ StringStands old new s) new.strings
      (λ s h. inr (stood s (map-Contains ident old.strings (ident s)
      (subst (λ (l : List (ℕ × ℕ × ℕ)). Contains l (ident s)) strings
      (Contains-map ident new.strings s h)))));
  faces = λ f known. inr (record {
    there = faces f known;
    rings = ap (λ (bs : List Boundary). rings_at f bs) boundaries;
    positions =
        All-from_each (λ r. AllByRecursion (λ q. position_of new q ≡ position_of old q) r)
        (rings_of old f) (λ r h.
        All-from_each (λ q. position_of new q ≡ position_of old q) r (λ q k. position q));
  });
  moved = tt;
  joined = tt;
}
  where
    near : (q : ℕ) → neighbours new q ≡ neighbours old q
    near q =
        far-of q new.strings
        ∙ ap (λ (l : List (ℕ × ℕ × ℕ)). map (far q) (filter (ended q) l)) strings
        ∙ sym (far-of q old.strings)

    stood : (s : StringRow)
        → (b : StringRow) × Contains old.strings b × (ident b ≡ ident s) → StringStands old new s
    stood s b = record {
      before = b.0;
      there = b.1;
      number = ap (λ (t : ℕ × ℕ × ℕ). t.0) b.2;
      from = ap (λ (t : ℕ × ℕ × ℕ). t.1) b.2;
      to = ap (λ (t : ℕ × ℕ × ℕ). t.2) b.2;
      from_position = position s.from;
      to_position = position s.to;
    }

-- ---- Sources and labels

-- a point row with the same position in the place of one
pub same-position : (m : Map) (row new : PointRow) → point_of m new.number ≡ Some row
    → new.position ≡ row.position → (q : ℕ) → position_of (with_point m new) q ≡ position_of m q
same-position m row new is same q = by (nat_eq q new.number) refl
  where
    by : (b : Bool) → nat_eq q new.number ≡ b
        → position_of (with_point m new) q ≡ position_of m q
    by true e =
        let number = eqb-true q new.number e in
        ap (λ (n : ℕ). position_of (with_point m new) n) number
        ∙ ap (λ (o : Option PointRow). unwrap_or (option_map (λ r. r.position) o) origin)
        (own-with_row (λ (r : PointRow). r.number) new m.points
        (ap (λ (o : Option PointRow). is_some o) is))
        ∙ same
        ∙ ap (λ (o : Option PointRow). unwrap_or (option_map (λ r. r.position) o) origin) (sym is)
        ∙ ap (position_of m) (sym number)
    by false e =
        ap (λ (o : Option PointRow). unwrap_or (option_map (λ r. r.position) o) origin)
        (same-with_row (λ (r : PointRow). r.number) q new m.points
        (differs q new.number e))

same-face : (m n : Map) → n.parcels ≡ m.parcels → (f : Face) → IsTrue (has_face n f)
    → IsTrue (has_face m f)
same-face m n same Outside known = refl
same-face m n same (Parcel k) known =
    ap (λ (l : List ParcelRow). is_some (row_with (λ (r : ParcelRow). r.number) k l)) (sym same)
    ∙ known

module _ (m : Map) (valid : IsValid m) where
  abbrev Untouched : Map → Type 0
  Untouched new = IsTouched m new (touching [] [] [])

  untouched : Untouched m
  untouched =
      nothing-touched m m (λ q. refl) (λ q h. h) refl refl (λ f h. h)

  -- a point as a change of its sources leaves it
  untouched-point : (n : ℕ) (change : List ℕ → List ℕ)
      → Untouched (change_point n (λ r. record r { sources = change r.sources }) m)
  untouched-point n change = if-changed Untouched m (point_of m n) _ untouched (λ r is.
      let new : PointRow = record r { sources = change r.sources } in
      let found = found-own (λ (q : PointRow). q.number) n m.points r is in
      nothing-touched m (with_point m new) (same-position m r new found refl)
      (λ q known. sym (found-with_row (λ (q : PointRow). q.number) q new m.points) ∙ known)
      refl refl (same-face m (with_point m new) refl))

  untouched-string : (n : ℕ) (change : List ℕ → List ℕ)
      → Untouched (change_string n (λ r. record r { sources = change r.sources }) m)
  untouched-string n change = if-changed Untouched m (string_of m n) _ untouched (λ r is.
      let number = λ (q : StringRow). q.number in
      let new : StringRow = record r { sources = change r.sources } in
      nothing-touched m (with_string m new) (λ q. refl) (λ q h. h)
      (map-with_row-same number ident new r m.strings
      valid.sound.v1.strings.distinct (found-own number n m.strings r is) refl) refl
      (same-face m (with_string m new) refl))

  untouched-parcel : (n : ℕ) (change : ParcelRow → ParcelRow)
      → Untouched (change_parcel n change m)
  untouched-parcel n change = if-changed Untouched m (parcel_of m n) _ untouched (λ r is.
      let new = change r in
      nothing-touched m (with_parcel m new) (λ q. refl) (λ q h. h) refl refl (there new))
    where
      there : (new : ParcelRow) (f : Face) → IsTrue (has_face (with_parcel m new) f)
          → IsTrue (has_face m f)
      there new Outside known = refl
      there new (Parcel k) known =
          sym (found-with_row (λ (q : ParcelRow). q.number) k new m.parcels) ∙ known

  pub untouched-sources : (i : Item) (change : List ℕ → List ℕ)
      → IsTouched m (change_sources i change m) (touching [] [] [])
  untouched-sources (item.Point n) change = untouched-point n change
  untouched-sources (item.String n) change = untouched-string n change
  untouched-sources (item.Parcel n) change =
      untouched-parcel n (λ r. record r { sources = change r.sources })

  pub untouched-label : (n : ℕ) (label : List ℕ)
      → IsTouched m (change_parcel n (λ r. record r { label = label }) m) (touching [] [] [])
  untouched-label n label = untouched-parcel n (λ r. record r { label = label })

  pub untouched-source : (s : ℕ) (text : List ℕ)
      → IsTouched m (record m { sources = m.sources ++ record { number = s; text = text } ∷ [] })
      (touching [] [] [])
  untouched-source s text =
      let new : Map = record m { sources = m.sources ++ record { number = s; text = text } ∷ [] } in
      nothing-touched m new (λ q. refl) (λ q h. h) refl refl (same-face m new refl)

-- ---- A point added, and one dropped

module _ (m : Map) (valid : IsValid m) (new : Map) (same_strings : new.strings ≡ m.strings)
    (same_rings : new.boundaries ≡ m.boundaries) (same_parcels : new.parcels ≡ m.parcels)
    (t : Touched) (Ok : ℕ → Type 0)
    (ends_ok : (s : StringRow) → Contains m.strings s → Ok s.from × Ok s.to)
    (rings_ok : (b : Boundary) → Contains m.boundaries b → (q : ℕ) → Contains b.ring q → Ok q) where
  touched-points : KeepsPoints m new t valid.sound.v1 Ok
      → IfSome t.moved (λ v. ComesByMove m new v ⊎ ComesBySplit m new v)
      → IfSome t.joined (ComesByJoin m new) → IsTouched m new t
  touched-points on_points on_move on_join =
      stands-elsewhere m new t valid.sound.v1 Ok on_points (record {
        stays = λ s. true;
        added = [];
        strings =
            same_strings ∙ sym (append-nil (filter (λ s. true) m.strings) ∙ all m.strings);
        kept = λ s h e. inr (ends_ok s h);
        went = λ s h e q end known. absurd (true≢false e);
        came = λ s h. let low = h.1 in absurd (omega arith);
      }) (λ q known off c at. (
        subst (λ (bs : List Boundary).
            Contains (corners_in bs) c) same_rings,
        subst (λ (bs : List Boundary).
            Contains (corners_in bs) c) (sym same_rings),
      )) (λ f known. inr (record {
        there = same-face m new same_parcels f known;
        rings = ap (λ (bs : List Boundary). rings_at f bs) same_rings;
        points = λ r h q has. rings_ok (bounding f r) h q has;
      })) on_move on_join
    where
      all : (l : List StringRow) → filter (λ s. true) l ≡ l
      all [] = refl
      all (s ∷ l) = ap (λ (k : List StringRow). s ∷ k) (all l)

pub added-touched : (m : Map) (p : ℕ) (x y : ℤ) → IsValid m
    → IsTouched m (after m (AddPoint p x y)) (touched_by m (AddPoint p x y))
unfolding after
added-touched m p x y valid =
    let row : PointRow = record { number = p; position = record { x = x; y = y }; sources = [] } in
    let new : Map = record m { points = m.points ++ row ∷ [] } in
    touched-points m valid new refl refl refl (touching (p ∷ []) [] []) (λ q. Unit {0})
    (λ s h. (tt, tt)) (λ b h q has. tt) (record {
      position = λ q known ok.
          ap (λ (o : Option PointRow). unwrap_or (option_map (λ r. r.position) o) origin)
          (same-pushed (λ (r : PointRow). r.number) q m.points (row ∷ []) known);
      points = λ q known. elim (found-pushed (λ (r : PointRow). r.number) q m.points row known) [
        | inl e ↦ inl (subst (Contains (p ∷ [])) e (Contains-first p []))
        | inr k ↦ inr (k, tt)
      ];
    }) tt tt

pub dropped-touched : (m : Map) (p : ℕ) → IsValid m → first_refusal m (DropPoint p) ≡ None
    → IsTouched m (after m (DropPoint p)) (touched_by m (DropPoint p))
unfolding after
dropped-touched m p valid none =
    touched-points m valid new refl refl refl (touching [] [] []) (λ q. q ≢ p)
    (λ s h. All-at_each (λ (r : StringRow). (r.from ≢ p) × (r.to ≢ p)) m.strings s
    (no_end p m.strings (is_nothing (filter (λ s. is_end s p) m.strings) free)) h)
    (λ b h q has. All-at_each (λ q. q ≢ p) b.ring q
    (All-at_each (λ b. AllByRecursion (λ q. q ≢ p) b.ring) m.boundaries b
    (maps.rings-elsewhere m p valid.sound.v5 free) h) has) (record {
      position = λ q known off.
          ap (λ (o : Option PointRow). unwrap_or (option_map (λ r. r.position) o) origin)
          (same-without (λ (r : PointRow). r.number) q p m.points off);
      points = λ q known. inr (in-without (λ (r : PointRow). r.number) q p m.points known);
    }) tt tt
  where
    new : Map
    new = record m { points = without_row (λ (r : PointRow). r.number) p m.points }

    free : is_free m p ≡ true
    free = free-dropped m p (allowed m (DropPoint p) none).not_free

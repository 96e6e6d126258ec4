-- A join of a map on half-edges that is made in place.
use Rattle.std.proofs.Common.{◌≡◌, ◌≢◌, ◌==◌, ◌&&◌, ℕ, inl, inr, refl, sym, ap, subst, ◌∙◌, List, [], ◌∷◌, ◌++◌, filter, not, Bool, true, false, true≢false, Some, None, arith}
use Rattle.std.specs.Prelude.{IsPermutation, IsSome, is_some}
use Rattle.std.specs.List.{Contains}
use Rattle.std.proofs.lemmas.Bool.{eqb-true, eq-eqb, false_from_ne_true}
use Rattle.std.proofs.lemmas.List.Sorted.{Contains-permutation}
use Rattle.cad_rows.specs.declared.edits.Edit.TheVariants.{Join}
use Rattle.cad_rows.specs.declared.rows.PointRow.{PointRow}
use Rattle.cad_rows.specs.declared.rows.StringRow.{StringRow}
use Rattle.cad_map.specs.Changes.{by_number}
use Rattle.cad_map.specs.Effects.{after}
use Rattle.cad_map.specs.Map.{Map, point_of, string_of, is_end, far_end, strings_at}
use Rattle.numbered_rows.specs.Rows.{without_row}
use Rattle.cad_map.proofs.CallerLemmas.{Contains-cases, Contains-first, Contains-later, Contains-filter, row-found, ends, All-at_each, find-Contains}
use Rattle.half_table.specs.declared.half.Half.{Half}
use Rattle.half_table.specs.Half.{forward_of, backward_of}
use Rattle.half_table.specs.Rows.{HalfRows, has, origin_of}
use Rattle.cad_laws.specs.Joining.{FarEndsAreApart}
use Rattle.cad_laws.specs.Tried.{IsTried}
use Rattle.key_lists.specs.Held.{Held, HasRoomAt}
use Rattle.map_parts.specs.declared.edits.passing.Passing.{Passing}
use Rattle.cad_map.specs.declared.map_rows.MapRows.{MapRows}
use Rattle.map_parts.specs.declared.stars.Spoke.{Spoke}
use Rattle.cad_map.specs.MapRows.{map_in}
use Rattle.map_parts.specs.Parts.{HasHalves}
use Rattle.map_parts.specs.Passing.{HasBetween, FitTable, CanGoPast, path_at}
use Rattle.map_parts.specs.Splitting.{Connects, CanMeet, AreStarsOf}
use Rattle.map_parts.specs.Joined.{CanBeginJoin}
use Rattle.map_parts.proofs.Passing.Begun.{IsStringReady}
use Rattle.map_parts.proofs.Passing.Between as between
use Rattle.map_parts.proofs.Passing.JoinBetween as made
use Rattle.map_parts.proofs.Passing.StarsChanged.{stars-permuted}

-- a string that ends at the point leads from there to its far end
pub end-connects : (s : StringRow) (p : ℕ) → is_end s p ≡ true → Connects s (far_end s p) p
end-connects s p end = elim (ends s p end) [ inl w ↦ inr (w.0, w.1) | inr w ↦ inl (w.1, w.0) ]

-- one test after another
filter-twice : {X : Type 0} (f g h : X → Bool) (xs : List X)
    → ((x : X) → Contains xs x → (f x && g x) ≡ h x) → filter g (filter f xs) ≡ filter h xs
filter-twice f g h [] each = refl
filter-twice f g h (x ∷ xs) each =
    by (f x) (g x) (h x) refl refl refl (each x (Contains-first x xs))
    (filter-twice f g h xs (λ y later. each y (Contains-later x xs y later)))
  where
    by : (s t u : Bool) → f x ≡ s → g x ≡ t → h x ≡ u → (f x && g x) ≡ h x
        → filter g (filter f xs) ≡ filter h xs → filter g (filter f (x ∷ xs)) ≡ filter h (x ∷ xs)
    by true true true e k l both rest = rw (e, l) (rw k (ap (λ (ys : List _). x ∷ ys) rest))
    by true true false e k l both rest =
        absurd (true≢false ((λ i. sym e i && sym k i) ∙ both ∙ l))
    by true false true e k l both rest =
        absurd (true≢false (sym ((λ i. sym e i && sym k i) ∙ both ∙ l)))
    by true false false e k l both rest = rw (e, l) (rw k rest)
    by false t true e k l both rest =
        absurd (true≢false (sym ((λ i. sym e i && g x) ∙ both ∙ l)))
    by false t false e k l both rest = rw (e, l) rest

-- the strings without the two at the point are those that don't end there
pub two-out : (m : Map) (p new : ℕ) (s t : StringRow) → (tried : IsTried m (Join p new))
    → (are : by_number (strings_at m p) ≡ s ∷ t ∷ []) → (apart : FarEndsAreApart m (Join p new))
    → without_row (λ (r : StringRow). r.number) t.number (without_row (λ (r : StringRow). r.number) s.number m.strings)
    ≡ made.others m p new s t tried are apart
two-out m p new s t tried are apart =
    filter-twice (λ (r : StringRow). not (r.number == s.number)) (λ (r : StringRow). not (r.number == t.number))
    (λ (r : StringRow). not (is_end r p)) m.strings each
  where
    same : (r q : StringRow) → Contains m.strings r → Contains m.strings q → r.number ≡ q.number → r ≡ q
    same r q there too e =
        let one : Some r ≡ Some q =
        sym (row-found m.strings r tried.valid.sound.v1.strings.distinct there) ∙ ap (string_of m) e
        ∙ row-found m.strings q tried.valid.sound.v1.strings.distinct too in cc

    each : (r : StringRow) → Contains m.strings r
        → (not (r.number == s.number) && not (r.number == t.number)) ≡ not (is_end r p)
    each r there = by (is_end r p) refl
      where
        two : Contains m.strings s × (is_end s p ≡ true)
        two = made.join-first m p new s t tried are apart

        other : Contains m.strings t × (is_end t p ≡ true)
        other = made.join-second m p new s t tried are apart

        at_end : is_end r p ≡ true → (not (r.number == s.number) && not (r.number == t.number)) ≡ false
        at_end e =
            elim (Contains-cases s (t ∷ []) r
            (Contains-permutation (strings_at m p) (s ∷ t ∷ []) r (made.join-at_point m p new s t tried are apart)
            (Contains-filter (λ q. is_end q p) m.strings r there e))) [
              | inl k ↦ (λ i. not (eq-eqb r.number s.number (ap (λ (q : StringRow). q.number) (sym k)) i) && not (r.number == t.number))
              | inr later ↦ elim (Contains-cases t [] r later) [
                | inl k ↦
                    (λ i. not (r.number == s.number) && not (eq-eqb r.number t.number (ap (λ (q : StringRow). q.number) (sym k)) i))
                    ∙ and-false (not (r.number == s.number))
                | inr none ↦ let low = none.1 in absurd (omega arith)
              ]
            ]
          where
            and-false : (b : Bool) → (b && false) ≡ false
            and-false true = refl
            and-false false = refl

        elsewhere : is_end r p ≡ false → (not (r.number == s.number) && not (r.number == t.number)) ≡ true
        elsewhere e =
            let a : (r.number == s.number) ≡ false =
            false_from_ne_true (r.number == s.number) (λ h.
            let k = same r s there two.0 (eqb-true r.number s.number h) in
            true≢false (sym two.1 ∙ ap (λ (q : StringRow). is_end q p) (sym k) ∙ e)) in
            let b : (r.number == t.number) ≡ false =
            false_from_ne_true (r.number == t.number) (λ h.
            let k = same r t there other.0 (eqb-true r.number t.number h) in
            true≢false (sym other.1 ∙ ap (λ (q : StringRow). is_end q p) (sym k) ∙ e)) in
            (λ i. not (a i) && not (b i))

        by : (u : Bool) → is_end r p ≡ u → (not (r.number == s.number) && not (r.number == t.number)) ≡ not (is_end r p)
        by true e = at_end e ∙ ap not (sym e)
        by false e = elsewhere e ∙ ap not (sym e)

-- the map with the two strings joined
abbrev after_join : {p first second : ℕ} {row : StringRow} {rows : MapRows} {table : HalfRows} {held : Held Half} {stars : Held Spoke}
    → CanBeginJoin p first second row rows table held stars → Map
after_join {p} {first} {second} {row} can = after can.map (Join p row.number)

module _ {p first second : ℕ} {row : StringRow} {before : MapRows} {old : HalfRows} {held : Held Half} {stars : Held Spoke}
    (can : CanBeginJoin p first second row before old held stars) {rows : MapRows} {table : HalfRows} (ready : IsStringReady can.map row rows table held stars) where
  abbrev m : Map
  m = can.map

  abbrev s : StringRow
  s = can.one

  abbrev t : StringRow
  t = can.other

  abbrev it : HasBetween m (after_join can) p (far_end s p) (far_end t p) (path_at p s t row.number)
  it = made.join-has_between m p row.number s t can.tried can.are can.apart

  abbrev pub join-can : CanGoPast (path_at p s t row.number) table held
  join-can = record {
    through = m;
    past = after_join can;
    p = p;
    a = far_end s p;
    b = far_end t p;
    between = it;
    fits = ready.fits.fits;
    whole_there = subst (HasHalves table) can.row_is ready.there;
    loose = ready.loose;
  }

  pub join-fits : (q : Passing) → q ≡ path_at p s t row.number → (new : HalfRows) → (put : Held Half)
      → ((k : CanGoPast q table held) → FitTable k.past new put) → FitTable (after_join can) new put
  join-fits q is new put fits =
      subst (λ (q : Passing). ((k : CanGoPast q table held) → FitTable k.past new put) → FitTable (after_join can) new put)
      (sym is) (λ k. k join-can) fits

  pub join-first : string_of (map_in rows) first ≡ Some s
  join-first =
      ap (λ (q : Map). string_of q first) ready.fits.rows_are ∙ ap (string_of m) (sym can.first_is)
      ∙ made.join-found_first m p row.number s t can.tried can.are can.apart

  pub join-second : string_of (map_in rows) second ≡ Some t
  join-second =
      ap (λ (q : Map). string_of q second) ready.fits.rows_are ∙ ap (string_of m) (sym can.second_is)
      ∙ made.join-found_second m p row.number s t can.tried can.are can.apart

  pub join-differ : first ≢ second
  join-differ e =
      made.join-differ m p row.number s t can.tried can.are can.apart (can.first_is ∙ e ∙ sym can.second_is)

  pub join-absent : string_of (map_in rows) row.number ≡ None
  join-absent =
      ap (λ (q : Map). string_of q row.number) ready.fits.rows_are
      ∙ made.join-free m p row.number s t can.tried can.are can.apart

  pub join-point : IsSome (point_of (map_in rows) p)
  join-point =
      ap (λ (q : Map). is_some (point_of q p)) ready.fits.rows_are
      ∙ made.join-point_there m p row.number s t can.tried can.are can.apart

  abbrev pub join-meet : CanMeet row s t stars
  join-meet =
      let a-p = between.a-p it in
      let b-p = between.b-p it in
      let from : row.from ≡ far_end s p = ap (λ (r : StringRow). r.from) can.row_is in
      let to : row.to ≡ far_end t p = ap (λ (r : StringRow). r.to) can.row_is in
      let one = made.join-first m p row.number s t can.tried can.are can.apart in
      let other = made.join-second m p row.number s t can.tried can.are can.apart in
      record {
        strings = m.strings;
        left = made.others m p row.number s t can.tried can.are can.apart;
        are = ready.fits.are_stars;
        parts = made.join-before m p row.number s t can.tried can.are can.apart;
        point = p;
        two = λ e. it.joined.apart (sym from ∙ e ∙ to);
        from_apart = λ e. a-p (sym from ∙ e);
        to_apart = λ e. b-p (sym to ∙ e);
        before = subst (λ (n : ℕ). Connects s n p) (sym from) (end-connects s p one.1);
        behind = subst (λ (n : ℕ). Connects t n p) (sym to) (end-connects t p other.1);
      }

  -- the stars after it
  pub join-stars : (one other : StringRow) → one ≡ s → other ≡ t → (new : Held Spoke)
      → ((strings left : List StringRow) → AreStarsOf strings stars → IsPermutation strings (one ∷ other ∷ left)
      → AreStarsOf (row ∷ left) new) → AreStarsOf (after_join can).strings new
  join-stars one other one_is other_is new each =
      let rest = made.others m p row.number s t can.tried can.are can.apart in
      let parts = made.join-before m p row.number s t can.tried can.are can.apart in
      let now =
      each m.strings rest ready.fits.are_stars
      (subst (λ (w : StringRow × StringRow). IsPermutation m.strings (w.0 ∷ w.1 ∷ rest)) (λ i. (sym one_is i, sym other_is i)) parts) in
      stars-permuted (after_join can).strings (row ∷ rest) new
      (subst (λ (w : StringRow). IsPermutation (after_join can).strings (w ∷ rest)) (sym can.row_is)
      (made.join-after m p row.number s t can.tried can.are can.apart)) now

  -- and the room at the point
  pub join-room : (one other : StringRow) → one ≡ s → other ≡ t → (new : Held Spoke)
      → ((k : CanMeet row one other stars) → HasRoomAt new k.point 2) → HasRoomAt new p 2
  join-room one other one_is other_is new each =
      subst (λ (w : StringRow × StringRow). ((k : CanMeet row w.0 w.1 stars) → HasRoomAt new k.point 2) → HasRoomAt new p 2)
      (λ i. (sym one_is i, sym other_is i)) (λ k. k join-meet) each

  others-are : ((after_join can).sources ≡ m.sources) × ((after_join can).parcels ≡ m.parcels)
      × ((after_join can).retired ≡ m.retired) × ((after_join can).points ≡ without_row (λ (r : PointRow). r.number) p m.points)
  unfolding after
  others-are = (refl, refl, refl, refl)

  pub join-rows_are : (new : Map) → new ≡ record (map_in rows) {
    points = without_row (λ (r : PointRow). r.number) p (map_in rows).points;
    strings = without_row (λ (r : StringRow). r.number) second
        (without_row (λ (r : StringRow). r.number) first (map_in rows).strings) ++ row ∷ [];
  } → new ≡ record (after_join can) { boundaries = [] }
  join-rows_are new is =
      let strings : without_row (λ (r : StringRow). r.number) second
      (without_row (λ (r : StringRow). r.number) first m.strings) ++ row ∷ [] ≡ (after_join can).strings =
      (λ i. without_row (λ (r : StringRow). r.number) (sym can.second_is i)
      (without_row (λ (r : StringRow). r.number) (sym can.first_is i) m.strings) ++ can.row_is i ∷ [])
      ∙ ap (λ (l : List StringRow). l ++ made.made m p row.number s t can.tried can.are can.apart ∷ [])
      (two-out m p row.number s t can.tried can.are can.apart)
      ∙ sym (made.join-strings m p row.number s t can.tried can.are can.apart) in
      is
      ∙ ap (λ (q : Map). record q {
        points = without_row (λ (r : PointRow). r.number) p q.points;
        strings = without_row (λ (r : StringRow). r.number) second
            (without_row (λ (r : StringRow). r.number) first q.strings) ++ row ∷ [];
      }) ready.fits.rows_are
      ∙ (λ i. record {
        sources = sym others-are.0 i;
        points = sym others-are.3 i;
        parcels = sym others-are.1 i;
        strings = strings i;
        retired = sym others-are.2 i;
        boundaries = [];
      })

  -- a string that was there is whole in the table still
  pub join-whole : (n : ℕ) (r : StringRow) → string_of (map_in rows) n ≡ Some r → (new : HalfRows)
      → ((h : Half) → has new h ≡ has table h) → ((h : Half) → origin_of new h ≡ origin_of table h)
      → HasHalves new r
  join-whole n r found new stays begins =
      let among = (find-Contains (λ (q : StringRow). q.number == n) m.strings r (sym (ap (λ (q : Map). string_of q n) ready.fits.rows_are) ∙ found)).0 in
      let e = All-at_each (HasHalves table) m.strings r ready.fits.fits.ends among in
      record {
        there = stays (forward_of r.number) ∙ e.there;
        back = stays (backward_of r.number) ∙ e.back;
        from = begins (forward_of r.number) ∙ e.from;
        to = begins (backward_of r.number) ∙ e.to;
      }

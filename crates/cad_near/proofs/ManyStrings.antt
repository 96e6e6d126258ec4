-- Where strings and points near very many touched ones pass the test of V4 in groups, nothing crosses what was touched.
use Rattle.std.proofs.Common.{◌≡◌, ◌≢◌, ◌⊎◌, inl, inr, ◌∙◌, refl, sym, ap, subst, ℕ, ◌+◌, ◌<◌, List, [], ◌∷◌, ◌++◌, map, take, length, get_or, slice_get, Some, None, zero, suc, true, not, true≢false, arith}
use Rattle.std.specs.Prelude.{◌^◌, IsPermutation}
use Rattle.std.specs.List.{AllByRecursion, Contains}
use Rattle.std.proofs.lemmas.Bool.{and_parts, cases_eq, cases_lt, not-true}
use Rattle.std.proofs.lemmas.List.{map-append}
use Rattle.std.proofs.lemmas.List.Elements.{Contains-append_left, Contains-push}
use Rattle.std.proofs.lemmas.List.Sorted.{Contains-permutation}
use Rattle.std.proofs.lemmas.Option.{slice_get-get_or, slice_get_within}
use Rattle.geo_exact.specs.Position.{Position}
use Rattle.geo_exact.specs.SignTest.{boxes_overlap}
use Rattle.geo_exact.proofs.CallerLemmas.{boxes_overlap-HaveCommonLocation, HaveCommonLocation-exchanged}
use Rattle.sweep.specs.Extents.{Overlap}
use Rattle.cad_rows.specs.declared.rows.PointRow.{PointRow}
use Rattle.cad_rows.specs.declared.rows.StringRow.{StringRow}
use Rattle.cad_map.specs.Crossings.{HasPlacedRows}
use Rattle.cad_map.specs.Map.{Map, position_of, is_end, far_end, strings_at, string_of}
use Rattle.cad_map.specs.Stars.{spoke_of}
use Rattle.cad_map.specs.Touched.{Touched}
use Rattle.cad_map.specs.Turn.{AreMetInTurn}
use Rattle.cad_map.specs.Valid.{HasSoundRows, MeetAtEnds, LiesOnlyAsEnd}
use Rattle.cad_map.specs.declared.stars.Spoke.{Spoke}
use Rattle.cad_map.proofs.CallerLemmas.{All-at_each, All-from_each, Contains-filter, meet-at_end, take-more}
use Rattle.cad_near.specs.declared.seen.Reach.{Reach}
use Rattle.cad_valid.specs.declared.placed.Placed.{Placed}
use Rattle.cad_valid.specs.Boxes.{box_of}
use Rattle.cad_valid.specs.Hubs.{alone}
use Rattle.cell_grid.specs.Grid.{Grid, HoldsString, HoldsPoint}
use Rattle.cad_near.specs.Many.{AreNamed, HasAllIn, AreAllNear, LeadApart, HasSpokesOf, IsOfPoint, AreGroupsIn, AreRegroupedIn, PassInGroups}
use Rattle.cad_near.specs.Near.{HoldsMap, OfPoint, OfString, IsUncrossed, LiesAtEnds, AreUncrossed}
use Rattle.cad_valid.specs.Placed.{placed_string, placed_point, is_placed_end}
use Rattle.cad_near.specs.Seen.{IsInReach, HasInReach, lying_string, lying_point}
use Rattle.cad_valid.specs.Swept.{is_point, have_no_crossing}
use Rattle.cad_valid.proofs.CallerLemmas.{overlap-common}
use Rattle.cad_valid.proofs.CallerLemmas.{two-among, two-only_start}
use Rattle.cad_valid.proofs.CallerLemmas.{is_only_end-is}
use Rattle.cad_near.proofs.SeenNear.{one_more, row-gathered, no_row-gathered}
use Rattle.cad_near.proofs.SightOfMap.{wider, in_reach}
use Rattle.cad_valid.proofs.CallerLemmas.{get-first, get-second, get-mapped, passed-pair}
use Rattle.cad_valid.proofs.CallerLemmas.{string_on, point_on, strings_passed, point_string, string_point, meet-exchanged, point_is}

-- an element of a list stands at its place
there : {X : Type 0} (xs : List X) (x : X) (h : Contains xs x) → slice_get xs h.0 ≡ Some x
there xs x h = slice_get-get_or xs h.0 x h.1 ∙ ap Some h.2

some-same : {X : Type 0} (x y : X) → Some x ≡ Some y → x ≡ y
some-same x y one = cc

-- ---- What lies near

-- the strings of a map by their numbers, one more and no more
module _ (m : Map) (sound : HasSoundRows m) (numbers : List ℕ) (k n : ℕ) where
  pub named-more : (row : StringRow) (old new : List Placed) → slice_get numbers k ≡ Some n → string_of m n ≡ Some row → AreNamed m (take k numbers) old
      → new ≡ old ++ placed_string m row ∷ [] → AreNamed m (take (k + 1) numbers) new
  unfolding OfString
  named-more row old new at found before put = record {
    named = before.named ++ (row.number, placed_string m row) ∷ [];
    are =
        put ∙ ap (λ (l : List Placed). l ++ placed_string m row ∷ []) before.are
        ∙ sym (map-append (λ (e : ℕ × Placed). e.1) before.named ((row.number, placed_string m row) ∷ []));
    all = row-gathered (λ (s : StringRow). s.number) m.strings sound.strings.distinct numbers k n at (λ s. (s.number, placed_string m s)) before.named _ row found refl before.all;
  }

  pub named-none : (items : List Placed) → slice_get numbers k ≡ Some n → string_of m n ≡ None → AreNamed m (take k numbers) items → AreNamed m (take (k + 1) numbers) items
  unfolding OfString
  named-none items at none before = record {
    named = before.named;
    are = before.are;
    all = no_row-gathered (λ (s : StringRow). s.number) m.strings sound.strings.distinct numbers k n at (λ s. (s.number, placed_string m s)) before.named _ none refl before.all;
  }

-- a number that is named twice in a row names what it named before
pub named-again : (m : Map) (numbers : List ℕ) (j k n : ℕ) (items : List Placed) → k ≡ j + 1 → slice_get numbers j ≡ Some n → slice_get numbers k ≡ Some n
    → AreNamed m (take k numbers) items → AreNamed m (take (k + 1) numbers) items
named-again m numbers j k n items next first second before = record {
  named = before.named;
  are = before.are;
  all =
      let P = OfString m (λ s. Contains before.named (s.number, placed_string m s)) in
      one_more P numbers k n second before.all
      (All-at_each P (take k numbers) n before.all
      (subst (λ (l : List ℕ). Contains l n) (take-more numbers j n first ∙ ap (λ (i : ℕ). take i numbers) (sym next)) (Contains-push (take j numbers) n)));
}

-- what lies in a box lies in a wider one
module _ (m : Map) (r q : Reach) (wide : (p : Position) → IsInReach r p → IsInReach q p) where
  pub strings-wider : (numbers : List ℕ) → AllByRecursion (OfString m (λ s. HasInReach r (lying_string m s))) numbers → AllByRecursion (OfString m (λ s. HasInReach q (lying_string m s))) numbers
  unfolding OfString
  strings-wider numbers all = All-from_each (OfString m (λ s. HasInReach q (lying_string m s))) numbers (λ n named s h is.
      let here = All-at_each (OfString m (λ s. HasInReach r (lying_string m s))) numbers n all named s h is in
      record { a = wide (position_of m s.from) here.a; b = wide (position_of m s.to) here.b })

-- what was gathered of the numbers that are held in a box has all that the map has there
pub all-in : (m : Map) (g : Grid) → HoldsMap g m → (r : Reach) (strings points : List ℕ) (items others all : List Placed)
    → ((n : ℕ) (a b : Position) → HoldsString g n a b → boxes_overlap r.low r.high a b ≡ true → Contains strings n)
    → ((n : ℕ) (a : Position) → HoldsPoint g n a → boxes_overlap r.low r.high a a ≡ true → Contains points n)
    → AreNamed m strings items → AllByRecursion (OfPoint m (λ p. Contains others (placed_point p))) points → all ≡ items ++ others → HasAllIn m r all
unfolding OfPoint OfString
all-in m g held r strings points items others all strings_held points_held named placed is = record {
  named = named.named;
  rest = others;
  are = is ∙ ap (λ (l : List Placed). l ++ others) named.are;
  strings = λ s h near.
      All-at_each (OfString m (λ s. Contains named.named (s.number, placed_string m s))) strings s.number named.all
      (strings_held s.number (position_of m s.from) (position_of m s.to) (held.strings s h) near) s h refl;
  points = λ p h near.
      All-at_each (OfPoint m (λ p. Contains others (placed_point p))) points p.number placed (points_held p.number p.position (held.points p h) near) p h refl;
}

-- ---- Groups

-- one string more of a point is seen
pub spokes-more : (m : Map) (p : ℕ) (strings : List StringRow) (place : ℕ) (row : StringRow) (old new : List Spoke) (x : Spoke)
    → slice_get strings place ≡ Some row → x ≡ spoke_of m place row p → new ≡ old ++ x ∷ []
    → ((k : ℕ) (s : StringRow) → k < place → slice_get strings k ≡ Some s → Contains old (spoke_of m k s p))
    → (k : ℕ) (s : StringRow) → k < place + 1 → slice_get strings k ≡ Some s → Contains new (spoke_of m k s p)
spokes-more m p strings place row old new x told is put before k s within at =
    subst (λ (l : List Spoke). Contains l (spoke_of m k s p)) (sym put) (elim (cases_lt k place) [
      | inl lt ↦ Contains-append_left old (x ∷ []) (spoke_of m k s p) (before k s lt at)
      | inr ge ↦
          let last : k ≡ place = omega arith in
          let same : s ≡ row = some-same s row (sym at ∙ ap (slice_get strings) last ∙ told) in
          subst (λ (y : Spoke). Contains (old ++ x ∷ []) y) (is ∙ (λ i. spoke_of m (sym last i) (sym same i) p)) (Contains-push old x)
    ])

-- those that were told, where all were
pub spokes-told : (m : Map) (p : ℕ) (strings : List StringRow) (place : ℕ) (spokes : List Spoke)
    → ((k : ℕ) (s : StringRow) → k < place → slice_get strings k ≡ Some s → Contains spokes (spoke_of m k s p))
    → (k : ℕ) (s : StringRow) → slice_get (take place strings) k ≡ Some s → Contains spokes (spoke_of m k s p)
spokes-told m p strings place spokes seen k s at =
    let t = taken strings place k s at in seen k s t.0 t.1
  where
    taken : {X : Type 0} (xs : List X) (n k : ℕ) (x : X) → slice_get (take n xs) k ≡ Some x → (k < n) × (slice_get xs k ≡ Some x)
    taken xs zero k x at = let none : None ≡ Some x = at in absurd (cc)
    taken [] (suc n) k x at = let none : None ≡ Some x = at in absurd (cc)
    taken (y ∷ xs) (suc n) zero x at = (omega arith, at)
    taken (y ∷ xs) (suc n) (suc k) x at = let t = taken xs n k x at in let low = t.0 in (omega arith, t.1)

-- strings of a point that a turn about it meets one after another lead apart
pub apart-in_turn : (m : Map) (p : ℕ) (spokes order : List Spoke) → HasSpokesOf m p spokes → IsPermutation spokes order → AreMetInTurn (position_of m p) order → LeadApart m p
apart-in_turn m p spokes order has moved met s t s_in t_in s_end t_end differ =
    let a = told s s_in s_end in
    let b = told t t_in t_end in
    two-among (position_of m p) order met (spoke_of m a.0 s p) (spoke_of m b.0 t p)
    (Contains-permutation spokes order (spoke_of m a.0 s p) moved (has.seen a.0 s (there has.strings s a)))
    (Contains-permutation spokes order (spoke_of m b.0 t p) moved (has.seen b.0 t (there has.strings t b)))
    (λ same.
    let one : Some s ≡ Some t = sym (there has.strings s a) ∙ ap (slice_get has.strings) same ∙ there has.strings t b in
    differ (ap (λ (r : StringRow). r.number) (some-same s t one)))
  where
    told : (s : StringRow) → Contains m.strings s → is_end s p ≡ true → Contains has.strings s
    told s s_in s_end = Contains-permutation (strings_at m p) has.strings s has.each (Contains-filter (λ s. is_end s p) m.strings s s_in s_end)

-- at first each has a group of its own
pub groups-alone : (m : Map) (items : List Placed) (groups : List ℕ) → ((i : ℕ) → i < length items → get_or groups i 0 ≡ alone i) → AreGroupsIn m items groups
groups-alone m items groups each i f at = inl (each i (slice_get_within items i f at))

-- the strings of one more point are put into its group
pub groups-more : (m : Map) (p : ℕ) (items : List Placed) (old new : List ℕ) → p < 2 ^ 32 → LeadApart m p → AreGroupsIn m items old
    → AreRegroupedIn p items old new → AreGroupsIn m items new
groups-more m p items old new small apart before each i f at = elim (each i f at) [
  | inl same ↦ subst (λ (g : ℕ). (g ≡ alone i) ⊎ IsOfPoint m f g) (sym same) (before i f at)
  | inr put ↦ subst (λ (g : ℕ). (g ≡ alone i) ⊎ IsOfPoint m f g) (sym put.0) (inr (record { small = small; apart = apart; string = put.1 }))
]

-- ---- What the sweep tells

module _ (m : Map) (rows : HasPlacedRows m) (r : Reach) (items : List Placed) (near : HasAllIn m r items) (pass : PassInGroups m items) where
  abbrev IsNear : Position → Position → Type 0
  IsNear a b = boxes_overlap r.low r.high a b ≡ true

  string-place : (s : StringRow) (h : Contains near.named (s.number, placed_string m s)) → slice_get items h.0 ≡ Some (placed_string m s)
  string-place s h =
      subst (λ (l : List Placed). slice_get l h.0 ≡ Some (placed_string m s)) (sym near.are)
      (get-first (map (λ (e : ℕ × Placed). e.1) near.named) near.rest h.0 (placed_string m s)
      (get-mapped (λ (e : ℕ × Placed). e.1) near.named h.0 (s.number, placed_string m s) (there near.named (s.number, placed_string m s) h)))

  -- points stand behind all strings
  abbrev behind : ℕ → ℕ
  behind k = length (map (λ (e : ℕ × Placed). e.1) near.named) + k

  point-place : (p : PointRow) (h : Contains near.rest (placed_point p)) → slice_get items (behind h.0) ≡ Some (placed_point p)
  point-place p h =
      subst (λ (l : List Placed). slice_get l (behind h.0) ≡ Some (placed_point p)) (sym near.are)
      (get-second (map (λ (e : ℕ × Placed). e.1) near.named) near.rest h.0 (placed_point p) (there near.rest (placed_point p) h))

  -- two of two groups whose boxes overlap pass
  passed : (i j : ℕ) (f g : Placed) → slice_get items i ≡ Some f → slice_get items j ≡ Some g → get_or pass.groups i 0 ≢ get_or pass.groups j 0 → Overlap (box_of f) (box_of g)
      → (have_no_crossing f g ≡ true) ⊎ (have_no_crossing g f ≡ true)
  passed i j f g at_f at_g differ overlap =
      passed-pair have_no_crossing items i j f g at_f at_g (λ d in_i in_j met. pass.pass i j d in_i in_j differ met) overlap

  -- two strings near meet at ends alone
  two : (s t : StringRow) → Contains m.strings s → Contains m.strings t → IsNear (position_of m s.from) (position_of m s.to) → IsNear (position_of m t.from) (position_of m t.to)
      → s.number ≢ t.number → MeetAtEnds m s t
  two s t s_in t_in s_near t_near other =
      let h = near.strings s s_in s_near in
      let k = near.strings t t_in t_near in
      elim (cases_eq (get_or pass.groups h.0 0) (get_or pass.groups k.0 0)) [
        | inl same ↦ grouped h k same (pass.are h.0 (placed_string m s) (string-place s h)) (pass.are k.0 (placed_string m t) (string-place t k))
        | inr differ ↦ λ common.
            elim (passed h.0 k.0 (placed_string m s) (placed_string m t) (string-place s h) (string-place t k) differ
            (overlap-common (placed_string m s) (placed_string m t) (string_on m rows s) (string_on m rows t) common)) [
              | inl passes ↦ strings_passed m rows s_in.0 t_in.0 s t (there m.strings s s_in) (there m.strings t t_in) passes common
              | inr passes ↦ meet-exchanged m s t (strings_passed m rows t_in.0 s_in.0 t s (there m.strings t t_in) (there m.strings s s_in) passes) common
            ]
      ]
    where
      grouped : (h : Contains near.named (s.number, placed_string m s)) (k : Contains near.named (t.number, placed_string m t))
          → get_or pass.groups h.0 0 ≡ get_or pass.groups k.0 0
          → (get_or pass.groups h.0 0 ≡ alone h.0) ⊎ IsOfPoint m (placed_string m s) (get_or pass.groups h.0 0)
          → (get_or pass.groups k.0 0 ≡ alone k.0) ⊎ IsOfPoint m (placed_string m t) (get_or pass.groups k.0 0) → MeetAtEnds m s t
      grouped h k same (inl a) (inl b) =
          let place : h.0 ≡ k.0 = omega (arith, a, b, same) in
          let one : Some (s.number, placed_string m s) ≡ Some (t.number, placed_string m t) =
          sym (there near.named (s.number, placed_string m s) h) ∙ ap (slice_get near.named) place ∙ there near.named (t.number, placed_string m t) k in
          absurd (other (ap (λ (e : ℕ × Placed). e.0) (some-same (s.number, placed_string m s) (t.number, placed_string m t) one)))
      grouped h k same (inl a) (inr b) = let small = b.small in absurd (omega (arith, a, small, same))
      grouped h k same (inr a) (inl b) = let small = a.small in absurd (omega (arith, b, small, same))
      grouped h k same (inr a) (inr b) =
          let p = get_or pass.groups h.0 0 in
          let s_end = (and_parts (is_end s p) (not (is_point (placed_string m s))) a.string).0 in
          let t_end = subst (λ (q : ℕ). is_end t q ≡ true) (sym same) (and_parts (is_end t (get_or pass.groups k.0 0)) (not (is_point (placed_string m t))) b.string).0 in
          let apart = a.apart s t s_in t_in s_end t_end other in
          (meet-at_end m s t p (record { of_first = s_end; of_second = t_end }) (λ e. apart.a_away (sym e))).0
          (two-only_start (position_of m p) (position_of m (far_end s p)) (position_of m (far_end t p)) apart)

  -- a point near lies on a string near as its end alone
  one : (p : PointRow) (s : StringRow) → Contains m.points p → Contains m.strings s → IsNear p.position p.position → IsNear (position_of m s.from) (position_of m s.to) → LiesOnlyAsEnd m p s
  one p s p_in s_in p_near s_near common =
      let h = near.strings s s_in s_near in
      let k = near.points p p_in p_near in
      elim (passed h.0 (behind k.0) (placed_string m s) (placed_point p) (string-place s h) (point-place p k)
      (differ h k (pass.are h.0 (placed_string m s) (string-place s h)) (pass.are (behind k.0) (placed_point p) (point-place p k)))
      (overlap-common (placed_string m s) (placed_point p) (string_on m rows s) (point_on m rows p_in.0 p (there m.points p p_in)) common)) [
        | inl passes ↦ (is_only_end-is m p s).0 (sym (string_point m rows s_in.0 s (there m.strings s s_in) p) ∙ passes) common
        | inr passes ↦ (is_only_end-is m p s).0 (sym (point_string m rows s_in.0 s (there m.strings s s_in) p) ∙ passes) common
      ]
    where
      no_string : (g : ℕ) → IsOfPoint m (placed_point p) g → ⊥
      no_string g of_point =
          true≢false (sym (point_is p) ∙ not-true (is_point (placed_point p)) (and_parts (is_placed_end (placed_point p) g) (not (is_point (placed_point p))) of_point.string).1)

      differ : (h : Contains near.named (s.number, placed_string m s)) (k : Contains near.rest (placed_point p))
          → (get_or pass.groups h.0 0 ≡ alone h.0) ⊎ IsOfPoint m (placed_string m s) (get_or pass.groups h.0 0)
          → (get_or pass.groups (behind k.0) 0 ≡ alone (behind k.0)) ⊎ IsOfPoint m (placed_point p) (get_or pass.groups (behind k.0) 0)
          → get_or pass.groups h.0 0 ≢ get_or pass.groups (behind k.0) 0
      differ h k a (inr b) same = no_string (get_or pass.groups (behind k.0) 0) b
      differ h k (inl a) (inl b) same =
          let within = slice_get_within (map (λ (e : ℕ × Placed). e.1) near.named) h.0 (placed_string m s)
          (get-mapped (λ (e : ℕ × Placed). e.1) near.named h.0 (s.number, placed_string m s) (there near.named (s.number, placed_string m s) h)) in
          omega (arith, a, b, same, within)
      differ h k (inr a) (inl b) same = let small = a.small in omega (arith, b, small, same)

-- so nothing crosses what was touched
pub uncrossed-many : (m : Map) (rows : HasPlacedRows m) (t : Touched) (items : List Placed) → AreAllNear m t items → PassInGroups m items → AreUncrossed m t
unfolding OfPoint OfString
uncrossed-many m rows t items all pass = record {
  strings = All-from_each (OfString m (IsUncrossed m)) t.strings (λ n named s s_in is.
      let within = All-at_each (OfString m (λ s. HasInReach all.reach (lying_string m s))) t.strings n all.touched.strings named s s_in is in
      record {
        strings = λ q q_in other common.
            two m rows all.reach items all.near pass s q s_in q_in (in_reach all.reach (lying_string m s) within)
            (wider all.reach (lying_string m s) (position_of m q.from) (position_of m q.to) within
            (boxes_overlap-HaveCommonLocation (position_of m s.from) (position_of m s.to) (position_of m q.from) (position_of m q.to) common)) (λ e. other (sym e)) common;
        points = λ p p_in common.
            one m rows all.reach items all.near pass p s p_in s_in
            (wider all.reach (lying_string m s) p.position p.position within (boxes_overlap-HaveCommonLocation (position_of m s.from) (position_of m s.to) p.position p.position common))
            (in_reach all.reach (lying_string m s) within) common;
      });
  points = All-from_each (OfPoint m (LiesAtEnds m)) t.points (λ n named p p_in is s s_in common.
      let within = All-at_each (OfPoint m (λ p. HasInReach all.reach (lying_point p))) t.points n all.touched.points named p p_in is in
      one m rows all.reach items all.near pass p s p_in s_in (in_reach all.reach (lying_point p) within)
      (wider all.reach (lying_point p) (position_of m s.from) (position_of m s.to) within
      (boxes_overlap-HaveCommonLocation p.position p.position (position_of m s.from) (position_of m s.to)
      (HaveCommonLocation-exchanged p.position p.position (position_of m s.from) (position_of m s.to) common))) common);
}

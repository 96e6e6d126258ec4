-- Where touched strings and points meet others at ends alone, all do.
use Rattle.std.proofs.Common.{◌≡◌, ◌≢◌, ℕ, refl, sym, ap, subst, ◌∙◌, ◌⊎◌, inl, inr}
use Rattle.std.specs.Prelude.{◌↔◌}
use Rattle.std.specs.List.{AllByRecursion, Contains}
use Rattle.geo_exact.specs.Position.{Position}
use Rattle.geo_exact.specs.Segment.{HaveCommonLocation, location}
use Rattle.cad_rows.specs.declared.rows.PointRow.{PointRow}
use Rattle.cad_rows.specs.declared.rows.StringRow.{StringRow}
use Rattle.cad_map.specs.Map.{Map, position_of}
use Rattle.cad_map.specs.Valid.{HasSoundRows, IsValid, HaveCommon, MeetAtEnds, LiesOnlyAsEnd, HasNoCrossing}
use Rattle.cad_map.specs.Touched.{Touched, IsTouched, PointStands, StringStands}
use Rattle.cad_map.proofs.CallerLemmas.{All-at_each, All-from_each, EachPair-two}
use Rattle.cad_near.specs.Near.{OfPoint, OfString, IsUncrossed, LiesAtEnds}
use Rattle.cad_near.proofs.RowsByNumber.{pairs-from, point-position, point-there, row-of}

-- strings that meet at ends alone do so in either order
pub meet-turned : (m : Map) (s t : StringRow) → MeetAtEnds m s t → MeetAtEnds m t s
meet-turned m s t meet common =
    let turned : HaveCommon m s t = record { n = common.n; s = common.t; t = common.s; some = common.some; on_first = common.on_second; on_second = common.on_first; same = sym common.same } in
    let shared = meet turned in
    (shared.0, record { of_first = shared.1.of_second; of_second = shared.1.of_first; there = common.same ∙ shared.1.there })

-- segments whose ends stand where others' ends stand have a common location where those have
pub kept-common : {a b c d p q r s : Position} → a ≡ p → b ≡ q → c ≡ r → d ≡ s → HaveCommonLocation a b c d → HaveCommonLocation p q r s
kept-common e f g h common = record {
  n = common.n;
  s = common.s;
  t = common.t;
  some = common.some;
  on_first = common.on_first;
  on_second = common.on_second;
  same = (λ i. location common.n (sym e i) common.s (sym f i)) ∙ common.same ∙ (λ i. location common.n (g i) common.t (h i));
}

module _ (old new : Map) (t : Touched) (valid : IsValid old) (sound : HasSoundRows new) (touched : IsTouched old new t) where
  end-stands : (s : StringRow) → (a : StringStands old new s) → (p : ℕ) → (a.before.from ≡ p) ⊎ (a.before.to ≡ p) → position_of new p ≡ position_of old p
  end-stands s a p (inl e) = subst (λ (q : ℕ). position_of new q ≡ position_of old q) (sym a.from ∙ e) a.from_position
  end-stands s a p (inr e) = subst (λ (q : ℕ). position_of new q ≡ position_of old q) (sym a.to ∙ e) a.to_position

  -- the position of an end, before
  from-before : (s : StringRow) (a : StringStands old new s) → position_of new s.from ≡ position_of old a.before.from
  from-before s a = a.from_position ∙ ap (position_of old) (sym a.from)

  to-before : (s : StringRow) (a : StringStands old new s) → position_of new s.to ≡ position_of old a.before.to
  to-before s a = a.to_position ∙ ap (position_of old) (sym a.to)

  kept-meet : (r s : StringRow) (a : StringStands old new r) (b : StringStands old new s) → MeetAtEnds old a.before b.before → MeetAtEnds new r s
  unfolding kept-common
  kept-meet r s a b meet common =
      let p1 = from-before r a in let p2 = to-before r a in let q1 = from-before s b in let q2 = to-before s b in
      let before : HaveCommon old a.before b.before = kept-common p1 p2 q1 q2 common in
      let shared = meet before in
      let p = shared.0 in
      let at = end-stands r a p shared.1.of_first in (
        p,
        record {
          of_first = named a.from a.to shared.1.of_first;
          of_second = named b.from b.to shared.1.of_second;
          there = (λ i. location common.n (p1 i) common.s (p2 i)) ∙ shared.1.there ∙ (λ i. location common.n (sym at i) 0 (sym at i));
        },
      )
    where
      named : {x y u v p : ℕ} → x ≡ u → y ≡ v → (x ≡ p) ⊎ (y ≡ p) → (u ≡ p) ⊎ (v ≡ p)
      named e f (inl h) = inl (sym e ∙ h)
      named e f (inr h) = inr (sym f ∙ h)

  strings-meet : AllByRecursion (OfString new (IsUncrossed new)) t.strings → (r s : StringRow) → Contains new.strings r → Contains new.strings s → r.number ≢ s.number → MeetAtEnds new r s
  unfolding OfString
  strings-meet tested r s hr hs ne = elim (All-at_each (λ s. Contains t.strings s.number ⊎ StringStands old new s) new.strings r touched.strings hr) [
    | inl named ↦ (All-at_each (OfString new (IsUncrossed new)) t.strings r.number tested named r hr refl).strings s hs (λ e. ne (sym e))
    | inr a ↦ elim (All-at_each (λ s. Contains t.strings s.number ⊎ StringStands old new s) new.strings s touched.strings hs) [
      | inl named ↦ meet-turned new s r ((All-at_each (OfString new (IsUncrossed new)) t.strings s.number tested named s hs refl).strings r hr ne)
      | inr b ↦ kept-meet r s a b (elim (EachPair-two (MeetAtEnds old) old.strings a.before b.before valid.keeps.v4.strings a.there b.there) [
        | inl same ↦ absurd (ne (sym a.number ∙ ap (λ (x : StringRow). x.number) same ∙ b.number))
        | inr two ↦ elim two [ inl forth ↦ forth | inr back ↦ meet-turned old b.before a.before back ]
      ])
    ]
  ]

  kept-lies : (p : PointRow) (s : StringRow) → Contains new.points p → PointStands old new p.number → StringStands old new s → LiesOnlyAsEnd new p s
  kept-lies p s hp a b common =
      let row = row-of old p.number a.there in
      let p1 = from-before s b in let p2 = to-before s b in
      let at : p.position ≡ row.row.position = sym (point-position new sound p hp) ∙ a.position ∙ sym row.position in
      let lies = All-at_each (λ s. LiesOnlyAsEnd old row.row s) old.strings b.before (All-at_each (λ p. AllByRecursion (LiesOnlyAsEnd old p) old.strings) old.points row.row valid.keeps.v4.points row.there) b.there in
      named (lies (kept-common p1 p2 at at common))
    where
      number_is : (row-of old p.number a.there).row.number ≡ p.number
      number_is = (row-of old p.number a.there).number

      named : (b.before.from ≡ (row-of old p.number a.there).row.number) ⊎ (b.before.to ≡ (row-of old p.number a.there).row.number) → (s.from ≡ p.number) ⊎ (s.to ≡ p.number)
      named (inl h) = inl (sym b.from ∙ h ∙ number_is)
      named (inr h) = inr (sym b.to ∙ h ∙ number_is)

  points-lie : AllByRecursion (OfString new (IsUncrossed new)) t.strings → AllByRecursion (OfPoint new (LiesAtEnds new)) t.points → (p : PointRow) (s : StringRow) → Contains new.points p → Contains new.strings s → LiesOnlyAsEnd new p s
  unfolding OfPoint OfString
  points-lie bears lies p s hp hs = elim (touched.points p.number (point-there new sound p hp)) [
    | inl named ↦ All-at_each (OfPoint new (LiesAtEnds new)) t.points p.number lies named p hp refl s hs
    | inr a ↦ elim (All-at_each (λ s. Contains t.strings s.number ⊎ StringStands old new s) new.strings s touched.strings hs) [
      | inl named ↦ (All-at_each (OfString new (IsUncrossed new)) t.strings s.number bears named s hs refl).points p hp
      | inr b ↦ kept-lies p s hp a b
    ]
  ]

  pub near-strings : AllByRecursion (OfString new (IsUncrossed new)) t.strings × AllByRecursion (OfPoint new (LiesAtEnds new)) t.points ↔ HasNoCrossing new
  unfolding OfPoint OfString
  near-strings = (
    (λ tests. record {
      strings = pairs-from (λ (q : StringRow). q.number) (MeetAtEnds new) new.strings sound.strings.distinct (strings-meet tests.0);
      points = All-from_each (λ p. AllByRecursion (LiesOnlyAsEnd new p) new.strings) new.points (λ p hp. All-from_each (LiesOnlyAsEnd new p) new.strings (λ s hs. points-lie tests.0 tests.1 p s hp hs));
    }),
    (λ v4. (
      All-from_each (OfString new (IsUncrossed new)) t.strings (λ n _ s hs is. record {
        strings = λ r hr other. elim (EachPair-two (MeetAtEnds new) new.strings s r v4.strings hs hr) [
          | inl same ↦ absurd (other (ap (λ (x : StringRow). x.number) (sym same)))
          | inr two ↦ elim two [ inl forth ↦ forth | inr back ↦ meet-turned new r s back ]
        ];
        points = λ p hp. lies v4 p s hp hs;
      }),
      All-from_each (OfPoint new (LiesAtEnds new)) t.points (λ n _ p hp is s hs. lies v4 p s hp hs),
    )),
  )
    where
      lies : HasNoCrossing new → (p : PointRow) (s : StringRow) → Contains new.points p → Contains new.strings s → LiesOnlyAsEnd new p s
      lies v4 p s hp hs = All-at_each (LiesOnlyAsEnd new p) new.strings s (All-at_each (λ q. AllByRecursion (LiesOnlyAsEnd new q) new.strings) new.points p v4.points hp) hs

-- Where touched points lie alone, no two points of the map have the same position.
use Rattle.std.proofs.Common.{◌≡◌, ◌≢◌, ℕ, refl, sym, ◌∙◌, not, true, inl, inr}
use Rattle.std.specs.Prelude.{IsTrue, ◌↔◌}
use Rattle.std.specs.List.{AllByRecursion, Contains}
use Rattle.cad_rows.specs.declared.rows.PointRow.{PointRow}
use Rattle.cad_map.specs.Map.{Map, position_of}
use Rattle.cad_map.specs.Valid.{HasSoundRows, HasTwoEnds, IsValid, is_same_position, has_distinct_positions}
use Rattle.cad_map.specs.Crossings.{HasPlacedRows}
use Rattle.cad_map.specs.Touched.{Touched, IsTouched, PointStands}
use Rattle.cad_map.proofs.CallerLemmas.{All-at_each, All-from_each, positions-differ}
use Rattle.cad_near.specs.Near.{OfPoint, IsAlone}
use Rattle.cad_valid.proofs.CallerLemmas.{each_pair-true}
use Rattle.cad_near.proofs.RowsByNumber.{pairs-from, point-position, point-there, other-position}

placed-rows : (m : Map) → IsValid m → HasPlacedRows m
placed-rows m valid = record { v1 = valid.sound.v1; v2 = valid.sound.v2; v3 = valid.keeps.v3 }

module _ (old new : Map) (t : Touched) (valid : IsValid old) (sound : HasSoundRows new) (two : HasTwoEnds new) (touched : IsTouched old new t) where
  -- two points that stand
  stand-apart : (p q : ℕ) → PointStands old new p → PointStands old new q → p ≢ q → ¬ (position_of new p ≡ position_of new q)
  stand-apart p q a b ne same = positions-differ old (placed-rows old valid) p q a.there b.there ne (sym a.position ∙ same ∙ b.position)

  apart : AllByRecursion (OfPoint new (IsAlone new)) t.points → (p q : PointRow) → Contains new.points p → Contains new.points q → p.number ≢ q.number → ¬ (p.position ≡ q.position)
  unfolding OfPoint
  apart alone p q hp hq ne = elim (touched.points p.number (point-there new sound p hp)) [
    | inl named ↦ λ e. All-at_each (OfPoint new (IsAlone new)) t.points p.number alone named p hp refl q hq (λ back. ne (sym back)) (sym e)
    | inr a ↦ elim (touched.points q.number (point-there new sound q hq)) [
      | inl named ↦ All-at_each (OfPoint new (IsAlone new)) t.points q.number alone named q hq refl p hp ne
      | inr b ↦ λ e. stand-apart p.number q.number a b ne (point-position new sound p hp ∙ e ∙ sym (point-position new sound q hq))
    ]
  ]

  pub near-points : AllByRecursion (OfPoint new (IsAlone new)) t.points ↔ IsTrue (has_distinct_positions new)
  unfolding OfPoint
  near-points = (
    (λ alone. each_pair-true (λ (a b : PointRow). not (is_same_position a.position b.position)) new.points
        (pairs-from (λ (q : PointRow). q.number) (λ (a b : PointRow). not (is_same_position a.position b.position) ≡ true) new.points sound.points.distinct
        (λ p q hp hq ne. other-position p.position q.position (apart alone p q hp hq ne)))),
    (λ v3. All-from_each (OfPoint new (IsAlone new)) t.points (λ n _ p hp is q hq other. λ e.
        positions-differ new (record { v1 = sound; v2 = two; v3 = v3 }) q.number p.number (point-there new sound q hq) (point-there new sound p hp) other
        (point-position new sound q hq ∙ e ∙ sym (point-position new sound p hp)))),
  )

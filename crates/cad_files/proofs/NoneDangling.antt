-- In a valid map no string dangles: at each of its ends the ring goes on by another string.
use Rattle.std.proofs.Common.{◌≡◌, ◌≢◌, inl, inr, refl, sym, ap, subst, ◌∙◌, map, Some, None, false, ◌==◌}
use Rattle.std.specs.List.{Contains}
use Rattle.std.proofs.lemmas.Bool.{cases_Bool, ne_eqb}
use Rattle.cad_rows.specs.declared.rows.StringRow.{StringRow}
use Rattle.cad_rings.specs.Cycle.{Side, opposite, Corner}
use Rattle.cad_map.specs.Boundaries.{is_face}
use Rattle.cad_map.specs.Map.{Map, all_sides, all_corners, degree, strings_at, is_end, far_end, left_face, right_face, side_of}
use Rattle.cad_map.specs.Valid.{IsValid}
use Rattle.cad_map.proofs.CallerLemmas.{All-at_each, Contains-filter, Contains-one, find-nothing, map-Contains, is_face-same, both_sides, in_all, joins-end, joins-far_end, two_ends}
use Rattle.cad_files.specs.Building.{map_of, rows_of, plan_string_of, is_dangling, dangling}
use Rattle.cad_files.specs.declared.rows.PlanString.{PlanString}
use Rattle.cad_files.proofs.RingCorners.{corner_of, turns_on}
use Rattle.cad_files.proofs.OneFollower.{before, behind, from_before, to_behind}
use Rattle.cad_files.proofs.MapAgain.{without_rings, left_known, right_known}

module _ (m : Map) (valid : IsValid m) where
  -- the two strings of a corner are at its point, and lead to different points
  two_at : (c : Corner) → Contains (all_corners m) c → (degree m c.at == 1) ≡ false
  two_at c h = ne_eqb (degree m c.at) 1 (λ one.
      let first = before m valid c h in
      let second = behind m valid c h in
      let back = from_before m valid c h in
      let on = to_behind m valid c h in
      let same = Contains-one (strings_at m c.at) first.string second.string one
      (Contains-filter (λ s. is_end s c.at) m.strings first.string first.there (joins-end first.string c.at c.before back.joins))
      (Contains-filter (λ s. is_end s c.at) m.strings second.string second.there (joins-end second.string c.at c.after on.joins)) in
      turns_on m valid c h
      (sym (joins-far_end second.string c.at c.after (two_ends m valid second.string c.at c.after on) on.joins)
      ∙ ap (λ (s : StringRow). far_end s c.at) (sym same)
      ∙ joins-far_end first.string c.at c.before (two_ends m valid first.string c.at c.before back) back.joins))

  -- so the end of each side is on two strings
  two_at_end : (s : Side) → Contains (all_sides m) s → (degree m s.1 == 1) ≡ false
  two_at_end s h =
      let after = corner_of m valid s h in
      subst (λ (t : Side). (degree m t.1 == 1) ≡ false) after.2 (two_at after.0 after.1)

  two_faces : (s : StringRow) → Contains m.strings s → is_face (plan_string_of m s).left (plan_string_of m s).right ≡ false
  two_faces s there = elim (cases_Bool (is_face (plan_string_of m s).left (plan_string_of m s).right)) [
    | inl same ↦ absurd (All-at_each (λ t. left_face m t ≢ right_face m t) m.strings s valid.sound.v5.two_faces there
        (left_known m valid s there ∙ ap Some (is_face-same _ _ same) ∙ sym (right_known m valid s there)))
    | inr apart ↦ apart
  ]

  no_dangling : (s : StringRow) → Contains m.strings s → is_dangling m (plan_string_of m s) ≡ false
  no_dangling s there =
      let sides = both_sides m s there in
      rw (
        ne_eqb s.from s.to (All-at_each (λ t. t.from ≢ t.to) m.strings s valid.sound.v2 there),
        two_faces s there,
        two_at_end (opposite (side_of s)) (in_all m valid (opposite (side_of s)) sides.1),
        two_at_end (side_of s) (in_all m valid (side_of s) sides.0),
      ) refl

  pub none_dangling : dangling (map_of (rows_of m)) (map (plan_string_of m) m.strings) ≡ None
  unfolding dangling
  none_dangling =
      let strings = map (plan_string_of m) m.strings in
      rw (find-nothing (is_dangling (map_of (rows_of m))) strings (λ s h.
      let from = map-Contains (plan_string_of m) m.strings s h in
      ap (λ (n : Map). is_dangling n s) (without_rings m) ∙ subst (λ (t : PlanString). is_dangling m t ≡ false) from.2 (no_dangling from.0 from.1))) refl

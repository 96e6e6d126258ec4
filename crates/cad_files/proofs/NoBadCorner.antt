-- In a valid map each side has a follower of its own.
use Rattle.std.proofs.Common.{◌≡◌, ◌≢◌, ℕ, inl, inr, refl, sym, ap, subst, ◌∙◌, List, [], ◌∷◌, length, map, None, Bool, true, false, not, true≢false, ◌==◌, arith}
use Rattle.std.specs.Prelude.{◌&&◌, ◌||◌, flat_map}
use Rattle.std.specs.List.{Contains, list_any}
use Rattle.std.specs.Str.{bytes_eq as is_same_list}
use Rattle.std.proofs.lemmas.Bool.{cases_Bool, eqb-true}
use Rattle.cad_rows.specs.declared.rows.StringRow.{StringRow}
use Rattle.cad_rings.specs.Cycle.{Side, has_side, opposite, Corner}
use Rattle.cad_map.specs.Map.{Map, all_sides, all_corners, string_sides, side_of}
use Rattle.cad_map.specs.Valid.{EachPair, IsValid}
use Rattle.cad_map.proofs.CallerLemmas.{Contains-cases, Contains-first, Contains-later, All-at_each, side_before, string_sides-once, list_any-none, has_side-Contains, in_all}
use Rattle.cad_files.specs.Follower.{followers, LabelledSide, labelled_sides}
use Rattle.cad_files.specs.Building.{map_of, rows_of, plan_string_of, is_bad_corner, first_bad_corner, bad_corner}
use Rattle.cad_files.proofs.RingCorners.{corner_of, one_before}
use Rattle.cad_files.proofs.OneFollower.{one_follower}
use Rattle.cad_files.proofs.MapAgain.{same_followers}

-- the sides of the plan's strings are those of the map's strings
pub plan_sides : (m : Map) (strings : List StringRow) → map (λ (s : LabelledSide). s.side) (labelled_sides (map (plan_string_of m) strings)) ≡ flat_map (λ s. side_of s ∷ opposite (side_of s) ∷ []) strings
plan_sides m [] = refl
plan_sides m (s ∷ strings) = ap (λ (l : List Side). side_of s ∷ opposite (side_of s) ∷ l) (plan_sides m strings)

same_one : (v w : ℕ) → is_same_list (v ∷ []) (w ∷ []) ≡ true → v ≡ w
same_one v w h = elim (cases_Bool (v == w)) [ inl same ↦ eqb-true v w same | inr apart ↦ absurd (true≢false (sym h ∙ rw apart refl)) ]

no-true : (b : Bool) → (b ≡ true → ⊥) → b ≡ false
no-true true h = absurd (h refl)
no-true false h = refl

and-parts : (a b : Bool) → (a && b) ≡ true → (a ≡ true) × (b ≡ true)
and-parts true b h = (refl, h)
and-parts false b h = absurd (true≢false (sym h))

module _ (m : Map) (valid : IsValid m) where
  -- the follower of a side is what comes after it
  pub follower_of : (s : Side) → Contains (all_sides m) s → (c : Corner) × Contains (all_corners m) c × (side_before c ≡ s) × (followers m s ≡ c.after ∷ [])
  follower_of s h =
      let after = corner_of m valid s h in
      (after.0, after.1, after.2, subst (λ (t : Side). followers m t ≡ after.0.after ∷ []) after.2 (one_follower m valid after.0 after.1))

  -- two sides to one point have different followers
  own_follower : (s t : Side) → Contains (all_sides m) s → Contains (all_sides m) t → s.1 ≡ t.1 → is_same_list (followers m s) (followers m t) ≡ true → s ≡ t
  own_follower s t h k same_end same_list =
      let c = follower_of s h in
      let d = follower_of t k in
      let w = same_one c.0.after d.0.after (sym (λ i. is_same_list (c.3 i) (d.3 i)) ∙ same_list) in
      let at : c.0.at ≡ d.0.at = ap (λ (r : Side). r.1) c.2 ∙ same_end ∙ ap (λ (r : Side). r.1) (sym d.2) in
      sym c.2 ∙ ap side_before (one_before m valid c.0 d.0 c.1 d.1 (λ i. (at i, w i))) ∙ d.2

  -- a side that isn't among earlier ones is none that is bad
  good : (earlier : List Side) (s : Side) → ((t : Side) → Contains earlier t → Contains (all_sides m) t × (t ≢ s)) → Contains (all_sides m) s → is_bad_corner m earlier s ≡ false
  good earlier s before h =
      let new : has_side s earlier ≡ false = no-true (has_side s earlier) (λ found. (before s (has_side-Contains s earlier found)).1 refl) in
      let one : (length (followers m s) == 1) ≡ true = ap (λ (l : List ℕ). length l == 1) (follower_of s h).3 in
      let own : list_any (λ t. (t.1 == s.1) && is_same_list (followers m t) (followers m s)) earlier ≡ false =
      list_any-none (λ t. (t.1 == s.1) && is_same_list (followers m t) (followers m s)) earlier (λ t there.
      no-true _ (λ both.
      let parts = and-parts (t.1 == s.1) (is_same_list (followers m t) (followers m s)) both in
      (before t there).1 (own_follower t s (before t there).0 h (eqb-true t.1 s.1 parts.0) parts.1))) in
      rw (new, one, own) refl

  none_bad : (earlier sides : List Side) → EachPair (λ a b. a ≢ b) sides → ((s : Side) → Contains sides s → Contains (all_sides m) s)
      → ((t s : Side) → Contains earlier t → Contains sides s → Contains (all_sides m) t × (t ≢ s)) → first_bad_corner m earlier sides ≡ None
  none_bad earlier [] once of before = refl
  none_bad earlier (s ∷ sides) once of before =
      rw (good earlier s (λ t h. before t s h (Contains-first s sides)) (of s (Contains-first s sides)))
      (none_bad (s ∷ earlier) sides once.1 (λ t h. of t (Contains-later s sides t h)) next)
    where
      next : (t u : Side) → Contains (s ∷ earlier) t → Contains sides u → Contains (all_sides m) t × (t ≢ u)
      next t u h k = elim (Contains-cases s earlier t h) [
        | inl same ↦ subst (λ (r : Side). Contains (all_sides m) r × (r ≢ u)) same (of s (Contains-first s sides), All-at_each (λ b. s ≢ b) sides u once.0 k)
        | inr later ↦ before t u later (Contains-later s sides u k)
      ]

  pub no_bad_sides : first_bad_corner m [] (string_sides m) ≡ None
  no_bad_sides =
      let sound = valid.sound in
      none_bad [] (string_sides m) (string_sides-once m (record { v1 = sound.v1; v2 = sound.v2; v3 = valid.keeps.v3 }) valid.keeps.v4) (in_all m valid)
      (λ t s h k. let low = h.1 in absurd (omega (arith, low)))

-- the same of the map without rings
same_bad : (m : Map) (earlier : List Side) (s : Side) → is_bad_corner (map_of (rows_of m)) earlier s ≡ is_bad_corner m earlier s
same_bad m earlier s =
    let here = same_followers m s in
    λ i. has_side s earlier || not (length (here i) == 1) || list_any (λ t. (t.1 == s.1) && is_same_list (same_followers m t i) (here i)) earlier

same_first_bad : (m : Map) (earlier sides : List Side) → first_bad_corner (map_of (rows_of m)) earlier sides ≡ first_bad_corner m earlier sides
same_first_bad m earlier [] = refl
same_first_bad m earlier (s ∷ sides) = rw (same_bad m earlier s, same_first_bad m (s ∷ earlier) sides) refl

pub no_bad_corner : (m : Map) → IsValid m → bad_corner (map_of (rows_of m)) (map (plan_string_of m) m.strings) ≡ None
unfolding bad_corner
no_bad_corner m valid = rw (plan_sides m m.strings, same_first_bad m [] (string_sides m)) (no_bad_sides m valid)

-- In a valid map each side has one follower, the point that comes after it in its ring.
use Rattle.std.proofs.Common.{◌≡◌, ◌≢◌, ℕ, ◌⊎◌, inl, inr, refl, sym, ap, subst, ◌∙◌, List, [], ◌∷◌, map, filter, Bool, true, false, not, true≢false, ◌==◌, arith}
use Rattle.std.specs.Prelude.{◌&&◌, ◌||◌}
use Rattle.std.specs.List.{AllByRecursion, Contains, list_all}
use Rattle.std.proofs.lemmas.Bool.{eqb-true, eq-eqb, ne_eqb, cases_Bool}
use Rattle.geo_exact.specs.Sector.{in_sector}
use Rattle.cad_rows.specs.declared.rows.StringRow.{StringRow}
use Rattle.cad_rings.specs.Cycle.{Corner}
use Rattle.cad_map.specs.Map.{Map, all_corners, position_of, is_end, far_end, strings_at}
use Rattle.cad_map.specs.Valid.{IsValid, is_empty_corner}
use Rattle.cad_map.proofs.CallerLemmas.{Contains-cases, Contains-map, All-from_each, All-filter, side_before, side_behind, list_all-at, list_all-from, filter-Contains, Contains-filter, map-Contains, IsSideOf, of_string, IsString, Joins, joins-end, joins-far_end, joins-far, side-joins, two_ends, first_met}
use Rattle.cad_files.specs.Follower.{once_each, may_follow, followers}
use Rattle.cad_files.proofs.RingCorners.{before-in, behind-in_all, turns_on}

-- ---- The one number that passes a test

module _ (test : ℕ → Bool) where
  pub All-once_each : (P : ℕ → Type 0) (ns : List ℕ) → AllByRecursion P ns → AllByRecursion P (once_each ns)
  All-once_each P [] all = tt
  All-once_each P (n ∷ ns) all = (all.0, All-filter P (λ k. not (k == n)) (once_each ns) (All-once_each P ns all.1))

  -- without the one that passes none is left
  none-left : (n : ℕ) (ns : List ℕ) → AllByRecursion (λ k. test k ≡ true → k ≡ n) ns → filter test (filter (λ k. not (k == n)) ns) ≡ []
  none-left n [] all = refl
  none-left n (k ∷ ns) all = by (k == n) (test k) refl refl (none-left n ns all.1)
    where
      by : (b t : Bool) → (k == n) ≡ b → test k ≡ t → filter test (filter (λ k. not (k == n)) ns) ≡ [] → filter test (filter (λ k. not (k == n)) (k ∷ ns)) ≡ []
      by true t is passes rest = rw is rest
      by false true is passes rest = absurd (true≢false (sym (eq-eqb k n (all.0 passes)) ∙ is))
      by false false is passes rest = rw is (rw passes rest)

  -- without one that fails the same are left
  same-left : (n : ℕ) (ns : List ℕ) → test n ≡ false → filter test (filter (λ k. not (k == n)) ns) ≡ filter test ns
  same-left n [] fails = refl
  same-left n (k ∷ ns) fails = by (k == n) (test k) refl refl (same-left n ns fails)
    where
      by : (b t : Bool) → (k == n) ≡ b → test k ≡ t → filter test (filter (λ k. not (k == n)) ns) ≡ filter test ns → filter test (filter (λ k. not (k == n)) (k ∷ ns)) ≡ filter test (k ∷ ns)
      by true true is passes rest = absurd (true≢false (sym passes ∙ ap test (eqb-true k n is) ∙ fails))
      by true false is passes rest = rw (is, passes) rest
      by false true is passes rest = rw is (rw passes (ap (λ (l : List ℕ). k ∷ l) rest))
      by false false is passes rest = rw is (rw passes rest)

  pub only-one : (ns : List ℕ) (w : ℕ) → Contains ns w → test w ≡ true → AllByRecursion (λ k. test k ≡ true → k ≡ w) ns → filter test (once_each ns) ≡ w ∷ []
  only-one [] w h passes all = let low = h.1 in absurd (omega (arith, low))
  only-one (n ∷ ns) w h passes all = by (test n) refl (Contains-cases n ns w h) (λ later. only-one ns w later passes all.1)
    where
      by : (b : Bool) → test n ≡ b → (n ≡ w) ⊎ Contains ns w → (Contains ns w → filter test (once_each ns) ≡ w ∷ []) → filter test (once_each (n ∷ ns)) ≡ w ∷ []
      by true is where_it again =
          let here = all.0 is in
          rw is (λ i. here i ∷ none-left n (once_each ns) (All-once_each (λ k. test k ≡ true → k ≡ n) ns (subst (λ (v : ℕ). AllByRecursion (λ k. test k ≡ true → k ≡ v) ns) (sym here) all.1)) i)
      by false is (inl same) again = absurd (true≢false (sym passes ∙ ap test (sym same) ∙ is))
      by false is (inr later) again = rw is (same-left n (once_each ns) is ∙ again later)

-- ---- Followers

not-false : (b : Bool) → not b ≡ true → b ≡ false
not-false true h = absurd (true≢false (sym h))
not-false false h = refl

module _ (m : Map) (valid : IsValid m) (c : Corner) (h : Contains (all_corners m) c) where
  -- the strings that make the corner
  pub before : IsSideOf (side_before c) m.strings
  before = of_string m valid (side_before c) (before-in m valid c h)

  pub behind : IsSideOf (side_behind c) m.strings
  behind = of_string m valid (side_behind c) (behind-in_all m valid c h)

  pub from_before : IsString m valid before.string c.at c.before
  from_before = record { there = before.there; joins = turned (side-joins (side_before c) m.strings before) }
    where
      turned : Joins before.string c.before c.at → Joins before.string c.at c.before
      turned j = elim j.ends [ inl e ↦ record { ends = inr e } | inr e ↦ record { ends = inl e } ]

  pub to_behind : IsString m valid behind.string c.at c.after
  to_behind = record { there = behind.there; joins = side-joins (side_behind c) m.strings behind }

  among : Contains (strings_at m c.at) behind.string
  among = Contains-filter (λ s. is_end s c.at) m.strings behind.string behind.there (joins-end behind.string c.at c.after to_behind.joins)

  after-is : far_end behind.string c.at ≡ c.after
  after-is = joins-far_end behind.string c.at c.after (two_ends m valid behind.string c.at c.after to_behind) to_behind.joins

  -- k lies in the sector from w to the point before the corner
  abbrev lies_in : ℕ → ℕ → Bool
  lies_in w k = in_sector (position_of m c.at) (position_of m w) (position_of m c.before) (position_of m k)

  -- no string at the corner but that to w lies in the sector from w
  abbrev is_clear_from : ℕ → StringRow → Bool
  is_clear_from w s = (far_end s c.at == w) || not (lies_in w (far_end s c.at))

  -- no string lies in the sector of the corner
  clear : (t : StringRow) → Contains (strings_at m c.at) t → lies_in c.after (far_end t c.at) ≡ false
  clear t there =
      let empty = list_all-at (is_empty_corner m) (all_corners m) c valid.keeps.v6 h in
      not-false _ (list_all-at (λ s. not (lies_in c.after (far_end s c.at))) (strings_at m c.at) t empty there)

  -- the point after the corner may follow
  may : may_follow m (side_before c) c.after ≡ true
  may = rw (ne_eqb c.after c.before (turns_on m valid c h)) (list_all-from (is_clear_from c.after) (strings_at m c.at) (λ t there. rw (clear t there) (either (far_end t c.at == c.after))))
    where
      either : (b : Bool) → (b || true) ≡ true
      either true = refl
      either false = refl

  -- and no other point
  other : (t : StringRow) → Contains (strings_at m c.at) t → may_follow m (side_before c) (far_end t c.at) ≡ true → far_end t c.at ≡ c.after
  other t there passes = elim (cases_Bool (far_end t c.at == c.after)) [
    | inl same ↦ eqb-true (far_end t c.at) c.after same
    | inr apart ↦ absurd (refused (λ e. true≢false (sym (eq-eqb (far_end t c.at) c.after e) ∙ apart)))
  ]
    where
      w : ℕ
      w = far_end t c.at

      at : Contains m.strings t × (is_end t c.at ≡ true)
      at = filter-Contains (λ s. is_end s c.at) m.strings t there

      to_other : IsString m valid t c.at w
      to_other = record { there = at.0; joins = joins-far t c.at at.1 }

      tests : list_all (is_clear_from w) (strings_at m c.at) ≡ true
      tests = go (w == c.before) passes
        where
          go : (b : Bool) → (not b && list_all (is_clear_from w) (strings_at m c.at)) ≡ true → list_all (is_clear_from w) (strings_at m c.at) ≡ true
          go true k = absurd (true≢false (sym k))
          go false k = k

      not_back : w ≢ c.before
      not_back e = true≢false (sym passes ∙ rw (eq-eqb w c.before e) refl)

      -- since the string to the point after the corner lies in the sector from the other
      refused : w ≢ c.after → ⊥
      refused apart =
          let here = list_all-at (is_clear_from w) (strings_at m c.at) behind.string tests among in
          let met = first_met m valid behind.string before.string t c.at c.after c.before w to_behind from_before to_other (turns_on m valid c h) (λ e. apart (sym e)) not_back in
          let inside : not (lies_in w c.after) ≡ false = sym met ∙ clear t there in
          let said : ((c.after == w) || not (lies_in w c.after)) ≡ true = rw after-is at here in
          true≢false (sym said ∙ rw (ne_eqb c.after w (λ e. apart (sym e)), inside) refl)

  -- so it is the one follower
  pub one_follower : followers m (side_before c) ≡ c.after ∷ []
  unfolding followers
  one_follower =
      only-one (may_follow m (side_before c)) (map (λ t. far_end t c.at) (strings_at m c.at)) c.after
      (subst (Contains (map (λ t. far_end t c.at) (strings_at m c.at))) after-is (Contains-map (λ t. far_end t c.at) (strings_at m c.at) behind.string among)) may
      (All-from_each (λ k. may_follow m (side_before c) k ≡ true → k ≡ c.after) (map (λ t. far_end t c.at) (strings_at m c.at))
      (λ k there passes.
      let from = map-Contains (λ t. far_end t c.at) (strings_at m c.at) k there in
      sym from.2 ∙ other from.0 from.1 (subst (λ (w : ℕ). may_follow m (side_before c) w ≡ true) (sym from.2) passes)))

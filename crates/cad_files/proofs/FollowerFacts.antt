-- The followers of a side, as the spokes at its end tell them.
use Rattle.std.proofs.Common.{◌≡◌, ◌⊎◌, inl, inr, ◌∙◌, sym, ap, refl, subst, ℕ, ◌==◌, List, [], ◌∷◌, length, map, filter, Bool, true, false, not, true≢false, arith}
use Rattle.std.specs.Prelude.{◌&&◌, ◌||◌, IfSome, IfNone, Option, Some, None}
use Rattle.std.specs.List.{AllByRecursion, Contains, list_all}
use Rattle.std.proofs.lemmas.Bool.{ne_eqb, eqb-true, eq-eqb}
use Rattle.std.proofs.lemmas.List.Folds.{list_all-map}
use Rattle.geo_exact.specs.Position.{Position}
use Rattle.geo_exact.specs.Sector.{in_sector}
use Rattle.cad_rings.specs.Cycle.{Side}
use Rattle.cad_map.specs.Map.{Map, far_end, strings_at, position_of}
use Rattle.cad_map.proofs.CallerLemmas.{All-filter, All-follows, All-at_each, All-from_each, Contains-map, Contains-first, Contains-later, Contains-cases, list_all-same, Contains-filter, filter-Contains, Contains-one, map-Contains, IsSpoke, IsSpoke-all, far-star}
use Rattle.cad_files.specs.Follower.{once_each, followers}
use Rattle.cad_files.specs.Follower.{may_follow as may_follow_in}
use Rattle.cad_files.specs.Arrival.{leaves_open, may_follow_there, IsOnly, HasNone, HasTwo, IsPlacedSpoke, arrival_of}
use Rattle.cad_map.specs.Stars.{star, spokes_of}
use Rattle.cad_files.specs.declared.followers.Arrival.{Arrival}
use Rattle.cad_map.specs.declared.stars.Spoke.{Spoke}
use Rattle.cad_files.proofs.OneFollower.{only-one, All-once_each}

Contains-once_each : (ns : List ℕ) (w : ℕ) → Contains ns w → Contains (once_each ns) w
Contains-once_each [] w there = there
Contains-once_each (n ∷ ns) w there = by (n == w) refl (Contains-cases n ns w there) (λ later. Contains-once_each ns w later)
  where
    by : (b : Bool) → (n == w) ≡ b → (n ≡ w) ⊎ Contains ns w → (Contains ns w → Contains (once_each ns) w) → Contains (once_each (n ∷ ns)) w
    by b is (inl same) again = subst (λ (k : ℕ). Contains (once_each (n ∷ ns)) k) same (Contains-first n (filter (λ k. not (k == n)) (once_each ns)))
    by true is (inr later) again = subst (λ (k : ℕ). Contains (once_each (n ∷ ns)) k) (eqb-true n w is) (Contains-first n (filter (λ k. not (k == n)) (once_each ns)))
    by false is (inr later) again =
        Contains-later n (filter (λ k. not (k == n)) (once_each ns)) w
        (Contains-filter (λ k. not (k == n)) (once_each ns) w (again later) (ap not (ne_eqb w n (λ same. true≢false (sym (eq-eqb n w (sym same)) ∙ is)))))

-- ---- Tests by spokes are those by strings

module _ (m : Map) (s : Side) (ends : List Spoke) (far : map (λ e. e.far) ends ≡ map (λ t. far_end t s.1) (strings_at m s.1)) (seen : AllByRecursion (λ e. e.position ≡ position_of m e.far) ends) where
  -- an end leaves a point open
  abbrev opens : ℕ → ℕ → Bool
  opens w k = (k == w) || not (in_sector (position_of m s.1) (position_of m w) (position_of m s.0) (position_of m k))

  same_test : (w : Spoke) → Contains ends w → may_follow_there (arrival_of m s.0 s.1) ends w ≡ may_follow_in m s w.far
  same_test w there =
      let here : w.position ≡ position_of m w.far = All-at_each (λ e. e.position ≡ position_of m e.far) ends w seen there in
      let each : list_all (leaves_open (arrival_of m s.0 s.1) w) ends ≡ list_all (λ e. opens w.far e.far) ends =
      list_all-same (leaves_open (arrival_of m s.0 s.1) w) (λ e. opens w.far e.far) ends (λ e among.
      λ i. (e.far == w.far) || not (in_sector (position_of m s.1) (here i) (position_of m s.0) (All-at_each (λ e. e.position ≡ position_of m e.far) ends e seen among i))) in
      let all : list_all (λ e. opens w.far e.far) ends ≡ list_all (λ t. opens w.far (far_end t s.1)) (strings_at m s.1) =
      sym (list_all-map (opens w.far) (λ (e : Spoke). e.far) ends) ∙ ap (list_all (opens w.far)) far ∙ list_all-map (opens w.far) (λ t. far_end t s.1) (strings_at m s.1) in
      ap (λ (b : Bool). not (w.far == s.0) && b) (each ∙ all)

  abbrev points : List ℕ
  points = map (λ t. far_end t s.1) (strings_at m s.1)

  among-points : (e : Spoke) → Contains ends e → Contains points e.far
  among-points e there = subst (λ (l : List ℕ). Contains l e.far) far (Contains-map (λ (e : Spoke). e.far) ends e there)

  -- what is so of each spoke is so of each point
  each-point : (P : ℕ → Type 0) → ((e : Spoke) → Contains ends e → P e.far) → AllByRecursion P points
  each-point P so = All-from_each P points (λ k there.
      let e = map-Contains (λ (e : Spoke). e.far) ends k (subst (λ (l : List ℕ). Contains l k) (sym far) there) in
      subst P e.2 (so e.0 e.1))

  -- the one spoke that may follow leads to the one follower
  pub only-follower : (w : Spoke) → IsOnly (arrival_of m s.0 s.1) ends ends w → followers m s ≡ w.far ∷ []
  unfolding followers
  only-follower w only =
      only-one (may_follow_in m s) points w.far (among-points w only.among) (sym (same_test w only.among) ∙ only.follows)
      (each-point (λ k. may_follow_in m s k ≡ true → k ≡ w.far) (λ e there follows. All-at_each (λ e. may_follow_there (arrival_of m s.0 s.1) ends e ≡ true → e.far ≡ w.far) ends e only.only there (same_test e there ∙ follows)))

  follows-in : (e : Spoke) → Contains ends e → may_follow_there (arrival_of m s.0 s.1) ends e ≡ true → Contains (followers m s) e.far
  unfolding followers
  follows-in e there follows = Contains-filter (may_follow_in m s) (once_each points) e.far (Contains-once_each points e.far (among-points e there)) (sym (same_test e there) ∙ follows)

  none-follows : HasNone (arrival_of m s.0 s.1) ends ends → (k : ℕ) → Contains (followers m s) k → ⊥
  unfolding followers
  none-follows none k there =
      let parts = filter-Contains (may_follow_in m s) (once_each points) k there in
      let fails = All-at_each (λ k. may_follow_in m s k ≡ false) (once_each points) k
      (All-once_each (may_follow_in m s) (λ k. may_follow_in m s k ≡ false) points (each-point (λ k. may_follow_in m s k ≡ false) (λ e among. sym (same_test e among) ∙ All-at_each (λ e. may_follow_there (arrival_of m s.0 s.1) ends e ≡ false) ends e none among))) parts.0 in
      true≢false (sym parts.1 ∙ fails)

  -- where none may follow, or two that lead to different points, there isn't just one follower
  pub not-one : HasNone (arrival_of m s.0 s.1) ends ends ⊎ HasTwo (arrival_of m s.0 s.1) ends → (length (followers m s) == 1) ≡ false
  not-one (inl none) = ne_eqb (length (followers m s)) 1 (λ one. by (followers m s) one (none-follows none))
    where
      by : (ks : List ℕ) → length ks ≡ 1 → ((k : ℕ) → Contains ks k → ⊥) → ⊥
      by [] one nobody = absurd (omega (arith, one))
      by (k ∷ ks) one empty = empty k (Contains-first k ks)
  not-one (inr two) = ne_eqb (length (followers m s)) 1 (λ one.
      two.apart (Contains-one (followers m s) two.first.far two.second.far one (follows-in two.first two.first_among two.first_follows) (follows-in two.second two.second_among two.second_follows)))

-- ---- What the stars of a map tell

-- a spoke has the position of its far end
pub star-seen : (m : Map) (p : ℕ) → AllByRecursion (IsPlacedSpoke m) (star p (spokes_of m))
star-seen m p =
    All-filter (IsPlacedSpoke m) (λ e. e.at == p) (spokes_of m)
    (All-follows (IsSpoke m) (IsPlacedSpoke m) (λ e is. is.position) (spokes_of m) (IsSpoke-all m))

-- the spoke that alone may follow, seen from the side's own ends, leads to the one follower
pub told-sole : (m : Map) (from at : ℕ) (w : Spoke) → IsOnly (arrival_of m from at) (star at (spokes_of m)) (star at (spokes_of m)) w → followers m (from, at) ≡ w.far ∷ []
told-sole m from at w only = only-follower m (from, at) (star at (spokes_of m)) (far-star m at) (star-seen m at) w only

module _ (m : Map) (from at : ℕ) (back here : Position) (ends : List Spoke) (is_back : back ≡ position_of m from) (is_here : here ≡ position_of m at) (are : ends ≡ star at (spokes_of m)) where
  abbrev seen_from : Arrival
  seen_from = record { from = from; back = back; at = here }

  pub told-one : (w : Spoke) → IsOnly seen_from ends ends w → followers m (from, at) ≡ w.far ∷ []
  told-one w only =
      only-follower m (from, at) (star at (spokes_of m)) (far-star m at) (star-seen m at) w
      (subst (λ (a : Position × Position × List Spoke). IsOnly (record { from = from; back = a.0; at = a.1 }) a.2 a.2 w) (λ i. (is_back i, is_here i, are i)) only)

  pub told-not_one : HasNone seen_from ends ends ⊎ HasTwo seen_from ends → (length (followers m (from, at)) == 1) ≡ false
  told-not_one none =
      not-one m (from, at) (star at (spokes_of m)) (far-star m at) (star-seen m at)
      (subst (λ (a : Position × Position × List Spoke). HasNone (record { from = from; back = a.0; at = a.1 }) a.2 a.2 ⊎ HasTwo (record { from = from; back = a.0; at = a.1 }) a.2) (λ i. (is_back i, is_here i, are i)) none)

  pub told-either : (o : Option Spoke) → IfSome o (IsOnly seen_from ends ends) → IfSome o (λ w. followers m (from, at) ≡ w.far ∷ [])
  told-either None h = tt
  told-either (Some w) h = told-one w h

  pub told-none : (o : Option Spoke) → IfNone o (HasNone seen_from ends ends ⊎ HasTwo seen_from ends) → IfNone o ((length (followers m (from, at)) == 1) ≡ false)
  told-none None h = told-not_one h
  told-none (Some w) h = tt

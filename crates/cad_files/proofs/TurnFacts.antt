-- Of spokes that a turn about their point meets one after another the one before a side's own leads to its follower.
use Rattle.std.proofs.Common.{◌≡◌, inl, inr, ◌∙◌, sym, ap, subst, refl, ℕ, ◌<◌, ◌≤◌, ◌==◌, List, Option, Some, length, get_or, Bool, true, false, cond, nat_eq, not, arith}
use Rattle.std.specs.Prelude.{◌||◌, IfSome}
use Rattle.std.specs.List.{Contains}
use Rattle.std.specs.List.Sorted.{IsPermutation}
use Rattle.std.specs.Map.{lookup}
use Rattle.std.proofs.lemmas.Bool.{cases_lt, eq-eqb, ne_eqb}
use Rattle.std.proofs.lemmas.List.{get_or_default}
use Rattle.std.proofs.lemmas.List.Sorted.{Contains-permutation, IsPermutation-sym}
use Rattle.geo_exact.specs.Position.{Position}
use Rattle.geo_exact.specs.Sector.{in_sector}
use Rattle.geo_exact.proofs.CallerLemmas.{in_sector-last_border}
use Rattle.cad_map.specs.Map.{Map, position_of}
use Rattle.cad_map.specs.Stars.{star, spokes_of}
use Rattle.cad_map.specs.Turn.{AreMetInTurn}
use Rattle.cad_map.specs.declared.stars.Spoke.{Spoke}
use Rattle.cad_map.proofs.CallerLemmas.{All-at_each, list_all-from}
use Rattle.cad_valid.proofs.TurnNeighbours.{Beside, IsPlaceBefore, ends-apart, beside}
use Rattle.cad_valid.proofs.TurnNeighbours.Beside.{before_it, itself, elsewhere}
use Rattle.cad_files.specs.declared.followers.Arrival.{Arrival}
use Rattle.cad_files.specs.Arrival.{leaves_open, is_barred, may_follow_there, IsPlacedSpoke, IsOnly}
use Rattle.cad_files.specs.Turns.{IsSoleSpoke, place_before}
use Rattle.cad_files.proofs.FollowerFacts.{star-seen}
use Rattle.cad_files.proofs.SoleFollower.{sole}

-- the place before one stands before it
place_before-is : (u count : ℕ) → IsPlaceBefore (place_before u count) u count
place_before-is u count = elim (cases_lt 0 u) [
  | inl some ↦ let is : (u == 0) ≡ false = ne_eqb u 0 (omega arith) in inl (omega arith, rw is refl)
  | inr none ↦ let is : u ≡ 0 = omega arith in inr (is, rw is refl)
]

second-true : (b c : Bool) → c ≡ true → (b || c) ≡ true
second-true true c h = refl
second-true false c h = h

first-true : (b c : Bool) → b ≡ true → (b || c) ≡ true
first-true b c h = rw h refl

module _ (v : Position) (w u x : Spoke) where
  abbrev along : Arrival
  along = record { from = u.far; back = u.position; at = v }

  beside-open : Beside v w u x → leaves_open along w x ≡ true
  beside-open (before_it e) = first-true (x.far == w.far) (not (in_sector v w.position u.position x.position)) (eq-eqb x.far w.far (ap (λ (s : Spoke). s.far) e))
  beside-open (itself e) =
      second-true (x.far == w.far) (not (in_sector v w.position u.position x.position))
      (ap (λ (s : Spoke). not (in_sector v w.position u.position s.position)) e ∙ ap not (in_sector-last_border v w.position u.position))
  beside-open (elsewhere b) = second-true (x.far == w.far) (not (in_sector v w.position u.position x.position)) (ap not b.outside)

  beside-barred : Beside v w u x → is_barred along w x ≡ true
  beside-barred (before_it e) = first-true (x.far == w.far) ((x.far == u.far) || in_sector v x.position u.position w.position) (eq-eqb x.far w.far (ap (λ (s : Spoke). s.far) e))
  beside-barred (itself e) =
      second-true (x.far == w.far) ((x.far == u.far) || in_sector v x.position u.position w.position)
      (first-true (x.far == u.far) (in_sector v x.position u.position w.position) (eq-eqb x.far u.far (ap (λ (s : Spoke). s.far) e)))
  beside-barred (elsewhere b) =
      second-true (x.far == w.far) ((x.far == u.far) || in_sector v x.position u.position w.position) (second-true (x.far == u.far) (in_sector v x.position u.position w.position) b.inside)

module _ (m : Map) (p : ℕ) (order : List Spoke) (moved : IsPermutation (star p (spokes_of m)) order) (met : AreMetInTurn (position_of m p) order) (many : 2 ≤ length order) where
  abbrev ends : List Spoke
  ends = star p (spokes_of m)

  there : (k : ℕ) (d : Spoke) → k < length order → Contains ends (get_or order k d)
  there k d within = Contains-permutation order ends (get_or order k d) (IsPermutation-sym ends order moved) (k, within, get_or_default order k (get_or order k d) d within)

  placed : (x : Spoke) → Contains ends x → x.position ≡ position_of m x.far
  placed x among = All-at_each (IsPlacedSpoke m) ends x (star-seen m p) among

  pub turn-sole : (i : ℕ) (d : Spoke) → i < length order → IsSoleSpoke m (get_or order i d).far p (get_or order (place_before i (length order)) d)
  turn-sole i d within =
      let n = length order in
      let v = position_of m p in
      let u = get_or order i d in
      let before = place_before-is i n in
      let at_p : place_before i n < n = elim before [ inl here ↦ let is = here.1 in omega arith | inr here ↦ let is = here.1 in omega arith ] in
      let w = get_or order (place_before i n) d in
      let w_there = there (place_before i n) d at_p in
      let u_there = there i d within in
      let each : (x : Spoke) → Contains ends x → Beside v w u x = λ x among.
      let found = Contains-permutation ends order x moved among in
      let is : get_or order found.0 d ≡ x = get_or_default order found.0 d x found.1 ∙ found.2 in
      subst (λ (s : Spoke). Beside v w u s) is (beside v order met d i (place_before i n) many within before found.0 found.1) in
      let other : ¬ (w.far ≡ u.far) = λ same. ends-apart v order met d i (place_before i n) many within before
      (placed w w_there ∙ ap (position_of m) same ∙ sym (placed u u_there)) in
      let follows : may_follow_there (along v w u w) ends w ≡ true =
      rw (ne_eqb w.far u.far other) (list_all-from (leaves_open (along v w u w) w) ends (λ x among. beside-open v w u x (each x among))) in
      let barred = list_all-from (is_barred (along v w u w) w) ends (λ x among. beside-barred v w u x (each x among)) in
      subst (λ (q : Position). IsOnly (record { from = u.far; back = q; at = v }) ends ends w) (placed u u_there)
      (sole (along v w u w) ends w w_there follows barred)

-- what holds of each item that is found, and of one that is put under a key
pub inserted-each : {X : Type 0} (P : X → Type 0) (key : ℕ) (item : X) (old new : List (ℕ × X)) → ((q : ℕ) → lookup (nat_eq q) new ≡ cond (nat_eq key q) (Some item) (lookup (nat_eq q) old))
    → ((k : ℕ) → IfSome (lookup (nat_eq k) old) P) → P item → (k : ℕ) → IfSome (lookup (nat_eq k) new) P
inserted-each {X} P key item old new put each holds k = subst (λ (o : Option X). IfSome o P) (sym (put k)) (by (nat_eq key k))
  where
    by : (b : Bool) → IfSome (cond b (Some item) (lookup (nat_eq k) old)) P
    by true = holds
    by false = each k

-- What a test of all of a list's elements tells, and a test of all that a grid has near.
use Rattle.std.proofs.Common.{◌≡◌, ◌≢◌, ◌==◌, eqb-true, ◌∙◌, ℕ, ◌<◌, refl, sym, subst, List, [], ◌∷◌, length, Bool, true, false, true≢false, arith}
use Rattle.std.proofs.lemmas.List.Elements.{Contains-get_or}
use Rattle.std.proofs.lemmas.Bool.{iff_false}
use Rattle.std.specs.Bool.{MatchBool}
use Rattle.std.specs.Prelude.{◌↔◌, IsTrue, ◌||◌}
use Rattle.std.specs.List.{AllByRecursion, AllWithin, HoldsAt, Contains}
use Rattle.geo_exact.specs.Position.{Position}
use Rattle.geo_exact.specs.SignTest.{boxes_overlap}
use Rattle.cad_rows.specs.declared.rows.PointRow.{PointRow}
use Rattle.cad_rows.specs.declared.rows.StringRow.{StringRow}
use Rattle.cad_map.specs.Map.{Map, position_of}
use Rattle.cad_map.proofs.CallerLemmas.{All-at_each, All-from_each}
use Rattle.cell_grid.specs.declared.entry.HeldString.{HeldString}
use Rattle.cell_grid.specs.declared.entry.HeldPoint.{HeldPoint}
use Rattle.cad_near.specs.declared.seen.Reach.{Reach}
use Rattle.cad_near.specs.Near.{OfPoint, OfString}
use Rattle.cad_near.proofs.RowsByNumber.{OfRow}

-- all passed, or one didn't
abbrev pub HavePassed : {X : Type 0} → (X → Type 0) → List X → Bool → Type 0
HavePassed P xs b = MatchBool b (AllWithin P xs 0 (length xs)) ((k : ℕ) × (k < length xs) × HoldsAt (λ x. ¬ P x) xs k)

module _ {X : Type 0} (P : X → Type 0) where
  fails : (xs : List X) (k : ℕ) → k < length xs → HoldsAt (λ x. ¬ P x) xs k → ¬ ((x : X) → Contains xs x → P x)
  fails [] k low not_one each = absurd (omega (arith, low))
  fails (x ∷ xs) k low not_one each = not_one x (each _ (Contains-get_or (x ∷ xs) k x low))

  pub passed-each : (xs : List X) (b : Bool) → HavePassed P xs b → IsTrue b ↔ ((x : X) → Contains xs x → P x)
  passed-each xs true all = ((λ t x h. subst P h.2 (all h.0 x (omega arith) h.1)), (λ each. refl))
  passed-each xs false one = ((λ t. absurd (true≢false (sym t))), (λ each. absurd (fails xs one.0 one.1 one.2 each)))

  pub passed-all : (xs : List X) (b : Bool) → HavePassed P xs b → IsTrue b ↔ AllByRecursion P xs
  passed-all xs b passed =
      let is = passed-each xs b passed in
      ((λ t. All-from_each P xs (is.0 t)), (λ all. is.1 (λ x h. All-at_each P xs x all h)))

-- what each passed, where all did, whatever a failure tells
pub passed-where_true : {X : Type 0} (P N : X → Type 0) (xs : List X) (b : Bool)
    → MatchBool b (AllWithin P xs 0 (length xs)) ((k : ℕ) × (k < length xs) × HoldsAt N xs k) → IsTrue b → (x : X) → Contains xs x → P x
passed-where_true P N xs true all t x h = subst P h.2 (all h.0 x (omega arith) h.1)
passed-where_true P N xs false one t x h = absurd (true≢false (sym t))

-- by whether a position lies in a box
pub by_box : {G : Type 0} (reach : Reach) (q : Position) → (boxes_overlap reach.low reach.high q q ≡ true → G) → (boxes_overlap reach.low reach.high q q ≡ false → G) → G
by_box {G} reach q near far = by (boxes_overlap reach.low reach.high q q) refl
  where
    by : (b : Bool) → boxes_overlap reach.low reach.high q q ≡ b → G
    by true is = near is
    by false is = far is

-- of two tests the second holds where the first fails
pub second-of : {k n : ℕ} {c : Bool} → k ≢ n → ((k == n) || c) ≡ true → c ≡ true
second-of {k = k} {n = n} {c = c} other either = by (k == n) refl either
  where
    by : (t : Bool) → (k == n) ≡ t → (t || c) ≡ true → c ≡ true
    by true is either = absurd (other (eqb-true k n is))
    by false is either = either

-- Points of which each is this one or passed a test.
module _ (p : ℕ) (test : HeldPoint → Bool) (given : List HeldPoint) (b : Bool) (passed : HavePassed (λ h. IsTrue ((h.point == p) || test h)) given b) (t : IsTrue b) where
  -- another one of them passed it
  pub passed-other : (h : HeldPoint) → h.point ≢ p → Contains given h → test h ≡ true
  passed-other h other there = second-of other ((passed-each (λ h. IsTrue ((h.point == p) || test h)) given b passed).0 t h there)

  -- and each other one does, where those in a box are among them and those outside pass
  pub passed-around : (reach : Reach) (n : ℕ) (q : Position) → (boxes_overlap reach.low reach.high q q ≡ true → Contains given (record { point = n; position = q })) → n ≢ p
      → (boxes_overlap reach.low reach.high q q ≡ false → test (record { point = n; position = q }) ≡ true) → test (record { point = n; position = q }) ≡ true
  passed-around reach n q there other far = by_box reach q (λ over. passed-other (record { point = n; position = q }) other (there over)) far

-- Of rows with numbers those are near whose numbers are given, and those that aren't near pass.
module _ {R : Type 0} (number : R → ℕ) (rows : List R) (P Near : R → Type 0) where
  passed-near : {X : Type 0} (key : X → ℕ) (given : List X) (b : Bool) → HavePassed (λ x. OfRow number rows P (key x)) given b
      → ((r : R) → Contains rows r → Near r → (x : X) × Contains given x × (key x ≡ number r)) → ((r : R) → (Near r → P r) → P r)
      → IsTrue b ↔ ((r : R) → Contains rows r → P r)
  passed-near key given b passed all far =
      let is = passed-each (λ x. OfRow number rows P (key x)) given b passed in (
        (λ t r h. far r (λ near. let g = all r h near in is.0 t g.0 g.1 r h (sym g.2))),
        (λ each. is.1 (λ x _ r h _. each r h)),
      )

module _ (m : Map) where
  pub passed-points : (P Near : PointRow → Type 0) (given : List HeldPoint) (b : Bool) → HavePassed (λ h. OfPoint m P h.point) given b
      → ((p : PointRow) → Contains m.points p → Near p → Contains given (record { point = p.number; position = p.position })) → ((p : PointRow) → (Near p → P p) → P p)
      → IsTrue b ↔ ((p : PointRow) → Contains m.points p → P p)
  unfolding OfPoint
  passed-points P Near given b passed all far =
      passed-near (λ (p : PointRow). p.number) m.points P Near (λ (h : HeldPoint). h.point) given b passed
      (λ p h near. (record { point = p.number; position = p.position }, all p h near, refl)) far

  pub passed-strings : (P Near : StringRow → Type 0) (given : List HeldString) (b : Bool) → HavePassed (λ h. OfString m P h.string) given b
      → ((s : StringRow) → Contains m.strings s → Near s → Contains given (record { string = s.number; from = position_of m s.from; to = position_of m s.to }))
      → ((s : StringRow) → (Near s → P s) → P s)
      → IsTrue b ↔ ((s : StringRow) → Contains m.strings s → P s)
  unfolding OfString
  passed-strings P Near given b passed all far =
      passed-near (λ (s : StringRow). s.number) m.strings P Near (λ (h : HeldString). h.string) given b passed
      (λ s h near. (record { string = s.number; from = position_of m s.from; to = position_of m s.to }, all s h near, refl)) far

-- Two tests of the two halves of a statement, of which the second is made where the first passes.
module _ {P Q R : Type 0} (halves : P × Q ↔ R) (a : Bool) (first : IsTrue a ↔ P) where
  pub second-decides : (b : Bool) → IsTrue b ↔ Q → a ≡ true → IsTrue b ↔ R
  second-decides b second passed = ((λ t. halves.0 (first.0 passed, second.0 t)), (λ r. second.1 (halves.1 r).1))

  pub first-decides : a ≡ false → IsTrue a ↔ R
  first-decides failed = ((λ t. absurd (true≢false (sym t ∙ failed))), (λ r. absurd (iff_false first failed (halves.1 r).0)))

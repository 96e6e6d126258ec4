-- Where all gathered points are ends of gathered strings, a string that is seen to meet these only at ends bears no gathered point.
use Rattle.std.proofs.Common.{◌≡◌, ℤ, pos, ◌+ℤ◌, ◌-ℤ◌, ◌*ℤ◌, List, [], ◌∷◌, Bool, true, false, not, refl, sym, subst, ◌∙◌, true≢false, arith, if◌then◌else◌, inl, inr}
use Rattle.std.proofs.lemmas.Bool.{and_parts, and_from, or_cases, or_left, or_right}
use Rattle.std.specs.Prelude.{◌||◌, ◌==◌}
use Rattle.std.specs.List.{list_all, list_any}
use Rattle.geo_exact.specs.Position.{Position}
use Rattle.geo_exact.specs.Segment.{HaveCommonLocation, IsOnSegment}
use Rattle.geo_exact.specs.SignTest.{boxes_overlap}
use Rattle.geo_exact.proofs.CallerLemmas.{HaveCommonLocation-first_turned, boxes_overlap-HaveCommonLocation}
use Rattle.geo_exact.proofs.Toolbox.{by_parts, var, num, ◌⊞◌, ◌⊟◌, ◌⊠◌}
use Rattle.cad_map.specs.Valid.{is_same_position}
use Rattle.cad_map.proofs.CallerLemmas.{list_all-at, list_all-from}
use Rattle.cad_valid.specs.Placed.{have_common}
use Rattle.cad_valid.proofs.CallerLemmas.{have_common-is, not-iff, same_position}
use Rattle.cad_near.specs.declared.seen.Lying.{Lying}
use Rattle.cad_near.specs.declared.seen.Seen.{Seen}
use Rattle.cad_near.specs.Seen.{starts_alone, meets_by_sight, lies_by_sight, lies_alike, is_itself, is_met_by_sight, is_clear_of, is_clear_string, ends_at, are_at_ends}

module _ (p a b : Position) where
  -- a position lies by sight on a segment that it is an end of
  by-first : is_same_position p a ≡ true → lies_by_sight p a b ≡ true
  by-first same = or_left (is_same_position p a || is_same_position p b) _ (or_left _ (is_same_position p b) same)

  by-last : is_same_position p b ≡ true → lies_by_sight p a b ≡ true
  by-last same = or_left (is_same_position p a || is_same_position p b) _ (or_right (is_same_position p a) _ same)

  -- and where it isn't on it
  by-off : ¬ IsOnSegment a b p → lies_by_sight p a b ≡ true
  by-off off = or_right (is_same_position p a || is_same_position p b) _ ((not-iff _ _ (have_common-is a b p p)).1 off)

-- an end that lies on the other segment is a location that both have
first-common : (a b c d : Position) → IsOnSegment c d a → HaveCommonLocation a b c d
first-common a b c d on =
    record {
      n = on.n;
      s = 0;
      t = on.s;
      some = on.some;
      on_first = omega arith;
      on_second = on.on_first;
      same = (λ i. record { x = stays (pos on.n) (pos on.t) a.x b.x i; y = stays (pos on.n) (pos on.t) a.y b.y i }) ∙ sym on.same;
    }
  where
    stays : (n t x y : ℤ) → n *ℤ x +ℤ pos 0 *ℤ (y -ℤ x) ≡ n *ℤ x +ℤ t *ℤ (x -ℤ x)
    stays n t x y = by_parts (n ∷ x ∷ y ∷ t ∷ []) (var 0 ⊠ var 1 ⊞ num (pos 0) ⊠ (var 2 ⊟ var 1)) (var 0 ⊠ var 1 ⊞ var 3 ⊠ (var 1 ⊟ var 1)) (omega arith)

last-common : (a b c d : Position) → IsOnSegment c d b → HaveCommonLocation a b c d
last-common a b c d on = HaveCommonLocation-first_turned a b c d (first-common b a c d on)

-- of two segments from one position that are seen to start alone, the second doesn't have the first's far end
far-off : (v a b : Position) → starts_alone v a b ≡ true → ¬ IsOnSegment v b a
far-off v a b alone = (not-iff _ _ (have_common-is v b a a)).0 (and_parts (not (have_common v a b b)) (not (have_common v b a a)) alone).1

-- both ends of a segment that is seen to meet another only at ends lie on it only as its ends
pub ends-by_sight : (a b c d : Position) → meets_by_sight a b c d ≡ true → (lies_by_sight a c d ≡ true) × (lies_by_sight b c d ≡ true)
ends-by_sight a b c d sees = by (boxes_overlap a b c d) (is_same_position a c) (is_same_position a d) (is_same_position b c) (is_same_position b d) refl refl refl refl refl sees
  where
    none : ¬ HaveCommonLocation a b c d → (lies_by_sight a c d ≡ true) × (lies_by_sight b c d ≡ true)
    none apart = (by-off a c d (λ on. apart (first-common a b c d on)), by-off b c d (λ on. apart (last-common a b c d on)))

    by : (o p q r u : Bool) → boxes_overlap a b c d ≡ o → is_same_position a c ≡ p → is_same_position a d ≡ q → is_same_position b c ≡ r → is_same_position b d ≡ u
        → (if not o then true else (if p then starts_alone a b d else (if q then starts_alone a b c else (if r then starts_alone b a d else (if u then starts_alone b a c else not (have_common a b c d)))))) ≡ true
        → (lies_by_sight a c d ≡ true) × (lies_by_sight b c d ≡ true)
    by false p q r u apart _ _ _ _ _ = none (λ common. true≢false (sym (boxes_overlap-HaveCommonLocation a b c d common) ∙ apart))
    by true true q r u _ ac _ _ _ alone =
        (by-first a c d ac, by-off b c d (subst (λ (v : Position). ¬ IsOnSegment v d b) (same_position a c ac) (far-off a b d alone)))
    by true false true r u _ _ ad _ _ alone =
        (by-last a c d ad, by-off b c d (λ on. far-off a b c alone (subst (λ (v : Position). IsOnSegment v c b) (sym (same_position a d ad)) (HaveCommonLocation-first_turned d c b b on))))
    by true false false true u _ _ _ bc _ alone =
        (by-off a c d (subst (λ (v : Position). ¬ IsOnSegment v d a) (same_position b c bc) (far-off b a d alone)), by-first b c d bc)
    by true false false false true _ _ _ _ bd alone =
        (by-off a c d (λ on. far-off b a c alone (subst (λ (v : Position). IsOnSegment v c a) (sym (same_position b d bd)) (HaveCommonLocation-first_turned d c a a on))), by-last b c d bd)
    by true false false false false _ _ _ _ _ apart = none ((not-iff _ _ (have_common-is a b c d)).0 apart)

module _ (f : Lying) where
  abbrev pub met : Lying → Bool
  met s = is_met_by_sight s f

  -- so do both ends of a string that is itself, where it lies
  ends-met : (s : Lying) → met s ≡ true → (lies_by_sight s.a f.a f.b ≡ true) × (lies_by_sight s.b f.a f.b ≡ true)
  ends-met s sees = elim (or_cases (is_itself s f) (meets_by_sight s.a s.b f.a f.b) sees) [
    | inl itself ↦
        let alike = and_parts (is_same_position s.a f.a) (is_same_position s.b f.b) (and_parts (s.number == f.number) (lies_alike s f) itself).1 in
        (by-first s.a f.a f.b alike.0, by-last s.b f.a f.b alike.1)
    | inr apart ↦ ends-by_sight s.a s.b f.a f.b apart
  ]

  -- and either way the string is clear of it
  clear-met : (s : Lying) → met s ≡ true → is_clear_of s f ≡ true
  clear-met s sees = elim (or_cases (is_itself s f) (meets_by_sight s.a s.b f.a f.b) sees) [
    | inl itself ↦ or_left (s.number == f.number) (meets_by_sight s.a s.b f.a f.b) (and_parts (s.number == f.number) (lies_alike s f) itself).0
    | inr apart ↦ or_right (s.number == f.number) (meets_by_sight s.a s.b f.a f.b) apart
  ]

  -- so does each position where one of many such strings ends
  end-by_sight : (p : Position) (strings : List Lying) → list_any (λ s. ends_at s p) strings ≡ true → list_all met strings ≡ true → lies_by_sight p f.a f.b ≡ true
  end-by_sight p [] some all = absurd (true≢false (sym some))
  end-by_sight p (s ∷ strings) some all =
      let both = and_parts (met s) (list_all met strings) all in
      let ends = ends-met s both.0 in
      elim (or_cases (ends_at s p) (list_any (λ s. ends_at s p) strings) some) [
        | inl here ↦ elim (or_cases (is_same_position p s.a) (is_same_position p s.b) here) [
          | inl a ↦ subst (λ (q : Position). lies_by_sight q f.a f.b ≡ true) (sym (same_position p s.a a)) ends.0
          | inr b ↦ subst (λ (q : Position). lies_by_sight q f.a f.b ≡ true) (sym (same_position p s.b b)) ends.1
        ]
        | inr later ↦ end-by_sight p strings later both.1
      ]

  -- so a string that is seen to meet all other gathered strings only at ends is clear, if these have all gathered points as ends
  pub clear-by_ends : (v : Seen) → are_at_ends v ≡ true → list_all met v.strings.items ≡ true → is_clear_string v f ≡ true
  clear-by_ends v ends all =
      and_from (list_all (λ s. is_clear_of s f) v.strings.items) (list_all (λ (p : Lying). lies_by_sight p.a f.a f.b) v.points.items)
      (list_all-from (λ s. is_clear_of s f) v.strings.items (λ s h. clear-met s (list_all-at met v.strings.items s all h)))
      (list_all-from (λ (p : Lying). lies_by_sight p.a f.a f.b) v.points.items (λ p h.
      end-by_sight p.a v.strings.items (list_all-at (λ (p : Lying). list_any (λ s. ends_at s p.a) v.strings.items) v.points.items p ends h) all))

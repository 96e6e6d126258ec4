-- The strings that two faces share, found by the sides of one of them.
use Rattle.std.proofs.Common.{◌≡◌, ◌≢◌, ◌≤◌, ◌+◌, inl, inr, ℕ, refl, sym, ap, subst, ◌∙◌, List, [], ◌∷◌, ◌++◌, Bool, true, false, cond, map, filter, length, arith}
use Rattle.std.specs.Prelude.{◌||◌, IsPermutation}
use Rattle.std.specs.List.{AllByRecursion, Contains}
use Rattle.std.proofs.lemmas.List.{length-map, length-append}
use Rattle.cad_rows.specs.declared.edits.Edit.TheVariants.{Merge}
use Rattle.cad_rows.specs.declared.names.Face.{Face}
use Rattle.cad_rows.specs.declared.rows.StringRow.{StringRow}
use Rattle.cad_rings.specs.Cycle.{Side, has_side, opposite}
use Rattle.cad_map.specs.declared.span.Span.{Span}
use Rattle.cad_map.specs.Crossings.{HasPlacedRows}
use Rattle.cad_map.specs.Map.{Map, face_sides, is_end, side_of}
use Rattle.cad_map.specs.Merger.{is_shared, shared_sides}
use Rattle.cad_map.specs.Spans.{span_of}
use Rattle.cad_map.specs.Steps.{has_twin_in}
use Rattle.cad_map.specs.Valid.{EachPair, IsValid, MeetAtEnds}
use Rattle.cad_map.specs.Views.{HasSide}
use Rattle.cad_map.proofs.CallerLemmas.{All-at_each, Contains-has_side, EachPair-two, Joins, all-placed, filter-Contains, filter-append, has_side-Contains, joins-end, map-Contains}
use Rattle.cad_map.proofs.Ends.Parallel.{not_parallel}
use Rattle.cad_map.proofs.Ends.StringEnds.{two_ends}
use Rattle.cad_map.proofs.Lists.EachElement.{EachPair-filter-map}
use Rattle.cad_map.proofs.Lists.TakenOut.{fills}
use Rattle.cad_laws.specs.Counts.{shared_strings}
use Rattle.cad_laws.specs.Tried.{IsTried}
use Rattle.cad_laws.proofs.CallerLemmas.{shared-counted}
use Rattle.edit_records.specs.GridLists.{LeadsBetween}

-- ---- One string between two points

pub leads-joins : (s : StringRow) (p q : ℕ) → LeadsBetween s (p, q) → Joins s p q
leads-joins s p q (inl is) = record { ends = inl (ap (λ (t : Side). t.0) is, ap (λ (t : Side). t.1) is) }
leads-joins s p q (inr is) = record { ends = inr (ap (λ (t : Side). t.1) is, ap (λ (t : Side). t.0) is) }

turned : (s : StringRow) (p q : ℕ) → Joins s p q → Joins s q p
turned s p q j = elim j.ends [ inl e ↦ record { ends = inr e } | inr e ↦ record { ends = inl e } ]

-- an end of one of two strings between the same points is an end of the other
first-end : (s t : StringRow) (p q : ℕ) → Joins s p q → Joins t p q → is_end t s.from ≡ true
first-end s t p q one two = elim one.ends [
  | inl e ↦ subst (λ (r : ℕ). is_end t r ≡ true) (sym e.0) (joins-end t p q two)
  | inr e ↦ subst (λ (r : ℕ). is_end t r ≡ true) (sym e.0) (joins-end t q p (turned t p q two))
]

second-end : (s t : StringRow) (p q : ℕ) → Joins s p q → Joins t p q → is_end t s.to ≡ true
second-end s t p q one two = elim one.ends [
  | inl e ↦ subst (λ (r : ℕ). is_end t r ≡ true) (sym e.1) (joins-end t q p (turned t p q two))
  | inr e ↦ subst (λ (r : ℕ). is_end t r ≡ true) (sym e.1) (joins-end t p q two)
]

pub one-between : (m : Map) → IsValid m → (p q : ℕ) (s t : StringRow) → Contains m.strings s → Contains m.strings t → Joins s p q → Joins t p q → s ≡ t
one-between m valid p q s t s_in t_in one two =
    elim (EachPair-two (MeetAtEnds m) m.strings s t valid.keeps.v4.strings s_in t_in) [
      | inl same ↦ same
      | inr either ↦ elim either [
        | inl meet ↦ absurd (not_parallel m rows s t (All-at_each _ m.strings s (all-placed m rows) s_in) meet (first-end s t p q one two) (second-end s t p q one two))
        | inr meet ↦ absurd (not_parallel m rows t s (All-at_each _ m.strings t (all-placed m rows) t_in) meet (first-end t s p q two one) (second-end t s p q two one))
      ]
    ]
  where
    rows : HasPlacedRows m
    rows = record { v1 = valid.sound.v1; v2 = valid.sound.v2; v3 = valid.keeps.v3 }

pub joined-apart : (m : Map) → IsValid m → (s : StringRow) (p q : ℕ) → Contains m.strings s → Joins s p q → p ≢ q
joined-apart m valid s p q there j = two_ends m valid s p q (record { there = there; joins = j })

-- ---- Counted by the sides

-- one side more that is tested
pub count-more : (test : Side → Bool) (sides : List Side) (s : Side) (count added base : ℕ) (wanted : Bool) → (wanted ≡ true → test s ≡ true)
    → count ≤ base + length (filter test sides) → added ≤ count + cond wanted 1 0 → added ≤ base + length (filter test (sides ++ s ∷ []))
count-more test sides s count added base wanted only before more =
    let all = ap length (filter-append test sides (s ∷ [])) ∙ length-append (filter test sides) (filter test (s ∷ [])) in
    by wanted all only more
  where
    by : (w : Bool) → length (filter test (sides ++ s ∷ [])) ≡ length (filter test sides) + length (filter test (s ∷ [])) → (w ≡ true → test s ≡ true) → added ≤ count + cond w 1 0
        → added ≤ base + length (filter test (sides ++ s ∷ []))
    by false all only more = omega (arith, all, more, before)
    by true all only more =
        let one : length (filter test (s ∷ [])) ≡ 1 = rw (only refl) refl in
        omega (arith, all, more, before, one)

-- ---- All that are shared

-- a side of one face with the other behind it
of-shared : (m : Map) (kept ended : Face) (t : Side) → has_side t (shared_sides m kept ended) ≡ true → HasSide m kept t × HasSide m ended (opposite t)
of-shared m kept ended t has =
    let at = filter-Contains (has_twin_in m ended) (face_sides m kept) t (has_side-Contains t (shared_sides m kept ended) has) in
    (Contains-has_side t (face_sides m kept) at.0, at.1)

pub all-shared : (m : Map) (kept ended : Face) → IsTried m (Merge kept ended) → (spans : List Span)
    → ((t : Side) (s : StringRow) → HasSide m kept t → HasSide m ended (opposite t) → Contains m.strings s → LeadsBetween s t → Contains spans (span_of s))
    → length spans ≤ length (shared_sides m kept ended) → IsPermutation (map span_of (shared_strings m kept ended)) spans
all-shared m kept ended tried spans each few =
    fills (map span_of shares) spans apart within
    (let a = length-map shares span_of in
    let b = shared-counted m kept ended tried.valid tried.allowed in
    omega (arith, a, b, few))
  where
    shares : List StringRow
    shares = shared_strings m kept ended

    numbers-apart : (xs : List StringRow) → EachPair (λ a b. a ≢ b) (map (λ (r : StringRow). r.number) xs) → EachPair (λ a b. a ≢ b) (map span_of xs)
    numbers-apart [] all = tt
    numbers-apart (x ∷ xs) all = (others xs all.0, numbers-apart xs all.1)
      where
        others : (ys : List StringRow) → AllByRecursion (λ b. x.number ≢ b) (map (λ (r : StringRow). r.number) ys) → AllByRecursion (λ b. span_of x ≢ b) (map span_of ys)
        others [] away = tt
        others (y ∷ ys) away = ((λ same. away.0 (ap (λ (s : Span). s.string) same)), others ys away.1)

    apart : EachPair (λ a b. a ≢ b) (map span_of shares)
    apart = numbers-apart shares (EachPair-filter-map (λ a b. a ≢ b) (λ (r : StringRow). r.number) (is_shared m kept ended) m.strings tried.valid.sound.v1.strings.distinct)

    within : (x : Span) → Contains (map span_of shares) x → Contains spans x
    within x among =
        let s = map-Contains span_of shares x among in
        let at = filter-Contains (is_shared m kept ended) m.strings s.0 s.1 in
        subst (Contains spans) s.2 (by s.0 at.0 (has_side (side_of s.0) (shared_sides m kept ended)) refl at.1)
      where
        by : (s : StringRow) → Contains m.strings s → (b : Bool) → has_side (side_of s) (shared_sides m kept ended) ≡ b
            → (has_side (side_of s) (shared_sides m kept ended) || has_side (opposite (side_of s)) (shared_sides m kept ended)) ≡ true → Contains spans (span_of s)
        by s there true is either = let two = of-shared m kept ended (side_of s) is in each (side_of s) s two.0 two.1 there (inl refl)
        by s there false is either = let two = of-shared m kept ended (opposite (side_of s)) (rw is at either) in each (opposite (side_of s)) s two.0 two.1 there (inr refl)

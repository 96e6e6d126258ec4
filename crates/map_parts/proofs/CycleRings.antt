-- The points along a cycle of a table, as a ring with its sides and corners.
use Rattle.std.proofs.Common.{◌⊎◌, ◌≡◌, ℕ, ◌≤◌, true, List, [], ◌∷◌, ◌++◌, length, map, refl, sym, ap, ◌∙◌, subst, arith, inl, inr}
use Rattle.std.specs.List.{Contains}
use Rattle.cad_rings.specs.Cycle.{sides_of, Corner, corners_along, corners_of}
use Rattle.cad_rings.specs.Surgery.{corner}
use Rattle.cad_map.proofs.CallerLemmas.{Contains-cases, Contains-first, Contains-later, side_before, sides-before}
use Rattle.half_table.specs.declared.half.Half.{Half}
use Rattle.half_table.specs.Cycle.{IsRun, orbit}
use Rattle.half_table.specs.Rows.{HalfRows, next, origin_of, halves, cycle, has, IsLinked}
use Rattle.half_table.proofs.Closed.{cycle-closes}

pub map-map : {A B C : Type 0} (g : B → C) (f : A → B) (xs : List A) → map g (map f xs) ≡ map (λ x. g (f x)) xs
map-map g f [] = refl
map-map g f (x ∷ xs) = ap (λ l. g (f x) ∷ l) (map-map g f xs)

module _ (nx : Half → Half) (o : Half → ℕ) where
  -- the corner that a half makes with its next
  abbrev pub turn : Half → Corner
  turn h = corner (o h) (o (nx h)) (o (nx (nx h)))

  along : (z a b : Half) (xs : List Half) → nx a ≡ b → IsRun nx z (nx b) xs → corners_along (o a) (o b) (map o xs ++ o z ∷ o (nx z) ∷ []) ≡ map turn (a ∷ b ∷ xs)
  along z a b [] e run = λ i. corner (o a) (o (first i)) (o (last i)) ∷ corner (o b) (o (back i)) (o (nx (back i))) ∷ []
    where
      first : b ≡ nx a
      first = sym e

      last : z ≡ nx (nx a)
      last = sym (ap nx e ∙ run)

      back : z ≡ nx b
      back = sym run
  along z a b (c ∷ xs) e run = λ i. corner (o a) (o (first i)) (o (second i)) ∷ along z b c xs run.0 (subst (λ (h : Half). IsRun nx z (nx h) xs) run.0 run.2) i
    where
      first : b ≡ nx a
      first = sym e

      second : c ≡ nx (nx a)
      second = sym (ap nx e ∙ run.0)

  -- a run from the next of h back to h, with a half between, is a ring whose corners are the turns
  pub run-corners : (h : Half) (xs : List Half) → (nx h ≡ h → ⊥) → IsRun nx h (nx h) xs → corners_of (map o (h ∷ xs)) ≡ map turn (h ∷ xs)
  run-corners h [] other run = absurd (other run)
  run-corners h (b ∷ xs) other run =
      ap (λ (p : ℕ). corners_along (o h) (o b) (map o xs ++ o h ∷ p ∷ [])) (ap o (sym run.0)) ∙ along h h b xs run.0 (subst (λ (g : Half). IsRun nx h (nx g) xs) run.0 run.2)

  pub run-two : (h : Half) (xs : List Half) → (nx h ≡ h → ⊥) → IsRun nx h (nx h) xs → 2 ≤ length (map o (h ∷ xs))
  run-two h [] other run = absurd (other run)
  run-two h (b ∷ xs) other run = omega arith

  -- what holds of a half and, with it, of its next holds along the run
  pub run-each : (P : Half → Type 0) → ((g : Half) → P g → P (nx g)) → (h at : Half) (xs : List Half) → IsRun nx h at xs → P at → (g : Half) → Contains xs g → P g
  run-each P step h at [] run here g among = let low = among.1 in absurd (omega arith)
  run-each P step h at (b ∷ xs) run here g among = elim (Contains-cases b xs g among) [
    | inl same ↦ subst P (run.0 ∙ same) here
    | inr later ↦ run-each P step h (nx at) xs run.2 (step at here) g later
  ]

-- a run begins with a half of its own, or at the half to which it leads
run-begins : (nx : Half → Half) (h at : Half) (xs : List Half) → IsRun nx h at xs → (at ≡ h) ⊎ Contains xs at
run-begins nx h at [] run = inl run
run-begins nx h at (b ∷ xs) run = inr (subst (Contains (b ∷ xs)) (sym run.0) (Contains-first b xs))

-- the next of a half of a run is one, or the half to which it leads
run-goes_on : (nx : Half → Half) (h at : Half) (xs : List Half) → IsRun nx h at xs → (g : Half) → Contains xs g → (nx g ≡ h) ⊎ Contains xs (nx g)
run-goes_on nx h at [] run g among = let low = among.1 in absurd (omega arith)
run-goes_on nx h at (b ∷ xs) run g among = elim (Contains-cases b xs g among) [
  | inl same ↦
      let on : nx at ≡ nx g = ap nx (run.0 ∙ same) in
      elim (run-begins nx h (nx at) xs run.2) [
        | inl ends ↦ inl (sym on ∙ ends)
        | inr more ↦ inr (Contains-later b xs (nx g) (subst (Contains xs) on more))
      ]
  | inr later ↦ elim (run-goes_on nx h (nx at) xs run.2 g later) [
    | inl ends ↦ inl ends
    | inr more ↦ inr (Contains-later b xs (nx g) more)
  ]
]

module _ (rows : HalfRows) (linked : IsLinked rows) (h : Half) (there : has rows h ≡ true) where
  abbrev rest : List Half
  rest = orbit (next rows) (length (halves rows)) h (next rows h)

  closes : IsRun (next rows) h (next rows h) rest
  closes = cycle-closes rows linked h there

  -- the next of a half on a cycle is on it
  pub cycle-next : (g : Half) → Contains (cycle rows h) g → Contains (cycle rows h) (next rows g)
  cycle-next g among = elim (Contains-cases h rest g among) [
    | inl same ↦ subst (λ (x : Half). Contains (cycle rows h) (next rows x)) same
        (elim (run-begins (next rows) h (next rows h) rest closes) [
          | inl back ↦ subst (Contains (cycle rows h)) (sym back) (Contains-first h rest)
          | inr more ↦ Contains-later h rest (next rows h) more
        ])
    | inr later ↦ elim (run-goes_on (next rows) h (next rows h) rest closes g later) [
      | inl back ↦ subst (Contains (cycle rows h)) (sym back) (Contains-first h rest)
      | inr more ↦ Contains-later h rest (next rows g) more
    ]
  ]

  pub cycle-each : (P : Half → Type 0) → ((g : Half) → P g → P (next rows g)) → P h → (g : Half) → Contains (cycle rows h) g → P g
  cycle-each P step here g among = elim (Contains-cases h rest g among) [
    | inl same ↦ subst P same here
    | inr later ↦ run-each (next rows) (origin_of rows) P step h (next rows h) rest closes (step h here) g later
  ]

  module _ (other : next rows h ≡ h → ⊥) where
    pub cycle-two : 2 ≤ length (map (origin_of rows) (cycle rows h))
    cycle-two = run-two (next rows) (origin_of rows) h rest other closes

    pub cycle-corners : corners_of (map (origin_of rows) (cycle rows h)) ≡ map (turn (next rows) (origin_of rows)) (cycle rows h)
    cycle-corners = run-corners (next rows) (origin_of rows) h rest other closes

    pub cycle-sides : sides_of (map (origin_of rows) (cycle rows h)) ≡ map (λ g. (origin_of rows g, origin_of rows (next rows g))) (cycle rows h)
    cycle-sides = sym (sides-before (map (origin_of rows) (cycle rows h)) cycle-two) ∙ ap (map side_before) cycle-corners ∙ map-map side_before (turn (next rows) (origin_of rows)) (cycle rows h)

-- The records of a job have seven fields.
use Rattle.std.proofs.Common.{◌≡◌, ◌≢◌, ◌⊎◌, ◌∙◌, append-nil, subst, sym, refl, ℕ, List, [], ◌∷◌, ◌++◌, length, ◌<◌, Option, Some, None, All, inl, inr, arith, nat_eq}
use Rattle.std.proofs.lemmas.Bool.{cases_Bool, eqb-false, eqb-true}
use Rattle.std.proofs.lemmas.List.Folds.{fold_stays}
use Rattle.csv.specs.Reading.{expected_len}
use Rattle.csv.specs.declared.reader.Reader.{Reader}
use Rattle.cad_files.specs.Input.{HasRead, AreTaken}
use Rattle.cad_files.specs.Record.{seven_of}
use Rattle.cad_files.specs.Plan.{Plan, plan_of, plan_step, beginning, faulty}
use Rattle.cad_files.specs.declared.faults.PlanFault.TheVariants as faults
use Rattle.cad_files.proofs.InputFacts.{begins}

-- fields of another number are not seven
seven_of-other : (l : List (List ℕ)) → length l ≢ 7 → seven_of l ≡ None
seven_of-other [] h = refl
seven_of-other (a ∷ []) h = refl
seven_of-other (a ∷ b ∷ []) h = refl
seven_of-other (a ∷ b ∷ c ∷ []) h = refl
seven_of-other (a ∷ b ∷ c ∷ d ∷ []) h = refl
seven_of-other (a ∷ b ∷ c ∷ d ∷ e ∷ []) h = refl
seven_of-other (a ∷ b ∷ c ∷ d ∷ e ∷ f ∷ []) h = refl
seven_of-other (a ∷ b ∷ c ∷ d ∷ e ∷ f ∷ g ∷ []) h = absurd (h refl)
seven_of-other (a ∷ b ∷ c ∷ d ∷ e ∷ f ∷ g ∷ i ∷ l) h = refl

-- a first record of another length is a fault
pub first-other : (fields : List (List ℕ)) → length fields ≢ 7 → plan_step beginning fields ≡ faulty (faults.Syntax 1)
unfolding plan_step
first-other fields h = rw (seven_of-other fields h) refl

-- and stays one
first_faulty : (fields : List (List ℕ)) (rest : List (List (List ℕ))) → length fields ≢ 7 → plan_of (fields ∷ rest) ≡ faulty (faults.Syntax 1)
unfolding plan_step
first_faulty fields rest h = rw (seven_of-other fields h) (fold_stays plan_step (faulty (faults.Syntax 1)) (λ x. refl) rest)

pub seven_or_not : (fields : List (List ℕ)) → (length fields ≡ 7) ⊎ (length fields ≢ 7)
seven_or_not fields = elim (cases_Bool (nat_eq (length fields) 7)) [
  | inl same ↦ inl (eqb-true (length fields) 7 same)
  | inr other ↦ inr (eqb-false (length fields) 7 other)
]

first_seven : (fields : List (List ℕ)) (rest : List (List (List ℕ))) (p : Plan) → plan_of (fields ∷ rest) ≡ p → p ≢ faulty (faults.Syntax 1) → length fields ≡ 7
first_seven fields rest p is sound = elim (seven_or_not fields) [
  | inl same ↦ same
  | inr other ↦ absurd (sound (sym is ∙ first_faulty fields rest other))
]

some_is : {X : Type 0} (x y : X) → Some x ≡ Some y → x ≡ y
some_is x y h = cc

module _ {R : Type 0} (rem : R → Option (List ℕ)) (text : List ℕ) where
  -- records whose first has seven fields
  sevens : (fields : List (List ℕ)) (rest : List (List (List ℕ))) (reader : Reader R) → HasRead rem text (fields ∷ rest) reader → length fields ≡ 7 → All (λ fields. length fields ≡ 7) (fields ∷ rest)
  sevens fields rest reader read seven =
      let first : expected_len reader ≡ Some (length fields) = read.lengths 0 [] (omega arith) in
      λ k d h. some_is _ _ (sym (read.lengths k d h) ∙ first) ∙ seven

  pub taken-first : (fields : List (List ℕ)) (reader : Reader R) → HasRead rem text (fields ∷ []) reader → length fields ≡ 7 → AreTaken text (fields ∷ [])
  taken-first fields reader read seven = record { begins = begins rem text (fields ∷ []) reader read; seven = sevens fields [] reader read seven }

  -- records after those of a plan that has begun, and no fault
  pub taken : (plan more : List (List (List ℕ))) (reader : Reader R) (p : Plan) → plan_of plan ≡ p → p ≢ beginning → p ≢ faulty (faults.Syntax 1) → HasRead rem text (plan ++ more) reader → AreTaken text (plan ++ more)
  taken [] more reader p is begun sound read = absurd (begun (sym is))
  taken (fields ∷ rest) more reader p is begun sound read =
      record { begins = begins rem text (fields ∷ rest ++ more) reader read; seven = sevens fields (rest ++ more) reader read (first_seven fields rest p is sound) }

  -- those of a plan that has begun, and has no fault
  pub taken-plan : (plan : List (List (List ℕ))) (reader : Reader R) (p : Plan) → plan_of plan ≡ p → p ≢ beginning → p ≢ faulty (faults.Syntax 1) → HasRead rem text plan reader → AreTaken text plan
  taken-plan plan reader p is begun sound read =
      subst (λ (l : List (List (List ℕ))). AreTaken text l) (append-nil plan)
      (taken plan [] reader p is begun sound (subst (λ (l : List (List (List ℕ))). HasRead rem text l reader) (sym (append-nil plan)) read))

-- a record whose number of fields is none of those of records with seven hasn't seven
pub other-seven : (rows : List (List (List ℕ))) (next : List (List ℕ)) → 0 < length rows → All (λ fields. length fields ≡ 7) rows
    → All (λ fields. length fields ≢ length next) rows → length next ≢ 7
other-seven [] next some seven other = λ e. omega (arith, some)
other-seven (first ∷ rest) next some seven other = λ e. other 0 first (omega arith) (seven 0 first (omega arith) ∙ sym e)

-- A ring that gets a face, half by half.
use Rattle.std.proofs.Common.{◌≡◌, ℕ, ◌≤◌, ◌<◌, Bool, true, false, ◌||◌, List, [], ◌∷◌, ◌++◌, length, refl, sym, ap, ◌∙◌, subst, append_assoc, arith, true≢false, nat_eq, if◌then◌else◌}
use Rattle.std.specs.List.{IsDistinct}
use Rattle.cad_rows.specs.declared.names.Face.{Face}
use Rattle.half_table.specs.declared.half.Half.{Half}
use Rattle.half_table.specs.Half.{is_half}
use Rattle.half_table.specs.Cycle.{holds, IsRun, orbit}
use Rattle.half_table.specs.Count.{one_more, ticked}
use Rattle.half_table.specs.Rows.{HalfRows, has, next, prev, face, halves, cycle, IsLinked}
use Rattle.half_table.specs.Writes.{ChangesFace}
use Rattle.half_table.specs.Surgery.{Relabels}
use Rattle.half_table.proofs.Halves.{is_half-self}
use Rattle.half_table.proofs.Cycles.{holds-append}
use Rattle.half_table.proofs.Closed.{orbit-is, cycle-closes, cycle-once, few, cycle-inside}

-- the halves done have the face, and those left still follow
pub record Relabelling (old : HalfRows) (h : Half) (to : Face) (w : ℕ) (rows : HalfRows) (at : Half) (n : ℕ) : Type 0 where
  pub done : List Half
  pub left : List Half
  pub is : cycle old h ≡ done ++ left
  pub run : IsRun (next old) h at left
  pub within : length left ≤ length (halves old)
  pub at_in : has old at ≡ true
  pub relabels : Relabels done to old rows
  pub work : n ≡ ticked (length done) w

-- how many are left
abbrev pub halves_left : HalfRows → Half → Half → ℕ
halves_left old h at = length (orbit (next old) (length (halves old)) h at)

one_step : (old mid new : HalfRows) (ring : List Half) (x : Half) (to : Face) → Relabels ring to old mid → ChangesFace x to mid new → Relabels (ring ++ x ∷ []) to old new
one_step old mid new ring x to r c = record {
  face = λ g. c.face g ∙ ap (λ v. if is_half g x then to else v) (r.face g) ∙ both_ways (is_half g x) (holds ring g) (face old g)
      ∙ ap (λ b. if b then to else face old g) (sym (holds-append ring (x ∷ []) g));
  strings = c.strings ∙ r.strings;
  next = λ g. c.next g ∙ r.next g;
  prev = λ g. c.prev g ∙ r.prev g;
  origin = λ g. c.origin g ∙ r.origin g;
  has = λ g. c.has g ∙ r.has g;
}
  where
    both_ways : (a b : Bool) (v : Face) → (if a then to else (if b then to else v)) ≡ (if b || (a || false) then to else v)
    both_ways true true v = refl
    both_ways true false v = refl
    both_ways false true v = refl
    both_ways false false v = refl

one_tick : (xs : List Half) (y : Half) (w : ℕ) → ticked (length (xs ++ y ∷ [])) w ≡ one_more (ticked (length xs) w)
one_tick [] y w = refl
one_tick (x ∷ xs) y w = one_tick xs y (one_more w)

pub begun : (old rows : HalfRows) (h at : Half) (to : Face) (w n : ℕ) → IsLinked old → has old h ≡ true → ChangesFace h to old rows → n ≡ one_more w → at ≡ next rows h → Relabelling old h to w rows at n
begun old rows h at to w n linked h_in c is_n is_at =
    let here : at ≡ next old h = is_at ∙ c.next h in
    let all : length (cycle old h) ≤ length (halves old) = few old linked (cycle old h) (cycle-once old linked h) (λ q s. cycle-inside old linked h q h_in s) in
    record {
      done = h ∷ [];
      left = orbit (next old) (length (halves old)) h (next old h);
      is = refl;
      run = subst (λ z. IsRun (next old) h z (orbit (next old) (length (halves old)) h (next old h))) (sym here) (cycle-closes old linked h h_in);
      within = omega arith;
      at_in = ap (has old) here ∙ linked.inside h ∙ h_in;
      relabels = one_step old old rows [] h to (record { strings = refl; face = λ g. refl; next = λ g. refl; prev = λ g. refl; origin = λ g. refl; has = λ g. refl }) c;
      work = is_n;
    }

run-cases : (nx : Half → Half) (h at : Half) (xs : List Half) → IsRun nx h at xs → is_half at h ≡ false → (ys : List Half) × (xs ≡ at ∷ ys) × IsRun nx h (nx at) ys
run-cases nx h at [] r e = absurd (true≢false (sym (subst (λ z. is_half at z ≡ true) r (is_half-self at)) ∙ e))
run-cases nx h at (x ∷ xs) r e = (xs, (λ i. sym r.0 i ∷ xs), r.2)

run-ended : (nx : Half → Half) (h at : Half) (xs : List Half) → IsRun nx h at xs → is_half at h ≡ true → xs ≡ []
run-ended nx h at [] r e = refl
run-ended nx h at (x ∷ xs) r e = absurd (true≢false (sym e ∙ r.1))

module _ (old : HalfRows) (h : Half) (to : Face) (w : ℕ) (rows : HalfRows) (at : Half) (n : ℕ) (s : Relabelling old h to w rows at n) where
  pub further : (new : HalfRows) (after : Half) (m : ℕ) → IsLinked old → is_half at h ≡ false → ChangesFace at to rows new → m ≡ one_more n → after ≡ next new at → Relabelling old h to w new after m
  further new after m linked other c is_m is_after =
      let r = run-cases (next old) h at s.left s.run other in
      let here : after ≡ next old at = is_after ∙ c.next at ∙ s.relabels.next at in
      let shorter : length s.left ≡ length (at ∷ r.0) = ap length r.1 in
      record {
        done = s.done ++ at ∷ [];
        left = r.0;
        is = s.is ∙ ap (λ l. s.done ++ l) r.1 ∙ sym (append_assoc s.done (at ∷ []) r.0);
        run = subst (λ z. IsRun (next old) h z r.0) (sym here) r.2;
        within = omega (arith, shorter, s.within);
        at_in = ap (has old) here ∙ linked.inside at ∙ s.at_in;
        relabels = one_step old rows new s.done at to s.relabels c;
        work = is_m ∙ ap one_more s.work ∙ sym (one_tick s.done at w);
      }

  pub fewer : (after : Half) (new : HalfRows) → is_half at h ≡ false → ChangesFace at to rows new → after ≡ next new at → halves_left old h after < halves_left old h at
  fewer after new other c is_after =
      let r = run-cases (next old) h at s.left s.run other in
      let here : after ≡ next old at = is_after ∙ c.next at ∙ s.relabels.next at in
      let shorter : length s.left ≡ length (at ∷ r.0) = ap length r.1 in
      let was : halves_left old h at ≡ length s.left = ap length (orbit-is (next old) h (length (halves old)) at s.left s.run s.within) in
      let now : halves_left old h after ≡ length r.0 = ap length (orbit-is (next old) h (length (halves old)) after r.0 (subst (λ z. IsRun (next old) h z r.0) (sym here) r.2) (omega (arith, shorter, s.within))) in
      omega (arith, was, now, shorter)

  pub ended : is_half at h ≡ true → Relabels (cycle old h) to old rows × (n ≡ ticked (length (cycle old h)) w)
  ended same =
      let done_all : s.done ≡ cycle old h = sym (s.is ∙ ap (λ l. s.done ++ l) (run-ended (next old) h at s.left s.run same) ∙ append_nil s.done) in
      (subst (λ c. Relabels c to old rows) done_all s.relabels, s.work ∙ ap (λ c. ticked (length c) w) done_all)
    where
      append_nil : (xs : List Half) → xs ++ [] ≡ xs
      append_nil [] = refl
      append_nil (x ∷ xs) = ap (λ t. x ∷ t) (append_nil xs)

pub relabelled-linked : (old new : HalfRows) (ring : List Half) (to : Face) → IsLinked old → Relabels ring to old new → IsLinked new
relabelled-linked old new ring to l r = record {
  distinct = subst (IsDistinct nat_eq) (sym r.strings) l.distinct;
  prev_next = λ h. r.prev (next new h) ∙ ap (prev old) (r.next h) ∙ l.prev_next h;
  next_prev = λ h. r.next (prev new h) ∙ ap (next old) (r.prev h) ∙ l.next_prev h;
  inside = λ h. r.has (next new h) ∙ ap (has old) (r.next h) ∙ l.inside h ∙ sym (r.has h);
}

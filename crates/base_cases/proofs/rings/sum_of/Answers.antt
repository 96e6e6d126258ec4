use Rattle.std.proofs.Common.{rules, ◌≡◌, ℕ, suc, zero, [], ◌∷◌, sym, ◌∙◌, subst, List, true, false, lit<, refl, arith}
use Rattle.std.proofs.lemmas.Bool.{true≢false}
use Rattle.std.proofs.lemmas.Bool.Decides.{nat_tests}
use Rattle.std.specs.Prelude.{◌&&◌, nat_le, slice_index_or}
use Rattle.std.specs.List.{Contains}
use Rattle.std.proofs.lemmas.List.Sums.{AllPass-from_list_all}
use Rattle.base_cases.proofs.rings.sum_of.Goals as goal

entry_of : (p : ℕ) → (nat_le 1 p && nat_le p 4) ≡ true → Contains (1 ∷ 2 ∷ 3 ∷ 4 ∷ 1 ∷ []) p
entry_of zero h = absurd (true≢false (sym h))
entry_of (suc zero) h = (0, lit< tt, refl)
entry_of (suc (suc zero)) h = (1, lit< tt, refl)
entry_of (suc (suc (suc zero))) h = (2, lit< tt, refl)
entry_of (suc (suc (suc (suc zero)))) h = (3, lit< tt, refl)
entry_of (suc (suc (suc (suc (suc p))))) h =
    let past : (nat_le 1 (suc (suc (suc (suc (suc p))))) && nat_le (suc (suc (suc (suc (suc p))))) 4) ≡ false = grind (arith, nat_tests) in
    absurd (true≢false (sym h ∙ past))

pub sum-requires-clause-placed : goal.sum-requires-clause-placed
sum-requires-clause-placed g c = λ k d within.
    let there : c.has_points_of_square.result ≡ true = search rules in
    let p = AllPass-from_list_all (λ p. nat_le 1 p && nat_le p 4) c.args.ring.now (sym c.has_points_of_square.ensures ∙ there) k d within in
    subst (λ (numbers : List ℕ). Contains numbers (slice_index_or c.args.ring.now k d)) (sym c.positions.ensures) (entry_of (slice_index_or c.args.ring.now k d) p)

-- Two boxes that overlap reach one row, and their spans there overlap.
use Rattle.std.proofs.Common.{ℕ, ◌/◌, ◌<◌, ◌≤◌, arith, inl, inr}
use Rattle.std.proofs.lemmas.Nat.{div-add-mod', le-div}
use Rattle.std.proofs.lemmas.Bool.{cases_lt}
use Rattle.sweep.specs.declared.extent.Extent.{Extent}
use Rattle.sweep.specs.Extents.{Overlap, IsRowOf}

-- division by one number keeps order
pub divided : (h a b : ℕ) → 0 < h → a ≤ b → a / h ≤ b / h
divided h a b some le =
    let whole = div-add-mod' a h in
    le-div (a / h) b h some (omega (arith, whole))

pub record ReachOneRow (h : ℕ) (a b : Extent) : Type 0 where
  pub row : ℕ
  pub of_first : IsRowOf a h row
  pub of_second : IsRowOf b h row

pub one_row : (h : ℕ) (a b : Extent) → 0 < h → a.bottom ≤ a.top → b.bottom ≤ b.top → Overlap a b → ReachOneRow h a b
one_row h a b some up_a up_b o =
    elim (cases_lt a.bottom b.bottom) [
      | inl lt ↦
          let a_below = divided h a.bottom b.bottom some (omega arith) in
          let a_above = divided h b.bottom a.top some o.b_bottom in
          let b_above = divided h b.bottom b.top some up_b in
          record { row = b.bottom / h; of_first = record { first = a_below; last = a_above }; of_second = record { first = omega arith; last = b_above } }
      | inr ge ↦
          let b_below = divided h b.bottom a.bottom some ge in
          let b_above = divided h a.bottom b.top some o.a_bottom in
          let a_above = divided h a.bottom a.top some up_a in
          record { row = a.bottom / h; of_first = record { first = omega arith; last = a_above }; of_second = record { first = b_below; last = b_above } }
    ]

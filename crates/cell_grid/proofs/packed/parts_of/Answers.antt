use Rattle.std.proofs.Common.{rules, ◌≡◌, ◌∙◌, ℕ, ◌*◌, ◌+◌, ◌/◌, ◌%◌, ◌≤◌, ℤ, to_z, of_z, w8, ◌+ℤ◌, ◌-ℤ◌, pos, unsigned_abs, ap, arith}
use Rattle.std.proofs.lemmas.Int.{ints}
use Rattle.std.proofs.lemmas.Nat.{div-add-mod'}
use Rattle.cell_grid.specs.Cells.{shift}
use Rattle.cell_grid.specs.Packed.{joined}
use Rattle.cell_grid.proofs.Placed.{from_zero}
use Rattle.cell_grid.proofs.packed.parts_of.Goals as goal

-- the parts of a coordinate that was raised by the shift make up the coordinate
made-up : (z : ℤ) (n : ℕ) → z +ℤ pos shift ≡ pos n
    → joined (pos (n / 4294967296) -ℤ pos 4) (n % 4294967296) ≡ z
made-up z n is = by (n / 4294967296) (n % 4294967296) (div-add-mod' n 4294967296)
  where
    by : (high low : ℕ) → high * 4294967296 + low ≡ n → joined (pos high -ℤ pos 4) low ≡ z
    by high low whole = omega (arith, ints, is, whole)

-- so small a high part is kept in eight bits
kept : (n : ℕ) → n ≤ 6 → to_z w8 (of_z w8 (to_z w8 n -ℤ pos 4)) ≡ pos n -ℤ pos 4
kept n small = search (rules, small)

pub returns : goal.returns
returns c =
    let z = c.args.coordinate in
    let f = from_zero z c.requires in
    let at : c.unsigned_abs-raised.result ≡ unsigned_abs (z +ℤ pos shift) = search rules in
    let is : c.unsigned_abs-raised.result ≡ f.n = at ∙ ap unsigned_abs f.is in
    let small : f.n / 4294967296 ≤ 6 = omega (arith, f.within) in
    rw is (ap (λ (h : ℤ). joined h (f.n % 4294967296)) (kept (f.n / 4294967296) small) ∙ made-up z f.n f.is)

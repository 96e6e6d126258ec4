use Rattle.std.proofs.Common.{◌≡◌, ◌<◌, ◌∙◌, refl, sym, ap, length, arith}
use Rattle.cad_files.specs.Pool.{Pool}
use Rattle.cad_files.proofs.PoolFacts.{pool-first, pool-empty, taken-among, taken-out}
use Rattle.cad_files.proofs.side_pool.SidePool.take_first.Goals as goal

pub returns-in_default-clause-none : goal.returns-in_default-clause-none
returns-in_default-clause-none c =
    let none = rw c.as_slice.ensures.value at c.in_default.ensures.none in
    let empty = pool-empty c.self.inside.sides.items c.self.inside.is_taken.items c.self.inside.first c.self.invariant none in
    (sym (ap (λ (p : Pool). p.left) c.self.view_is) ∙ empty, refl)

pub overflow_add-self : goal.overflow_add-self
overflow_add-self c =
    let within = c.in-Some.ensures.within in
    let small = c.as_slice.type_inv in
    omega (arith, within, small)

pub index_mut-requires : goal.index_mut-requires
index_mut-requires c =
    let within = c.in-Some.ensures.within in
    let count = c.as_slice.ensures.len in
    omega (arith, within, count)

pub index-requires : goal.index-requires
index-requires c =
    let within : c.in-Some.place < length c.self.inside.is_taken.items = rw c.as_slice.ensures.value at c.in-Some.ensures.within in
    let count : length c.self.inside.is_taken.items ≡ length c.self.inside.sides.items = c.self.invariant.flagged in
    omega (arith, within, count)

pub invariant_of-self : goal.invariant_of-self
invariant_of-self c =
    let within : c.in-Some.place < length c.self.inside.is_taken.items = rw c.as_slice.ensures.value at c.in-Some.ensures.within in
    let count : length c.self.inside.is_taken.items ≡ length c.self.inside.sides.items = c.self.invariant.flagged in
    pool-first c.self.inside.sides.items c.self.inside.is_taken.items c.self.inside.first c.self.invariant c.in-Some.place (omega (arith, within, count))
    (rw c.as_slice.ensures.value at c.in-Some.ensures.before)

pub returns-clause-among : goal.returns-clause-among
returns-clause-among c =
    let within : c.in-Some.place < length c.self.inside.is_taken.items = rw c.as_slice.ensures.value at c.in-Some.ensures.within in
    let count : length c.self.inside.is_taken.items ≡ length c.self.inside.sides.items = c.self.invariant.flagged in
    taken-among c.self.inside.sides.items c.self.inside.is_taken.items c.self.inside.first c.self.invariant c.args.self.now c.self.view_is
    c.in-Some.place c.index.result.now (omega (arith, within, count)) c.index.ensures

pub returns-clause-some : goal.returns-clause-some
returns-clause-some c =
    let within : c.in-Some.place < length c.self.inside.is_taken.items = rw c.as_slice.ensures.value at c.in-Some.ensures.within in
    let count : length c.self.inside.is_taken.items ≡ length c.self.inside.sides.items = c.self.invariant.flagged in
    taken-out c.self.inside.sides.items c.self.inside.is_taken.items c.self.inside.first c.self.invariant c.args.self.now c.self.view_is
    c.in-Some.place c.index.result.now (omega (arith, within, count)) c.index.ensures (rw c.as_slice.ensures.value at c.in-Some.ensures.at)

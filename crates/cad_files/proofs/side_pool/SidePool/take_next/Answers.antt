use Rattle.std.proofs.Common.{◌≡◌, ◌≢◌, ◌<◌, ◌∙◌, refl, ap, subst, length, Some, arith, slice_get}
use Rattle.std.proofs.lemmas.Option.{slice_get_read}
use Rattle.std.specs.List.{AllByRecursion, Contains}
use Rattle.cad_files.specs.Cycles.{side_of_followed, side_behind, followed_side}
use Rattle.cad_files.specs.Pool.{Pool}
use Rattle.cad_files.proofs.NextSides.{next-within}
use Rattle.cad_files.proofs.PoolFacts.{viewed, next-behind, next-gone, pool-set, taken-among, taken-out}
use Rattle.cad_files.proofs.side_pool.SidePool.take_next.Goals.{After-index}
use Rattle.cad_files.proofs.side_pool.SidePool.take_next.Goals as goal

-- the side is one of the pool's
there : (c : goal.After-index) → Contains c.self.inside.sides.items c.args.last.now
there c = viewed c.self.inside.sides.items c.self.inside.is_taken.items c.args.self.now c.self.view_is c.args.last.now c.requires

-- so the one that follows is
below : (c : goal.After-index) → c.args.last.now.next < length c.self.inside.sides.items
below c = next-within c.self.inside.sides.items c.self.invariant.linked c.args.last.now (there c)

-- and what was read is whether it is taken
flag : (c : goal.After-index) → slice_get c.self.inside.is_taken.items c.args.last.now.next ≡ Some c.index.result.now
flag c =
    let flags = c.self.inside.is_taken.items in
    slice_get_read flags (length flags) c.args.last.now.next c.index.result.now refl (omega (arith, below c, c.self.invariant.flagged)) c.index.ensures

pub returns-then-index-clause-none : goal.returns-then-index-clause-none
returns-then-index-clause-none c =
    let p = (goal.at.returns-then-index-clause-none c).After-index in
    let last = c.args.last.now in
    let none = next-gone c.self.inside.sides.items c.self.inside.is_taken.items c.self.inside.first c.self.invariant last (there p) (flag p ∙ ap Some c.if-index.true) in
    (subst (λ (p : Pool). AllByRecursion (λ f. side_of_followed f ≢ side_behind (followed_side last)) p.left) c.self.view_is none, refl)

pub index_mut-requires : goal.index_mut-requires
index_mut-requires c = omega (arith, below (goal.at.index_mut-requires c).After-index)

pub index-requires-2 : goal.index-requires-2
index-requires-2 c = omega (arith, below (goal.at.index-requires-2 c).After-index)

pub invariant_of-self : goal.invariant_of-self
invariant_of-self c = pool-set c.self.inside.sides.items c.self.inside.is_taken.items c.self.inside.first c.self.invariant c.args.last.now.next

pub returns-clause-among : goal.returns-clause-among
returns-clause-among c =
    taken-among c.self.inside.sides.items c.self.inside.is_taken.items c.self.inside.first c.self.invariant c.args.self.now c.self.view_is c.args.last.now.next c.index-2.result.now
    (below (goal.at.returns-clause-among c).After-index) c.index-2.ensures

pub returns-clause-some : goal.returns-clause-some
returns-clause-some c =
    let p = (goal.at.returns-clause-some c).After-index in
    let sides = c.self.inside.sides.items in
    let flags = c.self.inside.is_taken.items in
    let last = c.args.last.now in
    let at = slice_get_read sides (length sides) last.next c.index-2.result.now refl (below p) c.index-2.ensures in (
      next-behind sides flags c.self.inside.first c.self.invariant last c.index-2.result.now (there p) at,
      taken-out sides flags c.self.inside.first c.self.invariant c.args.self.now c.self.view_is last.next c.index-2.result.now (below p) c.index-2.ensures (flag p ∙ ap Some c.if-index.false),
    )

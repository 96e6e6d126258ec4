use Rattle.std.proofs.Common.{rules}
use Rattle.key_lists.specs.Kept.{Kept}
use Rattle.indexmap.specs.Layout.{set_value_at}
use Rattle.key_lists.proofs.Written.{IsWritten, written, lies-within, none-above, same-items}
use Rattle.key_lists.proofs.lists.KeyLists.reserve_at.Goals.{After-value_at-items}
use Rattle.key_lists.proofs.lists.KeyLists.reserve_at.Goals as goal

-- whatever list comes to stand at the place
changed : (g : _) (c : goal.After-value_at-items g) (other : Kept _)
    → IsWritten c.args.self.now (set_value_at c.self.inside.lists c.args.place other) c.args.key c.value_at-items.result.now other
changed g c = written _ _ c.self.view_is c.requires c.value_at-items.ensures.value c.value_at-items.ensures.distinct

pub invariant_of-self : goal.invariant_of-self
invariant_of-self g c =
    none-above _ (changed g (goal.at.invariant_of-self g c).After-value_at-items c.reserve.new.self) c.self.view_is c.self.invariant

pub returns : goal.returns
returns g c =
    let k = changed g (goal.at.returns g c).After-value_at-items c.reserve.new.self in
    rw (k.is, k.was) (search (rules, k.others, same-items k))

pub value_at-items-requires : goal.value_at-items-requires
value_at-items-requires g c = lies-within _ c.args.key c.self.view_is c.requires

pub reserve-requires : goal.reserve-requires
reserve-requires g c = g.met.X.Short.fits

use Rattle.std.proofs.Common.{rules}
use Rattle.key_lists.specs.Kept.{Kept}
use Rattle.indexmap.specs.Layout.{set_value_at}
use Rattle.key_lists.proofs.Written.{IsWritten, written, lies-within, none-above}
use Rattle.key_lists.proofs.lists.KeyLists.put.Goals.{After-value_at-items}
use Rattle.key_lists.proofs.lists.KeyLists.put.Goals as goal

-- whatever list comes to stand under the key
changed : (g : _) (c : goal.After-value_at-items g) (other : Kept _)
    → IsWritten c.args.self.now (set_value_at c.self.inside.lists c.unwrap-place.result other) c.args.key c.value_at-items.result.now other
changed g c =
    written _ _ c.self.view_is (rw c.unwrap-place.ensures at c.place_of.ensures.there) c.value_at-items.ensures.value c.value_at-items.ensures.distinct

pub put-requires : goal.put-requires
put-requires g c = (g.met.X.Short.fits, rw (changed g (goal.at.put-requires g c).After-value_at-items c.value_at-items.result.now).was at c.requires)

pub invariant_of-self : goal.invariant_of-self
invariant_of-self g c =
    none-above _ (changed g (goal.at.invariant_of-self g c).After-value_at-items c.put.new.self) c.self.view_is c.self.invariant

pub returns : goal.returns
returns g c =
    let k = changed g (goal.at.returns g c).After-value_at-items c.put.new.self in
    rw (k.is, k.was) (search (rules, k.others))

pub value_at-items-requires : goal.value_at-items-requires
value_at-items-requires g c = lies-within _ c.args.key c.self.view_is (rw c.unwrap-place.ensures at c.place_of.ensures.there)

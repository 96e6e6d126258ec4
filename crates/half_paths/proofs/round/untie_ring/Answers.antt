use Rattle.std.proofs.Common.{◌≡◌, ◌∙◌, ◌∷◌, ◌+◌, ap, sym, subst, true, length, arith}
use Rattle.half_table.specs.Count.{ticked}
use Rattle.half_table.specs.declared.half.Half.{Half}
use Rattle.half_table.specs.Half.{twin}
use Rattle.half_table.specs.Rows.{has, next}
use Rattle.half_paths.specs.Redirect.{redirect}
use Rattle.half_paths.specs.Path.{last_of}
use Rattle.half_paths.specs.Strung.{unstrung, IsStrung, IsUnstrung}
use Rattle.half_paths.specs.Ends.{opened}
use Rattle.half_paths.proofs.Along.{keeps-on, in-kept, ticked-add}
use Rattle.half_paths.proofs.Apart.{last-turned}
use Rattle.half_paths.proofs.Exchanged.{last-all}
use Rattle.half_paths.proofs.Tied.{unstrung-now, unstrung-elsewhere, opened-strung, loose-all, end-first, end-last, end-elsewhere}
use Rattle.half_paths.proofs.round.untie_ring.Goals as goal

pub open_ring-requires-clause-last_in : goal.open_ring-requires-clause-last_in
open_ring-requires-clause-last_in g c =
    ap (has c.args.table.now.rows) c.last_half-last.ensures
    ∙ last-all (λ h. has c.args.table.now.rows h ≡ true) c.args.first c.args.rest.now c.requires.within

pub open_ring-requires-clause-enters : goal.open_ring-requires-clause-enters
open_ring-requires-clause-enters g c = ap (next c.args.table.now.rows) c.last_half-last.ensures ∙ c.requires.round.closes

pub open_ring-requires-clause-returns : goal.open_ring-requires-clause-returns
open_ring-requires-clause-returns g c = c.requires.round.returns ∙ ap twin (sym c.last_half-last.ensures)

pub loosen-requires-clause-within : goal.loosen-requires-clause-within
loosen-requires-clause-within g c = in-kept c.args.table.now.rows c.open_ring.new.table.rows (c.args.first ∷ c.args.rest.now) c.open_ring.ensures.halves c.requires.within

pub loosen-requires-clause-strung : goal.loosen-requires-clause-strung
loosen-requires-clause-strung g c =
    let a : Half = c.args.first in
    let rest = c.args.rest.now in
    let one : next c.open_ring.new.table.rows ≡ redirect (opened a (last_of a rest)) (next c.args.table.now.rows) =
    λ i h. (c.open_ring.ensures.next h ∙ ap (λ (z : Half). redirect (opened a z) (next c.args.table.now.rows) h) c.last_half-last.ensures) i in
    subst (λ n. IsStrung n a rest) (sym one) (opened-strung (next c.args.table.now.rows) a rest c.requires.different c.requires.round.strung)

pub returns-clause-loose : goal.returns-clause-loose
returns-clause-loose g c =
    let a : Half = c.args.first in
    let rest = c.args.rest.now in
    let z : Half = last_of a rest in
    let f = next c.args.table.now.rows in
    let one : next c.open_ring.new.table.rows ≡ redirect (opened a z) f =
    λ i h. (c.open_ring.ensures.next h ∙ ap (λ (z : Half). redirect (opened a z) f h) c.last_half-last.ensures) i in
    let two : next c.loosen.new.table.rows ≡ redirect (unstrung a rest) (next c.open_ring.new.table.rows) = λ i h. c.loosen.ensures.next h i in
    loose-all (next c.loosen.new.table.rows) a rest
    (subst (λ n. IsUnstrung n a rest) (sym two) (unstrung-now (next c.open_ring.new.table.rows) a rest c.requires.different))
    (c.loosen.ensures.first_end ∙ ap (λ n. n (twin a)) one ∙ end-first a z a (twin z) f (last-turned a rest c.requires.different))
    (c.loosen.ensures.last_end ∙ ap (λ n. n z) one ∙ end-last a z a (twin z) f)

pub returns-clause-elsewhere : goal.returns-clause-elsewhere
returns-clause-elsewhere g c = λ h away.
    let a : Half = c.args.first in
    let rest = c.args.rest.now in
    let z : Half = c.last_half-last.result in
    c.loosen.ensures.next h ∙ unstrung-elsewhere (next c.open_ring.new.table.rows) a rest h away
    ∙ c.open_ring.ensures.next h
    ∙ end-elsewhere a z a (twin z) (next c.args.table.now.rows) rest c.last_half-last.ensures h away

pub returns-clause-halves : goal.returns-clause-halves
returns-clause-halves g c = keeps-on _ _ _ c.open_ring.ensures.halves c.loosen.ensures.halves

pub returns-clause-work : goal.returns-clause-work
returns-clause-work g c =
    let n = length c.args.rest.now in
    let w = c.args.table.now.work in
    let more : 1 + n ≡ n + 1 = omega arith in
    c.loosen.ensures.work ∙ ap (ticked n) c.open_ring.ensures.work ∙ sym (ticked-add 1 n w) ∙ ap (λ k. ticked k w) more

use Rattle.std.proofs.Common.{◌≡◌, ◌∙◌, ◌∷◌, ap, sym, subst, true, length}
use Rattle.half_table.specs.Count.{ticked}
use Rattle.half_table.specs.declared.half.Half.{Half}
use Rattle.half_table.specs.Half.{twin}
use Rattle.half_table.specs.Rows.{has, next}
use Rattle.half_paths.specs.Redirect.{redirect}
use Rattle.half_paths.specs.Path.{last_of}
use Rattle.half_paths.specs.Strung.{strung, IsStrung}
use Rattle.half_paths.specs.Ends.{closed}
use Rattle.half_paths.specs.Round.{IsRound}
use Rattle.half_paths.proofs.Along.{keeps-on, ticked-add}
use Rattle.half_paths.proofs.Exchanged.{last-all, unstrung-loose, each-loose}
use Rattle.half_paths.proofs.Tied.{strung-now, strung-elsewhere, round-now, end-elsewhere}
use Rattle.half_paths.proofs.round.tie_ring.Goals as goal

pub string_up-requires-clause-unstrung : goal.string_up-requires-clause-unstrung
string_up-requires-clause-unstrung g c = unstrung-loose (next c.args.table.now.rows) c.args.first c.args.rest.now c.requires.loose

pub close_ring-requires-clause-first_in : goal.close_ring-requires-clause-first_in
close_ring-requires-clause-first_in g c = c.string_up.ensures.halves.has _ ∙ c.requires.within.0

pub close_ring-requires-clause-last_in : goal.close_ring-requires-clause-last_in
close_ring-requires-clause-last_in g c =
    c.string_up.ensures.halves.has _ ∙ ap (has c.args.table.now.rows) c.last_half-last.ensures
    ∙ last-all (λ h. has c.args.table.now.rows h ≡ true) c.args.first c.args.rest.now c.requires.within

pub close_ring-requires-clause-first_free : goal.close_ring-requires-clause-first_free
close_ring-requires-clause-first_free g c = c.string_up.ensures.first_end ∙ c.requires.loose.0.1

pub close_ring-requires-clause-last_free : goal.close_ring-requires-clause-last_free
close_ring-requires-clause-last_free g c =
    subst (λ (z : Half). next c.string_up.new.table.rows z ≡ twin z) (sym c.last_half-last.ensures)
    (c.string_up.ensures.last_end ∙ last-all (λ h. next c.args.table.now.rows h ≡ twin h) c.args.first c.args.rest.now (each-loose (next c.args.table.now.rows) (c.args.first ∷ c.args.rest.now) c.requires.loose))

pub returns-clause-round : goal.returns-clause-round
returns-clause-round g c =
    let a : Half = c.args.first in
    let rest = c.args.rest.now in
    let f = next c.args.table.now.rows in
    let one : next c.string_up.new.table.rows ≡ redirect (strung a rest) f = λ i h. c.string_up.ensures.next h i in
    let two : next c.close_ring.new.table.rows ≡ redirect (closed a (last_of a rest)) (next c.string_up.new.table.rows) =
    λ i h. (c.close_ring.ensures.next h ∙ ap (λ (z : Half). redirect (closed a z) (next c.string_up.new.table.rows) h) c.last_half-last.ensures) i in
    subst (λ n. IsRound n a rest) (sym two)
    (round-now (next c.string_up.new.table.rows) a rest c.requires.different
    (subst (λ n. IsStrung n a rest) (sym one) (strung-now f a rest c.requires.different)))

pub returns-clause-elsewhere : goal.returns-clause-elsewhere
returns-clause-elsewhere g c = λ h away.
    let a : Half = c.args.first in
    let rest = c.args.rest.now in
    let z : Half = c.last_half-last.result in
    c.close_ring.ensures.next h
    ∙ end-elsewhere a z (twin z) a (next c.string_up.new.table.rows) rest c.last_half-last.ensures h away
    ∙ c.string_up.ensures.next h ∙ strung-elsewhere (next c.args.table.now.rows) a rest h away

pub returns-clause-halves : goal.returns-clause-halves
returns-clause-halves g c = keeps-on _ _ _ c.string_up.ensures.halves c.close_ring.ensures.halves

pub returns-clause-work : goal.returns-clause-work
returns-clause-work g c =
    c.close_ring.ensures.work ∙ ap (ticked 1) c.string_up.ensures.work ∙ sym (ticked-add (length c.args.rest.now) 1 c.args.table.now.work)

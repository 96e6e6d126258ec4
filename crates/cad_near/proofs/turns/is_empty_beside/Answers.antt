use Rattle.std.proofs.Common.{◌∙◌, sym, ap, ℕ}
use Rattle.std.proofs.lemmas.Bool.{eqb-true}
use Rattle.cad_rings.specs.Surgery.{corner}
use Rattle.cad_map.specs.Valid.{is_empty_corner}
use Rattle.cad_valid.proofs.CallerLemmas.{empty-after}
use Rattle.cad_near.proofs.turns.is_empty_beside.Goals as goal

pub returns-then-eq : goal.returns-then-eq
returns-then-eq g c =
    let m = g.M.MapView.map c.args.map.now in
    let after = c.in-Some.after in
    let same = eqb-true after c.args.before (sym c.eq.ensures ∙ c.if-eq.true) in
    sym (empty-after m c.requires.whole (corner c.args.from c.args.point after) c.in-Some.ensures.some
    ∙ ap (λ (a : ℕ). is_empty_corner m (corner c.args.from c.args.point a)) same ∙ c.requires.clear)

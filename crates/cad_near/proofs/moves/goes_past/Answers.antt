use Rattle.std.proofs.Common.{inl, inr, sym, ap, ◌∙◌}
use Rattle.cad_map.specs.Touched.{Moved}
use Rattle.cad_near.specs.Moves.{goes_past_but}
use Rattle.cad_near.proofs.moves.goes_past.Goals as goal

pub returns : goal.returns
returns g c = λ t.
    inr (
      ap (λ (v : Moved). goes_past_but c.args.at v.from c.args.rays.now c.args.held.now) (sym c.moved.view_is) ∙ sym c.goes_past_but.ensures ∙ c.if-not-goes_past_but.false,
      c.is_alone_at.ensures t,
    )

pub returns-then-is_past_alike : goal.returns-then-is_past_alike
returns-then-is_past_alike g c = λ t. inl (sym c.is_past_alike.ensures ∙ c.if-is_past_alike.true)

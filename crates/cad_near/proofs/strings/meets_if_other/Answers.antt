use Rattle.std.proofs.Common.{◌≢◌, sym, subst, refl, ◌∙◌}
use Rattle.cad_valid.specs.Placed.{IsPlacedIn}
use Rattle.cad_valid.proofs.CallerLemmas.{meets-by}
use Rattle.cad_near.proofs.strings.meets_if_other.Goals as goal

pub placed_beside-requires : goal.placed_beside-requires
placed_beside-requires g c = subst (IsPlacedIn (g.M.MapView.map c.args.map.now)) (sym c.requires.here) (record { first = refl; second = refl })

pub returns : goal.returns
returns g c =
    let met = meets-by (g.M.MapView.map c.args.map.now) c.requires.rows c.args.string.now c.args.other.now c.requires.placed c.requires.other_placed c.meet_at_ends.result _ _ c.requires.here c.placed_beside.ensures c.meet_at_ends.ensures in
    let ne : c.args.other.now.number ≢ c.args.string.now.number = λ same. c.if-get.false (c.get.ensures.value ∙ same ∙ sym c.get-2.ensures.value) in
    ((λ t _. met.0 t), (λ meets. met.1 (meets ne)))

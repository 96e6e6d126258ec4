use Rattle.std.proofs.Common.{◌≡◌, ◌+◌, ◌++◌, [], ◌∷◌, take, take_all, sym, subst, ap, ◌∙◌}
use Rattle.std.proofs.lemmas.List.{take_more}
use Rattle.map_session.specs.Session.{Replays}
use Rattle.map_session.proofs.ReplayFacts.{replays_on}
use Rattle.map_session.proofs.replaying.replay.Goals as goal

pub loop-place-preserved : goal.loop-place-preserved
loop-place-preserved g c =
    let i = c.loop-place.place in
    let lines = c.args.lines.now in
    let line = c.index-lines-place.result in
    let more : take (i + 1) lines ≡ take i lines ++ line ∷ [] = take_more lines i line c.loop-place-test.true ∙ ap (λ x. take i lines ++ x ∷ []) (sym c.index-lines-place.is) in
    let some = c.loop-place.invariant.0 in
    let next = c.in-Ok-true.ensures c.in-Ok-true.field-0-test some.0 some.1 in (
      (next.0, next.2),
      λ h stands.
          let was = c.loop-place.invariant.1 h stands in
          let went = c.in-Ok-true.ensures c.in-Ok-true.field-0-test was.0 was.2 in
          (went.0, subst (λ ls. Replays h ls went.0) (sym more) (replays_on h was.0 went.0 (take i lines) (line ∷ []) was.1 went.1), went.2),
    )

pub returns : goal.returns
returns g c h stands =
    let was = c.loop-place.invariant.1 h stands in
    (was.0, rw (take_all c.loop-place.place c.args.lines.now c.loop-place-test.false) at was.1, was.2)

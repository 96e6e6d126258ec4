use Rattle.std.proofs.Common.{rules, tests, refl}
use Rattle.std.proofs.lemmas.Iterator.{cases_from_all}
use Rattle.std.proofs.lemmas.Iterator.Consumers.{YieldsList-from_first}
use Rattle.cad_map.specs.Map.{position_of}
use Rattle.cad_near.specs.Seen.{OfHeldString, held_string, is_clear_string, lying_string}
use Rattle.cad_near.proofs.SightOfMap.{rows-seen}
use Rattle.cad_near.proofs.sight.sees_strings_clear.Goals as goal

pub returns : goal.returns
unfolding OfHeldString
returns g c =
    let m = g.M.MapView.map c.args.map.now in
    let test = is_clear_string c.args.seen.now in
    rows-seen (lying_string m) m.strings held_string c.args.seen.now.reach test c.candidates.result _
    (cases_from_all _ _ _ (OfHeldString m test) (λ h. ¬ OfHeldString m test h) c.all.ensures.ran (YieldsList-from_first (λ x. x) (λ w. w) c.candidates.result refl)
    (λ x q k. search (rules, tests)) (λ x q k. search (rules, tests)))
    (λ h there. (c.candidates.ensures.held h there).1)
    (λ s h near. (
      record { string = s.number; from = position_of m s.from; to = position_of m s.to },
      c.candidates.ensures.all s.number (position_of m s.from) (position_of m s.to) (c.requires.held.strings s h) near,
      refl,
    ))

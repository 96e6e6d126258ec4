use Rattle.std.proofs.Common.{◌<◌, ◌≤◌, ℕ, List, sym, subst, inl, inr, length}
use Rattle.std.specs.Prelude.{flat_map}
use Rattle.std.specs.List.{Contains}
use Rattle.std.proofs.lemmas.List.{take_all}
use Rattle.cad_rings.specs.Cycle.{Ring, sides_of}
use Rattle.cad_map.specs.Map.{rings_at}
use Rattle.edit_records.proofs.TouchedLists.{kept-side, up-to}
use Rattle.edit_records.proofs.touched.shared_ends.Goals as goal

pub add_ends-requires-clause-there : goal.add_ends-requires-clause-there
add_ends-requires-clause-there g c =
    subst (λ (n : ℕ). c.loop-place.place < n) c.ring_count-place-end.ensures.count c.loop-place-test.true

pub loop-place-preserved : goal.loop-place-preserved
loop-place-preserved g c s among has =
    let within = subst (λ (n : ℕ). c.loop-place.place < n) c.ring_count-place-end.ensures.count c.loop-place-test.true in
    let added = c.in_ok-add_ends.ensures in
    elim (up-to (rings_at c.args.face.now (g.M.MapView.rings c.args.map.now)) c.loop-place.place s within among) [
      | inl before ↦ let two = c.loop-place.invariant s before has in (added.keeps s.0 two.0, added.keeps s.1 two.1)
      | inr on ↦ added.ends s on has
    ]

pub returns : goal.returns
returns g c s one has =
    let m = g.M.MapView.map c.args.map.now in
    let bs = g.M.MapView.rings c.args.map.now in
    let rings : List Ring = rings_at c.args.face.now bs in
    let past : length rings ≤ c.loop-place.place = subst (λ (n : ℕ). n ≤ c.loop-place.place) c.ring_count-place-end.ensures.count c.loop-place-test.false in
    let all = kept-side m bs c.ring_count-place-end.ensures.canonical_order c.args.face.now s one in
    c.loop-place.invariant s (subst (λ (l : List Ring). Contains (flat_map sides_of l) s) (sym (take_all c.loop-place.place rings past)) all) has

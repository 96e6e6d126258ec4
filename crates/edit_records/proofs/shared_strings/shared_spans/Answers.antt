use Rattle.std.proofs.Common.{◌<◌, ◌≤◌, ℕ, List, sym, subst, inl, inr, length, arith}
use Rattle.std.specs.Prelude.{flat_map}
use Rattle.std.specs.List.{Contains}
use Rattle.std.proofs.lemmas.List.{take_all}
use Rattle.cad_rings.specs.Cycle.{Ring, sides_of}
use Rattle.cad_map.specs.Map.{rings_at}
use Rattle.cad_map.specs.Spans.{span_of}
use Rattle.cad_map.specs.Steps.{has_twin_in}
use Rattle.cad_map.proofs.Boundaries.SideCounts.{count_up_to-next, count_up_to-all}
use Rattle.cad_map.proofs.CallerLemmas.{whole_valid}
use Rattle.edit_records.proofs.TouchedLists.{kept-side, up-to}
use Rattle.edit_records.proofs.shared_strings.shared_spans.Goals as goal

pub add_ring-requires-clause-there : goal.add_ring-requires-clause-there
add_ring-requires-clause-there g c =
    subst (λ (n : ℕ). c.loop-place.place < n) c.ring_count-place-end.ensures.count c.loop-place-test.true

pub loop-place-preserved : goal.loop-place-preserved
loop-place-preserved g c =
    let m = g.M.MapView.map c.args.map.now in
    let bs = g.M.MapView.rings c.args.map.now in
    let rings : List Ring = rings_at c.args.face.now bs in
    let place = c.loop-place.place in
    let within : place < length rings = subst (λ (n : ℕ). place < n) c.ring_count-place-end.ensures.count c.loop-place-test.true in
    let added = c.in_ok-add_ring.ensures in
    let before = c.loop-place.invariant in
    let next = count_up_to-next m bs (whole_valid m c.requires) c.ring_count-place-end.ensures.canonical_order c.args.face.now (has_twin_in m c.args.other.now) place within in
    record {
      strings = λ t s among has there leads.
          elim (up-to rings place t within among) [
            | inl earlier ↦ added.keeps (span_of s) (before.strings t s earlier has there leads)
            | inr on ↦ added.strings t s on has there leads
          ];
      few = let had = before.few in let now = added.few in omega (arith, next, had, now);
    }

pub returns-clause-strings : goal.returns-clause-strings
returns-clause-strings g c t s one other there leads =
    let m = g.M.MapView.map c.args.map.now in
    let bs = g.M.MapView.rings c.args.map.now in
    let rings : List Ring = rings_at c.args.face.now bs in
    let past : length rings ≤ c.loop-place.place = subst (λ (n : ℕ). n ≤ c.loop-place.place) c.ring_count-place-end.ensures.count c.loop-place-test.false in
    let all = kept-side m bs c.ring_count-place-end.ensures.canonical_order c.args.face.now t one in
    c.loop-place.invariant.strings t s (subst (λ (l : List Ring). Contains (flat_map sides_of l) t) (sym (take_all c.loop-place.place rings past)) all) other there leads

pub returns-clause-few : goal.returns-clause-few
returns-clause-few g c =
    let m = g.M.MapView.map c.args.map.now in
    let bs = g.M.MapView.rings c.args.map.now in
    let past : length (rings_at c.args.face.now bs) ≤ c.loop-place.place = subst (λ (n : ℕ). n ≤ c.loop-place.place) c.ring_count-place-end.ensures.count c.loop-place-test.false in
    let all = count_up_to-all m bs (whole_valid m c.requires) c.ring_count-place-end.ensures.canonical_order c.args.face.now (has_twin_in m c.args.other.now) c.loop-place.place past in
    let few = c.loop-place.invariant.few in
    omega (arith, all, few)

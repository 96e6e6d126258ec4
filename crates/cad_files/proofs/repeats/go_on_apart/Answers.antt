use Rattle.std.proofs.Common.{◌≡◌, ◌<◌, ◌∙◌, refl, sym, ap, subst, ℕ, ◌+◌, List, length, map, get_or, set, true, false, Some, slice_get, arith}
use Rattle.std.proofs.lemmas.List.{length-set, length-map}
use Rattle.std.proofs.lemmas.Option.{slice_get_read}
use Rattle.cad_map.proofs.CallerLemmas.{All-at_each, Contains-at}
use Rattle.cad_files.specs.declared.sides.PlanSide.{PlanSide}
use Rattle.cad_files.proofs.RepeatFacts.{next-at, mark-next, differ-next, differ-all}
use Rattle.cad_files.proofs.repeats.go_on_apart.Goals as goal

pub loop-i-preserved : goal.loop-i-preserved
loop-i-preserved c =
    let sides = c.args.sides.now in
    let flags = c.loop-i.is_reached.items in
    let nexts : List ℕ = map (λ s. s.next) sides in
    let side : PlanSide = c.index-sides-i.result in
    let there = slice_get_read sides (length sides) c.loop-i.i side refl c.loop-i-test.true c.index-sides-i.is in
    let next : get_or nexts c.loop-i.i 0 ≡ (get_or sides c.loop-i.i side).next = next-at sides c.loop-i.i side there ∙ ap (λ (s : PlanSide). s.next) c.index-sides-i.is in
    let inside : side.next < length sides = All-at_each (λ s. s.next < length sides) sides side c.requires (Contains-at sides c.loop-i.i side there) in
    let within : (get_or sides c.loop-i.i side).next < length flags = subst (λ (s : PlanSide). s.next < length flags) c.index-sides-i.is (omega (arith, inside, c.loop-i.invariant.count)) in
    let free = slice_get_read flags (length flags) (get_or sides c.loop-i.i side).next c.index.result.now refl within c.index.ensures ∙ ap Some c.if-index.false in
    record {
      count = length-set flags (get_or sides c.loop-i.i side).next true ∙ c.loop-i.invariant.count;
      marked = subst (λ (n : ℕ). (k : ℕ) → k < c.loop-i.i + 1 → slice_get (set flags n true) (get_or nexts k 0) ≡ Some true) next
          (mark-next nexts flags c.loop-i.i (subst (λ (n : ℕ). n < length flags) (sym next) within) c.loop-i.invariant.marked);
      apart = differ-next nexts flags c.loop-i.i (subst (λ (n : ℕ). slice_get flags n ≡ Some false) (sym next) free) c.loop-i.invariant.marked c.loop-i.invariant.apart;
    }

pub returns : goal.returns
returns c =
    let sides = c.args.sides.now in
    let count = length-map sides (λ s. s.next) in
    let done = c.loop-i-test.false in
    differ-all (map (λ s. s.next) sides) c.loop-i.i (omega (arith, count, done)) c.loop-i.invariant.apart

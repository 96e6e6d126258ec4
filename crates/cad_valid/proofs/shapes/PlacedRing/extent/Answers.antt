use Rattle.std.proofs.Common.{sym, subst, List, take}
use Rattle.std.specs.List.{AllByRecursion}
use Rattle.std.proofs.lemmas.List.{take_more}
use Rattle.geo_exact.specs.Position.{Position}
use Rattle.cad_map.proofs.CallerLemmas.{All-push, All-follows}
use Rattle.cad_valid.specs.Extents.{IsWithin}
use Rattle.cad_valid.proofs.shapes.PlacedRing.extent.Goals as goal

pub loop-from-preserved : goal.loop-from-preserved
loop-from-preserved c =
    let sides : List (Position × Position) = c.deref-from-items.result.now in
    let side : Position × Position = c.loop-from-item.result in
    let e = c.grown-extent.result in
    let in_e : Position × Position → Type 0 = λ s. IsWithin e s.0 × IsWithin e s.1 in
    let so_far = All-follows (λ (s : Position × Position). IsWithin c.loop-from.extent s.0 × IsWithin c.loop-from.extent s.1) in_e
    (λ s w. (c.grown-extent.ensures.kept s.0 (c.grown.ensures.kept s.0 w.0), c.grown-extent.ensures.kept s.1 (c.grown.ensures.kept s.1 w.1)))
    (take c.loop-from.from-index sides) c.loop-from.invariant.sides in
    let here : in_e side = (c.grown-extent.ensures.kept side.0 c.grown.ensures.within, c.grown-extent.ensures.within) in
    record {
      whole = c.grown-extent.ensures.whole;
      anchor = c.grown-extent.ensures.kept _ (c.grown.ensures.kept _ c.loop-from.invariant.anchor);
      sides = subst (AllByRecursion in_e) (sym (take_more sides c.loop-from.from-index side c.loop-from-test.true))
          (All-push in_e (take c.loop-from.from-index sides) _ so_far (subst in_e c.loop-from-item.is here));
    }

use Rattle.std.proofs.Common.{arith, ◌≡◌, ◌+◌, [], ◌∷◌, drop, length, refl, sym, ap, ◌∙◌, subst}
use Rattle.std.proofs.lemmas.List.{drop_more, drop_all}
use Rattle.half_table.specs.declared.half.Half.{Half}
use Rattle.half_table.specs.Half.{twin}
use Rattle.half_table.specs.Cycle.{exchanged}
use Rattle.half_table.specs.Rows.{next}
use Rattle.half_table.specs.Surgery.{KeepsHalves}
use Rattle.half_table.specs.Count.{ticked}
use Rattle.half_paths.specs.Path.{AreIn}
use Rattle.half_paths.specs.Strung.{along}
use Rattle.half_paths.proofs.Along.{splice-next, keeps-on, keeps-itself, in-kept}
use Rattle.half_paths.proofs.path.splice_along.Goals as goal

pub loop-h-init : goal.loop-h-init
loop-h-init g c = record {
  along = refl;
  within = c.requires.within;
  halves = keeps-itself _;
  linked = c.requires.linked;
  work = refl;
}

pub splice_between-requires-clause-coming_in : goal.splice_between-requires-clause-coming_in
splice_between-requires-clause-coming_in g c = c.loop-h.invariant.within.0

pub splice_between-requires-clause-leaving_in : goal.splice_between-requires-clause-leaving_in
splice_between-requires-clause-leaving_in g c =
    let rest = c.args.rest.now in
    let i = c.loop-h.h-index in
    let item : drop i rest ≡ c.h-item.result ∷ drop (i + 1) rest = drop_more rest i c.h-item.result c.loop-h-test.true ∙ ap (λ x. x ∷ drop (i + 1) rest) (sym c.h-item.is) in
    let here : AreIn c.loop-h.table.rows (c.h-item.result ∷ drop (i + 1) rest) = subst (AreIn c.loop-h.table.rows) item c.loop-h.invariant.within.1 in
    here.0

pub loop-h-preserved : goal.loop-h-preserved
loop-h-preserved g c =
    let rest = c.args.rest.now in
    let i = c.loop-h.h-index in
    let h : Half = c.h-item.result in
    let last : Half = c.loop-h.last in
    let old = c.loop-h.table.rows in
    let new = c.splice_between.new.table.rows in
    let tail = drop (i + 1) rest in
    let item : drop i rest ≡ h ∷ tail = drop_more rest i h c.loop-h-test.true ∙ ap (λ x. x ∷ drop (i + 1) rest) (sym c.h-item.is) in
    let here : AreIn old (h ∷ tail) = subst (AreIn old) item c.loop-h.invariant.within.1 in
    let step : next new ≡ exchanged last (twin h) (next old) = splice-next old new last (twin h) c.splice_between.ensures.spliced in
    let before : along last (h ∷ tail) (next old) ≡ along c.args.first rest (next c.args.table.now.rows) =
    ap (λ l. along last l (next old)) (sym item) ∙ c.loop-h.invariant.along in
    let halves : KeepsHalves old new = c.splice_between.ensures.spliced.halves in
    record {
      along = ap (along h tail) step ∙ before;
      within = in-kept old new (h ∷ tail) halves here;
      halves = keeps-on c.args.table.now.rows old new c.loop-h.invariant.halves halves;
      linked = c.splice_between.ensures.linked;
      work = ap (ticked (length tail)) c.splice_between.ensures.work ∙ ap (λ l. ticked (length l) c.loop-h.table.work) (sym item) ∙ c.loop-h.invariant.work;
    }

pub returns-clause-next : goal.returns-clause-next
returns-clause-next g c =
    let whole : drop c.loop-h.h-index c.args.rest.now ≡ [] = drop_all c.loop-h.h-index c.args.rest.now (omega (arith, c.loop-h-test.false)) in
    ap (λ l. along c.loop-h.last l (next c.loop-h.table.rows)) (sym whole) ∙ c.loop-h.invariant.along

pub returns-clause-halves : goal.returns-clause-halves
returns-clause-halves g c = c.loop-h.invariant.halves

pub returns-clause-linked : goal.returns-clause-linked
returns-clause-linked g c = c.loop-h.invariant.linked

pub returns-clause-work : goal.returns-clause-work
returns-clause-work g c =
    let whole : drop c.loop-h.h-index c.args.rest.now ≡ [] = drop_all c.loop-h.h-index c.args.rest.now (omega (arith, c.loop-h-test.false)) in
    ap (λ l. ticked (length l) c.loop-h.table.work) (sym whole) ∙ c.loop-h.invariant.work

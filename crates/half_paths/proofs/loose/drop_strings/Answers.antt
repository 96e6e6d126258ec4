use Rattle.std.proofs.Common.{arith, ◌≡◌, ◌+◌, [], ◌∷◌, drop, length, refl, sym, ap, ◌∙◌, subst}
use Rattle.std.proofs.lemmas.List.{drop_more, drop_all}
use Rattle.half_table.specs.Count.{ticked}
use Rattle.half_table.specs.declared.half.Half.{Half}
use Rattle.half_table.specs.Rows.{next}
use Rattle.half_paths.specs.Path.{AreIn, AreDifferent}
use Rattle.half_paths.specs.Loose.{AreLoose, DropsStrings}
use Rattle.half_paths.proofs.Dropped.{drops-none, drops-more, loose-left, in-left, is-loose, differ-first, differ-rest}
use Rattle.half_paths.proofs.loose.drop_strings.Goals as goal

pub loop-h-init : goal.loop-h-init
loop-h-init g c = record {
  drops = λ new d. d;
  within = c.requires.within;
  different = c.requires.different;
  loose = c.requires.loose;
  linked = c.requires.linked;
  work = refl;
}

pub remove_loose-requires : goal.remove_loose-requires
remove_loose-requires g c =
    let i = c.loop-h.h-index in
    let h : Half = c.h-item.result in
    let item : drop i c.args.halves.now ≡ h ∷ drop (i + 1) c.args.halves.now =
    drop_more c.args.halves.now i h c.loop-h-test.true ∙ ap (λ x. x ∷ drop (i + 1) c.args.halves.now) (sym c.h-item.is) in
    let there = subst (AreIn c.loop-h.table.rows) item c.loop-h.invariant.within in
    let loose = subst (AreLoose (next c.loop-h.table.rows)) item c.loop-h.invariant.loose in
    is-loose c.loop-h.table.rows h there.0 loose.0.0 loose.0.1

pub loop-h-preserved : goal.loop-h-preserved
loop-h-preserved g c =
    let halves = c.args.halves.now in
    let i = c.loop-h.h-index in
    let h : Half = c.h-item.result in
    let old = c.loop-h.table.rows in
    let new = c.remove_loose.new.self.rows in
    let tail = drop (i + 1) halves in
    let item : drop i halves ≡ h ∷ tail = drop_more halves i h c.loop-h-test.true ∙ ap (λ x. x ∷ drop (i + 1) halves) (sym c.h-item.is) in
    let there : AreIn old (h ∷ tail) = subst (AreIn old) item c.loop-h.invariant.within in
    let loose : AreLoose (next old) (h ∷ tail) = subst (AreLoose (next old)) item c.loop-h.invariant.loose in
    let differ : AreDifferent (h ∷ tail) = subst AreDifferent item c.loop-h.invariant.different in
    let apart = differ-first h tail differ in
    let gone = c.remove_loose.ensures.removes in
    record {
      drops = λ last d. c.loop-h.invariant.drops last (subst (λ l. DropsStrings l old last) (sym item) (drops-more h tail old new last gone d));
      within = in-left h tail old new gone apart there.1;
      different = differ-rest h tail differ;
      loose = loose-left h tail old new gone apart loose.1;
      linked = c.remove_loose.ensures.linked;
      work = ap (ticked (length tail)) c.remove_loose.ensures.work ∙ ap (λ l. ticked (length l) c.loop-h.table.work) (sym item) ∙ c.loop-h.invariant.work;
    }

pub returns-clause-drops : goal.returns-clause-drops
returns-clause-drops g c =
    let whole : drop c.loop-h.h-index c.args.halves.now ≡ [] = drop_all c.loop-h.h-index c.args.halves.now (omega (arith, c.loop-h-test.false)) in
    c.loop-h.invariant.drops c.loop-h.table.rows (subst (λ l. DropsStrings l c.loop-h.table.rows c.loop-h.table.rows) (sym whole) (drops-none c.loop-h.table.rows))

pub returns-clause-linked : goal.returns-clause-linked
returns-clause-linked g c = c.loop-h.invariant.linked

pub returns-clause-work : goal.returns-clause-work
returns-clause-work g c =
    let whole : drop c.loop-h.h-index c.args.halves.now ≡ [] = drop_all c.loop-h.h-index c.args.halves.now (omega (arith, c.loop-h-test.false)) in
    ap (λ l. ticked (length l) c.loop-h.table.work) (sym whole) ∙ c.loop-h.invariant.work

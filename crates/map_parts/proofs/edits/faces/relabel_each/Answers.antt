use Rattle.std.proofs.Common.{arith, ◌≡◌, ◌+◌, [], ◌∷◌, drop, length, refl, sym, ap, ◌∙◌, subst}
use Rattle.std.proofs.lemmas.List.{drop_more, drop_all}
use Rattle.half_table.specs.Count.{ticked}
use Rattle.half_table.specs.declared.half.Half.{Half}
use Rattle.half_table.specs.Rows.{cycle}
use Rattle.half_paths.specs.Path.{AreIn}
use Rattle.half_paths.proofs.Along.{ticked-add}
use Rattle.map_parts.specs.Relabelled.{cycles_length, RelabelsEach}
use Rattle.map_parts.proofs.RelabelledEach.{each-none, each-more, in-relabelled, length-same}
use Rattle.map_parts.proofs.edits.faces.relabel_each.Goals as goal

pub loop-half-init : goal.loop-half-init
loop-half-init g c = record {
  relabels = λ new d. d;
  within = c.requires.within;
  linked = c.requires.linked;
  work = refl;
}

pub relabel-requires : goal.relabel-requires
relabel-requires g c =
    let i = c.loop-half.half-index in
    let h : Half = c.half-item.result in
    let item : drop i c.args.halves.now ≡ h ∷ drop (i + 1) c.args.halves.now =
    drop_more c.args.halves.now i h c.loop-half-test.true ∙ ap (λ x. x ∷ drop (i + 1) c.args.halves.now) (sym c.half-item.is) in
    (subst (AreIn c.loop-half.table.rows) item c.loop-half.invariant.within).0

pub loop-half-preserved : goal.loop-half-preserved
loop-half-preserved g c =
    let halves = c.args.halves.now in
    let i = c.loop-half.half-index in
    let h : Half = c.half-item.result in
    let old = c.loop-half.table.rows in
    let new = c.relabel.new.self.rows in
    let tail = drop (i + 1) halves in
    let item : drop i halves ≡ h ∷ tail = drop_more halves i h c.loop-half-test.true ∙ ap (λ x. x ∷ drop (i + 1) halves) (sym c.half-item.is) in
    let one = c.relabel.ensures.relabels in
    record {
      relabels = λ last d. c.loop-half.invariant.relabels last
          (subst (λ l. RelabelsEach l c.args.face.now old last) (sym item) (each-more h tail c.args.face.now old new last one d));
      within = in-relabelled old new tail one.has (subst (AreIn old) item c.loop-half.invariant.within).1;
      linked = c.relabel.ensures.linked;
      work =
          (λ j. ticked (length-same old new tail one.strings one.next j) (c.relabel.ensures.work j))
          ∙ sym (ticked-add (length (cycle old h)) (cycles_length old tail) c.loop-half.table.work)
          ∙ ap (λ l. ticked (cycles_length old l) c.loop-half.table.work) (sym item) ∙ c.loop-half.invariant.work;
    }

pub returns-clause-relabels : goal.returns-clause-relabels
returns-clause-relabels g c =
    let whole : drop c.loop-half.half-index c.args.halves.now ≡ [] = drop_all c.loop-half.half-index c.args.halves.now (omega (arith, c.loop-half-test.false)) in
    c.loop-half.invariant.relabels c.loop-half.table.rows (subst (λ l. RelabelsEach l c.args.face.now c.loop-half.table.rows c.loop-half.table.rows) (sym whole) (each-none c.args.face.now c.loop-half.table.rows))

pub returns-clause-linked : goal.returns-clause-linked
returns-clause-linked g c = c.loop-half.invariant.linked

pub returns-clause-work : goal.returns-clause-work
returns-clause-work g c =
    let whole : drop c.loop-half.half-index c.args.halves.now ≡ [] = drop_all c.loop-half.half-index c.args.halves.now (omega (arith, c.loop-half-test.false)) in
    ap (λ l. ticked (cycles_length c.loop-half.table.rows l) c.loop-half.table.work) (sym whole) ∙ c.loop-half.invariant.work

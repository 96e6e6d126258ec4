use Rattle.std.proofs.Common.{◌≡◌, ◌∙◌, ap, subst, sym, true≢false}
use Rattle.std.proofs.lemmas.Result.{on_ok_weaker}
use Rattle.cad_map.specs.Effects.{after}
use Rattle.cad_map.specs.Outcome.{refused, out_of_memory, breaking}
use Rattle.cad_map.specs.Touched.{IsTouched}
use Rattle.cad_near.specs.KeptAreas.{HoldsAreas}
use Rattle.cad_near.specs.Near.{HoldsMap, touched_of}
use Rattle.cad_map.specs.Valid.{IsValid, CanBeTested, FirstBroken, KeepsAll}
use Rattle.cad_map.proofs.CallerLemmas.{valid-from_kept}
use Rattle.map_parts.specs.Parts.{map_of}
use Rattle.edit_records.specs.Record.{edit_of}
use Rattle.cad_surgery.proofs.Played.{tested, valid-untouched, made-of, sure-ok}
use Rattle.cad_surgery.proofs.play.try_rows.Goals as goal

pub returns-in_default-clause-refused : goal.returns-in_default-clause-refused
returns-in_default-clause-refused g c = out_of_memory c.requires.tried.allowed

pub returns-then-not-is_placed-clause-valid : goal.returns-then-not-is_placed-clause-valid
returns-then-not-is_placed-clause-valid g c =
    subst IsValid (sym c.in-Ok.ensures.made)
    (valid-untouched (map_of c.args.draft.now) c.args.edit.now c.requires.tried c.in-Ok.change c.in-Ok.ensures.edit c.requires.alone
    (λ placed. true≢false (sym (c.is_placed.ensures.1 placed) ∙ c.if-not-is_placed.true)))

pub first_broken_near-requires-clause-tested : goal.first_broken_near-requires-clause-tested
first_broken_near-requires-clause-tested g c =
    subst CanBeTested (sym c.in-Ok.ensures.made) (tested (map_of c.args.draft.now) c.args.edit.now c.requires.tried)

pub first_broken_near-requires-clause-held : goal.first_broken_near-requires-clause-held
first_broken_near-requires-clause-held g c =
    subst (λ grid. HoldsMap grid (map_of c.make_rows.new.self)) (sym c.grid.ensures)
    (subst (HoldsMap c.make_rows.new.self.grid) (sym c.in-Ok.ensures.made)
    (subst (λ grid. HoldsMap grid (after (map_of c.args.draft.now) c.args.edit.now)) (sym c.make_rows.ensures.beside.grid) c.requires.held))

pub first_broken_near-requires-clause-areas : goal.first_broken_near-requires-clause-areas
first_broken_near-requires-clause-areas g c =
    subst (HoldsAreas c.args.areas.now) (sym c.in-Ok.ensures.made) c.requires.areas

pub first_broken_near-requires-clause-touched : goal.first_broken_near-requires-clause-touched
first_broken_near-requires-clause-touched g c = record {
  before = map_of c.args.draft.now;
  valid = c.requires.tried.valid;
  touched = subst (λ m. IsTouched (map_of c.args.draft.now) m (touched_of c.args.touched.now)) (sym c.in-Ok.ensures.made) c.requires.touched;
}

pub returns-in-Some-clause-refused : goal.returns-in-Some-clause-refused
returns-in-Some-clause-refused g c =
    refused (breaking c.requires.tried.allowed (subst (λ m. FirstBroken m c.in-Some.rule) c.in-Ok.ensures.made c.in-Some.ensures.broken))

pub returns-clause-valid : goal.returns-clause-valid
returns-clause-valid g c =
    subst IsValid (sym c.in-Ok.ensures.made)
    (valid-from_kept (after (map_of c.args.draft.now) c.args.edit.now) (tested (map_of c.args.draft.now) c.args.edit.now c.requires.tried)
    (subst KeepsAll c.in-Ok.ensures.made c.in_default-first_broken_near.ensures.kept))

pub returns-in-Some-clause-err : goal.returns-in-Some-clause-err
returns-in-Some-clause-err g c =
    let m = map_of c.args.draft.now in
    let change = c.in-Ok.change in
    let made = made-of m c.args.edit.now c.requires.tried change c.in-Ok.ensures.edit c.in-Ok.ensures.holds in
    let is : map_of c.make_rows.new.self ≡ after m (edit_of change) = c.in-Ok.ensures.made ∙ ap (after m) (sym c.in-Ok.ensures.edit) in
    sure-ok c.unmake_rows.result (c.unmake_rows.ensures.sure (c.is_placed.ensures.0 c.if-not-is_placed.false))
    (on_ok_weaker c.unmake_rows.result (λ f. f m made is) c.unmake_rows.ensures.before)

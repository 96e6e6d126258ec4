use Rattle.std.proofs.Common.{◌≡◌, ◌∙◌, sym, ap, take, Some}
use Rattle.std.proofs.lemmas.List.{take_all}
use Rattle.std.proofs.lemmas.Option.{slice_get-get_or}
use Rattle.cad_files.specs.Reports.{ring_record}
use Rattle.cad_files.proofs.TextFacts.{text_of-more}
use Rattle.cad_files.proofs.outline_texts.write_rings.Goals as goal

pub loop-place-preserved : goal.loop-place-preserved
loop-place-preserved c = λ text h.
    let rings = c.args.rings.now in
    let at = slice_get-get_or rings c.loop-place.place _ c.loop-place-test.true ∙ ap Some (sym c.index-rings-place.is) in
    rw (text_of-more (ring_record c.args.face.now c.args.kind.now) rings c.loop-place.place c.index-rings-place.result text c.loop-place-test.true at) (c.in_ok-write_ring.ensures _ (c.loop-place.invariant text h))

pub returns : goal.returns
returns c = λ text h.
    let whole : take c.loop-place.place c.args.rings.now ≡ c.args.rings.now = take_all c.loop-place.place c.args.rings.now c.loop-place-test.false in
    rw whole at (c.loop-place.invariant text h)

use Rattle.std.proofs.Common.{◌≡◌, ◌∙◌, sym, arith}
use Rattle.csv.specs.Records.{fields_of}
use Rattle.cad_session.proofs.PlainFacts.{cut-none, cut-plain, cut-comma, cut-end}
use Rattle.cad_session.proofs.plain.cut_line.Goals as goal
use Rattle.cad_session.proofs.plain.cut_line.Goals.{then-byte-eq44+in_ok-push_field, else-byte-eq44+else-is_mark}

pub loop-place-init : goal.loop-place-init
loop-place-init c = record { from = omega arith; clean = c.new-row.ensures.partial; cut = rw c.new-row.ensures.fields (cut-none c.args.text.now) }

pub loop-place-preserved : goal.loop-place-preserved
loop-place-preserved c = elim c.if-byte-eq44.branch [
  | then-byte-eq44+in_ok-push_field w ↦ record {
    from = omega arith;
    clean = rw w.row-is w.in_ok-push_field.ensures.partial;
    cut = rw (w.row-is, w.start-is, w.in_ok-push_field.ensures.fields, c.loop-place.invariant.clean)
        (cut-comma c.args.text.now c.loop-place.start c.loop-place.place (fields_of c.loop-place.row) (omega arith) w.if-byte-eq44.true c.loop-place.invariant.cut);
  }
  | else-byte-eq44+else-is_mark w ↦ record {
    from = omega arith;
    clean = rw w.row-is c.loop-place.invariant.clean;
    cut = rw (w.row-is, w.start-is)
        (cut-plain c.args.text.now c.loop-place.start c.loop-place.place (fields_of c.loop-place.row) c.loop-place.invariant.from (omega arith) w.if-byte-eq44.false (sym w.is_mark.ensures ∙ w.if-is_mark.false)
        c.loop-place.invariant.cut);
  }
]

pub returns : goal.returns
returns c =
    let ended : c.loop-place.place ≡ c.args.end = omega arith in
    rw (c.in_ok-push_field-2.ensures.fields, c.loop-place.invariant.clean)
    (cut-end c.args.text.now c.loop-place.start c.args.end (fields_of c.loop-place.row) c.requires.some c.requires.ends (rw ended at c.loop-place.invariant.cut))

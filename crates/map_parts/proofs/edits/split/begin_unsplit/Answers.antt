use Rattle.std.proofs.Common.{◌∙◌, ◌+◌, length}
use Rattle.half_table.specs.Half.{forward_of, backward_of}
use Rattle.half_table.specs.Rows.{cycle}
use Rattle.map_parts.proofs.TicksAdded.{two-steps}
use Rattle.map_parts.proofs.Passing.Begun.{string-ready}
use Rattle.map_parts.proofs.Passing.SplitBegun.{back-can}
use Rattle.map_parts.proofs.edits.split.begin_unsplit.Goals as goal

pub add_string-requires : goal.add_string-requires
add_string-requires g c = record { linked = c.requires.fits.fits.local.linked; new = c.requires.new }

pub unsplit-requires : goal.unsplit-requires
unsplit-requires g c =
    let added = c.add_string.ensures in
    let ok = c.in_ok-add_string.ensures in
    back-can c.requires (string-ready c.requires.fits c.requires.new added.rows ok.adds added.linked) ok.slot

pub returns-clause-fits : goal.returns-clause-fits
returns-clause-fits g c = λ can.
    let added = c.add_string.ensures in
    let ok = c.in_ok-add_string.ensures in
    c.unsplit.ensures.fits (back-can can (string-ready can.fits can.new added.rows ok.adds added.linked) ok.slot)

pub returns-clause-has : goal.returns-clause-has
returns-clause-has g c = λ h. c.unsplit.ensures.has h ∙ c.in_ok-add_string.ensures.adds.has h

pub returns-clause-work : goal.returns-clause-work
returns-clause-work g c =
    let done = c.unsplit.new.table.rows in
    let ring = length (cycle done (forward_of c.args.row.number)) + length (cycle done (backward_of c.args.row.number)) + 5 in
    two-steps 1 ring c.args.table.now.work c.in_ok-add_string.ensures.work c.unsplit.ensures.work

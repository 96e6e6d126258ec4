use Rattle.cad_map.proofs.CallerLemmas.{whole_valid}
use Rattle.cad_surgery.proofs.Built.{built-fit, built-map}
use Rattle.cad_surgery.proofs.draft.Draft.of.Goals as goal

pub add_strings-requires-clause-whole : goal.add_strings-requires-clause-whole
add_strings-requires-clause-whole g c = whole_valid c.args.map c.requires

pub link_rings-requires-clause-whole : goal.link_rings-requires-clause-whole
link_rings-requires-clause-whole g c = whole_valid c.args.map c.requires

pub grid_of-requires : goal.grid_of-requires
grid_of-requires g c = c.requires.sound.v1

pub into_rows-requires : goal.into_rows-requires
into_rows-requires g c = c.requires.sound.v1.retired.distinct

pub invariant_of-result : goal.invariant_of-result
invariant_of-result g c =
    let strings = c.link_rings.ensures.strings in
    rw c.close-table.ensures (built-fit c.args.map (whole_valid c.args.map c.requires) c.link_rings.new.table c.in_ok-kept.kept c.add_strings.new.stars c.in_ok-grid.grid strings c.in_ok-kept.ensures.local c.in_ok-kept.ensures.labelled (c.in_ok-kept.ensures.kept c.link_rings.new.table.rows strings) _ c.in_ok-rows.ensures)

pub returns-clause-is : goal.returns-clause-is
returns-clause-is g c =
    let strings = c.link_rings.ensures.strings in
    rw c.close-table.ensures (built-map c.args.map (whole_valid c.args.map c.requires) c.link_rings.new.table c.in_ok-kept.kept c.add_strings.new.stars c.in_ok-grid.grid strings c.in_ok-kept.ensures.local c.in_ok-kept.ensures.labelled (c.in_ok-kept.ensures.kept c.link_rings.new.table.rows strings) _ c.in_ok-rows.ensures)

pub returns-clause-fit : goal.returns-clause-fit
returns-clause-fit g c =
    let strings = c.link_rings.ensures.strings in
    rw c.close-table.ensures (built-fit c.args.map (whole_valid c.args.map c.requires) c.link_rings.new.table c.in_ok-kept.kept c.add_strings.new.stars c.in_ok-grid.grid strings c.in_ok-kept.ensures.local c.in_ok-kept.ensures.labelled (c.in_ok-kept.ensures.kept c.link_rings.new.table.rows strings) _ c.in_ok-rows.ensures)

pub returns-clause-halves : goal.returns-clause-halves
returns-clause-halves g c = rw c.close-table.ensures c.link_rings.ensures.strings.has

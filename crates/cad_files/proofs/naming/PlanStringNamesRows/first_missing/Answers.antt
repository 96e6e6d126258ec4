use Rattle.std.proofs.Common.{sym}
use Rattle.cad_rows.specs.declared.names.Name.TheVariants as name
use Rattle.cad_files.specs.Building.{names_of_face, sources_named}
use Rattle.cad_files.proofs.NameFacts.{missing-five}
use Rattle.cad_files.proofs.naming.PlanStringNamesRows.first_missing.Goals as goal

pub returns : goal.returns
returns c =
    let string = c.args.self.now in
    let row = string.row in
    rw (
      c.or-4.ensures,
      c.or-3.ensures,
      c.or-2.ensures,
      c.or.ensures,
      c.missing_point-from.ensures,
      c.missing_point-to.ensures,
      c.missing_face-left.ensures,
      c.missing_face-right.ensures,
      c.missing_source-source.ensures,
      c.as_slice.ensures,
    )
    (sym (missing-five c.args.plain.now (name.Point row.from) (name.Point row.to) (names_of_face string.left) (names_of_face string.right) (sources_named row.sources)))

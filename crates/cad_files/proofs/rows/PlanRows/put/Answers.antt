use Rattle.std.proofs.Common.{rules}
use Rattle.std.proofs.lemmas.List.Elements.{All-push}
use Rattle.cad_files.specs.Rows.{IsPlanString, IsSourceList, sources_of}
use Rattle.cad_files.specs.declared.rows.PlanRow.TheVariants.{String}
use Rattle.cad_files.proofs.rows.PlanRows.put.Goals as goal

pub invariant_of-self-in-Continue-branch-4 : goal.invariant_of-self-in-Continue-branch-4
invariant_of-self-in-Continue-branch-4 c =
    let was = c.self.invariant in
    let room = rw c.in-String.is at c.requires.room in
    let few : IsSourceList (sources_of (String c.in-String.row)) = rw c.in-String.is at c.requires.sources in
    let here : IsPlanString c.in-String.row = search rules in
    record {
      sources = was.sources;
      points = was.points;
      parcels = was.parcels;
      strings = rw c.in_ok-push-in-String.ensures.items (All-push IsPlanString c.self.inside.strings.items c.in-String.row was.strings here);
      retired = was.retired;
      few_sources = was.few_sources;
      few_points = was.few_points;
      few_parcels = was.few_parcels;
      few_strings = search rules;
      few_retired = was.few_retired;
    }

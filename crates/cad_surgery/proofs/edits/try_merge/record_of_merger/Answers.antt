use Rattle.std.proofs.Common.{ap, sym}
use Rattle.cad_surgery.specs.declared.edits.merging.Way.{Way}
use Rattle.cad_surgery.specs.ToldMergers.{merger_record}
use Rattle.cad_surgery.proofs.edits.try_merge.record_of_merger.Goals as goal

pub returns-in-Along : goal.returns-in-Along
returns-in-Along c =
    ap (λ (w : Way). merger_record w c.args.kept c.args.row c.args.place c.args.shared.points c.args.strings c.args.shared.moved) (sym c.in-Along.is)

pub returns : goal.returns
returns c =
    ap (λ (w : Way). merger_record w c.args.kept c.args.row c.args.place c.args.shared.points c.args.strings c.args.shared.moved) (sym c.in-Round.is)

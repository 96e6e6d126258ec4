use Rattle.std.proofs.Common.{◌∙◌, refl}
use Rattle.cad_files.proofs.writing.writer.Goals as goal

pub returns : goal.returns
returns c =
    let from = c.from_writer.ensures in
    record { setup = from.cfg ∙ c.new.ensures; between = from.fields; clean = from.wrote; written = rw (from.empty, from.wtr, c.new-2.ensures.items) refl }

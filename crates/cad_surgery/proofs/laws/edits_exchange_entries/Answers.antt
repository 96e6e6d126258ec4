use Rattle.edit_records.proofs.EditExchanges.{exchanged}
use Rattle.cad_surgery.proofs.laws.edits_exchange_entries.Goals as goal

pub returns : goal.returns
returns c = exchanged

use Rattle.std.proofs.Common.{◌≡◌, ◌∙◌, refl, sym, Option, Some, None, List, ℕ}
use Rattle.std.specs.Borrow.{Bor}
use Rattle.std.specs.Prelude.{IsSome, option_map}
use Rattle.csv.specs.Records.{fields_of}
use Rattle.csv.proofs.RecordFacts.{field-there}
use Rattle.cad_files.proofs.fields.field.Goals as goal

some-unless : (o : Option (Bor (List ℕ))) → ¬ (option_map (λ s. s.now) o ≡ None) → IsSome o
some-unless None not_none = absurd (not_none refl)
some-unless (Some x) not_none = refl

pub unwrap-requires : goal.unwrap-requires
unwrap-requires c = some-unless c.get.result (λ none. field-there (fields_of c.args.row.now) c.args.place c.requires (sym c.get.ensures.value ∙ none))

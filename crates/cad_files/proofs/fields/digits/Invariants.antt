use Rattle.std.proofs.Common.{◌≡◌, ◌<◌, ◌^◌, drop}
use Rattle.cad_files.specs.Fields.{digits_from}
use Rattle.cad_files.proofs.fields.digits.Given as goal

abbrev pub invariant-loop-digit : goal.invariant-loop-digit
invariant-loop-digit l = (digits_from l.value (drop l.digit-index l.text) ≡ digits_from 0 l.text) × (l.value < 10 ^ l.digit-index)

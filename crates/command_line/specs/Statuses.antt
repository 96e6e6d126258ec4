-- The statuses with which a program ends after arguments that were not read.
use Rattle.std.specs.Prelude.{ℕ}
use Rattle.clap.specs.declared.error.kind.ErrorKind.{ErrorKind}
use Rattle.clap.specs.declared.error.kind.ErrorKind.TheVariants as kinds

-- help or the version that was asked for is no fault
abbrev pub status_of_kind : ErrorKind → ℕ
status_of_kind kinds.DisplayHelp = 0
status_of_kind kinds.DisplayVersion = 0
status_of_kind kinds.OutOfMemory = 5
status_of_kind _ = 64

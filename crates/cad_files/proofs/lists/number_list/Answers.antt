use Rattle.std.proofs.Common.{arith}
use Rattle.cad_files.proofs.RepeatedSources.{unrepeated}
use Rattle.cad_files.proofs.lists.number_list.Goals as goal

-- a list of numbers fits in memory, and it is told what is so
pub told-requires : goal.told-requires
told-requires g c = (omega arith, rw (c.in_ok-again.ensures, c.as_slice.ensures) (unrepeated c.in-Some.list))

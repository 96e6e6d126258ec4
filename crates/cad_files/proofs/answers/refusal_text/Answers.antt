use Rattle.cad_files.proofs.answers.refusal_text.Goals as goal

pub returns-in-NoChange : goal.returns-in-NoChange
returns-in-NoChange c = rw c.in-NoChange.is c.refused-in-NoChange.ensures

pub returns-in-BadChain : goal.returns-in-BadChain
returns-in-BadChain c = rw c.in-BadChain.is c.refused-in-BadChain.ensures

pub returns-in-ChainJoinsRings : goal.returns-in-ChainJoinsRings
returns-in-ChainJoinsRings c = rw c.in-ChainJoinsRings.is c.refused-in-ChainJoinsRings.ensures

pub returns-in-NotNeighbours : goal.returns-in-NotNeighbours
returns-in-NotNeighbours c = rw c.in-NotNeighbours.is c.refused-in-NotNeighbours.ensures

pub returns-in-AlreadyAttached : goal.returns-in-AlreadyAttached
returns-in-AlreadyAttached c = rw c.in-AlreadyAttached.is c.refused-in-AlreadyAttached.ensures

pub returns-in-NotInParcel : goal.returns-in-NotInParcel
returns-in-NotInParcel c = rw c.in-NotInParcel.is (rw c.get-in-NotInParcel.ensures.value at c.refused_row-in-NotInParcel.ensures)

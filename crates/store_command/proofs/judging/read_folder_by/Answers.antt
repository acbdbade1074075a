use Rattle.store_command.proofs.judging.read_folder_by.Goals as goal

pub returns-in-Err-clause-err : goal.returns-in-Err-clause-err
returns-in-Err-clause-err g c = (c.in-Err.fault, c.in-Err.ensures.err, c.told_as.ensures)

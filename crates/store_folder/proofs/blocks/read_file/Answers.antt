use Rattle.store_folder.proofs.blocks.read_file.Goals as goal

pub returns-in-Some-clause-untouched : goal.returns-in-Some-clause-untouched
returns-in-Some-clause-untouched g c =
    record { all = c.read.ensures.all; time = c.read.ensures.time }

pub returns-in-None-clause-untouched : goal.returns-in-None-clause-untouched
returns-in-None-clause-untouched g c =
    record { all = c.read.ensures.all; time = c.read.ensures.time }

pub returns-in-Err-clause-untouched : goal.returns-in-Err-clause-untouched
returns-in-Err-clause-untouched g c =
    record { all = c.read.ensures.all; time = c.read.ensures.time }

use Rattle.store_folder.proofs.stale_blocks.has_blocks.Goals as goal

pub returns-in-Ok-clause-untouched : goal.returns-in-Ok-clause-untouched
returns-in-Ok-clause-untouched g c =
    record { all = c.names.ensures.all; time = c.names.ensures.time }

pub returns-in-Err-clause-untouched : goal.returns-in-Err-clause-untouched
returns-in-Err-clause-untouched g c =
    record { all = c.names.ensures.all; time = c.names.ensures.time }

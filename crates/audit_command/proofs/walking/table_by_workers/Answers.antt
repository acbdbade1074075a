use Rattle.audit_command.proofs.walking.table_by_workers.Goals as goal

pub returns-in-Ok : goal.returns-in-Ok
returns-in-Ok g c =
    rw (c.as_slice.ensures.value, c.as_slice-2.ensures.value) at c.in-Ok.ensures.found

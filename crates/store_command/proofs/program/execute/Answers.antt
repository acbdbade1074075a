use Rattle.std.proofs.Common.{refl}
use Rattle.audit_command.proofs.Endings.{keeps_itself}
use Rattle.store_command.specs.Running.{by_task, by_memory}
use Rattle.store_command.proofs.program.execute.Goals as goal

pub returns-in-Ok-clause-ends : goal.returns-in-Ok-clause-ends
returns-in-Ok-clause-ends g c = λ taken. by_task c.in-Ok.task c.in-Ok.ensures.ok c.do_task.ensures

pub returns-in-OutOfMemory-clause-ends : goal.returns-in-OutOfMemory-clause-ends
returns-in-OutOfMemory-clause-ends g c = λ taken. by_memory refl (keeps_itself _)

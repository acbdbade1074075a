use Rattle.std.proofs.Common.{refl}
use Rattle.audit_command.proofs.Endings.{keeps_itself}
use Rattle.explain.specs.Running.{by_page, by_memory}
use Rattle.explain.proofs.program.execute.Goals as goal

pub returns-in-Ok-clause-ends : goal.returns-in-Ok-clause-ends
returns-in-Ok-clause-ends g c = λ taken. by_page c.in-Ok.asked c.in-Ok.ensures.ok c.write_answer.ensures

pub returns-in-OutOfMemory-clause-ends : goal.returns-in-OutOfMemory-clause-ends
returns-in-OutOfMemory-clause-ends g c = λ taken. by_memory refl (keeps_itself _)

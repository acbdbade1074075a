use Rattle.std.proofs.Common.{arith}
use Rattle.event_text.proofs.Spelled.{on_ok}
use Rattle.event_text.proofs.writing.put_run.Goals as goal

pub returns-clause-spelled : goal.returns-clause-spelled
returns-clause-spelled c =
    let set = c.in_ok-put_labels.ensures.spelled in
    on_ok c.put_samples.result _ _
    (λ samples. record { pairs = set.0; label_set = set.1; samples = samples; filled = omega arith })
    c.put_samples.ensures.spelled

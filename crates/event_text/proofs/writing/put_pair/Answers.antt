use Rattle.event_text.proofs.Spelled.{on_ok}
use Rattle.event_text.proofs.writing.put_pair.Goals as goal

pub returns-clause-spelled : goal.returns-clause-spelled
returns-clause-spelled c =
    on_ok c.put_string-2.result _ _
    (λ value. record { name = c.in_ok-put_string.ensures.spelled; value = value })
    c.put_string-2.ensures.spelled

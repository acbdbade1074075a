use Rattle.std.proofs.Common.{sym, ◌∙◌, true≢false}
use Rattle.requests.proofs.JsonTexts.{json_when, json_unless}
use Rattle.requests.proofs.values.json_of.Goals as goal

pub returns-in-Ok : goal.returns-in-Ok
returns-in-Ok c = json_when _ _ c.in-Ok.ensures.ok.0 c.in-Ok.ensures.ok.1

pub returns-else-is_memory : goal.returns-else-is_memory
returns-else-is_memory c =
    json_unless _ (c.in-Err.ensures.err (λ m. true≢false (sym (c.is_memory.ensures.1 m)
    ∙ c.if-is_memory.false)))

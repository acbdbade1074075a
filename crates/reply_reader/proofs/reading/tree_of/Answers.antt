use Rattle.std.proofs.Common.{sym, ◌∙◌, true≢false}
use Rattle.reply_reader.proofs.Replying.{tree_when, tree_unless}
use Rattle.reply_reader.proofs.reading.tree_of.Goals as goal

pub returns-in-Ok : goal.returns-in-Ok
returns-in-Ok c = tree_when _ _ c.in-Ok.ensures.ok.0 c.in-Ok.ensures.ok.1

pub returns-else-is_memory : goal.returns-else-is_memory
returns-else-is_memory c =
    tree_unless _
    (c.in-Err.ensures.err (λ m. true≢false (sym (c.is_memory.ensures.1 m) ∙ c.if-is_memory.false)))

use Rattle.store_folder.proofs.Starts.{head_text}
use Rattle.store_folder.proofs.heads.head_journal.Goals as goal

pub returns-clause-text : goal.returns-clause-text
returns-clause-text c =
    head_text c.in-Ok.contents.items _ c.args.head.now c.file_text.result c.deref.ensures.value
    c.in-Ok.ensures.texts c.file_text.ensures.text

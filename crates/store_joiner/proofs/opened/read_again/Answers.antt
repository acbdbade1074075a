use Rattle.std.proofs.Common.{Option, subst}
use Rattle.std.specs.Prelude.{Ok, Result}
use Rattle.store_folder.specs.Faults.{GivesStore}
use Rattle.store_folder.specs.declared.error.StartError.{StartError}
use Rattle.store_folder.specs.declared.reading.FoundStore.{FoundStore}
use Rattle.store_joiner.proofs.opened.read_again.Goals as goal

abbrev given : Option FoundStore → Result (Option FoundStore) StartError
given o = Ok o

pub returns-then-is_empty-clause-only : goal.returns-then-is_empty-clause-only
returns-then-is_empty-clause-only g c tells saved parts events h =
    let f = g.F.Folder in
    subst (λ (o : Option FoundStore).
    GivesStore (f.failed c.read_store.new.folder) saved parts events (given o)) c.in-Some.is
    (c.in-Ok.ensures.only tells h.file saved parts events h.has h.journal h.blocks)

use Rattle.std.proofs.Common.{List, ℕ, Vec, subst, sym}
use Rattle.std.specs.declared.alloc.Global.{Global}
use Rattle.journal.specs.Contents.{contents_in}
use Rattle.store_folder.specs.Journals.{AreContents, DeniesContents}
use Rattle.store_folder.proofs.journals.of_recovered.Goals as goal

pub returns-in-Ok-clause-found : goal.returns-in-Ok-clause-found
returns-in-Ok-clause-found c =
    subst (λ (vs : List (Vec ℕ Global)). AreContents (contents_in vs) c.in-Ok.head
    c.in-Ok.events.items c.read_contents.new.names) c.deref.ensures.value c.in-Ok.ensures.found

pub returns-in-Ok-clause-only : goal.returns-in-Ok-clause-only
returns-in-Ok-clause-only c saved events after h =
    c.in-Ok.ensures.only saved events after
    (subst (λ (vs : List (Vec ℕ Global)). AreContents (contents_in vs) saved events after)
    (sym c.deref.ensures.value) h)

pub returns-clause-only : goal.returns-clause-only
returns-clause-only c saved events after h =
    c.in-Err.ensures.only saved events after
    (subst (λ (vs : List (Vec ℕ Global)). AreContents (contents_in vs) saved events after)
    (sym c.deref.ensures.value) h)

pub returns-clause-refused : goal.returns-clause-refused
returns-clause-refused c =
    subst (λ (vs : List (Vec ℕ Global)). DeniesContents (contents_in vs) c.in-Err.error)
    c.deref.ensures.value c.in-Err.ensures.refused

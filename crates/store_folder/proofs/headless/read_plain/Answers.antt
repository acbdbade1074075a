use Rattle.std.proofs.Common.{List, ℕ, Vec, subst}
use Rattle.std.specs.declared.alloc.Global.{Global}
use Rattle.event_journal.specs.Naming.{Spell}
use Rattle.journal.specs.Contents.{contents_in}
use Rattle.store_folder.specs.Plain.{DeniesEvents}
use Rattle.store_folder.proofs.Plains.{events_denied, plain_found}
use Rattle.store_folder.proofs.headless.read_plain.Goals as goal

pub returns-in-Ok-plain_events-clause-found : goal.returns-in-Ok-plain_events-clause-found
returns-in-Ok-plain_events-clause-found c =
    let r = c.in-Ok.recovered in
    let events = c.in-Ok-plain_events.events.items in
    let names = c.plain_events.new.names in
    plain_found c.args.file.now (contents_in r.contents.items) events names r.len
    c.in-Ok.ensures.found
    (subst (λ (vs : List (Vec ℕ Global)). Spell (contents_in vs) events names)
    c.deref.ensures.value c.in-Ok-plain_events.ensures.found)
    c.in-Ok-plain_events.ensures.some c.in-Ok.ensures.len

pub returns-in-Err-plain_events-clause-refused : goal.returns-in-Err-plain_events-clause-refused
returns-in-Err-plain_events-clause-refused c =
    let e = c.in-Err-plain_events.error in
    events_denied c.args.file.now (contents_in c.in-Ok.recovered.contents.items) e
    c.in-Ok.ensures.found
    (subst (λ (vs : List (Vec ℕ Global)). DeniesEvents (contents_in vs) e) c.deref.ensures.value
    c.in-Err-plain_events.ensures.refused)

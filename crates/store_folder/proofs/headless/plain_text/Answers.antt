use Rattle.std.proofs.Common.{List, ℕ, Vec, subst}
use Rattle.std.specs.declared.alloc.Global.{Global}
use Rattle.event_journal.specs.Naming.{Spell}
use Rattle.head.specs.Worlds.{Event}
use Rattle.journal.specs.Contents.{contents_in}
use Rattle.store_folder.specs.Plain.{AreAdmitted, DeniesAdmitting, DeniesEvents}
use Rattle.store_folder.proofs.Plains.{events_denied, plain_denied, plain_headed}
use Rattle.store_folder.proofs.headless.plain_text.Goals as goal

pub returns-in-Ok-text_with_head-clause-found : goal.returns-in-Ok-text_with_head-clause-found
returns-in-Ok-text_with_head-clause-found c =
    let r = c.in-Ok.recovered in
    let events = c.in-Ok-plain_events.events.items in
    let names = c.plain_events.new.names in
    plain_headed c.args.file.now (contents_in r.contents.items) events names
    c.in-Ok-text_with_head.text.items c.in-Ok.ensures.found
    (subst (λ (vs : List (Vec ℕ Global)). Spell (contents_in vs) events names)
    c.deref.ensures.value c.in-Ok-plain_events.ensures.found)
    c.in-Ok-plain_events.ensures.some c.in-Ok-text_with_head.ensures.text

pub returns-in-Err-plain_events-clause-refused : goal.returns-in-Err-plain_events-clause-refused
returns-in-Err-plain_events-clause-refused c =
    let e = c.in-Err-plain_events.error in
    events_denied c.args.file.now (contents_in c.in-Ok.recovered.contents.items) e
    c.in-Ok.ensures.found
    (subst (λ (vs : List (Vec ℕ Global)). DeniesEvents (contents_in vs) e) c.deref.ensures.value
    c.in-Err-plain_events.ensures.refused)

pub returns-in-Err-admit-clause-refused : goal.returns-in-Err-admit-clause-refused
returns-in-Err-admit-clause-refused c =
    let events = c.in-Ok-plain_events.events.items in
    let names = c.plain_events.new.names in
    let e = c.in-Err-admit.error in
    plain_denied c.args.file.now (contents_in c.in-Ok.recovered.contents.items) events names e
    c.in-Ok.ensures.found
    (subst (λ (vs : List (Vec ℕ Global)). Spell (contents_in vs) events names)
    c.deref.ensures.value c.in-Ok-plain_events.ensures.found)
    (subst (λ (es : List Event). DeniesAdmitting es e) c.deref-2.ensures.value
    c.in-Err-admit.ensures.refused)

pub returns-in-Ok-text_with_head-clause-admitted : goal.returns-in-Ok-text_with_head-clause-admitted
returns-in-Ok-text_with_head-clause-admitted c =
    subst (λ (es : List Event). AreAdmitted es) c.deref-2.ensures.value
    c.in-Ok-admit.ensures.admitted

use Rattle.std.proofs.Common.{◌∷◌, [], Err, List, Ok, subst, sym, ℕ}
use Rattle.event_text.specs.Outcome.{FollowsFrom}
use Rattle.event_text.specs.Reading.{event_of}
use Rattle.event_text.specs.Spelling.{Spells}
use Rattle.numbered_text.specs.Reading.{plain_of}
use Rattle.event_journal.specs.Naming.{FollowsPlain}
use Rattle.event_journal.specs.Outcome.{MayRefuse}
use Rattle.event_journal.specs.declared.error.ContentError.{ContentError}
use Rattle.event_journal.specs.declared.error.ContentError.TheVariants.{Event as of_event}
use Rattle.event_journal.proofs.Lists.{may_refuse, no_text, only_memory, read_as, refusal, spells_by}
use Rattle.event_journal.proofs.Lists.{text_is}
use Rattle.event_journal.proofs.events.event_by.Goals as goal

pub returns-in-Ok-read_event-clause-found : goal.returns-in-Ok-read_event-clause-found
returns-in-Ok-read_event-clause-found c =
    let e = c.in-Ok-read_event.event in
    spells_by c.args.names.now c.plain_text.new.names c.args.content.now c.in-Ok.text.items e
    c.in-Ok.ensures
    (subst (λ (t : List ℕ). Spells t e) c.deref.ensures.value c.in-Ok-read_event.ensures.found)

pub returns-in-Ok-read_event-clause-refused : goal.returns-in-Ok-read_event-clause-refused
returns-in-Ok-read_event-clause-refused c =
    let e = c.in-Ok-read_event.event in
    read_as c.args.names.now c.plain_text.new.names c.args.content.now c.in-Ok.text.items (Ok e)
    c.in-Ok.ensures
    (subst (λ (t : List ℕ). FollowsFrom (event_of t) (Ok e)) c.deref.ensures.value
    c.in-Ok-read_event.ensures.exact)

pub returns-in-Ok-clause-only : goal.returns-in-Ok-clause-only
returns-in-Ok-clause-only c e after s =
    may_refuse e c.in-Err-read_event.error
    (c.in-Err-read_event.ensures.only e
    (subst (λ (t : List ℕ). Spells t e) (sym c.deref.ensures.value)
    (text_is c.args.names.now c.plain_text.new.names after c.args.content.now c.in-Ok.text.items e
    c.in-Ok.ensures s)))

pub returns-in-Ok-clause-refused : goal.returns-in-Ok-clause-refused
returns-in-Ok-clause-refused c =
    let error = c.in-Err-read_event.error in
    read_as c.args.names.now c.plain_text.new.names c.args.content.now c.in-Ok.text.items
    (refusal (of_event error)) c.in-Ok.ensures
    (subst (λ (t : List ℕ). FollowsFrom (event_of t) (Err error)) c.deref.ensures.value
    c.in-Err-read_event.ensures.exact)

pub returns-clause-only : goal.returns-clause-only
returns-clause-only c e after s =
    subst (MayRefuse (e ∷ [])) (sym c.content_error.ensures)
    (only_memory c.in-Err.error c.args.names.now after c.args.content.now e c.in-Err.ensures s)

pub returns-clause-refused : goal.returns-clause-refused
returns-clause-refused c =
    let read = plain_of c.args.names.now c.args.content.now in
    subst (λ (error : ContentError). FollowsPlain read (refusal error))
    (sym c.content_error.ensures) (no_text c.in-Err.error read c.in-Err.ensures)

use Rattle.std.proofs.Common.{◌≡◌, ◌<◌, ◌+◌, ℕ, List, [], length, get_or, sym, subst, take, arith}
use Rattle.std.proofs.Common.{rules}
use Rattle.head.specs.Worlds.{Event}
use Rattle.journal.specs.Contents.{contents_in}
use Rattle.event_journal.specs.Naming.{Spell, SpellsBy}
use Rattle.event_journal.specs.Outcome.{RefusesAt}
use Rattle.event_journal.proofs.Lists.{refuses_at, same_events, spell_more, spell_whole, spelled_at}
use Rattle.event_journal.proofs.events.read_events.Goals as goal

pub loop-content-init : goal.loop-content-init
loop-content-init c = rw c.new-events.ensures.items (sym c.requires)

pub loop-content-preserved : goal.loop-content-preserved
loop-content-preserved c =
    let vs = c.args.contents.now in
    let l = c.loop-content in
    let i = l.content-index in
    let v = c.content-item.result in
    let lt : i < length vs = omega (arith, c.loop-content-test.true) in
    let is : c.deref.result.now ≡ (get_or vs i v).items = search rules in
    let done = c.in-Ok.ensures.ok in
    subst (λ (events : List Event). Spell (contents_in (take (i + 1) vs)) events
    c.push_event.new.names) (sym done.2)
    (spell_more vs i v c.deref.result.now l.events.items done.0 l.names c.push_event.new.names lt
    is l.invariant done.1)

pub returns-in-Err-clause-only : goal.returns-in-Err-clause-only
returns-in-Err-clause-only c events after s =
    let vs = c.args.contents.now in
    let l = c.loop-content in
    let i = l.content-index in
    let v = c.content-item.result in
    let lt : i < length vs = omega (arith, c.loop-content-test.true) in
    let r = spelled_at vs i v [] l.names after l.events.items events lt l.invariant s in
    let is : c.deref.result.now ≡ (get_or vs i v).items = search rules in
    r.among c.in-Err.error
    (c.in-Err.ensures.only r.event r.after
    (subst (λ (x : List ℕ). SpellsBy l.names x r.event r.after) (sym is) r.spells))

pub returns-in-Err-clause-refused : goal.returns-in-Err-clause-refused
returns-in-Err-clause-refused c =
    let vs = c.args.contents.now in
    let l = c.loop-content in
    let i = l.content-index in
    let v = c.content-item.result in
    let lt : i < length vs = omega (arith, c.loop-content-test.true) in
    let is : c.deref.result.now ≡ (get_or vs i v).items = search rules in
    let n : c.len-at.result ≡ length l.events.items = search rules in
    subst (λ (n : ℕ). RefusesAt (contents_in vs) n c.in-Err.error) (sym n)
    (refuses_at vs i v c.deref.result.now l.events.items l.names c.in-Err.error lt is
    l.invariant c.in-Err.ensures.refused)

pub returns-clause-found : goal.returns-clause-found
returns-clause-found c =
    let vs = c.args.contents.now in
    let l = c.loop-content in
    let past : length vs ≡ l.content-index =
    omega (arith, c.loop-content-test.false, l.auto.content-index-end) in
    spell_whole vs l.content-index l.events.items l.names past l.invariant

pub returns-clause-only : goal.returns-clause-only
returns-clause-only c events after s =
    let vs = c.args.contents.now in
    let l = c.loop-content in
    let past : length vs ≡ l.content-index =
    omega (arith, c.loop-content-test.false, l.auto.content-index-end) in
    same_events (contents_in vs) l.events.items events l.names after
    (spell_whole vs l.content-index l.events.items l.names past l.invariant) s

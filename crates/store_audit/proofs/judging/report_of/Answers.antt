use Rattle.std.proofs.Common.{◌≡◌, ℕ, List, None, Some, length, take, refl, sym, ap, ◌∙◌, if◌then◌else◌}
use Rattle.std.proofs.lemmas.List.{length-map, take-map}
use Rattle.kept_walk.specs.Kept.{Event, event_of}
use Rattle.kept_walk.specs.declared.journal_state.Change.{Change}
use Rattle.kept_world.specs.Changes.{LeadsTo, events_of}
use Rattle.kept_world.specs.States.{State, state_after}
use Rattle.whole_audit.specs.declared.lines.StateLine.{StateLine}
use Rattle.store_audit.specs.Reports.{first_in, has_right_rows}
use Rattle.store_audit.proofs.Reporting.{is_report}
use Rattle.store_audit.proofs.judging.report_of.Goals as goal

-- the first changes lead where as many of all events lead
leads : {front : List Change} (first : State) (changes : List Change) (told : ℕ) (s : State)
    → front ≡ take told changes → state_after (events_of front) first ≡ Some s
    → LeadsTo first (events_of changes) told s
leads first changes told s is h =
    ap (λ (es : List Event). state_after es first)
    (take-map event_of told changes ∙ sym (ap events_of is))
    ∙ h

pub returns : goal.returns
returns c = λ since are.
    let first = first_in c.args.beginning in
    let changes = c.args.changes.now in
    let told = c.unwrap_or-told.result in
    let s = c.in_ok-lines.ensures.0 in
    is_report c.args.query.now c.args.reply since first (events_of changes)
    (record {
      lines = c.in_ok-lines.lines;
      found = c.args.found;
      earlier = c.earlier_in-earlier.result;
      told = told;
      events = length changes;
    })
    c.args.found c.args.earlier (length changes) s
    (leads first changes told s c.split_at.ensures.front c.in_ok-lines.ensures.1)
    c.in_ok-lines.ensures.2 refl
    (c.earlier_in-earlier.ensures
    ∙ ap (λ (lines : List StateLine). if has_right_rows lines then c.args.earlier else None)
    c.deref.ensures.value)
    c.unwrap_or-told.ensures (sym (length-map changes event_of)) refl are

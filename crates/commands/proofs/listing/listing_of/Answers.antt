use Rattle.std.proofs.Common.{◌≡◌, [], List, ℕ, ◌++◌, ap, length, rules, ◌∙◌}
use Rattle.journal.specs.Records.{file_of}
use Rattle.store_folder.specs.Journals.{IsFoundJournal}
use Rattle.store_folder.specs.Plain.{StandsAlone}
use Rattle.commands.specs.Listing.{head_line, summary_line}
use Rattle.store_folder.specs.declared.journals.FoundJournal.{FoundJournal}
use Rattle.commands.proofs.Listings.{plain_summed_up, read_so, summed_up}
use Rattle.commands.proofs.listing.listing_of.Goals as goal

pub returns-clause-ok : goal.returns-clause-ok
returns-clause-ok c =
    let found = c.in_ok-found-2.found in
    let j : IsFoundJournal c.args.file.now found =
    read_so (λ (j : FoundJournal). IsFoundJournal c.args.file.now j) c.read_journal.result
    c.map_err-2.result found _ c.map_err-2.ensures.cases c.in_ok-found-2.was
    c.read_journal.ensures.found in
    let events = c.in_ok-append_events-2.ensures in
    summed_up c.args.file.now found.head found.events.items found.len events.0
    c.append_head.new.out.items c.append_events-2.new.text.items j.is j.counted events.1
    (c.in_ok-append_head.ensures
    ∙ ap (λ (text : List ℕ). text ++ head_line found.head) c.new-text.ensures.items)
    events.2

pub returns-then-begins_plain-clause-ok : goal.returns-then-begins_plain-clause-ok
returns-then-begins_plain-clause-ok c =
    let found = c.in_ok-found.found in
    let file = c.args.file.now in
    let s : (stands : StandsAlone file found.events.items)
    × (found.len ≡ length (file_of stands.0.contents)) × (found.names ≡ stands.0.names) =
    read_so (λ (j : FoundJournal). (stands : StandsAlone file j.events.items)
    × (j.len ≡ length (file_of stands.0.contents)) × (j.names ≡ stands.0.names))
    c.read_plain.result c.map_err.result found _
    c.map_err.ensures.cases c.in_ok-found.was c.read_plain.ensures.found in
    let events = c.in_ok-append_events.ensures in
    let rest = events.0 ++ summary_line (length found.events.items) found.len (length file) in
    plain_summed_up file found.events.items found.len events.0 c.append_events.new.text.items s.0
    s.1 events.1 (events.2 ∙ ap (λ (text : List ℕ). text ++ rest) c.new-text.ensures.items)

use Rattle.std.proofs.Common.{◌≡◌, ◌++◌, ℕ, inl, ap, map, rules, subst, sym}
use Rattle.std.proofs.Common.{List, length, Some}
use Rattle.block.specs.Blocks.{Shown}
use Rattle.data_folder.specs.Folders.{HasFile}
use Rattle.data_folder.specs.JournalFile.{journal_name}
use Rattle.data_folder.proofs.Moments.{started}
use Rattle.head.specs.Blocks.{part_in}
use Rattle.head_record.specs.Spelling.{head_texts}
use Rattle.journal.specs.Group.{IsJournalText}
use Rattle.store_folder.specs.Plain.{HasEither}
use Rattle.store_folder.specs.StoreLaws.{whole_left}
use Rattle.store_folder.specs.Starting.{nothing_saved}
use Rattle.store_folder.proofs.Plains.{either_left, found_headed}
use Rattle.store_folder.proofs.headless.adopt.Goals as goal

pub returns-in-Ok-change_journal-clause-any_moment :
    goal.returns-in-Ok-change_journal-clause-any_moment
returns-in-Ok-change_journal-clause-any_moment g c =
    let f = g.F.Folder in
    let p = c.in-Ok.ensures.found in
    let all = head_texts nothing_saved ++ p.0.0.contents in
    either_left f.moment f.left_since c.args.folder.now c.change_journal.new.folder c.args.file.now
    c.deref.result.now c.in-Ok.plain.1.items c.plain_text.new.names c.requires.plain
    (record {
      stands = p.0;
      named = p.1;
      is = subst (IsJournalText all) (sym c.deref.ensures.value) p.2;
    })
    (c.change_journal.ensures.any_moment c.args.file.now c.requires.has)

pub returns-in-Err-change_journal-clause-any_moment :
    goal.returns-in-Err-change_journal-clause-any_moment
returns-in-Err-change_journal-clause-any_moment g c =
    let f = g.F.Folder in
    let p = c.in-Ok.ensures.found in
    let all = head_texts nothing_saved ++ p.0.0.contents in
    either_left f.moment f.left_since c.args.folder.now c.change_journal.new.folder c.args.file.now
    c.deref.result.now c.in-Ok.plain.1.items c.plain_text.new.names c.requires.plain
    (record {
      stands = p.0;
      named = p.1;
      is = subst (IsJournalText all) (sym c.deref.ensures.value) p.2;
    })
    (c.change_journal.ensures.any_moment c.args.file.now c.requires.has)

-- nothing was done
pub returns-in-Err-clause-any_moment : goal.returns-in-Err-clause-any_moment
returns-in-Err-clause-any_moment g c =
    let f = g.F.Folder in
    let file = c.args.file.now in
    started f.moment f.left_since c.args.folder.now (HasEither file)
    (λ left had. inl (whole_left file (left journal_name)
    (g.met.F.Folder.only_now c.args.folder.now journal_name (Some file) (length file) left
    c.requires.has.shown c.requires.has.durable had)))

pub returns-in-Ok-change_journal-clause-found : goal.returns-in-Ok-change_journal-clause-found
returns-in-Ok-change_journal-clause-found g c =
    let f = g.F.Folder in
    let text = c.in-Ok.plain.0.items in
    let p = c.in-Ok.ensures.found in
    let len : c.len.result ≡ length text = search rules in
    found_headed f.shows f.kept c.change_journal.new.folder c.in-Ok.plain.1
    c.plain_text.new.names c.len.result c.nothing.result
    (map part_in c.new.result.items) c.args.file.now text
    (subst (λ (bytes : List ℕ).
    HasFile f.shows f.kept journal_name bytes c.change_journal.new.folder) c.deref.ensures.value
    c.in-Ok-change_journal.ensures.changed)
    c.nothing.ensures len (record { stands = p.0; named = p.1; is = p.2 })
    c.in-Ok.ensures.saved (ap (λ (bs : List Shown). map part_in bs) c.new.ensures.items)

pub returns-in-Ok-change_journal-clause-events : goal.returns-in-Ok-change_journal-clause-events
returns-in-Ok-change_journal-clause-events g c = c.in-Ok.ensures.found.0

pub returns-in-Ok-change_journal-clause-admitted : goal.returns-in-Ok-change_journal-clause-admitted
returns-in-Ok-change_journal-clause-admitted g c = c.in-Ok.ensures.admitted

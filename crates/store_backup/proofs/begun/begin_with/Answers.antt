use Rattle.std.proofs.Common.{List, [], ap, length, refl, subst, sym}
use Rattle.event_journal.specs.Holding.{contents_with}
use Rattle.head.specs.Heads.{world_of}
use Rattle.head_record.specs.Saved.{Place, Saved}
use Rattle.head_record.specs.Spelling.{head_texts}
use Rattle.journal.specs.Group.{IsJournalText}
use Rattle.store_folder.proofs.HeadsAlone.{head_alone}
use Rattle.store_folder.proofs.Rolls.{blocks_rolled}
use Rattle.store_folder.proofs.Saves.{each_like}
use Rattle.store_folder.proofs.Says.{files_apart, says_on}
use Rattle.store_folder.specs.Holding.{AreAt}
use Rattle.store_folder.specs.Writing.{places_from}
use Rattle.store_backup.proofs.Targets.{begins_so, finds_so, next_of, only_written}
use Rattle.store_backup.proofs.begun.begin_with.Goals as goal

pub returns-in-Err-clause-begins : goal.returns-in-Err-clause-begins
returns-in-Err-clause-begins g c =
    let f = g.F.Folder in
    only_written f.shows f.kept f.sound f.moment f.left_since g.met.F.Folder.only_now
    (record { world = world_of c.args.snapshot.now; values = c.args.values }) c.args.folder
    c.write_saved.new.folder c.write_saved.ensures.stays

pub returns-in-Err-head_journal-clause-begins : goal.returns-in-Err-head_journal-clause-begins
returns-in-Err-head_journal-clause-begins g c =
    let f = g.F.Folder in
    only_written f.shows f.kept f.sound f.moment f.left_since g.met.F.Folder.only_now
    (record { world = world_of c.args.snapshot.now; values = c.args.values }) c.args.folder
    c.write_saved.new.folder c.write_saved.ensures.stays

pub returns-in-Ok-begin_journal-clause-finds : goal.returns-in-Ok-begin_journal-clause-finds
returns-in-Ok-begin_journal-clause-finds g c =
    let f = g.F.Folder in
    let met = g.met.F.Folder in
    let s = c.args.snapshot.now in
    let mid = c.write_saved.new.folder in
    let head = c.in-Ok.head in
    let there = c.in-Ok.ensures.there in
    let next =
    next_of f.shows f.kept f.sound f.moment f.left_since met.only_now met.earlier s c.args.values
    head (places_from 1 (length s.blocks)) there.0 mid c.in-Ok.ensures.saved
    c.in-Ok-head_journal.ensures.saved there.1 there.2 in
    finds_so f.shows f.kept f.sound f.moment f.left_since met.only_now met.earlier
    (record { world = world_of s; values = c.args.values }) mid c.in-Ok-begin_journal.begun head
    there.0 c.deref.result.now next
    (subst (IsJournalText (contents_with (head_texts head) [])) (sym c.deref.ensures.value)
    c.in-Ok-head_journal.ensures.text)
    c.in-Ok-begin_journal.ensures.keeps c.in-Ok-begin_journal.ensures.files

pub returns-in-Ok-begin_journal-clause-begins : goal.returns-in-Ok-begin_journal-clause-begins
returns-in-Ok-begin_journal-clause-begins g c =
    let f = g.F.Folder in
    let met = g.met.F.Folder in
    let s = c.args.snapshot.now in
    let mid = c.write_saved.new.folder in
    let head = c.in-Ok.head in
    let there = c.in-Ok.ensures.there in
    let next =
    next_of f.shows f.kept f.sound f.moment f.left_since met.only_now met.earlier s c.args.values
    head (places_from 1 (length s.blocks)) there.0 mid c.in-Ok.ensures.saved
    c.in-Ok-head_journal.ensures.saved there.1 there.2 in
    begins_so f.shows f.kept f.sound f.moment f.left_since met.only_now met.earlier
    (record { world = world_of s; values = c.args.values }) c.args.folder mid
    c.in-Ok-begin_journal.begun head there.0 c.deref.result.now c.write_saved.ensures.stays next
    (c.in-Ok.ensures.stands there.0 (each_like s.blocks there.0 there.1))
    (subst (IsJournalText (contents_with (head_texts head) [])) (sym c.deref.ensures.value)
    c.in-Ok-head_journal.ensures.text)
    c.in-Ok-begin_journal.ensures.any_moment c.in-Ok-begin_journal.ensures.others

pub returns-clause-begins : goal.returns-clause-begins
returns-clause-begins g c =
    let f = g.F.Folder in
    let met = g.met.F.Folder in
    let s = c.args.snapshot.now in
    let mid = c.write_saved.new.folder in
    let head = c.in-Ok.head in
    let there = c.in-Ok.ensures.there in
    let next =
    next_of f.shows f.kept f.sound f.moment f.left_since met.only_now met.earlier s c.args.values
    head (places_from 1 (length s.blocks)) there.0 mid c.in-Ok.ensures.saved
    c.in-Ok-head_journal.ensures.saved there.1 there.2 in
    begins_so f.shows f.kept f.sound f.moment f.left_since met.only_now met.earlier
    (record { world = world_of s; values = c.args.values }) c.args.folder mid
    c.in-Err-begin_journal.folder head there.0 c.deref.result.now c.write_saved.ensures.stays next
    (c.in-Ok.ensures.stands there.0 (each_like s.blocks there.0 there.1))
    (subst (IsJournalText (contents_with (head_texts head) [])) (sym c.deref.ensures.value)
    c.in-Ok-head_journal.ensures.text)
    c.in-Err-begin_journal.ensures.any_moment c.in-Err-begin_journal.ensures.others

-- what its head and its blocks say

pub returns-in-Ok-begin_journal-clause-says : goal.returns-in-Ok-begin_journal-clause-says
returns-in-Ok-begin_journal-clause-says g c =
    let f = g.F.Folder in
    let values = c.args.values in
    let s = c.args.snapshot.now in
    let head = c.in-Ok.head in
    let written = places_from 1 (length s.blocks) in
    let contents = contents_with (head_texts head) [] in
    let mid = c.write_saved.new.folder in
    let new = c.in-Ok-begin_journal.begun in
    let there = c.in-Ok.ensures.there in
    let keeps = c.in-Ok-begin_journal.ensures.keeps contents
    (subst (IsJournalText contents) (sym c.deref.ensures.value) c.in-Ok-head_journal.ensures.text) in
    record {
      saved = head;
      alone = head_alone f.shows f.kept f.sound head new _
          c.in-Ok-head_journal.ensures.saved keeps;
      means = ap (λ (h : Saved). h.values) c.in-Ok.ensures.saved;
      names = ap (λ (h : Saved). h.places) c.in-Ok.ensures.saved;
      says = says_on f.shows f.kept values written mid new
          (λ files among there. c.in-Ok-begin_journal.ensures.files files
          (files_apart written files among) there) c.in-Ok.ensures.says;
      parts = there.0;
      blocks = subst (λ (ps : List Place). AreAt f.shows f.kept ps there.0 new)
          (sym (ap (λ (h : Saved). h.places) c.in-Ok.ensures.saved))
          (blocks_rolled f.shows f.kept written there.0 mid new
          c.in-Ok-begin_journal.ensures.files there.2);
      stands = c.in-Ok.ensures.stands there.0 (each_like s.blocks there.0 there.1);
    }

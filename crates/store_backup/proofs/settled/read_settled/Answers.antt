use Rattle.std.proofs.Common.{drop, inl, length, map, refl, subst, List, ℕ, Option}
use Rattle.std.specs.Prelude.{Ok, Result, IfSome}
use Rattle.data_folder.specs.Folders.{HasFile}
use Rattle.data_folder.specs.JournalFile.{journal_name}
use Rattle.data_folder.proofs.Moments.{untouched_on}
use Rattle.head.specs.Blocks.{part_in}
use Rattle.store_folder.specs.Faults.{GivesStore}
use Rattle.store_folder.specs.Finding.{IsFoundStore}
use Rattle.store_folder.specs.declared.error.StartError.{StartError}
use Rattle.store_folder.specs.declared.reading.FoundStore.{FoundStore}
use Rattle.store_folder.proofs.Files.{file_stays}
use Rattle.store_backup.proofs.Sources.{begins_not, begins_with, is_that, lies_there, of_start}
use Rattle.store_backup.proofs.Sources.{still_lies}
use Rattle.store_backup.proofs.settled.read_settled.Goals as goal

abbrev found : Option FoundStore → Result (Option FoundStore) StartError
found o = Ok o

pub returns-then-not-starts_with-clause-refused : goal.returns-then-not-starts_with-clause-refused
returns-then-not-starts_with-clause-refused g c =
    let f = g.F.Folder in
    let first = c.in-Ok.first.items in
    let last = c.in-Ok-journal_of.last.items in
    inl (
      refl,
      record {
        first = first;
        last = last;
        before = file_stays f.shows f.kept journal_name first c.journal_of.new.folder
            c.read_store-read.new.folder c.read_store-read.ensures.untouched.all c.in-Ok.ensures.file;
        after = c.in-Ok-journal_of.ensures.file;
        differs = begins_not last first c.deref.result.now c.as_slice.result.now c.starts_with.result
            c.starts_with.ensures.value c.deref.ensures.value c.as_slice.ensures.value
            c.if-not-starts_with.true;
      },
    )

pub returns-in-Ok-Some-clause-read : goal.returns-in-Ok-Some-clause-read
returns-in-Ok-Some-clause-read g c =
    let f = g.F.Folder in
    let s = c.in-Ok-Some.store in
    let mid = c.journal_of.new.folder in
    let new = c.read_store-read.new.folder in
    record {
      store = lies_there f.shows f.kept s new
          (subst (λ (o : Option FoundStore). IfSome o (λ x.
          IsFoundStore f.shows f.kept x.journal (map part_in x.blocks.items) new))
          c.in-Ok-Some.field-0-is c.in-Ok-Some.ensures.found);
      only = λ tells head blocks late h.
          let there = still_lies f.shows f.kept head blocks late c.args.source.now mid
          c.journal_of.ensures.untouched.all h in
          is_that head blocks late s
          (subst (λ (o : Option FoundStore). GivesStore (f.failed new) head blocks late (found o))
          c.in-Ok-Some.field-0-is
          (c.in-Ok-Some.ensures.only tells there.file head blocks late there.has there.journal
          there.blocks));
    }

pub returns-in-Ok-Some-clause-settled : goal.returns-in-Ok-Some-clause-settled
returns-in-Ok-Some-clause-settled g c =
    let f = g.F.Folder in
    let first = c.in-Ok.first.items in
    let last = c.in-Ok-journal_of.last.items in
    record {
      first = first;
      rest = drop (length first) last;
      before = file_stays f.shows f.kept journal_name first c.journal_of.new.folder
          c.read_store-read.new.folder c.read_store-read.ensures.untouched.all c.in-Ok.ensures.file;
      after = subst (λ (bytes : List ℕ).
          HasFile f.shows f.kept journal_name bytes c.journal_of-2.new.folder)
          (begins_with last first c.deref.result.now c.as_slice.result.now c.starts_with.result
          c.starts_with.ensures.value c.deref.ensures.value c.as_slice.ensures.value
          c.if-not-starts_with.false) c.in-Ok-journal_of.ensures.file;
    }

pub returns-in-Ok-Some-clause-untouched : goal.returns-in-Ok-Some-clause-untouched
returns-in-Ok-Some-clause-untouched g c =
    let f = g.F.Folder in
    untouched_on f.shows f.kept f.moment f.left_since g.met.F.Folder.earlier c.args.source.now
    c.journal_of.new.folder c.read_store-read.new.folder c.journal_of.ensures.untouched
    c.read_store-read.ensures.untouched

pub returns-clause-told : goal.returns-clause-told
returns-clause-told g c =
    let f = g.F.Folder in
    of_start f.shows f.kept f.failed c.read_store-read.new.folder c.in-Err-read.error
    c.in-Err-read.ensures.refused

-- whatever was read of the other view

pub returns-in-Err-journal_of-clause-untouched : goal.returns-in-Err-journal_of-clause-untouched
returns-in-Err-journal_of-clause-untouched g c =
    let f = g.F.Folder in
    untouched_on f.shows f.kept f.moment f.left_since g.met.F.Folder.earlier c.args.source.now
    c.journal_of.new.folder c.read_store-read.new.folder c.journal_of.ensures.untouched
    c.read_store-read.ensures.untouched

pub returns-then-not-starts_with-clause-untouched :
    goal.returns-then-not-starts_with-clause-untouched
returns-then-not-starts_with-clause-untouched g c =
    let f = g.F.Folder in
    untouched_on f.shows f.kept f.moment f.left_since g.met.F.Folder.earlier c.args.source.now
    c.journal_of.new.folder c.read_store-read.new.folder c.journal_of.ensures.untouched
    c.read_store-read.ensures.untouched

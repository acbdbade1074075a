use Rattle.std.proofs.Common.{◌≡◌, ℕ, List, rules, subst, sym}
use Rattle.data_folder.specs.Folders.{HasFile}
use Rattle.data_folder.specs.JournalFile.{journal_name}
use Rattle.store_folder.specs.Journals.{IsJournalOf}
use Rattle.data_folder.proofs.Moments.{untouched_on}
use Rattle.store_folder.proofs.Files.{blocks_kept, file_stays}
use Rattle.store_folder.proofs.Told.{same_bytes}
use Rattle.store_folder.proofs.reading.read_store.Goals as goal

pub returns-in-Some-clause-none : goal.returns-in-Some-clause-none
returns-in-Some-clause-none g c e = absurd (c.with_found.ensures.some e)

pub returns-in-Some-clause-untouched : goal.returns-in-Some-clause-untouched
returns-in-Some-clause-untouched g c =
    let f = g.F.Folder in
    untouched_on f.shows f.kept f.moment f.left_since g.met.F.Folder.earlier c.args.folder.now
    c.read.new.self c.with_found.new.folder
    (record { all = c.read.ensures.all; time = c.read.ensures.time })
    c.with_found.ensures.untouched

pub returns-in-None-clause-untouched : goal.returns-in-None-clause-untouched
returns-in-None-clause-untouched g c =
    record { all = c.read.ensures.all; time = c.read.ensures.time }

pub returns-in-Err-clause-untouched : goal.returns-in-Err-clause-untouched
returns-in-Err-clause-untouched g c =
    record { all = c.read.ensures.all; time = c.read.ensures.time }

pub returns-in-Some-clause-only : goal.returns-in-Some-clause-only
returns-in-Some-clause-only g c tells file saved parts events has is at =
    let f = g.F.Folder in
    let old = c.args.folder.now in
    let read = c.read.new.self in
    let there : HasFile f.shows f.kept journal_name c.in-Some.file.items read = search rules in
    let same : c.in-Some.file.items ≡ file =
    same_bytes f.shows f.kept tells read journal_name c.in-Some.file.items file there
    (file_stays f.shows f.kept journal_name file old read c.read.ensures.all has) in
    c.with_found.ensures.only tells saved parts events
    (subst (λ (bytes : List ℕ). IsJournalOf bytes saved events) (sym same) is)
    (blocks_kept f.shows f.kept saved.places parts old read c.read.ensures.all at)

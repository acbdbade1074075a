use Rattle.data_folder.specs.Folders.{Left}
use Rattle.data_folder.specs.JournalFile.{journal_name, next_name}
use Rattle.data_folder.proofs.Moments.{both_kept, first_kept, nothing_changed}
use Rattle.data_folder.proofs.Rolls.{after_replace, after_write, resting, still_there}
use Rattle.data_folder.proofs.rolling.roll.Goals as goal

pub returns-then-journal-clause-any_moment : goal.returns-then-journal-clause-any_moment
returns-then-journal-clause-any_moment g c old new files h t apart there =
    let f = g.F.Folder in
    let j = c.args.journal.now in
    resting f.shows f.kept f.sound f.moment f.left_since g.met.F.Folder.only_now j.medium.folder old
    new files j.len h there

pub returns-in-Err-clause-files : goal.returns-in-Err-clause-files
returns-in-Err-clause-files g c files apart there =
    let f = g.F.Folder in
    still_there f.shows f.kept f.sound next_name next_name c.args.journal.now.medium.folder
    c.write.new.self files (λ file away. (away.1, away.1)) c.write.ensures.others apart there

pub returns-in-Err-clause-any_moment : goal.returns-in-Err-clause-any_moment
returns-in-Err-clause-any_moment g c old new files h t apart there =
    let f = g.F.Folder in
    let j = c.args.journal.now in
    after_write f.shows f.kept f.sound f.moment f.left_since g.met.F.Folder.only_now j.medium.folder
    c.write.new.self old new files j.len (λ (left : Left). Unit {0}) c.write.ensures.time h apart
    there

pub returns-in-Err-replace-clause-files : goal.returns-in-Err-replace-clause-files
returns-in-Err-replace-clause-files g c files apart there =
    let f = g.F.Folder in
    still_there f.shows f.kept f.sound next_name journal_name c.write.new.self c.replace.new.self
    files (λ file away. (away.1, away.0)) c.replace.ensures.others apart
    (still_there f.shows f.kept f.sound next_name next_name c.args.journal.now.medium.folder
    c.write.new.self files (λ file away. (away.1, away.1)) c.write.ensures.others apart there)

pub returns-in-Ok-replace-clause-files : goal.returns-in-Ok-replace-clause-files
returns-in-Ok-replace-clause-files g c files apart there =
    let f = g.F.Folder in
    still_there f.shows f.kept f.sound next_name journal_name c.write.new.self c.replace.new.self
    files (λ file away. (away.1, away.0)) c.replace.ensures.others apart
    (still_there f.shows f.kept f.sound next_name next_name c.args.journal.now.medium.folder
    c.write.new.self files (λ file away. (away.1, away.1)) c.write.ensures.others apart there)

pub returns-in-Err-replace-clause-any_moment : goal.returns-in-Err-replace-clause-any_moment
returns-in-Err-replace-clause-any_moment g c old new files h t apart there =
    let f = g.F.Folder in
    let j = c.args.journal.now in
    after_replace f.shows f.kept f.sound f.moment f.left_since g.met.F.Folder.only_now
    j.medium.folder c.write.new.self c.replace.new.self old new c.args.text.now files j.len
    (λ (left : Left). Unit {0}) c.write.ensures.time c.write.ensures.others c.write.ensures.sound
    c.in-Ok.ensures.written c.replace.ensures.time h t apart there

pub returns-in-Ok-replace-clause-any_moment : goal.returns-in-Ok-replace-clause-any_moment
returns-in-Ok-replace-clause-any_moment g c old new files h t apart there =
    let f = g.F.Folder in
    let j = c.args.journal.now in
    after_replace f.shows f.kept f.sound f.moment f.left_since g.met.F.Folder.only_now
    j.medium.folder c.write.new.self c.replace.new.self old new c.args.text.now files j.len
    (λ (left : Left). Unit {0}) c.write.ensures.time c.write.ensures.others c.write.ensures.sound
    c.in-Ok.ensures.written c.replace.ensures.time h t apart there

pub returns-then-journal-clause-others : goal.returns-then-journal-clause-others
returns-then-journal-clause-others g c =
    let f = g.F.Folder in
    nothing_changed f.shows f.kept next_name journal_name c.args.journal.now.medium.folder

pub returns-in-Err-clause-others : goal.returns-in-Err-clause-others
returns-in-Err-clause-others g c =
    let f = g.F.Folder in
    first_kept f.shows f.kept next_name journal_name c.args.journal.now.medium.folder
    c.write.new.self c.write.ensures.others

pub returns-in-Err-replace-clause-others : goal.returns-in-Err-replace-clause-others
returns-in-Err-replace-clause-others g c =
    let f = g.F.Folder in
    both_kept f.shows f.kept next_name journal_name c.args.journal.now.medium.folder
    c.write.new.self c.replace.new.self c.write.ensures.others c.replace.ensures.others

pub returns-in-Ok-replace-clause-others : goal.returns-in-Ok-replace-clause-others
returns-in-Ok-replace-clause-others g c =
    let f = g.F.Folder in
    both_kept f.shows f.kept next_name journal_name c.args.journal.now.medium.folder
    c.write.new.self c.replace.new.self c.write.ensures.others c.replace.ensures.others

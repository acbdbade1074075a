use Rattle.data_folder.specs.Folders.{Left}
use Rattle.data_folder.specs.JournalFile.{journal_name, next_name}
use Rattle.data_folder.proofs.Moments.{both_kept, first_kept}
use Rattle.data_folder.proofs.Rolls.{first_begun, first_written}
use Rattle.data_folder.proofs.rolling.begin.Goals as goal

pub returns-in-Err-clause-any_moment : goal.returns-in-Err-clause-any_moment
returns-in-Err-clause-any_moment g c new t =
    let f = g.F.Folder in
    first_written f.shows f.kept f.sound f.moment f.left_since g.met.F.Folder.only_now
    c.args.folder c.write.new.self new (λ (left : Left). Unit {0}) c.write.ensures.time
    c.requires.none.0 c.requires.none.1

pub returns-in-Err-replace-clause-any_moment : goal.returns-in-Err-replace-clause-any_moment
returns-in-Err-replace-clause-any_moment g c new t =
    let f = g.F.Folder in
    first_begun f.shows f.kept f.sound f.moment f.left_since g.met.F.Folder.only_now
    c.args.folder c.write.new.self c.replace.new.self new c.args.text.now
    (λ (left : Left). Unit {0}) c.write.ensures.time c.write.ensures.others
    c.in-Ok.ensures.written c.replace.ensures.time t c.requires.none.0 c.requires.none.1

pub returns-in-Ok-replace-clause-any_moment : goal.returns-in-Ok-replace-clause-any_moment
returns-in-Ok-replace-clause-any_moment g c new t =
    let f = g.F.Folder in
    first_begun f.shows f.kept f.sound f.moment f.left_since g.met.F.Folder.only_now
    c.args.folder c.write.new.self c.replace.new.self new c.args.text.now
    (λ (left : Left). Unit {0}) c.write.ensures.time c.write.ensures.others
    c.in-Ok.ensures.written c.replace.ensures.time t c.requires.none.0 c.requires.none.1

pub returns-in-Err-clause-others : goal.returns-in-Err-clause-others
returns-in-Err-clause-others g c =
    let f = g.F.Folder in
    first_kept f.shows f.kept next_name journal_name c.args.folder c.write.new.self
    c.write.ensures.others

pub returns-in-Err-replace-clause-others : goal.returns-in-Err-replace-clause-others
returns-in-Err-replace-clause-others g c =
    let f = g.F.Folder in
    both_kept f.shows f.kept next_name journal_name c.args.folder c.write.new.self
    c.replace.new.self c.write.ensures.others c.replace.ensures.others

pub returns-in-Ok-replace-clause-others : goal.returns-in-Ok-replace-clause-others
returns-in-Ok-replace-clause-others g c =
    let f = g.F.Folder in
    both_kept f.shows f.kept next_name journal_name c.args.folder c.write.new.self
    c.replace.new.self c.write.ensures.others c.replace.ensures.others

use Rattle.std.proofs.lemmas.Result.{IfErr-weaker}
use Rattle.std.proofs.Common.{None}
use Rattle.data_folder.specs.JournalFile.{journal_name}
use Rattle.data_folder.proofs.Moments.{untouched_on}
use Rattle.store_backup.proofs.Sources.{blocks_or_target, not_a_journal, on_ok}
use Rattle.store_backup.proofs.copying.check_target.Goals as goal

pub returns-in-Ok-None-clause-none : goal.returns-in-Ok-None-clause-none
returns-in-Ok-None-clause-none g c =
    let none = rw c.in-Ok-None.field-0-is at c.in-Ok-None.ensures.found in
    let same = c.check_blocks.ensures.untouched.all in
    on_ok c.check_blocks.result _
    (same.same journal_name None none.0, same.durable journal_name 0 none.1)

pub returns-in-Ok-None-clause-taken : goal.returns-in-Ok-None-clause-taken
returns-in-Ok-None-clause-taken g c =
    IfErr-weaker c.check_blocks.result _ _ (λ e h is. not_a_journal e h is)
    c.check_blocks.ensures.refused

pub returns-in-Ok-None-clause-listed : goal.returns-in-Ok-None-clause-listed
returns-in-Ok-None-clause-listed g c =
    let none = rw c.in-Ok-None.field-0-is at c.in-Ok-None.ensures.found in
    IfErr-weaker c.check_blocks.result _ _
    (λ e h is. (c.check_blocks.ensures.untouched.all.same journal_name None none.0, h is))
    c.check_blocks.ensures.listed

pub returns-in-Ok-None-clause-refused : goal.returns-in-Ok-None-clause-refused
returns-in-Ok-None-clause-refused g c =
    IfErr-weaker c.check_blocks.result _ _ (λ e h. blocks_or_target e h)
    c.check_blocks.ensures.refused

pub returns-in-Ok-None-clause-untouched : goal.returns-in-Ok-None-clause-untouched
returns-in-Ok-None-clause-untouched g c =
    let f = g.G.Folder in
    untouched_on f.shows f.kept f.moment f.left_since g.met.G.Folder.earlier c.args.target.now
    c.read.new.self c.check_blocks.new.target
    (record { all = c.read.ensures.all; time = c.read.ensures.time })
    c.check_blocks.ensures.untouched

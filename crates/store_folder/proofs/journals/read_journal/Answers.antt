use Rattle.std.proofs.Common.{◌++◌}
use Rattle.std.proofs.lemmas.Result.{IfErr-weaker}
use Rattle.head_record.specs.Spelling.{head_texts}
use Rattle.journal.specs.Contents.{contents_in}
use Rattle.store_folder.proofs.Contents.{contents_of, denies_journal, denies_records, journal_given}
use Rattle.store_folder.proofs.journals.read_journal.Goals as goal

pub returns-in-Ok-clause-found : goal.returns-in-Ok-clause-found
returns-in-Ok-clause-found c =
    journal_given c.args.file.now (contents_in c.in-Ok.recovered.contents.items)
    c.in-Ok.recovered.len c.of_recovered.result c.in-Ok.ensures.found c.in-Ok.ensures.len
    c.of_recovered.ensures.found c.of_recovered.ensures.len c.of_recovered.ensures.torn

pub returns-in-Ok-clause-only : goal.returns-in-Ok-clause-only
returns-in-Ok-clause-only c saved events h =
    c.of_recovered.ensures.only saved events h.stands.names
    (contents_of c.args.file.now (contents_in c.in-Ok.recovered.contents.items) saved events h
    (c.in-Ok.ensures.only (head_texts saved ++ h.stands.contents) h.stands.recovers))

pub returns-in-Err-clause-only : goal.returns-in-Err-clause-only
returns-in-Err-clause-only c saved events h =
    c.in-Err.ensures.only (head_texts saved ++ h.stands.contents) h.stands.recovers

pub returns-in-Ok-clause-refused : goal.returns-in-Ok-clause-refused
returns-in-Ok-clause-refused c =
    IfErr-weaker c.of_recovered.result _ _
    (λ e d. denies_journal c.args.file.now (contents_in c.in-Ok.recovered.contents.items) e
    c.in-Ok.ensures.found d) c.of_recovered.ensures.refused

pub returns-in-Err-clause-refused : goal.returns-in-Err-clause-refused
returns-in-Err-clause-refused c =
    let e = c.in-Err.ensures in
    denies_records c.args.file.now c.in-Err.error e.checksum e.length e.magic e.version e.reading

use Rattle.std.proofs.Common.{◌≡◌, ◌∙◌, ℕ, List, inr, subst, sym}
use Rattle.std.proofs.lemmas.Result.{IfOk-weaker, IfErr-weaker}
use Rattle.audit_command.specs.Reading.{AreFirstBytes, Host}
use Rattle.kept_folder.specs.Folders.{AreJournal, journal_path, most}
use Rattle.kept_folder.proofs.reading.read_kept.Goals as goal

-- what is read at the path of the journal is of the journal
of_path : (reads : Host) (folder path bytes held : List ℕ) → AreFirstBytes reads path most bytes
    → path ≡ journal_path folder → held ≡ bytes → AreJournal reads folder held
of_path reads folder path bytes held first is same =
    subst (AreFirstBytes reads (journal_path folder) most) (sym same)
    (subst (λ (p : List ℕ). AreFirstBytes reads p most bytes) is first)

pub returns-clause-ok : goal.returns-clause-ok
returns-clause-ok g c =
    let held = c.deref.result.now in
    let journal =
    of_path (g.F.ReadFiles.may_read c.args.files.now) c.args.folder.now c.as_str.result.now
    c.in_ok-bytes.bytes.items held c.in_ok-bytes.ensures.ok
    (c.as_str.ensures.value ∙ c.in_ok-path.ensures) c.deref.ensures.value in
    IfOk-weaker c.journal_of.result _ _
    (λ found kept. record { bytes = held; journal = journal; kept = kept }) c.journal_of.ensures.ok

pub returns-clause-err : goal.returns-clause-err
returns-clause-err g c =
    let held = c.deref.result.now in
    let journal =
    of_path (g.F.ReadFiles.may_read c.args.files.now) c.args.folder.now c.as_str.result.now
    c.in_ok-bytes.bytes.items held c.in_ok-bytes.ensures.ok
    (c.as_str.ensures.value ∙ c.in_ok-path.ensures) c.deref.ensures.value in
    IfErr-weaker c.journal_of.result _ _ (λ fault is. inr (held, journal, is))
    c.journal_of.ensures.err

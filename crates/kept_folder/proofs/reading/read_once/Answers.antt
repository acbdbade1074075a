use Rattle.std.proofs.Common.{ℕ, Bool, List, inr, subst}
use Rattle.std.specs.Prelude.{MatchBool}
use Rattle.audit_command.specs.Reading.{AreFirstBytes, Host}
use Rattle.kept_folder.specs.Folders.{AreJournal, HasChanged, IsFaultOf, IsStoreFault, StillBegins}
use Rattle.kept_folder.specs.Folders.{journal_path, most}
use Rattle.kept_folder.specs.declared.fault.StoreFault.{StoreFault}
use Rattle.kept_folder.specs.declared.fault.StoreFault.TheVariants.{Files, Refused, Changes}
use Rattle.kept_folder.proofs.reading.read_once.Goals as goal

of_journal : (reads : Host) (folder bytes : List ℕ) (fault : StoreFault)
    → AreJournal reads folder bytes → IsFaultOf reads folder bytes fault
    → StillBegins reads (journal_path folder) bytes → IsStoreFault reads folder fault
of_journal reads folder bytes (Files fault) journal of still =
    inr (record { bytes = bytes; journal = journal; of = of; still = still })
of_journal reads folder bytes (Refused e) journal of still =
    inr (record { bytes = bytes; journal = journal; of = of; still = still })
of_journal reads folder bytes Changes journal of still = absurd of

pub returns-clause-err : goal.returns-clause-err
returns-clause-err g c =
    let reads = g.F.ReadFiles.may_read c.args.files.now in
    let folder = c.args.folder.now in
    let path = c.args.path.now in
    let bytes = c.in_ok-bytes.bytes.items in
    let held = c.deref-2.result.now in
    let same =
    subst (λ (b : Bool). MatchBool b (StillBegins reads path held) (HasChanged reads path held))
    c.if-not-branch.false c.in_ok-still_begins.ensures in
    of_journal reads folder bytes c.in-Err.fault
    (subst (λ (p : List ℕ). AreFirstBytes reads p most bytes) c.requires.path c.in_ok-bytes.ensures.ok)
    (subst (λ (bs : List ℕ). IsFaultOf reads folder bs c.in-Err.fault) c.deref.ensures.value
    c.in-Err.ensures.err)
    (subst (λ (p : List ℕ). StillBegins reads p bytes) c.requires.path
    (subst (StillBegins reads path) c.deref-2.ensures.value same))

-- What is said over a store that was read says what is printed of it, and why nothing is.
use Rattle.std.proofs.Common.{◌≡◌, ℕ, List, Option, None, Result, Ok, Err, refl, sym, ap, subst, ◌∙◌, length, map, string_bytes}
use Rattle.std.specs.Prelude.{IfOk, IfErr}
use Rattle.std.proofs.lemmas.List.{length-map}
use Rattle.labels.specs.Parts.{Part}
use Rattle.matchers.specs.Views.{QueryView}
use Rattle.reply_reader.specs.declared.reply.Reply.{Reply}
use Rattle.auditor.specs.declared.judgement.BlockTable.TheVariants.{Walked}
use Rattle.audit_command.specs.declared.fault.Fault.TheVariants as faults
use Rattle.kept_folder.specs.declared.reading.FoundStore.{FoundStore}
use Rattle.kept_walk.specs.Kept.{Event, event_of}
use Rattle.kept_walk.specs.declared.journal_state.Change.{Change}
use Rattle.store_audit.specs.Reports.{IsJudgement}
use Rattle.store_audit.specs.declared.judging.StateReport.{StateReport}
use Rattle.store_audit.specs.declared.judging.StoreJudgement.{StoreJudgement}
use Rattle.store_audit.specs.declared.judging.StoreJudgement.TheVariants.{Told}
use Rattle.store_command.specs.Judging.{IsJudged, IsJudgingFault, IsReportOf, IsTextOf, IsToldBefore, Tells}
use Rattle.store_command.specs.Judging.{by_state, lost_mark, since_in}
use Rattle.store_command.specs.Marks.{first_of, since_of}
use Rattle.store_command.specs.Printing.{IsTold}
use Rattle.store_command.specs.declared.fault.Fault.{Fault}
use Rattle.store_command.specs.declared.fault.Fault.TheVariants.{Audit, NoMark, Journal, Head, Event as BadEvent, Changes, Rolled, Before}
use Rattle.store_command.specs.declared.mark.Mark.{Mark}
use Rattle.store_command.specs.declared.mark.Since.{Since}
use Rattle.store_command.specs.declared.report.Report.{Report}

-- as many changes as events
pub counted : (changes : List Change) (events : List Event) (n : ℕ) → map event_of changes ≡ events
    → n ≡ length changes → n ≡ length events
counted changes events n same is =
    is ∙ sym (length-map changes event_of) ∙ ap length same

-- from where on a state is sought is that of the mark
pub since_is : (mark : Option Mark) (found : FoundStore) (since : Since) (changes : List Change)
    → map event_of changes ≡ found.kept.events → since ≡ since_of mark found.head (length changes)
    → since ≡ since_in mark found
since_is mark found since changes same is =
    is
    ∙ ap (since_of mark found.head)
    (counted changes found.kept.events (length changes) same refl)

-- what is said from that place on is a report
pub judged_told : (query : QueryView) (reply : Reply) (found : FoundStore) (since : Since)
    (parts : List Part) (j : StoreJudgement) (said : StateReport) (place : ℕ)
    → place ≡ first_of since → j ≡ Told said → IsJudgement query reply place found.kept parts j
    → IsJudgement query reply (first_of since) found.kept parts (Told said)
judged_told query reply found since parts j said place at tells is =
    subst (λ (k : StoreJudgement). IsJudgement query reply (first_of since) found.kept parts k)
    tells (subst (λ (n : ℕ). IsJudgement query reply n found.kept parts j) at is)

module _ (query : QueryView) (reply : Reply) (mark : Option Mark) (found : FoundStore)
    (since : Since) (parts : List Part) (walked : found.tables.items ≡ map Walked parts)
    (same : since ≡ since_in mark found) where
  pub judged : (j : StoreJudgement)
      → IsJudgement query reply (first_of since) found.kept parts j
      → IsJudged query reply mark found j
  judged j is = record {
    parts = parts;
    walked = walked;
    is = subst (λ (s : Since). IsJudgement query reply (first_of s) found.kept parts j) same is;
  }

  pub told_report : (said : StateReport)
      → IsJudgement query reply (first_of since) found.kept parts (Told said)
      → (result : Result Report Fault) → Tells since found.head said result
      → IfOk result (IsReportOf query reply mark found)
  told_report said is (Ok report) t =
      by_state said (judged (Told said) is)
      (subst (λ (s : Since). lost_mark s said ≡ None) same t.0) t.1
      (subst (λ (s : Since). IsTold s found.head said report) same t.2)
  told_report said is (Err fault) t = tt

  pub told_fault : (said : StateReport)
      → IsJudgement query reply (first_of since) found.kept parts (Told said)
      → (result : Result Report Fault) → Tells since found.head said result
      → IfErr result (IsJudgingFault query reply mark found)
  told_fault said is (Ok report) t = tt
  told_fault said is (Err (Rolled text)) t = record {
    said = said;
    judged = judged (Told said) is;
    text_is =
        subst (λ (s : Since). IsTextOf (lost_mark s said) (string_bytes text)) same t;
  }
  told_fault said is (Err (Before earlier)) t = record {
    said = said;
    judged = judged (Told said) is;
    told = subst (λ (s : Since). IsToldBefore s found.head said earlier) same t;
  }
  told_fault said is (Err (Audit faults.Memory)) t = tt
  told_fault said is (Err (Audit (faults.Words error))) t = t
  told_fault said is (Err (Audit (faults.Refused refusal))) t = t
  told_fault said is (Err (Audit faults.CannotReadInput)) t = t
  told_fault said is (Err (Audit faults.BadReply)) t = t
  told_fault said is (Err (Audit (faults.CannotRead path))) t = t
  told_fault said is (Err (Audit faults.CannotWrite)) t = t
  told_fault said is (Err NoMark) t = t
  told_fault said is (Err (Journal error)) t = t
  told_fault said is (Err Head) t = absurd t
  told_fault said is (Err (BadEvent at)) t = absurd t
  told_fault said is (Err (Changes folder)) t = t

-- What is read says which page is shown, and why there is none.
use Rattle.std.proofs.Common.{◌≡◌, ℕ, List, [], ◌∷◌, Option, refl}
use Rattle.matchers.specs.Views.{QueryView}
use Rattle.auditor.specs.declared.judgement.BlockTable.{BlockTable}
use Rattle.auditor.specs.declared.judgement.Line.{Line}
use Rattle.audit_command.specs.Auditing.{IsAllOf, IsTextFault, IsReplyFault}
use Rattle.audit_command.proofs.Reading as audits
use Rattle.explain.specs.Showing.{AreJudged, AreLinesOf, IsAuditFault}
use Rattle.explain.specs.declared.fault.Fault.{Fault}
use Rattle.explain.specs.declared.fault.Fault.TheVariants.{Audit, NoSeries, NoMeaning, Beside, Store}

-- the lines of what is known of some block
pub judged : (tables : List BlockTable) (query : QueryView) (text : List ℕ) (lines : List Line)
    → (tables ≡ [] → ⊥) → AreJudged tables query text lines → AreLinesOf tables query text lines
judged [] query text lines some are = absurd (some refl)
judged (table ∷ tables) query text lines some are = are

-- and of none
pub not_judged : (tables : List BlockTable) (query : QueryView) (text : List ℕ) (lines : List Line)
    → tables ≡ [] → lines ≡ [] → AreLinesOf tables query text lines
not_judged [] query text lines none are = are
not_judged (table ∷ tables) query text lines none are = let no : (table ∷ tables) ≡ [] = none in cc

-- why a text that was read gives no reply
pub no_reply : (input : Option (List ℕ)) (text : List ℕ) → IsAllOf input text → (fault : Fault)
    → IsAuditFault (IsTextFault text) fault → IsAuditFault (IsReplyFault input) fault
no_reply input text all (Audit fault) h = audits.no_reply input text all fault h
no_reply input text all NoSeries h = h
no_reply input text all NoMeaning h = h
no_reply input text all Beside h = h
no_reply input text all (Store fault) h = h

use Rattle.std.proofs.Common.{◌≡◌, Vec, Global, [], ◌∷◌, refl, sym, subst}
use Rattle.labels.specs.Rows.{Row, AreRows}
use Rattle.auditor.specs.declared.flaw.Flaw.{Flaw}
use Rattle.auditor.specs.Auditing.{selected_content}
use Rattle.auditor.specs.Listing.{last_listed, IsUnmerged}
use Rattle.whole_audit.proofs.Merged.{one_listed}
use Rattle.whole_audit.proofs.selection.are_selected.Goals as goal
use Rattle.whole_audit.proofs.selection.are_selected.Goals.{After-listing-selected}

listed_is : (c : After-listing-selected) → last_listed (c.listing-selected.result ∷ [])
    ≡ selected_content c.args.series.now c.args.looks.now
listed_is c =
    one_listed c.args.series.now c.args.looks.now c.listing-selected.result
    (subst (λ (v : Vec Row Global).
    AreRows v.items (selected_content c.args.series.now c.args.looks.now))
    (sym c.listing-selected.ensures) c.in_ok-selected_rows.ensures)

pub returns-in-Ok : goal.returns-in-Ok
returns-in-Ok c = (
  λ h. subst (AreRows c.args.rows.now)
      (listed_is (goal.at.returns-in-Ok c).After-listing-selected) c.in-Ok.ensures.merged,
  λ are. refl,
)

pub returns-in-Err-WrongMerge : goal.returns-in-Err-WrongMerge
returns-in-Err-WrongMerge c =
    let unmerged = subst (λ (f : Flaw).
    IsUnmerged (c.listing-selected.result ∷ []) c.args.rows.now f)
    c.in-Err-WrongMerge.field-0-is c.in-Err-WrongMerge.ensures.unmerged in (
      λ h. cc,
      λ are. absurd (unmerged.1 (subst (AreRows c.args.rows.now)
          (sym (listed_is (goal.at.returns-in-Err-WrongMerge c).After-listing-selected)) are)),
    )

-- Calls of a keeper.
use Rattle.std.proofs.Common.{◌≡◌, Result, Err, sym, ap, ◌∙◌}
use Rattle.journal.specs.declared.error.JournalError.{JournalError}
use Rattle.journal.specs.declared.error.JournalError.TheVariants as journal
use Rattle.journal.specs.Outcome.{IsOfKeeping}
use Rattle.keeper.specs.declared.error.KeepError.{KeepError}
use Rattle.keeper.specs.declared.error.KeepError.TheVariants.{Closed, Failed, TooLong}
use Rattle.keeper.specs.Errors.{keep_error}
use Rattle.keeper.proofs.Texts.{only_closed, only_medium, only_size}

abbrev refused : {X : Type 0} → JournalError → Result X JournalError
refused e = Err e

abbrev failed : {X : Type 0} → KeepError → Result X KeepError
failed k = Err k

-- it says so where its journal does
pub told_closed : {X Y A : Type 0} (e : JournalError) (k : KeepError) → k ≡ keep_error e
    → failed {X = Y} k ≡ Err Closed → (refused {X = X} e ≡ Err journal.Closed → A) → A
told_closed {X} {Y} e k is told then =
    let same : k ≡ Closed = cc in
    then (ap (λ (x : JournalError). refused {X = X} x) (only_closed e (sym is ∙ same)))

-- it says that there is no room where its journal does
pub told_full : {X Y A : Type 0} (e : JournalError) (k : KeepError) → k ≡ keep_error e
    → failed {X = Y} k ≡ Err TooLong → (refused {X = X} e ≡ Err journal.Size → A) → A
told_full {X} {Y} e k is told then =
    let same : k ≡ TooLong = cc in
    then (ap (λ (x : JournalError). refused {X = X} x) (only_size e (sym is ∙ same)))

-- it says that it could not write where its journal does
pub told_failed : {X Y A : Type 0} (e : JournalError) (k : KeepError) → k ≡ keep_error e
    → IsOfKeeping {X = X} (Err e) → failed {X = Y} k ≡ Err Failed
    → (refused {X = X} e ≡ Err journal.Medium → A) → A
told_failed {X} {Y} e k is other told then =
    let same : k ≡ Failed = cc in
    then (ap (λ (x : JournalError). refused {X = X} x) (only_medium X e other (sym is ∙ same)))

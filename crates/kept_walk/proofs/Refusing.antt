-- A file whose records are refused.
use Rattle.std.proofs.Common.{◌≡◌, ◌↔◌, ℕ, List, length, Result, Err, sym, subst}
use Rattle.std.specs.Prelude.{IsErrOf}
use Rattle.journal.specs.Outcome.{IsOfReading}
use Rattle.journal.specs.Records.{file_of, header, magic, Splits}
use Rattle.journal.specs.Records.{Begins, BeginsOtherwise, HasBadLength, IsDamaged}
use Rattle.journal.specs.declared.error.JournalError.{JournalError}
use Rattle.journal.specs.declared.error.JournalError.TheVariants as records
use Rattle.kept_walk.specs.Kept.{Store}
use Rattle.kept_walk.specs.Refusals.{Denies, GivesStore, of_records}

abbrev refusal : {X : Type 0} → JournalError → Result X JournalError
refusal e = Err e

-- memory ran out
pub none_left : (store : Store) (e : JournalError) → e ≡ records.Memory
    → GivesStore store (Err (of_records e))
none_left store e is =
    subst (λ (f : JournalError). GivesStore store (Err (of_records f))) (sym is) tt

-- damage that is told with its place
abbrev pub IsAt : (List ℕ → Type 0) → List ℕ → ℕ → Type 0
IsAt P file at =
    (contents : List (List ℕ)) × Splits P file contents × (at ≡ length (file_of contents))

pub by_records : {X : Type 0} (file : List ℕ) (result : Result X JournalError) (e : JournalError)
    → result ≡ Err e
    → ((at : ℕ) → IsErrOf result (records.Checksum at) → IsAt IsDamaged file at)
    → ((at : ℕ) → IsErrOf result (records.Length at) → IsAt HasBadLength file at)
    → (IsErrOf result records.Magic ↔ BeginsOtherwise magic file)
    → (IsErrOf result records.Version ↔ (BeginsOtherwise header file × Begins magic file))
    → IsOfReading result → Denies file (of_records e)
by_records file result records.Memory is sums lengths first second reading = tt
by_records file result records.Magic is sums lengths first second reading = first.0 is
by_records file result records.Version is sums lengths first second reading = second.0 is
by_records file result (records.Checksum at) is sums lengths first second reading = sums at is
by_records file result (records.Length at) is sums lengths first second reading = lengths at is
by_records file result records.Size is sums lengths first second reading =
    subst IsOfReading is reading
by_records file result records.Medium is sums lengths first second reading =
    subst IsOfReading is reading
by_records file result records.Closed is sums lengths first second reading =
    subst IsOfReading is reading

-- What a text is refused for.
use Rattle.std.specs.Prelude.{◌≡◌, ◌⊎◌, ℕ, ◌+◌, Bool, true, false, List, [], ◌∷◌, ◌++◌, length}
use Rattle.std.specs.Prelude.{Option, Some, Result}
use Rattle.wire.specs.Outcome as outcome
use Rattle.open_metrics.specs.declared.comments.Format.{Format}
use Rattle.open_metrics.specs.declared.comments.Format.TheVariants.{OpenMetrics, Prometheus}
use Rattle.exposition.specs.declared.error.Cause.{Cause}
use Rattle.exposition.specs.declared.error.Cause.TheVariants.{End}
use Rattle.exposition.specs.declared.error.ReadError.{ReadError}
use Rattle.exposition.specs.declared.error.ReadError.TheVariants.{Memory, Refused}
use Rattle.exposition.specs.declared.error.Refusal.{Refusal}
use Rattle.exposition.specs.declared.text.Reading.{Reading}
use Rattle.exposition.specs.Faults.{line_fault}
use Rattle.exposition.specs.Reading.{Said, AddAll, IsCutInto, eof, lines_in, unsaid}

-- whether an error says nothing of the text
abbrev pub is_memory : ReadError → Bool
is_memory Memory = true
is_memory (Refused r) = false

-- what a function returned, seen by view, is what reading gives, unless memory ran out
abbrev pub Gives : {X Y : Type 0} → (X → Y) → Result X ReadError → Result Y ReadError → Type 0
Gives view result read = outcome.Gives is_memory view result read

-- what must hold of a refusal
abbrev pub IfRefused : ReadError → (Refusal → Type 0) → Type 0
IfRefused Memory P = Unit {0}
IfRefused (Refused r) P = P r

-- a refusal of the line with this number, for its fault
abbrev pub IsFor : ℕ → Option (ℕ × Cause) → Refusal → Type 0
IsFor number fault r = (r.line ≡ number) × (fault ≡ Some (r.column, r.cause))

-- the first line that is wrong: those before it say something, and it has the fault
pub record IsFirstWrong (format : Format) (places : ℕ) (reading : Reading)
    (lines : List (List ℕ)) (r : Refusal) : Type 0 where
  pub before : List (List ℕ)
  pub line : List ℕ
  pub after : List (List ℕ)
  pub parts : lines ≡ before ++ line ∷ after
  pub said : Said
  pub says : AddAll format places reading 1 before unsaid said
  pub wrong : IsFor (length before + 1) (line_fault format places line) r

-- the lines without an empty one at their end
abbrev pub AreBefore : List (List ℕ) → List (List ℕ) → Type 0
AreBefore all front =
    ((rest : List (List ℕ)) → front ≡ rest ++ [] ∷ [] → ⊥) × (front ≡ all)
    ⊎ (all ≡ front ++ [] ∷ [])

-- the last of lines is not `# EOF`; this is told of the line after them
pub record IsEndless (front : List (List ℕ)) (r : Refusal) : Type 0 where
  pub no_end : (rest : List (List ℕ)) → front ≡ rest ++ eof ∷ [] → ⊥
  pub line : r.line ≡ length front + 1
  pub column : r.column ≡ 1
  pub cause : r.cause ≡ End

-- a text of OpenMetrics whose last line is not `# EOF`
abbrev pub MissesEnd : Format → List (List ℕ) → Refusal → Type 0
MissesEnd OpenMetrics all r = (front : List (List ℕ)) × AreBefore all front × IsEndless front r
MissesEnd Prometheus all r = ⊥

-- lines before the end, one of which is wrong
abbrev pub HasWrong : Format → ℕ → Reading → List (List ℕ) → Refusal → Type 0
HasWrong format places reading all r = (lines : List (List ℕ)) × IsCutInto format all lines
    × IsFirstWrong format places reading lines r

-- a text is refused: its end is missing, or else its first line that is wrong is told
abbrev pub IsRefused : Format → ℕ → Reading → List ℕ → Refusal → Type 0
IsRefused format places reading text r =
    MissesEnd format (lines_in text) r ⊎ HasWrong format places reading (lines_in text) r

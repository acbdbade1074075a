-- If no flaw can be told, memory ran out.
use Rattle.std.proofs.Common.{◌≡◌, refl}
use Rattle.auditor.specs.declared.flaw.Flaw.{Flaw}
use Rattle.auditor.specs.declared.flaw.Flaw.TheVariants.{NotAPartition, NotMatching, NotRejected}
use Rattle.auditor.specs.declared.flaw.Flaw.TheVariants.{SeparatorCount, SeparatorsFit, WrongRows}
use Rattle.auditor.specs.declared.flaw.Flaw.TheVariants.{UnknownMatcher, NotSilent, Hidden}
use Rattle.auditor.specs.declared.flaw.Flaw.TheVariants.{WrongMerge, Memory}
use Rattle.auditor.specs.Errors.{OrMemory}

module _ (cause : Flaw → Type 0) where
  pub memory_alone : ((flaw : Flaw) → cause flaw → ⊥) → (flaw : Flaw) → OrMemory cause flaw
      → flaw ≡ Memory
  memory_alone none NotAPartition h = absurd (none NotAPartition h)
  memory_alone none NotMatching h = absurd (none NotMatching h)
  memory_alone none (NotRejected matcher) h = absurd (none (NotRejected matcher) h)
  memory_alone none SeparatorCount h = absurd (none SeparatorCount h)
  memory_alone none (SeparatorsFit at) h = absurd (none (SeparatorsFit at) h)
  memory_alone none WrongRows h = absurd (none WrongRows h)
  memory_alone none UnknownMatcher h = absurd (none UnknownMatcher h)
  memory_alone none NotSilent h = absurd (none NotSilent h)
  memory_alone none Hidden h = absurd (none Hidden h)
  memory_alone none WrongMerge h = absurd (none WrongMerge h)
  memory_alone none Memory h = refl
